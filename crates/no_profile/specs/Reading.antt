-- What a text is read as (docs/FORMATS.md, "Profiles"), over the value that `serde_json` reads.
use Rattle.std.specs.Prelude.{◌≡◌, ℕ, ◌==◌, ◌<◌, ◌≤◌, Bool, true, false, not, ◌&&◌, if◌then◌else◌, nat_le, List, [], ◌∷◌, fold, length, bytes_eq, codes, Option, Some, None, is_some, option_and_then, option_map, unwrap_or, Result, Ok, Err, IsUtf8}
use Rattle.std.specs.Cmp.Lexicographic.{slice_cmp}
use Rattle.std.specs.Ordering.{is_gt, match_ordering, nat_cmp}
use Rattle.serde_json.specs.Data.{Data, object, Items, no_items, item, Members, no_members, member}
use Rattle.serde_json.specs.Events.{members_len}
use Rattle.serde_json.specs.Find.{as_array, as_number, as_object, as_str, as_u64, get}
use Rattle.serde_json.specs.Read.{read}
use Rattle.no_ir.specs.Naming.{is_known}
use Rattle.no_names.specs.Spelled.{name_by}
use Rattle.no_profile.specs.Ranges.{MOST_PAGES, MOST_STEPS}
use Rattle.no_profile.specs.declared.profile.Line.{Line}
use Rattle.no_profile.specs.declared.profile.Profile.{Profile}
use Rattle.no_profile.specs.declared.fault.ProfileError.{ProfileError}
use Rattle.no_profile.specs.declared.fault.ProfileError.TheVariants as error
use Rattle.no_profile.specs.declared.fault.ProfileFault.{ProfileFault}
use Rattle.no_profile.specs.declared.fault.ProfileFault.TheVariants as fault

-- the number of a fault
abbrev pub fault_number : ProfileFault → ℕ
fault_number fault.NotJson = 1
fault_number (fault.Member name) = 2
fault_number (fault.Version n) = 3
fault_number fault.TooLong = 4

-- ---- numbers, names and lines

-- a whole number from 0 to 2 ^ 64 - 1; one with a point, an exponent or a minus sign is none
abbrev pub whole_in : Data → Option ℕ
whole_in d = option_and_then as_u64 (as_number d)

-- a number that is not above the greatest
abbrev pub up_to : ℕ → ℕ → Option ℕ
up_to most n = if nat_le n most then Some n else None

-- the member of a name, where it is a whole number that is not above the greatest
abbrev pub number_at : ℕ → List ℕ → Data → Option ℕ
number_at most name d = option_and_then (up_to most) (option_and_then whole_in (get name d))

-- the name of which the member `name` is the one spelling
abbrev pub name_at : Data → Option (List ℕ)
name_at d = option_and_then name_by (option_and_then as_str (get (codes "name") d))

-- a line, where all its members were found
abbrev pub line_with : Option ℕ → Option (List ℕ) → Option ℕ → Option ℕ → Option Line
line_with (Some calls) (Some name) (Some pages) (Some steps) = Some (record { name = name; calls = calls; steps = steps; pages = pages })
line_with _ _ _ _ = None

-- how many members an object has; 0 for what is no object
abbrev pub size : Data → ℕ
size d = unwrap_or (option_map members_len (as_object d)) 0

-- the line that an object is, which has a line's four members and no other
abbrev pub line_in : Data → Option Line
line_in d =
    if size d == 4 then line_with (number_at MOST_STEPS (codes "calls") d) (name_at d) (number_at MOST_PAGES (codes "pages") d) (number_at MOST_STEPS (codes "steps") d)
    else None

-- the lines that items are, where each is one
abbrev pub lines_of : Items → Option (List Line)
lines_of no_items = Some []
lines_of (item d items) = option_and_then (λ l. option_map (λ lines. l ∷ lines) (lines_of items)) (line_in d)

-- ---- the members of a profile

-- the lines in the member `functions`
abbrev pub functions_in : Data → Option (List Line)
functions_in d = option_and_then lines_of (option_and_then as_array (get (codes "functions") d))

-- the number in the member `steps`
abbrev pub steps_in : Data → Option ℕ
steps_in = number_at MOST_STEPS (codes "steps")

-- the number in the member `version`; 0 where it is missing or no whole number
abbrev pub version_in : Data → ℕ
version_in d = unwrap_or (option_and_then whole_in (get (codes "version") d)) 0

-- whether the member of a name is wrong, that is missing, of another form, or unknown; it is told of `functions` and `steps`
-- whether they were found, and `version` is right
abbrev pub is_wrong : Bool → Bool → List ℕ → Bool
is_wrong functions steps name =
    if bytes_eq name (codes "functions") then not functions
    else (if bytes_eq name (codes "steps") then not steps
    else not (bytes_eq name (codes "version")))

-- of two names the one that comes first in the order of bytes
abbrev pub earlier : Option (List ℕ) → List ℕ → List ℕ
earlier None name = name
earlier (Some found) name = match_ordering (slice_cmp nat_cmp name found) name found found

-- the first name so far, with one name more that counts where it is wrong
abbrev pub with_name : (List ℕ → Bool) → Option (List ℕ) → List ℕ → Option (List ℕ)
with_name wrong found name = if wrong name then Some (earlier found name) else found

-- the names of members
abbrev pub names_of : Members → List (List ℕ)
names_of no_members = []
names_of (member name d members) = name ∷ names_of members

-- the names that have to be there, and those that are there
abbrev pub names_asked : Members → List (List ℕ)
names_asked members = codes "functions" ∷ codes "steps" ∷ names_of members

-- of these names the first in the order of bytes that is wrong
abbrev pub first_wrong : Bool → Bool → Members → Option (List ℕ)
first_wrong functions steps members = fold (with_name (is_wrong functions steps)) None (names_asked members)

-- whether a name is one of these, and its member is wrong
abbrev pub is_amiss : Members → List ℕ → Bool
is_amiss members name = is_known (names_asked members) name && is_wrong (is_some (functions_in (object members))) (is_some (steps_in (object members))) name

-- a name is amiss, and it does not come behind another one that is, in the order of bytes
pub record IsFirstAmiss (members : Members) (name : List ℕ) : Type 0 where
  pub is : is_amiss members name ≡ true
  pub first : (other : List ℕ) → is_amiss members other ≡ true → is_gt (slice_cmp nat_cmp name other) ≡ false

-- ---- the whole

-- the greatest length of a text, in bytes
abbrev pub MOST_BYTES : ℕ
MOST_BYTES = 1048576

-- the profile where no name is wrong: then its lines and its steps were found
abbrev pub unless_wrong : Option (List ℕ) → Option (List Line) → Option ℕ → Result Profile ProfileFault
unless_wrong (Some name) lines steps = Err (fault.Member name)
unless_wrong None lines steps = Ok (record { steps = unwrap_or steps 0; lines = unwrap_or lines [] })

-- what an object of version 1 is as a profile
abbrev pub judged_members : Option (List Line) → Option ℕ → Members → Result Profile ProfileFault
judged_members lines steps members = unless_wrong (first_wrong (is_some lines) (is_some steps) members) lines steps

-- what an object is as a profile; its version is judged first
abbrev pub judged : Members → Result Profile ProfileFault
judged members =
    if version_in (object members) == 1 then judged_members (functions_in (object members)) (steps_in (object members)) members
    else Err (fault.Version (version_in (object members)))

-- a text is the object of these members
abbrev pub IsObject : List ℕ → Members → Type 0
IsObject text members = IsUtf8 text × (read text ≡ Some (object members))

-- when a text is refused for a fault
abbrev pub IsRefused : List ℕ → ProfileFault → Type 0
IsRefused text fault.TooLong = MOST_BYTES < length text
IsRefused text fault.NotJson = (length text ≤ MOST_BYTES) × ((members : Members) → IsObject text members → ⊥)
IsRefused text f = (length text ≤ MOST_BYTES) × (members : Members) × IsObject text members × (judged members ≡ Err f)

-- what reading a text answers, by cases on the answer
abbrev pub Reads : List ℕ → Result Profile ProfileError → Type 0
Reads text (Ok p) = (length text ≤ MOST_BYTES) × (members : Members) × IsObject text members × (judged members ≡ Ok p)
Reads text (Err (error.Fault f)) = IsRefused text f
Reads text (Err error.NoMemory) = Unit {0}

-- where the name of a member is told, it is the first that is amiss in the object
abbrev pub TellsFirst : List ℕ → Result Profile ProfileError → Type 0
TellsFirst text (Err (error.Fault (fault.Member name))) = (members : Members) × IsObject text members × IsFirstAmiss members name
TellsFirst text _ = Unit {0}
