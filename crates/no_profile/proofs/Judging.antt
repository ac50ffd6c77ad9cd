-- What reading judges of an object.
use Rattle.std.proofs.Common.{◌≡◌, ℕ, ◌≤◌, ◌==◌, Bool, true, false, List, [], ◌∷◌, Option, Some, None, option_map, option_and_then, is_some, unwrap_or, if◌then◌else◌, Result, Ok, Err, IfOk, codes, nat_le, refl, sym, ap, ◌∙◌, subst, arith}
use Rattle.std.specs.Option.{IfSome}
use Rattle.std.proofs.lemmas.Bool.{leb-true}
use Rattle.serde_json.specs.Data.{Data, object, Items, no_items, item, Members}
use Rattle.serde_json.specs.Find.{as_array, as_object, get}
use Rattle.no_profile.specs.Ranges.{AreInRange, IsInRange, IsRanged, MOST_PAGES, MOST_STEPS}
use Rattle.no_profile.specs.Reading.{first_wrong, functions_in, judged, judged_members, line_in, line_with, lines_of, name_at, number_at, size, steps_in, unless_wrong, up_to, version_in, whole_in}
use Rattle.no_profile.specs.Told.{Told}
use Rattle.no_profile.specs.declared.profile.Line.{Line}
use Rattle.no_profile.specs.declared.profile.Profile.{Profile}
use Rattle.no_profile.specs.declared.fault.ProfileError.{ProfileError}
use Rattle.no_profile.specs.declared.fault.ProfileFault.{ProfileFault}
use Rattle.no_profile.specs.declared.fault.ProfileFault.TheVariants as fault

-- an object of version 1 is what its other members are
judged_is : (members : Members) (d : Data) (n : ℕ) (lines : Option (List Line)) (steps : Option ℕ) (wrong : Option (List ℕ)) (a b : Bool) → d ≡ object members → n ≡ version_in d → n ≡ 1 → lines ≡ functions_in d
    → steps ≡ steps_in d → a ≡ is_some lines → b ≡ is_some steps → wrong ≡ option_and_then (first_wrong a b) (as_object d) → unless_wrong wrong lines steps ≡ judged members
judged_is members d n lines steps wrong a b ed en one el es ea eb ew =
    let version : 1 ≡ version_in (object members) = sym one ∙ en ∙ ap version_in ed in
    let first : wrong ≡ first_wrong (is_some lines) (is_some steps) members =
    ew ∙ ap (λ (x : Data). option_and_then (first_wrong a b) (as_object x)) ed ∙ ap (λ (x : Bool). first_wrong x b members) ea ∙ ap (λ (x : Bool). first_wrong (is_some lines) x members) eb in
    ap (λ (w : Option (List ℕ)). unless_wrong w lines steps) first
    ∙ ap (λ (x : Option (List Line)). judged_members x steps members) (el ∙ ap functions_in ed)
    ∙ ap (λ (x : Option ℕ). judged_members (functions_in (object members)) x members) (es ∙ ap steps_in ed)
    ∙ ap (λ (v : ℕ). if v == 1 then judged_members (functions_in (object members)) (steps_in (object members)) members else Err (fault.Version v)) version

pub judged_told : (members : Members) (d : Data) (n : ℕ) (lines : Option (List Line)) (steps : Option ℕ) (wrong : Option (List ℕ)) (a b : Bool) (r : Result Profile ProfileError) → n ≡ version_in d → n ≡ 1 → lines ≡ functions_in d
    → steps ≡ steps_in d → a ≡ is_some lines → b ≡ is_some steps → wrong ≡ option_and_then (first_wrong a b) (as_object d) → Told (unless_wrong wrong lines steps) r → d ≡ object members → Told (judged members) r
judged_told members d n lines steps wrong a b r en one el es ea eb ew t ed = subst (λ (is : Result Profile ProfileFault). Told is r) (judged_is members d n lines steps wrong a b ed en one el es ea eb ew) t

-- ---- numbers in their ranges

up_ranged : (most : ℕ) (o : Option ℕ) → IfSome (option_and_then (up_to most) o) (λ n. n ≤ most)
up_ranged most None = tt
up_ranged most (Some n) = by (nat_le n most) refl
  where
    by : (b : Bool) → nat_le n most ≡ b → IfSome (if b then Some n else None) (λ n. n ≤ most)
    by true e = leb-true n most e
    by false e = tt

line_ranged : (calls : Option ℕ) (name : Option (List ℕ)) (pages steps : Option ℕ) → IfSome calls (λ n. n ≤ MOST_STEPS) → IfSome pages (λ n. n ≤ MOST_PAGES) → IfSome steps (λ n. n ≤ MOST_STEPS)
    → IfSome (line_with calls name pages steps) IsInRange
line_ranged (Some c) (Some n) (Some p) (Some s) hc hp hs = record { calls = hc; steps = hs; pages = hp }
line_ranged _ _ _ _ hc hp hs = tt

line_in_ranged : (d : Data) → IfSome (line_in d) IsInRange
line_in_ranged d = by (size d == 4)
  where
    found : IfSome (line_with (number_at MOST_STEPS (codes "calls") d) (name_at d) (number_at MOST_PAGES (codes "pages") d) (number_at MOST_STEPS (codes "steps") d)) IsInRange
    found =
        line_ranged (number_at MOST_STEPS (codes "calls") d) (name_at d) (number_at MOST_PAGES (codes "pages") d) (number_at MOST_STEPS (codes "steps") d)
        (up_ranged MOST_STEPS (option_and_then whole_in (get (codes "calls") d))) (up_ranged MOST_PAGES (option_and_then whole_in (get (codes "pages") d)))
        (up_ranged MOST_STEPS (option_and_then whole_in (get (codes "steps") d)))

    by : (b : Bool) → IfSome (if b then line_with (number_at MOST_STEPS (codes "calls") d) (name_at d) (number_at MOST_PAGES (codes "pages") d) (number_at MOST_STEPS (codes "steps") d) else None) IsInRange
    by true = found
    by false = tt

lines_ranged : (items : Items) → IfSome (lines_of items) AreInRange
lines_ranged no_items = tt
lines_ranged (item d items) = go (line_in d) (lines_of items) (line_in_ranged d) (lines_ranged items)
  where
    go : (l : Option Line) (lines : Option (List Line)) → IfSome l IsInRange → IfSome lines AreInRange → IfSome (option_and_then (λ (x : Line). option_map (λ (more : List Line). x ∷ more) lines) l) AreInRange
    go (Some l) (Some lines) h k = (h, k)
    go (Some l) None h k = tt
    go None lines h k = tt

functions_ranged : (o : Option Items) → IfSome (option_and_then lines_of o) AreInRange
functions_ranged None = tt
functions_ranged (Some items) = lines_ranged items

from_ok : (p q : Profile) → let first : Result Profile ProfileFault = Ok p in first ≡ Ok q → p ≡ q
from_ok p q e = cc

unless_ranged : (wrong : Option (List ℕ)) (lines : Option (List Line)) (steps : Option ℕ) (p : Profile) → IfSome lines AreInRange → IfSome steps (λ n. n ≤ MOST_STEPS) → unless_wrong wrong lines steps ≡ Ok p → IsRanged p
unless_ranged (Some name) lines steps p h k e = absurd cc
unless_ranged None lines steps p h k e = subst IsRanged (from_ok (record { steps = unwrap_or steps 0; lines = unwrap_or lines [] }) p e) (record { steps = number steps k; lines = all lines h })
  where
    number : (steps : Option ℕ) → IfSome steps (λ n. n ≤ MOST_STEPS) → unwrap_or steps 0 ≤ MOST_STEPS
    number None k = omega arith
    number (Some n) k = k

    all : (lines : Option (List Line)) → IfSome lines AreInRange → AreInRange (unwrap_or lines [])
    all None h = tt
    all (Some lines) h = h

judged_ranged : (members : Members) (p : Profile) → judged members ≡ Ok p → IsRanged p
judged_ranged members p e = by (version_in (object members) == 1) e
  where
    by : (b : Bool) → (if b then judged_members (functions_in (object members)) (steps_in (object members)) members else Err (fault.Version (version_in (object members)))) ≡ Ok p → IsRanged p
    by true e =
        unless_ranged (first_wrong (is_some (functions_in (object members))) (is_some (steps_in (object members))) members) (functions_in (object members)) (steps_in (object members)) p
        (functions_ranged (option_and_then as_array (get (codes "functions") (object members)))) (up_ranged MOST_STEPS (option_and_then whole_in (get (codes "steps") (object members)))) e
    by false e = absurd cc

pub told_ranged : (members : Members) (r : Result Profile ProfileError) → Told (judged members) r → IfOk r IsRanged
told_ranged ms (Ok p) e = judged_ranged ms p e
told_ranged ms (Err e) t = tt
