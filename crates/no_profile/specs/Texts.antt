-- The text of a profile (docs/FORMATS.md, "Profiles"): a JSON object, as `serde_json` writes it.
use Rattle.std.specs.Prelude.{◌≡◌, ℕ, List, map, Some, codes}
use Rattle.serde_json.specs.Data.{Data, array, member, no_members, number, object, string, unsigned, Items, Members}
use Rattle.serde_json.specs.View.{items_of}
use Rattle.serde_json.specs.Written.{compact_text}
use Rattle.no_names.specs.Spelled.{name_by}
use Rattle.no_print.specs.Names.{spelling}
use Rattle.no_profile.specs.declared.profile.Line.{Line}
use Rattle.no_profile.specs.declared.profile.Profile.{Profile}

-- a whole number
abbrev pub whole : ℕ → Data
whole n = number (unsigned n)

-- a line is an object of four members, its name spelled as the printer spells it
abbrev pub line_data : Line → Data
line_data l = object (member (codes "calls") (whole l.calls) (member (codes "name") (string (spelling l.name)) (member (codes "pages") (whole l.pages) (member (codes "steps") (whole l.steps) no_members))))

-- lines are a list of these
abbrev pub lines_data : List Line → Items
lines_data lines = items_of (map line_data lines)

-- the members of a profile, in the order of their bytes
abbrev pub profile_members : Profile → Members
profile_members p = member (codes "functions") (array (lines_data p.lines)) (member (codes "steps") (whole p.steps) (member (codes "version") (whole 1) no_members))

-- a profile is an object of three members
abbrev pub profile_data : Profile → Data
profile_data p = object (profile_members p)

-- the text of a profile, with no space in it
unfoldable pub text_of : Profile → List ℕ
text_of p = compact_text (profile_data p)

-- the name of a line is read again from its spelling
abbrev pub IsAgain : Line → Type 0
IsAgain l = name_by (spelling l.name) ≡ Some l.name
