-- Groups of attributes by name (LLVM Language Reference, "Attribute Groups").
use Rattle.std.specs.Prelude.{ℕ, true, false, List, [], ◌∷◌, ◌++◌, get_or, slice_set, length, nat_lt, position, bytes_eq, Option, Some, None, if◌then◌else◌}
use Rattle.no_ir.specs.Naming.{with_name, place_of}
use Rattle.no_read_rules.specs.Spelled.{spelled}
use Rattle.no_read_attributes.specs.declared.marks.Mark.{Mark}
use Rattle.no_read_attributes.specs.declared.marks.Mark.TheVariants as mark
use Rattle.no_read_toplevel.specs.declared.groups.Settings.{Settings}
use Rattle.no_read_toplevel.specs.declared.groups.Groups.{Groups}
use Rattle.no_read_toplevel.specs.declared.tops.Top.{Top}
use Rattle.no_read_toplevel.specs.declared.tops.Top.TheVariants as top

-- ---- what attributes set

-- what no attribute sets
abbrev pub nothing_set : Settings
nothing_set = record { bound = false; address = None }

-- what is set with one attribute more; a group inside a group isn't followed
abbrev pub set_by : Settings → Mark → Settings
set_by s mark.Bound = record { bound = true; address = s.address }
set_by s (mark.Address n) = record { bound = s.bound; address = Some n }
set_by s (mark.Group group) = s

-- what is set with these attributes more, one after the other
abbrev pub set_by_all : Settings → List Mark → Settings
set_by_all s [] = s
set_by_all s (m ∷ marks) = set_by_all (set_by s m) marks

-- ---- the groups of a text: each name once, with what its attributes set

-- what the group at a place sets; one that isn't defined sets nothing
abbrev pub entry_at : List Settings → Option ℕ → Settings
entry_at all None = nothing_set
entry_at all (Some k) = get_or all k nothing_set

-- what the group of a name sets
abbrev pub found_in : Groups → List ℕ → Settings
found_in g name = entry_at g.settings (position (bytes_eq name) g.names)

-- the settings with one group more; one that is defined again has the attributes of both
abbrev pub with_entry : List Settings → ℕ → List Mark → List Settings
with_entry all k marks =
    if nat_lt k (length all) then slice_set all k (set_by_all (get_or all k nothing_set) marks) else all ++ set_by_all nothing_set marks ∷ []

-- the groups with one definition more
abbrev pub grouped : Groups → List ℕ → List Mark → Groups
grouped g name marks = record { names = with_name g.names name; settings = with_entry g.settings (place_of g.names name) marks }

-- the groups with one form more, which may define one
abbrev pub grouped_by : List ℕ → Groups → Top → Groups
grouped_by text g (top.Group token marks) = grouped g (spelled text token) marks
grouped_by text g _ = g

-- the groups with all these forms more
abbrev pub all_grouped : List ℕ → Groups → List Top → Groups
all_grouped text g [] = g
all_grouped text g (t ∷ others) = all_grouped text (grouped_by text g t) others

-- no group
abbrev pub no_groups : Groups
no_groups = record { names = []; settings = [] }
