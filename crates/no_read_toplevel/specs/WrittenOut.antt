-- What a function's attributes set, said without a table of groups: each group is written out (LLVM Language Reference, "Attribute Groups").
use Rattle.std.specs.Prelude.{ℕ, List, [], ◌∷◌, ◌++◌, bytes_eq, if◌then◌else◌}
use Rattle.no_read_rules.specs.Spelled.{spelled}
use Rattle.no_read_attributes.specs.declared.marks.Mark.{Mark}
use Rattle.no_read_attributes.specs.declared.marks.Mark.TheVariants as mark
use Rattle.no_read_toplevel.specs.declared.tops.Top.{Top}
use Rattle.no_read_toplevel.specs.declared.tops.Top.TheVariants as top

-- the attributes of all groups of a name, in the order of the text
abbrev pub marks_named : List ℕ → List ℕ → List Top → List Mark
marks_named text name [] = []
marks_named text name (top.Group token marks ∷ others) = (if bytes_eq name (spelled text token) then marks else []) ++ marks_named text name others
marks_named text name (_ ∷ others) = marks_named text name others

-- one attribute, or those that a group stands for; a group that isn't defined is empty
abbrev pub one_written : List ℕ → List Top → Mark → List Mark
one_written text all (mark.Group group) = marks_named text (spelled text group) all
one_written text all m = m ∷ []

-- attributes in order, with each group written out
abbrev pub written_out : List ℕ → List Top → List Mark → List Mark
written_out text all [] = []
written_out text all (m ∷ marks) = one_written text all m ++ written_out text all marks
