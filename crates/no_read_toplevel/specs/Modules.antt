-- The module that the forms at the top of a text give (LLVM Language Reference, "Module Structure", "Attribute Groups").
use Rattle.std.specs.Prelude.{◌≡◌, ℕ, Bool, true, false, ◌||◌, List, [], ◌∷◌, Option, Some, None, Result, Ok}
use Rattle.no_lex.specs.declared.token.Token.{Token}
use Rattle.no_ir.specs.declared.types.Ty.{Ty}
use Rattle.no_ir.specs.declared.function.Function.{Function}
use Rattle.no_ir.specs.declared.function.GlobalVar.{GlobalVar}
use Rattle.no_ir.specs.declared.function.Module.{Module}
use Rattle.no_ir.specs.declared.function.Role.{Role}
use Rattle.no_read_rules.specs.declared.fault.Stopped.{Stopped}
use Rattle.no_read_rules.specs.Rules.{after, all_taken}
use Rattle.no_read_rules.specs.Scope.{Meaning}
use Rattle.no_read_rules.specs.Spelled.{spelled}
use Rattle.no_read_attributes.specs.declared.marks.Mark.{Mark}
use Rattle.no_read_attributes.specs.declared.marks.Mark.TheVariants as mark
use Rattle.no_read_functions.specs.declared.functions.Written.{Written}
use Rattle.no_read_toplevel.specs.declared.groups.Settings.{Settings}
use Rattle.no_read_toplevel.specs.declared.tops.Top.{Top}
use Rattle.no_read_toplevel.specs.declared.tops.Top.TheVariants as top
use Rattle.no_read_toplevel.specs.Grouping.{nothing_set, found_in, all_grouped, no_groups}
use Rattle.no_read_toplevel.specs.Tops.{tops}

-- ---- what the attributes of a function set

-- of several addresses the last counts
abbrev pub latest : Option ℕ → Option ℕ → Option ℕ
latest found None = found
latest found (Some n) = Some n

-- what is set, with what a group sets
abbrev pub joined : Settings → Settings → Settings
joined s g = record { bound = s.bound || g.bound; address = latest s.address g.address }

-- a function with what its attributes set
abbrev pub set_function : Settings → Written → Function
set_function s w = record {
  name = w.head.name;
  result = w.head.result;
  params = w.head.params;
  bound = s.bound;
  device_address = s.address;
  registers = w.names.registers;
  labels = w.names.labels;
  blocks = w.blocks;
}

module _ (text : List ℕ) (groups : List ℕ → Settings) where
  -- one attribute of a function, where groups are followed
  abbrev pub with_mark : Settings → Mark → Settings
  with_mark s mark.Bound = record { bound = true; address = s.address }
  with_mark s (mark.Address n) = record { bound = s.bound; address = Some n }
  with_mark s (mark.Group group) = joined s (groups (spelled text group))

  -- what is set with these attributes of a function more, where groups are followed
  abbrev pub with_marks : Settings → List Mark → Settings
  with_marks s [] = s
  with_marks s (m ∷ marks) = with_marks (with_mark s m) marks

  -- ---- the module

  -- a function with what its attributes set, where groups are followed
  abbrev pub function_of : Written → Function
  function_of w = set_function (with_marks nothing_set w.head.marks) w

  -- the functions, defined and declared, in the order of the text
  abbrev pub functions_in : List Top → List Function
  functions_in [] = []
  functions_in (top.Function w ∷ others) = function_of w ∷ functions_in others
  functions_in (_ ∷ others) = functions_in others

-- the globals, in the order of the text
abbrev pub globals_in : List Top → List GlobalVar
globals_in [] = []
globals_in (top.Global g ∷ others) = g ∷ globals_in others
globals_in (_ ∷ others) = globals_in others

-- the layout that is stated, or else this one
abbrev pub layout_or : List ℕ → List Top → List ℕ
layout_or layout [] = layout
layout_or layout (top.Layout stated ∷ others) = layout_or stated others
layout_or layout (_ ∷ others) = layout_or layout others

-- the module of a text with these named types and these forms
abbrev pub module_of : List ℕ → List (List ℕ × Ty) → List Top → Module
module_of text types all = record {
  layout = layout_or [] all;
  types = types;
  globals = globals_in all;
  functions = functions_in text (found_in (all_grouped text no_groups all)) all;
}

-- ---- whole texts

-- the tokens part into forms, one after the other, and the module is theirs
pub record IsModuleOf (m : Meaning) (role : Role) (types : List (List ℕ × Ty)) (tokens : List Token) (found : Module) : Type 0 where
  pub forms : List Top
  pub stated : Bool
  pub meant : (tops m role).means false tokens forms stated
  pub is : found ≡ module_of m.text types forms

-- the module of the forms that were read
abbrev pub with_module : List ℕ → List (List ℕ × Ty) → List Top × Bool → Result Module Stopped
with_module text types x = Ok (module_of text types x.0)

-- the module that the tokens are read as, or the first fault
abbrev pub forms_read : Meaning → Role → List (List ℕ × Ty) → List Token → Result Module Stopped
forms_read m role types tokens = after (after ((tops m role).read false tokens) all_taken) (with_module m.text types)
