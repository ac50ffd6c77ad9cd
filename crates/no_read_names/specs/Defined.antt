-- The names that the forms of a text define.
use Rattle.std.specs.Prelude.{ℕ, List, [], ◌∷◌}
use Rattle.std.specs.List.{fold}
use Rattle.no_ir.specs.Naming.{with_name}
use Rattle.no_read_symbols.specs.declared.symbols.Symbols.{Symbols}
use Rattle.no_read_toplevel.specs.declared.tops.Top.{Top}
use Rattle.no_read_toplevel.specs.declared.tops.Top.TheVariants as top

-- each name once, in the order of first appearance
abbrev pub names_once : List (List ℕ) → List (List ℕ)
names_once names = fold with_name [] names

-- the names of the globals, in the order of the text
abbrev pub global_names : List Top → List (List ℕ)
global_names [] = []
global_names (top.Global g ∷ others) = g.name ∷ global_names others
global_names (_ ∷ others) = global_names others

-- the names of the functions, defined and declared
abbrev pub function_names : List Top → List (List ℕ)
function_names [] = []
function_names (top.Function w ∷ others) = w.head.name ∷ function_names others
function_names (_ ∷ others) = function_names others

-- the names of the globals and of the functions that forms define or declare, each once
abbrev pub defined_by : List Top → Symbols
defined_by forms = record { globals = names_once (global_names forms); functions = names_once (function_names forms) }
