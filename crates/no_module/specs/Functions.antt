-- Declared functions, and the beginnings of names.
use Rattle.std.specs.Prelude.{ℕ, Bool, true, false, List, [], length, take, bytes_eq}
use Rattle.no_ir.specs.declared.function.Block.{Block}
use Rattle.no_ir.specs.declared.function.Function.{Function}

-- whether a list of blocks is empty
abbrev pub has_no_blocks : List Block → Bool
has_no_blocks [] = true
has_no_blocks _ = false

-- a function with no blocks is declared
abbrev pub is_declared : Function → Bool
is_declared f = has_no_blocks f.blocks

-- whether a name begins with this stem
abbrev pub begins_with : List ℕ → List ℕ → Bool
begins_with stem name = bytes_eq (take (length stem) name) stem
