-- The pieces of a module that are no definitions of types.
use Rattle.std.specs.Prelude.{List, ◌++◌}
use Rattle.std.specs.List.{list_any}
use Rattle.no_ir.specs.declared.function.Module.{Module}
use Rattle.no_print.specs.Constants.{Spelled}
use Rattle.no_print.specs.Modules.{layout_pieces, global_pieces, function_pieces, has_inserted, node_pieces, each}
use Rattle.no_print.specs.Pieces.{Piece}

-- the layout, globals, functions, and the node of marks
abbrev pub form_pieces : Spelled → Module → List Piece
form_pieces s m =
    layout_pieces m.layout ++ (each (global_pieces s) m.globals ++ (each (function_pieces s) m.functions ++ node_pieces (list_any has_inserted m.functions)))
