-- How a module is spelled but for the definitions of its named types.
use Rattle.std.specs.Prelude.{List, ◌++◌}
use Rattle.std.specs.List.{list_any}
use Rattle.no_ir.specs.declared.function.Module.{Module}
use Rattle.no_print.specs.Pieces.{Piece}
use Rattle.no_print.specs.Constants.{Spelled}
use Rattle.no_print.specs.Modules.{layout_pieces, global_pieces, function_pieces, has_inserted, node_pieces, each, spelled_in}

-- the globals, the functions and the node
abbrev pub forms_in : Spelled → Module → List Piece
forms_in s m = each (global_pieces s) m.globals ++ (each (function_pieces s) m.functions ++ node_pieces (list_any has_inserted m.functions))

-- the layout, and then these
abbrev pub rest_pieces : Module → List Piece
rest_pieces m = layout_pieces m.layout ++ forms_in (spelled_in m) m
