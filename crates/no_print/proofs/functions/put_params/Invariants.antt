use Rattle.std.proofs.Common.{◌≡◌, ◌++◌, drop}
use Rattle.no_print.specs.Scopes.{spelled_by}
use Rattle.no_print.specs.Modules.{param_pieces}
use Rattle.no_print.specs.Commas.{items_from}
use Rattle.no_print.specs.Pieces.{with_commas, glued}
use Rattle.no_print.specs.Pieces.{written}
use Rattle.no_print.proofs.functions.put_params.Given as goal

abbrev pub invariant-loop-k : goal.invariant-loop-k
invariant-loop-k l = l.fn.out.items ++ written (with_commas (param_pieces (spelled_by l.scope) l.f.registers) glued l.params) ≡ l.out.items ++ written (items_from (param_pieces (spelled_by l.scope) l.f.registers) glued l.k (drop l.k l.params))
