use Rattle.std.proofs.Common.{◌≡◌, ◌++◌, drop}
use Rattle.no_print.specs.Scopes.{spelled_by}
use Rattle.no_print.specs.Modules.{type_alone}
use Rattle.no_print.specs.Commas.{items_from}
use Rattle.no_print.specs.Pieces.{with_commas, glued}
use Rattle.no_print.specs.Pieces.{written}
use Rattle.no_print.proofs.functions.put_declared_params.Given as goal

abbrev pub invariant-loop-k : goal.invariant-loop-k
invariant-loop-k l = l.fn.out.items ++ written (with_commas (type_alone (spelled_by l.scope)) glued l.params) ≡ l.out.items ++ written (items_from (type_alone (spelled_by l.scope)) glued l.k (drop l.k l.params))
