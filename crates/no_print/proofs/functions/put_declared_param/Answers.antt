use Rattle.std.proofs.Common.{ℕ, List}
use Rattle.no_print.specs.Pieces.{glued}
use Rattle.no_print.specs.Scopes.{spelled_by}
use Rattle.no_print.specs.Modules.{type_alone}
use Rattle.no_print.proofs.Fields.{item_at}
use Rattle.no_print.proofs.functions.put_declared_param.Goals as goal

pub returns : goal.returns
returns c = item_at (λ (g : List ℕ). type_alone (spelled_by c.args.scope.now) g c.args.param.now) c.args.k glued _ _ _ _ c.gap_at.ensures c.in_ok-put_break.ensures c.in_ok-put_type.ensures
