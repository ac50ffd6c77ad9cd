use Rattle.std.proofs.Common.{ℕ, List}
use Rattle.no_print.specs.Pieces.{glued}
use Rattle.no_print.specs.Scopes.{spelled_by}
use Rattle.no_print.specs.Modules.{param_pieces}
use Rattle.no_print.proofs.Fields.{item_at}
use Rattle.no_print.proofs.functions.put_param.Goals as goal

pub returns : goal.returns
returns c = item_at (λ (g : List ℕ). param_pieces (spelled_by c.args.scope.now) c.args.f.now.registers g c.args.param.now) c.args.k glued _ _ _ _ c.gap_at.ensures c.in_ok-put_break.ensures c.in_ok-put_one_param.ensures
