use Rattle.std.proofs.Common.{ℕ, List, ◌++◌, sym, ap}
use Rattle.no_print.specs.Scopes.{spelled_by}
use Rattle.no_print.specs.Constants.{type_at}
use Rattle.no_print.specs.Names.{global_name}
use Rattle.no_print.specs.Pieces.{parted, spaced, word}
use Rattle.no_print.proofs.Appending.{left_from, left_last, left_more}
use Rattle.no_print.proofs.functions.put_head.Goals as goal

pub returns : goal.returns
returns c =
    left_last _ _ _ _ _ c.in_ok-put_global.ensures (
    left_more _ _ _ _ _ _ c.in_ok-put_type.ensures (
    left_more _ _ _ _ _ _ c.in_ok-put_word.ensures (
    left_from _ _ _ (ap (λ (name : List ℕ). word parted c.args.first.now ++ (type_at (spelled_by c.args.scope.now) spaced c.args.f.now.result ++ global_name spaced name)) (sym c.as_slice.ensures)))))
