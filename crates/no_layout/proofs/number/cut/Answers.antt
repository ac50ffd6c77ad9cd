use Rattle.std.proofs.Common.{◌==◌, ◌∙◌, sym, ap, drop}
use Rattle.std.proofs.lemmas.List.{drop-drop}
use Rattle.no_layout.proofs.Split.{split_some, split_none}
use Rattle.no_layout.proofs.number.cut.Goals as goal

pub returns-in-None-clause-pieces : goal.returns-in-None-clause-pieces
returns-in-None-clause-pieces c = split_none (λ b. b == c.args.mark) c.args.text.now (sym c.in-None.ensures)

pub returns-in-Some-clause-pieces : goal.returns-in-Some-clause-pieces
returns-in-Some-clause-pieces c = split_some (λ b. b == c.args.mark) c.args.text.now _ _ c.in-Some.at (sym c.in-Some.ensures) c.split_at.ensures.front (c.split_at-in-Some.ensures.back ∙ ap (drop 1) c.split_at.ensures.back ∙ drop-drop 1 c.in-Some.at c.args.text.now)
