use Rattle.std.proofs.Common.{◌≡◌, Some, ap, sym, ◌∙◌}
use Rattle.std.proofs.lemmas.Result.{err_from_is_err_and}
use Rattle.no_read_rules.specs.Scope.{seen}
use Rattle.no_read_functions.proofs.BodyLaws.{blocks_label, blocks_instr, blocks_fail, blocks_stop, blocks_fall}
use Rattle.no_read_functions.proofs.blocks.more_blocks.Goals as goal

pub returns-in_err-piece : goal.returns-in_err-piece
returns-in_err-piece c =
    let p = err_from_is_err_and c.from_residual.result c.from_residual.ensures.1 in
    rw (p.1, p.2) (blocks_fail (seen c.args.scope.now) c.args.role c.in_err-piece.field-0.0 c.loop-open.all c.loop-open.open.label c.loop-open.open.instrs c.loop-open.locals c.loop-open.rest.now _ c.in_err-piece.ensures c.loop-open.invariant)

pub returns-in-None : goal.returns-in-None
returns-in-None c = rw c.in_ok-push-in-None.ensures.ok (blocks_stop (seen c.args.scope.now) c.args.role c.loop-open.all c.loop-open.open.label c.loop-open.open.instrs c.loop-open.locals c.a_piece.new.locals c.loop-open.rest.now c.in_ok-piece.after.now c.in_ok-piece.piece _ c.in_ok-piece.ensures c.in-None.is c.loop-open.invariant)

pub loop-open-smaller-in-Some-Label : goal.loop-open-smaller-in-Some-Label
loop-open-smaller-in-Some-Label c = blocks_fall (seen c.args.scope.now) c.args.role c.loop-open.locals c.a_piece.new.locals c.loop-open.rest.now c.in_ok-piece.after.now c.in_ok-piece.piece c.in_ok-piece.ensures

pub loop-open-preserved-in-Some-Label : goal.loop-open-preserved-in-Some-Label
loop-open-preserved-in-Some-Label c = rw (c.in_ok-push-in-Some-Label.ensures.ok, c.new.ensures) (blocks_label (seen c.args.scope.now) c.args.role c.loop-open.all c.loop-open.open.label c.in-Some-Label.label c.loop-open.open.instrs c.loop-open.locals c.a_piece.new.locals c.loop-open.rest.now c.in_ok-piece.after.now c.in_ok-piece.piece _ c.in_ok-piece.ensures (c.in-Some-Label.is ∙ ap (λ p. Some p) c.in-Some-Label.field-0-is) c.loop-open.invariant)

pub loop-open-smaller : goal.loop-open-smaller
loop-open-smaller c = blocks_fall (seen c.args.scope.now) c.args.role c.loop-open.locals c.a_piece.new.locals c.loop-open.rest.now c.in_ok-piece.after.now c.in_ok-piece.piece c.in_ok-piece.ensures

pub loop-open-preserved : goal.loop-open-preserved
loop-open-preserved c = rw c.in_ok-push-in-Some-Instr.ensures.ok (blocks_instr (seen c.args.scope.now) c.args.role c.loop-open.all c.loop-open.open.label c.loop-open.open.instrs c.in-Some-Instr.instr c.loop-open.locals c.a_piece.new.locals c.loop-open.rest.now c.in_ok-piece.after.now c.in_ok-piece.piece _ c.in_ok-piece.ensures (c.in-Some-Instr.is ∙ ap (λ p. Some p) c.in-Some-Instr.field-0-is) c.loop-open.invariant)
