use Rattle.std.proofs.Common.{◌≡◌, Ok, subst, List, Bor}
use Rattle.no_lex.specs.declared.token.Token.{Token}
use Rattle.no_ir.specs.declared.instruction.Op.{Op}
use Rattle.no_read_rules.specs.Rules.{Gives}
use Rattle.no_read_registers.specs.declared.locals.Locals.{Locals}
use Rattle.no_read_operations.proofs.Ended.{behind_is}
use Rattle.no_read_operations.proofs.ends.with_end.Goals as goal

pub returns : goal.returns
returns c s read given =
    let is : read ≡ Ok (c.in_ok-op.op, s, c.in_ok-op.rest.now) = subst (λ form. Gives {X = Op × Bor (List Token)} {Y = Op × Locals × List Token} (λ x. (x.0, s, x.1.now)) form read) c.in_ok-op.was given in
    rw (behind_is c.args.text.now c.args.role c.args.aligns c.in_ok-op.op s c.in_ok-op.rest.now read is) (c.ended.ensures _ s c.end_mark.ensures)
