use Rattle.std.proofs.Common.{refl, Ok}
use Rattle.no_ir.specs.declared.instruction.Op.TheVariants as op
use Rattle.no_read_rules.specs.Scope.{seen}
use Rattle.no_read_operations.specs.Memory.{store}
use Rattle.no_read_operations.specs.Flow.{br, switch, ret}
use Rattle.no_read_instructions.proofs.instructions.action_form.Goals as goal

pub returns-in-Store : goal.returns-in-Store
returns-in-Store c = rw c.in-Store.is (c.with_end.ensures c.store.new.locals ((store (seen c.args.scope.now)).read c.args.locals.now c.args.tokens.now) c.store.ensures)

pub returns-in-Br : goal.returns-in-Br
returns-in-Br c = rw c.in-Br.is (c.with_end-in-Br.ensures c.br.new.locals ((br (seen c.args.scope.now)).read c.args.locals.now c.args.tokens.now) c.br.ensures)

pub returns-in-Switch : goal.returns-in-Switch
returns-in-Switch c = rw c.in-Switch.is (c.with_end-in-Switch.ensures c.switch.new.locals ((switch (seen c.args.scope.now)).read c.args.locals.now c.args.tokens.now) c.switch.ensures)

pub returns-in-Ret : goal.returns-in-Ret
returns-in-Ret c = rw c.in-Ret.is (c.with_end-in-Ret.ensures c.ret.new.locals ((ret (seen c.args.scope.now)).read c.args.locals.now c.args.tokens.now) c.ret.ensures)

pub returns-in-Unreachable : goal.returns-in-Unreachable
returns-in-Unreachable c = rw c.in-Unreachable.is (c.with_end-in-Unreachable.ensures c.args.locals.now (Ok (op.Unreachable, c.args.locals.now, c.args.tokens.now)) refl)
