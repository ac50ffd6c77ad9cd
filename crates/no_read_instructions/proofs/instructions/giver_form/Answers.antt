use Rattle.no_read_rules.specs.Scope.{seen}
use Rattle.no_read_operations.specs.Simple.{binary, cast_form, compare, freeze, select}
use Rattle.no_read_operations.specs.Memory.{load}
use Rattle.no_read_instructions.proofs.instructions.giver_form.Goals as goal

pub returns-in-Binary : goal.returns-in-Binary
returns-in-Binary c = rw c.in-Binary.is (c.with_end.ensures c.binary.new.locals ((binary (seen c.args.scope.now) c.in-Binary.op).read c.args.locals.now c.args.tokens.now) c.binary.ensures)

pub returns-in-Cast : goal.returns-in-Cast
returns-in-Cast c = rw c.in-Cast.is (c.with_end-in-Cast.ensures c.cast_form.new.locals ((cast_form (seen c.args.scope.now) c.in-Cast.op).read c.args.locals.now c.args.tokens.now) c.cast_form.ensures)

pub returns-in-Compare : goal.returns-in-Compare
returns-in-Compare c = rw c.in-Compare.is (c.with_end-in-Compare.ensures c.compare.new.locals ((compare (seen c.args.scope.now)).read c.args.locals.now c.args.tokens.now) c.compare.ensures)

pub returns-in-Freeze : goal.returns-in-Freeze
returns-in-Freeze c = rw c.in-Freeze.is (c.with_end-in-Freeze.ensures c.freeze.new.locals ((freeze (seen c.args.scope.now)).read c.args.locals.now c.args.tokens.now) c.freeze.ensures)

pub returns-in-Select : goal.returns-in-Select
returns-in-Select c = rw c.in-Select.is (c.with_end-in-Select.ensures c.select.new.locals ((select (seen c.args.scope.now)).read c.args.locals.now c.args.tokens.now) c.select.ensures)

pub returns-in-Load : goal.returns-in-Load
returns-in-Load c = rw c.in-Load.is (c.with_end-in-Load.ensures c.load.new.locals ((load (seen c.args.scope.now)).read c.args.locals.now c.args.tokens.now) c.load.ensures)
