use Rattle.std.proofs.lemmas.Result.{err_from_is_err_and}
use Rattle.no_read_rules.specs.Scope.{seen}
use Rattle.no_read_types.proofs.LiftLaws.{goes_kept, goes_defined, fails_defined, lift_stops, definition_falls, parted, nothing}
use Rattle.no_read_types.proofs.definition.lift_all.Goals as goal

pub returns-in_err-lifted : goal.returns-in_err-lifted
returns-in_err-lifted c =
    let p = err_from_is_err_and c.from_residual-in_err-lifted.result c.from_residual-in_err-lifted.ensures.1 in
    rw (p.1, p.2) (fails_defined c.in_err-lifted.field-0.0 (seen c.args.scope.now) c.loop-rest.defined c.loop-rest.kept c.loop-rest.names c.loop-rest.rest.now _ c.if-begins_definition.ensures c.in_err-lifted.ensures c.loop-rest.invariant)

pub loop-rest-smaller-then-begins_definition : goal.loop-rest-smaller-then-begins_definition
loop-rest-smaller-then-begins_definition c = definition_falls (seen c.args.scope.now) c.loop-rest.names c.loop-rest.rest.now (c.in_ok-lifted.lifted, c.a_definition.new.names, c.in_ok-lifted.behind.now) c.in_ok-lifted.ensures

pub loop-rest-preserved-then-begins_definition : goal.loop-rest-preserved-then-begins_definition
loop-rest-preserved-then-begins_definition c =
    rw c.in_ok-push.ensures.ok (goes_defined (seen c.args.scope.now) c.loop-rest.defined c.loop-rest.kept c.loop-rest.names c.a_definition.new.names c.loop-rest.rest.now c.in_ok-lifted.behind.now c.in_ok-lifted.lifted _ c.if-begins_definition.ensures c.in_ok-lifted.ensures c.loop-rest.invariant)

pub loop-rest-preserved : goal.loop-rest-preserved
loop-rest-preserved c =
    rw c.in_ok-push-2.ensures.ok (goes_kept (seen c.args.scope.now) c.loop-rest.defined c.loop-rest.kept c.loop-rest.names c.loop-rest.rest.now _ _ _ (parted _ c.loop-rest.rest.now c.in-len1-up.len_at_least) c.if-begins_definition.ensures c.loop-rest.invariant)

pub returns : goal.returns
returns c = lift_stops (seen c.args.scope.now) c.loop-rest.defined c.loop-rest.kept c.loop-rest.names c.loop-rest.rest.now _ (nothing c.loop-rest.rest.now c.in_default.len_below) c.loop-rest.invariant
