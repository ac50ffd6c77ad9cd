use Rattle.std.proofs.Common.{◌≡◌, length}
use Rattle.no_read_rules.specs.Scope.{seen}
use Rattle.no_read_operations.specs.Folded.{folded_all}
use Rattle.no_read_operations.specs.Ends.{is_comma, list_step}
use Rattle.no_read_operations.proofs.lists.list_behind.Given as goal

abbrev pub invariant-loop-alloc : goal.invariant-loop-alloc
invariant-loop-alloc g l =
    let m = seen l.scope in
    let step = list_step m.text l.role (g.I.Item.rule l.kind m) in
    folded_all (is_comma m.text) step l.listed l.locals l.rest ≡ folded_all (is_comma m.text) step l.fn.start l.fn.locals l.tokens

abbrev pub decreases-loop-alloc : goal.decreases-loop-alloc
decreases-loop-alloc g l = length l.rest
