use Rattle.std.proofs.Common.{◌≡◌, length}
use Rattle.no_read_rules.specs.Scope.{seen}
use Rattle.no_read_operations.specs.Folded.{folded_all}
use Rattle.no_read_operations.specs.Ends.{is_comma}
use Rattle.no_read_operations.specs.Memory.{alloca_step, alloca_start}
use Rattle.no_read_operations.proofs.memory.alloca_ends.Given as goal

abbrev pub invariant-loop-alloc : goal.invariant-loop-alloc
invariant-loop-alloc l =
    let m = seen l.scope in
    folded_all (is_comma m.text) (alloca_step m l.role) l.end l.locals l.rest ≡ folded_all (is_comma m.text) (alloca_step m l.role) alloca_start l.fn.locals l.tokens

abbrev pub decreases-loop-alloc : goal.decreases-loop-alloc
decreases-loop-alloc l = length l.rest
