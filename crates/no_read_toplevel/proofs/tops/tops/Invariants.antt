use Rattle.std.proofs.Common.{◌≡◌, false, length}
use Rattle.no_read_rules.specs.Scope.{seen}
use Rattle.no_read_rules.specs.Repeated.{repeat_all, with_front}
use Rattle.no_read_toplevel.specs.Tops.{more_tops}
use Rattle.no_read_toplevel.proofs.tops.tops.Given as goal

abbrev pub invariant-loop-all : goal.invariant-loop-all
invariant-loop-all l = with_front l.all.items (repeat_all (more_tops (seen l.scope) l.role) l.stated l.rest) ≡ repeat_all (more_tops (seen l.scope) l.role) false l.tokens

abbrev pub decreases-loop-all : goal.decreases-loop-all
decreases-loop-all l = length l.rest
