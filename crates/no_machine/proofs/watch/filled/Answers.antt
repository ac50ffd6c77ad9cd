use Rattle.std.proofs.Common.{◌≡◌, length, slice_index_or, arith}
use Rattle.no_lib.proofs.Counted.{is_four}
use Rattle.no_semantics.specs.Externals.{do_set}
use Rattle.no_machine.proofs.Touching.{four_of, set_touch}
use Rattle.no_machine.specs.declared.watch.Touch.TheVariants as touch
use Rattle.no_machine.proofs.watch.filled.Goals as goal

pub returns-in-len4 : goal.returns-in-len4
returns-in-len4 c =
    let args = c.args.numbers.now in
    let long : length args ≡ 4 = omega arith in
    let four = is_four args long in
    λ r w. four_of (touch.Bytes (slice_index_or args 0 0) (slice_index_or args 2 0)) args (slice_index_or args 0 0) (slice_index_or args 1 0) (slice_index_or args 2 0) four.0 (do_set r) w four.1 (set_touch r (slice_index_or args 0 0) (slice_index_or args 1 0) (slice_index_or args 2 0) w)
