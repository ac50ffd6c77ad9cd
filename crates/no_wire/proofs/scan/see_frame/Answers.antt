use Rattle.std.proofs.Common.{arith, rules, ◌+◌}
use Rattle.no_wire.specs.Kinds.{HasLength}
use Rattle.no_wire.specs.Fronts.{BodyGood, EpochGood, IsOpen, length_in}
use Rattle.no_wire.proofs.Seeing.{good_of, right_of, stays_open}
use Rattle.no_wire.proofs.scan.see_frame.Goals as goal

pub returns-else-len-lt-FRONT : goal.returns-else-len-lt-FRONT
returns-else-len-lt-FRONT c =
    let bytes = c.args.bytes.now in
    let is = c.u32_at.ensures in
    let right : HasLength c.args.kind (length_in bytes) × EpochGood c.args.kind bytes × BodyGood c.args.kind bytes = search rules in
    let good = good_of c.args.kind bytes c.requires.counted (right_of c.args.kind bytes c.requires.known right) in
    let open' : IsOpen bytes = record { good = good; short = λ lt. omega (arith, is, c.if-whole-len.false) } in
    (open', λ more lt. stays_open bytes (c.u32_at.result + 4) (omega (arith, c.if-len-lt-FRONT.false)) (omega (arith, is)) good more lt)
