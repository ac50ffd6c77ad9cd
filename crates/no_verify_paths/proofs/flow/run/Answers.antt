use Rattle.std.proofs.Common.{◌≡◌, ◌<◌, length, set, arith, ◌∙◌, get_or-set_same, get_or-set_other}
use Rattle.std.specs.List.{Contains}
use Rattle.std.proofs.lemmas.List.{length-set}
use Rattle.no_verify_paths.specs.Flow.{row}
use Rattle.no_verify_paths.proofs.RowLaws.{row_within}
use Rattle.no_verify_paths.proofs.Flowing.{flowing_start}
use Rattle.no_verify_paths.proofs.flow.run.Goals as goal

pub returns : goal.returns
returns c =
    let next = c.args.next.now in
    let old = c.args.sets.now in
    let sets = set old 0 c.args.start in
    let some : 0 < length old = c.requires.some.0 in
    let size : length sets ≡ length old = length-set old 0 c.args.start in
    let queue = c.fill.new.queue in
    let first : Contains queue.blocks 0 = c.in_ok-fill.ensures.0 in
    let room : queue.room ≡ length old = c.in_ok-fill.ensures.1 in
    c.settle.ensures c.args.start (flowing_start (row next) c.args.gens.now c.args.start sets queue (omega arith)
    (get_or-set_same old 0 c.args.start 0 some)
    (λ b lt other. get_or-set_other old 0 b c.args.start 0 other ∙ c.requires.full b 0 (omega arith))
    (λ a b edge. let lt : a < length next = row_within next a b edge in omega (arith, c.requires.edges.width))
    first)
