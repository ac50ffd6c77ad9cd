use Rattle.std.proofs.Common.{◌<◌, length, arith, ◌∙◌}
use Rattle.no_verify_paths.proofs.RowLaws.{row_is, row_longer, row_pushed, row_added}
use Rattle.no_verify_paths.proofs.rows.add_to_row.Goals as goal

pub loop-alloc-preserved : goal.loop-alloc-preserved
loop-alloc-preserved g c = λ i. rw c.in_ok-push.ensures.items (row_pushed c.loop-alloc.rows.items c.new.result i c.new.ensures.items ∙ c.loop-alloc.invariant i)

pub returns : goal.returns
returns g c =
    let rows = c.loop-alloc.rows.items in
    let j = c.args.number in
    let within : j < length rows = omega (arith, c.loop-alloc.rows.ok.0) in
    row_added c.args.rows.now.items rows j c.push-2.new.self c.args.item c.loop-alloc.invariant within (row_longer rows j c.push-2.new.self c.index_mut.result.now.items c.args.item within c.in_ok-push-2.ensures.items (row_is rows j c.index_mut.result.now within c.index_mut.ensures.value))
