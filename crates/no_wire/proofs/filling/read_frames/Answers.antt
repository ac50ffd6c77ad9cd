use Rattle.std.proofs.Common.{take}
use Rattle.no_wire.specs.Messages.{Spells}
use Rattle.no_wire.proofs.Streaming.{messages_add, stream_on}
use Rattle.no_wire.proofs.filling.read_frames.Goals as goal

pub loop-kind-preserved : goal.loop-kind-preserved
loop-kind-preserved c =
    let spells : Spells (take c.in-Whole.len c.loop-kind.rest.now) c.in_ok-read-in-Whole.field-0 = rw (← c.split_at.ensures.front) c.in_ok-read-in-Whole.ensures in
    record {
      stream = rw (c.in_ok-push-in-Whole.ensures.ok, c.split_at.ensures.back) (stream_on c.loop-kind.out c.in_ok-read-in-Whole.field-0 c.loop-kind.rest.now _ c.in-Whole.len spells c.loop-kind.invariant.stream);
      messages = λ all. rw c.in_ok-push-in-Whole.ensures.ok (messages_add c.loop-kind.out c.in_ok-read-in-Whole.field-0 (c.loop-kind.invariant.messages all) spells.message);
    }
