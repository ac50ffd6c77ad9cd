-- the messages so far and the bytes that are left are the stream
use Rattle.std.proofs.Common.{◌≡◌, length}
use Rattle.no_wire.specs.Messages.{AreMessages}
use Rattle.no_wire.specs.Streams.{stream_of}
use Rattle.no_wire.proofs.filling.read_frames.Given as goal

abbrev pub invariant-loop-kind : goal.invariant-loop-kind
invariant-loop-kind l = record {
  stream : stream_of l.out l.rest ≡ stream_of l.fn.out l.bytes;
  messages : AreMessages l.fn.out → AreMessages l.out;
}

abbrev pub decreases-loop-kind : goal.decreases-loop-kind
decreases-loop-kind l = length l.rest
