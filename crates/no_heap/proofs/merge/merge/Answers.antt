use Rattle.std.proofs.Common.{arith}
use Rattle.no_heap.proofs.Merging.{merging_none}
use Rattle.no_heap.proofs.merge.merge.Goals as goal

pub loop-told-init : goal.loop-told-init
loop-told-init c = record {
  merging = merging_none c.args.blocks.now c.args.entries.now c.clear.new.self.items c.requires.live c.requires.rise c.clear.ensures.items;
  room = omega (arith, c.requires.room, c.clear.ensures.capacity);
}
