use Rattle.std.proofs.Common.{◌*◌, length}
use Rattle.std.specs.List.{flat_map}
use Rattle.no_wire.specs.Messages.{pair_bytes}
use Rattle.no_wire.proofs.Lists.{framed_by, length_pairs}
use Rattle.no_wire.proofs.encoding.put_list.Goals as goal

pub returns-clause-ok : goal.returns-clause-ok
returns-clause-ok c =
    framed_by c.args.into.now.items c.put_front.new.into.items c.put_pairs.new.into.items (flat_map pair_bytes c.args.pairs.now) (8 * length c.args.pairs.now) c.args.epoch c.args.kind
    c.in_ok-put_front.ensures.ok c.in_ok-put_pairs.ensures.ok (length_pairs c.args.pairs.now)
