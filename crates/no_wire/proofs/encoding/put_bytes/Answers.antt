use Rattle.std.proofs.Common.{length, refl}
use Rattle.no_wire.proofs.Lists.{framed_by}
use Rattle.no_wire.proofs.encoding.put_bytes.Goals as goal

pub returns-clause-ok : goal.returns-clause-ok
returns-clause-ok c =
    framed_by c.args.into.now.items c.put_front.new.into.items c.put.new.into.items c.args.bytes.now (length c.args.bytes.now) c.args.epoch c.args.kind
    c.in_ok-put_front.ensures.ok c.in_ok-put.ensures.ok refl
