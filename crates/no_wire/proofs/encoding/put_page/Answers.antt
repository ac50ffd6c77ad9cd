use Rattle.std.proofs.Common.{◌+◌, ◌++◌, length, refl, arith}
use Rattle.no_wire.specs.Messages.{be32}
use Rattle.no_wire.proofs.Lists.{framed_by}
use Rattle.no_wire.proofs.encoding.put_page.Goals as goal

pub returns-clause-ok : goal.returns-clause-ok
returns-clause-ok c =
    framed_by c.args.into.now.items c.put_front.new.into.items c.put_both.new.into.items (be32 c.args.page ++ c.args.bytes.now) (4 + length c.args.bytes.now) c.args.epoch c.args.kind
    c.in_ok-put_front.ensures.ok (rw (c.in_ok-put_both.ensures.ok, c.to_be_bytes.ensures) refl) (omega arith)
