use Rattle.std.proofs.Common.{refl}
use Rattle.no_wire.specs.Messages.{finish_body}
use Rattle.no_wire.specs.declared.kind.Kind.TheVariants as kind
use Rattle.no_wire.proofs.Lists.{framed_by}
use Rattle.no_wire.proofs.encoding.put_finish.Goals as goal

pub returns-clause-ok : goal.returns-clause-ok
returns-clause-ok c =
    let f = c.args.f.now in
    framed_by c.args.into.now.items c.put_front.new.into.items c.put.new.into.items (finish_body f.end f.value f.counted f.dirty f.entries f.output) 33 c.args.epoch kind.Finish
    c.in_ok-put_front.ensures.ok (rw (c.in_ok-put.ensures.ok, c.to_be_bytes-v.ensures, c.to_be_bytes-c.ensures, c.to_be_bytes-d.ensures, c.to_be_bytes-e.ensures, c.to_be_bytes-o.ensures) refl) refl
