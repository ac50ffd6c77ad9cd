use Rattle.std.proofs.Common.{sym, subst, arith}
use Rattle.no_wire.specs.declared.msg.Msg.{Msg}
use Rattle.no_wire.specs.Messages.{Spells}
use Rattle.no_wire.proofs.Whole.{whole_is_frame}
use Rattle.no_wire.proofs.reading.read.Goals as goal

pub returns : goal.returns
returns c =
    subst (λ (m : Msg). Spells c.args.bytes.now m) (sym c.in_ok-m.ensures) (whole_is_frame c.args.kind c.args.bytes.now (λ i. let b = c.type_inv.bytes i in omega (arith, b)) c.requires)
