use Rattle.std.proofs.Common.{refl}
use Rattle.no_ir.specs.declared.constant.Const.TheVariants as const
use Rattle.no_code.specs.Source.{source}
use Rattle.no_code.proofs.Grown.{adds_one, constant_put}
use Rattle.no_code.proofs.slot.put_one.Goals as goal

pub returns : goal.returns
returns c =
    let a = c.args in
    let e = c.in_ok-x.ensures in (
      adds_one a.code.now c.put_constant.new.code 1 e.0,
      constant_put (source a.from.program.now a.from.layout.now a.from.sizes.now a.from.addresses.now) a.n a.code.now c.put_constant.new.code 64 1 (const.Int 1) c.in_ok-x.x e.0 e.1 e.2 (λ fits some most. refl),
    )
