use Rattle.std.proofs.Common.{◌<◌, ◌≤◌, arith}
use Rattle.no_ir.specs.declared.function.GlobalVar.{GlobalVar}
use Rattle.no_layout.specs.Memory.{globals_limit}
use Rattle.no_room.specs.Fits.{type_fits}
use Rattle.no_room.proofs.Growing.{fits_at, passed, went_on}
use Rattle.no_room.proofs.ends.end_of_all.Goals as goal

pub end_behind-end-requires-clause-fits : goal.end_behind-end-requires-clause-fits
end_behind-end-requires-clause-fits c =
    fits_at (λ (g : GlobalVar). type_fits c.args.layout.now c.args.sizes.now g.ty) c.args.globals.now c.loop-global.global-index c.global-item.result c.requires.fits c.loop-global-test.true c.global-item.is

pub returns-then-end-from : goal.returns-then-end-from
returns-then-end-from c =
    let over : globals_limit < c.end_behind-end.result = omega (arith, c.if-end-from.true, c.from.ensures) in
    passed c.args.layout.now c.args.sizes.now c.args.kind c.args.start c.args.globals.now c.loop-global.global-index c.global-item.result c.loop-global.end c.end_behind-end.result
    c.loop-global-test.true c.global-item.is c.loop-global.invariant.value c.end_behind-end.ensures over

pub loop-global-preserved : goal.loop-global-preserved
loop-global-preserved c =
    let low : c.end_behind-end.result ≤ globals_limit = omega (arith, c.if-end-from.false, c.from.ensures) in
    record {
      value = went_on c.args.layout.now c.args.sizes.now c.args.kind c.args.start c.args.globals.now c.loop-global.global-index c.global-item.result c.loop-global.end c.end_behind-end.result
          c.loop-global-test.true c.global-item.is c.loop-global.invariant.value c.end_behind-end.ensures;
      low = low;
    }
