use Rattle.std.proofs.Common.{◌≡◌, ◌<◌, ◌≤◌, ℕ, List, true, false, nat_le, take, length, get_or, ap, ◌∙◌, arith}
use Rattle.no_ir.specs.declared.function.GlobalVar.{GlobalVar}
use Rattle.no_layout.specs.Memory.{globals_limit, constants_start}
use Rattle.no_layout.specs.declared.extent.Extent.{Extent}
use Rattle.no_layout.specs.declared.layout.Layout.{Layout}
use Rattle.no_semantics.proofs.Facts.{both}
use Rattle.no_semantics.specs.Image.{end_of, globals_start_of, start_of, place_behind, address_behind, regions_of}
use Rattle.no_semantics.specs.Sound.{align_fits, type_fits}
use Rattle.no_image.specs.Fits.{global_fits, globals_fit, image_fits}
use Rattle.no_image.proofs.Placed.{fits_at, constants_low, writable_low, kind_end, kind_low, place_low, went_on, listed_next}
use Rattle.no_image.proofs.placement.addresses_from.Goals as goal

each_fits : (l : Layout) (sizes : List Extent) (gs : List GlobalVar) (k : ℕ) (g : GlobalVar) → image_fits l sizes gs ≡ true → k < length gs → g ≡ get_or gs k g → global_fits l sizes g ≡ true
each_fits l sizes gs k g e lt is = fits_at (global_fits l sizes) gs k g (both (globals_fit l sizes gs) (nat_le (regions_of l sizes gs).globals_end globals_limit) e).0 lt is

type_at : (l : Layout) (sizes : List Extent) (gs : List GlobalVar) (k : ℕ) (g : GlobalVar) → image_fits l sizes gs ≡ true → k < length gs → g ≡ get_or gs k g → type_fits l sizes g.ty ≡ true
type_at l sizes gs k g e lt is = (both (type_fits l sizes g.ty) (align_fits g.align) (each_fits l sizes gs k g e lt is)).0

at_start : (l : Layout) (sizes : List Extent) (gs before : List GlobalVar) (start w : ℕ) → start ≡ globals_start_of l sizes gs → w ≡ end_of l sizes false start before → w ≡ end_of l sizes false (globals_start_of l sizes gs) before
at_start l sizes gs before start w is e = e ∙ ap (λ (s : ℕ). end_of l sizes false s before) is

low_by : (a b : ℕ) → a ≡ b → b ≤ globals_limit → a ≤ globals_limit
low_by a b e h = omega (arith, e, h)

pub place-at-requires-clause-fits : goal.place-at-requires-clause-fits
place-at-requires-clause-fits c = each_fits c.args.layout.now c.args.sizes.now c.args.globals.now c.loop-global.global-index c.global-item.result c.requires.fits c.loop-global-test.true c.global-item.is

pub place-at-requires-clause-low : goal.place-at-requires-clause-low
place-at-requires-clause-low c =
    let l = c.args.layout.now in
    let sizes = c.args.sizes.now in
    let gs = c.args.globals.now in
    let k = c.loop-global.global-index in
    let g = c.global-item.result in
    let writable = at_start l sizes gs (take k gs) c.args.start c.loop-global.writable c.requires.start c.loop-global.invariant.writable in
    low_by c.end_for.result (end_of l sizes g.constant (start_of l sizes gs g.constant) (take k gs))
    (c.end_for.ensures ∙ kind_end l sizes gs (take k gs) g.constant c.loop-global.constants c.loop-global.writable c.loop-global.invariant.constants writable)
    (kind_low l sizes gs g.constant k c.requires.fits)

pub overflow_cast-at : goal.overflow_cast-at
overflow_cast-at c =
    let l = c.args.layout.now in
    let sizes = c.args.sizes.now in
    let gs = c.args.globals.now in
    let k = c.loop-global.global-index in
    let g = c.global-item.result in
    let writable = at_start l sizes gs (take k gs) c.args.start c.loop-global.writable c.requires.start c.loop-global.invariant.writable in
    let end : c.end_for.result ≡ end_of l sizes g.constant (start_of l sizes gs g.constant) (take k gs) =
    c.end_for.ensures ∙ kind_end l sizes gs (take k gs) g.constant c.loop-global.constants c.loop-global.writable c.loop-global.invariant.constants writable in
    let at : c.place-at.result ≡ place_behind l sizes (end_of l sizes g.constant (start_of l sizes gs g.constant) (take k gs)) g =
    c.place-at.ensures.place ∙ ap (λ (e : ℕ). place_behind l sizes e g) end in
    let low : c.place-at.result ≤ globals_limit = low_by c.place-at.result (place_behind l sizes (end_of l sizes g.constant (start_of l sizes gs g.constant) (take k gs)) g) at
    (place_low l sizes gs k g c.requires.fits c.loop-global-test.true c.global-item.is) in
    omega (arith, low)

pub end_behind-constants-requires-clause-fits : goal.end_behind-constants-requires-clause-fits
end_behind-constants-requires-clause-fits c = type_at c.args.layout.now c.args.sizes.now c.args.globals.now c.loop-global.global-index c.global-item.result c.requires.fits c.loop-global-test.true c.global-item.is

pub end_behind-constants-requires-clause-low : goal.end_behind-constants-requires-clause-low
end_behind-constants-requires-clause-low c =
    low_by c.loop-global.constants (end_of c.args.layout.now c.args.sizes.now true constants_start (take c.loop-global.global-index c.args.globals.now)) c.loop-global.invariant.constants
    (constants_low c.args.layout.now c.args.sizes.now c.args.globals.now c.loop-global.global-index c.requires.fits)

pub end_behind-writable-requires-clause-fits : goal.end_behind-writable-requires-clause-fits
end_behind-writable-requires-clause-fits c = type_at c.args.layout.now c.args.sizes.now c.args.globals.now c.loop-global.global-index c.global-item.result c.requires.fits c.loop-global-test.true c.global-item.is

pub end_behind-writable-requires-clause-low : goal.end_behind-writable-requires-clause-low
end_behind-writable-requires-clause-low c =
    low_by c.loop-global.writable (end_of c.args.layout.now c.args.sizes.now false (globals_start_of c.args.layout.now c.args.sizes.now c.args.globals.now) (take c.loop-global.global-index c.args.globals.now))
    (at_start c.args.layout.now c.args.sizes.now c.args.globals.now (take c.loop-global.global-index c.args.globals.now) c.args.start c.loop-global.writable c.requires.start c.loop-global.invariant.writable)
    (writable_low c.args.layout.now c.args.sizes.now c.args.globals.now c.loop-global.global-index c.requires.fits)

pub loop-global-preserved : goal.loop-global-preserved
loop-global-preserved c =
    let l = c.args.layout.now in
    let sizes = c.args.sizes.now in
    let gs = c.args.globals.now in
    let k = c.loop-global.global-index in
    let g = c.global-item.result in
    let writable = at_start l sizes gs (take k gs) c.args.start c.loop-global.writable c.requires.start c.loop-global.invariant.writable in
    let end : c.end_for.result ≡ end_of l sizes g.constant (start_of l sizes gs g.constant) (take k gs) =
    c.end_for.ensures ∙ kind_end l sizes gs (take k gs) g.constant c.loop-global.constants c.loop-global.writable c.loop-global.invariant.constants writable in
    let at : c.place-at.result ≡ address_behind l sizes gs (take k gs) g = c.place-at.ensures.place ∙ ap (λ (e : ℕ). place_behind l sizes e g) end in
    let listed = listed_next l sizes gs k c.place-at.result g c.loop-global.all c.loop-global-test.true c.global-item.is at c.loop-global.invariant.listed in
    record {
      constants = went_on l sizes true constants_start gs k g c.loop-global.constants c.end_behind-constants.result c.loop-global-test.true c.global-item.is c.loop-global.invariant.constants c.end_behind-constants.ensures;
      writable = went_on l sizes false c.args.start gs k g c.loop-global.writable c.end_behind-writable.result c.loop-global-test.true c.global-item.is c.loop-global.invariant.writable c.end_behind-writable.ensures;
      listed = rw c.in_ok-push.ensures.ok listed;
    }
