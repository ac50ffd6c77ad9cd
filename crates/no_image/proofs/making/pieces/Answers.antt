use Rattle.std.proofs.Common.{◌≡◌, ◌<◌, List, length, subst, ap, ◌∙◌, arith, true, refl, [], get_or}
use Rattle.no_ir.specs.declared.function.Module.{Module}
use Rattle.no_ir.specs.declared.function.GlobalVar.{GlobalVar}
use Rattle.no_semantics.specs.Sound.{is_sound}
use Rattle.no_semantics.proofs.Facts.{layout_formed, table_is}
use Rattle.no_image.proofs.Apart.{address_at, as_many_addresses, global_init, global_typed, piece_inside, piece_more, piece_none, inside_more, zero_bytes}
use Rattle.no_image.proofs.making.pieces.Goals as goal

pub loop-k-preserved-in-Zero : goal.loop-k-preserved-in-Zero
loop-k-preserved-in-Zero c =
    let a = c.args.sound.now in
    let sound : is_sound a.«module» a.layout a.sizes ≡ true = subst (λ (m : Module). is_sound m a.layout a.sizes ≡ true) c.module.ensures.value c.module.ensures.sound in
    let formed = layout_formed a.«module» a.layout a.sizes sound in
    let holds = table_is a.«module» a.layout a.sizes sound in
    let globals : c.as_slice-globals.result.now ≡ a.«module».globals = c.as_slice-globals.ensures ∙ ap (λ (m : Module). m.globals) c.module.ensures.value in
    let lt : c.loop-k.k < length a.«module».globals = subst (λ (gs : List GlobalVar). c.loop-k.k < length gs) globals c.loop-k-test.true in
    let g = c.index-globals-k.result in
    let is : g ≡ get_or a.«module».globals c.loop-k.k g = subst (λ (gs : List GlobalVar). g ≡ get_or gs c.loop-k.k g) globals c.index-globals-k.is in
    record {
      bytes = piece_none a formed holds c.requires.fits c.loop-k.k g lt is _ c.loop-k.all c.loop-k.invariant.bytes
          (zero_bytes a g.init g.ty c.in-Zero.is);
      inside = c.loop-k.invariant.inside;
    }

pub global_bytes-requires : goal.global_bytes-requires
global_bytes-requires c =
    let a = c.args.sound.now in
    let sound : is_sound a.«module» a.layout a.sizes ≡ true = subst (λ (m : Module). is_sound m a.layout a.sizes ≡ true) c.module.ensures.value c.module.ensures.sound in
    let formed = layout_formed a.«module» a.layout a.sizes sound in
    let holds = table_is a.«module» a.layout a.sizes sound in
    let globals : c.as_slice-globals.result.now ≡ a.«module».globals = c.as_slice-globals.ensures ∙ ap (λ (m : Module). m.globals) c.module.ensures.value in
    let lt : c.loop-k.k < length a.«module».globals = subst (λ (gs : List GlobalVar). c.loop-k.k < length gs) globals c.loop-k-test.true in
    let g = c.index-globals-k.result in
    let is : g ≡ get_or a.«module».globals c.loop-k.k g = subst (λ (gs : List GlobalVar). g ≡ get_or gs c.loop-k.k g) globals c.index-globals-k.is in
    record {
      addresses = c.requires.addresses;
      fits = global_typed a formed holds c.requires.fits c.loop-k.k g lt is;
      init = global_init a formed holds c.requires.fits c.loop-k.k g lt is;
    }

pub bounds-addresses-k : goal.bounds-addresses-k
bounds-addresses-k c =
    let a = c.args.sound.now in
    let globals : c.as_slice-globals.result.now ≡ a.«module».globals = c.as_slice-globals.ensures ∙ ap (λ (m : Module). m.globals) c.module.ensures.value in
    let lt : c.loop-k.k < length a.«module».globals = subst (λ (gs : List GlobalVar). c.loop-k.k < length gs) globals c.loop-k-test.true in
    let many = ap length c.requires.addresses ∙ as_many_addresses a.layout a.sizes a.«module».globals [] a.«module».globals in
    omega (arith, many, lt)

pub loop-k-preserved : goal.loop-k-preserved
loop-k-preserved c =
    let a = c.args.sound.now in
    let sound : is_sound a.«module» a.layout a.sizes ≡ true = subst (λ (m : Module). is_sound m a.layout a.sizes ≡ true) c.module.ensures.value c.module.ensures.sound in
    let formed = layout_formed a.«module» a.layout a.sizes sound in
    let holds = table_is a.«module» a.layout a.sizes sound in
    let globals : c.as_slice-globals.result.now ≡ a.«module».globals = c.as_slice-globals.ensures ∙ ap (λ (m : Module). m.globals) c.module.ensures.value in
    let lt : c.loop-k.k < length a.«module».globals = subst (λ (gs : List GlobalVar). c.loop-k.k < length gs) globals c.loop-k-test.true in
    let g = c.index-globals-k.result in
    let is : g ≡ get_or a.«module».globals c.loop-k.k g = subst (λ (gs : List GlobalVar). g ≡ get_or gs c.loop-k.k g) globals c.index-globals-k.is in
    let at = address_at a.layout a.sizes a.«module».globals c.args.addresses.now a.«module».globals c.loop-k.k g (get_or c.args.addresses.now c.loop-k.k 0) 0 refl c.requires.addresses lt is refl in
    record {
      bytes = rw c.in_ok-push.ensures.ok
          (piece_more a formed holds c.requires.fits c.loop-k.k g lt is _ c.loop-k.all (get_or c.args.addresses.now c.loop-k.k 0) c.in_ok-bytes.bytes c.loop-k.invariant.bytes at c.in_ok-bytes.ensures);
      inside = rw c.in_ok-push.ensures.ok
          (inside_more _ c.loop-k.all (get_or c.args.addresses.now c.loop-k.k 0) c.in_ok-bytes.bytes c.loop-k.invariant.inside
          (piece_inside a formed holds c.requires.fits c.loop-k.k g lt is (get_or c.args.addresses.now c.loop-k.k 0) c.in_ok-bytes.bytes at c.in_ok-bytes.ensures));
    }
