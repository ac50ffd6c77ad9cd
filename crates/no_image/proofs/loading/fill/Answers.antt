use Rattle.std.proofs.Common.{◌≡◌, ◌-◌, ◌<◌, ◌∙◌, ℕ, Bool, false, true, length, refl, ap, arith}
use Rattle.no_layout.specs.Memory.{access, page_count, page_of}
use Rattle.no_layout.specs.declared.memory.Access.TheVariants.{Done}
use Rattle.no_layout.proofs.Accesses.{done_within, full_none}
use Rattle.no_pages.specs.Table.{regions_of}
use Rattle.no_image.proofs.Apart.{inside_at}
use Rattle.no_image.proofs.loading.fill.Goals as goal

pub fill-requires : goal.fill-requires
fill-requires c = λ p low high.
    let r = regions_of c.args.memory.now in
    let before : c.loop-left.left - 1 < length c.args.pieces.now = omega (arith, c.loop-left.invariant.within, c.loop-left-test.true) in
    let here = inside_at r c.args.pieces.now (c.loop-left.left - 1) c.index-pieces-left.result c.requires.inside before c.index-pieces-left.is in
    let at = c.index-pieces-left.result.0 in
    let n = length c.index-pieces-left.result.1 in
    let done : access r (λ q. true) false at n ≡ Done = rw (here, full_none (page_of at) (page_count at n)) refl in
    let end = done_within r (λ q. true) false at n c.requires.formed done in
    let long : length c.as_slice.result.now ≡ length c.index-pieces-left.result.1 = ap length c.as_slice.ensures in
    ap (λ (h : ℕ → Bool). h p) c.loop-left.invariant.held ∙ c.requires.held p (omega (arith, end, long, low, high))
