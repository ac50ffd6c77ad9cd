use Rattle.std.proofs.Common.{◌≡◌, ◌*◌, ◌≤◌, ◌<◌, ℕ, length, slice_index_or, arith, inl, inr, subst, sym}
use Rattle.std.proofs.lemmas.Bool.{cases_lt}
use Rattle.no_lib.proofs.Counted.{is_two}
use Rattle.no_semantics.specs.Externals.{do_calloc, with_two}
use Rattle.no_machine.proofs.Touching.{calloc_large, calloc_none, calloc_touch, two_of}
use Rattle.no_machine.specs.Watching.{IsEffectTouch}
use Rattle.no_machine.specs.declared.watch.Touch.TheVariants as touch
use Rattle.no_machine.proofs.watch.cleared.Goals as goal

not_below : (a b : ℕ) → (a < b → ⊥) → b ≤ a
not_below a b n = elim (cases_lt a b) [ inl h ↦ absurd (n h) | inr h ↦ h ]

pub returns-in_default-checked_mul-clause-touch : goal.returns-in_default-checked_mul-clause-touch
returns-in_default-checked_mul-clause-touch c =
    let args = c.args.numbers.now in
    let x = slice_index_or args 0 0 in
    let y = slice_index_or args 1 0 in
    let long : length args ≡ 2 = omega arith in
    λ w same. two_of touch.Nothing args x y do_calloc w (is_two args long) (calloc_large x y c.args.heap.now w c.blocks-blocks.ensures.live (not_below (x * y) 18446744073709551616 c.in_default-checked_mul.ensures) same)

pub returns-in-Some-place_for-clause-touch : goal.returns-in-Some-place_for-clause-touch
returns-in-Some-place_for-clause-touch c =
    let args = c.args.numbers.now in
    let x = slice_index_or args 0 0 in
    let y = slice_index_or args 1 0 in
    let long : length args ≡ 2 = omega arith in
    λ w same. subst (λ (k : ℕ). IsEffectTouch (touch.Bytes k c.in-Some.product) (with_two args do_calloc w)) (sym c.from.ensures) (two_of (touch.Bytes c.in-Some-place_for.place c.in-Some.product) args x y do_calloc w (is_two args long) (calloc_touch x y c.in-Some.product c.in-Some-place_for.place c.args.heap.now w c.in-Some.ensures.1 c.in-Some-place_for.ensures.value same))

pub returns-in-None-clause-touch : goal.returns-in-None-clause-touch
returns-in-None-clause-touch c =
    let args = c.args.numbers.now in
    let x = slice_index_or args 0 0 in
    let y = slice_index_or args 1 0 in
    let long : length args ≡ 2 = omega arith in
    λ w same. two_of touch.Nothing args x y do_calloc w (is_two args long) (calloc_none x y c.in-Some.product c.args.heap.now w c.in-Some.ensures.1 c.in-None.ensures.value same)
