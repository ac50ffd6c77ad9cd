-- What an accepted module gives the machine.
use Rattle.std.proofs.Common.{◌≡◌, ℕ, inl, inr, Bool, true, false, ◌&&◌, ◌||◌, ◌==◌, ◌<◌, ◌≤◌, arith, IsTrue, List, slice_get, get_or, Option, Some, None, refl, ◌∙◌, ap}
use Rattle.std.specs.Option.{IfSome}
use Rattle.std.specs.List.{list_all}
use Rattle.std.proofs.lemmas.Bool.{cases_Bool, or_cases, eqb-true}
use Rattle.std.proofs.lemmas.List.Folds.{list_all_at}
use Rattle.std.proofs.lemmas.Option.{slice_get_within, get_or_from_slice_get}
use Rattle.no_ir.specs.declared.function.Block.{Block}
use Rattle.no_ir.specs.declared.function.Function.{Function}
use Rattle.no_ir.specs.declared.function.Module.{Module}
use Rattle.no_layout.specs.Text.{is_formed}
use Rattle.no_layout.specs.declared.extent.Extent.{Extent}
use Rattle.no_layout.specs.declared.layout.Layout.{Layout}
use Rattle.no_sound.specs.Sound.{is_sound, block_fits, function_fits, table_holds}
use Rattle.no_sound.specs.Blocks.{block_in, given}

pub both : (a b : Bool) → (a && b) ≡ true → (a ≡ true) × (b ≡ true)
both true b e = (refl, e)
both false b e = absurd cc

true_is : (b : Bool) → b ≡ true → IsTrue b
true_is b e = e

each_at : {A : Type 0} (p : A → Bool) (xs : List A) (k : ℕ) (x : A) → list_all p xs ≡ true → slice_get xs k ≡ Some x → p x ≡ true
each_at p xs k x all is = elim (cases_Bool (p x)) [
  | inl holds ↦ holds
  | inr fails ↦
      let at : get_or xs k x ≡ x = get_or_from_slice_get xs k x x is in
      let some : list_all p xs ≡ false = list_all_at p xs k x (slice_get_within xs k x is) (ap p at ∙ fails) in
      absurd cc
]

pub layout_formed : (m : Module) (l : Layout) (sizes : List Extent) → is_sound m l sizes ≡ true → IsTrue (is_formed l)
unfolding is_sound
layout_formed m l sizes e = true_is (is_formed l) (both (is_formed l) (table_holds l sizes 0 m.types && list_all (function_fits m l sizes) m.functions) e).0

-- the table has the numbers of each named type
pub table_is : (m : Module) (l : Layout) (sizes : List Extent) → is_sound m l sizes ≡ true → table_holds l sizes 0 m.types ≡ true
unfolding is_sound
table_is m l sizes e =
    (both (table_holds l sizes 0 m.types) (list_all (function_fits m l sizes) m.functions) (both (is_formed l) (table_holds l sizes 0 m.types && list_all (function_fits m l sizes) m.functions) e).1).0

block_of : (m : Module) (l : Layout) (sizes : List Extent) (b : ℕ) (o : Option Function) (g : ℕ) → slice_get m.functions g ≡ o → list_all (function_fits m l sizes) m.functions ≡ true
    → IfSome (given None o (λ (f : Function). slice_get f.blocks b)) (λ (b : Block). block_fits m l sizes b ≡ true)
block_of m l sizes b None g is e = tt
block_of m l sizes b (Some f) g is e = block_from m l sizes f b (slice_get f.blocks b) refl (each_at (function_fits m l sizes) m.functions g f e is)
  where
    block_from : (m : Module) (l : Layout) (sizes : List Extent) (f : Function) (b : ℕ) (o : Option Block) → slice_get f.blocks b ≡ o → function_fits m l sizes f ≡ true
        → IfSome o (λ (b : Block). block_fits m l sizes b ≡ true)
    block_from m l sizes f b None is e = tt
    block_from m l sizes f b (Some block) is e = each_at (block_fits m l sizes) f.blocks b block e is

pub block_fits_in : (m : Module) (l : Layout) (sizes : List Extent) (g b : ℕ) → is_sound m l sizes ≡ true → IfSome (block_in m g b) (λ (b : Block). block_fits m l sizes b ≡ true)
unfolding is_sound
block_fits_in m l sizes g b e =
    block_of m l sizes b (slice_get m.functions g) g refl
    (both (table_holds l sizes 0 m.types) (list_all (function_fits m l sizes) m.functions) (both (is_formed l) (table_holds l sizes 0 m.types && list_all (function_fits m l sizes) m.functions) e).1).1

-- ---- the width of a pointer

width_is : (w : ℕ) → (w == 32 || w == 64) ≡ true → (0 < w) × (w ≤ 64)
width_is w e = elim (or_cases (w == 32) (w == 64) e) [
  | inl is ↦ (let h : w ≡ 32 = eqb-true w 32 is in (omega (arith, h), omega (arith, h)))
  | inr is ↦ (let h : w ≡ 64 = eqb-true w 64 is in (omega (arith, h), omega (arith, h)))
]

pub pointer_some : (l : Layout) → IsTrue (is_formed l) → 0 < l.pointer
pointer_some l formed = (width_is l.pointer (both (l.pointer == 32 || l.pointer == 64) _ formed).0).0

pub pointer_most : (l : Layout) → IsTrue (is_formed l) → l.pointer ≤ 64
pointer_most l formed = (width_is l.pointer (both (l.pointer == 32 || l.pointer == 64) _ formed).0).1
