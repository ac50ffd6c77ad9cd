-- Widths of the values that instructions work on.
use Rattle.std.proofs.Common.{◌≡◌, ℕ, ◌^◌, ◌<◌, ◌≤◌, ◌⊎◌, inl, inr, Bool, true, false, ◌&&◌, ◌||◌, ◌==◌, nat_le, IsTrue, refl, arith}
use Rattle.std.proofs.lemmas.Bool.{eqb-true, leb-true}
use Rattle.no_ir.specs.declared.types.Ty.{Ty, out-Ty}
use Rattle.no_ir.specs.declared.types.Ty.TheOpen.{Ty-F}
use Rattle.no_layout.specs.Orders.{IsWidth}
use Rattle.no_layout.specs.Text.{is_formed}
use Rattle.no_layout.specs.declared.layout.Layout.{Layout}
use Rattle.no_semantics.specs.Sound.{is_width, is_scalar, is_scalar_step}
use Rattle.no_semantics.specs.Values.{bytes_of_width, width_of, width_step}

or_cases : (a b : Bool) → (a || b) ≡ true → (a ≡ true) ⊎ (b ≡ true)
or_cases true b e = inl refl
or_cases false b e = inr e

and_left : (a b : Bool) → (a && b) ≡ true → a ≡ true
and_left true b e = refl
and_left false b e = absurd cc

abbrev pub Known : ℕ → Type 0
Known w = (w ≡ 1) ⊎ ((w ≡ 8) ⊎ ((w ≡ 16) ⊎ ((w ≡ 32) ⊎ (w ≡ 64))))

pub known : (w : ℕ) → is_width w ≡ true → Known w
known w e = elim (or_cases (w == 1) (w == 8 || (w == 16 || (w == 32 || w == 64))) e) [
  | inl is ↦ inl (eqb-true w 1 is)
  | inr e ↦ inr (elim (or_cases (w == 8) (w == 16 || (w == 32 || w == 64)) e) [
    | inl is ↦ inl (eqb-true w 8 is)
    | inr e ↦ inr (elim (or_cases (w == 16) (w == 32 || w == 64) e) [
      | inl is ↦ inl (eqb-true w 16 is)
      | inr e ↦ inr (elim (or_cases (w == 32) (w == 64) e) [
        | inl is ↦ inl (eqb-true w 32 is)
        | inr is ↦ inr (eqb-true w 64 is)
      ])
    ])
  ])
]

pub bytes_width : (w : ℕ) → is_width w ≡ true → IsWidth (bytes_of_width w)
bytes_width w e = elim (known w e) [
  | inl is ↦ rw is (inl refl)
  | inr (inl is) ↦ rw is (inl refl)
  | inr (inr (inl is)) ↦ rw is (inr (inl refl))
  | inr (inr (inr (inl is))) ↦ rw is (inr (inr (inl refl)))
  | inr (inr (inr (inr is))) ↦ rw is (inr (inr (inr refl)))
]

at_most : (a b : ℕ) → nat_le a b ≡ true → a ≤ b
at_most a b e = leb-true a b e

pub bytes_room : (w : ℕ) → is_width w ≡ true → 2 ^ w ≤ 256 ^ bytes_of_width w
bytes_room w e = elim (known w e) [
  | inl is ↦ rw is (at_most (2 ^ 1) (256 ^ 1) refl)
  | inr (inl is) ↦ rw is (at_most (2 ^ 8) (256 ^ 1) refl)
  | inr (inr (inl is)) ↦ rw is (at_most (2 ^ 16) (256 ^ 2) refl)
  | inr (inr (inr (inl is))) ↦ rw is (at_most (2 ^ 32) (256 ^ 4) refl)
  | inr (inr (inr (inr is))) ↦ rw is (at_most (2 ^ 64) (256 ^ 8) refl)
]

pub some : (w : ℕ) → is_width w ≡ true → 0 < w
some w e = (let h : Known w = known w e in omega (arith, h))

pub most : (w : ℕ) → is_width w ≡ true → w ≤ 64
most w e = (let h : Known w = known w e in omega (arith, h))

pointer_is : (w : ℕ) → (w == 32 || w == 64) ≡ true → is_width w ≡ true
pointer_is w e = elim (or_cases (w == 32) (w == 64) e) [
  | inl is ↦ rw (eqb-true w 32 is) refl
  | inr is ↦ rw (eqb-true w 64 is) refl
]

pub pointer_width : (l : Layout) → IsTrue (is_formed l) → is_width l.pointer ≡ true
pointer_width l formed = pointer_is l.pointer (and_left (l.pointer == 32 || l.pointer == 64) _ formed)

shape_width : (l : Layout) (t : Ty-F Ty) → IsTrue (is_formed l) → is_scalar_step t ≡ true → is_width (width_step l t) ≡ true
shape_width l (Ty-F.Int w) formed e = e
shape_width l Ty-F.Ptr formed e = pointer_width l formed
shape_width l Ty-F.Void formed e = absurd cc
shape_width l (Ty-F.Array n u) formed e = absurd cc
shape_width l (Ty-F.Struct p us) formed e = absurd cc
shape_width l (Ty-F.Named k) formed e = absurd cc

pub scalar_width : (l : Layout) (t : Ty) → IsTrue (is_formed l) → is_scalar t ≡ true → is_width (width_of l t) ≡ true
scalar_width l t formed e = shape_width l (out-Ty t) formed e
