-- A frame that got a result, or that was reached along an edge, stands in its window.
use Rattle.std.proofs.Common.{◌≡◌, ℕ, ◌+◌, ◌<◌, ◌≤◌, inl, inr, List, [], ◌∷◌, ◌++◌, length, take, slice_get, slice_set, Option, Some, None, refl, sym, ap, subst, ◌∙◌, arith}
use Rattle.std.proofs.lemmas.Bool.{cases_lt, cases_eq}
use Rattle.std.proofs.lemmas.List.{length-take-le, set_past}
use Rattle.std.proofs.lemmas.Option.{slice_get_within, same_Some}
use Rattle.no_ir.specs.declared.function.Module.{Module}
use Rattle.no_semantics.specs.Registers.{Registers}
use Rattle.no_semantics.specs.States.{Frame, put_into, assigned, moved}
use Rattle.no_code.specs.Slots.{IsInto}
use Rattle.no_machine.specs.Standing.{Covers, IsFrameAt}
use Rattle.no_machine.proofs.Lists.{get_more, get_take, set_elsewhere, set_length, set_there}

-- ---- windows

pub covers_more : (registers : Registers) (window more : List ℕ) → Covers registers window → Covers registers (window ++ more)
covers_more registers window more c = record {
  few = c.few;
  room = omega (arith, c.room, long window more);
  each = λ r n e. get_more window more r n (c.each r n e);
}
  where
    long : (xs ys : List ℕ) → length xs ≤ length (xs ++ ys)
    long [] ys = omega arith
    long (x ∷ xs) ys = omega (arith, long xs ys)

pub covers_take : (registers : Registers) (window : List ℕ) (k : ℕ) → length registers < k → k ≤ length window → Covers registers window → Covers registers (take k window)
covers_take registers window k low high c = record {
  few = c.few;
  room = omega (arith, low, length-take-le k window high);
  each = λ r n e. get_take k window r n (omega (arith, low, slice_get_within registers r (Some n) e)) (c.each r n e);
}

-- a slot behind all registers was written
covers_spare : (registers : Registers) (window : List ℕ) (x n : ℕ) → length registers ≤ x → Covers registers window → Covers registers (slice_set window x n)
covers_spare registers window x n le c = record {
  few = c.few;
  room = omega (arith, c.room, set_length window x n);
  each = λ r m e. set_elsewhere window x r n (λ same. absurd (omega (arith, same, le, slice_get_within registers r (Some m) e))) ∙ c.each r m e;
}

-- a register and its slot were written
covers_register : (registers : Registers) (window : List ℕ) (q n : ℕ) → q < length registers → Covers registers window → Covers (slice_set registers q (Some n)) (slice_set window q n)
covers_register registers window q n lt c = record {
  few = omega (arith, c.few, set_length registers q (Some n));
  room = omega (arith, c.room, set_length window q n, set_length registers q (Some n));
  each = λ r m e. elim (cases_eq q r) [
    | inl same ↦ (
        let there : Some (Some n) ≡ Some (Some m) = sym (set_there registers q (Some n) lt) ∙ ap (λ (k : ℕ). slice_get (slice_set registers q (Some n)) k) same ∙ e in
        let number : n ≡ m = same_Some n m (same_Some (Some n) (Some m) there) in
        ap (λ (k : ℕ). slice_get (slice_set window q n) k) (sym same) ∙ set_there window q n (omega (arith, lt, c.room)) ∙ ap Some number
        )
    | inr other ↦ set_elsewhere window q r n other ∙ c.each r m (sym (set_elsewhere registers q r (Some n) other) ∙ e)
  ];
}

pub put_length : (into : Option ℕ) (n : ℕ) (registers : Registers) → length (put_into into n registers) ≡ length registers
put_length None n registers = refl
put_length (Some q) n registers = set_length registers q (Some n)

pub covers_put : (into : Option ℕ) (registers : Registers) (window : List ℕ) (x n : ℕ) → IsInto (length registers) into x → Covers registers window → Covers (put_into into n registers) (slice_set window x n)
covers_put None registers window x n is c = covers_spare registers window x n (omega (arith, is)) c
covers_put (Some q) registers window x n is c = elim (cases_lt q (length registers)) [
  | inl lt ↦ subst (λ (k : ℕ). Covers (slice_set registers q (Some n)) (slice_set window k n)) (sym (is.0 lt)) (covers_register registers window q n lt c)
  | inr le ↦ subst (λ (rs : Registers). Covers rs (slice_set window x n)) (sym (set_past registers q (Some n) le)) (covers_spare registers window x n (omega (arith, is.1 le)) c)
]

-- any register and the slot of its number
pub covers_set : (registers : Registers) (window : List ℕ) (q n : ℕ) → Covers registers window → Covers (slice_set registers q (Some n)) (slice_set window q n)
covers_set registers window q n c = elim (cases_lt q (length registers)) [
  | inl lt ↦ covers_register registers window q n lt c
  | inr le ↦ subst (λ (rs : Registers). Covers rs (slice_set window q n)) (sym (set_past registers q (Some n) le)) (covers_spare registers window q n le c)
]

-- ---- frames

-- the result of an instruction was written
pub assigned_at : (m : Module) (f : Frame) (at : ℕ) (window : List ℕ) (into : Option ℕ) (x n : ℕ) → IsInto (length f.registers) into x → IsFrameAt m f at window → IsFrameAt m (assigned into n f) (at + 1) (slice_set window x n)
assigned_at m f at window into x n is there = record {
  function = there.function;
  is = there.is;
  long = put_length into n f.registers ∙ there.long;
  place = omega (arith, there.place);
  covers = covers_put into f.registers window x n is there.covers;
}

-- the next instruction comes
pub moved_at : (m : Module) (f : Frame) (at : ℕ) (window : List ℕ) → IsFrameAt m f at window → IsFrameAt m (moved f) (at + 1) window
moved_at m f at window there = record {
  function = there.function;
  is = there.is;
  long = there.long;
  place = omega (arith, there.place);
  covers = there.covers;
}
