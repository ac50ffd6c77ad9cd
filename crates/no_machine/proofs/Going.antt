-- What a cell meant whose instruction touches no memory.
use Rattle.std.proofs.Common.{◌≡◌, ℕ, ◌+◌, Bool, List, [], length, slice_set, Option, Some, None, Result, Ok, Err, refl, sym, ap, subst, ◌∙◌}
use Rattle.no_ir.specs.declared.ending.Trap.{Trap}
use Rattle.no_layout.specs.Memory.{Agrees}
use Rattle.no_semantics.specs.Results.{Valued, Number, reading, valued}
use Rattle.no_semantics.specs.Rows.{Row, Stuck, computed, needed, trapping}
use Rattle.no_semantics.specs.Spans.{AreHeld}
use Rattle.no_semantics.specs.States.{State, assigned}
use Rattle.no_semantics.specs.Values.{Program}
use Rattle.no_code.specs.Slots.{IsInto}
use Rattle.no_machine.specs.Did.{Gave, Wrote}
use Rattle.no_machine.specs.Standing.{HasGone, IsFrameAt, Means}
use Rattle.no_machine.specs.declared.did.Did.{Did}
use Rattle.no_machine.specs.declared.did.Did.TheVariants as did
use Rattle.no_machine.proofs.Framing.{assigned_at}

-- ---- a row that is not stuck has the numbers of its operands

abbrev pub Live : Row → Type 0
Live row = row.next ≡ Stuck → ⊥

pub one_known : (o : Option ℕ) (make : ℕ → Valued) (into : Option ℕ) (s : State) → Live (computed into (reading o make) s) → (u : ℕ) × (o ≡ Some u)
one_known None make into s live = absurd (live refl)
one_known (Some u) make into s live = (u, refl)

pub two_known : (o q : Option ℕ) (make : ℕ → ℕ → Valued) (into : Option ℕ) (s : State) → Live (computed into (reading o (λ x. reading q (λ y. make x y))) s) → (u v : ℕ) × (o ≡ Some u) × (q ≡ Some v)
two_known None q make into s live = absurd (live refl)
two_known (Some u) None make into s live = absurd (live refl)
two_known (Some u) (Some v) make into s live = (u, v, refl, refl)

pub three_known : (o q r : Option ℕ) (make : ℕ → ℕ → ℕ → Valued) (into : Option ℕ) (s : State) → Live (computed into (reading o (λ x. reading q (λ y. reading r (λ z. make x y z)))) s)
    → (u v w : ℕ) × (o ≡ Some u) × (q ≡ Some v) × (r ≡ Some w)
three_known None q r make into s live = absurd (live refl)
three_known (Some u) None r make into s live = absurd (live refl)
three_known (Some u) (Some v) None make into s live = absurd (live refl)
three_known (Some u) (Some v) (Some w) make into s live = (u, v, w, refl, refl, refl)

pub none_needed : (held : ℕ → Bool) → AreHeld held []
none_needed held page none = absurd none

-- ---- what was written

module _ (p : Program) (s : State) (at : ℕ) (old : List ℕ) (sp : ℕ) (held : ℕ → Bool) (byte : ℕ → ℕ) (here : IsFrameAt p.«module» s.frame at old) (stack : s.sp ≡ sp) (agrees : Agrees held byte s.byte) where
  -- a number became the result
  pub number_written : (row : Row) (into : Option ℕ) (x n : ℕ) (new : List ℕ) (after : ℕ → ℕ) (sp_after : ℕ) → row ≡ computed into (Number n) s → IsInto (length s.frame.registers) into x
      → after ≡ byte → sp_after ≡ sp → new ≡ slice_set old x n → HasGone p (at + 1) new sp_after held after s row
  number_written row into x n new after sp_after e is bytes same slots = record {
    state = record s { frame = assigned into n s.frame };
    next = ap (λ (r : Row). r.next) e;
    cost = ap (λ (r : Row). r.cost) e;
    frame = subst (λ (l : List ℕ). IsFrameAt p.«module» (assigned into n s.frame) (at + 1) l) (sym slots) (assigned_at p.«module» s.frame at old into x n is here);
    saved = refl;
    callers = refl;
    sp_is = stack ∙ sym same;
    heap = refl;
    input = refl;
    agrees = subst (λ (f : ℕ → ℕ). Agrees held f s.byte) (sym bytes) agrees;
    present = subst (λ (r : Row). AreHeld held (needed r)) (sym e) (none_needed held);
  }

  pub wrote_means : (row : Row) (into : Option ℕ) (x n : ℕ) (new : List ℕ) (after : ℕ → ℕ) (sp_after : ℕ) (d : Did) → row ≡ computed into (Number n) s → IsInto (length s.frame.registers) into x
      → after ≡ byte → sp_after ≡ sp → Wrote n x old new d → Means p at old new sp sp_after held byte after s row d
  wrote_means row into x n new after sp_after d e is bytes same wrote =
      subst (λ (k : Did). Means p at old new sp sp_after held byte after s row k) (sym wrote.0) (number_written row into x n new after sp_after e is bytes same wrote.1)

  -- a trap came
  pub trapped_means : (row : Row) (t : Trap) (new : List ℕ) (after : ℕ → ℕ) (sp_after : ℕ) (d : Did) → row ≡ trapping t → d ≡ did.Trapped t → new ≡ old → after ≡ byte → sp_after ≡ sp → Means p at old new sp sp_after held byte after s row d
  trapped_means row t new after sp_after d e is slots bytes same =
      subst (λ (k : Did). Means p at old new sp sp_after held byte after s row k) (sym is) (e, record { slots = slots; bytes = bytes; stack = same })

  pub gave_means : (row : Row) (into : Option ℕ) (x : ℕ) (result : Result ℕ Trap) (new : List ℕ) (after : ℕ → ℕ) (sp_after : ℕ) (d : Did) → row ≡ computed into (valued result) s → IsInto (length s.frame.registers) into x
      → after ≡ byte → sp_after ≡ sp → Gave result x old new d → Means p at old new sp sp_after held byte after s row d
  gave_means row into x (Ok n) new after sp_after d e is bytes same gave = wrote_means row into x n new after sp_after d e is bytes same gave
  gave_means row into x (Err t) new after sp_after d e is bytes same gave = trapped_means row t new after sp_after d e gave.0 gave.1 bytes same
