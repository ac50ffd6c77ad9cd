-- A machine that is given a page stands where it stood.
use Rattle.std.proofs.Common.{◌≡◌, ◌∙◌, sym, ap, subst, refl, ℕ, ◌+◌, ◌-◌, ◌*◌, ◌/◌, ◌&&◌, ◌||◌, nat_le, nat_lt, if◌then◌else◌, Bool, true, false, List, length, slice_index, Result, Ok, Err, OnOk, OnErr, inl, inr, arith}
use Rattle.std.proofs.lemmas.Bool.{cases_eq, cases_Bool, le-leb, leb-true, lt-ltb, ltb-true, ne_eqb}
use Rattle.no_layout.specs.Memory.{Agrees, also, page_of, written}
use Rattle.no_layout.specs.declared.memory.Regions.{Regions}
use Rattle.no_lib.specs.declared.env.Env.{Env}
use Rattle.no_semantics.specs.Accepted.{Accepted}
use Rattle.no_semantics.specs.States.{State}
use Rattle.no_machine.specs.Booted.{HasPage}
use Rattle.no_machine.specs.Ran.{IsAt, program_of}
use Rattle.no_machine.specs.Turning.{program_with}
use Rattle.no_machine.specs.declared.machine.Machine.{Machine}

-- ---- bytes

written_at : (byte : ℕ → ℕ) (at : ℕ) (bytes : List ℕ) (a : ℕ) (low high : Bool) → nat_le at a ≡ low → nat_lt a (at + length bytes) ≡ high → written byte at bytes a ≡ (if low && high then slice_index bytes (a - at) else byte a)
written_at byte at bytes a low high e f = rw (e, f) refl

module _ (held : ℕ → Bool) (byte whole : ℕ → ℕ) (page : ℕ) (bytes : List ℕ) (long : length bytes ≡ 4096) (agrees : Agrees held byte whole) (is : HasPage whole page bytes) where
  inside : (a : ℕ) → page_of a ≡ page → written byte (4096 * page) bytes a ≡ whole a
  inside a there =
      let division : a / 4096 ≡ page = there in
      let low : nat_le (4096 * page) a ≡ true = le-leb (4096 * page) a (omega (arith, division)) in
      let high : nat_lt a (4096 * page + length bytes) ≡ true = lt-ltb a (4096 * page + length bytes) (omega (arith, division, long)) in
      let back : 4096 * page + (a - 4096 * page) ≡ a = omega (arith, division) in
      written_at byte (4096 * page) bytes a true true low high ∙ is (a - 4096 * page) (omega (arith, division, long)) ∙ ap whole back

  outside : (a : ℕ) → (page_of a ≡ page → ⊥) → byte a ≡ whole a → written byte (4096 * page) bytes a ≡ whole a
  outside a other same = elim (cases_Bool (nat_le (4096 * page) a)) [
    | inl low ↦ elim (cases_Bool (nat_lt a (4096 * page + length bytes))) [
      | inl high ↦ absurd (other (omega (arith, long, leb-true (4096 * page) a low, ltb-true a (4096 * page + length bytes) high)))
      | inr high ↦ written_at byte (4096 * page) bytes a true false low high ∙ same
    ]
    | inr low ↦ written_at byte (4096 * page) bytes a false (nat_lt a (4096 * page + length bytes)) low refl ∙ same
  ]

  held_before : (q : ℕ) → (q ≡ page → ⊥) → also held page q ≡ true → held q ≡ true
  held_before q other has = sym (ap (λ (b : Bool). b || held q) (ne_eqb q page other)) ∙ has

  pub agrees_with : Agrees (also held page) (written byte (4096 * page) bytes) whole
  agrees_with a has = elim (cases_eq (page_of a) page) [
    | inl there ↦ inside a there
    | inr other ↦ outside a other (agrees a (held_before (page_of a) other has))
  ]

-- ---- machines

module _ {M : Type 0} (byte : M → ℕ → ℕ) (held : M → ℕ → Bool) (regions : M → Regions) (old : Machine M) (mem : M) (page : ℕ) (bytes : List ℕ) (long : length bytes ≡ 4096) (same_regions : regions mem ≡ regions old.core.mem) where
  abbrev new : Machine M
  new = record old { core = record old.core { mem = mem } }

  over : (a : Accepted) (env : Env) (more : List ℕ) (s : State) → Agrees (held mem) (byte mem) s.byte → IsAt byte held (program_of regions a old) old env more s → IsAt byte held (program_of regions a new) new env more s
  over a env more s agrees at = subst (λ (r : Regions). IsAt byte held (program_with a old.addresses r) new env more s) (sym same_regions) (record {
    here = record { stands = at.here.stands; agrees = agrees; never = at.here.never };
    blocks = at.blocks;
    rest = at.rest;
    last = at.last;
  })

  pub at_supplied : {A E : Type 0} (result : Result A E) → OnOk result (byte mem ≡ written (byte old.core.mem) (4096 * page) bytes) → OnOk result (held mem ≡ also (held old.core.mem) page) → OnErr result (byte mem ≡ byte old.core.mem) → OnErr result (held mem ≡ held old.core.mem)
      → (a : Accepted) (env : Env) (more : List ℕ) (s : State) → HasPage s.byte page bytes → IsAt byte held (program_of regions a old) old env more s → IsAt byte held (program_of regions a new) new env more s
  at_supplied (Ok x) gave has same lacks a env more s is at =
      over a env more s (subst (λ (f : ℕ → ℕ). Agrees (held mem) f s.byte) (sym gave) (subst (λ (h : ℕ → Bool). Agrees h (written (byte old.core.mem) (4096 * page) bytes) s.byte) (sym has)
      (agrees_with (held old.core.mem) (byte old.core.mem) s.byte page bytes long at.here.agrees is))) at
  at_supplied (Err e) gave has same lacks a env more s is at =
      over a env more s (subst (λ (f : ℕ → ℕ). Agrees (held mem) f s.byte) (sym same) (subst (λ (h : ℕ → Bool). Agrees h (byte old.core.mem) s.byte) (sym lacks) at.here.agrees)) at
