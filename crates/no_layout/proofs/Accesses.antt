-- What the answer of an access tells.
use Rattle.std.proofs.Common.{◌≡◌, ℕ, zero, suc, ◌+◌, ◌-◌, ◌<◌, ◌≤◌, ◌⊎◌, inl, inr, Bool, true, false, nat_le, if◌then◌else◌, Option, Some, None, refl, arith}
use Rattle.std.proofs.lemmas.Bool.{and_parts, cases_lt, leb-true, or_cases}
use Rattle.no_ir.specs.declared.ending.Trap.{Trap}
use Rattle.no_ir.specs.declared.ending.Trap.TheVariants.{BadAddress, ConstantWrite}
use Rattle.no_layout.specs.Memory.{AreFormed, access, answer, constants_start, first_absent, globals_start, heap_start, heap_end, in_constants, in_written, page_count, page_of, refusal, stack_start, stack_end, within}
use Rattle.no_layout.specs.declared.memory.Regions.{Regions}
use Rattle.no_layout.specs.declared.memory.Access.TheVariants.{Done, Missing, Refused}

-- ---- the three answers

is_done : (t : Option Trap) (m : Option ℕ) → answer t m ≡ Done → (t ≡ None) × (m ≡ None)
is_done (Some trap) m e = absurd cc
is_done None (Some page) e = absurd cc
is_done None None e = (refl, refl)

is_missing : (t : Option Trap) (m : Option ℕ) (p : ℕ) → answer t m ≡ Missing p → (t ≡ None) × (m ≡ Some p)
is_missing (Some trap) m p e = absurd cc
is_missing None (Some page) p e = (refl, cc)
is_missing None None p e = absurd cc

is_refused : (t : Option Trap) (m : Option ℕ) (trap : Trap) → answer t m ≡ Refused trap → t ≡ Some trap
is_refused (Some other) m trap e = cc
is_refused None (Some page) trap e = absurd cc
is_refused None None trap e = absurd cc

-- ---- pages

absent_of : (b : Bool) (later : Option ℕ) (p : ℕ) → (if b then later else Some p) ≡ None → (b ≡ true) × (later ≡ None)
absent_of true later p e = (refl, e)
absent_of false later p e = absurd cc

-- where none of some pages is absent, each is present
pub all_held : (held : ℕ → Bool) (p n : ℕ) → first_absent held p n ≡ None → (q : ℕ) → p ≤ q → q < p + n → held q ≡ true
all_held held p zero e q low high = absurd (omega arith)
all_held held p (suc n) e q low high =
    let parts = absent_of (held p) (first_absent held (p + 1) n) p e in
    elim (cases_lt p q) [
      | inl later ↦ all_held held (p + 1) n parts.1 q (omega arith) (omega arith)
      | inr here ↦ let same : q ≡ p = omega arith in rw same parts.0
    ]

first_of : (b : Bool) (later : Option ℕ) (p page : ℕ) → (if b then later else Some p) ≡ Some page → ((b ≡ true) × (later ≡ Some page)) ⊎ ((b ≡ false) × (p ≡ page))
first_of true later p page e = inl (refl, e)
first_of false later p page e = inr (refl, cc)

-- the page that is named is absent, and is one of these
pub named_absent : (held : ℕ → Bool) (p n page : ℕ) → first_absent held p n ≡ Some page → (held page ≡ false) × (p ≤ page) × (page < p + n)
named_absent held p zero page e = absurd cc
named_absent held p (suc n) page e =
    elim (first_of (held p) (first_absent held (p + 1) n) p page e) [
      | inl later ↦ let rest = named_absent held (p + 1) n page later.1 in (rest.0, omega arith, omega arith)
      | inr here ↦ (rw (← here.1) here.0, omega arith, omega arith)
    ]

pub full_none : (p n : ℕ) → first_absent (λ q. true) p n ≡ None
full_none p zero = refl
full_none p (suc n) = full_none (p + 1) n

-- ---- accesses

module _ (r : Regions) (held : ℕ → Bool) (write : Bool) (at n : ℕ) where
  -- where it is done, all its pages are present
  pub done_held : 0 < n → access r held write at n ≡ Done → (q : ℕ) → page_of at ≤ q → q ≤ page_of (at + n - 1) → held q ≡ true
  done_held some e q low high =
      let none = (is_done (refusal r write at n) (first_absent held (page_of at) (page_count at n)) e).1 in
      all_held held (page_of at) (page_count at n) none q low (omega arith)

  -- what it answers, it answers too where all pages are present, unless one is missing
  pub done_full : access r held write at n ≡ Done → access r (λ q. true) write at n ≡ Done
  done_full e =
      let parts = is_done (refusal r write at n) (first_absent held (page_of at) (page_count at n)) e in
      rw (parts.0, full_none (page_of at) (page_count at n)) refl

  pub refused_full : (trap : Trap) → access r held write at n ≡ Refused trap → access r (λ q. true) write at n ≡ Refused trap
  refused_full trap e =
      let is = is_refused (refusal r write at n) (first_absent held (page_of at) (page_count at n)) trap e in
      rw is refl

  -- where a page is missing, it is absent, one of the access, and the access is allowed
  pub missing_absent : (page : ℕ) → access r held write at n ≡ Missing page → held page ≡ false
  missing_absent page e =
      let parts = is_missing (refusal r write at n) (first_absent held (page_of at) (page_count at n)) page e in
      (named_absent held (page_of at) (page_count at n) page parts.1).0

  pub missing_full : (page : ℕ) → access r held write at n ≡ Missing page → access r (λ q. true) write at n ≡ Done
  missing_full page e =
      let parts = is_missing (refusal r write at n) (first_absent held (page_of at) (page_count at n)) page e in
      rw (parts.0, full_none (page_of at) (page_count at n)) refl

-- ---- bounds

allowed : (c w b : Bool) → (if c then (if b then Some ConstantWrite else None) else (if w then None else Some BadAddress)) ≡ None → (c ≡ true) ⊎ (w ≡ true)
allowed true w b e = inl refl
allowed false true b e = inr refl
allowed false false b e = absurd cc

end_within : (low high at n most : ℕ) → within low high at n ≡ true → high ≤ most → at + n ≤ most
end_within low high at n most h le =
    let parts = and_parts (nat_le low at) (nat_le (at + n) high) h in
    let end : at + n ≤ high = leb-true (at + n) high parts.1 in
    omega arith

-- an access that is done ends at the stack's end or below
pub done_within : (r : Regions) (held : ℕ → Bool) (write : Bool) (at n : ℕ) → AreFormed r → access r held write at n ≡ Done → at + n ≤ stack_end
done_within r held write at n formed e =
    let none = (is_done (refusal r write at n) (first_absent held (page_of at) (page_count at n)) e).0 in
    elim (allowed (in_constants r at n) (in_written r at n) write none) [
      | inl constants ↦ end_within constants_start r.constants_end at n stack_end constants (omega (arith, formed.globals, formed.limit))
      | inr others ↦ elim (or_cases (within (globals_start r) r.globals_end at n) _ others) [
        | inl globals ↦ end_within (globals_start r) r.globals_end at n stack_end globals (omega (arith, formed.limit))
        | inr more ↦ elim (or_cases (within heap_start heap_end at n) (within stack_start stack_end at n) more) [
          | inl heap ↦ end_within heap_start heap_end at n stack_end heap (omega arith)
          | inr stack ↦ end_within stack_start stack_end at n stack_end stack (omega arith)
        ]
      ]
    ]
