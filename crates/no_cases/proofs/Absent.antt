-- A page that a read of one byte lacks.
use Rattle.std.proofs.Common.{◌≡◌, ℕ, ◌+◌, ◌-◌, ◌≤◌, ◌<◌, Bool, false, Option, Some, None, refl, sym, ap, ◌∙◌, arith}
use Rattle.no_ir.specs.declared.ending.Trap.{Trap}
use Rattle.no_layout.proofs.Accesses.{named_absent}
use Rattle.no_layout.specs.Memory.{IsPage, access, answer, first_absent, page_count, page_of, refusal}
use Rattle.no_layout.specs.declared.memory.Access.TheVariants.{Missing}
use Rattle.no_layout.specs.declared.memory.Regions.{Regions}

missing_of : (t : Option Trap) (a : Option ℕ) (p : ℕ) → answer t a ≡ Missing p → (t ≡ None) × (a ≡ Some p)
missing_of (Some trap) a p e = absurd cc
missing_of None (Some page) p e = (refl, cc)
missing_of None None p e = absurd cc

one_page : (at : ℕ) → page_count at 1 ≡ 1
one_page at = let e : at + 1 - 1 ≡ at = omega arith in ap (λ (a : ℕ). page_of a + 1 - page_of at) e ∙ omega arith

pub is_absent : (r : Regions) (held : ℕ → Bool) (at p : ℕ) → access r held false at 1 ≡ Missing p → held p ≡ false
is_absent r held at p e =
    let parts = missing_of (refusal r false at 1) (first_absent held (page_of at) (page_count at 1)) p e in
    (named_absent held (page_of at) (page_count at 1) p parts.1).0

pub is_inside : (r : Regions) (held : ℕ → Bool) (at p : ℕ) → access r held false at 1 ≡ Missing p → IsPage r p
is_inside r held at p e =
    let parts = missing_of (refusal r false at 1) (first_absent held (page_of at) (page_count at 1)) p e in
    let named = named_absent held (page_of at) (page_count at 1) p parts.1 in
    (at, omega (arith, one_page at, named.1, named.2), parts.0)
