-- A memory of which only some pages are held, and a whole one that agrees with it there.
use Rattle.std.proofs.Common.{◌≡◌, ◌≢◌, ℕ, zero, suc, ◌+◌, ◌-◌, ◌*◌, ◌/◌, ◌<◌, ◌≤◌, inl, inr, Bool, true, false, nat_eq, get_or, List, length, refl, sym, ap, ◌∙◌, arith}
use Rattle.std.proofs.lemmas.Bool.{cases_lt, ne_eqb}
use Rattle.no_layout.specs.Memory.{Agrees, access, also, page_of, read_bytes, written}
use Rattle.no_layout.specs.declared.memory.Access.TheVariants.{Done}
use Rattle.no_layout.specs.declared.memory.Regions.{Regions}
use Rattle.no_layout.proofs.Accesses.{done_held}
use Rattle.no_layout.proofs.Overlay.{above, below, inside}

-- supplying an absent page changes no byte that was known
pub supplied_keeps : (held : ℕ → Bool) (byte : ℕ → ℕ) (p : ℕ) (bs : List ℕ) → held p ≡ false → length bs ≡ 4096 → (a : ℕ) → held (page_of a) ≡ true → written byte (4096 * p) bs a ≡ byte a
supplied_keeps held byte p bs absent len a known = elim (cases_lt a (4096 * p)) [
  | inl under ↦ below byte (4096 * p) bs a under
  | inr from ↦ elim (cases_lt a (4096 * p + 4096)) [
    | inl still ↦ (let same : a / 4096 ≡ p = omega arith in absurd (let both : true ≡ false = sym known ∙ ap held same ∙ absent in cc))
    | inr past ↦ above byte (4096 * p) bs a (omega (arith, len))
  ]
]

-- what a read that is done gives is the same in each memory that agrees on the pages held
pub reads_agree : (f g : ℕ → ℕ) (at n : ℕ) → ((a : ℕ) → at ≤ a → a < at + n → f a ≡ g a) → read_bytes f at n ≡ read_bytes g at n
reads_agree f g at zero same = refl
reads_agree f g at (suc n) same =
    let more = reads_agree f g (at + 1) n (λ a low high. same a (omega arith) (omega arith)) in
    let here = same at (omega arith) (omega arith) in
    rw (here, more) refl

pub done_agrees : (r : Regions) (held : ℕ → Bool) (write : Bool) (byte whole : ℕ → ℕ) (at n : ℕ) → 0 < n → access r held write at n ≡ Done → Agrees held byte whole → read_bytes byte at n ≡ read_bytes whole at n
done_agrees r held write byte whole at n some done same = reads_agree byte whole at n (λ a low high. same a (done_held r held write at n some done (a / 4096) (omega arith) (omega arith)))

-- the same bytes written in both leave them in agreement
pub writes_agree : (held : ℕ → Bool) (byte whole : ℕ → ℕ) (at : ℕ) (bs : List ℕ) → Agrees held byte whole → Agrees held (written byte at bs) (written whole at bs)
writes_agree held byte whole at bs same a known = elim (cases_lt a at) [
  | inl under ↦ below byte at bs a under ∙ same a known ∙ sym (below whole at bs a under)
  | inr from ↦ elim (cases_lt a (at + length bs)) [
    | inl still ↦ inside byte at bs a from still ∙ sym (inside whole at bs a from still)
    | inr past ↦ above byte at bs a past ∙ same a known ∙ sym (above whole at bs a past)
  ]
]

length_read : (f : ℕ → ℕ) (at n : ℕ) → length (read_bytes f at n) ≡ n
length_read f at zero = refl
length_read f at (suc n) = ap suc (length_read f (at + 1) n)

read_at : (f : ℕ → ℕ) (at n k : ℕ) → k < n → get_or (read_bytes f at n) k 0 ≡ f (at + k)
read_at f at zero k lt = absurd (omega arith)
read_at f at (suc n) zero lt = (let there : at ≡ at + zero = omega arith in ap f there)
read_at f at (suc n) (suc k) lt = read_at f (at + 1) n k (omega arith) ∙ (let there : at + 1 + k ≡ at + suc k = omega arith in ap f there)

other_page : (p q : ℕ) → p ≢ q → (held : ℕ → Bool) → also held p q ≡ true → held q ≡ true
other_page p q apart held e = (let no : nat_eq q p ≡ false = ne_eqb q p (λ same. apart (sym same)) in rw no at e)

-- a page of the whole memory that is supplied leaves both in agreement
pub supplied_agrees : (held : ℕ → Bool) (byte whole : ℕ → ℕ) (p : ℕ) → Agrees held byte whole → Agrees (also held p) (written byte (4096 * p) (read_bytes whole (4096 * p) 4096)) whole
supplied_agrees held byte whole p same a known = elim (cases_lt a (4096 * p)) [
  | inl under ↦ (let apart : p ≢ a / 4096 = (λ (e : p ≡ a / 4096). absurd (omega arith)) in below byte (4096 * p) bs a under ∙ same a (other_page p (a / 4096) apart held known))
  | inr from ↦ elim (cases_lt a (4096 * p + 4096)) [
    | inl still ↦ (let all = len in inside byte (4096 * p) bs a from (omega (arith, all)) ∙ read_at whole (4096 * p) 4096 (a - 4096 * p) (omega arith) ∙ (let there : 4096 * p + (a - 4096 * p) ≡ a = omega arith in ap whole there))
    | inr past ↦ (let all = len in let apart : p ≢ a / 4096 = (λ (e : p ≡ a / 4096). absurd (omega arith)) in above byte (4096 * p) bs a (omega (arith, all)) ∙ same a (other_page p (a / 4096) apart held known))
  ]
]
  where
    bs : List ℕ
    bs = read_bytes whole (4096 * p) 4096

    len : length (read_bytes whole (4096 * p) 4096) ≡ 4096
    len = length_read whole (4096 * p) 4096
