-- Blocks at rising places, as a map from places to sizes.
use Rattle.std.proofs.Common.{◌≡◌, ℕ, zero, suc, ◌+◌, ◌<◌, ◌≤◌, ◌==◌, if◌then◌else◌, List, [], ◌∷◌, get_or, refl, sym, ap, subst, ◌∙◌, ◌⊎◌, arith, inl, inr}
use Rattle.std.proofs.lemmas.Bool.{cond-true, cond-false, eq-eqb, ne_eqb, lt-ltb, le-ltb, cases_lt, cases_order}
use Rattle.no_heap.specs.declared.block.Block.{Block}
use Rattle.no_heap.specs.Blocks.{IsRising, block_end, size_at, behind, without_at, set_block}

-- the block of an index below the length
abbrev pub nth : List Block → ℕ → Block
nth bs i = get_or bs i (record { at = 0; size = 0 })

-- places that rise from `low` on, each with a block of some size
abbrev pub IsOrdered : ℕ → List Block → Type 0
IsOrdered low [] = Unit {0}
IsOrdered low (b ∷ bs) = (low ≤ b.at) × (0 < b.size) × IsOrdered (b.at + 1) bs

pub ordered_lower : (low less : ℕ) (bs : List Block) → less ≤ low → IsOrdered low bs → IsOrdered less bs
ordered_lower low less [] h o = tt
ordered_lower low less (b ∷ bs) h o = (omega (arith, o.0), o.1, o.2)

pub ordered_rising : (low : ℕ) (bs : List Block) → IsRising low bs → IsOrdered low bs
ordered_rising low [] r = tt
ordered_rising low (b ∷ bs) r = (r.1, r.0.some, ordered_lower (block_end b) (b.at + 1) bs (omega (arith, r.0.some)) (ordered_rising (block_end b) bs r.2))

-- ---- what a list says of a place

pub size_here : (b : Block) (bs : List Block) (q : ℕ) → b.at ≡ q → size_at (b ∷ bs) q ≡ b.size
size_here b bs q e = cond-true (b.at == q) b.size (size_at bs q) (eq-eqb b.at q e)

pub size_past : (b : Block) (bs : List Block) (q : ℕ) → (b.at ≡ q → ⊥) → size_at (b ∷ bs) q ≡ size_at bs q
size_past b bs q n = cond-false (b.at == q) b.size (size_at bs q) (ne_eqb b.at q n)

pub none_below : (low p : ℕ) (bs : List Block) → IsOrdered low bs → p < low → size_at bs p ≡ 0
none_below low p [] o h = refl
none_below low p (b ∷ bs) o h = size_past b bs p (λ e. omega (arith, o.0)) ∙ none_below (b.at + 1) p bs o.2 (omega (arith, o.0))

-- ---- one place changed

pub behind_none : (p s : ℕ) (bs : List Block) → s ≡ 0 → behind p s bs ≡ bs
behind_none p s bs e = cond-true (s == 0) bs (record { at = p; size = s } ∷ bs) (eq-eqb s 0 e)

pub behind_some : (p s : ℕ) (bs : List Block) → 0 < s → behind p s bs ≡ record { at = p; size = s } ∷ bs
behind_some p s bs h = cond-false (s == 0) bs (record { at = p; size = s } ∷ bs) (ne_eqb s 0 (λ e. omega arith))

pub set_below : (b : Block) (bs : List Block) (p s : ℕ) → b.at < p → set_block (b ∷ bs) p s ≡ b ∷ set_block bs p s
set_below b bs p s h = cond-true _ (b ∷ set_block bs p s) (behind p s (without_at p b bs)) (lt-ltb b.at p h)

pub set_here : (b : Block) (bs : List Block) (p s : ℕ) → b.at ≡ p → set_block (b ∷ bs) p s ≡ behind p s bs
set_here b bs p s e =
    cond-false _ (b ∷ set_block bs p s) (behind p s (without_at p b bs)) (le-ltb b.at p (omega arith))
    ∙ ap (behind p s) (cond-true (b.at == p) bs (b ∷ bs) (eq-eqb b.at p e))

pub set_above : (b : Block) (bs : List Block) (p s : ℕ) → p < b.at → set_block (b ∷ bs) p s ≡ behind p s (b ∷ bs)
set_above b bs p s h =
    cond-false _ (b ∷ set_block bs p s) (behind p s (without_at p b bs)) (le-ltb b.at p (omega arith))
    ∙ ap (behind p s) (cond-false (b.at == p) bs (b ∷ bs) (ne_eqb b.at p (λ e. omega arith)))

behind_size_here : (p s : ℕ) (bs : List Block) → size_at bs p ≡ 0 → size_at (behind p s bs) p ≡ s
behind_size_here p zero bs none = none
behind_size_here p (suc s) bs none = ap (λ (xs : List Block). size_at xs p) (behind_some p (suc s) bs (omega arith)) ∙ size_here (record { at = p; size = suc s }) bs p refl

behind_size_past : (p s q : ℕ) (bs : List Block) → (p ≡ q → ⊥) → size_at (behind p s bs) q ≡ size_at bs q
behind_size_past p zero q bs n = refl
behind_size_past p (suc s) q bs n = ap (λ (xs : List Block). size_at xs q) (behind_some p (suc s) bs (omega arith)) ∙ size_past (record { at = p; size = suc s }) bs q n

pub set_size_here : (low p s : ℕ) (bs : List Block) → IsOrdered low bs → size_at (set_block bs p s) p ≡ s
set_size_here low p s [] o = behind_size_here p s [] refl
set_size_here low p s (b ∷ bs) o = elim (cases_order b.at p) [
  | inl e ↦ ap (λ (xs : List Block). size_at xs p) (set_here b bs p s e) ∙ behind_size_here p s bs (none_below (b.at + 1) p bs o.2 (omega arith))
  | inr (inl h) ↦ ap (λ (xs : List Block). size_at xs p) (set_below b bs p s h) ∙ size_past b (set_block bs p s) p (λ e. omega arith) ∙ set_size_here (b.at + 1) p s bs o.2
  | inr (inr h) ↦ ap (λ (xs : List Block). size_at xs p) (set_above b bs p s h) ∙ behind_size_here p s (b ∷ bs) (none_below (p + 1) p (b ∷ bs) (omega arith, o.1, o.2) (omega arith))
]

pub set_size_past : (low p s q : ℕ) (bs : List Block) → IsOrdered low bs → (p ≡ q → ⊥) → size_at (set_block bs p s) q ≡ size_at bs q
set_size_past low p s q [] o n = behind_size_past p s q [] n
set_size_past low p s q (b ∷ bs) o n = elim (cases_order b.at p) [
  | inl e ↦ ap (λ (xs : List Block). size_at xs q) (set_here b bs p s e) ∙ behind_size_past p s q bs n ∙ sym (size_past b bs q (λ d. n (sym e ∙ d)))
  | inr (inl h) ↦ ap (λ (xs : List Block). size_at xs q) (set_below b bs p s h) ∙ same_past b (set_block bs p s) bs q (set_size_past (b.at + 1) p s q bs o.2 n)
  | inr (inr h) ↦ ap (λ (xs : List Block). size_at xs q) (set_above b bs p s h) ∙ behind_size_past p s q (b ∷ bs) n
]
  where
    same_past : (b : Block) (xs ys : List Block) (q : ℕ) → size_at xs q ≡ size_at ys q → size_at (b ∷ xs) q ≡ size_at (b ∷ ys) q
    same_past b xs ys q e = ap (λ (k : ℕ). if b.at == q then b.size else k) e

behind_ordered : (low p s : ℕ) (bs : List Block) → low ≤ p → IsOrdered (p + 1) bs → IsOrdered low (behind p s bs)
behind_ordered low p zero bs h o = ordered_lower (p + 1) low bs (omega arith) o
behind_ordered low p (suc s) bs h o = subst (IsOrdered low) (sym (behind_some p (suc s) bs (omega arith))) (h, omega arith, o)

pub set_ordered : (low p s : ℕ) (bs : List Block) → low ≤ p → IsOrdered low bs → IsOrdered low (set_block bs p s)
set_ordered low p s [] h o = behind_ordered low p s [] h tt
set_ordered low p s (b ∷ bs) h o = elim (cases_order b.at p) [
  | inl e ↦ subst (IsOrdered low) (sym (set_here b bs p s e)) (behind_ordered low p s bs h (ordered_lower (b.at + 1) (p + 1) bs (omega arith) o.2))
  | inr (inl g) ↦ subst (IsOrdered low) (sym (set_below b bs p s g)) (o.0, o.1, set_ordered (b.at + 1) p s bs (omega arith) o.2)
  | inr (inr g) ↦ subst (IsOrdered low) (sym (set_above b bs p s g)) (behind_ordered low p s (b ∷ bs) h (omega arith, o.1, o.2))
]

-- ---- lists with the same sizes at all places are equal

pub ordered_same : (low : ℕ) (xs ys : List Block) → IsOrdered low xs → IsOrdered low ys → ((p : ℕ) → size_at xs p ≡ size_at ys p) → xs ≡ ys
ordered_same low [] [] o u same = refl
ordered_same low [] (y ∷ ys) o u same = absurd (omega (arith, same y.at, size_here y ys y.at refl, u.1))
ordered_same low (x ∷ xs) [] o u same = absurd (omega (arith, same x.at, size_here x xs x.at refl, o.1))
ordered_same low (x ∷ xs) (y ∷ ys) o u same = by (cases_order x.at y.at) (ordered_same (x.at + 1) xs ys o.2)
  where
    rest_same : x.at ≡ y.at → (p : ℕ) → size_at xs p ≡ size_at ys p
    rest_same e p = elim (cases_lt x.at p) [
      | inl h ↦ sym (size_past x xs p (λ d. omega arith)) ∙ same p ∙ size_past y ys p (λ d. omega arith)
      | inr h ↦ none_below (x.at + 1) p xs o.2 (omega arith) ∙ sym (none_below (y.at + 1) p ys u.2 (omega arith))
    ]

    by : (x.at ≡ y.at) ⊎ ((x.at < y.at) ⊎ (y.at < x.at)) → (IsOrdered (x.at + 1) ys → ((p : ℕ) → size_at xs p ≡ size_at ys p) → xs ≡ ys) → x ∷ xs ≡ y ∷ ys
    by (inl e) more =
        let sizes : x.size ≡ y.size = sym (size_here x xs x.at refl) ∙ same x.at ∙ size_here y ys x.at (sym e) in
        let rest = more (ordered_lower (y.at + 1) (x.at + 1) ys (omega arith) u.2) (rest_same e) in
        λ i. record { at = e i; size = sizes i } ∷ rest i
    by (inr (inl h)) more = absurd (omega (arith, same x.at, size_here x xs x.at refl, o.1, none_below y.at x.at (y ∷ ys) (omega arith, u.1, u.2) h))
    by (inr (inr h)) more = absurd (omega (arith, same y.at, size_here y ys y.at refl, u.1, none_below x.at y.at (x ∷ xs) (omega arith, o.1, o.2) h))
