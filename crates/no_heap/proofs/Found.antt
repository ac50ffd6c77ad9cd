-- A block found by halving.
use Rattle.std.proofs.Common.{◌≡◌, ℕ, zero, suc, ◌+◌, ◌<◌, ◌≤◌, List, [], ◌∷◌, length, refl, ◌∙◌, arith, inl, inr}
use Rattle.std.proofs.lemmas.Bool.{cases_lt, cases_eq}
use Rattle.no_heap.specs.declared.block.Block.{Block}
use Rattle.no_heap.specs.declared.block.TheConstants.{HEAP_START}
use Rattle.no_heap.specs.Blocks.{AreLive, size_at}
use Rattle.no_heap.proofs.Ordered.{IsOrdered, nth, ordered_rising, size_past}

rises_between : (low : ℕ) (bs : List Block) (i j : ℕ) → IsOrdered low bs → i < j → j < length bs → (nth bs i).at < (nth bs j).at
rises_between low [] i j o h k = absurd (omega arith)
rises_between low (b ∷ bs) i zero o h k = absurd (omega arith)
rises_between low (b ∷ bs) zero (suc j) o h k = omega (arith, above (b.at + 1) bs j o.2 (omega arith))
  where
    above : (low : ℕ) (bs : List Block) (j : ℕ) → IsOrdered low bs → j < length bs → low ≤ (nth bs j).at
    above low [] j o k = absurd (omega arith)
    above low (b ∷ bs) zero o k = o.0
    above low (b ∷ bs) (suc j) o k = omega (arith, o.0, above (b.at + 1) bs j o.2 (omega arith))
rises_between low (b ∷ bs) (suc i) (suc j) o h k = rises_between (b.at + 1) bs i j o.2 (omega arith) (omega arith)

-- the blocks in front of `low` begin below an address, and those from `high` on above it
pub record Between (bs : List Block) (addr low high : ℕ) : Type 0 where
  pub most : high ≤ length bs
  pub below : (k : ℕ) → k < low → (nth bs k).at < addr
  pub above : (k : ℕ) → high ≤ k → k < length bs → addr < (nth bs k).at

pub between_none : (bs : List Block) (addr : ℕ) → Between bs addr 0 (length bs)
between_none bs addr = record { most = omega arith; below = λ k h. absurd (omega arith); above = λ k h w. absurd (omega arith) }

pub between_low : (bs : List Block) (addr low high middle : ℕ) → AreLive bs → Between bs addr low high → middle < high → (nth bs middle).at < addr → Between bs addr (middle + 1) high
between_low bs addr low high middle live b within h = record {
  most = b.most;
  below = λ k w. elim (cases_eq k middle) [
    | inl same ↦ let at : (nth bs k).at ≡ (nth bs middle).at = λ i. (nth bs (same i)).at in omega (arith, at, h)
    | inr other ↦ omega (arith, rises_between HEAP_START bs k middle (ordered_rising HEAP_START bs live.rising) (omega arith) (omega (arith, b.most)), h)
  ];
  above = b.above;
}

pub between_high : (bs : List Block) (addr low high middle : ℕ) → AreLive bs → Between bs addr low high → middle < high → addr < (nth bs middle).at → Between bs addr low middle
between_high bs addr low high middle live b within h = record {
  most = omega (arith, b.most);
  below = b.below;
  above = λ k g w. elim (cases_eq k middle) [
    | inl same ↦ let at : (nth bs k).at ≡ (nth bs middle).at = λ i. (nth bs (same i)).at in omega (arith, at, h)
    | inr other ↦ omega (arith, rises_between HEAP_START bs middle k (ordered_rising HEAP_START bs live.rising) (omega arith) w, h)
  ];
}

none_at : (bs : List Block) (addr : ℕ) → ((k : ℕ) → k < length bs → (nth bs k).at ≡ addr → ⊥) → size_at bs addr ≡ 0
none_at [] addr n = refl
none_at (b ∷ bs) addr n = size_past b bs addr (n 0 (omega arith)) ∙ none_at bs addr (λ k h. n (suc k) (omega arith))

pub between_all : (bs : List Block) (addr low high : ℕ) → Between bs addr low high → high ≤ low → size_at bs addr ≡ 0
between_all bs addr low high b end = none_at bs addr (λ k h e. elim (cases_lt k low) [
  | inl below ↦ omega (arith, b.below k below, e)
  | inr not ↦ omega (arith, b.above k (omega arith) h, e)
])
