-- Blocks that rise, one more at the end.
use Rattle.std.proofs.Common.{◌≡◌, ℕ, ◌+◌, ◌<◌, ◌≤◌, List, [], ◌∷◌, ◌++◌, length, take, refl, sym, ap, subst, ◌∙◌, arith}
use Rattle.std.proofs.lemmas.List.{take_more, take_all, length-take-le}
use Rattle.no_heap.specs.declared.block.Block.{Block}
use Rattle.no_heap.specs.declared.block.TheConstants.{HEAP_START, MOST_BLOCKS}
use Rattle.no_heap.specs.Blocks.{IsFormed, IsRising, AreLive, IsFirstBad, StandsAbove, block_end}
use Rattle.no_heap.proofs.Ordered.{nth}

-- the end of the last block, or `low` where there is none
abbrev pub end_of : ℕ → List Block → ℕ
end_of low [] = low
end_of low (b ∷ bs) = end_of (block_end b) bs

pub rising_push : (low : ℕ) (xs : List Block) (b : Block) → IsRising low xs → IsFormed b → end_of low xs ≤ b.at → IsRising low (xs ++ b ∷ [])
rising_push low [] b r f h = (f, h, tt)
rising_push low (x ∷ xs) b r f h = (r.0, r.1, rising_push (block_end x) xs b r.2 f h)

pub rising_last : (low : ℕ) (xs : List Block) (b : Block) → IsRising low (xs ++ b ∷ []) → IsFormed b × (end_of low xs ≤ b.at)
rising_last low [] b r = (r.0, r.1)
rising_last low (x ∷ xs) b r = rising_last (block_end x) xs b r.2

pub end_push : (low : ℕ) (xs : List Block) (b : Block) → end_of low (xs ++ b ∷ []) ≡ block_end b
end_push low [] b = refl
end_push low (x ∷ xs) b = end_push (block_end x) xs b

-- the first `i` of the blocks may stand, and end here
pub record StandsTo (bs : List Block) (i end : ℕ) : Type 0 where
  pub few : i ≤ MOST_BLOCKS
  pub rising : IsRising HEAP_START (take i bs)
  pub ends : end ≡ end_of HEAP_START (take i bs)

pub stands_none : (bs : List Block) → StandsTo bs 0 HEAP_START
stands_none bs = record { few = omega arith; rising = tt; ends = refl }

pub stands_more : (bs : List Block) (i end : ℕ) → StandsTo bs i end → i < length bs → (i ≡ MOST_BLOCKS → ⊥) → StandsAbove end (nth bs i) → StandsTo bs (i + 1) (block_end (nth bs i))
stands_more bs i end s within few stands =
    let more : take (i + 1) bs ≡ take i bs ++ nth bs i ∷ [] = take_more bs i (record { at = 0; size = 0 }) within in
    let last : end_of HEAP_START (take i bs) ≤ (nth bs i).at = omega (arith, s.ends, stands.above) in
    record {
      few = omega (arith, s.few, few);
      rising = subst (IsRising HEAP_START) (sym more) (rising_push HEAP_START (take i bs) (nth bs i) s.rising stands.formed last);
      ends = sym (ap (end_of HEAP_START) more ∙ end_push HEAP_START (take i bs) (nth bs i));
    }

front_live : (bs : List Block) (i end : ℕ) → StandsTo bs i end → i < length bs → AreLive (take i bs)
front_live bs i end s within = record { few = omega (arith, s.few, length-take-le i bs (omega arith)); rising = s.rising }

pub bad_full : (bs : List Block) (i end : ℕ) → StandsTo bs i end → i < length bs → i ≡ MOST_BLOCKS → IsFirstBad bs i
bad_full bs i end s within full = record {
  within = within;
  front = front_live bs i end s within;
  bad = λ live. absurd (omega (arith, live.few, length-take-le (i + 1) bs (omega arith)));
}

pub bad_here : (bs : List Block) (i end : ℕ) → StandsTo bs i end → i < length bs → (StandsAbove end (nth bs i) → ⊥) → IsFirstBad bs i
bad_here bs i end s within not_standing = record {
  within = within;
  front = front_live bs i end s within;
  bad = λ live.
      let more : take (i + 1) bs ≡ take i bs ++ nth bs i ∷ [] = take_more bs i (record { at = 0; size = 0 }) within in
      let last = rising_last HEAP_START (take i bs) (nth bs i) (subst (IsRising HEAP_START) more live.rising) in
      not_standing (record { formed = last.0; above = subst (λ (k : ℕ). k ≤ (nth bs i).at) (sym s.ends) last.1 });
}

pub all_stand : (bs : List Block) (i end : ℕ) → StandsTo bs i end → i ≡ length bs → AreLive bs
all_stand bs i end s e =
    let whole : take i bs ≡ bs = take_all i bs (omega arith) in
    record { few = omega (arith, s.few); rising = subst (IsRising HEAP_START) whole s.rising }
