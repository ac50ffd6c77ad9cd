-- A block put in at a gap, and a block taken out.
use Rattle.std.proofs.Common.{◌≡◌, ℕ, zero, suc, ◌+◌, ◌%◌, ◌<◌, ◌≤◌, Bool, true, false, nat_le, nat_lt, if◌then◌else◌, Some, None, List, [], ◌∷◌, length, drop, get_or, ◌⊎◌, inl, inr, refl, sym, ap, subst, ◌∙◌, arith}
use Rattle.std.specs.Prelude.{All}
use Rattle.std.specs.List.{insert, remove}
use Rattle.std.proofs.lemmas.Bool.{leb-true, ltb-true, le-leb, lt-leb, cond-true, cond-false, cases_order}
use Rattle.std.proofs.lemmas.List.{drop_more, drop_all}
use Rattle.std.proofs.lemmas.List.Edits.{length-insert, length-remove}
use Rattle.no_heap.specs.declared.block.Block.{Block}
use Rattle.no_heap.specs.declared.block.TheConstants.{HEAP_START, HEAP_END, MOST_BLOCKS}
use Rattle.no_heap.specs.Blocks.{IsFormed, IsRising, AreLive, block_end, size_at, set_block, IsBlockAt}
use Rattle.no_heap.specs.Fit.{first_gap, IsGapAt, fit, rounded}
use Rattle.no_heap.specs.Search.{Along, gap_index}
use Rattle.no_heap.proofs.Gaps.{first_fits}
use Rattle.no_heap.proofs.Ordered.{IsOrdered, nth, ordered_rising, size_here, size_past, behind_some, behind_none, set_below, set_here, set_above}

-- ---- the first gap

abbrev made : ℕ → ℕ → Block
made p size = record { at = p; size = size }

-- what is put in at the first gap
put_first : (low size p : ℕ) (bs : List Block) → 0 < size → IsRising low bs → first_gap low size bs ≡ Some p → (insert bs (gap_index low size bs) (made p size) ≡ set_block bs p size) × (low ≤ p) × (p + size ≤ HEAP_END)
put_first low size p [] some r is = by (nat_le (low + size) HEAP_END) refl is
  where
    by : (t : Bool) → nat_le (low + size) HEAP_END ≡ t → (if t then Some low else None) ≡ Some p → (made p size ∷ [] ≡ set_block [] p size) × (low ≤ p) × (p + size ≤ HEAP_END)
    by true e i = let same : low ≡ p = cc in (sym (behind_some p size [] some), omega arith, omega (arith, leb-true (low + size) HEAP_END e))
    by false e i = absurd cc
put_first low size p (b ∷ bs) some r is = by (nat_le (low + size) b.at) refl is (put_first (block_end b) size p bs some r.2)
  where
    by : (t : Bool) → nat_le (low + size) b.at ≡ t → (if t then Some low else first_gap (block_end b) size bs) ≡ Some p
        → (first_gap (block_end b) size bs ≡ Some p → (insert bs (gap_index (block_end b) size bs) (made p size) ≡ set_block bs p size) × (block_end b ≤ p) × (p + size ≤ HEAP_END))
        → (insert (b ∷ bs) (if t then 0 else suc (gap_index (block_end b) size bs)) (made p size) ≡ set_block (b ∷ bs) p size) × (low ≤ p) × (p + size ≤ HEAP_END)
    by true e i more =
        let same : low ≡ p = cc in
        let room = leb-true (low + size) b.at e in
        (sym (set_above b bs p size (omega arith) ∙ behind_some p size (b ∷ bs) some), omega arith, omega (arith, r.0.below))
    by false e i more =
        let rest = more i in
        (ap (λ (xs : List Block). b ∷ xs) rest.0 ∙ sym (set_below b bs p size (omega (arith, rest.1, r.0.some))), omega (arith, rest.1, r.1), rest.2)

pub along_none : (bs : List Block) (size : ℕ) → AreLive bs → Along bs size HEAP_START 0
along_none bs size r = record { gap = refl; index = omega arith; rising = r.rising; most = omega arith }

next : (bs : List Block) (i : ℕ) → i < length bs → drop i bs ≡ nth bs i ∷ drop (i + 1) bs
next bs i within = drop_more bs i (record { at = 0; size = 0 }) within

pub along_formed : (bs : List Block) (size at i : ℕ) → Along bs size at i → i < length bs → IsFormed (nth bs i)
along_formed bs size at i a within = let r = subst (IsRising at) (next bs i within) a.rising in r.0

pub along_more : (bs : List Block) (size at i : ℕ) → Along bs size at i → i < length bs → (nth bs i).at < at + size → Along bs size (block_end (nth bs i)) (i + 1)
along_more bs size at i a within short =
    let r = subst (IsRising at) (next bs i within) a.rising in
    let test : nat_le (at + size) (nth bs i).at ≡ false = lt-leb (at + size) (nth bs i).at short in
    record {
      gap = sym (ap (first_gap at size) (next bs i within) ∙ cond-false (nat_le (at + size) (nth bs i).at) (Some at) (first_gap (block_end (nth bs i)) size (drop (i + 1) bs)) test) ∙ a.gap;
      index = omega (arith, ap (gap_index at size) (next bs i within) ∙ cond-false (nat_le (at + size) (nth bs i).at) 0 (suc (gap_index (block_end (nth bs i)) size (drop (i + 1) bs))) test, a.index);
      rising = r.2;
      most = r.0.below;
    }

found : (bs : List Block) (size at i : ℕ) → 0 < size → AreLive bs → Along bs size at i → i ≤ length bs → first_gap at size (drop i bs) ≡ Some at → gap_index at size (drop i bs) ≡ 0 → IsGapAt bs size i at
found bs size at i some r a within gap none =
    let first = sym a.gap ∙ gap in
    let put = put_first HEAP_START size at bs some r.rising first in
    let here : i ≡ gap_index HEAP_START size bs = omega (arith, a.index) in
    record { first = first; within = within; room = put.2; put = ap (λ (k : ℕ). insert bs k (made at size)) here ∙ put.0 }

pub along_here : (bs : List Block) (size at i : ℕ) → 0 < size → AreLive bs → Along bs size at i → i < length bs → at + size ≤ (nth bs i).at → IsGapAt bs size i at
along_here bs size at i some r a within room =
    let test : nat_le (at + size) (nth bs i).at ≡ true = le-leb (at + size) (nth bs i).at room in
    found bs size at i some r a (omega arith)
    (ap (first_gap at size) (next bs i within) ∙ cond-true (nat_le (at + size) (nth bs i).at) (Some at) (first_gap (block_end (nth bs i)) size (drop (i + 1) bs)) test)
    (ap (gap_index at size) (next bs i within) ∙ cond-true (nat_le (at + size) (nth bs i).at) 0 (suc (gap_index (block_end (nth bs i)) size (drop (i + 1) bs))) test)

pub along_end : (bs : List Block) (size at i : ℕ) → 0 < size → AreLive bs → Along bs size at i → i ≡ length bs → at + size ≤ HEAP_END → IsGapAt bs size (length bs) at
along_end bs size at i some r a end room =
    let none : drop i bs ≡ [] = drop_all i bs (omega arith) in
    subst (λ (k : ℕ). IsGapAt bs size k at) end (found bs size at i some r a (omega arith)
    (ap (first_gap at size) none ∙ cond-true (nat_le (at + size) HEAP_END) (Some at) None (le-leb (at + size) HEAP_END room))
    (ap (gap_index at size) none))

pub along_full : (bs : List Block) (size at i : ℕ) → Along bs size at i → i ≡ length bs → HEAP_END < at + size → first_gap HEAP_START size bs ≡ None
along_full bs size at i a end short =
    let none : drop i bs ≡ [] = drop_all i bs (omega arith) in
    sym a.gap ∙ ap (first_gap at size) none ∙ cond-false (nat_le (at + size) HEAP_END) (Some at) None (lt-leb (at + size) HEAP_END short)

-- ---- the block at an address

at_above : (low : ℕ) (bs : List Block) (i : ℕ) (d : Block) → IsOrdered low bs → i < length bs → low ≤ (get_or bs i d).at
at_above low [] i d o h = absurd (omega arith)
at_above low (b ∷ bs) zero d o h = o.0
at_above low (b ∷ bs) (suc i) d o h = omega (arith, at_above (b.at + 1) bs i d o.2 (omega arith), o.0)

gone_at : (low : ℕ) (bs : List Block) (i addr : ℕ) (d : Block) → IsOrdered low bs → i < length bs → (get_or bs i d).at ≡ addr → (remove bs i ≡ set_block bs addr 0) × (0 < size_at bs addr)
gone_at low [] i addr d o h at = absurd (omega arith)
gone_at low (b ∷ bs) zero addr d o h at = (sym (set_here b bs addr 0 at ∙ behind_none addr 0 bs refl), omega (arith, size_here b bs addr at, o.1))
gone_at low (b ∷ bs) (suc i) addr d o h at =
    let later = at_above (b.at + 1) bs i d o.2 (omega arith) in
    let under : b.at < addr = omega (arith, later) in
    let rest = gone_at (b.at + 1) bs i addr d o.2 (omega arith) at in
    (ap (λ (xs : List Block). b ∷ xs) rest.0 ∙ sym (set_below b bs addr 0 under), omega (arith, size_past b bs addr (λ e. omega arith), rest.1))

pub block_at : (bs : List Block) (i addr : ℕ) → AreLive bs → i < length bs → (nth bs i).at ≡ addr → IsBlockAt bs addr i
block_at bs i addr r within at =
    let gone = gone_at HEAP_START bs i addr (record { at = 0; size = 0 }) (ordered_rising HEAP_START bs r.rising) within at in
    record { within = within; there = gone.1; gone = gone.0 }

pub no_block_yet : (bs : List Block) (i addr : ℕ) → i < length bs → ((nth bs i).at ≡ addr → ⊥) → size_at (drop i bs) addr ≡ size_at bs addr → size_at (drop (i + 1) bs) addr ≡ size_at bs addr
no_block_yet bs i addr within other so_far = sym (ap (λ (xs : List Block). size_at xs addr) (next bs i within) ∙ size_past (nth bs i) (drop (i + 1) bs) addr other) ∙ so_far

pub no_block : (bs : List Block) (i addr : ℕ) → i ≡ length bs → size_at (drop i bs) addr ≡ size_at bs addr → size_at bs addr ≡ 0
no_block bs i addr end so_far = sym so_far ∙ ap (λ (xs : List Block). size_at xs addr) (drop_all i bs (omega arith))

-- ---- what is left may stand

pub rising_lower : (low less : ℕ) (bs : List Block) → less ≤ low → IsRising low bs → IsRising less bs
rising_lower low less [] h r = tt
rising_lower low less (b ∷ bs) h r = (r.0, omega (arith, r.1), r.2)

rising_gone : (low p : ℕ) (bs : List Block) → IsRising low bs → IsRising low (set_block bs p 0)
rising_gone low p [] r = tt
rising_gone low p (b ∷ bs) r = elim (cases_order b.at p) [
  | inl e ↦ subst (IsRising low) (sym (set_here b bs p 0 e)) (rising_lower (block_end b) low bs (omega (arith, r.1)) r.2)
  | inr (inl h) ↦ subst (IsRising low) (sym (set_below b bs p 0 h)) (r.0, r.1, rising_gone (block_end b) p bs r.2)
  | inr (inr h) ↦ subst (IsRising low) (sym (set_above b bs p 0 h)) r
]

pub live_gone : (bs : List Block) (addr index : ℕ) → AreLive bs → IsBlockAt bs addr index → AreLive (set_block bs addr 0)
live_gone bs addr index live at = record {
  few = omega (arith, live.few, ap length at.gone, length-remove bs index at.within);
  rising = rising_gone HEAP_START addr bs live.rising;
}

rising_put : (low size p : ℕ) (bs : List Block) → IsRising low bs → low ≤ p → 0 < size → IsFormed (made p size) → All (λ b. (p + size ≤ b.at) ⊎ (block_end b ≤ p)) bs → IsRising low (set_block bs p size)
rising_put low size p [] r h some formed clear = subst (IsRising low) (sym (behind_some p size [] some)) (formed, h, tt)
rising_put low size p (b ∷ bs) r h some formed clear = elim (clear 0 b (omega arith)) [
  | inl g ↦ subst (IsRising low) (sym (set_above b bs p size (omega arith) ∙ behind_some p size (b ∷ bs) some)) (formed, h, (r.0, g, r.2))
  | inr g ↦ subst (IsRising low) (sym (set_below b bs p size (omega (arith, r.0.some)))) (r.0, r.1, rising_put (block_end b) size p bs r.2 g some formed (λ k d w. clear (suc k) d (omega arith)))
]

pub live_put : (bs : List Block) (size index p : ℕ) → AreLive bs → length bs < MOST_BLOCKS → 0 < size → size % 16 ≡ 0 → IsGapAt bs size index p → AreLive (set_block bs p size)
live_put bs size index p live few some multiple at =
    let fits = first_fits size bs p live at.first in
    record {
      few = omega (arith, ap length at.put, length-insert bs index (made p size) at.within);
      rising = rising_put HEAP_START size p bs live.rising fits.above some (record { place = fits.multiple; multiple = multiple; some = some; above = fits.above; below = fits.below }) fits.clear;
    }

-- ---- the same of lists alone

length_gone : (p : ℕ) (bs : List Block) → length (set_block bs p 0) ≤ length bs
length_gone p [] = omega arith
length_gone p (b ∷ bs) = elim (cases_order b.at p) [
  | inl e ↦ omega (arith, ap length (set_here b bs p 0 e))
  | inr (inl h) ↦ omega (arith, ap length (set_below b bs p 0 h), length_gone p bs)
  | inr (inr h) ↦ omega (arith, ap length (set_above b bs p 0 h))
]

pub freed_live : (bs : List Block) (p : ℕ) → AreLive bs → AreLive (set_block bs p 0)
freed_live bs p live = record { few = omega (arith, live.few, length_gone p bs); rising = rising_gone HEAP_START p bs live.rising }

gap_index_le : (low size : ℕ) (bs : List Block) → gap_index low size bs ≤ length bs
gap_index_le low size [] = omega arith
gap_index_le low size (b ∷ bs) = by (nat_le (low + size) b.at) (gap_index_le (block_end b) size bs)
  where
    by : (t : Bool) → gap_index (block_end b) size bs ≤ length bs → (if t then 0 else suc (gap_index (block_end b) size bs)) ≤ suc (length bs)
    by true h = omega arith
    by false h = omega arith

pub placed_live : (bs : List Block) (size place : ℕ) → AreLive bs → fit bs size ≡ Some place → AreLive (set_block bs place (rounded size))
placed_live bs size place live is = by (nat_lt (length bs) MOST_BLOCKS) refl is
  where
    by : (t : Bool) → nat_lt (length bs) MOST_BLOCKS ≡ t → (if t then first_gap HEAP_START (rounded size) bs else None) ≡ Some place → AreLive (set_block bs place (rounded size))
    by true e i =
        let some : 0 < rounded size = omega arith in
        let put = put_first HEAP_START (rounded size) place bs some live.rising i in
        live_put bs (rounded size) (gap_index HEAP_START (rounded size) bs) place live (ltb-true (length bs) MOST_BLOCKS e) some (omega arith)
        (record { first = i; within = gap_index_le HEAP_START (rounded size) bs; room = put.2; put = put.0 })
    by false e i = absurd cc
