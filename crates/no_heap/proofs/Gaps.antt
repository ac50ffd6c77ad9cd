-- The first gap is the least place of all.
use Rattle.std.proofs.Common.{◌≡◌, ℕ, zero, suc, ◌+◌, ◌%◌, ◌<◌, ◌≤◌, Bool, true, false, nat_le, nat_lt, if◌then◌else◌, Option, Some, None, List, [], ◌∷◌, length, ◌⊎◌, inl, inr, refl, sym, subst, ◌∙◌, arith}
use Rattle.std.specs.Prelude.{All}
use Rattle.std.proofs.lemmas.Bool.{leb-true, leb-false, ltb-true, ltb-false, lt-leb, lt-ltb, le-ltb, cond-true, cond-false}
use Rattle.no_heap.specs.declared.block.Block.{Block}
use Rattle.no_heap.specs.declared.block.TheConstants.{HEAP_START, HEAP_END, MOST_BLOCKS}
use Rattle.no_heap.specs.Blocks.{IsRising, AreLive, block_end}
use Rattle.no_heap.specs.Fit.{rounded, FitsAt, IsFit, first_gap, fit}

-- clear of a block
abbrev Clear : ℕ → ℕ → Block → Type 0
Clear size p b = (p + size ≤ b.at) ⊎ (block_end b ≤ p)

all_none : (P : Block → Type 0) → All P []
all_none P k d h = absurd (omega arith)

all_cons : (P : Block → Type 0) (b : Block) (bs : List Block) → P b → All P bs → All P (b ∷ bs)
all_cons P b bs here others zero d h = here
all_cons P b bs here others (suc k) d h = others k d (omega arith)

all_others : (P : Block → Type 0) (b : Block) (bs : List Block) → All P (b ∷ bs) → All P bs
all_others P b bs all k d h = all (suc k) d (omega arith)

-- blocks that rise from `low` on are clear of what ends below
clear_above : (low size p : ℕ) (bs : List Block) → IsRising low bs → p + size ≤ low → All (Clear size p) bs
clear_above low size p [] r h = all_none (Clear size p)
clear_above low size p (b ∷ bs) r h = all_cons (Clear size p) b bs (inl (omega (arith, r.1))) (clear_above (block_end b) size p bs r.2 (omega (arith, r.1)))

-- the least place from `low` on
abbrev IsGap : ℕ → ℕ → List Block → Option ℕ → Type 0
IsGap low size bs (Some p) = (low ≤ p) × FitsAt bs size p × ((q : ℕ) → low ≤ q → FitsAt bs size q → p ≤ q)
IsGap low size bs None = (q : ℕ) → low ≤ q → FitsAt bs size q → ⊥

fits_others : (b : Block) (bs : List Block) (size q : ℕ) → FitsAt (b ∷ bs) size q → FitsAt bs size q
fits_others b bs size q f = record { multiple = f.multiple; above = f.above; below = f.below; clear = all_others (Clear size q) b bs f.clear }

-- a place from `low` on, with too little room in front of the block, is behind it
beyond : (low size q : ℕ) (b : Block) (bs : List Block) → b.at < low + size → low ≤ q → FitsAt (b ∷ bs) size q → block_end b ≤ q
beyond low size q b bs short h f = elim (f.clear 0 b (omega arith)) [ inl g ↦ absurd (omega arith) | inr g ↦ g ]

past : (low size : ℕ) (b : Block) (bs : List Block) (r : Option ℕ) → low ≤ b.at → b.at < low + size → IsGap (block_end b) size bs r → IsGap low size (b ∷ bs) r
past low size b bs (Some p) h short g = (
  omega (arith, g.0),
  record { multiple = g.1.multiple; above = g.1.above; below = g.1.below; clear = all_cons (Clear size p) b bs (inr g.0) g.1.clear },
  λ q k f. g.2 q (beyond low size q b bs short k f) (fits_others b bs size q f),
)
past low size b bs None h short g = λ q k f. g q (beyond low size q b bs short k f) (fits_others b bs size q f)

pub gap_is : (low size : ℕ) (bs : List Block) → low % 16 ≡ 0 → HEAP_START ≤ low → IsRising low bs → IsGap low size bs (first_gap low size bs)
gap_is low size [] even start r = by (nat_le (low + size) HEAP_END) refl
  where
    by : (t : Bool) → nat_le (low + size) HEAP_END ≡ t → IsGap low size [] (if t then Some low else None)
    by true e = (omega arith, record { multiple = even; above = start; below = leb-true _ _ e; clear = all_none (Clear size low) }, λ q h f. h)
    by false e = λ q h f. omega (arith, leb-false (low + size) HEAP_END e, f.below)
gap_is low size (b ∷ bs) even start r = by (nat_le (low + size) b.at) refl (gap_is (block_end b) size bs (omega (arith, r.0.place, r.0.multiple)) (omega (arith, r.0.above)) r.2)
  where
    by : (t : Bool) → nat_le (low + size) b.at ≡ t → IsGap (block_end b) size bs (first_gap (block_end b) size bs) → IsGap low size (b ∷ bs) (if t then Some low else first_gap (block_end b) size bs)
    by true e rest =
        let room = leb-true (low + size) b.at e in
        (omega arith, record { multiple = even; above = start; below = omega (arith, room, r.0.below); clear = all_cons (Clear size low) b bs (inl room) (clear_above (block_end b) size low bs r.2 (omega (arith, room))) }, λ q h f. h)
    by false e rest = past low size b bs (first_gap (block_end b) size bs) r.1 (leb-false (low + size) b.at e) rest

pub fit_is : (bs : List Block) (size : ℕ) → AreLive bs → IsFit bs size (fit bs size)
fit_is bs size live = by (nat_lt (length bs) MOST_BLOCKS) refl
  where
    of_gap : (r : Option ℕ) → length bs < MOST_BLOCKS → IsGap HEAP_START (rounded size) bs r → IsFit bs size r
    of_gap (Some p) few g = (few, g.1, λ q f. g.2 q f.above f)
    of_gap None few g = inr (λ q f. g q f.above f)

    by : (t : Bool) → nat_lt (length bs) MOST_BLOCKS ≡ t → IsFit bs size (if t then first_gap HEAP_START (rounded size) bs else None)
    by true e = of_gap (first_gap HEAP_START (rounded size) bs) (ltb-true _ _ e) (gap_is HEAP_START (rounded size) bs refl (omega arith) live.rising)
    by false e = inl (omega (arith, live.few, ltb-false (length bs) MOST_BLOCKS e))

-- the first gap is a place where the block fits
pub first_fits : (size : ℕ) (bs : List Block) (p : ℕ) → AreLive bs → first_gap HEAP_START size bs ≡ Some p → FitsAt bs size p
first_fits size bs p live is = let g = subst (IsGap HEAP_START size bs) is (gap_is HEAP_START size bs refl (omega arith) live.rising) in g.1

-- what is larger than the heap has no gap
large : (low size : ℕ) (bs : List Block) → HEAP_START ≤ low → HEAP_END < HEAP_START + size → IsRising low bs → first_gap low size bs ≡ None
large low size [] start h r = cond-false (nat_le (low + size) HEAP_END) (Some low) None (lt-leb (low + size) HEAP_END (omega arith))
large low size (b ∷ bs) start h r =
    cond-false (nat_le (low + size) b.at) (Some low) (first_gap (block_end b) size bs) (lt-leb (low + size) b.at (omega (arith, r.0.below)))
    ∙ large (block_end b) size bs (omega (arith, r.0.above)) h r.2

-- ---- the answers of a request

pub fit_full : (bs : List Block) (size : ℕ) → length bs ≡ MOST_BLOCKS → None ≡ fit bs size
fit_full bs size full = sym (cond-false (nat_lt (length bs) MOST_BLOCKS) (first_gap HEAP_START (rounded size) bs) None (le-ltb (length bs) MOST_BLOCKS (omega arith)))

pub fit_large : (bs : List Block) (size : ℕ) → AreLive bs → HEAP_END < HEAP_START + size → None ≡ fit bs size
fit_large bs size live h = by (nat_lt (length bs) MOST_BLOCKS)
  where
    by : (t : Bool) → None ≡ (if t then first_gap HEAP_START (rounded size) bs else None)
    by true = sym (large HEAP_START (rounded size) bs (omega arith) (omega arith) live.rising)
    by false = refl

pub fit_first : (bs : List Block) (size : ℕ) → length bs < MOST_BLOCKS → first_gap HEAP_START (rounded size) bs ≡ fit bs size
fit_first bs size few = sym (cond-true (nat_lt (length bs) MOST_BLOCKS) (first_gap HEAP_START (rounded size) bs) None (lt-ltb (length bs) MOST_BLOCKS few))

pub is_fit : (bs : List Block) (size : ℕ) (answer : Option ℕ) → AreLive bs → answer ≡ fit bs size → IsFit bs size answer
is_fit bs size answer live is = subst (IsFit bs size) (sym is) (fit_is bs size live)
