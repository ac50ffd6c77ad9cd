-- One step of telling entries, and all of them.
use Rattle.std.proofs.Common.{◌≡◌, ℕ, zero, suc, ◌+◌, ◌<◌, ◌≤◌, true, Option, Some, None, List, [], ◌∷◌, ◌++◌, length, drop, get_or, nat_le, refl, sym, ap, subst, ◌∙◌, arith, length-append, length-drop}
use Rattle.std.proofs.lemmas.List.{drop_more, drop-drop, drop_all}
use Rattle.std.proofs.lemmas.Bool.{and_from, le-leb}
use Rattle.no_heap.specs.declared.block.Block.{Block}
use Rattle.no_heap.specs.declared.block.Entry.{Entry}
use Rattle.no_heap.specs.declared.block.TheConstants.{HEAP_START, MOST_BLOCKS}
use Rattle.no_heap.specs.Blocks.{IsRising, AreLive, block_end}
use Rattle.no_heap.specs.Changes.{rises_from, told}
use Rattle.no_heap.specs.Steps.{with_front, first_of, IsAdvance, IsStuck}
use Rattle.no_heap.proofs.Ordered.{ordered_rising}
use Rattle.no_heap.proofs.Placing.{rising_lower}
use Rattle.no_heap.proofs.Telling.{with_none, with_both, rises_rest, rises_lower, told_below, told_changed, told_gone, told_new, told_absent}

-- what is put makes a list that is too long
too_long : (old : List Block) (b : Block) (o : Option (List Block)) (bs : List Block) → MOST_BLOCKS ≤ length old → with_front old (with_front (b ∷ []) o) ≡ Some bs → AreLive bs → ⊥
too_long old b None bs full e live = absurd cc
too_long old b (Some ys) bs full e live =
    let same : old ++ (b ∷ ys) ≡ bs = cc in
    omega (arith, live.few, ap length same, length-append old (b ∷ ys))

from_own : (low : ℕ) (e : Entry) (es : List Entry) → rises_from low (e ∷ es) ≡ true → rises_from e.at (e ∷ es) ≡ true
from_own low e es r = and_from (nat_le e.at e.at) (rises_from (e.at + 1) es) (le-leb e.at e.at (omega arith)) (rises_rest low e es r)

-- ---- the first block kept

keeps : (kept : List Block) (e : Entry) (es : List Entry) → 0 < length kept → (first_of kept).at < e.at → rises_from 0 (e ∷ es) ≡ true → told kept (e ∷ es) ≡ with_front (first_of kept ∷ []) (told (drop 1 kept) (e ∷ es))
keeps [] e es some below r = absurd (omega arith)
keeps (b ∷ bs) e es some below r = told_below e.at b bs (e ∷ es) below (from_own 0 e es r)

pub keep_put : (old new kept : List Block) (e : Entry) → 0 < length kept → (first_of kept).at < e.at → new ≡ old ++ first_of kept ∷ [] → IsAdvance old new kept e 1 0
keep_put old new kept e some below put = record {
  same = λ es r. ap (with_front old) (keeps kept e es some below r) ∙ with_both old (first_of kept ∷ []) (told (drop 1 kept) (e ∷ es)) ∙ ap (λ (xs : List Block). with_front xs (told (drop 1 kept) (e ∷ es))) (sym put);
  moves = omega arith;
  within = omega arith;
  one = omega arith;
}

pub keep_full : (old kept : List Block) (e : Entry) → 0 < length kept → (first_of kept).at < e.at → MOST_BLOCKS ≤ length old → IsStuck old kept e
keep_full old kept e some below full = record {
  stuck = λ es r bs is live. too_long old (first_of kept) (told (drop 1 kept) (e ∷ es)) bs full (sym (ap (with_front old) (keeps kept e es some below r)) ∙ is) live;
}

-- ---- a block put in front

abbrev added : Entry → Block
added e = record { at = e.at; size = e.size }

pub new_put : (old new kept : List Block) (e : Entry) → IsRising (e.at + 1) kept → 0 < e.size → new ≡ old ++ record { at = e.at; size = e.size } ∷ [] → IsAdvance old new kept e 0 1
new_put old new kept e above some put = record {
  same = λ es r. ap (with_front old) (told_new (e.at + 1) 0 kept e es (ordered_rising (e.at + 1) kept above) (omega arith) r some) ∙ with_both old (added e ∷ []) (told kept es) ∙ ap (λ (xs : List Block). with_front xs (told kept es)) (sym put);
  moves = omega arith;
  within = omega arith;
  one = omega arith;
}

pub new_full : (old kept : List Block) (e : Entry) → IsRising (e.at + 1) kept → 0 < e.size → MOST_BLOCKS ≤ length old → IsStuck old kept e
new_full old kept e above some full = record {
  stuck = λ es r bs is live. too_long old (added e) (told kept es) bs full (sym (ap (with_front old) (told_new (e.at + 1) 0 kept e es (ordered_rising (e.at + 1) kept above) (omega arith) r some)) ∙ is) live;
}

pub new_absent : (old kept : List Block) (e : Entry) → IsRising (e.at + 1) kept → e.size ≡ 0 → IsStuck old kept e
new_absent old kept e above none = record {
  stuck = λ es r bs is live. let no_list = sym (ap (with_front old) (told_absent (e.at + 1) kept e es (ordered_rising (e.at + 1) kept above) (omega arith) none)) ∙ is in absurd cc;
}

-- ---- the first block changed

changes_first : (kept : List Block) (e : Entry) (es : List Entry) → 0 < length kept → (first_of kept).at ≡ e.at → rises_from 0 (e ∷ es) ≡ true → 0 < e.size → told kept (e ∷ es) ≡ with_front (added e ∷ []) (told (drop 1 kept) es)
changes_first [] e es some here r more = absurd (omega arith)
changes_first (b ∷ bs) e es some here r more = told_changed 0 b bs e es r here more

pub over_put : (old new kept : List Block) (e : Entry) → 0 < length kept → (first_of kept).at ≡ e.at → 0 < e.size → new ≡ old ++ record { at = e.at; size = e.size } ∷ [] → IsAdvance old new kept e 1 1
over_put old new kept e some here more put = record {
  same = λ es r. ap (with_front old) (changes_first kept e es some here r more) ∙ with_both old (added e ∷ []) (told (drop 1 kept) es) ∙ ap (λ (xs : List Block). with_front xs (told (drop 1 kept) es)) (sym put);
  moves = omega arith;
  within = omega arith;
  one = omega arith;
}

pub over_full : (old kept : List Block) (e : Entry) → 0 < length kept → (first_of kept).at ≡ e.at → 0 < e.size → MOST_BLOCKS ≤ length old → IsStuck old kept e
over_full old kept e some here more full = record {
  stuck = λ es r bs is live. too_long old (added e) (told (drop 1 kept) es) bs full (sym (ap (with_front old) (changes_first kept e es some here r more)) ∙ is) live;
}

goes_first : (kept : List Block) (e : Entry) (es : List Entry) → 0 < length kept → (first_of kept).at ≡ e.at → IsRising 0 kept → e.size ≡ 0 → told kept (e ∷ es) ≡ told (drop 1 kept) es
goes_first [] e es some here rising none = absurd (omega arith)
goes_first (b ∷ bs) e es some here rising none = told_gone b bs e es here rising.0.some none

pub over_gone : (old kept : List Block) (e : Entry) → 0 < length kept → (first_of kept).at ≡ e.at → IsRising 0 kept → e.size ≡ 0 → IsAdvance old old kept e 1 1
over_gone old kept e some here rising none = record {
  same = λ es r. ap (with_front old) (goes_first kept e es some here rising none);
  moves = omega arith;
  within = omega arith;
  one = omega arith;
}

-- ---- what is left lies above an entry

pub above_none : (kept : List Block) (low : ℕ) → length kept ≡ 0 → IsRising low kept
above_none [] low e = tt
above_none (b ∷ bs) low e = absurd (omega arith)

pub above_first : (kept : List Block) (at : ℕ) → IsRising 0 kept → 0 < length kept → at < (first_of kept).at → IsRising (at + 1) kept
above_first [] at r some h = absurd (omega arith)
above_first (b ∷ bs) at r some h = (r.0, omega arith, r.2)

-- ---- all of them

rising_drop : (n : ℕ) (bs : List Block) → IsRising 0 bs → IsRising 0 (drop n bs)
rising_drop zero bs r = r
rising_drop (suc n) [] r = tt
rising_drop (suc n) (b ∷ bs) r = rising_drop n bs (rising_lower (block_end b) 0 bs (omega arith) r.2)

rises_drop : (n : ℕ) (es : List Entry) → rises_from 0 es ≡ true → rises_from 0 (drop n es) ≡ true
rises_drop zero es r = r
rises_drop (suc n) [] r = refl
rises_drop (suc n) (e ∷ es) r = rises_drop n es (rises_lower (e.at + 1) 0 es (omega arith) (rises_rest 0 e es r))

-- what is done and what is left make the list that all entries leave
pub record Merging (blocks : List Block) (entries : List Entry) (out : List Block) (kept told' : ℕ) : Type 0 where
  pub same : told blocks entries ≡ with_front out (told (drop kept blocks) (drop told' entries))
  pub rising : IsRising 0 blocks
  pub rise : rises_from 0 entries ≡ true
  pub within : kept ≤ length blocks
  pub all : told' ≤ length entries

pub merging_none : (blocks : List Block) (entries : List Entry) (out : List Block) → AreLive blocks → rises_from 0 entries ≡ true → out ≡ [] → Merging blocks entries out 0 0
merging_none blocks entries out live rise empty = record {
  same = with_none (told blocks entries) ∙ ap (λ (xs : List Block). with_front xs (told blocks entries)) (sym empty);
  rising = rising_lower HEAP_START 0 blocks (omega arith) live.rising;
  rise = rise;
  within = omega arith;
  all = omega arith;
}

abbrev nth_entry : List Entry → ℕ → Entry
nth_entry es i = get_or es i (record { at = 0; size = 0 })

pub merging_rising : (blocks : List Block) (entries : List Entry) (out : List Block) (kept told' : ℕ) → Merging blocks entries out kept told' → IsRising 0 (drop kept blocks)
merging_rising blocks entries out kept told' m = rising_drop kept blocks m.rising

next_entry : (entries : List Entry) (told' : ℕ) → told' < length entries → drop told' entries ≡ nth_entry entries told' ∷ drop (told' + 1) entries
next_entry entries told' h = drop_more entries told' (record { at = 0; size = 0 }) h

pub merging_more : (blocks : List Block) (entries : List Entry) (old new : List Block) (kept told' n m : ℕ) → Merging blocks entries old kept told' → told' < length entries → IsAdvance old new (drop kept blocks) (nth_entry entries told') n m → Merging blocks entries new (kept + n) (told' + m)
merging_more blocks entries old new kept told' n m g more a =
    let front = next_entry entries told' more in
    let rest = a.same (drop (told' + 1) entries) (subst (λ (es : List Entry). rises_from 0 es ≡ true) front (rises_drop told' entries g.rise)) in
    let blocks_left : drop n (drop kept blocks) ≡ drop (kept + n) blocks = drop-drop n kept blocks in
    let entries_left : drop m (nth_entry entries told' ∷ drop (told' + 1) entries) ≡ drop (told' + m) entries = ap (drop m) (sym front) ∙ drop-drop m told' entries in
    record {
      same = g.same ∙ ap (λ (es : List Entry). with_front old (told (drop kept blocks) es)) front ∙ rest ∙ (λ i. with_front new (told (blocks_left i) (entries_left i)));
      rising = g.rising;
      rise = g.rise;
      within = omega (arith, a.within, length-drop kept blocks, g.within);
      all = omega (arith, a.one);
    }

pub merging_stuck : (blocks : List Block) (entries : List Entry) (old : List Block) (kept told' : ℕ) → Merging blocks entries old kept told' → told' < length entries → IsStuck old (drop kept blocks) (nth_entry entries told') → (bs : List Block) → told blocks entries ≡ Some bs → AreLive bs → ⊥
merging_stuck blocks entries old kept told' g more s bs is live =
    let front = next_entry entries told' more in
    s.stuck (drop (told' + 1) entries) (subst (λ (es : List Entry). rises_from 0 es ≡ true) front (rises_drop told' entries g.rise)) bs
    (sym (g.same ∙ ap (λ (es : List Entry). with_front old (told (drop kept blocks) es)) front) ∙ is) live

pub merging_end : (blocks : List Block) (entries : List Entry) (out : List Block) (kept told' : ℕ) → Merging blocks entries out kept told' → length entries ≤ told' → told blocks entries ≡ Some (out ++ drop kept blocks)
merging_end blocks entries out kept told' g end = g.same ∙ ap (λ (es : List Entry). with_front out (told (drop kept blocks) es)) (drop_all told' entries end)

pub too_many : (out rest bs : List Block) → MOST_BLOCKS < length (out ++ rest) → Some (out ++ rest) ≡ Some bs → AreLive bs → ⊥
too_many out rest bs many e live = let same : out ++ rest ≡ bs = cc in omega (arith, live.few, ap length same)
