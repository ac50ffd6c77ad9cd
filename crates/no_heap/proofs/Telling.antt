-- Entries told of blocks, merged from the lowest place up.
use Rattle.std.proofs.Common.{◌≡◌, ℕ, ◌+◌, ◌<◌, ◌≤◌, ◌||◌, Bool, true, false, nat_le, nat_lt, if◌then◌else◌, Option, Some, None, List, [], ◌∷◌, ◌++◌, refl, sym, ap, ◌∙◌, arith, append_assoc}
use Rattle.std.proofs.lemmas.Bool.{and_parts, and_from, or_right, or_from, leb-true, le-leb, lt-ltb, le-ltb, cond-true, cond-false}
use Rattle.no_heap.specs.declared.block.Block.{Block}
use Rattle.no_heap.specs.declared.block.Entry.{Entry}
use Rattle.no_heap.specs.Blocks.{size_at, behind, set_block}
use Rattle.no_heap.specs.Changes.{rises_from, finds, told}
use Rattle.no_heap.specs.Steps.{with_front}
use Rattle.no_heap.proofs.Ordered.{IsOrdered, size_past, size_here, none_below, behind_none, behind_some, set_below, set_here, set_above}

-- ---- rising entries

pub rises_first : (low : ℕ) (e : Entry) (es : List Entry) → rises_from low (e ∷ es) ≡ true → low ≤ e.at
rises_first low e es r = leb-true low e.at (and_parts (nat_le low e.at) (rises_from (e.at + 1) es) r).0

pub rises_rest : (low : ℕ) (e : Entry) (es : List Entry) → rises_from low (e ∷ es) ≡ true → rises_from (e.at + 1) es ≡ true
rises_rest low e es r = (and_parts (nat_le low e.at) (rises_from (e.at + 1) es) r).1

pub rises_lower : (low less : ℕ) (es : List Entry) → less ≤ low → rises_from low es ≡ true → rises_from less es ≡ true
rises_lower low less [] h r = refl
rises_lower low less (e ∷ es) h r = let first = rises_first low e es r in and_from (nat_le less e.at) (rises_from (e.at + 1) es) (le-leb less e.at (omega (arith, first))) (rises_rest low e es r)

-- ---- what blocks in front add

pub with_none : (o : Option (List Block)) → o ≡ with_front [] o
with_none None = refl
with_none (Some ys) = refl

pub with_both : (xs ys : List Block) (o : Option (List Block)) → with_front xs (with_front ys o) ≡ with_front (xs ++ ys) o
with_both xs ys None = refl
with_both xs ys (Some zs) = ap Some (sym (append_assoc xs ys zs))

choose_front : (t : Bool) (xs : List Block) (o : Option (List Block)) → with_front xs (if t then o else None) ≡ (if t then with_front xs o else None)
choose_front true xs o = refl
choose_front false xs o = refl

finds_past : (b : Block) (bs : List Block) (e : Entry) → b.at < e.at → finds (b ∷ bs) e ≡ finds bs e
finds_past b bs e h = ap (λ (k : ℕ). nat_lt 0 e.size || nat_lt 0 k) (size_past b bs e.at (λ d. omega arith))

-- a block below all entries stays
pub told_below : (low : ℕ) (b : Block) (bs : List Block) (es : List Entry) → b.at < low → rises_from low es ≡ true → told (b ∷ bs) es ≡ with_front (b ∷ []) (told bs es)
told_below low b bs [] h r = refl
told_below low b bs (e ∷ es) h r =
    let first = rises_first low e es r in
    let under : b.at < e.at = omega (arith, first) in
    ap (λ (t : Bool). if t then told (set_block (b ∷ bs) e.at e.size) es else None) (finds_past b bs e under)
    ∙ ap (λ (xs : List Block). if finds bs e then told xs es else None) (set_below b bs e.at e.size under)
    ∙ ap (λ (o : Option (List Block)). if finds bs e then o else None) (told_below (e.at + 1) b (set_block bs e.at e.size) es (omega arith) (rises_rest low e es r))
    ∙ sym (choose_front (finds bs e) (b ∷ []) (told (set_block bs e.at e.size) es))

-- an entry of some size, with the blocks behind it
told_behind : (low : ℕ) (e : Entry) (bs : List Block) (es : List Entry) → rises_from low (e ∷ es) ≡ true → 0 < e.size → told (behind e.at e.size bs) es ≡ with_front (record { at = e.at; size = e.size } ∷ []) (told bs es)
told_behind low e bs es r some = ap (λ (xs : List Block). told xs es) (behind_some e.at e.size bs some) ∙ told_below (e.at + 1) (record { at = e.at; size = e.size }) bs es (omega arith) (rises_rest low e es r)

pub finds_some : (bs : List Block) (e : Entry) → 0 < e.size → finds bs e ≡ true
finds_some bs e some = ap (λ (t : Bool). t || nat_lt 0 (size_at bs e.at)) (lt-ltb 0 e.size some)

pub finds_there : (bs : List Block) (e : Entry) → 0 < size_at bs e.at → finds bs e ≡ true
finds_there bs e some = or_right (nat_lt 0 e.size) (nat_lt 0 (size_at bs e.at)) (lt-ltb 0 (size_at bs e.at) some)

finds_not : (bs : List Block) (e : Entry) → e.size ≡ 0 → size_at bs e.at ≡ 0 → finds bs e ≡ false
finds_not bs e none absent = or_from (nat_lt 0 e.size) (nat_lt 0 (size_at bs e.at)) (le-ltb 0 e.size (omega arith)) (le-ltb 0 (size_at bs e.at) (omega arith))

-- a size told of a block
pub told_changed : (low : ℕ) (b : Block) (bs : List Block) (e : Entry) (es : List Entry) → rises_from low (e ∷ es) ≡ true → b.at ≡ e.at → 0 < e.size → told (b ∷ bs) (e ∷ es) ≡ with_front (record { at = e.at; size = e.size } ∷ []) (told bs es)
told_changed low b bs e es r at some =
    cond-true (finds (b ∷ bs) e) (told (set_block (b ∷ bs) e.at e.size) es) None (finds_some (b ∷ bs) e some)
    ∙ ap (λ (xs : List Block). told xs es) (set_here b bs e.at e.size at)
    ∙ told_behind low e bs es r some

-- a block that is taken away
pub told_gone : (b : Block) (bs : List Block) (e : Entry) (es : List Entry) → b.at ≡ e.at → 0 < b.size → e.size ≡ 0 → told (b ∷ bs) (e ∷ es) ≡ told bs es
told_gone b bs e es at some none =
    let there : 0 < size_at (b ∷ bs) e.at = omega (arith, size_here b bs e.at at) in
    cond-true (finds (b ∷ bs) e) (told (set_block (b ∷ bs) e.at e.size) es) None (finds_there (b ∷ bs) e there)
    ∙ ap (λ (xs : List Block). told xs es) (set_here b bs e.at e.size at ∙ behind_none e.at e.size bs none)

set_front : (low p s : ℕ) (bs : List Block) → IsOrdered low bs → p < low → set_block bs p s ≡ behind p s bs
set_front low p s [] o h = refl
set_front low p s (b ∷ bs) o h = set_above b bs p s (omega (arith, o.0))

-- a block put in front of all
pub told_new : (low from : ℕ) (bs : List Block) (e : Entry) (es : List Entry) → IsOrdered low bs → e.at < low → rises_from from (e ∷ es) ≡ true → 0 < e.size → told bs (e ∷ es) ≡ with_front (record { at = e.at; size = e.size } ∷ []) (told bs es)
told_new low from bs e es o h r some =
    cond-true (finds bs e) (told (set_block bs e.at e.size) es) None (finds_some bs e some)
    ∙ ap (λ (xs : List Block). told xs es) (set_front low e.at e.size bs o h)
    ∙ told_behind from e bs es r some

-- what is not there can't be taken away
pub told_absent : (low : ℕ) (bs : List Block) (e : Entry) (es : List Entry) → IsOrdered low bs → e.at < low → e.size ≡ 0 → told bs (e ∷ es) ≡ None
told_absent low bs e es o h none = cond-false (finds bs e) (told (set_block bs e.at e.size) es) None (finds_not bs e none (none_below low e.at bs o h))
