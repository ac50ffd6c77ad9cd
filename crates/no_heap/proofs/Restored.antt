-- Changes, told over the blocks that they are changes from, leave the blocks again.
use Rattle.std.proofs.Common.{◌≡◌, ℕ, ◌+◌, ◌<◌, ◌==◌, Bool, true, false, if◌then◌else◌, Some, None, List, [], ◌∷◌, inl, inr, refl, sym, ap, subst, ◌∙◌, arith}
use Rattle.std.proofs.lemmas.Bool.{cond-true, cond-false, eqb-true, eqb-false, eq-eqb, ne_eqb, cases_eq, cases_lt}
use Rattle.no_heap.specs.declared.block.Block.{Block}
use Rattle.no_heap.specs.declared.block.Entry.{Entry}
use Rattle.no_heap.specs.declared.block.TheConstants.{HEAP_START}
use Rattle.no_heap.specs.Blocks.{AreLive, size_at, set_block}
use Rattle.no_heap.specs.Changes.{rises_from, finds, told, left, entry_at, change_at, AreChanges, Applies}
use Rattle.no_heap.proofs.Ordered.{IsOrdered, ordered_lower, ordered_rising, ordered_same, set_size_here, set_size_past, set_ordered}
use Rattle.no_heap.proofs.Telling.{rises_first, rises_rest, finds_some, finds_there}

pub entry_here : (e : Entry) (es : List Entry) (p : ℕ) → e.at ≡ p → entry_at (e ∷ es) p ≡ Some e.size
entry_here e es p at = cond-true (e.at == p) (Some e.size) (entry_at es p) (eq-eqb e.at p at)

pub entry_past : (e : Entry) (es : List Entry) (p : ℕ) → (e.at ≡ p → ⊥) → entry_at (e ∷ es) p ≡ entry_at es p
entry_past e es p not = cond-false (e.at == p) (Some e.size) (entry_at es p) (ne_eqb e.at p not)

entry_below : (low : ℕ) (es : List Entry) (p : ℕ) → rises_from low es ≡ true → p < low → entry_at es p ≡ None
entry_below low [] p r h = refl
entry_below low (e ∷ es) p r h =
    let first = rises_first low e es r in
    entry_past e es p (λ d. omega (arith, first)) ∙ entry_below (e.at + 1) es p (rises_rest low e es r) (omega (arith, first))

-- nothing is told of a place: its size is what it was
same_at : (now since : List Block) (p : ℕ) → None ≡ change_at now since p → size_at now p ≡ size_at since p
same_at now since p is = by (size_at now p == size_at since p) refl is
  where
    by : (t : Bool) → (size_at now p == size_at since p) ≡ t → None ≡ (if t then None else Some (size_at now p)) → size_at now p ≡ size_at since p
    by true e i = eqb-true _ _ e
    by false e i = absurd cc

-- a size is told of a place: it is the size now, and is not what it was
told_at : (now since : List Block) (p s : ℕ) → Some s ≡ change_at now since p → (size_at now p ≡ s) × (size_at now p ≡ size_at since p → ⊥)
told_at now since p s is = by (size_at now p == size_at since p) refl is
  where
    by : (t : Bool) → (size_at now p == size_at since p) ≡ t → Some s ≡ (if t then None else Some (size_at now p)) → (size_at now p ≡ s) × (size_at now p ≡ size_at since p → ⊥)
    by true e i = absurd cc
    by false e i = (cc, eqb-false _ _ e)

-- once a place has its size, nothing more is to be told of it, and all other places are as before
pub change_same : (now since then' : List Block) (p : ℕ) → size_at since p ≡ size_at then' p → change_at now since p ≡ change_at now then' p
change_same now since then' p e = ap (λ (k : ℕ). if size_at now p == k then None else Some (size_at now p)) e

pub change_none : (now since : List Block) (p : ℕ) → size_at now p ≡ size_at since p → change_at now since p ≡ None
change_none now since p e = cond-true (size_at now p == size_at since p) None (Some (size_at now p)) (eq-eqb _ _ e)

pub told_again : (low : ℕ) (now since : List Block) (es : List Entry) → IsOrdered 0 now → IsOrdered 0 since → rises_from low es ≡ true → ((p : ℕ) → entry_at es p ≡ change_at now since p) → told since es ≡ Some now
told_again low now since [] o u r each = ap Some (ordered_same 0 since now u o (λ p. sym (same_at now since p (each p))))
told_again low now since (e ∷ es) o u r each =
    let here = told_at now since e.at e.size (sym (entry_here e es e.at refl) ∙ each e.at) in
    let found : finds since e ≡ true = elim (cases_lt 0 e.size) [
      | inl some ↦ finds_some since e some
      | inr none ↦ finds_there since e (elim (cases_lt 0 (size_at since e.at)) [ inl some ↦ some | inr no_block ↦ absurd (here.1 (omega (arith, here.0))) ])
    ] in
    cond-true (finds since e) (told (set_block since e.at e.size) es) None found
    ∙ told_again (e.at + 1) now (set_block since e.at e.size) es o (set_ordered 0 e.at e.size since (omega arith) u) (rises_rest low e es r)
    (λ p. elim (cases_eq e.at p) [
      | inl at ↦ entry_below (e.at + 1) es p (rises_rest low e es r) (omega arith)
          ∙ sym (change_none now (set_block since e.at e.size) p (subst (λ (q : ℕ). size_at now q ≡ size_at (set_block since e.at e.size) q) at (here.0 ∙ sym (set_size_here 0 e.at e.size since u))))
      | inr not ↦ sym (entry_past e es p not) ∙ each p ∙ change_same now since (set_block since e.at e.size) p (sym (set_size_past 0 e.at e.size p since u not))
    ])

pub restored : (now since : List Block) (es : List Entry) → AreLive now → AreLive since → AreChanges now since es → left since es ≡ Some now
restored now since es live was changes =
    cond-true (rises_from 0 es) (told since es) None changes.rise
    ∙ told_again 0 now since es (ordered_lower HEAP_START 0 now (omega arith) (ordered_rising HEAP_START now live.rising)) (ordered_lower HEAP_START 0 since (omega arith) (ordered_rising HEAP_START since was.rising)) changes.rise changes.each

pub applied : (now since new : List Block) (es : List Entry) (answer : Bool) → AreLive now → AreLive since → AreChanges now since es → Applies answer since new es → (answer ≡ true) × (new ≡ now)
applied now since new es true live was changes says = let again = restored now since es live was changes in (refl, cc)
applied now since new es false live was changes says = absurd (says.1 now (restored now since es live was changes) live)
