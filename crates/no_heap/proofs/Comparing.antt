-- One step of comparing two lists of blocks, and all of them.
use Rattle.std.proofs.Common.{◌≡◌, ℕ, ◌+◌, ◌<◌, ◌≤◌, ◌==◌, ◌++◌, Bool, true, false, if◌then◌else◌, nat_le, Option, Some, None, List, [], ◌∷◌, length, drop, inl, inr, refl, sym, ap, subst, ◌∙◌, arith, length-drop}
use Rattle.std.specs.Option.{option_to_list}
use Rattle.std.proofs.lemmas.Bool.{cond-false, ne_eqb, cases_eq, and_from, and_parts, le-leb}
use Rattle.std.proofs.lemmas.List.{drop-drop, drop_all, append-nil}
use Rattle.no_heap.specs.declared.block.Block.{Block}
use Rattle.no_heap.specs.declared.block.Entry.{Entry}
use Rattle.no_heap.specs.declared.block.TheConstants.{HEAP_START}
use Rattle.no_heap.specs.Blocks.{IsRising, AreLive, block_end, size_at}
use Rattle.no_heap.specs.Changes.{rises_from, entry_at, change_at, AreChanges}
use Rattle.no_heap.specs.Steps.{first_of, or_else, IsCompared}
use Rattle.no_heap.proofs.Ordered.{IsOrdered, ordered_rising, size_here, size_past, none_below}
use Rattle.no_heap.proofs.Placing.{rising_lower}
use Rattle.no_heap.proofs.Restored.{change_none, entry_here, entry_past}

-- what is told where the sizes differ
change_some : (now since : List Block) (p n m : ℕ) → size_at now p ≡ n → size_at since p ≡ m → (n ≡ m → ⊥) → change_at now since p ≡ Some n
change_some now since p n m e f other = cond-false (size_at now p == size_at since p) None (Some (size_at now p)) (ne_eqb (size_at now p) (size_at since p) (λ d. other (sym e ∙ d ∙ f))) ∙ ap Some e

-- the same sizes at a place tell the same
change_like : (now now' since since' : List Block) (p : ℕ) → size_at now p ≡ size_at now' p → size_at since p ≡ size_at since' p → change_at now since p ≡ change_at now' since' p
change_like now now' since since' p e f = λ i. if e i == f i then None else Some (e i)

one_here : (e : Entry) (p : ℕ) (more : Option ℕ) → e.at ≡ p → Some e.size ≡ or_else (entry_at (e ∷ []) p) more
one_here e p more at = ap (λ (o : Option ℕ). or_else o more) (sym (entry_here e [] p at))

one_past : (e : Entry) (p : ℕ) (more : Option ℕ) → (e.at ≡ p → ⊥) → more ≡ or_else (entry_at (e ∷ []) p) more
one_past e p more other = ap (λ (o : Option ℕ). or_else o more) (sym (entry_past e [] p other))

-- ---- a block that was not there

new_each : (b : Block) (bs since : List Block) → 0 < b.size → IsOrdered (b.at + 1) since → (p : ℕ) → change_at (b ∷ bs) since p ≡ or_else (entry_at (record { at = b.at; size = b.size } ∷ []) p) (change_at bs since p)
new_each b bs since some o p = elim (cases_eq b.at p) [
  | inl at ↦ change_some (b ∷ bs) since p b.size 0 (size_here b bs p at) (none_below (b.at + 1) p since o (omega arith)) (λ e. omega arith) ∙ one_here (record { at = b.at; size = b.size }) p (change_at bs since p) at
  | inr other ↦ change_like (b ∷ bs) bs since since p (size_past b bs p other) refl ∙ one_past (record { at = b.at; size = b.size }) p (change_at bs since p) other
]

pub is_new : (now since : List Block) → 0 < length now → IsRising 0 now → IsRising ((first_of now).at + 1) since → IsCompared now since (Some (record { at = (first_of now).at; size = (first_of now).size })) 1 0
is_new [] since some r above = absurd (omega arith)
is_new (b ∷ bs) since some r above = record {
  each = new_each b bs since r.0.some (ordered_rising (b.at + 1) since above);
  above = λ low rn rs. (rn.1, rising_lower (block_end b) (b.at + 1) bs (omega (arith, r.0.some)) rn.2, above);
  moves = omega arith;
  within_now = omega arith;
  within_since = omega arith;
}

-- ---- a block that is no longer there

gone_each : (now : List Block) (c : Block) (cs : List Block) → 0 < c.size → IsOrdered (c.at + 1) now → (p : ℕ) → change_at now (c ∷ cs) p ≡ or_else (entry_at (record { at = c.at; size = 0 } ∷ []) p) (change_at now cs p)
gone_each now c cs some o p = elim (cases_eq c.at p) [
  | inl at ↦ change_some now (c ∷ cs) p 0 c.size (none_below (c.at + 1) p now o (omega arith)) (size_here c cs p at) (λ e. omega arith) ∙ one_here (record { at = c.at; size = 0 }) p (change_at now cs p) at
  | inr other ↦ change_like now now (c ∷ cs) cs p refl (size_past c cs p other) ∙ one_past (record { at = c.at; size = 0 }) p (change_at now cs p) other
]

pub is_gone : (now since : List Block) → 0 < length since → IsRising 0 since → IsRising ((first_of since).at + 1) now → IsCompared now since (Some (record { at = (first_of since).at; size = 0 })) 0 1
is_gone now [] some r above = absurd (omega arith)
is_gone now (c ∷ cs) some r above = record {
  each = gone_each now c cs r.0.some (ordered_rising (c.at + 1) now above);
  above = λ low rn rs. (rs.1, above, rising_lower (block_end c) (c.at + 1) cs (omega (arith, r.0.some)) rs.2);
  moves = omega arith;
  within_now = omega arith;
  within_since = omega arith;
}

-- ---- a block that was there

past_both : (b : Block) (bs : List Block) (c : Block) (cs : List Block) (p : ℕ) → b.at ≡ c.at → (b.at ≡ p → ⊥) → change_at (b ∷ bs) (c ∷ cs) p ≡ change_at bs cs p
past_both b bs c cs p same other = change_like (b ∷ bs) bs (c ∷ cs) cs p (size_past b bs p other) (size_past c cs p (λ e. other (same ∙ e)))

after : (b : Block) (bs : List Block) → IsRising 0 (b ∷ bs) → IsRising (b.at + 1) bs
after b bs r = rising_lower (block_end b) (b.at + 1) bs (omega (arith, r.0.some)) r.2

same_each : (b : Block) (bs : List Block) (c : Block) (cs : List Block) → IsRising 0 (b ∷ bs) → IsRising 0 (c ∷ cs) → b.at ≡ c.at → b.size ≡ c.size → (p : ℕ) → change_at (b ∷ bs) (c ∷ cs) p ≡ change_at bs cs p
same_each b bs c cs r s same size p = elim (cases_eq b.at p) [
  | inl at ↦ change_none (b ∷ bs) (c ∷ cs) p (size_here b bs p at ∙ size ∙ sym (size_here c cs p (sym same ∙ at)))
      ∙ sym (change_none bs cs p (none_below (b.at + 1) p bs (ordered_rising (b.at + 1) bs (after b bs r)) (omega arith) ∙ sym (none_below (c.at + 1) p cs (ordered_rising (c.at + 1) cs (after c cs s)) (omega arith))))
  | inr other ↦ past_both b bs c cs p same other
]

pub is_same : (now since : List Block) → 0 < length now → 0 < length since → IsRising 0 now → IsRising 0 since → (first_of now).at ≡ (first_of since).at → (first_of now).size ≡ (first_of since).size → IsCompared now since None 1 1
is_same [] since some some' r s same size = absurd (omega arith)
is_same (b ∷ bs) [] some some' r s same size = absurd (omega arith)
is_same (b ∷ bs) (c ∷ cs) some some' r s same size = record {
  each = same_each b bs c cs r s same size;
  above = λ low rn rs. (rising_lower (block_end b) low bs (omega (arith, rn.1)) rn.2, rising_lower (block_end c) low cs (omega (arith, rs.1)) rs.2);
  moves = omega arith;
  within_now = omega arith;
  within_since = omega arith;
}

changed_each : (b : Block) (bs : List Block) (c : Block) (cs : List Block) → b.at ≡ c.at → (b.size ≡ c.size → ⊥) → (p : ℕ) → change_at (b ∷ bs) (c ∷ cs) p ≡ or_else (entry_at (record { at = b.at; size = b.size } ∷ []) p) (change_at bs cs p)
changed_each b bs c cs same size p = elim (cases_eq b.at p) [
  | inl at ↦ change_some (b ∷ bs) (c ∷ cs) p b.size c.size (size_here b bs p at) (size_here c cs p (sym same ∙ at)) size ∙ one_here (record { at = b.at; size = b.size }) p (change_at bs cs p) at
  | inr other ↦ past_both b bs c cs p same other ∙ one_past (record { at = b.at; size = b.size }) p (change_at bs cs p) other
]

pub is_changed : (now since : List Block) → 0 < length now → 0 < length since → IsRising 0 now → IsRising 0 since → (first_of now).at ≡ (first_of since).at → ((first_of now).size ≡ (first_of since).size → ⊥) → IsCompared now since (Some (record { at = (first_of now).at; size = (first_of now).size })) 1 1
is_changed [] since some some' r s same size = absurd (omega arith)
is_changed (b ∷ bs) [] some some' r s same size = absurd (omega arith)
is_changed (b ∷ bs) (c ∷ cs) some some' r s same size = record {
  each = changed_each b bs c cs same size;
  above = λ low rn rs. (rn.1, after b bs r, subst (λ (k : ℕ). IsRising (k + 1) cs) (sym same) (after c cs s));
  moves = omega arith;
  within_now = omega arith;
  within_since = omega arith;
}

-- ---- all of them

or_else-or_else : (a b c : Option ℕ) → or_else (or_else a b) c ≡ or_else a (or_else b c)
or_else-or_else None b c = refl
or_else-or_else (Some n) b c = refl

or_else-none : (a : Option ℕ) → or_else a None ≡ a
or_else-none None = refl
or_else-none (Some n) = refl

entry_at-append : (es fs : List Entry) (p : ℕ) → entry_at (es ++ fs) p ≡ or_else (entry_at es p) (entry_at fs p)
entry_at-append [] fs p = refl
entry_at-append (e ∷ es) fs p = ap (λ (o : Option ℕ). if e.at == p then Some e.size else o) (entry_at-append es fs p) ∙ chosen (e.at == p)
  where
    chosen : (t : Bool) → (if t then Some e.size else or_else (entry_at es p) (entry_at fs p)) ≡ or_else (if t then Some e.size else entry_at es p) (entry_at fs p)
    chosen true = refl
    chosen false = refl

-- the place above the last entry's
abbrev pub next_place : ℕ → List Entry → ℕ
next_place low [] = low
next_place low (e ∷ es) = next_place (e.at + 1) es

rises_push : (low : ℕ) (es : List Entry) (f : Entry) → rises_from low es ≡ true → next_place low es ≤ f.at → rises_from low (es ++ f ∷ []) ≡ true
rises_push low [] f r h = and_from (nat_le low f.at) true (le-leb low f.at h) refl
rises_push low (e ∷ es) f r h = let parts = and_parts (nat_le low e.at) (rises_from (e.at + 1) es) r in and_from (nat_le low e.at) (rises_from (e.at + 1) (es ++ f ∷ [])) parts.0 (rises_push (e.at + 1) es f parts.1 h)

next_push : (low : ℕ) (es : List Entry) (f : Entry) → next_place low (es ++ f ∷ []) ≡ f.at + 1
next_push low [] f = refl
next_push low (e ∷ es) f = next_push (e.at + 1) es f

-- what is told and what is left tell of each place what is to be told
pub record Comparing (now since : List Block) (es : List Entry) (n m : ℕ) : Type 0 where
  pub each : (p : ℕ) → change_at now since p ≡ or_else (entry_at es p) (change_at (drop n now) (drop m since) p)
  pub rise : rises_from 0 es ≡ true
  pub above : IsRising (next_place 0 es) (drop n now)
  pub above_since : IsRising (next_place 0 es) (drop m since)
  pub within : n ≤ length now
  pub within_since : m ≤ length since

pub comparing_none : (now since : List Block) (es : List Entry) → AreLive now → AreLive since → es ≡ [] → Comparing now since es 0 0
comparing_none now since es live was empty = subst (λ (xs : List Entry). Comparing now since xs 0 0) (sym empty) (record {
  each = λ p. refl;
  rise = refl;
  above = rising_lower HEAP_START 0 now (omega arith) live.rising;
  above_since = rising_lower HEAP_START 0 since (omega arith) was.rising;
  within = omega arith;
  within_since = omega arith;
})

comparing_with : (now since : List Block) (es : List Entry) (n m : ℕ) (entry : Option Entry) (i j : ℕ) → Comparing now since es n m → IsCompared (drop n now) (drop m since) entry i j
    → (rises_from 0 (es ++ option_to_list entry) ≡ true) × IsRising (next_place 0 (es ++ option_to_list entry)) (drop i (drop n now)) × IsRising (next_place 0 (es ++ option_to_list entry)) (drop j (drop m since))
comparing_with now since es n m None i j g s =
    let rest = s.above (next_place 0 es) g.above g.above_since in
    let whole : es ≡ es ++ [] = sym (append-nil es) in
    subst (λ (xs : List Entry). (rises_from 0 xs ≡ true) × IsRising (next_place 0 xs) (drop i (drop n now)) × IsRising (next_place 0 xs) (drop j (drop m since))) whole (g.rise, rest.0, rest.1)
comparing_with now since es n m (Some e) i j g s =
    let rest = s.above (next_place 0 es) g.above g.above_since in
    let next : e.at + 1 ≡ next_place 0 (es ++ e ∷ []) = sym (next_push 0 es e) in
    (rises_push 0 es e g.rise rest.0, subst (λ (k : ℕ). IsRising k (drop i (drop n now))) next rest.1, subst (λ (k : ℕ). IsRising k (drop j (drop m since))) next rest.2)

pub comparing_more : (now since : List Block) (es fs : List Entry) (n m : ℕ) (entry : Option Entry) (i j : ℕ) → Comparing now since es n m → IsCompared (drop n now) (drop m since) entry i j → fs ≡ es ++ option_to_list entry → Comparing now since fs (n + i) (m + j)
comparing_more now since es fs n m entry i j g s told =
    let parts = comparing_with now since es n m entry i j g s in
    let left : drop i (drop n now) ≡ drop (n + i) now = drop-drop i n now in
    let left_since : drop j (drop m since) ≡ drop (m + j) since = drop-drop j m since in
    subst (λ (xs : List Entry). Comparing now since xs (n + i) (m + j)) (sym told) (record {
      each = λ p. g.each p ∙ ap (or_else (entry_at es p)) (s.each p)
          ∙ sym (or_else-or_else (entry_at es p) (entry_at (option_to_list entry) p) (change_at (drop i (drop n now)) (drop j (drop m since)) p))
          ∙ ap (λ (o : Option ℕ). or_else o (change_at (drop i (drop n now)) (drop j (drop m since)) p)) (sym (entry_at-append es (option_to_list entry) p))
          ∙ (λ k. or_else (entry_at (es ++ option_to_list entry) p) (change_at (left k) (left_since k) p));
      rise = parts.0;
      above = subst (IsRising (next_place 0 (es ++ option_to_list entry))) left parts.1;
      above_since = subst (IsRising (next_place 0 (es ++ option_to_list entry))) left_since parts.2;
      within = omega (arith, s.within_now, length-drop n now, g.within);
      within_since = omega (arith, s.within_since, length-drop m since, g.within_since);
    })

pub comparing_rising : (now since : List Block) (es : List Entry) (n m : ℕ) → Comparing now since es n m → IsRising 0 (drop n now)
comparing_rising now since es n m g = rising_lower (next_place 0 es) 0 (drop n now) (omega arith) g.above

pub comparing_rising_since : (now since : List Block) (es : List Entry) (n m : ℕ) → Comparing now since es n m → IsRising 0 (drop m since)
comparing_rising_since now since es n m g = rising_lower (next_place 0 es) 0 (drop m since) (omega arith) g.above_since

pub comparing_end : (now since : List Block) (es : List Entry) (n m : ℕ) → Comparing now since es n m → length now + length since ≤ n + m → AreChanges now since es
comparing_end now since es n m g end =
    let none : drop n now ≡ [] = drop_all n now (omega (arith, g.within_since)) in
    let none_since : drop m since ≡ [] = drop_all m since (omega (arith, g.within)) in
    record {
      rise = g.rise;
      each = λ p. sym (g.each p ∙ (λ k. or_else (entry_at es p) (change_at (none k) (none_since k) p)) ∙ or_else-none (entry_at es p));
    }
