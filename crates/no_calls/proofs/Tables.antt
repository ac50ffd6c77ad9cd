-- Tables of lists of numbers.
use Rattle.std.proofs.Common.{◌≡◌, ◌∙◌, refl, sym, ap, subst, ℕ, zero, suc, ◌+◌, ◌<◌, ◌≤◌, inl, inr, List, [], ◌∷◌, ◌++◌, length, take, get_or, set, Vec, arith, length-set}
use Rattle.std.specs.Prelude.{slice_get}
use Rattle.std.specs.Global.{Global}
use Rattle.std.specs.List.{Contains}
use Rattle.std.proofs.lemmas.Bool.{cases_eq, cases_lt}
use Rattle.std.proofs.lemmas.List.{take_more}
use Rattle.std.proofs.lemmas.List.Elements.{Contains-append_left, Contains-push, Contains-push_cases, Contains-append_right}
use Rattle.std.proofs.lemmas.Option.{slice_get_read, slice_get_past}
use Rattle.no_calls.specs.Rows.{IsReverse, RowsAdded, items_in, row}
use Rattle.no_calls.proofs.Finding.{nothing, more_cases, single}

pub row_is : (rows : List (Vec ℕ Global)) (j : ℕ) (v : Vec ℕ Global) → j < length rows → v ≡ get_or rows j v → row rows j ≡ v.items
unfolding row
row_is rows j v within is = ap items_in (slice_get_read rows (length rows) j v refl within is)

pub row_past : (rows : List (Vec ℕ Global)) (i : ℕ) → length rows ≤ i → row rows i ≡ []
unfolding row
row_past rows i past = ap items_in (slice_get_past rows i past)

-- only a row that is there has elements
pub row_within : (rows : List (Vec ℕ Global)) (j x : ℕ) → Contains (row rows j) x → j < length rows
row_within rows j x h = elim (cases_lt j (length rows)) [ inl lt ↦ lt | inr past ↦ absurd (nothing x (subst (λ (l : List ℕ). Contains l x) (row_past rows j past) h)) ]

pushed : (rows : List (Vec ℕ Global)) (v : Vec ℕ Global) (i : ℕ) → v.items ≡ [] → items_in (slice_get (rows ++ v ∷ []) i) ≡ items_in (slice_get rows i)
pushed [] v zero e = e
pushed [] v (suc i) e = refl
pushed (x ∷ rows) v zero e = refl
pushed (x ∷ rows) v (suc i) e = pushed rows v i e

-- an empty row more changes no row
pub row_pushed : (rows : List (Vec ℕ Global)) (v : Vec ℕ Global) (i : ℕ) → v.items ≡ [] → row (rows ++ v ∷ []) i ≡ row rows i
unfolding row
row_pushed rows v i e = pushed rows v i e

pub row_none : (i : ℕ) → row [] i ≡ []
unfolding row
row_none i = refl

kept_at : (rows : List (Vec ℕ Global)) (v : Vec ℕ Global) (i : ℕ) → i < length rows → items_in (slice_get (rows ++ v ∷ []) i) ≡ items_in (slice_get rows i)
kept_at [] v i lt = absurd (omega arith)
kept_at (x ∷ rows) v zero lt = refl
kept_at (x ∷ rows) v (suc i) lt = kept_at rows v i (omega arith)

last_at : (rows : List (Vec ℕ Global)) (v : Vec ℕ Global) → items_in (slice_get (rows ++ v ∷ []) (length rows)) ≡ v.items
last_at [] v = refl
last_at (x ∷ rows) v = last_at rows v

pub row_kept : (rows : List (Vec ℕ Global)) (v : Vec ℕ Global) (i : ℕ) → i < length rows → row (rows ++ v ∷ []) i ≡ row rows i
unfolding row
row_kept rows v i lt = kept_at rows v i lt

pub row_last : (rows : List (Vec ℕ Global)) (v : Vec ℕ Global) → row (rows ++ v ∷ []) (length rows) ≡ v.items
unfolding row
row_last rows v = last_at rows v

set_here : (rows : List (Vec ℕ Global)) (j : ℕ) (v : Vec ℕ Global) → j < length rows → items_in (slice_get (set rows j v) j) ≡ v.items
set_here [] j v lt = absurd (omega arith)
set_here (x ∷ rows) zero v lt = refl
set_here (x ∷ rows) (suc j) v lt = set_here rows j v (omega arith)

set_else : (rows : List (Vec ℕ Global)) (i j : ℕ) (v : Vec ℕ Global) → (i ≡ j → ⊥) → items_in (slice_get (set rows j v) i) ≡ items_in (slice_get rows i)
set_else [] i j v other = refl
set_else (x ∷ rows) zero zero v other = absurd (other refl)
set_else (x ∷ rows) zero (suc j) v other = refl
set_else (x ∷ rows) (suc i) zero v other = refl
set_else (x ∷ rows) (suc i) (suc j) v other = set_else rows i j v (λ e. other (ap (λ n. suc n) e))

row_set_here : (rows : List (Vec ℕ Global)) (j : ℕ) (v : Vec ℕ Global) → j < length rows → row (set rows j v) j ≡ v.items
unfolding row
row_set_here rows j v lt = set_here rows j v lt

row_set_else : (rows : List (Vec ℕ Global)) (i j : ℕ) (v : Vec ℕ Global) → (i ≡ j → ⊥) → row (set rows j v) i ≡ row rows i
unfolding row
row_set_else rows i j v other = set_else rows i j v other

pub rows_same : (rows : List (Vec ℕ Global)) (a : ℕ) → RowsAdded [] a rows rows
rows_same rows a = record {
  kept = λ s x h. h;
  only = λ s x h. inl h;
  there = λ s h. absurd (nothing s h);
  wide = refl;
}

-- one row got the number at its end
row_added : (rows : List (Vec ℕ Global)) (j a : ℕ) (v old : Vec ℕ Global) → j < length rows → old ≡ get_or rows j old → v.items ≡ old.items ++ a ∷ [] → RowsAdded (j ∷ []) a rows (set rows j v)
row_added rows j a v old lt is longer = record {
  kept = λ s x h. elim (cases_eq s j) [
    | inl same ↦ subst (λ (k : ℕ). Contains (row (set rows j v) k) x) (sym same) (subst (λ (l : List ℕ). Contains l x) (sym here) (Contains-append_left old.items (a ∷ []) x (subst (λ (l : List ℕ). Contains l x) (row_is rows j old lt is) (subst (λ (k : ℕ). Contains (row rows k) x) same h))))
    | inr other ↦ subst (λ (l : List ℕ). Contains l x) (sym (row_set_else rows s j v other)) h
  ];
  only = λ s x h. elim (cases_eq s j) [
    | inl same ↦ elim (Contains-push_cases old.items a x (subst (λ (l : List ℕ). Contains l x) here (subst (λ (k : ℕ). Contains (row (set rows j v) k) x) same h))) [
      | inl was ↦ inl (subst (λ (k : ℕ). Contains (row rows k) x) (sym same) (subst (λ (l : List ℕ). Contains l x) (sym (row_is rows j old lt is)) was))
      | inr now ↦ inr (subst (λ (k : ℕ). Contains (j ∷ []) k) (sym same) (Contains-push [] j), sym now)
    ]
    | inr other ↦ inl (subst (λ (l : List ℕ). Contains l x) (row_set_else rows s j v other) h)
  ];
  there = λ s h. subst (λ (k : ℕ). Contains (row (set rows j v) k) a) (sym (single j s h)) (subst (λ (l : List ℕ). Contains l a) (sym here) (Contains-push old.items a));
  wide = length-set rows j v;
}
  where
    here : row (set rows j v) j ≡ old.items ++ a ∷ []
    here = row_set_here rows j v lt ∙ longer

pub rows_more : (places : List ℕ) (i a : ℕ) (first rows : List (Vec ℕ Global)) (v old : Vec ℕ Global) → i < length places → get_or places i 0 < length rows → RowsAdded (take i places) a first rows → old ≡ get_or rows (get_or places i 0) old → v.items ≡ old.items ++ a ∷ []
    → RowsAdded (take (i + 1) places) a first (set rows (get_or places i 0) v)
rows_more places i a first rows v old lt within so_far is longer =
    let j = get_or places i 0 in
    let now : RowsAdded (j ∷ []) a rows (set rows j v) = row_added rows j a v old within is longer in
    record {
      kept = λ s x h. now.kept s x (so_far.kept s x h);
      only = λ s x h. elim (now.only s x h) [
        | inl was ↦ elim (so_far.only s x was) [
          | inl early ↦ inl early
          | inr (there, same) ↦ inr (subst (λ (l : List ℕ). Contains l s) (sym (take_more places i 0 lt)) (Contains-append_left (take i places) (j ∷ []) s there), same)
        ]
        | inr (there, same) ↦ inr (subst (λ (l : List ℕ). Contains l s) (sym (take_more places i 0 lt)) (Contains-append_right (take i places) (j ∷ []) s there), same)
      ];
      there = λ s h. elim (more_cases places i s lt h) [
        | inl early ↦ now.kept s a (so_far.there s early)
        | inr same ↦ now.there s (subst (λ (k : ℕ). Contains (j ∷ []) k) (sym same) (Contains-push [] j))
      ];
      wide = now.wide ∙ so_far.wide;
    }

-- ---- a table that is turned round, row after row

pub record IsTurned (rows back : List (Vec ℕ Global)) (i : ℕ) : Type 0 where
  pub there : (a s : ℕ) → a < i → Contains (row rows a) s → Contains (row back s) a
  pub back' : (a s : ℕ) → Contains (row back s) a → (a < i) × Contains (row rows a) s

pub turned_none : (rows back : List (Vec ℕ Global)) → ((s : ℕ) → row back s ≡ []) → IsTurned rows back 0
turned_none rows back empty = record {
  there = λ a s lt h. absurd (omega arith);
  back' = λ a s h. absurd (nothing a (subst (λ (l : List ℕ). Contains l a) (empty s) h));
}

pub turned_more : (rows back new : List (Vec ℕ Global)) (i : ℕ) (v : Vec ℕ Global) (places : List ℕ) → i < length rows → v ≡ get_or rows i v → places ≡ v.items → IsTurned rows back i → RowsAdded places i back new → IsTurned rows new (i + 1)
turned_more rows back new i v places lt is same turned added = record {
  there = λ a s below h. elim (cases_eq a i) [
    | inl e ↦ subst (λ (k : ℕ). Contains (row new s) k) (sym e) (added.there s (subst (λ (l : List ℕ). Contains l s) (sym row') (subst (λ (k : ℕ). Contains (row rows k) s) e h)))
    | inr n ↦ added.kept s a (turned.there a s (omega arith) h)
  ];
  back' = λ a s h. elim (added.only s a h) [
    | inl was ↦ (omega (arith, (turned.back' a s was).0), (turned.back' a s was).1)
    | inr (there, e) ↦ (omega (arith, e), subst (λ (k : ℕ). Contains (row rows k) s) (sym e) (subst (λ (l : List ℕ). Contains l s) row' there))
  ];
}
  where
    row' : places ≡ row rows i
    row' = same ∙ sym (row_is rows i v lt is)

pub turned_all : (rows back : List (Vec ℕ Global)) (i : ℕ) → length rows ≤ i → IsTurned rows back i → IsReverse rows back
turned_all rows back i all turned = record {
  there = λ a s h. let lt : a < length rows = row_within rows a s h in turned.there a s (omega arith) h;
  back' = λ a s h. (turned.back' a s h).1;
}
