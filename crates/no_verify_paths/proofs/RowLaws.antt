-- Lists of lists.
use Rattle.std.proofs.Common.{◌≡◌, ℕ, zero, suc, ◌+◌, ◌<◌, ◌≤◌, List, [], ◌∷◌, ◌++◌, length, take, get_or, set, Vec, Option, None, slice_get, refl, sym, ap, ◌∙◌, subst, inl, inr, arith}
use Rattle.std.specs.List.{Contains, flat_map}
use Rattle.std.proofs.lemmas.List.{take_more, flat_map_more}
use Rattle.std.proofs.lemmas.Bool.{cases_lt, cases_eq}
use Rattle.std.proofs.lemmas.List.Elements.{Contains-append_left, Contains-push, Contains-push_cases}
use Rattle.no_verify_paths.specs.Survey.{RowAdded}
use Rattle.std.specs.Global.{Global}
use Rattle.std.proofs.lemmas.Option.{slice_get_read, slice_get_past}
use Rattle.no_verify_paths.specs.Flow.{row, items_in}

pub row_is : {T : Type 0} (rows : List (Vec T Global)) (j : ℕ) (v : Vec T Global) → j < length rows → v ≡ get_or rows j v → row rows j ≡ v.items
unfolding row
row_is rows j v within is = ap items_in (slice_get_read rows (length rows) j v refl within is)

past_none : {T : Type 0} (o : Option (Vec T Global)) (x : T) → o ≡ None → Contains (items_in o) x → ⊥
past_none {T} o x e h = let m : Contains {X = T} [] x = subst (λ (p : Option (Vec T Global)). Contains (items_in p) x) e h in omega (arith, m.1)

-- only a row that is there has elements
pub row_within : {T : Type 0} (rows : List (Vec T Global)) (j : ℕ) (x : T) → Contains (row rows j) x → j < length rows
unfolding row
row_within rows j x h = elim (cases_lt j (length rows)) [ inl lt ↦ lt | inr past ↦ absurd (past_none (slice_get rows j) x (slice_get_past rows j past) h) ]

pub flat_more : {X A : Type 0} (f : X → List A) (bs : List A) (xs : List X) (i : ℕ) (x : X) → i < length xs → x ≡ get_or xs i x → bs ++ flat_map f (take (i + 1) xs) ≡ (bs ++ flat_map f (take i xs)) ++ f x
flat_more f bs xs i x within is = ap (λ ys. bs ++ flat_map f ys) (take_more xs i x within ∙ ap (λ y. take i xs ++ y ∷ []) (sym is)) ∙ sym (flat_map_more f bs (take i xs) x)

-- ---- changed rows

pushed : {T : Type 0} (rows : List (Vec T Global)) (v : Vec T Global) (i : ℕ) → v.items ≡ [] → items_in (slice_get (rows ++ v ∷ []) i) ≡ items_in (slice_get rows i)
pushed [] v zero e = e
pushed [] v (suc i) e = refl
pushed (x ∷ rows) v zero e = refl
pushed (x ∷ rows) v (suc i) e = pushed rows v i e

-- an empty row more changes no row
pub row_pushed : {T : Type 0} (rows : List (Vec T Global)) (v : Vec T Global) (i : ℕ) → v.items ≡ [] → row (rows ++ v ∷ []) i ≡ row rows i
unfolding row
row_pushed rows v i e = pushed rows v i e

set_here : {T : Type 0} (rows : List (Vec T Global)) (j : ℕ) (v : Vec T Global) → j < length rows → items_in (slice_get (set rows j v) j) ≡ v.items
set_here [] j v lt = absurd (omega arith)
set_here (x ∷ rows) zero v lt = refl
set_here (x ∷ rows) (suc j) v lt = set_here rows j v (omega arith)

set_else : {T : Type 0} (rows : List (Vec T Global)) (i j : ℕ) (v : Vec T Global) → (i ≡ j → ⊥) → items_in (slice_get (set rows j v) i) ≡ items_in (slice_get rows i)
set_else [] i j v other = refl
set_else (x ∷ rows) zero zero v other = absurd (other refl)
set_else (x ∷ rows) zero (suc j) v other = refl
set_else (x ∷ rows) (suc i) zero v other = refl
set_else (x ∷ rows) (suc i) (suc j) v other = set_else rows i j v (λ e. other (ap (λ n. suc n) e))

pub row_longer : {T : Type 0} (rows : List (Vec T Global)) (j : ℕ) (v : Vec T Global) (old : List T) (item : T) → j < length rows → v.items ≡ old ++ item ∷ [] → row rows j ≡ old → v.items ≡ row rows j ++ item ∷ []
row_longer rows j v old item within is same = is ∙ ap (λ xs. xs ++ item ∷ []) (sym same)

-- a row that got one item more
pub row_added : {T : Type 0} (old rows : List (Vec T Global)) (j : ℕ) (v : Vec T Global) (item : T) → ((i : ℕ) → row rows i ≡ row old i) → j < length rows → v.items ≡ row rows j ++ item ∷ [] → RowAdded j item old (set rows j v)
unfolding row
row_added old rows j v item same within is = record {
  kept = λ i x h. elim (cases_eq i j) [
    | inl e ↦ subst (λ k. Contains (items_in (slice_get (set rows j v) k)) x) (sym e) (rw (set_here rows j v within, is) (Contains-append_left (row rows j) (item ∷ []) x (rw (same j) (subst (λ k. Contains (row old k) x) e h))))
    | inr n ↦ rw (set_else rows i j v n) (subst (λ xs. Contains xs x) (sym (same i)) h)
  ];
  only = λ i x h. elim (cases_eq i j) [
    | inl e ↦ elim (Contains-push_cases (row rows j) item x (subst (λ xs. Contains xs x) (set_here rows j v within ∙ is) (subst (λ k. Contains (items_in (slice_get (set rows j v) k)) x) e h))) [
      | inl was ↦ inl (subst (λ k. Contains (row old k) x) (sym e) (subst (λ xs. Contains xs x) (same j) was))
      | inr now ↦ inr (e, sym now)
    ]
    | inr n ↦ inl (subst (λ xs. Contains xs x) (set_else rows i j v n ∙ same i) h)
  ];
  there = rw (set_here rows j v within, is) (Contains-push (row rows j) item);
}

kept_at : {T : Type 0} (rows : List (Vec T Global)) (v : Vec T Global) (i : ℕ) → i < length rows → items_in (slice_get (rows ++ v ∷ []) i) ≡ items_in (slice_get rows i)
kept_at [] v i lt = absurd (omega arith)
kept_at (x ∷ rows) v zero lt = refl
kept_at (x ∷ rows) v (suc i) lt = kept_at rows v i (omega arith)

last_at : {T : Type 0} (rows : List (Vec T Global)) (v : Vec T Global) → items_in (slice_get (rows ++ v ∷ []) (length rows)) ≡ v.items
last_at [] v = refl
last_at (x ∷ rows) v = last_at rows v

pub row_kept : {T : Type 0} (rows : List (Vec T Global)) (v : Vec T Global) (i : ℕ) → i < length rows → row (rows ++ v ∷ []) i ≡ row rows i
unfolding row
row_kept rows v i lt = kept_at rows v i lt

pub row_last : {T : Type 0} (rows : List (Vec T Global)) (v : Vec T Global) → row (rows ++ v ∷ []) (length rows) ≡ v.items
unfolding row
row_last rows v = last_at rows v

pub row_past : {T : Type 0} (rows : List (Vec T Global)) (i : ℕ) → length rows ≤ i → row rows i ≡ []
unfolding row
row_past rows i past = ap items_in (slice_get_past rows i past)
