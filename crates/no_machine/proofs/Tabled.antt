-- Tables with an entry for each function.
use Rattle.std.proofs.Common.{◌≡◌, ℕ, ◌+◌, ◌<◌, ◌≤◌, ◌++◌, ◌∷◌, [], inl, inr, List, length, get_or, slice_get, Some, sym, ap, ◌∙◌, arith, length-append}
use Rattle.std.proofs.lemmas.Bool.{cases_lt}
use Rattle.std.proofs.lemmas.Option.{get_or_from_slice_get, slice_get_within}
use Rattle.no_code.proofs.Grown.{last_at, stays_at}

-- the table has what f gives for the first k elements
pub record IsTabled {A B : Type 0} (f : A → B) (xs : List A) (table : List B) (k : ℕ) : Type 0 where
  pub many : length table ≡ k
  pub each : (j : ℕ) (x : A) → j < k → slice_get xs j ≡ Some x → slice_get table j ≡ Some (f x)

pub tabled_none : {A B : Type 0} (f : A → B) (xs : List A) (table : List B) → table ≡ [] → IsTabled f xs table 0
tabled_none f xs table e = record { many = ap length e; each = λ j x lt is. absurd (omega arith) }

pub tabled_more : {A B : Type 0} (f : A → B) (xs : List A) (old new : List B) (k : ℕ) (d : A) (v : B) → IsTabled f xs old k → d ≡ get_or xs k d → v ≡ f d → new ≡ old ++ v ∷ [] → IsTabled f xs new (k + 1)
tabled_more f xs old new k d v before is value put = record {
  many = ap length put ∙ length-append old (v ∷ []) ∙ ap (λ (n : ℕ). n + 1) before.many;
  each = λ j x lt at. elim (cases_lt j k) [
    | inl low ↦ stays_at old new j (f x) (v ∷ [], put) (before.each j x low at)
    | inr high ↦
        let same : j ≡ k = omega arith in
        let element : d ≡ x = is ∙ ap (λ (n : ℕ). get_or xs n d) (sym same) ∙ get_or_from_slice_get xs j x d at in
        ap (λ (l : List _). slice_get l j) put ∙ ap (λ (n : ℕ). slice_get (old ++ v ∷ []) n) (same ∙ sym before.many) ∙ last_at old v ∙ ap Some (value ∙ ap f element)
  ];
}

pub tabled_all : {A B : Type 0} (f : A → B) (xs ys : List A) (table : List B) (k : ℕ) → ys ≡ xs → length ys ≤ k → IsTabled f ys table k → (j : ℕ) (x : A) → slice_get xs j ≡ Some x → slice_get table j ≡ Some (f x)
tabled_all f xs ys table k same le t j x is =
    let at : slice_get ys j ≡ Some x = ap (λ (l : List _). slice_get l j) same ∙ is in
    t.each j x (omega (arith, le, slice_get_within ys j x at)) at
