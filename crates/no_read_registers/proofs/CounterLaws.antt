-- What the counter's digits are.
use Rattle.std.proofs.Common.{◌≡◌, ℕ, ◌+◌, ◌-◌, ◌*◌, ◌≤◌, ◌==◌, Bool, true, false, List, [], ◌∷◌, ◌++◌, reverse, nat_lt, nat_le, if◌then◌else◌, refl, sym, ap, ◌∙◌, arith}
use Rattle.std.proofs.lemmas.Bool.{leb-true, ltb-false, eqb-true, and_parts, and_from}
use Rattle.std.proofs.lemmas.List.{reverse-append}
use Rattle.std.proofs.lemmas.List.Folds.{list_all-append}
use Rattle.std.specs.List.{list_all}
use Rattle.no_lex.specs.Spelling.{is_digit, is_digits}
use Rattle.no_read_registers.specs.Counting.{value, next, stripped, behind_name}

digit_within : (d : ℕ) → is_digit d ≡ true → (48 ≤ d) × (d ≤ 57)
digit_within d h = let p = and_parts (nat_le 48 d) (nat_le d 57) h in (leb-true 48 d p.0, leb-true d 57 p.1)

pub next_value : (ds : List ℕ) → list_all is_digit ds ≡ true → value (next ds) ≡ 1 + value ds
next_value [] h = refl
next_value (d ∷ ds) h = let p = and_parts (is_digit d) (list_all is_digit ds) h in by (nat_lt d 57) refl (digit_within d p.0) (next_value ds p.1)
  where
    by : (b : Bool) → nat_lt d 57 ≡ b → (48 ≤ d) × (d ≤ 57) → value (next ds) ≡ 1 + value ds → value (if b then (d + 1) ∷ ds else 48 ∷ next ds) ≡ 1 + value (d ∷ ds)
    by true e within more = omega (arith, within.0)
    by false e within more = omega (arith, within.0, within.1, more, ltb-false d 57 e)

last_zero : (ds : List ℕ) → value (ds ++ 48 ∷ []) ≡ value ds
last_zero [] = refl
last_zero (d ∷ ds) = ap (λ n. (d - 48) + 10 * n) (last_zero ds)

stripped_value : (name : List ℕ) → value (reverse (stripped name)) ≡ value (reverse name)
stripped_value [] = refl
stripped_value (d ∷ ds) = by (d == 48) refl (stripped_value ds)
  where
    by : (b : Bool) → (d == 48) ≡ b → value (reverse (stripped ds)) ≡ value (reverse ds) → value (reverse (if b then stripped ds else d ∷ ds)) ≡ value (reverse (d ∷ ds))
    by true e more = more ∙ sym (last_zero (reverse ds)) ∙ ap (λ k. value (reverse ds ++ k ∷ [])) (sym (eqb-true d 48 e)) ∙ ap value (sym (reverse-append (d ∷ []) ds))
    by false e more = refl

stripped_digits : (name : List ℕ) → list_all is_digit name ≡ true → list_all is_digit (stripped name) ≡ true
stripped_digits [] h = refl
stripped_digits (d ∷ ds) h = by (d == 48) (stripped_digits ds (and_parts (is_digit d) (list_all is_digit ds) h).1)
  where
    by : (b : Bool) → list_all is_digit (stripped ds) ≡ true → list_all is_digit (if b then stripped ds else d ∷ ds) ≡ true
    by true more = more
    by false more = h

reversed_digits : (name : List ℕ) → list_all is_digit name ≡ true → list_all is_digit (reverse name) ≡ true
reversed_digits [] h = refl
reversed_digits (d ∷ ds) h =
    let p = and_parts (is_digit d) (list_all is_digit ds) h in
    rw (reverse-append (d ∷ []) ds, list_all-append is_digit (reverse ds) (d ∷ [])) (and_from (list_all is_digit (reverse ds)) (list_all is_digit (d ∷ [])) (reversed_digits ds p.1) (and_from (is_digit d) true p.0 refl))

pub behind_value : (counter name : List ℕ) → is_digits name ≡ true → value (behind_name counter name) ≡ 1 + value (reverse name)
behind_value counter [] h = absurd cc
behind_value counter (d ∷ ds) h = rw h (next_value (reverse (stripped (d ∷ ds))) (reversed_digits (stripped (d ∷ ds)) (stripped_digits (d ∷ ds) h)) ∙ ap (λ n. 1 + n) (stripped_value (d ∷ ds)))
