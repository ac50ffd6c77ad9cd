-- Numbers that differ, with those that were seen before them in a set.
use Rattle.std.proofs.Common.{arith, ◌≡◌, ◌∙◌, refl, sym, ap, inl, inr, ℕ, ◌+◌, ◌<◌, Bool, true, false, cond, not, ◌&&◌, ◌||◌, nat_eq, List, [], ◌∷◌, length, drop, get_or}
use Rattle.std.specs.List.{list_all, list_any}
use Rattle.std.specs.BTreeMap.{is_at}
use Rattle.std.specs.Ordering.{nat_cmp}
use Rattle.std.proofs.lemmas.Bool.{cases_order, eq-eqb, le-ltb, lt-ltb, ne_eqb, not-false, not-true}
use Rattle.std.proofs.lemmas.List.{drop_more}
use Rattle.no_verify_types.specs.Typing.{all_differ, case_numbers}

-- whether no number was seen, and all differ
abbrev pub all_new : (ℕ → Bool) → List ℕ → Bool
all_new seen numbers = list_all (λ n. not (seen n)) numbers && all_differ numbers

-- ---- the order's test of equality

at_equal : (k q : ℕ) → k ≡ q → is_at (nat_cmp k) q ≡ nat_eq k q
at_equal k q same = rw (le-ltb k q (omega (arith, same)), eq-eqb k q same) refl

at_less : (k q : ℕ) → k < q → is_at (nat_cmp k) q ≡ nat_eq k q
at_less k q below = rw (lt-ltb k q below, ne_eqb k q (λ e. omega (arith, e))) refl

at_more : (k q : ℕ) → q < k → is_at (nat_cmp k) q ≡ nat_eq k q
at_more k q above = rw (le-ltb k q (omega arith), ne_eqb k q (λ e. omega (arith, e))) refl

same_test : (k q : ℕ) → is_at (nat_cmp k) q ≡ nat_eq k q
same_test k q = elim (cases_order k q) [
  | inl same ↦ at_equal k q same
  | inr apart ↦ elim apart [ inl below ↦ at_less k q below | inr above ↦ at_more k q above ]
]

-- ---- the loop over the cases

all_fresh : (seen : ℕ → Bool) (numbers : List ℕ) → ((q : ℕ) → seen q ≡ false) → list_all (λ n. not (seen n)) numbers ≡ true
all_fresh seen [] none = refl
all_fresh seen (n ∷ more) none = rw (none n) (all_fresh seen more none)

-- where nothing was seen, they only have to differ
pub none_seen : (seen : ℕ → Bool) (numbers : List ℕ) → ((q : ℕ) → seen q ≡ false) → all_new seen numbers ≡ all_differ numbers
none_seen seen numbers none = rw (all_fresh seen numbers none) refl

again : (seen : ℕ → Bool) (n : ℕ) (more : List ℕ) → seen n ≡ true → all_new seen (n ∷ more) ≡ false
again seen n more is = rw is refl

bits : (e o a b : Bool) → (not (cond e true o) && (a && not b)) ≡ ((not o && a) && not (e || b))
bits true true a b = refl
bits true false true b = refl
bits true false false b = refl
bits false true a b = refl
bits false false a b = refl

regrouped : (a b d : Bool) → (a && (b && d)) ≡ ((a && b) && d)
regrouped true b d = refl
regrouped false b d = refl

-- none is seen once n is, where none was before and none is n
apart : (old new : ℕ → Bool) (n : ℕ) (more : List ℕ) → ((q : ℕ) → new q ≡ cond (nat_eq n q) true (old q)) → list_all (λ x. not (new x)) more ≡ (list_all (λ x. not (old x)) more && not (list_any (nat_eq n) more))
apart old new n [] added = refl
apart old new n (x ∷ more) added = rw (added x, apart old new n more added) (bits (nat_eq n x) (old x) (list_all (λ y. not (old y)) more) (list_any (nat_eq n) more))

goes_on : (old new : ℕ → Bool) (n : ℕ) (more : List ℕ) → ((q : ℕ) → new q ≡ cond (is_at (nat_cmp n) q) true (old q)) → old n ≡ false → all_new old (n ∷ more) ≡ all_new new more
goes_on old new n more added fresh =
    rw (fresh, apart old new n more (λ q. added q ∙ ap (λ (b : Bool). cond b true (old q)) (same_test n q)))
    (regrouped (list_all (λ x. not (old x)) more) (not (list_any (nat_eq n) more)) (all_differ more))

-- the number of a case
abbrev pub number_at : List (ℕ × ℕ) → ℕ → ℕ
number_at cases i = (get_or cases i (0, 0)).0

next_case : (cases : List (ℕ × ℕ)) (i : ℕ) → i < length cases → case_numbers (drop i cases) ≡ number_at cases i ∷ case_numbers (drop (i + 1) cases)
next_case cases i below = ap case_numbers (drop_more cases i (0, 0) below)

pub case_again : (cases : List (ℕ × ℕ)) (i : ℕ) (seen : ℕ → Bool) (is_new total : Bool) → i < length cases → is_new ≡ not (seen (number_at cases i)) → is_new ≡ false → all_new seen (case_numbers (drop i cases)) ≡ total → false ≡ total
case_again cases i seen is_new total below told old so_far =
    sym (again seen (number_at cases i) (case_numbers (drop (i + 1) cases)) (not-false (seen (number_at cases i)) (sym told ∙ old))) ∙ sym (ap (all_new seen) (next_case cases i below)) ∙ so_far

pub case_more : (cases : List (ℕ × ℕ)) (i : ℕ) (old new : ℕ → Bool) (is_new total : Bool) → i < length cases → ((q : ℕ) → new q ≡ cond (is_at (nat_cmp (number_at cases i)) q) true (old q)) → is_new ≡ not (old (number_at cases i)) → is_new ≡ true
    → all_new old (case_numbers (drop i cases)) ≡ total → all_new new (case_numbers (drop (i + 1) cases)) ≡ total
case_more cases i old new is_new total below added told fresh so_far =
    sym (goes_on old new (number_at cases i) (case_numbers (drop (i + 1) cases)) added (not-true (old (number_at cases i)) (sym told ∙ fresh))) ∙ sym (ap (all_new old) (next_case cases i below)) ∙ so_far
