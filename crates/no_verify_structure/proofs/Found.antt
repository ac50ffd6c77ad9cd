-- The step of a loop that looks for the first element in which there is something.
use Rattle.std.proofs.Common.{◌≡◌, ◌<◌, ℕ, suc, ◌+◌, List, ◌∷◌, length, drop, get_or, Option, Some, None, refl, sym, ap, ◌∙◌, arith}
use Rattle.std.proofs.Math.Seq.{drop-cons}
use Rattle.no_verify_types.specs.Places.{found_or}
use Rattle.no_verify_structure.specs.Finding.{first_at}

module _ {A B : Type 0} (find : ℕ → A → Option B) (xs : List A) (k : ℕ) (x : A) where
  at_step : k < length xs → x ≡ get_or xs k x → first_at find k (drop k xs) ≡ found_or k (find k x) (first_at find (k + 1) (drop (k + 1) xs))
  at_step lt is =
      ap (first_at find k) (drop-cons xs k x lt)
      ∙ ap (λ (y : A). found_or k (find k y) (first_at find (k + 1) (drop (suc k) xs))) (sym is)
      ∙ ap (λ (j : ℕ). found_or k (find k x) (first_at find (k + 1) (drop j xs))) (let e : suc k ≡ k + 1 = omega arith in e)

  pub is_found : (b : B) → k < length xs → x ≡ get_or xs k x → Some b ≡ find k x → first_at find 0 xs ≡ first_at find k (drop k xs) → Some (k, b) ≡ first_at find 0 xs
  is_found b lt is e inv = sym (inv ∙ at_step lt is ∙ ap (λ o. found_or k o (first_at find (k + 1) (drop (k + 1) xs))) (sym e))

  pub is_passed : k < length xs → x ≡ get_or xs k x → None ≡ find k x → first_at find 0 xs ≡ first_at find k (drop k xs) → first_at find 0 xs ≡ first_at find (k + 1) (drop (k + 1) xs)
  is_passed lt is e inv = inv ∙ at_step lt is ∙ ap (λ o. found_or k o (first_at find (k + 1) (drop (k + 1) xs))) (sym e)
