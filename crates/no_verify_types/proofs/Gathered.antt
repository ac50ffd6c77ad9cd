-- Lists that are gathered one after the other.
use Rattle.std.proofs.Common.{arith, ◌≡◌, ◌∙◌, sym, ap, ℕ, zero, suc, ◌+◌, ◌<◌, List, [], ◌∷◌, ◌++◌, length, map, take, get_or, append-nil, append_assoc}
use Rattle.std.specs.List.{concat}

module _ {A : Type 0} (f : A → List ℕ) where
  one_more : (xs : List A) (i : ℕ) (x : A) → i < length xs → x ≡ get_or xs i x → concat (map f (take (i + 1) xs)) ≡ concat (map f (take i xs)) ++ f x
  one_more [] i x below is = absurd (omega arith)
  one_more (y ∷ ys) zero x below is = append-nil (f y) ∙ ap f (sym is)
  one_more (y ∷ ys) (suc i) x below is =
      let next : suc i + 1 ≡ suc (i + 1) = omega arith in
      rw next (ap (λ l. f y ++ l) (one_more ys i x (omega arith) is) ∙ sym (append_assoc (f y) (concat (map f (take i ys))) (f x)))

  -- the next list is added to those so far
  pub gathered : (xs : List A) (i : ℕ) (x : A) (front now next : List ℕ) → i < length xs → x ≡ get_or xs i x → now ≡ front ++ concat (map f (take i xs)) → next ≡ now ++ f x → next ≡ front ++ concat (map f (take (i + 1) xs))
  gathered xs i x front now next below is so_far added =
      added ∙ ap (λ l. l ++ f x) so_far ∙ append_assoc front (concat (map f (take i xs))) (f x) ∙ ap (λ l. front ++ l) (sym (one_more xs i x below is))
