-- Lists whose elements are related one by one, and ranges that were appended.
use Rattle.std.proofs.Common.{◌≡◌, ℕ, suc, ◌+◌, ◌-◌, ◌<◌, List, [], ◌∷◌, ◌++◌, length, take, drop, get_or, refl, sym, ap, subst, ◌∙◌, arith, append_assoc}
use Rattle.std.proofs.lemmas.List.{take_more, take_at, drop_at, length-append}
use Rattle.no_code.specs.Coded.{Each, IsRange}
use Rattle.no_code.specs.Longer.{Extends}

each_snoc : {A B : Type 0} (R : A → B → Type 0) (xs : List A) (ys : List B) (x : A) (y : B) → Each R xs ys → R x y → Each R (xs ++ x ∷ []) (ys ++ y ∷ [])
each_snoc R [] [] x y all is = (is, tt)
each_snoc R [] (z ∷ ys) x y all is = absurd all
each_snoc R (w ∷ xs) [] x y all is = absurd all
each_snoc R (w ∷ xs) (z ∷ ys) x y all is = (all.0, each_snoc R xs ys x y all.1 is)

pub each_more : {A B : Type 0} (R : A → B → Type 0) (xs : List A) (ys : List B) (k : ℕ) (d : A) (y : B) → k < length xs → Each R (take k xs) ys → R (get_or xs k d) y → Each R (take (k + 1) xs) (ys ++ y ∷ [])
each_more {A = A} {B = B} R xs ys k d y lt all is =
    subst (λ (l : List A). Each R l (ys ++ y ∷ [])) (sym (take_more xs k d lt)) (each_snoc R (take k xs) ys (get_or xs k d) y all is)

pub each_map : {A B : Type 0} (R S : A → B → Type 0) (xs : List A) (ys : List B) → ((x : A) (y : B) → R x y → S x y) → Each R xs ys → Each S xs ys
each_map R S [] [] go all = tt
each_map R S [] (z ∷ ys) go all = absurd all
each_map R S (w ∷ xs) [] go all = absurd all
each_map R S (w ∷ xs) (z ∷ ys) go all = (go w z all.0, each_map R S xs ys go all.1)

pub each_length : {A B : Type 0} (R : A → B → Type 0) (xs : List A) (ys : List B) → Each R xs ys → length xs ≡ length ys
each_length R [] [] all = refl
each_length R [] (z ∷ ys) all = absurd all
each_length R (w ∷ xs) [] all = absurd all
each_length R (w ∷ xs) (z ∷ ys) all = ap suc (each_length R xs ys all.1)

-- a range that was appended stays while the table grows
pub range_stays : {A : Type 0} (old xs now later : List A) (from to : ℕ) → from ≡ length old → to ≡ length now → now ≡ old ++ xs → Extends now later → IsRange later from to xs
range_stays {A = A} old xs now later from to e f is more =
    let whole : later ≡ (old ++ xs) ++ more.0 = more.1 ∙ ap (λ (l : List A). l ++ more.0) is in
    let many : length now ≡ length old + length xs = ap length is ∙ length-append old xs in
    let long : length later ≡ length old + length xs + length more.0 = ap length whole ∙ length-append (old ++ xs) more.0 ∙ ap (λ (k : ℕ). k + length more.0) (length-append old xs) in
    let n : to - from ≡ length xs = omega (arith, e, f, many) in
    record {
      ordered = omega (arith, e, f, many);
      within = omega (arith, f, many, long);
      is = ap (λ (l : List A). take (to - from) (drop from l)) (whole ∙ append_assoc old xs more.0)
          ∙ ap (λ (l : List A). take (to - from) l) (drop_at old (xs ++ more.0) from (sym e))
          ∙ take_at xs more.0 (to - from) (sym n);
    }
