-- What is left of the input.
use Rattle.std.proofs.Common.{◌≡◌, ℕ, ◌+◌, ◌<◌, ◌≤◌, List, [], ◌∷◌, ◌++◌, length, drop, get_or, refl, sym, arith}
use Rattle.std.proofs.lemmas.List.{drop_more, drop_all, drop-append-le}

pub next_is : (xs : List ℕ) (at : ℕ) → at < length xs → drop at xs ≡ get_or xs at 0 ∷ drop (at + 1) xs
next_is xs at h = drop_more xs at 0 h

pub none_left : (xs : List ℕ) (at : ℕ) → at ≡ length xs → drop at xs ≡ []
none_left xs at e = drop_all at xs (omega arith)

pub fed : (xs ys : List ℕ) (at : ℕ) → at ≤ length xs → drop at (xs ++ ys) ≡ drop at xs ++ ys
fed xs ys at h = drop-append-le at xs ys h

pub fed_anew : (ys : List ℕ) → drop 0 ([] ++ ys) ≡ ys
fed_anew ys = refl
