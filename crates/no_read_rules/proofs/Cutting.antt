-- The bytes of a token, cut from the text.
use Rattle.std.proofs.Common.{◌≡◌, ℕ, suc, zero, ◌-◌, List, [], ◌∷◌, length, take, drop, min, refl, ap, ◌∙◌, arith}
use Rattle.no_lex.specs.declared.token.Token.{Token}
use Rattle.no_read_rules.specs.Spelled.{spelled}

take_min : (n : ℕ) (xs : List ℕ) → take (min n (length xs)) xs ≡ take n xs
take_min zero xs = rw (let e : min 0 (length xs) ≡ 0 = omega arith in e) refl
take_min (suc n) [] = rw (let e : min (suc n) 0 ≡ 0 = omega arith in e) refl
take_min (suc n) (x ∷ xs) = rw (let e : min (suc n) (suc (length xs)) ≡ suc (min n (length xs)) = omega arith in e) (ap (λ ys. x ∷ ys) (take_min n xs))

drop_min : (n : ℕ) (xs : List ℕ) → drop (min n (length xs)) xs ≡ drop n xs
drop_min zero xs = rw (let e : min 0 (length xs) ≡ 0 = omega arith in e) refl
drop_min (suc n) [] = rw (let e : min (suc n) 0 ≡ 0 = omega arith in e) refl
drop_min (suc n) (x ∷ xs) = rw (let e : min (suc n) (suc (length xs)) ≡ suc (min n (length xs)) = omega arith in e) (drop_min n xs)

pub cut : (text rest word : List ℕ) (token : Token) → rest ≡ drop (min token.start (length text)) text → word ≡ take (min (token.end - token.start) (length rest)) rest → word ≡ spelled text token
cut text rest word token r w = w ∙ take_min (token.end - token.start) rest ∙ ap (take (token.end - token.start)) (r ∙ drop_min token.start text)
