-- The bytes of a string, one spelling after another.
use Rattle.std.proofs.Common.{◌≡◌, ℕ, ◌<◌, ◌≤◌, ◌+◌, ◌-◌, ◌*◌, Bool, true, false, ◌&&◌, List, [], ◌∷◌, ◌++◌, ◌==◌, length, drop, if◌then◌else◌, refl, sym, ap, ◌∙◌, append_assoc, arith}
use Rattle.std.proofs.lemmas.List.{length-drop}
use Rattle.no_read_rules.specs.Unescaped.{is_hex, hex_value, first_byte, unescaped}

abbrev Step : List ℕ → Type 0
Step xs = (unescaped xs ≡ (first_byte xs).0 ∷ unescaped (drop (first_byte xs).1 xs)) × (0 < (first_byte xs).1) × ((first_byte xs).1 ≤ length xs)

step : (x : ℕ) (xs : List ℕ) → Step (x ∷ xs)
step x [] = (refl, omega arith, omega arith)
step x (y ∷ []) = by (x == 92 && y == 92)
  where
    by : (b : Bool) → let f : ℕ × ℕ = (if b then (92, 2) else (x, 1)) in
        ((if b then 92 ∷ [] else x ∷ unescaped (y ∷ [])) ≡ f.0 ∷ unescaped (drop f.1 (x ∷ y ∷ []))) × (0 < f.1) × (f.1 ≤ length (x ∷ y ∷ []))
    by true = (refl, omega arith, omega arith)
    by false = (refl, omega arith, omega arith)
step x (y ∷ z ∷ rest) = by (x == 92 && y == 92) (x == 92 && (is_hex y && is_hex z))
  where
    by : (b c : Bool) → let f : ℕ × ℕ = (if b then (92, 2) else (if c then (16 * hex_value y + hex_value z, 3) else (x, 1))) in
        ((if b then 92 ∷ unescaped (z ∷ rest) else (if c then (16 * hex_value y + hex_value z) ∷ unescaped rest else x ∷ unescaped (y ∷ z ∷ rest))) ≡ f.0 ∷ unescaped (drop f.1 (x ∷ y ∷ z ∷ rest))) × (0 < f.1) × (f.1 ≤ length (x ∷ y ∷ z ∷ rest))
    by true c = (refl, omega arith, omega arith)
    by false true = (refl, omega arith, omega arith)
    by false false = (refl, omega arith, omega arith)

some : (xs : List ℕ) → 0 < length xs → Step xs
some [] h = absurd (omega arith)
some (x ∷ xs) h = step x xs

pub one_more : (all all' rest rest' bytes : List ℕ) (b n : ℕ) → 0 < length rest → b ≡ (first_byte rest).0 → n ≡ (first_byte rest).1 → all' ≡ all ++ b ∷ [] → rest' ≡ drop n rest
    → all ++ unescaped rest ≡ unescaped bytes → all' ++ unescaped rest' ≡ unescaped bytes
one_more all all' rest rest' bytes b n h eb en ea er so_far =
    rw (ea, er, en, eb) (append_assoc all ((first_byte rest).0 ∷ []) (unescaped (drop (first_byte rest).1 rest)) ∙ ap (λ l. all ++ l) (sym (some rest h).0) ∙ so_far)

pub fits : (rest : List ℕ) (n : ℕ) → 0 < length rest → n ≡ (first_byte rest).1 → n ≤ length rest
fits rest n h e = rw e (some rest h).2

pub falls : (rest rest' : List ℕ) (n : ℕ) → 0 < length rest → n ≡ (first_byte rest).1 → rest' ≡ drop n rest → length rest' < length rest
falls rest rest' n h e er = let s = some rest h in rw er (let k : length (drop n rest) ≡ length rest - n = length-drop n rest in omega (arith, s.1, s.2))
