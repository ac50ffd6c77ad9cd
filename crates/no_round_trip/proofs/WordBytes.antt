-- What is taken out of bytes is bytes.
use Rattle.std.proofs.Common.{◌≡◌, ℕ, suc, ◌+◌, ◌-◌, ◌*◌, ◌<◌, Bool, true, false, ◌&&◌, ◌||◌, List, [], ◌∷◌, ◌==◌, nat_le, get_or, length, drop, ◌⊎◌, inl, inr, if◌then◌else◌, refl, arith}
use Rattle.std.proofs.lemmas.Bool.{leb-true, lt-leb}
use Rattle.no_lex.specs.declared.token.Token.{Token}
use Rattle.no_read_rules.specs.Spelled.{spelled}
use Rattle.no_read_rules.specs.Unescaped.{is_hex, hex_value, unescaped, inner, is_quoted, name_of}
use Rattle.no_round_trip.specs.Spells.{AreBytes}
use Rattle.no_round_trip.proofs.RuleFound.{bytes_take, bytes_drop}

both : (a b : Bool) → (a && b) ≡ true → (a ≡ true) × (b ≡ true)
both true b e = (refl, e)
both false b e = absurd cc

either : (a b : Bool) → (a || b) ≡ true → (a ≡ true) ⊎ (b ≡ true)
either true b e = inl refl
either false b e = inr e

hex_small : (b : ℕ) → is_hex b ≡ true → hex_value b < 16
hex_small b e = elim (either ((nat_le 48 b && nat_le b 57) || (nat_le 97 b && nat_le b 102)) (nat_le 65 b && nat_le b 70) e) [ inl r ↦ first r | inr d ↦ upper (both (nat_le 65 b) (nat_le b 70) d) ]
  where
    digit : (nat_le 48 b ≡ true) × (nat_le b 57 ≡ true) → hex_value b < 16
    digit d = let low = leb-true 48 b d.0 in let high = leb-true b 57 d.1 in rw d.1 (omega arith)

    lower : (nat_le 97 b ≡ true) × (nat_le b 102 ≡ true) → hex_value b < 16
    lower d =
        let low = leb-true 97 b d.0 in
        let high = leb-true b 102 d.1 in
        rw (lt-leb b 57 (omega arith), lt-leb b 70 (omega arith)) (omega arith)

    upper : (nat_le 65 b ≡ true) × (nat_le b 70 ≡ true) → hex_value b < 16
    upper d =
        let low = leb-true 65 b d.0 in
        let high = leb-true b 70 d.1 in
        rw (lt-leb b 57 (omega arith), d.1) (omega arith)

    first : ((nat_le 48 b && nat_le b 57) || (nat_le 97 b && nat_le b 102)) ≡ true → hex_value b < 16
    first r = elim (either (nat_le 48 b && nat_le b 57) (nat_le 97 b && nat_le b 102) r) [ inl d ↦ digit (both (nat_le 48 b) (nat_le b 57) d) | inr d ↦ lower (both (nat_le 97 b) (nat_le b 102) d) ]

pair_small : (x y z : ℕ) → (x == 92 && (is_hex y && is_hex z)) ≡ true → 16 * hex_value y + hex_value z < 256
pair_small x y z e =
    let d = both (is_hex y) (is_hex z) (both (x == 92) (is_hex y && is_hex z) e).1 in
    let a = hex_small y d.0 in
    let b = hex_small z d.1 in
    omega arith

pub bytes_unescaped : (bytes : List ℕ) → AreBytes bytes → AreBytes (unescaped bytes)
bytes_unescaped [] h = tt
bytes_unescaped (x ∷ []) h = h
bytes_unescaped (x ∷ y ∷ []) h = by (x == 92 && y == 92) (bytes_unescaped (y ∷ []) h.1)
  where
    by : (b : Bool) → AreBytes (unescaped (y ∷ [])) → AreBytes (if b then 92 ∷ [] else x ∷ unescaped (y ∷ []))
    by true more = (omega arith, tt)
    by false more = (h.0, more)
bytes_unescaped (x ∷ y ∷ z ∷ rest) h =
    by (x == 92 && y == 92) (x == 92 && (is_hex y && is_hex z)) refl (bytes_unescaped (z ∷ rest) h.1.1) (bytes_unescaped rest h.1.1.1) (bytes_unescaped (y ∷ z ∷ rest) h.1)
  where
    by : (b c : Bool) → (x == 92 && (is_hex y && is_hex z)) ≡ c → AreBytes (unescaped (z ∷ rest)) → AreBytes (unescaped rest) → AreBytes (unescaped (y ∷ z ∷ rest))
        → AreBytes (if b then 92 ∷ unescaped (z ∷ rest) else (if c then (16 * hex_value y + hex_value z) ∷ unescaped rest else x ∷ unescaped (y ∷ z ∷ rest)))
    by true c e two three one = (omega arith, two)
    by false true e two three one = (pair_small x y z e, three)
    by false false e two three one = (h.0, one)

pub bytes_string : (bytes : List ℕ) → AreBytes bytes → AreBytes (unescaped (inner bytes))
bytes_string bytes h = bytes_unescaped (inner bytes) (bytes_take (length bytes - 2) (drop 1 bytes) (bytes_drop 1 bytes h))

pub bytes_name : (bytes : List ℕ) → AreBytes bytes → AreBytes (name_of bytes)
bytes_name bytes h = by (is_quoted bytes)
  where
    by : (b : Bool) → AreBytes (if b then unescaped (inner bytes) else bytes)
    by true = bytes_string bytes h
    by false = h

pub bytes_spelled : (text : List ℕ) (token : Token) → AreBytes text → AreBytes (spelled text token)
bytes_spelled text token h = bytes_take (token.end - token.start) (drop token.start text) (bytes_drop token.start text h)

-- bytes, from each of them
pub bytes_each : (bytes : List ℕ) → ((k : ℕ) → k < length bytes → get_or bytes k 0 < 256) → AreBytes bytes
bytes_each [] h = tt
bytes_each (b ∷ bytes) h = (h 0 (omega arith), bytes_each bytes (λ k l. h (suc k) (omega arith)))
