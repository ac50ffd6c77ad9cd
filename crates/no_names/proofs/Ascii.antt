-- A name's spelling is ASCII.
use Rattle.std.proofs.Common.{◌≡◌, ℕ, zero, suc, ◌+◌, ◌/◌, ◌%◌, ◌<◌, Bool, true, false, ◌&&◌, List, [], ◌∷◌, ◌++◌, nat_lt, if◌then◌else◌, refl, arith}
use Rattle.std.proofs.lemmas.Bool.Decides.{nat_tests}
use Rattle.std.proofs.lemmas.Str.{IsAscii-append}
use Rattle.std.specs.List.{list_all}
use Rattle.std.specs.Str.{IsAscii}
use Rattle.no_lex.specs.Spelling.{is_name, is_name_byte}
use Rattle.no_names.specs.Spelled.{AreBytes}
use Rattle.no_print.specs.Names.{hex_digit, is_plain, escaped_byte, escaped, quoted, spelling}

ascii_none : IsAscii []
ascii_none i = omega arith

ascii_more : (b : ℕ) (bytes : List ℕ) → b < 128 → IsAscii bytes → IsAscii (b ∷ bytes)
ascii_more b bytes h k zero = h
ascii_more b bytes h k (suc i) = k i

-- ---- in quotes

digit_small : (n : ℕ) → n < 16 → hex_digit n < 128
digit_small n h = by (nat_lt n 10)
  where
    by : (b : Bool) → (if b then 48 + n else 55 + n) < 128
    by true = omega arith
    by false = omega arith

plain_small : (b : ℕ) → is_plain b ≡ true → b < 128
plain_small b e = grind (arith, nat_tests)

byte_ascii : (b : ℕ) → b < 256 → IsAscii (escaped_byte b)
byte_ascii b h = by (is_plain b) refl
  where
    by : (p : Bool) → is_plain b ≡ p → IsAscii (if p then b ∷ [] else 92 ∷ hex_digit (b / 16) ∷ hex_digit (b % 16) ∷ [])
    by true e = ascii_more b [] (plain_small b e) ascii_none
    by false e =
        let high = digit_small (b / 16) (omega arith) in
        let low = digit_small (b % 16) (omega arith) in
        ascii_more 92 (hex_digit (b / 16) ∷ hex_digit (b % 16) ∷ []) (omega arith)
        (ascii_more (hex_digit (b / 16)) (hex_digit (b % 16) ∷ []) high (ascii_more (hex_digit (b % 16)) [] low ascii_none))

escaped_ascii : (bytes : List ℕ) → AreBytes bytes → IsAscii (escaped bytes)
escaped_ascii [] h = ascii_none
escaped_ascii (b ∷ bytes) h = IsAscii-append (escaped_byte b) (escaped bytes) (byte_ascii b h.0) (escaped_ascii bytes h.1)

quoted_ascii : (bytes : List ℕ) → AreBytes bytes → IsAscii (quoted bytes)
quoted_ascii bytes h = ascii_more 34 (escaped bytes ++ 34 ∷ []) (omega arith) (IsAscii-append (escaped bytes) (34 ∷ []) (escaped_ascii bytes h) (ascii_more 34 [] (omega arith) ascii_none))

-- ---- bare

name_byte_small : (b : ℕ) → is_name_byte b ≡ true → b < 128
name_byte_small b e = grind (arith, nat_tests)

bytes_ascii : (name : List ℕ) → list_all is_name_byte name ≡ true → IsAscii name
bytes_ascii [] e = ascii_none
bytes_ascii (b ∷ name) e = let both = parts (is_name_byte b) (list_all is_name_byte name) e in ascii_more b name (name_byte_small b both.0) (bytes_ascii name both.1)
  where
    parts : (p q : Bool) → (p && q) ≡ true → (p ≡ true) × (q ≡ true)
    parts true true k = (refl, refl)
    parts true false k = absurd cc
    parts false q k = absurd cc

bare_ascii : (name : List ℕ) → is_name name ≡ true → IsAscii name
bare_ascii [] e = ascii_none
bare_ascii (b ∷ name) e = bytes_ascii (b ∷ name) e

pub spelling_ascii : (name : List ℕ) → AreBytes name → IsAscii (spelling name)
spelling_ascii name h = by (is_name name) refl
  where
    by : (n : Bool) → is_name name ≡ n → IsAscii (if n then name else quoted name)
    by true e = bare_ascii name e
    by false e = quoted_ascii name h
