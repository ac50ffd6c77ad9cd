-- A name's spelling is that name again.
use Rattle.std.proofs.Common.{◌≡◌, ℕ, suc, ◌+◌, ◌-◌, ◌*◌, ◌/◌, ◌%◌, ◌<◌, ◌≤◌, Bool, true, false, not, ◌&&◌, List, [], ◌∷◌, ◌++◌, ◌==◌, nat_le, nat_lt, length, take, if◌then◌else◌, refl, sym, ap, ◌∙◌, arith, length-append, true≢false, Some, None, bytes_eq, get_or}
use Rattle.std.proofs.lemmas.Bool.{le-leb, lt-leb, eqb-true, ne_eqb, ltb-true, ltb-false}
use Rattle.std.proofs.lemmas.Slice.Eq.{bytes_eq-Decides}
use Rattle.std.proofs.Math.Seq.{take-append_seam}
use Rattle.no_lex.specs.Spelling.{is_name}
use Rattle.no_read_rules.specs.Unescaped.{is_hex, hex_value, unescaped, inner, name_of}
use Rattle.no_names.specs.Spelled.{AreBytes, name_by}
use Rattle.no_print.specs.Names.{hex_digit, is_plain, escaped_byte, escaped, quoted, spelling}

-- ---- digits

digit_is : (n : ℕ) → n < 16 → (is_hex (hex_digit n) ≡ true) × (hex_value (hex_digit n) ≡ n) × ((hex_digit n == 92) ≡ false)
digit_is n h = by (nat_lt n 10) refl
  where
    small : n < 10 → (is_hex (48 + n) ≡ true) × (hex_value (48 + n) ≡ n) × (((48 + n) == 92) ≡ false)
    small k =
        let a : nat_le 48 (48 + n) ≡ true = le-leb 48 (48 + n) (omega arith) in
        let b : nat_le (48 + n) 57 ≡ true = le-leb (48 + n) 57 (omega arith) in
        (rw (a, b) refl, rw b (omega arith), ne_eqb (48 + n) 92 (λ e. omega arith))

    large : 10 ≤ n → (is_hex (55 + n) ≡ true) × (hex_value (55 + n) ≡ n) × (((55 + n) == 92) ≡ false)
    large k =
        let a : nat_le (55 + n) 57 ≡ false = lt-leb (55 + n) 57 (omega arith) in
        let b : nat_le 48 (55 + n) ≡ true = le-leb 48 (55 + n) (omega arith) in
        let c : nat_le 97 (55 + n) ≡ false = lt-leb 97 (55 + n) (omega arith) in
        let d : nat_le 65 (55 + n) ≡ true = le-leb 65 (55 + n) (omega arith) in
        let e : nat_le (55 + n) 70 ≡ true = le-leb (55 + n) 70 (omega arith) in
        (rw (a, b, c, d, e) refl, rw (a, e) (omega arith), ne_eqb (55 + n) 92 (λ e. omega arith))

    by : (b : Bool) → nat_lt n 10 ≡ b → let d : ℕ = (if b then 48 + n else 55 + n) in (is_hex d ≡ true) × (hex_value d ≡ n) × ((d == 92) ≡ false)
    by true e = small (ltb-true n 10 e)
    by false e = large (ltb-false n 10 e)

-- ---- one byte

plain_first : (b : ℕ) (rest : List ℕ) → (b == 92) ≡ false → unescaped (b ∷ rest) ≡ b ∷ unescaped rest
plain_first b [] e = refl
plain_first b (y ∷ []) e = rw e refl
plain_first b (y ∷ z ∷ rest) e = rw e refl

escape_first : (b : ℕ) (rest : List ℕ) → b < 256 → unescaped (92 ∷ hex_digit (b / 16) ∷ hex_digit (b % 16) ∷ rest) ≡ b ∷ unescaped rest
escape_first b rest h =
    let x = digit_is (b / 16) (omega arith) in
    let y = digit_is (b % 16) (omega arith) in
    let v : 16 * hex_value (hex_digit (b / 16)) + hex_value (hex_digit (b % 16)) ≡ b = rw (x.1, y.1) (omega arith) in
    rw (x.2, x.0, y.0) (ap (λ c. c ∷ unescaped rest) v)

first_again : (b : ℕ) (rest : List ℕ) → b < 256 → unescaped (escaped_byte b ++ rest) ≡ b ∷ unescaped rest
first_again b rest h = by (is_plain b) refl
  where
    by : (p : Bool) → is_plain b ≡ p → unescaped ((if p then b ∷ [] else 92 ∷ hex_digit (b / 16) ∷ hex_digit (b % 16) ∷ []) ++ rest) ≡ b ∷ unescaped rest
    by true e = plain_first b rest (last (nat_le 32 b) (nat_le b 126) (b == 34) (b == 92) e)
      where
        last : (p q r s : Bool) → (p && (q && (not r && not s))) ≡ true → s ≡ false
        last true true false false k = refl
        last true true false true k = absurd cc
        last true true true s k = absurd cc
        last true false r s k = absurd cc
        last false q r s k = absurd cc
    by false e = escape_first b rest h

-- ---- whole strings

pub unescaped_again : (bytes : List ℕ) → AreBytes bytes → unescaped (escaped bytes) ≡ bytes
unescaped_again [] h = refl
unescaped_again (b ∷ bytes) h = first_again b (escaped bytes) h.0 ∙ ap (λ l. b ∷ l) (unescaped_again bytes h.1)

inner_again : (bytes : List ℕ) → inner (quoted bytes) ≡ escaped bytes
inner_again bytes =
    let e : length (34 ∷ (escaped bytes ++ 34 ∷ [])) - 2 ≡ length (escaped bytes) = omega (arith, length-append (escaped bytes) (34 ∷ [])) in
    ap (λ n. take n (escaped bytes ++ 34 ∷ [])) e ∙ take-append_seam (escaped bytes) (34 ∷ [])

pub string_again : (bytes : List ℕ) → AreBytes bytes → unescaped (inner (quoted bytes)) ≡ bytes
string_again bytes h = ap unescaped (inner_again bytes) ∙ unescaped_again bytes h

-- ---- names

bare_again : (name : List ℕ) → is_name name ≡ true → name_of name ≡ name
bare_again [] e = refl
bare_again (b ∷ name) e = by (b == 34) refl
  where
    no_quote : b ≡ 34 → ⊥
    no_quote q = true≢false (sym e ∙ ap (λ c. list_all_from c) q)
      where
        list_all_from : ℕ → Bool
        list_all_from c = is_name (c ∷ name)

    by : (q : Bool) → (b == 34) ≡ q → (if q then unescaped (inner (b ∷ name)) else b ∷ name) ≡ b ∷ name
    by true k = absurd (no_quote (eqb-true b 34 k))
    by false k = refl

pub name_again : (name : List ℕ) → AreBytes name → name_of (spelling name) ≡ name
name_again name h = by (is_name name) refl
  where
    by : (n : Bool) → is_name name ≡ n → name_of (if n then name else quoted name) ≡ name
    by true e = bare_again name e
    by false e = string_again name h

-- its spelling is the one spelling of it
pub spelled_again : (name : List ℕ) → AreBytes name → name_by (spelling name) ≡ Some name
spelled_again name h =
    ap (λ (n : List ℕ). if bytes_eq (spelling n) (spelling name) then Some n else None) (name_again name h)
    ∙ ap (λ (b : Bool). if b then Some name else None) ((bytes_eq-Decides (spelling name) (spelling name)).1 refl)

-- bytes that were read are below 256
pub are_bytes : (bytes : List ℕ) → ((i : ℕ) → get_or bytes i 0 < 256) → AreBytes bytes
are_bytes [] h = tt
are_bytes (b ∷ bytes) h = (h 0, are_bytes bytes (λ i. h (suc i)))
