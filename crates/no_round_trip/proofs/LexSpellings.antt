-- What names, strings and numbers are spelled as are tokens.
use Rattle.std.proofs.Common.{◌≡◌, ℕ, zero, suc, ◌+◌, ◌<◌, ◌/◌, ◌%◌, Bool, true, false, ◌||◌, List, [], ◌∷◌, ◌++◌, ◌==◌, nat_lt, bytes_eq, codes, decimal, ℤ, pos, negsuc, Some, inl, inr, if◌then◌else◌, refl, sym, ap, subst, ◌∙◌, append_assoc, arith, true≢false, ne_eqb, le-leb, lt-ltb}
use Rattle.std.specs.List.{list_all}
use Rattle.std.specs.Fmt.{digits, digits_onto, digit_glyph, signed_decimal}
use Rattle.std.proofs.lemmas.Bool.{and_from, and_parts, cases_Bool, eqb-true}
use Rattle.no_lex.specs.declared.token.TokenKind.TheVariants as kind
use Rattle.no_lex.specs.Spelling.{is_digit, is_letter, is_name_byte, is_integer, is_name, closes, is_string, name_kind, only_if, kind_of}
use Rattle.no_print.specs.Names.{hex_digit, is_plain, escaped_byte, escaped, quoted, spelling, label_spelling}
use Rattle.no_round_trip.specs.Fits.{IsLabel}

-- ---- strings

no_quote_digit : (n : ℕ) → (hex_digit n == 34) ≡ false
no_quote_digit n = by (nat_lt n 10)
  where
    by : (t : Bool) → ((if t then 48 + n else 55 + n) == 34) ≡ false
    by true = ne_eqb (48 + n) 34 (λ e. omega arith)
    by false = ne_eqb (55 + n) 34 (λ e. omega arith)

no_quote_plain : (b : ℕ) → is_plain b ≡ true → (b == 34) ≡ false
no_quote_plain b plain = elim (cases_Bool (b == 34)) [
  | inl is ↦ absurd (true≢false (sym plain ∙ ap is_plain (eqb-true b 34 is)))
  | inr other ↦ other
]

-- a quote ends a string where none stands before it
closes_byte : (b : ℕ) (rest : List ℕ) → closes rest ≡ true → closes (escaped_byte b ++ rest) ≡ true
closes_byte b rest e = elim (cases_Bool (is_plain b)) [
  | inl plain ↦ rw (plain, no_quote_plain b plain) e
  | inr other ↦ rw (other, no_quote_digit (b / 16), no_quote_digit (b % 16)) e
]

closes_escaped : (bytes : List ℕ) → closes (escaped bytes ++ 34 ∷ []) ≡ true
closes_escaped [] = refl
closes_escaped (b ∷ bytes) =
    subst (λ ys. closes ys ≡ true) (sym (append_assoc (escaped_byte b) (escaped bytes) (34 ∷ []))) (closes_byte b (escaped bytes ++ 34 ∷ []) (closes_escaped bytes))

pub quoted_kind : (bytes : List ℕ) → kind_of (quoted bytes) ≡ Some kind.Quoted
quoted_kind bytes = ap (λ t. only_if t kind.Quoted) (closes_escaped bytes)

-- ---- names

spelled : (name : List ℕ) → (is_name (spelling name) || is_string (spelling name)) ≡ true
spelled name = elim (cases_Bool (is_name name)) [
  | inl is ↦ rw (is, is) refl
  | inr other ↦ rw other (closes_escaped name)
]

pub global_kind : (name : List ℕ) → kind_of (64 ∷ spelling name) ≡ Some kind.Global
global_kind name = ap (λ t. only_if t kind.Global) (spelled name)

pub local_kind : (name : List ℕ) → kind_of (37 ∷ spelling name) ≡ Some kind.Local
local_kind name = ap (λ t. only_if t kind.Local) (spelled name)

named : (name : List ℕ) → is_name name ≡ true → kind_of name ≡ Some (name_kind name)
named [] e = absurd (true≢false (sym e))
named (b ∷ bytes) e = let parts = and_parts (is_name_byte b) (list_all is_name_byte bytes) e in rw parts.0 (ap (λ t. only_if t (name_kind (b ∷ bytes))) parts.1)

quoted_label : (name : List ℕ) → IsLabel (quoted name ++ 58 ∷ [])
quoted_label name = record { name = quoted name; kind = kind.Quoted; is = refl; spells = quoted_kind name; may = refl }

named_label : (name : List ℕ) → bytes_eq name (codes "...") ≡ false → is_name name ≡ true → IsLabel (name ++ 58 ∷ [])
named_label name dots e = elim (cases_Bool (is_integer name)) [
  | inl is ↦ record { name = name; kind = kind.Integer; is = refl; spells = named name e ∙ ap Some (rw is refl); may = refl }
  | inr other ↦ record { name = name; kind = kind.Word; is = refl; spells = named name e ∙ ap Some (rw (other, dots) refl); may = refl }
]

spelled_label : (name : List ℕ) → bytes_eq name (codes "...") ≡ false → IsLabel (spelling name ++ 58 ∷ [])
spelled_label name dots = elim (cases_Bool (is_name name)) [
  | inl is ↦ subst (λ t. IsLabel ((if t then name else quoted name) ++ 58 ∷ [])) (sym is) (named_label name dots is)
  | inr other ↦ subst (λ t. IsLabel ((if t then name else quoted name) ++ 58 ∷ [])) (sym other) (quoted_label name)
]

pub label_is : (name : List ℕ) → IsLabel (label_spelling name ++ 58 ∷ [])
label_is name = elim (cases_Bool (bytes_eq name (codes "..."))) [
  | inl dots ↦ subst (λ t. IsLabel ((if t then quoted name else spelling name) ++ 58 ∷ [])) (sym dots) (quoted_label name)
  | inr other ↦ subst (λ t. IsLabel ((if t then quoted name else spelling name) ++ 58 ∷ [])) (sym other) (spelled_label name other)
]

-- ---- numbers

digit_byte : (b : ℕ) → is_digit b ≡ true → is_name_byte b ≡ true
digit_byte b e = by (is_letter b) (b == 45) (b == 36) (b == 46) (b == 95) (is_digit b) e
  where
    by : (l m d p u t : Bool) → t ≡ true → (l || t || m || d || p || u) ≡ true
    by true m d p u t e = refl
    by false m d p u true e = refl
    by false m d p u false e = absurd (true≢false (sym e))

digits_name : (bytes : List ℕ) → list_all is_digit bytes ≡ true → list_all is_name_byte bytes ≡ true
digits_name [] e = refl
digits_name (b ∷ bytes) e = let parts = and_parts (is_digit b) (list_all is_digit bytes) e in rw (digit_byte b parts.0) (digits_name bytes parts.1)

-- digits, at least one
record AreDigits (bytes : List ℕ) : Type 0 where
  first : ℕ
  more : List ℕ
  is : bytes ≡ first ∷ more
  all : list_all is_digit (first ∷ more) ≡ true

glyph : (n : ℕ) → is_digit (digit_glyph false (n % 10)) ≡ true
glyph n =
    let low : n % 10 < 10 = omega arith in
    let test : nat_lt (n % 10) 10 ≡ true = lt-ltb (n % 10) 10 low in
    rw test (and_from _ _ (le-leb 48 (48 + n % 10) (omega arith)) (le-leb (48 + n % 10) 57 (omega arith)))

onto : (k n : ℕ) (acc : List ℕ) → list_all is_digit acc ≡ true → AreDigits (digits_onto (suc k) 10 false n acc)
onto zero n acc e = elim (cases_Bool (n / 10 == 0)) [
  | inl is ↦ rw is (record { first = digit_glyph false (n % 10); more = acc; is = refl; all = and_from _ _ (glyph n) e })
  | inr other ↦ rw other (record { first = digit_glyph false (n % 10); more = acc; is = refl; all = and_from _ _ (glyph n) e })
]
onto (suc k) n acc e = elim (cases_Bool (n / 10 == 0)) [
  | inl is ↦ rw is (record { first = digit_glyph false (n % 10); more = acc; is = refl; all = and_from _ _ (glyph n) e })
  | inr other ↦ subst (λ t. AreDigits (if t then digit_glyph false (n % 10) ∷ acc else digits_onto (suc k) 10 false (n / 10) (digit_glyph false (n % 10) ∷ acc))) (sym other)
      (onto k (n / 10) (digit_glyph false (n % 10) ∷ acc) (and_from _ _ (glyph n) e))
]

are_digits : (n : ℕ) → AreDigits (decimal n)
unfolding digits
are_digits n = onto 63 n [] refl

number_kind : (bytes : List ℕ) → AreDigits bytes → kind_of bytes ≡ Some kind.Integer
number_kind bytes d = subst (λ ys. kind_of ys ≡ Some kind.Integer) (sym d.is) (named (d.first ∷ d.more) (digits_name (d.first ∷ d.more) d.all) ∙ ap Some (rw integer refl))
  where
    no_minus : (d.first == 45) ≡ false
    no_minus = elim (cases_Bool (d.first == 45)) [
      | inl is ↦ absurd (true≢false (sym (and_parts (is_digit d.first) (list_all is_digit d.more) d.all).0 ∙ ap is_digit (eqb-true d.first 45 is)))
      | inr other ↦ other
    ]

    integer : is_integer (d.first ∷ d.more) ≡ true
    integer = rw no_minus d.all

minus_kind : (bytes : List ℕ) → AreDigits bytes → kind_of (45 ∷ bytes) ≡ Some kind.Integer
minus_kind bytes d = subst (λ ys. kind_of (45 ∷ ys) ≡ Some kind.Integer) (sym d.is) (named (45 ∷ d.first ∷ d.more) (digits_name (d.first ∷ d.more) d.all) ∙ ap Some (rw (d.all) refl))

width_kind : (bytes : List ℕ) → AreDigits bytes → kind_of (105 ∷ bytes) ≡ Some kind.Word
width_kind bytes d = subst (λ ys. kind_of (105 ∷ ys) ≡ Some kind.Word) (sym d.is) (named (105 ∷ d.first ∷ d.more) (digits_name (d.first ∷ d.more) d.all))

pub decimal_kind : (n : ℕ) → kind_of (decimal n) ≡ Some kind.Integer
decimal_kind n = number_kind (decimal n) (are_digits n)

pub signed_kind : (z : ℤ) → kind_of (signed_decimal z) ≡ Some kind.Integer
signed_kind (pos n) = number_kind (decimal n) (are_digits n)
signed_kind (negsuc n) = minus_kind (decimal (suc n)) (are_digits (suc n))

pub int_kind : (w : ℕ) → kind_of (105 ∷ decimal w) ≡ Some kind.Word
int_kind w = width_kind (decimal w) (are_digits w)
