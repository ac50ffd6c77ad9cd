-- What tokens and pieces begin with.
use Rattle.std.proofs.Common.{◌≡◌, ℕ, Bool, true, false, not, ◌&&◌, ◌||◌, List, [], ◌∷◌, ◌++◌, ◌==◌, bytes_eq, codes, Some, inl, inr, if◌then◌else◌, refl, sym, subst, true≢false}
use Rattle.std.specs.List.{list_all}
use Rattle.std.proofs.lemmas.Bool.{and_parts, cases_Bool, eqb-true, or_cases}
use Rattle.no_lex.specs.declared.spelling.First.{First}
use Rattle.no_lex.specs.declared.spelling.First.TheVariants.{Name, Sigil, GroupMark, MetaMark, Quote, OneSign, Nothing}
use Rattle.no_lex.specs.declared.token.TokenKind.{TokenKind}
use Rattle.no_lex.specs.declared.token.TokenKind.TheVariants as kind
use Rattle.no_lex.specs.Spelling.{is_name_byte, is_sign, is_blank, is_integer, is_name, is_string, kind_behind, kind_of}
use Rattle.no_print.specs.Pieces.{Piece}
use Rattle.no_round_trip.specs.Fits.{Spells, is_parting, begin_apart, is_quoted, begin_quoted, Fits}
use Rattle.no_round_trip.proofs.LexEnds.{only_some, never}

-- ---- bytes

-- each token that is no sign ends in front of this byte, and isn't made a label by it
pub record EndsAt (b : ℕ) : Type 0 where
  pub name : is_name_byte b ≡ false
  pub quote : (b == 34) ≡ false
  pub colon : (b == 58) ≡ false

one_of : (P : ℕ → Type 0) (a : Bool) (b x : ℕ) → (a || b == x) ≡ true → P x → (a ≡ true → P b) → P b
one_of P a b x e here rest = elim (or_cases a (b == x) e) [
  | inl l ↦ rest l
  | inr r ↦ subst P (sym (eqb-true b x r)) here
]

blank_is : (P : ℕ → Type 0) (b : ℕ) → is_blank b ≡ true → P 32 → P 9 → P 13 → P 10 → P b
blank_is P b e space tab return line = one_of P _ b 10 e line (λ e. one_of P _ b 13 e return (λ e. one_of P _ b 9 e tab (λ e. subst P (sym (eqb-true b 32 e)) space)))

ends_at : (b : ℕ) → is_name_byte b ≡ false → (b == 34) ≡ false → (b == 58) ≡ false → EndsAt b
ends_at b name quote colon = record { name = name; quote = quote; colon = colon }

pub blank_ends : (b : ℕ) → is_blank b ≡ true → EndsAt b
blank_ends b e = blank_is EndsAt b e (ends_at 32 refl refl refl) (ends_at 9 refl refl refl) (ends_at 13 refl refl refl) (ends_at 10 refl refl refl)

pub sign_ends : (b : ℕ) → is_sign b ≡ true → (b == 58) ≡ false → EndsAt b
sign_ends b e other =
    one_of (λ n. (n == 58) ≡ false → EndsAt n) _ b 58 e (λ (c : true ≡ false). absurd (true≢false c)) (λ e. more e) other
  where
    more : (b == 61 || b == 44 || b == 40 || b == 41 || b == 123 || b == 125 || b == 91 || b == 93 || b == 60 || b == 62 || b == 42) ≡ true → (b == 58) ≡ false → EndsAt b
    more e c =
        one_of EndsAt _ b 42 e (ends_at 42 refl refl refl) (λ e. one_of EndsAt _ b 62 e (ends_at 62 refl refl refl) (λ e. one_of EndsAt _ b 60 e (ends_at 60 refl refl refl)
        (λ e. one_of EndsAt _ b 93 e (ends_at 93 refl refl refl) (λ e. one_of EndsAt _ b 91 e (ends_at 91 refl refl refl) (λ e. one_of EndsAt _ b 125 e (ends_at 125 refl refl refl)
        (λ e. one_of EndsAt _ b 123 e (ends_at 123 refl refl refl) (λ e. one_of EndsAt _ b 41 e (ends_at 41 refl refl refl) (λ e. one_of EndsAt _ b 40 e (ends_at 40 refl refl refl)
        (λ e. one_of EndsAt _ b 44 e (ends_at 44 refl refl refl) (λ e. subst EndsAt (sym (eqb-true b 61 e)) (ends_at 61 refl refl refl)))))))))))

-- ---- what a token begins with

none_begins : (b : ℕ) (bytes : List ℕ) (k : TokenKind) → kind_of (b ∷ bytes) ≡ Some k → (is_blank b ≡ true → ⊥) × (b ≡ 59 → ⊥)
none_begins b bytes k e = (
  λ blank. blank_is (λ n. kind_of (n ∷ bytes) ≡ Some k → ⊥) b blank (never k) (never k) (never k) (never k) e,
  λ is. never k (subst (λ n. kind_of (n ∷ bytes) ≡ Some k) is e),
)

-- no token begins with a blank or a semicolon
pub begins : (b : ℕ) (bytes : List ℕ) (k : TokenKind) → kind_of (b ∷ bytes) ≡ Some k → (is_blank b ≡ false) × ((b == 59) ≡ false)
begins b bytes k e = (
  elim (cases_Bool (is_blank b)) [ inl t ↦ absurd ((none_begins b bytes k e).0 t) | inr f ↦ f ],
  elim (cases_Bool (b == 59)) [ inl t ↦ absurd ((none_begins b bytes k e).1 (eqb-true b 59 t)) | inr f ↦ f ],
)

abbrev first_by : Bool → Bool → Bool → Bool → Bool → Bool → Bool → First
first_by name global local group meta quote sign =
    if name then Name
    else (if global then Sigil kind.Global
    else (if local then Sigil kind.Local
    else (if group then GroupMark
    else (if meta then MetaMark
    else (if quote then Quote
    else (if sign then OneSign else Nothing))))))

abbrev word_by : Bool → Bool → TokenKind
word_by integer dots = if integer then kind.Integer else (if dots then kind.Sign else kind.Word)

no_string_word : (t u : Bool) → word_by t u ≡ kind.Quoted → ⊥
no_string_word true u e = cc
no_string_word false true e = cc
no_string_word false false e = cc

quote_by : (n g l a m q s : Bool) (b : ℕ) (bytes : List ℕ) → kind_behind (first_by n g l a m q s) b bytes ≡ Some kind.Quoted → q ≡ true
quote_by true g l a m q s b bytes e = absurd (no_string_word (is_integer (b ∷ bytes)) (bytes_eq (b ∷ bytes) (codes "...")) (only_some (list_all is_name_byte bytes) (word_by (is_integer (b ∷ bytes)) (bytes_eq (b ∷ bytes) (codes "..."))) kind.Quoted e).1)
quote_by false true l a m q s b bytes e = absurd (let k = (only_some (is_name bytes || is_string bytes) kind.Global kind.Quoted e).1 in cc)
quote_by false false true a m q s b bytes e = absurd (let k = (only_some (is_name bytes || is_string bytes) kind.Local kind.Quoted e).1 in cc)
quote_by false false false true m q s b bytes e = absurd (let k = (only_some (is_name bytes) kind.Group kind.Quoted e).1 in cc)
quote_by false false false false true q s b bytes e = absurd (let k = (only_some (list_all is_name_byte bytes || is_string bytes) kind.Meta kind.Quoted e).1 in cc)
quote_by false false false false false true s b bytes e = refl
quote_by false false false false false false true b bytes e = absurd (let k = (only_some (bytes_eq bytes []) kind.Sign kind.Quoted e).1 in cc)
quote_by false false false false false false false b bytes e = absurd (never kind.Quoted e)

-- a string begins with its quote
pub quoted_first : (bytes : List ℕ) → kind_of bytes ≡ Some kind.Quoted → (rest : List ℕ) × (bytes ≡ 34 ∷ rest)
quoted_first [] e = absurd (never kind.Quoted e)
quoted_first (b ∷ bytes) e =
    let q = quote_by (is_name_byte b) (b == 64) (b == 37) (b == 35) (b == 33) (b == 34) (is_sign b) b bytes e in
    (bytes, λ i. eqb-true b 34 q i ∷ bytes)

dot_word : (t u : Bool) → word_by t (u && false) ≡ kind.Sign → ⊥
dot_word true u e = cc
dot_word false true e = cc
dot_word false false e = cc

sign_by : (n g l a m q s : Bool) (b : ℕ) → kind_behind (first_by n g l a m q s) b [] ≡ Some kind.Sign → s ≡ true
sign_by true g l a m q s b e = absurd (dot_word (is_integer (b ∷ [])) (b == 46) (only_some true (word_by (is_integer (b ∷ [])) (b == 46 && false)) kind.Sign e).1)
sign_by false true l a m q s b e = absurd (never kind.Sign e)
sign_by false false true a m q s b e = absurd (never kind.Sign e)
sign_by false false false true m q s b e = absurd (never kind.Sign e)
sign_by false false false false true q s b e = absurd (let k = (only_some true kind.Meta kind.Sign e).1 in cc)
sign_by false false false false false true s b e = absurd (never kind.Sign e)
sign_by false false false false false false true b e = refl
sign_by false false false false false false false b e = absurd (never kind.Sign e)

pub sign_byte : (b : ℕ) → kind_of (b ∷ []) ≡ Some kind.Sign → is_sign b ≡ true
sign_byte b e = sign_by (is_name_byte b) (b == 64) (b == 37) (b == 35) (b == 33) (b == 34) (is_sign b) b e

-- ---- what pieces begin with

-- a text begins with a byte in front of which tokens end
pub record HasEnd (text : List ℕ) : Type 0 where
  pub first : ℕ
  pub more : List ℕ
  pub is : text ≡ first ∷ more
  pub ends : EndsAt first

not_colon : (b : ℕ) → not (bytes_eq (b ∷ []) (codes ":")) ≡ true → (b == 58) ≡ false
not_colon b e = by (b == 58) e
  where
    by : (t : Bool) → not (t && true) ≡ true → t ≡ false
    by true e = absurd (true≢false (sym e))
    by false e = refl

parting_end : (k : TokenKind) (bytes rest : List ℕ) → is_parting k bytes ≡ true → Spells k bytes → HasEnd (bytes ++ rest)
parting_end kind.Sign [] rest e s = absurd (true≢false (sym e))
parting_end kind.Sign (b ∷ []) rest e s = record { first = b; more = rest; is = refl; ends = sign_ends b (sign_byte b s) (not_colon b e) }
parting_end kind.Sign (b ∷ c ∷ bytes) rest e s = absurd (true≢false (sym e))
parting_end kind.Word bytes rest e s = absurd (true≢false (sym e))
parting_end kind.Integer bytes rest e s = absurd (true≢false (sym e))
parting_end kind.Global bytes rest e s = absurd (true≢false (sym e))
parting_end kind.Local bytes rest e s = absurd (true≢false (sym e))
parting_end kind.Group bytes rest e s = absurd (true≢false (sym e))
parting_end kind.Meta bytes rest e s = absurd (true≢false (sym e))
parting_end kind.Quoted bytes rest e s = absurd (true≢false (sym e))
parting_end kind.CMark bytes rest e s = absurd (true≢false (sym e))
parting_end kind.Label bytes rest e s = absurd (true≢false (sym e))

piece_end : (gap : List ℕ) (k : TokenKind) (bytes rest : List ℕ) → list_all is_blank gap ≡ true → Spells k bytes → (not (bytes_eq gap []) || is_parting k bytes) ≡ true → HasEnd (gap ++ (bytes ++ rest))
piece_end [] k bytes rest blanks s e = parting_end k bytes rest e s
piece_end (b ∷ gap) k bytes rest blanks s e = record { first = b; more = gap ++ (bytes ++ rest); is = refl; ends = blank_ends b (and_parts (is_blank b) (list_all is_blank gap) blanks).0 }

-- the text of pieces, which ends with a line feed
abbrev pub ended : List Piece → List ℕ
ended [] = 10 ∷ []
ended (p ∷ pieces) = p.gap ++ (p.bytes ++ ended pieces)

pub apart_end : (pieces : List Piece) → Fits pieces → begin_apart pieces ≡ true → HasEnd (ended pieces)
apart_end [] f e = record { first = 10; more = []; is = refl; ends = blank_ends 10 refl }
apart_end (p ∷ pieces) f e = piece_end p.gap p.kind p.bytes (ended pieces) f.0.blanks f.0.spells e

string_kind : (k : TokenKind) (bytes : List ℕ) → is_quoted k ≡ true → Spells k bytes → kind_of bytes ≡ Some kind.Quoted
string_kind kind.Quoted bytes e s = s
string_kind kind.Sign bytes e s = absurd (true≢false (sym e))
string_kind kind.Word bytes e s = absurd (true≢false (sym e))
string_kind kind.Integer bytes e s = absurd (true≢false (sym e))
string_kind kind.Global bytes e s = absurd (true≢false (sym e))
string_kind kind.Local bytes e s = absurd (true≢false (sym e))
string_kind kind.Group bytes e s = absurd (true≢false (sym e))
string_kind kind.Meta bytes e s = absurd (true≢false (sym e))
string_kind kind.CMark bytes e s = absurd (true≢false (sym e))
string_kind kind.Label bytes e s = absurd (true≢false (sym e))

string_first : (gap : List ℕ) (k : TokenKind) (bytes rest : List ℕ) → (bytes_eq gap [] && is_quoted k) ≡ true → Spells k bytes → (more : List ℕ) × (gap ++ (bytes ++ rest) ≡ 34 ∷ more)
string_first [] k bytes rest e s = let q = quoted_first bytes (string_kind k bytes e s) in (q.0 ++ rest, λ i. q.1 i ++ rest)
string_first (b ∷ gap) k bytes rest e s = absurd (true≢false (sym e))

pub quote_end : (pieces : List Piece) → Fits pieces → begin_quoted pieces ≡ true → (more : List ℕ) × (ended pieces ≡ 34 ∷ more)
quote_end [] f e = absurd (true≢false (sym e))
quote_end (p ∷ pieces) f e = string_first p.gap p.kind p.bytes (ended pieces) e f.0.spells
