-- What begins a type is spelled again.
use Rattle.std.proofs.Common.{◌≡◌, ℕ, ◌+◌, ◌-◌, ◌*◌, ◌^◌, ◌<◌, ◌≤◌, Bool, true, false, ◌&&◌, ◌==◌, List, [], ◌∷◌, drop, decimal, codes, position, bytes_eq, Option, Some, None, Result, Ok, Err, nat_le, if◌then◌else◌, refl, sym, ap, subst, ◌∙◌, arith}
use Rattle.std.proofs.lemmas.Bool.{leb-true}
use Rattle.std.proofs.lemmas.Slice.Eq.{bytes_eq-Decides}
use Rattle.no_lex.specs.declared.token.Token.{Token}
use Rattle.no_lex.specs.declared.token.TokenKind.{TokenKind}
use Rattle.no_lex.specs.declared.token.TokenKind.TheVariants as kind
use Rattle.no_read_rules.specs.declared.fault.Flaw.{Flaw}
use Rattle.no_read_rules.specs.declared.fault.Flaw.TheVariants.{Syntax}
use Rattle.no_read_rules.specs.declared.types.TypeHead.{TypeHead}
use Rattle.no_read_rules.specs.declared.types.TypeHead.TheVariants as head
use Rattle.no_read_rules.specs.Numbers.{number_from, is_negative, counted, count_of}
use Rattle.no_read_rules.specs.Numbers as numbers
use Rattle.no_read_rules.specs.Rules.{plain}
use Rattle.no_read_rules.specs.Scope.{Meaning}
use Rattle.no_read_rules.specs.Spelled.{spelled, kind_number, is_kind, is_sign}
use Rattle.no_read_rules.specs.Types.{sign_type, named_type, number_in, head_by, type_head, count_token}
use Rattle.no_read_rules.specs.Unescaped.{name_of}
use Rattle.no_print.specs.Names.{name_at, spelling, int_type, local_name}
use Rattle.no_print.specs.Pieces.{Piece, word, sign, integer}
use Rattle.no_round_trip.specs.Spells.{AreBytes, Spells, over}
use Rattle.no_round_trip.proofs.WordBytes.{bytes_name, bytes_spelled}
use Rattle.no_round_trip.proofs.RuleFound.{name_there, bytes_drop}
use Rattle.no_round_trip.proofs.RuleFrame.{plain_spells}
use Rattle.no_names.proofs.Again.{name_again}
use Rattle.no_round_trip.proofs.WordNumbers.{count_again}
use Rattle.no_round_trip.proofs.WordWidths.{IsWidth, WordHead, word_head}

-- ---- names

-- a name that was found, by the spelling of its number's name
pub number_again : (names : List (List ℕ)) (name : List ℕ) (n : ℕ) → AreBytes name → position (bytes_eq name) names ≡ Some n → position (bytes_eq (name_of (spelling (name_at names n)))) names ≡ Some n
number_again names name n h e =
    let is : name_at names n ≡ name = name_there names name n e in
    let back : name_of (spelling (name_at names n)) ≡ name = ap (λ x. name_of (spelling x)) is ∙ name_again name h in
    ap (λ x. position (bytes_eq x) names) back ∙ e

-- ---- heads

module _ (m : Meaning) where
  -- what the spelling of a type's beginning needs to be read as it
  abbrev pub HeadAgain : TypeHead → Type 0
  HeadAgain (head.Int w) = IsWidth w
  HeadAgain (head.Named n) = number_in m.named (37 ∷ spelling (name_at m.named n)) ≡ Some n
  HeadAgain _ = Unit {0}

  from_word : (h : TypeHead) → WordHead h → HeadAgain h
  from_word (head.Int w) x = x
  from_word head.Ptr x = tt
  from_word (head.Named n) x = absurd x
  from_word head.Array x = absurd x
  from_word head.Struct x = absurd x
  from_word head.Packed x = absurd x

  from_sign : (bytes : List ℕ) (h : TypeHead) → sign_type bytes ≡ Ok h → HeadAgain h
  from_sign bytes h e = by (bytes_eq bytes (codes "[")) (bytes_eq bytes (codes "{")) (bytes_eq bytes (codes "<")) h e
    where
      by : (x y z : Bool) (h : TypeHead) → (if x then Ok head.Array else (if y then Ok head.Struct else (if z then Ok head.Packed else Err Syntax))) ≡ Ok h → HeadAgain h
      by x y z head.Array k = tt
      by x y z head.Struct k = tt
      by x y z head.Packed k = tt
      by x y z head.Ptr k = tt
      by true y z (head.Int w) k = absurd cc
      by false true z (head.Int w) k = absurd cc
      by false false true (head.Int w) k = absurd cc
      by false false false (head.Int w) k = absurd cc
      by true y z (head.Named n) k = absurd cc
      by false true z (head.Named n) k = absurd cc
      by false false true (head.Named n) k = absurd cc
      by false false false (head.Named n) k = absurd cc

  from_name : (bytes : List ℕ) → AreBytes bytes → (o : Option ℕ) (h : TypeHead) → number_in m.named bytes ≡ o → named_type o ≡ Ok h → HeadAgain h
  from_name bytes b (Some n) h is e = subst HeadAgain (same (head.Named n) h e) (number_again m.named (name_of (drop 1 bytes)) n (bytes_name (drop 1 bytes) (bytes_drop 1 bytes b)) is)
    where
      same : (x y : TypeHead) → (let r : Result TypeHead Flaw = Ok x in r) ≡ Ok y → x ≡ y
      same x y k = cc
  from_name bytes b None h is e = absurd cc

  by_kind : (k : TokenKind) (bytes : List ℕ) → AreBytes bytes → (h : TypeHead) → head_by m k bytes ≡ Ok h → HeadAgain h
  by_kind kind.Word bytes b h e = from_word h (word_head bytes h e)
  by_kind kind.Sign bytes b h e = from_sign bytes h e
  by_kind kind.Local bytes b h e = from_name bytes b (number_in m.named bytes) h refl e
  by_kind _ bytes b h e = absurd cc

  pub head_again : AreBytes m.text → (token : Token) (h : TypeHead) → type_head m token ≡ Ok h → HeadAgain h
  head_again b token h e = by_kind token.kind (spelled m.text token) (bytes_spelled m.text token b) h e

  -- the pieces of a type's beginning
  abbrev pub head_pieces : List ℕ → TypeHead → List Piece
  head_pieces gap (head.Int w) = int_type gap w
  head_pieces gap head.Ptr = word gap (codes "ptr")
  head_pieces gap (head.Named n) = local_name gap (name_at m.named n)
  head_pieces gap head.Array = sign gap (codes "[")
  head_pieces gap head.Struct = sign gap (codes "{")
  head_pieces gap head.Packed = sign gap (codes "<")

  pub head_spells : (text gap : List ℕ) (h : TypeHead) → HeadAgain h → Spells {S = Unit {0}} text (plain (type_head (over m text))) tt (head_pieces gap h) h tt
  head_spells text gap (head.Int w) x = plain_spells {S = Unit {0}} text (head_by (over m text)) tt (record { gap = gap; kind = kind.Word; bytes = 105 ∷ decimal w }) (head.Int w) x.reads
  head_spells text gap head.Ptr x = plain_spells {S = Unit {0}} text (head_by (over m text)) tt (record { gap = gap; kind = kind.Word; bytes = codes "ptr" }) head.Ptr refl
  head_spells text gap (head.Named n) x =
      plain_spells {S = Unit {0}} text (head_by (over m text)) tt (record { gap = gap; kind = kind.Local; bytes = 37 ∷ spelling (name_at m.named n) }) (head.Named n) (ap named_type x)
  head_spells text gap head.Array x = plain_spells {S = Unit {0}} text (head_by (over m text)) tt (record { gap = gap; kind = kind.Sign; bytes = codes "[" }) head.Array refl
  head_spells text gap head.Struct x = plain_spells {S = Unit {0}} text (head_by (over m text)) tt (record { gap = gap; kind = kind.Sign; bytes = codes "{" }) head.Struct refl
  head_spells text gap head.Packed x = plain_spells {S = Unit {0}} text (head_by (over m text)) tt (record { gap = gap; kind = kind.Sign; bytes = codes "<" }) head.Packed refl

  -- a type begins with no sign but its own
  pub head_no_sign : (close : List ℕ) → sign_type close ≡ Err Syntax → (token : Token) (h : TypeHead) → type_head m token ≡ Ok h → is_sign m.text close token ≡ false
  head_no_sign close refused token h e = by token.kind (spelled m.text token) e
    where
      by_bytes : (bytes : List ℕ) (b : Bool) → bytes_eq bytes close ≡ b → sign_type bytes ≡ Ok h → b ≡ false
      by_bytes bytes true is k = absurd (clash h (sym (ap sign_type ((bytes_eq-Decides bytes close).0 is) ∙ refused) ∙ k))
        where
          clash : (h : TypeHead) → Err Syntax ≡ Ok h → ⊥
          clash h c = cc
      by_bytes bytes false is k = refl

      by : (k : TokenKind) (bytes : List ℕ) → head_by m k bytes ≡ Ok h → (kind_number k == kind_number kind.Sign && bytes_eq bytes close) ≡ false
      by kind.Sign bytes k = by_bytes bytes (bytes_eq bytes close) refl k
      by _ bytes k = refl

-- ---- counts

small_count : (most : ℕ) (ds : List ℕ) (sum n : ℕ) → sum ≤ most → number_from most ds sum ≡ Some n → n ≤ most
small_count most [] sum n h e = subst (λ k. k ≤ most) (same sum n e) h
  where
    same : (x y : ℕ) → Some x ≡ Some y → x ≡ y
    same x y k = cc
small_count most (x ∷ xs) sum n h e = by (nat_le 48 x && nat_le x 57) (nat_le (10 * sum + (x - 48)) most) refl e (small_count most xs (10 * sum + (x - 48)) n)
  where
    by : (a b : Bool) → nat_le (10 * sum + (x - 48)) most ≡ b → (if a && b then number_from most xs (10 * sum + (x - 48)) else None) ≡ Some n
        → (10 * sum + (x - 48) ≤ most → number_from most xs (10 * sum + (x - 48)) ≡ Some n → n ≤ most) → n ≤ most
    by true true is k more = more (leb-true (10 * sum + (x - 48)) most is) k
    by true false is k more = absurd cc
    by false b is k more = absurd cc

pub decimal_small : (most : ℕ) (bytes : List ℕ) (n : ℕ) → numbers.decimal most bytes ≡ Some n → n ≤ most
decimal_small most bytes n e = small_count most bytes 0 n (omega arith) e

counted_small : (bytes : List ℕ) (n : ℕ) → count_of bytes ≡ Ok n → n < 2 ^ 32
counted_small bytes n e = by (is_negative bytes) (numbers.decimal (2 ^ 32 - 1) bytes) refl e
  where
    by : (b : Bool) (o : Option ℕ) → numbers.decimal (2 ^ 32 - 1) bytes ≡ o → (if b then Err Syntax else counted o) ≡ Ok n → n < 2 ^ 32
    by true o is k = absurd cc
    by false None is k = absurd cc
    by false (Some v) is k = let same : v ≡ n = cc in let h : v ≤ 2 ^ 32 - 1 = decimal_small (2 ^ 32 - 1) bytes v is in omega arith

pub count_small : (text : List ℕ) (token : Token) (n : ℕ) → count_token text token ≡ Ok n → n < 2 ^ 32
count_small text token n e = by (is_kind kind.Integer token) e
  where
    by : (b : Bool) → (if b then count_of (spelled text token) else Err Syntax) ≡ Ok n → n < 2 ^ 32
    by true k = counted_small (spelled text token) n k
    by false k = absurd cc

pub count_spells : (text gap : List ℕ) (n : ℕ) → n < 2 ^ 32 → Spells {S = Unit {0}} text (plain (count_token text)) tt (integer gap (decimal n)) n tt
count_spells text gap n h =
    plain_spells {S = Unit {0}} text (λ k bytes. if kind_number k == kind_number kind.Integer then count_of bytes else Err Syntax) tt (record { gap = gap; kind = kind.Integer; bytes = decimal n }) n (count_again n h)
