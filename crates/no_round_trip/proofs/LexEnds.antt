-- Where a token ends: bytes that are a token are none with more behind them, where the next byte is no name character and no quote.
use Rattle.std.proofs.Common.{◌≡◌, ℕ, Bool, true, false, ◌&&◌, ◌||◌, List, [], ◌∷◌, ◌++◌, ◌==◌, bytes_eq, Some, None, if◌then◌else◌, refl, sym, true≢false}
use Rattle.std.specs.List.{list_all}
use Rattle.std.proofs.lemmas.Bool.{eqb-true}
use Rattle.no_lex.specs.declared.spelling.First.{First}
use Rattle.no_lex.specs.declared.spelling.First.TheVariants.{Name, Sigil, GroupMark, MetaMark, Quote, OneSign, Nothing}
use Rattle.no_lex.specs.declared.token.TokenKind.{TokenKind}
use Rattle.no_lex.specs.declared.token.TokenKind.TheVariants.{Word, Integer, Meta, Quoted, Sign}
use Rattle.no_lex.specs.Spelling.{is_name_byte, closes, is_name, is_string, is_integer, name_kind, only_if, first_of, kind_behind, kind_of}

-- ---- tests of more bytes

all_not : (p : ℕ → Bool) (xs : List ℕ) (b : ℕ) (more : List ℕ) → p b ≡ false → list_all p (xs ++ b ∷ more) ≡ false
all_not p [] b more e = rw e refl
all_not p (x ∷ xs) b more e = by (p x) (all_not p xs b more e)
  where
    by : (t : Bool) → list_all p (xs ++ b ∷ more) ≡ false → (t && list_all p (xs ++ b ∷ more)) ≡ false
    by true a = a
    by false a = refl

name_not : (xs : List ℕ) (b : ℕ) (more : List ℕ) → is_name_byte b ≡ false → is_name (xs ++ b ∷ more) ≡ false
name_not [] b more e = all_not is_name_byte [] b more e
name_not (x ∷ xs) b more e = all_not is_name_byte (x ∷ xs) b more e

none_left : (xs : List ℕ) (b : ℕ) (more : List ℕ) → bytes_eq (xs ++ b ∷ more) [] ≡ false
none_left [] b more = refl
none_left (x ∷ xs) b more = refl

closes_not : (xs : List ℕ) (b : ℕ) (more : List ℕ) → closes xs ≡ true → closes (xs ++ b ∷ more) ≡ false
closes_not [] b more e = absurd (true≢false (sym e))
closes_not (x ∷ xs) b more e = by (x == 34) e (closes_not xs b more)
  where
    by : (t : Bool) → (if t then bytes_eq xs [] else closes xs) ≡ true → (closes xs ≡ true → closes (xs ++ b ∷ more) ≡ false)
        → (if t then bytes_eq (xs ++ b ∷ more) [] else closes (xs ++ b ∷ more)) ≡ false
    by true e rest = none_left xs b more
    by false e rest = rest e

or_last : (a b : Bool) → (a || b) ≡ true → a ≡ false → b ≡ true
or_last true b e f = absurd (true≢false f)
or_last false b e f = e

-- what is a name or a string is no string with more behind it, but where it is nothing and a quote follows
string_not : (xs : List ℕ) (b : ℕ) (more : List ℕ) → (b == 34) ≡ false → (list_all is_name_byte xs || is_string xs) ≡ true → is_string (xs ++ b ∷ more) ≡ false
string_not [] b more q e = rw q refl
string_not (x ∷ xs) b more q e = by (x == 34) refl
  where
    named : (x == 34) ≡ true → list_all is_name_byte (x ∷ xs) ≡ false
    named t = let is : x ≡ 34 = eqb-true x 34 t in rw is refl

    by : (t : Bool) → (x == 34) ≡ t → ((x == 34) && closes (xs ++ b ∷ more)) ≡ false
    by true t =
        let s : ((x == 34) && closes xs) ≡ true = or_last (list_all is_name_byte (x ∷ xs)) ((x == 34) && closes xs) e (named t) in
        let c : closes xs ≡ true = rw t at s in
        rw t (closes_not xs b more c)
    by false t = rw t refl

or_false : (a b : Bool) → a ≡ false → b ≡ false → (a || b) ≡ false
or_false a b e f = rw (e, f) refl

-- ---- tokens

pub only_some : (t : Bool) (k kind : TokenKind) → only_if t k ≡ Some kind → (t ≡ true) × (k ≡ kind)
only_some true k kind e = (refl, cc)
only_some false k kind e = absurd cc

only_none : (t : Bool) (k : TokenKind) → t ≡ false → only_if t k ≡ None
only_none t k e = rw e refl

pub never : {A : Type 0} (a : A) → None ≡ Some a → ⊥
never a e = cc

name_or : (xs : List ℕ) → (is_name xs || is_string xs) ≡ true → (list_all is_name_byte xs || is_string xs) ≡ true
name_or [] e = refl
name_or (x ∷ xs) e = e

-- a token and more is no token
pub more_none : (bytes : List ℕ) (kind : TokenKind) (b : ℕ) (more : List ℕ) → kind_of bytes ≡ Some kind → is_name_byte b ≡ false → (b == 34) ≡ false → kind_of (bytes ++ b ∷ more) ≡ None
more_none [] kind b more e n q = absurd (never kind e)
more_none (c ∷ cs) kind b more e n q = go (first_of c) e
  where
    go : (f : First) → kind_behind f c cs ≡ Some kind → kind_behind f c (cs ++ b ∷ more) ≡ None
    go Name e = only_none _ _ (all_not is_name_byte cs b more n)
    go (Sigil k) e = only_none _ _ (or_false _ _ (name_not cs b more n) (string_not cs b more q (name_or cs (only_some _ k kind e).0)))
    go GroupMark e = only_none _ _ (name_not cs b more n)
    go MetaMark e = only_none _ _ (or_false _ _ (all_not is_name_byte cs b more n) (string_not cs b more q (only_some _ Meta kind e).0))
    go Quote e = only_none _ _ (closes_not cs b more (only_some _ Quoted kind e).0)
    go OneSign e = only_none _ _ (none_left cs b more)
    go Nothing e = refl

-- name characters by themselves and a byte that is none
pub c_none : (more : List ℕ) → kind_of (99 ∷ 34 ∷ more) ≡ None
c_none more = refl

-- a sign of one byte and more is no token
pub sign_none : (s b : ℕ) (more : List ℕ) → kind_of (s ∷ []) ≡ Some Sign → kind_of (s ∷ b ∷ more) ≡ None
sign_none s b more e = go (first_of s) e
  where
    word : (t u : Bool) → (if t then Integer else (if u && false then Sign else Word)) ≡ Sign → ⊥
    word true u e = cc
    word false true e = cc
    word false false e = cc

    go : (f : First) → kind_behind f s [] ≡ Some Sign → kind_behind f s (b ∷ more) ≡ None
    go Name e = absurd (word (is_integer (s ∷ [])) (s == 46) (only_some true (name_kind (s ∷ [])) Sign e).1)
    go (Sigil k) e = absurd (never Sign e)
    go GroupMark e = absurd (never Sign e)
    go MetaMark e = absurd cc
    go Quote e = absurd (never Sign e)
    go OneSign e = refl
    go Nothing e = refl
