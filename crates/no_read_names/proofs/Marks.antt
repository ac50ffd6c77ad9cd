-- What tokens of each kind are to the scan.
use Rattle.std.proofs.Common.{◌≡◌, ℕ, Bool, true, false, ◌&&◌, ◌||◌, ◌==◌, List, bytes_eq, codes, if◌then◌else◌, Result, Ok, Err, refl, sym, ap, subst, ◌∙◌}
use Rattle.std.proofs.lemmas.Bool.{eqb-true}
use Rattle.std.proofs.lemmas.Slice.Eq.{bytes_eq-Decides}
use Rattle.no_lex.specs.declared.token.Token.{Token}
use Rattle.no_lex.specs.declared.token.TokenKind.{TokenKind}
use Rattle.no_lex.specs.declared.token.TokenKind.TheVariants as kind
use Rattle.no_read_rules.specs.declared.fault.Flaw.{Flaw}
use Rattle.no_read_rules.specs.declared.fault.Flaw.TheVariants.{Syntax}
use Rattle.no_read_rules.specs.Spelled.{kind_number, spelled, is_kind, is_word, is_sign, only_where}
use Rattle.no_read_symbols.specs.declared.standing.Bracket.{Bracket}
use Rattle.no_read_symbols.specs.declared.standing.Bracket.TheVariants as bracket
use Rattle.no_read_symbols.specs.Scan.{sign_bracket, bracket_by, bracket_of}
use Rattle.no_read_names.proofs.Spots.{IsToken}

-- ---- tests

abbrev okay : {A B : Type 0} → A → Result A B
okay x = Ok x

pub from_flaw : {A : Type 0} (x y : A) → okay {B = Flaw} x ≡ okay y → x ≡ y
from_flaw x y e = cc

pub both : (b c : Bool) → (b && c) ≡ true → (b ≡ true) × (c ≡ true)
both true true e = (refl, refl)
both true false e = absurd cc
both false c e = absurd cc

pub spells : (x w : List ℕ) → bytes_eq x w ≡ true → x ≡ w
spells x w e = (bytes_eq-Decides x w).0 e

-- what passes a test isn't a word that doesn't
pub other_than : (f : List ℕ → Bool) (x w : List ℕ) → f w ≡ false → f x ≡ true → bytes_eq x w ≡ false
other_than f x w fails passes = go (bytes_eq x w) refl
  where
    go : (b : Bool) → bytes_eq x w ≡ b → bytes_eq x w ≡ false
    go true e = absurd (differ (f x) passes (ap f (spells x w e) ∙ fails))
      where
        differ : (b : Bool) → b ≡ true → b ≡ false → ⊥
        differ true p q = absurd cc
        differ false p q = absurd cc
    go false e = e

-- a test of a kind that passed
pub where_true : {X : Type 0} (b : Bool) (r : Result X Flaw) (a : X) → (if b then r else Err Syntax) ≡ Ok a → (b ≡ true) × (r ≡ Ok a)
where_true true r a e = (refl, e)
where_true false r a e = absurd cc

pub only_true : (b : Bool) (a : Unit {0}) → only_where b ≡ Ok a → b ≡ true
only_true true a e = refl
only_true false a e = absurd cc

-- ---- kinds

kind_at : ℕ → TokenKind
kind_at n =
    if n == 0 then kind.Word
    else (if n == 1 then kind.Integer
    else (if n == 2 then kind.Global
    else (if n == 3 then kind.Local
    else (if n == 4 then kind.Group
    else (if n == 5 then kind.Meta
    else (if n == 6 then kind.Quoted
    else (if n == 7 then kind.CMark
    else (if n == 8 then kind.Sign
    else kind.Label))))))))

at_number : (k : TokenKind) → kind_at (kind_number k) ≡ k
unfolding kind_at
at_number kind.Word = refl
at_number kind.Integer = refl
at_number kind.Global = refl
at_number kind.Local = refl
at_number kind.Group = refl
at_number kind.Meta = refl
at_number kind.Quoted = refl
at_number kind.CMark = refl
at_number kind.Sign = refl
at_number kind.Label = refl

pub kind_is : (k : TokenKind) (t : Token) → is_kind k t ≡ true → t.kind ≡ k
kind_is k t e = sym (at_number t.kind) ∙ ap kind_at (eqb-true (kind_number t.kind) (kind_number k) e) ∙ at_number k

-- ---- by kind and spelling

abbrev pub begins_by : TokenKind → List ℕ → Bool
begins_by k x = (kind_number k == 0 && bytes_eq x (codes "define")) || (kind_number k == 0 && bytes_eq x (codes "declare"))

pub record IsSo (k : TokenKind) (x : List ℕ) (b : Bracket) : Type 0 where
  pub no_global : (kind_number k == 2) ≡ false
  pub no_function : begins_by k x ≡ false
  pub is_bracket : bracket_by k x ≡ b

pub token_so : (text : List ℕ) (t : Token) (b : Bracket) → IsSo t.kind (spelled text t) b → IsToken text t b
token_so text t b i = record { no_global = i.no_global; no_function = i.no_function; is_bracket = i.is_bracket }

-- a word that isn't one of those two
pub word_so : (f : List ℕ → Bool) (x : List ℕ) → f (codes "define") ≡ false → f (codes "declare") ≡ false → f x ≡ true → IsSo kind.Word x bracket.Other
word_so f x p q e = record { no_global = refl; no_function = rw (other_than f x (codes "define") p e, other_than f x (codes "declare") q e) refl; is_bracket = refl }

pub sign_so : (x : List ℕ) (b : Bracket) → sign_bracket x ≡ b → IsSo kind.Sign x b
sign_so x b e = record { no_global = refl; no_function = refl; is_bracket = e }

pub meta_so : (x : List ℕ) → bytes_eq x (codes "!") ≡ false → IsSo kind.Meta x bracket.Other
meta_so x e = record { no_global = refl; no_function = refl; is_bracket = rw e refl }

-- ---- tokens

pub word_token : (text : List ℕ) (t : Token) (f : List ℕ → Bool) → f (codes "define") ≡ false → f (codes "declare") ≡ false → is_kind kind.Word t ≡ true → f (spelled text t) ≡ true → IsToken text t bracket.Other
word_token text t f p q k e = token_so text t bracket.Other (subst (λ (c : TokenKind). IsSo c (spelled text t) bracket.Other) (sym (kind_is kind.Word t k)) (word_so f (spelled text t) p q e))

pub a_word_token : (text w : List ℕ) (t : Token) → bytes_eq (codes "define") w ≡ false → bytes_eq (codes "declare") w ≡ false → is_word text w t ≡ true → IsToken text t bracket.Other
a_word_token text w t p q e = let k = both (is_kind kind.Word t) (bytes_eq (spelled text t) w) e in word_token text t (λ x. bytes_eq x w) p q k.0 k.1

pub sign_token : (text : List ℕ) (t : Token) (b : Bracket) → is_kind kind.Sign t ≡ true → sign_bracket (spelled text t) ≡ b → IsToken text t b
sign_token text t b k e = token_so text t b (subst (λ (c : TokenKind). IsSo c (spelled text t) b) (sym (kind_is kind.Sign t k)) (sign_so (spelled text t) b e))

pub a_sign_token : (text w : List ℕ) (t : Token) → is_sign text w t ≡ true → IsToken text t (sign_bracket w)
a_sign_token text w t e = let k = both (is_kind kind.Sign t) (bytes_eq (spelled text t) w) e in sign_token text t (sign_bracket w) k.0 (ap sign_bracket (spells (spelled text t) w k.1))

pub meta_token : (text : List ℕ) (t : Token) → is_kind kind.Meta t ≡ true → bytes_eq (spelled text t) (codes "!") ≡ false → IsToken text t bracket.Other
meta_token text t k e = token_so text t bracket.Other (subst (λ (c : TokenKind). IsSo c (spelled text t) bracket.Other) (sym (kind_is kind.Meta t k)) (meta_so (spelled text t) e))

-- a token of a kind that is never a bracket, and names nothing
pub kind_token : (k : TokenKind) (text : List ℕ) (t : Token) → ((x : List ℕ) → IsSo k x bracket.Other) → is_kind k t ≡ true → IsToken text t bracket.Other
kind_token k text t i e = token_so text t bracket.Other (subst (λ (c : TokenKind). IsSo c (spelled text t) bracket.Other) (sym (kind_is k t e)) (i (spelled text t)))

pub integer_so : (x : List ℕ) → IsSo kind.Integer x bracket.Other
integer_so x = record { no_global = refl; no_function = refl; is_bracket = refl }

pub local_so : (x : List ℕ) → IsSo kind.Local x bracket.Other
local_so x = record { no_global = refl; no_function = refl; is_bracket = refl }

pub group_so : (x : List ℕ) → IsSo kind.Group x bracket.Other
group_so x = record { no_global = refl; no_function = refl; is_bracket = refl }

pub quoted_so : (x : List ℕ) → IsSo kind.Quoted x bracket.Other
quoted_so x = record { no_global = refl; no_function = refl; is_bracket = refl }

pub mark_so : (x : List ℕ) → IsSo kind.CMark x bracket.Other
mark_so x = record { no_global = refl; no_function = refl; is_bracket = refl }

pub label_so : (x : List ℕ) → IsSo kind.Label x bracket.Other
label_so x = record { no_global = refl; no_function = refl; is_bracket = refl }

-- a token of a kind that is never a bracket
pub no_bracket : (k : TokenKind) (text : List ℕ) (t : Token) → ((x : List ℕ) → bracket_by k x ≡ bracket.Other) → is_kind k t ≡ true → bracket_of text t ≡ bracket.Other
no_bracket k text t i e = ap (λ (c : TokenKind). bracket_by c (spelled text t)) (kind_is k t e) ∙ i (spelled text t)
