-- Forms: pieces behind any blanks, put together.
use Rattle.std.proofs.Common.{◌≡◌, ℕ, Bool, true, false, not, ◌||◌, List, [], ◌∷◌, ◌++◌, bytes_eq, codes, Some, refl, sym, true≢false}
use Rattle.std.specs.List.{list_all}
use Rattle.std.proofs.lemmas.Bool.{or_right}
use Rattle.no_lex.specs.declared.token.TokenKind.{TokenKind}
use Rattle.no_lex.specs.declared.token.TokenKind.TheVariants as kind
use Rattle.no_lex.specs.Spelling.{is_blank, kind_of}
use Rattle.no_print.specs.Pieces.{Piece, piece, word, sign, integer, comma, glued, spaced, behind_commas, with_commas}
use Rattle.no_print.specs.Types.{in_braces}
use Rattle.no_round_trip.specs.Fits.{Spells, is_single, begin_apart, begin_quoted, stays_apart, Fits}

-- pieces fit, and tokens in front of them end where they begin
pub record IsApart (pieces : List Piece) : Type 0 where
  pub fits : Fits pieces
  pub begins : begin_apart pieces ≡ true

-- ---- pieces and more of them

begins_more : (xs ys : List Piece) → begin_apart xs ≡ true → begin_apart ys ≡ true → begin_apart (xs ++ ys) ≡ true
begins_more [] ys e f = f
begins_more (x ∷ xs) ys e f = e

quoted_more : (xs ys : List Piece) → begin_quoted xs ≡ true → begin_quoted (xs ++ ys) ≡ true
quoted_more [] ys e = absurd (true≢false (sym e))
quoted_more (x ∷ xs) ys e = e

stays_more : (k : TokenKind) (bytes : List ℕ) (xs ys : List Piece) → stays_apart k bytes xs ≡ true → begin_apart ys ≡ true → stays_apart k bytes (xs ++ ys) ≡ true
stays_more kind.Label bytes xs ys e f = refl
stays_more kind.CMark bytes xs ys e f = quoted_more xs ys e
stays_more kind.Sign bytes xs ys e f = by (is_single bytes) e
  where
    by : (t : Bool) → (t || begin_apart xs) ≡ true → (t || begin_apart (xs ++ ys)) ≡ true
    by true e = refl
    by false e = begins_more xs ys e f
stays_more kind.Word bytes xs ys e f = begins_more xs ys e f
stays_more kind.Integer bytes xs ys e f = begins_more xs ys e f
stays_more kind.Global bytes xs ys e f = begins_more xs ys e f
stays_more kind.Local bytes xs ys e f = begins_more xs ys e f
stays_more kind.Group bytes xs ys e f = begins_more xs ys e f
stays_more kind.Meta bytes xs ys e f = begins_more xs ys e f
stays_more kind.Quoted bytes xs ys e f = begins_more xs ys e f

pub fits_then : (xs ys : List Piece) → Fits xs → IsApart ys → Fits (xs ++ ys)
fits_then [] ys f a = a.fits
fits_then (x ∷ xs) ys f a = (f.0, stays_more x.kind x.bytes xs ys f.1 a.begins, fits_then xs ys f.2 a)

pub apart_then : (xs ys : List Piece) → IsApart xs → IsApart ys → IsApart (xs ++ ys)
apart_then xs ys x y = record { fits = fits_then xs ys x.fits y; begins = begins_more xs ys x.begins y.begins }

pub nothing_apart : IsApart []
nothing_apart = record { fits = tt; begins = refl }

-- ---- forms

-- whatever blanks stand in front
pub record IsForm (form : List ℕ → List Piece) : Type 0 where
  pub fits : (gap : List ℕ) → list_all is_blank gap ≡ true → Fits (form gap)
  pub begins : (b : ℕ) (gap : List ℕ) → begin_apart (form (b ∷ gap)) ≡ true

-- behind a space
pub behind_space : (form : List ℕ → List Piece) → IsForm form → IsApart (form spaced)
behind_space form f = record { fits = f.fits spaced refl; begins = f.begins 32 [] }

-- at the beginning of a line
pub on_line : (form : List ℕ → List Piece) → IsForm form → IsApart (form (10 ∷ []))
on_line form f = record { fits = f.fits (10 ∷ []) refl; begins = f.begins 10 [] }

-- behind what ends by itself
pub alone : (form : List ℕ → List Piece) → IsForm form → Fits (form glued)
alone form f = f.fits glued refl

pub then_form : (form : List ℕ → List Piece) (ys : List Piece) → IsForm form → IsApart ys → IsForm (λ gap. form gap ++ ys)
then_form form ys f a = record {
  fits = λ gap blanks. fits_then (form gap) ys (f.fits gap blanks) a;
  begins = λ b gap. begins_more (form (b ∷ gap)) ys (f.begins b gap) a.begins;
}

pub empty_form : IsForm (λ gap. [])
empty_form = record { fits = λ gap blanks. tt; begins = λ b gap. refl }

-- ---- single pieces

pub piece_form : (k : TokenKind) (bytes : List ℕ) → Spells k bytes → stays_apart k bytes [] ≡ true → IsForm (λ gap. piece k gap bytes)
piece_form k bytes s e = record { fits = λ gap blanks. (record { blanks = blanks; spells = s }, e, tt); begins = λ b gap. refl }

pub word_form : (bytes : List ℕ) → kind_of bytes ≡ Some kind.Word → IsForm (λ gap. word gap bytes)
word_form bytes s = piece_form kind.Word bytes s refl

pub integer_form : (bytes : List ℕ) → kind_of bytes ≡ Some kind.Integer → IsForm (λ gap. integer gap bytes)
integer_form bytes s = piece_form kind.Integer bytes s refl

pub word_then : (bytes : List ℕ) (ys : List Piece) → kind_of bytes ≡ Some kind.Word → IsApart ys → IsForm (λ gap. word gap bytes ++ ys)
word_then bytes ys s a = then_form (λ gap. word gap bytes) ys (word_form bytes s) a

-- a sign of one byte, and anything behind it
pub sign_then : (b : ℕ) (ys : List Piece) → kind_of (b ∷ []) ≡ Some kind.Sign → Fits ys → IsForm (λ gap. sign gap (b ∷ []) ++ ys)
sign_then b ys s f = record { fits = λ gap blanks. (record { blanks = blanks; spells = s }, refl, f); begins = λ c gap. refl }

-- such a sign ends what is in front, but a colon
pub sign_apart : (b : ℕ) (gap : List ℕ) (ys : List Piece) → kind_of (b ∷ []) ≡ Some kind.Sign → not (bytes_eq (b ∷ []) (codes ":")) ≡ true → list_all is_blank gap ≡ true → Fits ys → IsApart (sign gap (b ∷ []) ++ ys)
sign_apart b gap ys s colon blanks f = record { fits = (sign_then b ys s f).fits gap blanks; begins = or_right (not (bytes_eq gap [])) _ colon }

pub comma_then : (ys : List Piece) → Fits ys → IsApart (comma ++ ys)
comma_then ys f = sign_apart 44 glued ys refl refl refl f

-- ---- lists

abbrev pub AllAre : {A : Type 0} → (A → Type 0) → List A → Type 0
AllAre P [] = Unit {0}
AllAre P (a ∷ all) = P a × AllAre P all

pub all_are : {A : Type 0} (P : A → Type 0) → ((a : A) → P a) → (all : List A) → AllAre P all
all_are P each [] = tt
all_are P each (a ∷ all) = (each a, all_are P each all)

pub commas_apart : {A : Type 0} (f : A → List Piece) (all : List A) → AllAre (λ a. Fits (f a)) all → IsApart (behind_commas f all)
commas_apart f [] fits = nothing_apart
commas_apart f (a ∷ all) fits = comma_then (f a ++ behind_commas f all) (fits_then (f a) (behind_commas f all) fits.0 (commas_apart f all fits.1))

-- what stands behind a comma and a space
spaced_fits : {A : Type 0} (f : List ℕ → A → List Piece) (all : List A) → AllAre (λ a. IsForm (λ gap. f gap a)) all → AllAre (λ a. Fits (f spaced a)) all
spaced_fits f [] forms = tt
spaced_fits f (a ∷ all) forms = (forms.0.fits spaced refl, spaced_fits f all forms.1)

pub list_form : {A : Type 0} (f : List ℕ → A → List Piece) (all : List A) → AllAre (λ a. IsForm (λ gap. f gap a)) all → IsForm (λ gap. with_commas f gap all)
list_form f [] forms = empty_form
list_form f (a ∷ all) forms = then_form (λ gap. f gap a) (behind_commas (f spaced) all) forms.0 (commas_apart (f spaced) all (spaced_fits f all forms.1))

abbrev pub behind : List ℕ → (List ℕ → List Piece) → List Piece
behind gap form = form gap

pub forms_form : (forms : List (List ℕ → List Piece)) → AllAre IsForm forms → IsForm (λ gap. with_commas behind gap forms)
forms_form forms all = list_form behind forms all

-- ---- braces

pub braces_form : (pieces : List Piece) → Fits pieces → IsForm (λ gap. in_braces gap pieces)
braces_form [] f = sign_then 123 (sign glued (codes "}")) refl ((sign_then 125 [] refl tt).fits glued refl)
braces_form (p ∷ pieces) f = sign_then 123 ((p ∷ pieces) ++ sign spaced (codes "}")) refl (fits_then (p ∷ pieces) (sign spaced (codes "}")) f (sign_apart 125 spaced [] refl refl refl tt))
