-- What lists spell: items with commas between them, and steps that repeat.
use Rattle.std.proofs.Common.{◌≡◌, ℕ, Bool, true, false, List, [], ◌∷◌, ◌++◌, bytes_eq, codes, Option, Some, None, Result, Ok, Err, if◌then◌else◌, sym, ap, subst, ◌∙◌, append_assoc, append-nil}
use Rattle.no_lex.specs.declared.token.TokenKind.{TokenKind}
use Rattle.no_lex.specs.declared.token.TokenKind.TheVariants as kind
use Rattle.no_read_rules.specs.declared.fault.Flaw.{Flaw}
use Rattle.no_read_rules.specs.declared.fault.Flaw.TheVariants.{Syntax}
use Rattle.no_read_rules.specs.Rules.{Rule, plain, done, ◌>>=◌, choose}
use Rattle.no_read_rules.specs.Repeated.{repeat}
use Rattle.no_read_rules.specs.Spelled.{is_sign, only_where, a_word, a_sign}
use Rattle.no_read_rules.specs.Lists.{closes_list, more_item, some_items, no_items, items}
use Rattle.no_print.specs.Pieces.{Piece, word, sign, comma, spaced, behind_commas, with_commas}
use Rattle.no_round_trip.specs.Spells.{Spells}
use Rattle.no_round_trip.proofs.RuleStanding.{stand_parts, Begins, begins, piece_is_word, piece_is_sign, sign_tested}
use Rattle.no_round_trip.proofs.RuleFrame.{plain_spells, done_spells, then_spells, yes_spells, no_spells}
use Rattle.no_round_trip.proofs.RuleOpening.{Opens, begins_by}

-- ---- words and signs

module _ {S : Type 0} (text gap : List ℕ) (s : S) where
  pub word_spells : (w : List ℕ) → bytes_eq w w ≡ true → Spells text (a_word text w) s (word gap w) tt s
  word_spells w e = plain_spells text (λ k bytes. only_where (piece_is_word w (record { gap = gap; kind = k; bytes = bytes }))) s (record { gap = gap; kind = kind.Word; bytes = w }) tt (ap only_where e)

  pub sign_spells : (w : List ℕ) → bytes_eq w w ≡ true → Spells text (a_sign text w) s (sign gap w) tt s
  sign_spells w e = plain_spells text (λ k bytes. only_where (piece_is_sign w (record { gap = gap; kind = k; bytes = bytes }))) s (record { gap = gap; kind = kind.Sign; bytes = w }) tt (ap only_where e)

-- the first sign is this one, or another
pub sign_begins : (text gap w close : List ℕ) (answer : Bool) (rest : List Piece) → bytes_eq w close ≡ answer → Begins text (is_sign text close) answer (sign gap w ++ rest)
sign_begins text gap w close answer rest e = begins text (is_sign text close) answer (sign gap w ++ rest) (λ token h. sign_tested text close (record { gap = gap; kind = kind.Sign; bytes = w }) token h ∙ e)

-- ---- steps that repeat

module _ {S A : Type 0} (text : List ℕ) (step : Rule S (Option A)) where
  pub repeat_end : (s t : S) (pieces : List Piece) → Spells text step s pieces None t → Spells text (repeat step) s pieces [] t
  repeat_end s t pieces h tokens stand = h tokens stand

  pub repeat_more : (s u t : S) (front back : List Piece) (a : A) (others : List A) → Spells text step s front (Some a) u → Spells text (repeat step) u back others t
      → Spells text (repeat step) s (front ++ back) (a ∷ others) t
  repeat_more s u t front back a others x y tokens stand =
      let r = stand_parts text tokens front back stand in
      record { front = r.front; back = r.back; between = u; parts = r.parts; item = x r.front r.in_front; others = y r.back r.in_back }

-- ---- items with commas

-- each of these items is spelled by its pieces, one behind the other
abbrev pub EachSpells : {S A : Type 0} → List ℕ → Rule S A → (A → List Piece) → S → List A → S → Type 0
EachSpells text item f s [] t = t ≡ s
EachSpells {S = S} text item f s (a ∷ all) t = (u : S) × Spells text item s (f a) a u × EachSpells text item f u all t

-- a list's closing sign is itself, and no comma
pub record IsClose (close : List ℕ) : Type 0 where
  pub same : bytes_eq close close ≡ true
  pub other : bytes_eq (codes ",") close ≡ false

module _ {S A : Type 0} (text close gap : List ℕ) (item : Rule S A) (closing : IsClose close) where
  close_piece : Piece
  close_piece = record { gap = gap; kind = kind.Sign; bytes = close }

  abbrev closes_by : TokenKind → List ℕ → Result Bool Flaw
  closes_by k bytes =
      if piece_is_sign close (record { gap = []; kind = k; bytes = bytes }) then Ok true
      else (if piece_is_sign (codes ",") (record { gap = []; kind = k; bytes = bytes }) then Ok false else Err Syntax)

  pub closes : (s : S) → Spells text (plain (closes_list text close)) s (sign gap close) true s
  closes s = plain_spells text closes_by s (record { gap = gap; kind = kind.Sign; bytes = close }) true
      (ap (λ b. if b then Ok true else (if bytes_eq close (codes ",") then Ok false else Err Syntax)) closing.same)

  pub goes_on : (s : S) → Spells text (plain (closes_list text close)) s comma false s
  goes_on s = plain_spells text closes_by s (record { gap = []; kind = kind.Sign; bytes = 44 ∷ [] }) false
      (ap (λ b. if b then Ok true else (if bytes_eq (44 ∷ []) (codes ",") then Ok false else Err Syntax)) closing.other)

  end_spells : (s : S) → Spells text (more_item text close item) s (sign gap close) None s
  unfolding more_item
  end_spells s = then_spells text (plain (closes_list text close)) (λ closes. choose closes (done None) (item >>= λ a. done (Some a))) s s s (sign gap close) [] true None (closes s) (done_spells text s None)

  more_spells : (s t : S) (a : A) (pieces : List Piece) → Spells text item s pieces a t → Spells text (more_item text close item) s (comma ++ pieces) (Some a) t
  unfolding more_item
  more_spells s t a pieces h = then_spells text (plain (closes_list text close)) (λ closes. choose closes (done None) (item >>= λ a. done (Some a))) s s t comma pieces false (Some a) (goes_on s)
      (subst (λ l. Spells text (item >>= λ a. done (Some a)) s l (Some a) t) (append-nil pieces)
      (then_spells text item (λ a. done (Some a)) s t t pieces [] a (Some a) h (done_spells text t (Some a))))

  pub behind_spells : (f : A → List Piece) (s t : S) (all : List A) → EachSpells text item f s all t → Spells text (repeat (more_item text close item)) s (behind_commas f all ++ sign gap close) all t
  behind_spells f s t [] e = subst (λ u. Spells text (repeat (more_item text close item)) s (sign gap close) [] u) (sym e) (repeat_end text (more_item text close item) s s (sign gap close) (end_spells s))
  behind_spells f s t (a ∷ all) e =
      subst (λ l. Spells text (repeat (more_item text close item)) s l (a ∷ all) t)
      (ap (λ l. comma ++ l) (sym (append_assoc (f a) (behind_commas f all) (sign gap close))))
      (repeat_more text (more_item text close item) s e.0 t (comma ++ f a) (behind_commas f all ++ sign gap close) a all (more_spells s e.0 a (f a) e.1) (behind_spells f e.0 t all e.2))

  some_spells : (f : A → List Piece) (s u t : S) (a : A) (all : List A) (front : List Piece) → Spells text item s front a u → EachSpells text item f u all t
      → Spells text (some_items text close item) s ((front ++ behind_commas f all) ++ sign gap close) (a ∷ all) t
  unfolding some_items
  some_spells f s u t a all front x e =
      subst (λ l. Spells text (item >>= λ first. repeat (more_item text close item) >>= λ others. done (first ∷ others)) s l (a ∷ all) t)
      (ap (λ l. front ++ l) (append-nil (behind_commas f all ++ sign gap close)) ∙ sym (append_assoc front (behind_commas f all) (sign gap close)))
      (then_spells text item (λ first. repeat (more_item text close item) >>= λ others. done (first ∷ others)) s u t front ((behind_commas f all ++ sign gap close) ++ []) a (a ∷ all) x
      (then_spells text (repeat (more_item text close item)) (λ others. done (a ∷ others)) u t t (behind_commas f all ++ sign gap close) [] all (a ∷ all) (behind_spells f u t all e) (done_spells text t (a ∷ all))))

  none_spells : (s : S) → Spells text (no_items {S = S} {A = A} text close) s (sign gap close) [] s
  unfolding no_items
  none_spells s = then_spells text (a_sign text close) (λ _. done []) s s s (sign gap close) [] tt [] (sign_spells text gap s close closing.same) (done_spells text s [])

  -- items of which each is spelled, where no item begins with the closing sign
  module _ (opens : Opens (is_sign text close) false item) where
    pub items_spell : (f : List ℕ → A → List Piece) (front : List ℕ) (s u t : S) (a : A) (all : List A) → Spells text item s (f front a) a u → EachSpells text item (f spaced) u all t
        → Spells text (items text close item) s (with_commas f front (a ∷ all) ++ sign gap close) (a ∷ all) t
    unfolding items
    items_spell f front s u t a all x e =
        no_spells text (is_sign text close) (no_items text close) (some_items text close item) s (with_commas f front (a ∷ all) ++ sign gap close) (a ∷ all) t
        (subst (Begins text (is_sign text close) false) (sym (append_assoc (f front a) (behind_commas (f spaced) all) (sign gap close)))
        (begins_by text (is_sign text close) false item opens s u a (f front a) (behind_commas (f spaced) all ++ sign gap close) x))
        (some_spells (f spaced) s u t a all (f front a) x e)

    pub no_items_spell : (s : S) → Spells text (items text close item) s (sign gap close) [] s
    unfolding items
    no_items_spell s = yes_spells text (is_sign text close) (no_items text close) (some_items text close item) s (sign gap close) [] s
        (begins text (is_sign text close) true (sign gap close) (λ token h. sign_tested text close (record { gap = gap; kind = kind.Sign; bytes = close }) token h ∙ closing.same))
        (none_spells s)
