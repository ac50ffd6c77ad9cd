-- What rules with something in front spell: words that are skipped, and options.
use Rattle.std.proofs.Common.{ℕ, Bool, true, false, List, [], Some, None, refl}
use Rattle.no_lex.specs.declared.token.Token.{Token}
use Rattle.no_read_rules.specs.Rules.{Rule, done, change, ◌>>=◌, maybe}
use Rattle.no_print.specs.Pieces.{Piece}
use Rattle.no_read_constants.specs.Skipped.{behind}
use Rattle.no_round_trip.specs.Spells.{Spells}
use Rattle.no_round_trip.proofs.RuleFrame.{done_spells, made_spells, yes_spells, no_spells}
use Rattle.no_round_trip.proofs.RuleStanding.{Begins, begins_none, stand_none}

module _ {S A : Type 0} (text : List ℕ) where
  -- no word is skipped
  pub behind_spells : (test : Token → Bool) (p : Rule S A) (s : S) (pieces : List Piece) (a : A) (t : S) → Begins text test false pieces → Spells text p s pieces a t → Spells text (behind test p) s pieces a t
  behind_spells test p s pieces a t b h tokens stand = record { front = []; back = tokens; parts = refl; pass = refl; stops = b tokens stand; read = h tokens stand }

  pub change_spells : (f : S → A × S) (s : S) → Spells text (change f) s [] (f s).0 (f s).1
  change_spells f s tokens stand = (stand_none text tokens stand, refl, refl)

  pub some_spells : (test : Token → Bool) (p : Rule S A) (s : S) (pieces : List Piece) (a : A) (t : S) → Begins text test true pieces → Spells text p s pieces a t → Spells text (maybe test p) s pieces (Some a) t
  some_spells test p s pieces a t b h = yes_spells text test (p >>= λ a. done (Some a)) (done None) s pieces (Some a) t b (made_spells text p (λ a. Some a) s t pieces a h)

  pub none_spells : (test : Token → Bool) (p : Rule S A) (s : S) → Spells text (maybe test p) s [] None s
  none_spells test p s = no_spells text test (p >>= λ a. done (Some a)) (done None) s [] None s (begins_none text test) (done_spells text s None)
