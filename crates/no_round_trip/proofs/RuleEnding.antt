-- What rules spell that say with which tokens they would go on.
use Rattle.std.proofs.Common.{ℕ, Bool, true, false, List, [], ◌∷◌, ◌++◌, Some, None}
use Rattle.no_lex.specs.declared.token.Token.{Token}
use Rattle.no_read_rules.specs.Rules.{Rule, done, ◌>>=◌}
use Rattle.no_read_attributes.specs.Ending.{ahead, more_where, items_where}
use Rattle.no_print.specs.Pieces.{Piece}
use Rattle.no_round_trip.specs.Spells.{Spells}
use Rattle.no_round_trip.proofs.RuleFrame.{done_spells, made_spells, yes_spells, no_spells}
use Rattle.no_round_trip.proofs.RuleListing.{repeat_end, repeat_more}
use Rattle.no_round_trip.proofs.RuleStanding.{stand_parts, Begins, begins_none}

module _ {S A B : Type 0} (text : List ℕ) where
  -- what stands behind does not begin with what the first rule would go on with
  pub ahead_spells : (goes_on : A → Token → Bool) (p : Rule S A) (q : A → Rule S B) (s u t : S) (front back : List Piece) (a : A) (b : B)
      → Begins text (goes_on a) false back → Spells text p s front a u → Spells text (q a) u back b t → Spells text (ahead goes_on p q) s (front ++ back) b t
  ahead_spells goes_on p q s u t front back a b apart x y tokens stand =
      let r = stand_parts text tokens front back stand in
      record { front = r.front; back = r.back; first = a; between = u; parts = r.parts; in_front = x r.front r.in_front; apart = apart r.back r.in_back; in_back = y r.back r.in_back }

module _ {S A : Type 0} (text : List ℕ) (test : Token → Bool) (item : Rule S A) where
  -- no more items
  pub items_end : (s : S) → Spells text (items_where test item) s [] [] s
  items_end s = repeat_end text (more_where test item) s s [] (no_spells text test (item >>= λ a. done (Some a)) (done None) s [] None s (begins_none text test) (done_spells text s None))

  -- an item, and those behind it
  pub items_more : (s u t : S) (front back : List Piece) (a : A) (others : List A) → Begins text test true front → Spells text item s front a u → Spells text (items_where test item) u back others t
      → Spells text (items_where test item) s (front ++ back) (a ∷ others) t
  items_more s u t front back a others b x y =
      repeat_more text (more_where test item) s u t front back a others
      (yes_spells text test (item >>= λ a. done (Some a)) (done None) s front (Some a) u b (made_spells text item (λ a. Some a) s u front a x)) y
