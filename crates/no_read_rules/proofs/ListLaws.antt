-- The laws of lists in brackets.
use Rattle.std.proofs.Common.{ℕ, List, [], ◌∷◌, Some, None}
use Rattle.no_read_rules.specs.Rules.{Rule, none, Good, IsSolid}
use Rattle.no_read_rules.specs.Spelled.{is_sign}
use Rattle.no_read_rules.specs.Lists.{more_item, some_items, no_items, items}
use Rattle.no_read_rules.proofs.Laws.{avoids_none, plain_good, plain_solid, done_good, choose_good, then_good, first_solid, if_next_good, if_next_solid}
use Rattle.no_read_rules.proofs.Repeats.{repeat_good}

module _ {S A : Type 0} (text close : List ℕ) (item : Rule S A) where
  pub more_good : Good none item → Good none (more_item text close item)
  unfolding more_item
  more_good l = then_good none _ _ (plain_good _) (λ closes. choose_good none closes _ _ (done_good none None) (then_good none _ _ l (λ a. done_good none (Some a))))

  pub more_solid : IsSolid (more_item text close item)
  unfolding more_item
  more_solid = first_solid _ _ (plain_solid _)

  some_good : Good none item → Good none (some_items text close item)
  unfolding some_items
  some_good l = then_good none _ _ l (λ first. then_good none _ _ (repeat_good none _ (more_good l) more_solid (λ s t used o m. avoids_none used)) (λ others. done_good none (first ∷ others)))

  some_solid : IsSolid item → IsSolid (some_items text close item)
  unfolding some_items
  some_solid s = first_solid _ _ s

  no_good : Good none (no_items {S = S} {A = A} text close)
  unfolding no_items
  no_good = then_good none _ _ (plain_good _) (λ _. done_good none [])

  no_solid : IsSolid (no_items {S = S} {A = A} text close)
  unfolding no_items
  no_solid = first_solid _ _ (plain_solid _)

  pub items_good : Good none item → IsSolid item → Good none (items text close item)
  unfolding items
  items_good l s = if_next_good none _ _ _ no_good (some_good l) no_solid (some_solid s)

  pub items_solid : IsSolid item → IsSolid (items text close item)
  unfolding items
  items_solid s = if_next_solid (is_sign text close) (no_items text close) (some_items text close item) no_solid (some_solid s)
