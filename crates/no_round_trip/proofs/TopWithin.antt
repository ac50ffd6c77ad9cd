-- Items that were read are spelled again, where what holds behind the last of them holds before.
use Rattle.std.proofs.Common.{ℕ, false, List, [], ◌∷◌, ◌++◌, refl, sym, subst}
use Rattle.no_lex.specs.declared.token.Token.{Token}
use Rattle.no_read_rules.specs.Rules.{Rule}
use Rattle.no_read_rules.specs.Repeated.{IsRepeated}
use Rattle.no_read_rules.specs.Spelled.{is_sign}
use Rattle.no_read_rules.specs.Lists.{more_item, items}
use Rattle.no_print.specs.Pieces.{Piece, sign, spaced, with_commas}
use Rattle.no_round_trip.specs.Spells.{Spells}
use Rattle.no_round_trip.proofs.RuleItems.{ended_keeps, more_reads, ItemsAre, items_are}
use Rattle.no_round_trip.proofs.RuleListing.{EachSpells, IsClose, items_spell, no_items_spell}
use Rattle.no_round_trip.proofs.RuleOpening.{Opens}

module _ {S A : Type 0} (Same : S → S → Type 0) (P : S → Type 0) (from text close : List ℕ) (item other : Rule S A) (f : List ℕ → A → List Piece) (closing : IsClose close)
    (before : (s t : S) (tokens : List Token) (a : A) → item.means s tokens a t → P t → P s)
    (again : (gap : List ℕ) (s z t : S) (tokens : List Token) (a : A) → Same s z → item.means s tokens a t → P t → (u : S) × Same t u × Spells text other z (f gap a) a u) where
  repeated_before : (s t : S) (tokens : List Token) (all : List A) → IsRepeated (more_item from close item) s tokens all t → P t → P s
  repeated_before s t tokens [] m p = subst P (ended_keeps from close item s t tokens m) p
  repeated_before s t tokens (a ∷ all) m p =
      let r = more_reads from close item s m.between m.front a m.item in
      before s m.between r.0 a r.1 (repeated_before m.between t m.back all m.others p)

  repeated_again : (s z t : S) (tokens : List Token) (all : List A) → Same s z → IsRepeated (more_item from close item) s tokens all t → P t
      → (u : S) × Same t u × EachSpells text other (f spaced) z all u
  repeated_again s z t tokens [] like m p = (z, subst (λ v. Same v z) (sym (ended_keeps from close item s t tokens m)) like, refl)
  repeated_again s z t tokens (a ∷ all) like m p =
      let r = more_reads from close item s m.between m.front a m.item in
      let x = again spaced s z m.between r.0 a like r.1 (repeated_before m.between t m.back all m.others p) in
      let y = repeated_again m.between x.0 t m.back all x.1 m.others p in
      (y.0, y.1, (x.0, x.2, y.2))

  pub items_before : (s t : S) (tokens : List Token) (all : List A) → (items from close item).means s tokens all t → P t → P s
  items_before s t tokens all m p = by all (items_are from close item s t tokens all m)
    where
      by : (all : List A) → ItemsAre from close item s all t → P s
      by [] e = subst P e p
      by (a ∷ all) i = before s i.between i.used a i.first (repeated_before i.between t i.rest all i.others p)

  pub items_within : (opens : Opens (is_sign text close) false other) (front gap : List ℕ) (s z t : S) (tokens : List Token) (all : List A) → Same s z → (items from close item).means s tokens all t → P t
      → (u : S) × Same t u × Spells text (items text close other) z (with_commas f front all ++ sign gap close) all u
  items_within opens front gap s z t tokens all like m p = by all (items_are from close item s t tokens all m)
    where
      by : (all : List A) → ItemsAre from close item s all t → (u : S) × Same t u × Spells text (items text close other) z (with_commas f front all ++ sign gap close) all u
      by [] e = (z, subst (λ v. Same v z) (sym e) like, no_items_spell text close gap other closing opens z)
      by (a ∷ all) i =
          let x = again front s z i.between i.used a like i.first (repeated_before i.between t i.rest all i.others p) in
          let y = repeated_again i.between x.0 t i.rest all x.1 i.others p in
          (y.0, y.1, items_spell text close gap other closing opens f front z x.0 y.0 a all x.2 y.2)
