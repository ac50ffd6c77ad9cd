-- Items that were read are spelled again.
use Rattle.std.proofs.Common.{◌≡◌, ℕ, Bool, true, false, List, [], ◌∷◌, ◌++◌, Some, None, inl, inr, refl, sym, subst, ◌∙◌}
use Rattle.no_lex.specs.declared.token.Token.{Token}
use Rattle.no_read_rules.specs.Rules.{Rule, done, ◌>>=◌, choose}
use Rattle.no_read_rules.specs.Repeated.{IsRepeated}
use Rattle.no_read_rules.specs.Spelled.{is_sign}
use Rattle.no_read_rules.specs.Lists.{closes_list, more_item, some_items, no_items, items}
use Rattle.no_print.specs.Pieces.{Piece, sign, spaced, with_commas}
use Rattle.no_round_trip.specs.Spells.{Spells, Again}
use Rattle.no_round_trip.proofs.RuleOpening.{Opens, kept_state}
use Rattle.no_round_trip.proofs.RuleListing.{EachSpells, IsClose, items_spell, no_items_spell}

pub none_some : {A : Type 0} (a : A) → None ≡ Some a → ⊥
none_some a e = cc

pub some_none : {A : Type 0} (a : A) → Some a ≡ None → ⊥
some_none a e = cc

pub some_some : {A : Type 0} (a b : A) → Some a ≡ Some b → a ≡ b
some_some a b e = cc

module _ {S A : Type 0} (text close : List ℕ) (item : Rule S A) where
  pub ended_keeps : (s t : S) (tokens : List Token) → (more_item text close item).means s tokens None t → t ≡ s
  unfolding more_item
  ended_keeps s t tokens m = by m.first m.in_back ∙ kept_state s (closes_list text close m.in_front.token) m.first m.between m.in_front.value
    where
      by : (b : Bool) → (choose b (done None) (item >>= λ a. done (Some a))).means m.between m.back None t → t ≡ m.between
      by true d = d.2
      by false d = absurd (none_some d.first d.in_back.1)

  pub more_reads : (s t : S) (tokens : List Token) (a : A) → (more_item text close item).means s tokens (Some a) t → (used : List Token) × item.means s used a t
  unfolding more_item
  more_reads s t tokens a m = by m.first m.in_back
    where
      kept : m.between ≡ s
      kept = kept_state s (closes_list text close m.in_front.token) m.first m.between m.in_front.value

      by : (b : Bool) → (choose b (done None) (item >>= λ c. done (Some c))).means m.between m.back (Some a) t → (used : List Token) × item.means s used a t
      by true d = absurd (some_none a d.1)
      by false d =
          let same : d.first ≡ a = sym (some_some a d.first d.in_back.1) in
          let state : d.between ≡ t = sym d.in_back.2 in
          (d.front, subst (λ u. item.means u d.front a t) kept (subst (λ u. item.means m.between d.front a u) state (subst (λ b. item.means m.between d.front b d.between) same d.in_front)))

  -- items are none, or the first and those behind it
  pub record SomeItems (s : S) (a : A) (all : List A) (t : S) : Type 0 where
    pub used : List Token
    pub rest : List Token
    pub between : S
    pub first : item.means s used a between
    pub others : IsRepeated (more_item text close item) between rest all t

  abbrev pub ItemsAre : S → List A → S → Type 0
  ItemsAre s [] t = t ≡ s
  ItemsAre s (a ∷ all) t = SomeItems s a all t

  some_are : (s t : S) (tokens : List Token) (all : List A) → (some_items text close item).means s tokens all t → ItemsAre s all t
  unfolding some_items
  some_are s t tokens all m =
      let d = m.in_back in
      let list : m.first ∷ d.first ≡ all = sym d.in_back.1 in
      let state : d.between ≡ t = sym d.in_back.2 in
      subst (λ l. ItemsAre s l t) list (record { used = m.front; rest = d.front; between = m.between; first = m.in_front; others = subst (λ u. IsRepeated (more_item text close item) m.between d.front d.first u) state d.in_front })

  none_are : (s t : S) (tokens : List Token) (all : List A) → (no_items {S = S} {A = A} text close).means s tokens all t → ItemsAre s all t
  unfolding no_items
  none_are s t tokens all m = subst (λ l. ItemsAre s l t) (sym m.in_back.1) (m.in_back.2 ∙ kept_state s _ m.first m.between m.in_front.value)

  pub items_are : (s t : S) (tokens : List Token) (all : List A) → (items text close item).means s tokens all t → ItemsAre s all t
  unfolding items
  items_are s t tokens all (inl m) = none_are s t tokens all m.1
  items_are s t tokens all (inr m) = some_are s t tokens all m.1

-- ---- spelled again

module _ {S A : Type 0} (Same : S → S → Type 0) (from text close : List ℕ) (item other : Rule S A) (f : List ℕ → A → List Piece) (closing : IsClose close)
    (again : (gap : List ℕ) → Again Same text item other (f gap)) where
  pub repeated_again : (s z t : S) (tokens : List Token) (all : List A) → Same s z → IsRepeated (more_item from close item) s tokens all t
      → (u : S) × Same t u × EachSpells text other (f spaced) z all u
  repeated_again s z t tokens [] like m = (z, subst (λ v. Same v z) (sym (ended_keeps from close item s t tokens m)) like, refl)
  repeated_again s z t tokens (a ∷ all) like m =
      let r = more_reads from close item s m.between m.front a m.item in
      let x = again spaced s z m.between r.0 a like r.1 in
      let y = repeated_again m.between x.0 t m.back all x.1 m.others in
      (y.0, y.1, (x.0, x.2, y.2))

  pub items_again : (opens : Opens (is_sign text close) false other) (front gap : List ℕ) (s z t : S) (tokens : List Token) (all : List A) → Same s z → (items from close item).means s tokens all t
      → (u : S) × Same t u × Spells text (items text close other) z (with_commas f front all ++ sign gap close) all u
  items_again opens front gap s z t tokens all like m = by all (items_are from close item s t tokens all m)
    where
      by : (all : List A) → ItemsAre from close item s all t → (u : S) × Same t u × Spells text (items text close other) z (with_commas f front all ++ sign gap close) all u
      by [] e = (z, subst (λ v. Same v z) (sym e) like, no_items_spell text close gap other closing opens z)
      by (a ∷ all) i =
          let x = again front s z i.between i.used a like i.first in
          let y = repeated_again i.between x.0 t i.rest all x.1 i.others in
          (y.0, y.1, items_spell text close gap other closing opens f front z x.0 y.0 a all x.2 y.2)
