-- The laws of lists in brackets whose items may go on, but not with a comma or the closing sign.
use Rattle.std.proofs.Common.{◌≡◌, ℕ, ◌<◌, Bool, true, false, List, [], ◌∷◌, ◌++◌, length, codes, Option, Some, None, Result, Ok, Err, inl, inr, refl, sym, ap, subst, ◌∙◌, append_assoc}
use Rattle.no_lex.specs.declared.token.Token.{Token}
use Rattle.no_read_rules.specs.declared.fault.Stopped.{Stopped}
use Rattle.no_read_rules.specs.declared.fault.Flaw.{Flaw}
use Rattle.no_read_rules.specs.Lists.{closes_list, more_item, some_items, no_items, items}
use Rattle.no_read_rules.specs.Repeated.{IsRepeated, repeat_all, repeat}
use Rattle.no_read_rules.specs.Rules.{Rule, plain, done, ◌>>=◌, choose, keeping, next_is, Found, Avoids, none, Good, IsSolid}
use Rattle.no_read_rules.specs.Spelled.{is_sign}
use Rattle.no_read_rules.proofs.Laws.{avoids_none, plain_good, plain_solid, done_good, choose_good, then_good, follow_good, first_solid, if_next_good, if_next_solid}
use Rattle.no_read_rules.proofs.ListLaws.{more_solid}
use Rattle.no_read_rules.proofs.Repeats as repeats
use Rattle.no_read_attributes.proofs.EndLaws.{done_apart}

abbrev judged_as : {A : Type 0} → A → Result A Flaw
judged_as x = Ok x

from_judged : {A : Type 0} (x y : A) → judged_as x ≡ judged_as y → x ≡ y
from_judged x y e = cc

kept_value : {S : Type 0} (s t : S) (r : Result Bool Flaw) (b : Bool) → keeping s r ≡ Ok (b, t) → r ≡ Ok b
kept_value {S = S} s t (Ok c) b e = ap (λ (x : Bool × S). judged_as x.0) (from_judged (c, s) (b, t) e)
kept_value s t (Err f) b e = absurd cc

module _ {S A : Type 0} (text close : List ℕ) (av : Token → Bool) (item : Rule S A) (gi : Good av item) (solid : IsSolid item) (apart : (t : Token) (b : Bool) → closes_list text close t ≡ Ok b → av t ≡ false) where
  abbrev step : Rule S (Option A)
  step = more_item text close item

  pub step_good : Good av step
  unfolding more_item
  step_good = then_good av _ _ (plain_good _) (λ closes. choose_good av closes _ _ (done_good av None)
      (follow_good av av item (λ a. done (Some a)) gi (λ a. done_good av (Some a)) (λ a s t used rest b m out. done_apart av (Some a) s t used rest b m out)))

  pub step_solid : IsSolid step
  step_solid = more_solid text close item

  -- a step begins with a comma or the closing sign
  step_apart : (s t : S) (used : List Token) (o : Option A) → step.means s used o t → next_is av used ≡ false
  unfolding more_item
  step_apart s t used o m = ap (next_is av) (m.parts ∙ ap (λ (l : List Token). l ++ m.back) m.in_front.alone) ∙ apart m.in_front.token m.first (kept_value s m.between (closes_list text close m.in_front.token) m.first m.in_front.value)

  -- the closing sign ends the list, whatever follows
  ends : (s t between : S) (b : Bool) (back rest : List Token) → (choose b (done None) (item >>= λ a. done (Some a))).means between back None t → (choose b (done None) (item >>= λ a. done (Some a))).read between (back ++ rest) ≡ Ok (None, t, rest)
  ends s t between true back rest m = rw (m.0, m.2) refl
  ends s t between false back rest m = absurd (other m.first m.in_back.1)
    where
      other : (a : A) → None ≡ Some a → ⊥
      other a e = cc

  last : (s t : S) (used rest : List Token) → step.means s used None t → step.read s (used ++ rest) ≡ Ok (None, t, rest)
  unfolding more_item
  last s t used rest m =
      let front : (plain (closes_list text close)).read s (m.front ++ (m.back ++ rest)) ≡ Ok (m.first, m.between, m.back ++ rest) =
      (plain_good (closes_list text close)).only s m.between m.front (m.back ++ rest) m.first m.in_front (avoids_none (m.back ++ rest)) in
      rw (m.parts, append_assoc, front) (ends s t m.between m.first m.back rest m.in_back)

  others_apart : (s t : S) (all : List A) (used rest : List Token) → IsRepeated step s used all t → Avoids av (used ++ rest)
  others_apart s t [] used rest m = go used (λ e. step_solid s t None (subst (λ (l : List Token). step.means s l None t) e m)) (step_apart s t used None m)
    where
      go : (used : List Token) → (used ≡ [] → ⊥) → next_is av used ≡ false → Avoids av (used ++ rest)
      go [] some is = absurd (some refl)
      go (u ∷ used) some is = is
  others_apart s t (a ∷ all) used rest m = subst (λ (l : List Token). Avoids av (l ++ rest)) (sym m.parts)
      (go m.front (λ e. step_solid s m.between (Some a) (subst (λ (l : List Token). step.means s l (Some a) m.between) e m.item)) (step_apart s m.between m.front (Some a) m.item))
    where
      go : (front : List Token) → (front ≡ [] → ⊥) → next_is av front ≡ false → Avoids av ((front ++ m.back) ++ rest)
      go [] some is = absurd (some refl)
      go (u ∷ front) some is = is

  others_only : (s t : S) (all : List A) (used rest : List Token) → IsRepeated step s used all t → repeat_all step s (used ++ rest) ≡ Ok (all, t, rest)
  others_only s t [] used rest m = repeats.repeat_is av step step_good step_solid s (used ++ rest) ∙ (rw (last s t used rest m) refl)
  others_only s t (a ∷ all) used rest m =
      let more : repeat_all step m.between (m.back ++ rest) ≡ Ok (all, t, rest) = others_only m.between t all m.back rest m.others in
      let first : step.read s (m.front ++ (m.back ++ rest)) ≡ Ok (Some a, m.between, m.back ++ rest) =
      step_good.only s m.between m.front (m.back ++ rest) (Some a) m.item (others_apart m.between t all m.back rest m.others) in
      rw (m.parts, append_assoc, repeats.repeat_is av step step_good step_solid s (m.front ++ (m.back ++ rest)), first, more) refl

  others_good : Good none (repeat step)
  others_good = record {
    found = λ s tokens x e. (repeats.repeat_good av step step_good step_solid step_apart).found s tokens x e;
    only = λ s t used rest all m out. others_only s t all used rest m;
  }

  some_good : Good none (some_items text close item)
  unfolding some_items
  some_good = follow_good av none item (λ first. repeat step >>= λ others. done (first ∷ others)) gi (λ first. then_good none _ _ others_good (λ others. done_good none (first ∷ others)))
      (λ first s t used rest b m out. subst (λ (l : List Token). Avoids av l) (sym (ap (λ (l : List Token). l ++ rest) m.parts ∙ append_assoc m.front m.back rest))
      (others_apart s m.between m.first m.front (m.back ++ rest) m.in_front))

  some_solid : IsSolid (some_items text close item)
  unfolding some_items
  some_solid = first_solid _ _ solid

  no_good : Good none (no_items {S = S} {A = A} text close)
  unfolding no_items
  no_good = then_good none _ _ (plain_good _) (λ _. done_good none [])

  no_solid : IsSolid (no_items {S = S} {A = A} text close)
  unfolding no_items
  no_solid = first_solid _ _ (plain_solid _)

  pub closed_good : Good none (items text close item)
  unfolding items
  closed_good = if_next_good none _ _ _ no_good some_good no_solid some_solid
