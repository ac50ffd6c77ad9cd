-- Reading is decided by a prefix: brackets, rules with a state of their own, and attributes.
use Rattle.std.proofs.Common.{◌≡◌, ℕ, suc, ◌-◌, Bool, true, false, List, [], ◌∷◌, ◌++◌, ◌==◌, Result, Ok, Err, None, inl, inr, refl, sym, ap, subst, ◌∙◌, codes, if◌then◌else◌}
use Rattle.no_lex.specs.declared.token.Token.{Token}
use Rattle.no_lex.specs.declared.token.TokenKind.TheVariants.{Integer}
use Rattle.no_ir.specs.declared.function.Role.{Role}
use Rattle.no_read_rules.specs.declared.fault.Stopped.{Stopped}
use Rattle.no_read_rules.specs.declared.fault.Flaw.TheVariants.{Syntax}
use Rattle.no_read_rules.specs.Rules.{Rule, fault, ◌>>=◌}
use Rattle.no_read_rules.specs.Spelled.{is_kind, is_sign}
use Rattle.no_read_rules.proofs.Laws.{from_ok}
use Rattle.no_read_attributes.specs.declared.attribute.Attribute.TheVariants as attribute
use Rattle.no_read_attributes.specs.declared.attribute.AttributeHead.{AttributeHead}
use Rattle.no_read_attributes.specs.declared.attribute.AttributeHead.TheVariants as head
use Rattle.no_read_attributes.specs.Attributes.{begins_attribute, goes_on, align_tail, value_tail, after_head, an_attribute, all_attributes, skip_attributes, all_go_on, behind_attributes, all_marks, attribute_marks, attribute_head}
use Rattle.no_read_attributes.specs.Brackets.{behind_close, gone, to_close, bracketed}
use Rattle.no_read_attributes.specs.Ending.{ahead}
use Rattle.no_read_attributes.specs.Own.{with_state, inside}
use Rattle.no_fault_places.specs.Prefixes.{Takes, Stops, Steady, Eats}
use Rattle.no_fault_places.proofs.Prefix.{from_err, plain_steady, done_steady, if_next_steady, then_steady, plain_eats, then_eats}
use Rattle.no_fault_places.proofs.Lists.{items_where_steady}

-- ---- what stands between two brackets

module _ (text opener closer : List ℕ) where
  abbrev Again : ℕ → List Token → List Token → Type 0
  Again n tokens rest = (used : List Token) × (tokens ≡ used ++ rest) × ((more : List Token) → behind_close text opener closer n (used ++ more) ≡ Ok more)

  close_again : (n : ℕ) (tokens rest : List Token) → behind_close text opener closer n tokens ≡ Ok rest → Again n tokens rest
  close_again n [] rest e = absurd cc
  close_again n (t ∷ ts) rest e = go (is_sign text opener t) refl (is_sign text closer t) refl (n == 0) refl e (λ m. close_again m ts rest)
    where
      go : (b : Bool) → is_sign text opener t ≡ b → (c : Bool) → is_sign text closer t ≡ c → (d : Bool) → (n == 0) ≡ d
          → (if b then behind_close text opener closer (suc n) ts else (if c then (if d then Ok ts else behind_close text opener closer (n - 1) ts) else behind_close text opener closer n ts)) ≡ Ok rest
          → ((m : ℕ) → behind_close text opener closer m ts ≡ Ok rest → Again m ts rest) → Again n (t ∷ ts) rest
      go true ib c ic d id e more = let k = more (suc n) e in (t ∷ k.0, ap (λ (l : List Token). t ∷ l) k.1, λ x. rw ib (k.2 x))
      go false ib true ic true id e more = (t ∷ [], ap (λ (l : List Token). t ∷ l) (from_ok ts rest e), λ x. rw (ib, ic, id) refl)
      go false ib true ic false id e more = let k = more (n - 1) e in (t ∷ k.0, ap (λ (l : List Token). t ∷ l) k.1, λ x. rw (ib, ic, id) (k.2 x))
      go false ib false ic d id e more = let k = more n e in (t ∷ k.0, ap (λ (l : List Token). t ∷ l) k.1, λ x. rw (ib, ic) (k.2 x))

  -- where no bracket closes it, that is told at the end
  close_stops : (n : ℕ) (tokens : List Token) (e : Stopped) → behind_close text opener closer n tokens ≡ Err e → e.at ≡ None
  close_stops n [] e k = ap (λ (d : Stopped). d.at) (sym (from_err {A = List Token} (fault Syntax []) e k))
  close_stops n (t ∷ ts) e k = go (is_sign text opener t) (is_sign text closer t) (n == 0) k (λ m. close_stops m ts e)
    where
      go : (b c d : Bool) → (if b then behind_close text opener closer (suc n) ts else (if c then (if d then Ok ts else behind_close text opener closer (n - 1) ts) else behind_close text opener closer n ts)) ≡ Err e
          → ((m : ℕ) → behind_close text opener closer m ts ≡ Err e → e.at ≡ None) → e.at ≡ None
      go true c d k more = more (suc n) k
      go false true true k more = absurd cc
      go false true false k more = more (n - 1) k
      go false false d k more = more n k

  module _ {S : Type 0} where
    gone_takes : (s : S) (tokens : List Token) (r : Result (List Token) Stopped) (x : Unit {0} × S × List Token) → behind_close text opener closer 0 tokens ≡ r → gone s r ≡ Ok x → Takes (to_close text opener closer) s tokens x
    gone_takes s tokens (Ok rest) x is e =
        let k = close_again 0 tokens rest is in
        subst (Takes (to_close text opener closer) s tokens) (from_ok (tt, s, rest) x e) (record { used = k.0; parts = k.1; again = λ more begin. rw (k.2 more) refl })
    gone_takes s tokens (Err d) x is e = absurd cc

    gone_stops : (s : S) (tokens : List Token) (r : Result (List Token) Stopped) (e : Stopped) → behind_close text opener closer 0 tokens ≡ r → gone s r ≡ Err e → e.at ≡ None
    gone_stops s tokens (Ok rest) e is k = absurd cc
    gone_stops s tokens (Err d) e is k = ap (λ (c : Stopped). c.at) (sym (from_err {A = Unit {0} × S × List Token} d e k)) ∙ close_stops 0 tokens d is

    to_close_steady : Steady {S = S} (to_close text opener closer)
    to_close_steady = record {
      takes = λ s tokens x e. gone_takes s tokens (behind_close text opener closer 0 tokens) x refl e;
      stops = λ s tokens e k. inl (gone_stops s tokens (behind_close text opener closer 0 tokens) e refl k);
    }

    pub bracketed_steady : Steady {S = S} (bracketed text opener closer)
    unfolding bracketed
    bracketed_steady = then_steady _ _ (plain_steady _) (λ _. to_close_steady)

-- ---- a rule with a state of its own

module _ {S T A : Type 0} (start : T) (p : Rule T A) (h : Steady p) where
  inside_takes : (s : S) (tokens : List Token) (r : Result (A × T × List Token) Stopped) (x : (A × T) × S × List Token) → ((y : A × T × List Token) → r ≡ Ok y → Takes p start tokens y) → with_state s r ≡ Ok x → Takes (inside start p) s tokens x
  inside_takes s tokens (Ok y) x k e =
      let t = k y refl in
      subst (Takes (inside start p) s tokens) (from_ok ((y.0, y.1), s, y.2) x e) (record { used = t.used; parts = t.parts; again = λ rest begin. rw (t.again rest begin) refl })
  inside_takes s tokens (Err d) x k e = absurd cc

  inside_stops : (s : S) (tokens : List Token) (r : Result (A × T × List Token) Stopped) (e : Stopped) → ((d : Stopped) → r ≡ Err d → Stops p start tokens d) → with_state s r ≡ Err e → Stops (inside start p) s tokens e
  inside_stops s tokens (Ok y) e k l = absurd cc
  inside_stops s tokens (Err d) e k l = subst (Stops (inside start p) s tokens) (from_err {A = (A × T) × S × List Token} d e l) (go (k d refl))
    where
      go : Stops p start tokens d → Stops (inside start p) s tokens d
      go (inl n) = inl n
      go (inr r) = inr (record { before = r.before; token = r.token; more = r.more; rest = r.rest; parts = r.parts; at = r.at; part = r.part; again = λ other. rw (r.again other) refl })

  pub inside_steady : Steady {S = S} (inside start p)
  inside_steady = record {
    takes = λ s tokens x e. inside_takes s tokens (p.read start tokens) x (λ y. h.takes start tokens y) e;
    stops = λ s tokens e l. inside_stops s tokens (p.read start tokens) e (λ d. h.stops start tokens d) l;
  }

-- ---- a rule, and what follows it: read as one after the other

module _ {S A B : Type 0} (g : A → Token → Bool) (p : Rule S A) (q : A → Rule S B) (h : Steady p) (k : (a : A) → Steady (q a)) where
  pub ahead_steady : Steady (ahead g p q)
  ahead_steady = record { takes = takes; stops = stops }
    where
      both : Steady (p >>= q)
      both = then_steady p q h k

      takes : (s : S) (tokens : List Token) (x : B × S × List Token) → (ahead g p q).read s tokens ≡ Ok x → Takes (ahead g p q) s tokens x
      takes s tokens x e = let t = both.takes s tokens x e in record { used = t.used; parts = t.parts; again = t.again }

      stops : (s : S) (tokens : List Token) (e : Stopped) → (ahead g p q).read s tokens ≡ Err e → Stops (ahead g p q) s tokens e
      stops s tokens e l = go (both.stops s tokens e l)
        where
          go : Stops (p >>= q) s tokens e → Stops (ahead g p q) s tokens e
          go (inl n) = inl n
          go (inr r) = inr (record { before = r.before; token = r.token; more = r.more; rest = r.rest; parts = r.parts; at = r.at; part = r.part; again = r.again })

-- ---- attributes

module _ (text : List ℕ) where
  align_steady : Steady (align_tail text)
  unfolding align_tail
  align_steady = if_next_steady (is_kind Integer) _ _ (then_steady _ _ (plain_steady _) (λ _. done_steady tt)) (bracketed_steady text (codes "(") (codes ")"))

  value_steady : Steady (value_tail text)
  unfolding value_tail
  value_steady = then_steady _ _ (plain_steady _) (λ _. then_steady _ _ (plain_steady _) (λ value. done_steady value))

  head_steady : (h : AttributeHead) → Steady (after_head text h)
  head_steady head.Word = if_next_steady (goes_on text attribute.Word) _ _ (then_steady _ _ (bracketed_steady text (codes "(") (codes ")")) (λ _. done_steady attribute.Closed)) (done_steady attribute.Word)
  head_steady head.Align = if_next_steady (goes_on text attribute.Align) _ _ (then_steady _ _ align_steady (λ _. done_steady attribute.Closed)) (done_steady attribute.Align)
  head_steady (head.Text key) = if_next_steady (goes_on text (attribute.Text key)) _ _ (then_steady _ _ value_steady (λ value. done_steady (attribute.Pair key value))) (done_steady (attribute.Text key))
  head_steady (head.Group group) = done_steady (attribute.Group group)

  attribute_steady : Steady (an_attribute text)
  unfolding an_attribute
  attribute_steady = then_steady _ _ (plain_steady _) head_steady

  attribute_eats : Eats (an_attribute text)
  unfolding an_attribute
  attribute_eats = then_eats _ _ (plain_eats (attribute_head text)) head_steady

  pub all_steady : Steady (all_attributes text)
  all_steady = items_where_steady (begins_attribute text) (an_attribute text) attribute_steady attribute_eats

  pub skip_steady : Steady (skip_attributes text)
  skip_steady = then_steady _ _ all_steady (λ _. done_steady tt)

  pub marks_steady : (role : Role) → Steady (attribute_marks text role)
  marks_steady role = then_steady _ _ all_steady (λ all. done_steady (all_marks text role all))

  pub behind_attributes_steady : {A : Type 0} (p : Rule (Unit {0}) A) → Steady p → Steady (behind_attributes text p)
  behind_attributes_steady p h = ahead_steady (all_go_on text) (all_attributes text) (λ all. p) all_steady (λ all. h)
