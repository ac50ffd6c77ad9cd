-- The laws of rules whose value says with which tokens they would go on.
use Rattle.std.proofs.Common.{◌≡◌, Bool, true, false, List, [], ◌∷◌, ◌++◌, Ok, inl, inr, refl, sym, ap, subst, ◌∙◌, append_assoc, append-nil}
use Rattle.no_lex.specs.declared.token.Token.{Token}
use Rattle.no_read_rules.specs.Rules.{Rule, done, ◌>>=◌, next_is, choose, if_next, Found, Avoids, none, Good, IsSolid}
use Rattle.no_read_rules.proofs.Laws.{from_ok, after_ok, avoids_none}
use Rattle.no_read_attributes.specs.Ending.{Ends, ahead}

-- what goes on with nothing
avoids : (g : Token → Bool) → ((t : Token) → g t ≡ false) → (tokens : List Token) → Avoids g tokens
avoids g never [] = refl
avoids g never (t ∷ ts) = never t

pub avoids_less : (g h : Token → Bool) → ((t : Token) → h t ≡ false → g t ≡ false) → (tokens : List Token) → Avoids h tokens → Avoids g tokens
avoids_less g h less [] out = refl
avoids_less g h less (t ∷ ts) out = less t out

-- what takes no token leaves what follows as it is
pub done_apart : {S A : Type 0} (av : Token → Bool) (a : A) (s t : S) (used rest : List Token) (b : A) → (done a).means s used b t → Avoids av rest → Avoids av (used ++ rest)
done_apart av a s t used rest b m out = subst (λ (l : List Token). Avoids av (l ++ rest)) (sym m.0) out

module _ {S A : Type 0} where
  pub ends_done : (g : A → Token → Bool) (a : A) → ((t : Token) → g a t ≡ false) → Ends {S = S} g (done a)
  ends_done g a never = record {
    found = λ s tokens x e. subst (Found (done a) s tokens) (from_ok (a, s, tokens) x e) (record { used = []; parts = refl; meant = (refl, refl, refl) });
    stops = λ s tokens x e. subst (λ (y : A × S × List Token). Avoids (g y.0) y.2) (from_ok (a, s, tokens) x e) (avoids (g a) never tokens);
    only = λ s t used rest b m _. rw (m.0, m.1, m.2) refl;
  }

  -- what a rule took begins as the tokens do
  same_head : (test : Token → Bool) (p : Rule S A) (s t : S) (a : A) (used tokens rest : List Token) → tokens ≡ used ++ rest → p.means s used a t → IsSolid p → next_is test used ≡ next_is test tokens
  same_head test p s t a [] tokens rest e m solid = absurd (solid s t a m)
  same_head test p s t a (u ∷ used) tokens rest e m solid = ap (next_is test) (sym e)

  -- a rule that the first token begins, or nothing at all, with which that token goes on
  pub ends_either : (g : A → Token → Bool) (p : Rule S A) (a : A) → Ends g p → IsSolid p → Ends g (if_next (g a) p (done a))
  ends_either g p a gp sp = record { found = λ s tokens x e. found s tokens x (next_is (g a) tokens) refl e; stops = λ s tokens x e. stops s tokens x (next_is (g a) tokens) refl e; only = only }
    where
      found : (s : S) (tokens : List Token) (x : A × S × List Token) (b : Bool) → next_is (g a) tokens ≡ b → (choose b p (done a)).read s tokens ≡ Ok x → Found (if_next (g a) p (done a)) s tokens x
      found s tokens x true is e = let f = gp.found s tokens x e in record { used = f.used; parts = f.parts; meant = inl (same_head (g a) p s x.1 x.0 f.used tokens x.2 f.parts f.meant sp ∙ is, f.meant) }
      found s tokens x false is e = subst (Found (if_next (g a) p (done a)) s tokens) (from_ok (a, s, tokens) x e) (record { used = []; parts = refl; meant = inr (refl, (refl, refl, refl)) })

      stops : (s : S) (tokens : List Token) (x : A × S × List Token) (b : Bool) → next_is (g a) tokens ≡ b → (choose b p (done a)).read s tokens ≡ Ok x → Avoids (g x.0) x.2
      stops s tokens x true is e = gp.stops s tokens x e
      stops s tokens x false is e = subst (λ (y : A × S × List Token). Avoids (g y.0) y.2) (from_ok (a, s, tokens) x e) is

      only : (s t : S) (used rest : List Token) (b : A) → (if_next (g a) p (done a)).means s used b t → Avoids (g b) rest → (choose (next_is (g a) (used ++ rest)) p (done a)).read s (used ++ rest) ≡ Ok (b, t, rest)
      only s t [] rest b (inl m) av = absurd (sp s t b m.1)
      only s t (u ∷ used) rest b (inl m) av = subst (λ c. (choose c p (done a)).read s (u ∷ (used ++ rest)) ≡ Ok (b, t, rest)) (sym m.0) (gp.only s t (u ∷ used) rest b m.1 av)
      only s t [] rest b (inr m) av = subst (λ c. (choose c p (done a)).read s rest ≡ Ok (b, t, rest)) (sym (ap (λ (c : A). next_is (g c) rest) (sym m.1.1) ∙ av)) (rw (m.1.1, m.1.2) refl)
      only s t (u ∷ used) rest b (inr m) av = absurd (filled u used m.1.0)
        where
          filled : (v : Token) (vs : List Token) → v ∷ vs ≡ [] → ⊥
          filled v vs e = cc

  -- the same rule by its last tokens alone
  pub ends_good : (g : A → Token → Bool) (h : Token → Bool) (p : Rule S A) → Ends g p → ((a : A) (t : Token) → h t ≡ false → g a t ≡ false) → Good h p
  ends_good g h p l less = record { found = l.found; only = λ s t used rest a m av. l.only s t used rest a m (avoids_less (g a) h (less a) rest av) }

module _ {S A B : Type 0} where
  pub ends_then : (g : B → Token → Bool) (p : Rule S A) (q : A → Rule S B) → Good none p → ((a : A) → Ends g (q a)) → Ends g (p >>= q)
  ends_then g p q gp gq = record {
    found = λ s tokens x e.
        let r = after_ok (p.read s tokens) (λ y. (q y.0).read y.1 y.2) x e in
        let f = gp.found s tokens r.0 r.1 in
        let b = (gq r.0.0).found r.0.1 r.0.2 x r.2 in
        record {
          used = f.used ++ b.used;
          parts = f.parts ∙ ap (λ (l : List Token). f.used ++ l) b.parts ∙ sym (append_assoc f.used b.used x.2);
          meant = record { front = f.used; back = b.used; first = r.0.0; between = r.0.1; parts = refl; in_front = f.meant; in_back = b.meant };
        };
    stops = λ s tokens x e.
        let r = after_ok (p.read s tokens) (λ y. (q y.0).read y.1 y.2) x e in
        (gq r.0.0).stops r.0.1 r.0.2 x r.2;
    only = λ s t used rest b m av.
        let front : p.read s (m.front ++ (m.back ++ rest)) ≡ Ok (m.first, m.between, m.back ++ rest) = gp.only s m.between m.front (m.back ++ rest) m.first m.in_front (avoids_none (m.back ++ rest)) in
        let back : (q m.first).read m.between (m.back ++ rest) ≡ Ok (b, t, rest) = (gq m.first).only m.between t m.back rest b m.in_back av in
        rw (m.parts, append_assoc, front) back;
  }

  -- a value put into another that goes on as it does
  pub ends_map : (g : A → Token → Bool) (h : B → Token → Bool) (p : Rule S A) (f : A → B) → Ends g p → ((a : A) (t : Token) → h (f a) t ≡ g a t) → Ends h (p >>= λ a. done (f a))
  ends_map g h p f gp same = record {
    found = λ s tokens x e.
        let r = after_ok (p.read s tokens) (λ y. Ok (f y.0, y.1, y.2)) x e in
        let k = gp.found s tokens r.0 r.1 in
        subst (Found (p >>= λ a. done (f a)) s tokens) (from_ok (f r.0.0, r.0.1, r.0.2) x r.2) (record {
          used = k.used;
          parts = k.parts;
          meant = record { front = k.used; back = []; first = r.0.0; between = r.0.1; parts = sym (append-nil k.used); in_front = k.meant; in_back = (refl, refl, refl) };
        });
    stops = λ s tokens x e.
        let r = after_ok (p.read s tokens) (λ y. Ok (f y.0, y.1, y.2)) x e in
        subst (λ (y : B × S × List Token). Avoids (h y.0) y.2) (from_ok (f r.0.0, r.0.1, r.0.2) x r.2)
        (avoids_less (h (f r.0.0)) (g r.0.0) (λ t out. same r.0.0 t ∙ out) r.0.2 (gp.stops s tokens r.0 r.1));
    only = λ s t used rest b m av. only s t m.between m.front m.back rest m.first b m.in_front m.in_back.0 m.in_back.1 m.in_back.2 av (m.parts);
  }
    where
      only : (s t between : S) (front back rest : List Token) (a : A) (b : B) → p.means s front a between → back ≡ [] → b ≡ f a → t ≡ between → Avoids (h b) rest → {used : List Token} → used ≡ front ++ back
          → (p >>= λ a. done (f a)).read s (used ++ rest) ≡ Ok (b, t, rest)
      only s t between front back rest a b m e is same_state av parts =
          let out : Avoids (g a) rest = avoids_less (g a) (h (f a)) (λ t out. sym (same a t) ∙ out) rest (subst (λ (c : B). Avoids (h c) rest) is av) in
          rw (parts, e, append-nil front, gp.only s between front rest a m out, is, same_state) refl

  -- ---- a rule, and what follows it

  pub ahead_good : (g : A → Token → Bool) (h : Token → Bool) (p : Rule S A) (q : A → Rule S B) → Ends g p → ((a : A) → Good h (q a)) → ((a : A) → IsSolid (q a)) → Good h (ahead g p q)
  ahead_good g h p q gp gq sq = record {
    found = λ s tokens x e.
        let r = after_ok (p.read s tokens) (λ y. (q y.0).read y.1 y.2) x e in
        let f = gp.found s tokens r.0 r.1 in
        let b = (gq r.0.0).found r.0.1 r.0.2 x r.2 in
        record {
          used = f.used ++ b.used;
          parts = f.parts ∙ ap (λ (l : List Token). f.used ++ l) b.parts ∙ sym (append_assoc f.used b.used x.2);
          meant = record {
            front = f.used;
            back = b.used;
            first = r.0.0;
            between = r.0.1;
            parts = refl;
            in_front = f.meant;
            apart = same_head (g r.0.0) (q r.0.0) r.0.1 x.1 x.0 b.used r.0.2 x.2 b.parts b.meant (sq r.0.0) ∙ gp.stops s tokens r.0 r.1;
            in_back = b.meant;
          };
        };
    only = λ s t used rest b m av.
        let front : p.read s (m.front ++ (m.back ++ rest)) ≡ Ok (m.first, m.between, m.back ++ rest) =
        gp.only s m.between m.front (m.back ++ rest) m.first m.in_front (sym (same_head (g m.first) (q m.first) m.between t b m.back (m.back ++ rest) rest refl m.in_back (sq m.first)) ∙ m.apart) in
        let back : (q m.first).read m.between (m.back ++ rest) ≡ Ok (b, t, rest) = (gq m.first).only m.between t m.back rest b m.in_back av in
        rw (m.parts, append_assoc, front) back;
  }

  pub ahead_solid : (g : A → Token → Bool) (p : Rule S A) (q : A → Rule S B) → ((a : A) → IsSolid (q a)) → IsSolid (ahead g p q)
  ahead_solid g p q sq s t b m = go m.front m.back m.parts m.in_back
    where
      go : (front back : List Token) → [] ≡ front ++ back → (q m.first).means m.between back b t → ⊥
      go [] [] e k = sq m.first m.between t b k
      go [] (v ∷ back) e k = absurd cc
      go (u ∷ front) back e k = absurd cc
