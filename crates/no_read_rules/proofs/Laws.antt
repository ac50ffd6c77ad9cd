-- The two laws of each way to make a rule: what is read is meant, and what is meant is read.
use Rattle.std.proofs.Common.{◌≡◌, Bool, true, false, List, [], ◌∷◌, ◌++◌, Result, Ok, Err, inl, inr, refl, sym, ap, subst, ◌∙◌, append_assoc}
use Rattle.no_lex.specs.declared.token.Token.{Token}
use Rattle.no_read_rules.specs.declared.fault.Flaw.{Flaw}
use Rattle.no_read_rules.specs.declared.fault.Stopped.{Stopped}
use Rattle.no_read_rules.specs.Rules.{Rule, after, one_value, one_read, one, keeping, plain, done, change, ◌>>=◌, lift_value, lift, next_is, choose, if_next, judged, checked, Found, Avoids, none, Good, IsSolid}

abbrev okay : {A B : Type 0} → A → Result A B
okay x = Ok x

pub from_ok : {A : Type 0} (x y : A) → okay {B = Stopped} x ≡ okay y → x ≡ y
from_ok x y e = cc

pub after_ok : {A B : Type 0} (r : Result A Stopped) (f : A → Result B Stopped) (y : B) → after r f ≡ Ok y → (x : A) × (r ≡ Ok x) × (f x ≡ Ok y)
after_ok (Ok x) f y e = (x, refl, e)
after_ok (Err d) f y e = absurd cc

pub avoids_none : (tokens : List Token) → Avoids none tokens
avoids_none [] = refl
avoids_none (t ∷ ts) = refl

module _ {S A : Type 0} where
  -- ---- one token

  one_found : (f : S → Token → Result (A × S) Flaw) (s : S) (t : Token) (ts : List Token) (r : Result (A × S) Flaw) (x : A × S × List Token) → f s t ≡ r → one_value r t ts ≡ Ok x → Found (one f) s (t ∷ ts) x
  one_found f s t ts (Ok v) x is e = subst (Found (one f) s (t ∷ ts)) (from_ok (v.0, v.1, ts) x e) (record { used = t ∷ []; parts = refl; meant = record { token = t; alone = refl; value = is } })
  one_found f s t ts (Err k) x is e = absurd cc

  one_finds : (f : S → Token → Result (A × S) Flaw) (s : S) (tokens : List Token) (x : A × S × List Token) → one_read f s tokens ≡ Ok x → Found (one f) s tokens x
  one_finds f s [] x e = absurd cc
  one_finds f s (t ∷ ts) x e = one_found f s t ts (f s t) x refl e

  pub one_good : (f : S → Token → Result (A × S) Flaw) → Good none (one f)
  one_good f = record { found = one_finds f; only = λ s t used rest a m _. rw (m.alone, m.value) refl }

  pub plain_good : (f : Token → Result A Flaw) → Good {S = S} none (plain f)
  plain_good f = one_good (λ s token. keeping s (f token))

  pub one_solid : (f : S → Token → Result (A × S) Flaw) → IsSolid (one f)
  one_solid f s t a m = empty m.token m.alone
    where
      empty : (token : Token) → [] ≡ token ∷ [] → ⊥
      empty token e = cc

  pub plain_solid : (f : Token → Result A Flaw) → IsSolid {S = S} (plain f)
  plain_solid f = one_solid (λ s token. keeping s (f token))

  -- ---- no token

  pub done_good : (g : Token → Bool) (a : A) → Good {S = S} g (done a)
  done_good g a = record {
    found = λ s tokens x e. subst (Found (done a) s tokens) (from_ok (a, s, tokens) x e) (record { used = []; parts = refl; meant = (refl, refl, refl) });
    only = λ s t used rest b m _. rw (m.0, m.1, m.2) refl;
  }

  pub change_good : (g : Token → Bool) (f : S → A × S) → Good g (change f)
  change_good g f = record {
    found = λ s tokens x e. subst (Found (change f) s tokens) (from_ok ((f s).0, (f s).1, tokens) x e) (record { used = []; parts = refl; meant = (refl, refl, refl) });
    only = λ s t used rest b m _. rw (m.0, m.1, m.2) refl;
  }

  -- ---- a rule in other places

  pub weaker : (g : Token → Bool) (p : Rule S A) → Good none p → Good g p
  weaker g p l = record { found = l.found; only = λ s t used rest a m _. l.only s t used rest a m (avoids_none rest) }

  lift_found : (p : Rule (Unit {0}) A) (s : S) (tokens : List Token) (r : Result (A × Unit {0} × List Token) Stopped) (x : A × S × List Token) → p.read tt tokens ≡ r
      → ((y : A × Unit {0} × List Token) → p.read tt tokens ≡ Ok y → Found p tt tokens y) → lift_value s r ≡ Ok x → Found (lift p) s tokens x
  lift_found p s tokens (Ok y) x is found e = let f = found y is in subst (Found (lift p) s tokens) (from_ok (y.0, s, y.2) x e) (record { used = f.used; parts = f.parts; meant = (f.meant, refl) })
  lift_found p s tokens (Err d) x is found e = absurd cc

  pub lift_good : (g : Token → Bool) (p : Rule (Unit {0}) A) → Good g p → Good {S = S} g (lift p)
  lift_good g p l = record {
    found = λ s tokens x e. lift_found p s tokens (p.read tt tokens) x refl (l.found tt tokens) e;
    only = λ s t used rest a m av. rw (l.only tt tt used rest a m.0 av, m.1) refl;
  }

  pub lift_solid : (p : Rule (Unit {0}) A) → IsSolid p → IsSolid {S = S} (lift p)
  lift_solid p l s t a m = l tt tt a m.0

  -- ---- choices

  pub choose_good : (g : Token → Bool) (b : Bool) (p q : Rule S A) → Good g p → Good g q → Good g (choose b p q)
  choose_good g true p q gp gq = gp
  choose_good g false p q gp gq = gq

  pub choose_solid : (b : Bool) (p q : Rule S A) → IsSolid p → IsSolid q → IsSolid (choose b p q)
  choose_solid true p q sp sq = sp
  choose_solid false p q sp sq = sq

  if_next_found : (test : Token → Bool) (p q : Rule S A) (s : S) (tokens : List Token) (x : A × S × List Token) (b : Bool) → next_is test tokens ≡ b
      → ((f : Found p s tokens x) → next_is test f.used ≡ next_is test tokens) → ((f : Found q s tokens x) → next_is test f.used ≡ next_is test tokens)
      → (p.read s tokens ≡ Ok x → Found p s tokens x) → (q.read s tokens ≡ Ok x → Found q s tokens x) → (choose b p q).read s tokens ≡ Ok x → Found (if_next test p q) s tokens x
  if_next_found test p q s tokens x true is sp sq fp fq e = let f = fp e in record { used = f.used; parts = f.parts; meant = inl (sp f ∙ is, f.meant) }
  if_next_found test p q s tokens x false is sp sq fp fq e = let f = fq e in record { used = f.used; parts = f.parts; meant = inr (sq f ∙ is, f.meant) }

  -- what a rule took begins as the tokens do
  same_head : (test : Token → Bool) (p : Rule S A) (s t : S) (a : A) (used tokens rest : List Token) → tokens ≡ used ++ rest → p.means s used a t → IsSolid p → next_is test used ≡ next_is test tokens
  same_head test p s t a [] tokens rest e m solid = absurd (solid s t a m)
  same_head test p s t a (u ∷ used) tokens rest e m solid = ap (next_is test) (sym e)

  pub if_next_good : (g : Token → Bool) (test : Token → Bool) (p q : Rule S A) → Good g p → Good g q → IsSolid p → IsSolid q → Good g (if_next test p q)
  if_next_good g test p q gp gq sp sq = record {
    found = λ s tokens x e. if_next_found test p q s tokens x (next_is test tokens) refl
        (λ f. same_head test p s x.1 x.0 f.used tokens x.2 f.parts f.meant sp) (λ f. same_head test q s x.1 x.0 f.used tokens x.2 f.parts f.meant sq)
        (gp.found s tokens x) (gq.found s tokens x) e;
    only = only;
  }
    where
      only : (s t : S) (used rest : List Token) (a : A) → (if_next test p q).means s used a t → Avoids g rest → (choose (next_is test (used ++ rest)) p q).read s (used ++ rest) ≡ Ok (a, t, rest)
      only s t [] rest a (inl m) av = absurd (sp s t a m.1)
      only s t [] rest a (inr m) av = absurd (sq s t a m.1)
      only s t (u ∷ used) rest a (inl m) av = subst (λ b. (choose b p q).read s (u ∷ (used ++ rest)) ≡ Ok (a, t, rest)) (sym m.0) (gp.only s t (u ∷ used) rest a m.1 av)
      only s t (u ∷ used) rest a (inr m) av = subst (λ b. (choose b p q).read s (u ∷ (used ++ rest)) ≡ Ok (a, t, rest)) (sym m.0) (gq.only s t (u ∷ used) rest a m.1 av)

  pub if_next_solid : (test : Token → Bool) (p q : Rule S A) → IsSolid p → IsSolid q → IsSolid (if_next test p q)
  if_next_solid test p q sp sq s t a (inl m) = sp s t a m.1
  if_next_solid test p q sp sq s t a (inr m) = sq s t a m.1

  -- a rule that the first token begins, or nothing at all
  pub either_good : (test : Token → Bool) (p : Rule S A) (a : A) → Good none p → IsSolid p → Good test (if_next test p (done a))
  either_good test p a gp sp = record { found = λ s tokens x e. found s tokens x (next_is test tokens) refl e; only = only }
    where
      found : (s : S) (tokens : List Token) (x : A × S × List Token) (b : Bool) → next_is test tokens ≡ b → (choose b p (done a)).read s tokens ≡ Ok x → Found (if_next test p (done a)) s tokens x
      found s tokens x true is e = let f = gp.found s tokens x e in record { used = f.used; parts = f.parts; meant = inl (same_head test p s x.1 x.0 f.used tokens x.2 f.parts f.meant sp ∙ is, f.meant) }
      found s tokens x false is e = subst (Found (if_next test p (done a)) s tokens) (from_ok (a, s, tokens) x e) (record { used = []; parts = refl; meant = inr (refl, (refl, refl, refl)) })

      only : (s t : S) (used rest : List Token) (b : A) → (if_next test p (done a)).means s used b t → Avoids test rest → (choose (next_is test (used ++ rest)) p (done a)).read s (used ++ rest) ≡ Ok (b, t, rest)
      only s t [] rest b (inl m) av = absurd (sp s t b m.1)
      only s t (u ∷ used) rest b (inl m) av = subst (λ c. (choose c p (done a)).read s (u ∷ (used ++ rest)) ≡ Ok (b, t, rest)) (sym m.0) (gp.only s t (u ∷ used) rest b m.1 (avoids_none rest))
      only s t [] rest b (inr m) av = subst (λ c. (choose c p (done a)).read s rest ≡ Ok (b, t, rest)) (sym av) (rw (m.1.1, m.1.2) refl)
      only s t (u ∷ used) rest b (inr m) av = absurd (filled u used m.1.0)
        where
          filled : (v : Token) (vs : List Token) → v ∷ vs ≡ [] → ⊥
          filled v vs e = cc

module _ {S A B : Type 0} where
  -- ---- one after the other

  pub then_good : (g : Token → Bool) (p : Rule S A) (q : A → Rule S B) → Good none p → ((a : A) → Good g (q a)) → Good g (p >>= q)
  then_good g p q gp gq = record {
    found = λ s tokens x e.
        let r = after_ok (p.read s tokens) (λ y. (q y.0).read y.1 y.2) x e in
        let f = gp.found s tokens r.0 r.1 in
        let b = (gq r.0.0).found r.0.1 r.0.2 x r.2 in
        record {
          used = f.used ++ b.used;
          parts = f.parts ∙ ap (λ (l : List Token). f.used ++ l) b.parts ∙ sym (append_assoc f.used b.used x.2);
          meant = record { front = f.used; back = b.used; first = r.0.0; between = r.0.1; parts = refl; in_front = f.meant; in_back = b.meant };
        };
    only = λ s t used rest b m av.
        let front : p.read s (m.front ++ (m.back ++ rest)) ≡ Ok (m.first, m.between, m.back ++ rest) = gp.only s m.between m.front (m.back ++ rest) m.first m.in_front (avoids_none (m.back ++ rest)) in
        let back : (q m.first).read m.between (m.back ++ rest) ≡ Ok (b, t, rest) = (gq m.first).only m.between t m.back rest b m.in_back av in
        rw (m.parts, append_assoc, front) back;
  }

  -- the same where the first may go on: what follows doesn't begin so
  pub follow_good : (av g : Token → Bool) (p : Rule S A) (q : A → Rule S B) → Good av p → ((a : A) → Good g (q a))
      → ((a : A) (s t : S) (used rest : List Token) (b : B) → (q a).means s used b t → Avoids g rest → Avoids av (used ++ rest)) → Good g (p >>= q)
  follow_good av g p q gp gq apart = record {
    found = λ s tokens x e.
        let r = after_ok (p.read s tokens) (λ y. (q y.0).read y.1 y.2) x e in
        let f = gp.found s tokens r.0 r.1 in
        let b = (gq r.0.0).found r.0.1 r.0.2 x r.2 in
        record {
          used = f.used ++ b.used;
          parts = f.parts ∙ ap (λ (l : List Token). f.used ++ l) b.parts ∙ sym (append_assoc f.used b.used x.2);
          meant = record { front = f.used; back = b.used; first = r.0.0; between = r.0.1; parts = refl; in_front = f.meant; in_back = b.meant };
        };
    only = λ s t used rest b m av'.
        let out : Avoids av (m.back ++ rest) = apart m.first m.between t m.back rest b m.in_back av' in
        let front : p.read s (m.front ++ (m.back ++ rest)) ≡ Ok (m.first, m.between, m.back ++ rest) = gp.only s m.between m.front (m.back ++ rest) m.first m.in_front out in
        let back : (q m.first).read m.between (m.back ++ rest) ≡ Ok (b, t, rest) = (gq m.first).only m.between t m.back rest b m.in_back av' in
        rw (m.parts, append_assoc, front) back;
  }

  pub first_solid : (p : Rule S A) (q : A → Rule S B) → IsSolid p → IsSolid (p >>= q)
  first_solid p q sp s t b m = go m.front m.back m.parts m.in_front
    where
      go : (front back : List Token) → [] ≡ front ++ back → p.means s front m.first m.between → ⊥
      go [] back e f = sp s m.between m.first f
      go (u ∷ front) back e f = absurd cc

  -- a value that has to pass
  judged_found : (p : Rule S A) (f : A → Result B Flaw) (s : S) (tokens : List Token) (y : A × S × List Token) (r : Result B Flaw) (x : B × S × List Token) → f y.0 ≡ r → Found p s tokens y → judged tokens r y ≡ Ok x → Found (checked p f) s tokens x
  judged_found p f s tokens y (Ok b) x is l e = subst (Found (checked p f) s tokens) (from_ok (b, y.1, y.2) x e) (record { used = l.used; parts = l.parts; meant = record { value = y.0; read = l.meant; passes = is } })
  judged_found p f s tokens y (Err d) x is l e = absurd cc

  pub checked_good : (g : Token → Bool) (p : Rule S A) (f : A → Result B Flaw) → Good g p → Good g (checked p f)
  checked_good g p f gp = record {
    found = λ s tokens x e.
        let r = after_ok (p.read s tokens) (λ y. judged tokens (f y.0) y) x e in
        judged_found p f s tokens r.0 (f r.0.0) x refl (gp.found s tokens r.0 r.1) r.2;
    only = λ s t used rest b m av. rw (gp.only s t used rest m.value m.read av, m.passes) refl;
  }

  pub checked_solid : (p : Rule S A) (f : A → Result B Flaw) → IsSolid p → IsSolid (checked p f)
  checked_solid p f sp s t b m = sp s t m.value m.read

-- at most one value is read from a list of tokens
pub once : {S A : Type 0} (g : Token → Bool) (p : Rule S A) → Good g p → (s t u : S) (tokens : List Token) (a b : A) → p.means s tokens a t → p.means s tokens b u → a ≡ b
once {S = S} {A = A} g p l s t u tokens a b m n = ap (λ (x : A × S × List Token). x.0) (from_ok (a, t, []) (b, u, []) (sym (l.only s t tokens [] a m refl) ∙ l.only s u tokens [] b n refl))
