-- Reading is decided by a prefix: a law for each way to make a rule.
use Rattle.std.proofs.Common.{◌≡◌, suc, ◌<◌, ◌≤◌, length, Bool, true, false, List, [], ◌∷◌, ◌++◌, ◌⊎◌, Result, Ok, Err, inl, inr, refl, sym, ap, subst, ◌∙◌, append_assoc, arith}
use Rattle.std.proofs.lemmas.List.{length-append}
use Rattle.no_lex.specs.declared.token.Token.{Token}
use Rattle.no_read_rules.specs.declared.fault.Flaw.{Flaw}
use Rattle.no_read_rules.specs.declared.fault.Stopped.{Stopped}
use Rattle.no_read_rules.specs.Rules.{Rule, fault, after, one_value, one_read, one, keeping, plain, done, change, ◌>>=◌, lift_value, lift, next_is, choose, if_next, judged, checked, none, Good}
use Rattle.no_read_rules.proofs.Laws.{from_ok, after_ok, avoids_none}
use Rattle.no_fault_places.specs.Prefixes.{IsPart, BeginAlike, Takes, Refuses, Stops, Steady, Eats}

abbrev failed : {A : Type 0} → Stopped → Result A Stopped
failed e = Err e

pub from_err : {A : Type 0} (d e : Stopped) → failed {A = A} d ≡ failed e → d ≡ e
from_err d e k = cc

-- where a composed reading stopped: in the first part, or behind it
pub after_err : {A B : Type 0} (r : Result A Stopped) (f : A → Result B Stopped) (e : Stopped) → after r f ≡ Err e → (r ≡ Err e) ⊎ ((x : A) × (r ≡ Ok x) × (f x ≡ Err e))
after_err (Ok x) f e k = inr (x, refl, k)
after_err {A = A} {B = B} (Err d) f e k = inl (ap (failed {A = A}) (from_err {A = B} d e k))

-- ---- lists that begin alike

pub begin_behind : (used a b : List Token) → BeginAlike a b → BeginAlike (used ++ a) (used ++ b)
begin_behind [] a b k = k
begin_behind (t ∷ used) a b k = refl

pub begin_part : (before : List Token) (token : Token) (a b : List Token) → BeginAlike (before ++ (token ∷ a)) (before ++ (token ∷ b))
begin_part [] token a b = refl
begin_part (t ∷ before) token a b = refl

pub same_test : (f : Token → Bool) (a b : List Token) → BeginAlike a b → next_is f a ≡ next_is f b
same_test f [] [] k = refl
same_test f [] (u ∷ us) k = absurd k
same_test f (t ∷ ts) [] k = absurd k
same_test f (t ∷ ts) (u ∷ us) k = ap f (sym k)

module _ {S A : Type 0} where
  -- ---- one token

  one_takes : (f : S → Token → Result (A × S) Flaw) (s : S) (tokens : List Token) (x : A × S × List Token) → one_read f s tokens ≡ Ok x → Takes (one f) s tokens x
  one_takes f s [] x e = absurd cc
  one_takes f s (t ∷ ts) x e = go (f s t) refl e
    where
      go : (r : Result (A × S) Flaw) → f s t ≡ r → one_value r t ts ≡ Ok x → Takes (one f) s (t ∷ ts) x
      go (Ok y) is k = subst (Takes (one f) s (t ∷ ts)) (from_ok (y.0, y.1, ts) x k) (record { used = t ∷ []; parts = refl; again = λ rest begin. rw is refl })
      go (Err flaw) is k = absurd cc

  one_stops : (f : S → Token → Result (A × S) Flaw) (s : S) (tokens : List Token) (e : Stopped) → one_read f s tokens ≡ Err e → Stops (one f) s tokens e
  one_stops f s [] e k = inl (ap (λ (d : Stopped). d.at) (sym (from_err {A = A × S × List Token} _ e k)))
  one_stops f s (t ∷ ts) e k = go (f s t) refl k
    where
      go : (r : Result (A × S) Flaw) → f s t ≡ r → one_value r t ts ≡ Err e → Stops (one f) s (t ∷ ts) e
      go (Ok y) is l = absurd cc
      go (Err flaw) is l = inr (subst (Refuses (one f) s (t ∷ ts)) (from_err {A = A × S × List Token} (fault flaw (t ∷ ts)) e l) (record {
        before = [];
        token = t;
        more = [];
        rest = ts;
        parts = refl;
        at = refl;
        part = inl refl;
        again = λ other. rw is refl;
      }))

  pub one_steady : (f : S → Token → Result (A × S) Flaw) → Steady (one f)
  one_steady f = record { takes = one_takes f; stops = one_stops f }

  pub plain_steady : (f : Token → Result A Flaw) → Steady {S = S} (plain f)
  plain_steady f = one_steady (λ s t. keeping s (f t))

  -- ---- no token

  pub done_steady : (a : A) → Steady {S = S} (done a)
  done_steady a = record {
    takes = λ s tokens x e. subst (Takes (done a) s tokens) (from_ok (a, s, tokens) x e) (record { used = []; parts = refl; again = λ rest begin. refl });
    stops = λ s tokens e k. absurd cc;
  }

  pub change_steady : (f : S → A × S) → Steady (change f)
  change_steady f = record {
    takes = λ s tokens x e. subst (Takes (change f) s tokens) (from_ok ((f s).0, (f s).1, tokens) x e) (record { used = []; parts = refl; again = λ rest begin. refl });
    stops = λ s tokens e k. absurd cc;
  }

  -- ---- choices

  pub choose_steady : (b : Bool) (p q : Rule S A) → Steady p → Steady q → Steady (choose b p q)
  choose_steady true p q h k = h
  choose_steady false p q h k = k

  module _ (f : Token → Bool) (p q : Rule S A) (h : Steady p) (k : Steady q) where
    next_takes : (s : S) (tokens : List Token) (x : A × S × List Token) (b : Bool) → next_is f tokens ≡ b → (choose b p q).read s tokens ≡ Ok x → Takes (if_next f p q) s tokens x
    next_takes s tokens x b is e =
        let t = (choose_steady b p q h k).takes s tokens x e in
        record { used = t.used; parts = t.parts; again = λ rest begin. again t.used t.parts rest begin (t.again rest begin) }
      where
        again : (used : List Token) → tokens ≡ used ++ x.2 → (rest : List Token) → BeginAlike x.2 rest → (choose b p q).read s (used ++ rest) ≡ Ok (x.0, x.1, rest) → (if_next f p q).read s (used ++ rest) ≡ Ok (x.0, x.1, rest)
        again used parts rest begin r =
            let test : next_is f (used ++ rest) ≡ b = sym (same_test f (used ++ x.2) (used ++ rest) (begin_behind used x.2 rest begin)) ∙ ap (next_is f) (sym parts) ∙ is in
            subst (λ (c : Bool). (choose c p q).read s (used ++ rest) ≡ Ok (x.0, x.1, rest)) (sym test) r

    next_stops : (s : S) (tokens : List Token) (e : Stopped) (b : Bool) → next_is f tokens ≡ b → (choose b p q).read s tokens ≡ Err e → Stops (if_next f p q) s tokens e
    next_stops s tokens e b is l = go ((choose_steady b p q h k).stops s tokens e l)
      where
        again : (before : List Token) (token : Token) (more rest other : List Token) → tokens ≡ before ++ (token ∷ (more ++ rest)) → (choose b p q).read s (before ++ (token ∷ (more ++ other))) ≡ Err e → (if_next f p q).read s (before ++ (token ∷ (more ++ other))) ≡ Err e
        again before token more rest other parts r =
            let test : next_is f (before ++ (token ∷ (more ++ other))) ≡ b = same_test f (before ++ (token ∷ (more ++ other))) (before ++ (token ∷ (more ++ rest))) (begin_part before token (more ++ other) (more ++ rest)) ∙ ap (next_is f) (sym parts) ∙ is in
            subst (λ (c : Bool). (choose c p q).read s (before ++ (token ∷ (more ++ other))) ≡ Err e) (sym test) r

        go : Stops (choose b p q) s tokens e → Stops (if_next f p q) s tokens e
        go (inl n) = inl n
        go (inr r) = inr (record { before = r.before; token = r.token; more = r.more; rest = r.rest; parts = r.parts; at = r.at; part = r.part; again = λ other. again r.before r.token r.more r.rest other r.parts (r.again other) })

    pub if_next_steady : Steady (if_next f p q)
    if_next_steady = record { takes = λ s tokens x e. next_takes s tokens x (next_is f tokens) refl e; stops = λ s tokens e l. next_stops s tokens e (next_is f tokens) refl l }

  -- ---- a rule without a state among rules with one

  lift_takes : (p : Rule (Unit {0}) A) (s : S) (tokens : List Token) (r : Result (A × Unit {0} × List Token) Stopped) (x : A × S × List Token)
      → ((y : A × Unit {0} × List Token) → r ≡ Ok y → Takes p tt tokens y) → lift_value s r ≡ Ok x → Takes (lift p) s tokens x
  lift_takes p s tokens (Ok y) x h e =
      let t = h y refl in
      subst (Takes (lift p) s tokens) (from_ok (y.0, s, y.2) x e) (record { used = t.used; parts = t.parts; again = λ rest begin. rw (t.again rest begin) refl })
  lift_takes p s tokens (Err d) x h e = absurd cc

  lift_stops : (p : Rule (Unit {0}) A) (s : S) (tokens : List Token) (r : Result (A × Unit {0} × List Token) Stopped) (e : Stopped)
      → ((d : Stopped) → r ≡ Err d → Stops p tt tokens d) → lift_value s r ≡ Err e → Stops (lift p) s tokens e
  lift_stops p s tokens (Ok y) e h k = absurd cc
  lift_stops p s tokens (Err d) e h k = subst (Stops (lift p) s tokens) (from_err {A = A × S × List Token} d e k) (go (h d refl))
    where
      go : Stops p tt tokens d → Stops (lift p) s tokens d
      go (inl n) = inl n
      go (inr r) = inr (record { before = r.before; token = r.token; more = r.more; rest = r.rest; parts = r.parts; at = r.at; part = r.part; again = λ other. rw (r.again other) refl })

  pub lift_steady : (p : Rule (Unit {0}) A) → Steady p → Steady {S = S} (lift p)
  lift_steady p h = record {
    takes = λ s tokens x e. lift_takes p s tokens (p.read tt tokens) x (λ y. h.takes tt tokens y) e;
    stops = λ s tokens e l. lift_stops p s tokens (p.read tt tokens) e (λ d. h.stops tt tokens d) l;
  }

module _ {S A B : Type 0} where
  -- ---- one after the other

  module _ (p : Rule S A) (q : A → Rule S B) (h : Steady p) (k : (a : A) → Steady (q a)) where
    pub then_takes : (s : S) (tokens : List Token) (x : B × S × List Token) → (p >>= q).read s tokens ≡ Ok x → Takes (p >>= q) s tokens x
    then_takes s tokens x e =
        let r = after_ok (p.read s tokens) (λ y. (q y.0).read y.1 y.2) x e in
        let t = h.takes s tokens r.0 r.1 in
        let u = (k r.0.0).takes r.0.1 r.0.2 x r.2 in
        record {
          used = t.used ++ u.used;
          parts = t.parts ∙ ap (λ (l : List Token). t.used ++ l) u.parts ∙ sym (append_assoc t.used u.used x.2);
          again = λ rest begin. again r.0.0 r.0.1 t.used u.used rest (t.again (u.used ++ rest) (subst (λ (l : List Token). BeginAlike l (u.used ++ rest)) (sym u.parts) (begin_behind u.used x.2 rest begin))) (u.again rest begin);
        }
      where
        again : (a : A) (between : S) (used back rest : List Token) → p.read s (used ++ (back ++ rest)) ≡ Ok (a, between, back ++ rest) → (q a).read between (back ++ rest) ≡ Ok (x.0, x.1, rest) → (p >>= q).read s ((used ++ back) ++ rest) ≡ Ok (x.0, x.1, rest)
        again a between used back rest front behind = rw (append_assoc used back rest, front) behind

    pub then_stops : (s : S) (tokens : List Token) (e : Stopped) → (p >>= q).read s tokens ≡ Err e → Stops (p >>= q) s tokens e
    then_stops s tokens e l = go (after_err (p.read s tokens) (λ y. (q y.0).read y.1 y.2) e l)
      where
        first : Stops p s tokens e → Stops (p >>= q) s tokens e
        first (inl n) = inl n
        first (inr r) = inr (record { before = r.before; token = r.token; more = r.more; rest = r.rest; parts = r.parts; at = r.at; part = r.part; again = λ other. rw (r.again other) refl })

        behind : (a : A) (between : S) (used back : List Token) → tokens ≡ used ++ back → ((rest : List Token) → BeginAlike back rest → p.read s (used ++ rest) ≡ Ok (a, between, rest)) → Stops (q a) between back e → Stops (p >>= q) s tokens e
        behind a between used back parts front (inl n) = inl n
        behind a between used back parts front (inr r) = inr (record {
          before = used ++ r.before;
          token = r.token;
          more = r.more;
          rest = r.rest;
          parts = parts ∙ ap (λ (l : List Token). used ++ l) r.parts ∙ sym (append_assoc used r.before (r.token ∷ (r.more ++ r.rest)));
          at = r.at;
          part = r.part;
          again = λ other. again other (front (r.before ++ (r.token ∷ (r.more ++ other))) (subst (λ (l : List Token). BeginAlike l (r.before ++ (r.token ∷ (r.more ++ other)))) (sym r.parts) (begin_part r.before r.token (r.more ++ r.rest) (r.more ++ other)))) (r.again other);
        })
          where
            again : (other : List Token) → p.read s (used ++ (r.before ++ (r.token ∷ (r.more ++ other)))) ≡ Ok (a, between, r.before ++ (r.token ∷ (r.more ++ other))) → (q a).read between (r.before ++ (r.token ∷ (r.more ++ other))) ≡ Err e
                → (p >>= q).read s ((used ++ r.before) ++ (r.token ∷ (r.more ++ other))) ≡ Err e
            again other front last = rw (append_assoc used r.before (r.token ∷ (r.more ++ other)), front) last

        go : (p.read s tokens ≡ Err e) ⊎ ((y : A × S × List Token) × (p.read s tokens ≡ Ok y) × ((q y.0).read y.1 y.2 ≡ Err e)) → Stops (p >>= q) s tokens e
        go (inl r) = first (h.stops s tokens e r)
        go (inr r) = let t = h.takes s tokens r.0 r.1 in behind r.0.0 r.0.1 t.used r.0.2 t.parts t.again ((k r.0.0).stops r.0.1 r.0.2 e r.2)

    pub then_steady : Steady (p >>= q)
    then_steady = record { takes = then_takes; stops = then_stops }

  -- ---- a value that has to pass

  module _ (p : Rule S A) (f : A → Result B Flaw) (l : Good none p) (h : Steady p) (whole : (s t : S) (token : Token) (more : List Token) (a : A) → p.means s (token ∷ more) a t → IsPart token more) where
    judged_takes : (s : S) (tokens : List Token) (y : A × S × List Token) (r : Result B Flaw) (x : B × S × List Token) → f y.0 ≡ r → Takes p s tokens y → judged tokens r y ≡ Ok x → Takes (checked p f) s tokens x
    judged_takes s tokens y (Ok b) x is t e =
        subst (Takes (checked p f) s tokens) (from_ok (b, y.1, y.2) x e) (record { used = t.used; parts = t.parts; again = λ rest begin. rw (t.again rest begin, is) refl })
    judged_takes s tokens y (Err flaw) x is t e = absurd cc

    -- the fault of a value stands at the first token that it was read from, or at the next one where it was read from none
    judged_stops : (s : S) (tokens : List Token) (y : A × S × List Token) (r : Result B Flaw) (e : Stopped) → f y.0 ≡ r → (used : List Token) → tokens ≡ used ++ y.2 → p.means s used y.0 y.1 → judged tokens r y ≡ Err e → Stops (checked p f) s tokens e
    judged_stops s tokens y (Ok b) e is used parts m k = absurd cc
    judged_stops s tokens y (Err flaw) e is used parts m k =
        subst (Stops (checked p f) s tokens) (from_err {A = B × S × List Token} (fault flaw tokens) e k) (subst (λ (all : List Token). Stops (checked p f) s all (fault flaw all)) (sym parts) (at used y.2 m))
      where
        read : (front rest : List Token) → p.means s front y.0 y.1 → p.read s (front ++ rest) ≡ Ok (y.0, y.1, rest)
        read front rest m = l.only s y.1 front rest y.0 m (avoids_none rest)

        at : (front rest : List Token) → p.means s front y.0 y.1 → Stops (checked p f) s (front ++ rest) (fault flaw (front ++ rest))
        at [] [] m = inl refl
        at [] (t ∷ ts) m = inr (record { before = []; token = t; more = []; rest = ts; parts = refl; at = refl; part = inl refl; again = λ other. rw (read [] (t ∷ other) m, is) refl })
        at (t ∷ front) rest m = inr (record { before = []; token = t; more = front; rest = rest; parts = refl; at = refl; part = whole s y.1 t front y.0 m; again = λ other. rw (read (t ∷ front) other m, is) refl })

    checked_stops : (s : S) (tokens : List Token) (e : Stopped) → (checked p f).read s tokens ≡ Err e → Stops (checked p f) s tokens e
    checked_stops s tokens e k = go (after_err (p.read s tokens) (λ y. judged tokens (f y.0) y) e k)
      where
        first : Stops p s tokens e → Stops (checked p f) s tokens e
        first (inl n) = inl n
        first (inr r) = inr (record { before = r.before; token = r.token; more = r.more; rest = r.rest; parts = r.parts; at = r.at; part = r.part; again = λ other. rw (r.again other) refl })

        go : (p.read s tokens ≡ Err e) ⊎ ((y : A × S × List Token) × (p.read s tokens ≡ Ok y) × (judged tokens (f y.0) y ≡ Err e)) → Stops (checked p f) s tokens e
        go (inl r) = first (h.stops s tokens e r)
        go (inr r) = let t = l.found s tokens r.0 r.1 in judged_stops s tokens r.0 (f r.0.0) e refl t.used t.parts t.meant r.2

    pub checked_steady : Steady (checked p f)
    checked_steady = record {
      takes = λ s tokens x e.
          let r = after_ok (p.read s tokens) (λ y. judged tokens (f y.0) y) x e in
          judged_takes s tokens r.0 (f r.0.0) x refl (h.takes s tokens r.0 r.1) r.2;
      stops = checked_stops;
    }

-- ---- rules that take a token

-- what is left is no longer than the tokens
pub not_longer : {S A : Type 0} (p : Rule S A) → Steady p → (s : S) (tokens : List Token) (x : A × S × List Token) → p.read s tokens ≡ Ok x → length x.2 ≤ length tokens
not_longer p h s tokens x e = let t = h.takes s tokens x e in omega (arith, ap length t.parts, length-append t.used x.2)

module _ {S A : Type 0} where
  one_less : (f : S → Token → Result (A × S) Flaw) (s : S) (tokens : List Token) (x : A × S × List Token) → (one f).read s tokens ≡ Ok x → length x.2 < length tokens
  one_less f s [] x e = absurd cc
  one_less f s (t ∷ ts) x e = go (f s t) e
    where
      go : (r : Result (A × S) Flaw) → one_value r t ts ≡ Ok x → length x.2 < suc (length ts)
      go (Ok y) k = let same : length ts ≡ length x.2 = ap (λ (z : A × S × List Token). length z.2) (from_ok (y.0, y.1, ts) x k) in omega (arith, same)
      go (Err flaw) k = absurd cc

  pub one_eats : (f : S → Token → Result (A × S) Flaw) → Eats (one f)
  one_eats f = record { less = one_less f }

  pub plain_eats : (f : Token → Result A Flaw) → Eats {S = S} (plain f)
  plain_eats f = one_eats (λ s t. keeping s (f t))

  pub if_next_eats : (f : Token → Bool) (p q : Rule S A) → Eats p → Eats q → Eats (if_next f p q)
  if_next_eats f p q h k = record { less = λ s tokens x e. go s tokens x (next_is f tokens) e }
    where
      go : (s : S) (tokens : List Token) (x : A × S × List Token) (b : Bool) → (choose b p q).read s tokens ≡ Ok x → length x.2 < length tokens
      go s tokens x true l = h.less s tokens x l
      go s tokens x false l = k.less s tokens x l

  pub lift_eats : (p : Rule (Unit {0}) A) → Eats p → Eats {S = S} (lift p)
  lift_eats p h = record { less = λ s tokens x e. go s tokens x (p.read tt tokens) refl e }
    where
      go : (s : S) (tokens : List Token) (x : A × S × List Token) (r : Result (A × Unit {0} × List Token) Stopped) → p.read tt tokens ≡ r → lift_value s r ≡ Ok x → length x.2 < length tokens
      go s tokens x (Ok y) is k = let less : length y.2 < length tokens = h.less tt tokens y is in let same : length y.2 ≡ length x.2 = ap (λ (z : A × S × List Token). length z.2) (from_ok (y.0, s, y.2) x k) in omega (arith, less, same)
      go s tokens x (Err d) is k = absurd cc

module _ {S A B : Type 0} where
  pub then_eats : (p : Rule S A) (q : A → Rule S B) → Eats p → ((a : A) → Steady (q a)) → Eats (p >>= q)
  then_eats p q h k = record {
    less = λ s tokens x e.
        let r = after_ok (p.read s tokens) (λ y. (q y.0).read y.1 y.2) x e in
        let less : length r.0.2 < length tokens = h.less s tokens r.0 r.1 in
        let rest : length x.2 ≤ length r.0.2 = not_longer (q r.0.0) (k r.0.0) r.0.1 r.0.2 x r.2 in
        omega (arith, less, rest);
  }

  pub checked_eats : (p : Rule S A) (f : A → Result B Flaw) → Eats p → Eats (checked p f)
  checked_eats p f h = record {
    less = λ s tokens x e.
        let r = after_ok (p.read s tokens) (λ y. judged tokens (f y.0) y) x e in
        go s tokens x (f r.0.0) r.0 r.2 (h.less s tokens r.0 r.1);
  }
    where
      go : (s : S) (tokens : List Token) (x : B × S × List Token) (v : Result B Flaw) (y : A × S × List Token) → judged tokens v y ≡ Ok x → length y.2 < length tokens → length x.2 < length tokens
      go s tokens x (Ok b) y k less = let same : length y.2 ≡ length x.2 = ap (λ (z : B × S × List Token). length z.2) (from_ok (b, y.1, y.2) x k) in omega (arith, less, same)
      go s tokens x (Err flaw) y k less = absurd cc
