-- The laws of what stands between two brackets.
use Rattle.std.proofs.Common.{◌≡◌, ℕ, suc, ◌+◌, ◌-◌, Bool, true, false, List, [], ◌∷◌, ◌++◌, ◌==◌, Result, Ok, Err, if◌then◌else◌, refl, sym, ap, subst, ◌∙◌, arith}
use Rattle.no_lex.specs.declared.token.Token.{Token}
use Rattle.no_read_rules.specs.declared.fault.Stopped.{Stopped}
use Rattle.no_read_rules.specs.declared.fault.Flaw.TheVariants.{Syntax}
use Rattle.no_read_rules.specs.Rules.{fault, Found, none, Good, IsSolid}
use Rattle.no_read_rules.specs.Spelled.{is_sign}
use Rattle.no_read_rules.proofs.Laws.{from_ok, plain_good, plain_solid, then_good, first_solid}
use Rattle.no_read_attributes.specs.Brackets.{is_last, closes, behind_close, gone, to_close, bracketed}

module _ (text opener closer : List ℕ) where
  abbrev Closed : ℕ → List Token → List Token → Type 0
  Closed n tokens rest = (used : List Token) × (tokens ≡ used ++ rest) × (closes text opener closer n used ≡ true)

  close_found : (n : ℕ) (tokens rest : List Token) → behind_close text opener closer n tokens ≡ Ok rest → Closed n tokens rest
  close_found n [] rest e = absurd cc
  close_found n (t ∷ ts) rest e =
      let k = go (is_sign text opener t) (is_sign text closer t) (n == 0) e (λ m. close_found m ts rest) in
      (t ∷ k.0, ap (λ (l : List Token). t ∷ l) k.1, k.2)
    where
      go : (b c d : Bool) → (if b then behind_close text opener closer (suc n) ts else (if c then (if d then Ok ts else behind_close text opener closer (n - 1) ts) else behind_close text opener closer n ts)) ≡ Ok rest
          → ((m : ℕ) → behind_close text opener closer m ts ≡ Ok rest → Closed m ts rest)
          → (tail : List Token) × (ts ≡ tail ++ rest) × ((if b then closes text opener closer (suc n) tail else (if c then (if d then is_last tail else closes text opener closer (n - 1) tail) else closes text opener closer n tail)) ≡ true)
      go true c d e more = more (suc n) e
      go false true true e more = ([], from_ok ts rest e, refl)
      go false true false e more = more (n - 1) e
      go false false d e more = more n e

  close_only : (n : ℕ) (used rest : List Token) → closes text opener closer n used ≡ true → behind_close text opener closer n (used ++ rest) ≡ Ok rest
  close_only n [] rest m = absurd cc
  close_only n (t ∷ ts) rest m = go (is_sign text opener t) (is_sign text closer t) (n == 0) m (λ k. close_only k ts rest)
    where
      last : (us : List Token) → is_last us ≡ true → behind_close text opener closer 0 (t ∷ us) ≡ behind_close text opener closer 0 (t ∷ us) → us ++ rest ≡ rest
      last [] m e = refl
      last (u ∷ us) m e = absurd cc

      go : (b c d : Bool) → (if b then closes text opener closer (suc n) ts else (if c then (if d then is_last ts else closes text opener closer (n - 1) ts) else closes text opener closer n ts)) ≡ true
          → ((k : ℕ) → closes text opener closer k ts ≡ true → behind_close text opener closer k (ts ++ rest) ≡ Ok rest)
          → (if b then behind_close text opener closer (suc n) (ts ++ rest) else (if c then (if d then Ok (ts ++ rest) else behind_close text opener closer (n - 1) (ts ++ rest)) else behind_close text opener closer n (ts ++ rest))) ≡ Ok rest
      go true c d m more = more (suc n) m
      go false true true m more = ap (λ (l : List Token). Ok l) (last ts m refl)
      go false true false m more = more (n - 1) m
      go false false d m more = more n m

  module _ {S : Type 0} where
    gone_found : (s : S) (tokens : List Token) (r : Result (List Token) Stopped) (x : Unit {0} × S × List Token) → behind_close text opener closer 0 tokens ≡ r → gone s r ≡ Ok x → Found (to_close text opener closer) s tokens x
    gone_found s tokens (Ok rest) x is e = let k = close_found 0 tokens rest is in subst (Found (to_close text opener closer) s tokens) (from_ok (tt, s, rest) x e) (record { used = k.0; parts = k.1; meant = (k.2, refl, refl) })
    gone_found s tokens (Err d) x is e = absurd cc

    pub to_close_good : Good {S = S} none (to_close text opener closer)
    to_close_good = record {
      found = λ s tokens x e. gone_found s tokens (behind_close text opener closer 0 tokens) x refl e;
      only = λ s t used rest a m av. rw (close_only 0 used rest m.0, m.1, m.2) refl;
    }

    pub bracketed_good : Good {S = S} none (bracketed text opener closer)
    unfolding bracketed
    bracketed_good = then_good none _ _ (plain_good _) (λ _. to_close_good)

    pub bracketed_solid : IsSolid {S = S} (bracketed text opener closer)
    unfolding bracketed
    bracketed_solid = first_solid _ _ (plain_solid _)

-- ---- the loop

module _ (text opener closer : List ℕ) where
  abbrev left : ℕ → List Token → Result (List Token) Stopped
  left n tokens = behind_close text opener closer n tokens

  pub opens_more : (n k : ℕ) (tokens more : List Token) (t : Token) (total : Result (List Token) Stopped) → tokens ≡ t ∷ more → is_sign text opener t ≡ true → k ≡ n + 1 → left n tokens ≡ total → left k more ≡ total
  opens_more n k tokens more t total e is_open count so_far = let s : n + 1 ≡ suc n = omega arith in rw (count, s) (step ∙ so_far)
    where
      step : left (suc n) more ≡ left n tokens
      step = rw (e, is_open) refl

  pub closes_last : (n : ℕ) (tokens more : List Token) (t : Token) (total : Result (List Token) Stopped) → tokens ≡ t ∷ more → is_sign text opener t ≡ false → is_sign text closer t ≡ true → n ≡ 0 → left n tokens ≡ total → total ≡ Ok more
  closes_last n tokens more t total e not_open is_close last so_far = sym so_far ∙ (rw (e, not_open, is_close, last) refl)

  pub closes_one : (n k : ℕ) (tokens more : List Token) (t : Token) (total : Result (List Token) Stopped) → tokens ≡ t ∷ more → is_sign text opener t ≡ false → is_sign text closer t ≡ true → (n == 0) ≡ false → k ≡ n - 1 → left n tokens ≡ total → left k more ≡ total
  closes_one n k tokens more t total e not_open is_close deep count so_far = rw count (step ∙ so_far)
    where
      step : left (n - 1) more ≡ left n tokens
      step = rw (e, not_open, is_close, deep) refl

  pub passes : (n : ℕ) (tokens more : List Token) (t : Token) (total : Result (List Token) Stopped) → tokens ≡ t ∷ more → is_sign text opener t ≡ false → is_sign text closer t ≡ false → left n tokens ≡ total → left n more ≡ total
  passes n tokens more t total e not_open not_close so_far = step ∙ so_far
    where
      step : left n more ≡ left n tokens
      step = rw (e, not_open, not_close) refl

  pub runs_out : (n : ℕ) (tokens : List Token) (total : Result (List Token) Stopped) → tokens ≡ [] → left n tokens ≡ total → total ≡ Err (fault Syntax [])
  runs_out n tokens total e so_far = sym so_far ∙ (rw e refl)
