-- What pieces spell by each way to make a rule.
use Rattle.std.proofs.Common.{append-nil, ◌≡◌, ℕ, Bool, true, false, List, [], ◌∷◌, ◌++◌, Result, Ok, inl, inr, refl, ap, subst, ◌∙◌}
use Rattle.no_lex.specs.declared.token.Token.{Token}
use Rattle.no_lex.specs.declared.token.TokenKind.{TokenKind}
use Rattle.no_read_rules.specs.declared.fault.Flaw.{Flaw}
use Rattle.no_read_rules.specs.Rules.{Rule, one, keeping, plain, done, ◌>>=◌, lift, if_next, checked}
use Rattle.no_read_rules.specs.Spelled.{spelled}
use Rattle.no_print.specs.Pieces.{Piece}
use Rattle.no_print.specs.Stand.{IsPiece}
use Rattle.no_round_trip.specs.Spells.{Spells}
use Rattle.no_round_trip.proofs.RuleStanding.{stand_parts, stand_none, stand_one, Begins}

okay : {A : Type 0} → A → Result A Flaw
okay x = Ok x

module _ {S A : Type 0} (text : List ℕ) where
  -- ---- one token

  pub one_spells : (f : S → Token → Result (A × S) Flaw) (s : S) (p : Piece) (a : A) (t : S) → ((token : Token) → IsPiece text token p → f s token ≡ Ok (a, t)) → Spells text (one f) s (p ∷ []) a t
  one_spells f s p a t h tokens stand = let r = stand_one text tokens p stand in record { token = r.token; alone = r.alone; value = h r.token r.is }

  -- a test of a token's kind and bytes
  pub plain_spells : (f : TokenKind → List ℕ → Result A Flaw) (s : S) (p : Piece) (a : A) → f p.kind p.bytes ≡ Ok a → Spells text (plain (λ token. f token.kind (spelled text token))) s (p ∷ []) a s
  plain_spells f s p a e = one_spells (λ s token. keeping s (f token.kind (spelled text token))) s p a s (λ token h.
      ap (λ k. keeping s (f k (spelled text token))) h.kind ∙ ap (λ bytes. keeping s (f p.kind bytes)) h.bytes ∙ ap (keeping s) e)

  -- ---- no token

  pub done_spells : (s : S) (a : A) → Spells text (done a) s [] a s
  done_spells s a tokens stand = (stand_none text tokens stand, refl, refl)

  -- ---- a rule in other places

  pub lift_spells : (p : Rule (Unit {0}) A) (s : S) (pieces : List Piece) (a : A) → Spells text p tt pieces a tt → Spells text (lift p) s pieces a s
  lift_spells p s pieces a h tokens stand = (h tokens stand, refl)

  -- ---- choices

  pub yes_spells : (test : Token → Bool) (p q : Rule S A) (s : S) (pieces : List Piece) (a : A) (t : S) → Begins text test true pieces → Spells text p s pieces a t → Spells text (if_next test p q) s pieces a t
  yes_spells test p q s pieces a t b h tokens stand = inl (b tokens stand, h tokens stand)

  pub no_spells : (test : Token → Bool) (p q : Rule S A) (s : S) (pieces : List Piece) (a : A) (t : S) → Begins text test false pieces → Spells text q s pieces a t → Spells text (if_next test p q) s pieces a t
  no_spells test p q s pieces a t b h tokens stand = inr (b tokens stand, h tokens stand)

module _ {S A B : Type 0} (text : List ℕ) where
  pub then_spells : (p : Rule S A) (q : A → Rule S B) (s u t : S) (front back : List Piece) (a : A) (b : B)
      → Spells text p s front a u → Spells text (q a) u back b t → Spells text (p >>= q) s (front ++ back) b t
  then_spells p q s u t front back a b x y tokens stand =
      let r = stand_parts text tokens front back stand in
      record { front = r.front; back = r.back; first = a; between = u; parts = r.parts; in_front = x r.front r.in_front; in_back = y r.back r.in_back }

  pub checked_spells : (p : Rule S A) (f : A → Result B Flaw) (s t : S) (pieces : List Piece) (a : A) (b : B) → Spells text p s pieces a t → f a ≡ Ok b → Spells text (checked p f) s pieces b t
  checked_spells p f s t pieces a b h e tokens stand = record { value = a; read = h tokens stand; passes = e }

  -- a rule and a value made of what it gives
  pub made_spells : (p : Rule S A) (f : A → B) (s t : S) (pieces : List Piece) (a : A) → Spells text p s pieces a t → Spells text (p >>= λ x. done (f x)) s pieces (f a) t
  made_spells p f s t pieces a h = subst (λ l. Spells text (p >>= λ x. done (f x)) s l (f a) t) (append-nil pieces) (then_spells p (λ x. done (f x)) s t t pieces [] a (f a) h (done_spells text t (f a)))
