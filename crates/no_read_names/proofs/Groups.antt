-- What brackets with anything between them do to the scan.
use Rattle.std.proofs.Common.{◌≡◌, ℕ, suc, zero, ◌+◌, ◌-◌, Bool, true, false, ◌&&◌, ◌==◌, List, [], ◌∷◌, bytes_eq, codes, if◌then◌else◌, refl, sym, ap, subst, ◌∙◌, arith}
use Rattle.std.proofs.Math.Dec.{eqb-suc-zero}
use Rattle.std.proofs.lemmas.Bool.{eqb-true}
use Rattle.no_lex.specs.declared.token.Token.{Token}
use Rattle.no_lex.specs.declared.token.TokenKind.{TokenKind}
use Rattle.no_lex.specs.declared.token.TokenKind.TheVariants as kind
use Rattle.no_read_rules.specs.Spelled.{kind_number, spelled, is_sign}
use Rattle.no_read_attributes.specs.Brackets.{is_last, closes}
use Rattle.no_read_symbols.specs.declared.standing.Bracket.{Bracket}
use Rattle.no_read_symbols.specs.declared.standing.Bracket.TheVariants as bracket
use Rattle.no_read_symbols.specs.declared.standing.Standing.{Standing}
use Rattle.no_read_symbols.specs.Scan.{bracket_by, bracket_of, rounds_after, braces_after, is_outer}
use Rattle.no_read_names.proofs.Marks.{a_sign_token}
use Rattle.no_read_names.proofs.Spots.{at, Round, flat, Leads, leads_then, Moves, behind_bracket, enclosed, inner, to, in_rounds, some, more, less}

-- ---- any brackets that are counted

module _ (text opener closer : List ℕ) (standing : ℕ → Standing)
    (up : (t : Token) (k : ℕ) → is_sign text opener t ≡ true → Leads text (t ∷ []) (standing (suc k)) (standing (suc (suc k))))
    (down : (t : Token) (k : ℕ) → is_sign text closer t ≡ true → Leads text (t ∷ []) (standing (suc k)) (standing k))
    (stay : (t : Token) (k : ℕ) → is_sign text opener t ≡ false → is_sign text closer t ≡ false → Leads text (t ∷ []) (standing (suc k)) (standing (suc k))) where
  last_one : (ts : List Token) → is_last ts ≡ true → ts ≡ []
  last_one [] e = refl
  last_one (t ∷ ts) e = absurd cc

  one_less : (n r : ℕ) → (n == 0) ≡ false → suc ((n - 1) + r) ≡ n + r
  one_less zero r e = absurd cc
  one_less (suc n) r e = omega arith

  none_left : (n r : ℕ) → n ≡ 0 → n + r ≡ r
  none_left n r e = omega (arith, e)

  one_more : (n r : ℕ) → suc (suc (n + r)) ≡ suc (suc n + r)
  one_more n r = omega arith

  pub close_leads : (used : List Token) (n r : ℕ) → closes text opener closer n used ≡ true → Leads text used (standing (suc (n + r))) (standing r)
  close_leads [] n r e = absurd cc
  close_leads (t ∷ ts) n r e = go (is_sign text opener t) (is_sign text closer t) (n == 0) refl refl refl e (close_leads ts)
    where
      go : (b c d : Bool) → is_sign text opener t ≡ b → is_sign text closer t ≡ c → (n == 0) ≡ d
          → (if b then closes text opener closer (suc n) ts else (if c then (if d then is_last ts else closes text opener closer (n - 1) ts) else closes text opener closer n ts)) ≡ true
          → ((k r : ℕ) → closes text opener closer k ts ≡ true → Leads text ts (standing (suc (k + r))) (standing r)) → Leads text (t ∷ ts) (standing (suc (n + r))) (standing r)
      go true c d p q z e rest = leads_then text (t ∷ []) ts (standing (suc (n + r))) (standing (suc (suc n + r))) (standing r)
          (subst (λ (x : ℕ). Leads text (t ∷ []) (standing (suc (n + r))) (standing x)) (one_more n r) (up t (n + r) p)) (rest (suc n) r e)
      go false true true p q z e rest = subst (λ (l : List Token). Leads text (t ∷ l) (standing (suc (n + r))) (standing r)) (sym (last_one ts e))
          (subst (λ (x : ℕ). Leads text (t ∷ []) (standing (suc (n + r))) (standing x)) (none_left n r (eqb-true n 0 z)) (down t (n + r) q))
      go false true false p q z e rest = leads_then text (t ∷ []) ts (standing (suc (n + r))) (standing (n + r)) (standing r) (down t (n + r) q)
          (subst (λ (x : ℕ). Leads text ts (standing x) (standing r)) (one_less n r z) (rest (n - 1) r e))
      go false false d p q z e rest = leads_then text (t ∷ []) ts (standing (suc (n + r))) (standing (suc (n + r))) (standing r) (stay t (n + r) p q) (rest n r e)

-- ---- other tokens are no such brackets

abbrev sign_is : TokenKind → List ℕ → List ℕ → Bool
sign_is k x w = kind_number k == 8 && bytes_eq x w

round_stays : (k : TokenKind) (x : List ℕ) (n : ℕ) → sign_is k x (codes "(") ≡ false → sign_is k x (codes ")") ≡ false → rounds_after (bracket_by k x) n ≡ n
round_stays kind.Sign x n p q = rw (p, q) (go (bytes_eq x (codes "{")) (bytes_eq x (codes "}")) (bytes_eq x (codes "[")) (bytes_eq x (codes "]")))
  where
    go : (b c d e : Bool) → rounds_after (if b then bracket.OpenBrace else (if c then bracket.CloseBrace else (if d then bracket.OpenSquare else (if e then bracket.CloseSquare else bracket.Other)))) n ≡ n
    go true c d e = refl
    go false true d e = refl
    go false false true e = refl
    go false false false true = refl
    go false false false false = refl
round_stays kind.Meta x n p q = go (bytes_eq x (codes "!"))
  where
    go : (b : Bool) → rounds_after (if b then bracket.Mark else bracket.Other) n ≡ n
    go true = refl
    go false = refl
round_stays kind.Word x n p q = refl
round_stays kind.Integer x n p q = refl
round_stays kind.Global x n p q = refl
round_stays kind.Local x n p q = refl
round_stays kind.Group x n p q = refl
round_stays kind.Quoted x n p q = refl
round_stays kind.CMark x n p q = refl
round_stays kind.Label x n p q = refl

brace_stays : (k : TokenKind) (x : List ℕ) (n : ℕ) → sign_is k x (codes "{") ≡ false → sign_is k x (codes "}") ≡ false → braces_after (bracket_by k x) n ≡ n
brace_stays kind.Sign x n p q = go (bytes_eq x (codes "(")) (bytes_eq x (codes ")")) (bytes_eq x (codes "{")) (bytes_eq x (codes "}")) (bytes_eq x (codes "[")) (bytes_eq x (codes "]")) p q
  where
    go : (b c d e f g : Bool) → d ≡ false → e ≡ false
        → braces_after (if b then bracket.OpenRound else (if c then bracket.CloseRound else (if d then bracket.OpenBrace else (if e then bracket.CloseBrace else (if f then bracket.OpenSquare else (if g then bracket.CloseSquare else bracket.Other)))))) n ≡ n
    go true c d e f g p q = refl
    go false true d e f g p q = refl
    go false false true e f g p q = absurd cc
    go false false false true f g p q = absurd cc
    go false false false false true g p q = refl
    go false false false false false true p q = refl
    go false false false false false false p q = refl
brace_stays kind.Meta x n p q = go (bytes_eq x (codes "!"))
  where
    go : (b : Bool) → braces_after (if b then bracket.Mark else bracket.Other) n ≡ n
    go true = refl
    go false = refl
brace_stays kind.Word x n p q = refl
brace_stays kind.Integer x n p q = refl
brace_stays kind.Global x n p q = refl
brace_stays kind.Local x n p q = refl
brace_stays kind.Group x n p q = refl
brace_stays kind.Quoted x n p q = refl
brace_stays kind.CMark x n p q = refl
brace_stays kind.Label x n p q = refl

module _ (text : List ℕ) where
  -- ---- parentheses

  module _ (d : ℕ) (w : Bool) where
    abbrev rounds : ℕ → Standing
    rounds n = at n d w

    round_step : (t : Token) (k n : ℕ) → rounds_after (bracket_of text t) (suc k) ≡ n → Leads text (t ∷ []) (rounds (suc k)) (rounds n)
    round_step t k n e = to text t (rounds (suc k)) (rounds n) (bracket_of text t) refl (enclosed text t (rounds (suc k)) (inner k d w)) (in_rounds (bracket_of text t) k d w ∙ ap rounds e)

    round_up : (t : Token) (k : ℕ) → is_sign text (codes "(") t ≡ true → Leads text (t ∷ []) (rounds (suc k)) (rounds (suc (suc k)))
    round_up t k e = round_step t k (suc (suc k)) (ap (λ (b : Bracket). rounds_after b (suc k)) (a_sign_token text (codes "(") t e).is_bracket ∙ more (suc k))

    round_down : (t : Token) (k : ℕ) → is_sign text (codes ")") t ≡ true → Leads text (t ∷ []) (rounds (suc k)) (rounds k)
    round_down t k e = round_step t k k (ap (λ (b : Bracket). rounds_after b (suc k)) (a_sign_token text (codes ")") t e).is_bracket ∙ less k)

    round_stay : (t : Token) (k : ℕ) → is_sign text (codes "(") t ≡ false → is_sign text (codes ")") t ≡ false → Leads text (t ∷ []) (rounds (suc k)) (rounds (suc k))
    round_stay t k p q = round_step t k (suc k) (round_stays t.kind (spelled text t) (suc k) p q)

    round_leads : (used : List Token) (r : ℕ) → closes text (codes "(") (codes ")") 0 used ≡ true → Leads text used (rounds (suc r)) (rounds r)
    round_leads used r e = subst (λ (x : ℕ). Leads text used (rounds (suc x)) (rounds r)) (none r) (close_leads text (codes "(") (codes ")") rounds round_up round_down round_stay used 0 r e)
      where
        none : (r : ℕ) → 0 + r ≡ r
        none r = omega arith

  -- behind an opening parenthesis, up to that which closes it
  pub close_moves : (used : List Token) → closes text (codes "(") (codes ")") 0 used ≡ true → Moves text (Round (λ d. d)) flat used
  close_moves used e = record { outside = λ d w. round_leads d w used 0 e; inside = λ n d w. round_leads d w used (suc n) e }

  -- ---- braces of metadata

  module _ (w : Bool) where
    abbrev pub braces : ℕ → Standing
    braces n = record { rounds = 0; braces = n; depth = 0; marked = false; awaits = w }

    nested : (k : ℕ) → is_outer (braces (suc k)) ≡ false
    nested k = rw (eqb-suc-zero k) refl

    in_braces : (b : Bracket) (k : ℕ) → behind_bracket b (braces (suc k)) ≡ braces (braces_after b (suc k))
    in_braces b k = rw (some k) refl

    brace_step : (t : Token) (k n : ℕ) → braces_after (bracket_of text t) (suc k) ≡ n → Leads text (t ∷ []) (braces (suc k)) (braces n)
    brace_step t k n e = to text t (braces (suc k)) (braces n) (bracket_of text t) refl (enclosed text t (braces (suc k)) (nested k)) (in_braces (bracket_of text t) k ∙ ap braces e)

    brace_up : (t : Token) (k : ℕ) → is_sign text (codes "{") t ≡ true → Leads text (t ∷ []) (braces (suc k)) (braces (suc (suc k)))
    brace_up t k e = brace_step t k (suc (suc k)) (ap (λ (b : Bracket). braces_after b (suc k)) (a_sign_token text (codes "{") t e).is_bracket ∙ more (suc k))

    brace_down : (t : Token) (k : ℕ) → is_sign text (codes "}") t ≡ true → Leads text (t ∷ []) (braces (suc k)) (braces k)
    brace_down t k e = brace_step t k k (ap (λ (b : Bracket). braces_after b (suc k)) (a_sign_token text (codes "}") t e).is_bracket ∙ less k)

    brace_stay : (t : Token) (k : ℕ) → is_sign text (codes "{") t ≡ false → is_sign text (codes "}") t ≡ false → Leads text (t ∷ []) (braces (suc k)) (braces (suc k))
    brace_stay t k p q = brace_step t k (suc k) (brace_stays t.kind (spelled text t) (suc k) p q)

    pub brace_leads : (used : List Token) → closes text (codes "{") (codes "}") 0 used ≡ true → Leads text used (braces 1) (braces 0)
    brace_leads used e = close_leads text (codes "{") (codes "}") braces brace_up brace_down brace_stay used 0 0 e
