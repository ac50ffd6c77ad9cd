-- Where the scan stands, and what tokens do to it.
use Rattle.std.proofs.Common.{◌≡◌, ℕ, suc, ◌+◌, ◌-◌, Bool, true, false, nat_lt, List, [], ◌∷◌, ◌++◌, refl, ap, subst, ◌∙◌, append_assoc, arith}
use Rattle.std.proofs.Math.Dec.{eqb-suc-zero}
use Rattle.std.proofs.lemmas.Bool.{lt-ltb}
use Rattle.no_lex.specs.declared.token.Token.{Token}
use Rattle.no_lex.specs.declared.token.TokenKind.TheVariants as kind
use Rattle.no_read_rules.specs.Spelled.{is_kind}
use Rattle.no_read_symbols.specs.declared.standing.Bracket.{Bracket}
use Rattle.no_read_symbols.specs.declared.standing.Bracket.TheVariants as bracket
use Rattle.no_read_symbols.specs.declared.standing.Standing.{Standing}
use Rattle.no_read_symbols.specs.declared.symbols.Symbols.{Symbols}
use Rattle.no_read_symbols.specs.Scan.{bracket_of, rounds_after, moved, is_outer, begins_function, symbols_from}

-- so many open parentheses and other brackets, no metadata, and whether a function's name is awaited
abbrev pub at : ℕ → ℕ → Bool → Standing
at r d w = record { rounds = r; braces = 0; depth = d; marked = false; awaits = w }

-- a token that names nothing, wherever it stands, and the bracket that it is
pub record IsToken (text : List ℕ) (t : Token) (b : Bracket) : Type 0 where
  pub no_global : is_kind kind.Global t ≡ false
  pub no_function : begins_function text t ≡ false
  pub is_bracket : bracket_of text t ≡ b

-- the open brackets of the scan, as far as tokens lead from some to others: outside parentheses, where brackets of other kinds
-- count, or inside some
pub data Spot : Type 0 where
  Here : (depth : ℕ → ℕ) → Spot
  Round : (depth : ℕ → ℕ) → Spot

abbrev pub rounds_at : Spot → ℕ → ℕ
rounds_at (Here k) n = n
rounds_at (Round k) n = suc n

abbrev pub depth_at : Spot → ℕ → ℕ
depth_at (Here k) d = k d
depth_at (Round k) d = k d

-- at the outer level or inside any brackets, and inside some
abbrev pub flat : Spot
flat = Here (λ d. d)

abbrev pub deep : Spot
deep = Here (λ d. suc d)

-- inside one bracket more
abbrev pub sunk : Spot → Spot
sunk (Here k) = Here (λ d. suc (k d))
sunk (Round k) = Round k

-- ---- standings

-- where a bracket leads
abbrev pub behind_bracket : Bracket → Standing → Standing
behind_bracket b s = record (moved b s) { awaits = s.awaits }

-- inside parentheses, and inside other brackets
pub inner : (n d : ℕ) (w : Bool) → is_outer (at (suc n) d w) ≡ false
inner n d w = rw (eqb-suc-zero n) refl

below : (d : ℕ) (w : Bool) → is_outer (at 0 (suc d) w) ≡ false
below d w = rw (eqb-suc-zero d) refl

pub some : (n : ℕ) → nat_lt 0 (suc n) ≡ true
some n = lt-ltb 0 (suc n) (omega arith)

pub in_rounds : (b : Bracket) (n d : ℕ) (w : Bool) → behind_bracket b (at (suc n) d w) ≡ at (rounds_after b (suc n)) d w
in_rounds b n d w = rw (some n) refl

pub more : (n : ℕ) → n + 1 ≡ suc n
more n = omega arith

pub less : (n : ℕ) → suc n - 1 ≡ n
less n = omega arith

module _ (text : List ℕ) where
  -- the tokens lead from one standing to another and name nothing, whatever follows them
  abbrev pub Leads : List Token → Standing → Standing → Type 0
  Leads used s t = (rest : List Token) (y : Symbols) → symbols_from text (used ++ rest) s y ≡ symbols_from text rest t y

  pub leads_then : (u v : List Token) (a b c : Standing) → Leads u a b → Leads v b c → Leads (u ++ v) a c
  leads_then u v a b c p q = λ rest y. ap (λ (l : List Token). symbols_from text l a y) (append_assoc u v rest) ∙ p (v ++ rest) y ∙ q rest y

  -- the tokens lead from these open brackets to those, inside any further ones
  pub record Moves (a b : Spot) (used : List Token) : Type 0 where
    pub outside : (d : ℕ) (w : Bool) → Leads used (at (rounds_at a 0) (depth_at a d) w) (at (rounds_at b 0) (depth_at b d) w)
    pub inside : (n d : ℕ) (w : Bool) → Leads used (at (rounds_at a (suc n)) d w) (at (rounds_at b (suc n)) d w)

  pub moves_none : (a : Spot) → Moves a a []
  moves_none a = record { outside = λ d w rest y. refl; inside = λ n d w rest y. refl }

  pub moves_then : (u v : List Token) (a b c : Spot) → Moves a b u → Moves b c v → Moves a c (u ++ v)
  moves_then u v a b c p q = record {
    outside = λ d w. leads_then u v (at (rounds_at a 0) (depth_at a d) w) (at (rounds_at b 0) (depth_at b d) w) (at (rounds_at c 0) (depth_at c d) w) (p.outside d w) (q.outside d w);
    inside = λ n d w. leads_then u v (at (rounds_at a (suc n)) d w) (at (rounds_at b (suc n)) d w) (at (rounds_at c (suc n)) d w) (p.inside n d w) (q.inside n d w);
  }

  -- the same inside more brackets
  pub moves_anywhere : (a : Spot) (used : List Token) → Moves flat flat used → Moves a a used
  moves_anywhere (Here k) used p = record { outside = λ d w. p.outside (k d) w; inside = λ n d w. p.inside n d w }
  moves_anywhere (Round k) used p = record { outside = λ d w. p.inside 0 (k d) w; inside = λ n d w. p.inside (suc n) d w }

  pub moves_sunk : (a : Spot) (used : List Token) → Moves deep deep used → Moves (sunk a) (sunk a) used
  moves_sunk (Here k) used p = record { outside = λ d w. p.outside (k d) w; inside = λ n d w. p.inside n d w }
  moves_sunk (Round k) used p = record { outside = λ d w. p.inside 0 (k d) w; inside = λ n d w. p.inside (suc n) d w }

  -- ---- one token

  abbrev pub behind_token : Token → Standing → Standing
  behind_token t s = record (moved (bracket_of text t) s) { awaits = s.awaits }

  pub enclosed : (t : Token) (s : Standing) → is_outer s ≡ false → Leads (t ∷ []) s (behind_token t s)
  enclosed t s e = λ rest y. go rest y
    where
      go : (rest : List Token) (y : Symbols) → symbols_from text (t ∷ rest) s y ≡ symbols_from text rest (behind_token t s) y
      go rest y = rw e refl

  pub mild : (t : Token) (s : Standing) → is_kind kind.Global t ≡ false → begins_function text t ≡ false → Leads (t ∷ []) s (behind_token t s)
  mild t s g f = λ rest y. go rest y (is_outer s) refl
    where
      go : (rest : List Token) (y : Symbols) (b : Bool) → is_outer s ≡ b → symbols_from text (t ∷ rest) s y ≡ symbols_from text rest (behind_token t s) y
      go rest y true e = rw (e, g, f) refl
      go rest y false e = rw e refl

  -- where a token leads, by its bracket
  pub to : (t : Token) (s u : Standing) (b : Bracket) → bracket_of text t ≡ b → Leads (t ∷ []) s (behind_token t s) → behind_bracket b s ≡ u → Leads (t ∷ []) s u
  to t s u b e l same = subst (λ (x : Standing). Leads (t ∷ []) s x) same (subst (λ (c : Bracket). Leads (t ∷ []) s (behind_bracket c s)) e l)

  moves_by : (a b : Spot) (t : Token) (c : Bracket) → IsToken text t c
      → ((d : ℕ) (w : Bool) → behind_bracket c (at (rounds_at a 0) (depth_at a d) w) ≡ at (rounds_at b 0) (depth_at b d) w)
      → ((n d : ℕ) (w : Bool) → behind_bracket c (at (rounds_at a (suc n)) d w) ≡ at (rounds_at b (suc n)) d w) → Moves a b (t ∷ [])
  moves_by a b t c k out in' = record {
    outside = λ d w. to t (at (rounds_at a 0) (depth_at a d) w) (at (rounds_at b 0) (depth_at b d) w) c k.is_bracket (mild t (at (rounds_at a 0) (depth_at a d) w) k.no_global k.no_function) (out d w);
    inside = λ n d w. to t (at (rounds_at a (suc n)) d w) (at (rounds_at b (suc n)) d w) c k.is_bracket (mild t (at (rounds_at a (suc n)) d w) k.no_global k.no_function) (in' n d w);
  }

  pub other_moves : (t : Token) → IsToken text t bracket.Other → Moves flat flat (t ∷ [])
  other_moves t k = moves_by flat flat t bracket.Other k (λ d w. refl) (λ n d w. in_rounds bracket.Other n d w)

  -- any token that is no bracket, where brackets are open
  pub deep_moves : (t : Token) → bracket_of text t ≡ bracket.Other → Moves deep deep (t ∷ [])
  deep_moves t e = record {
    outside = λ d w. to t (at 0 (suc d) w) (at 0 (suc d) w) bracket.Other e (enclosed t (at 0 (suc d) w) (below d w)) refl;
    inside = λ n d w. to t (at (suc n) d w) (at (suc n) d w) bracket.Other e (enclosed t (at (suc n) d w) (inner n d w)) (in_rounds bracket.Other n d w);
  }

  pub square_opens : (k : ℕ → ℕ) (t : Token) → IsToken text t bracket.OpenSquare → Moves (Here k) (Here (λ d. suc (k d))) (t ∷ [])
  square_opens k t i = moves_by (Here k) (Here (λ d. suc (k d))) t bracket.OpenSquare i (λ d w. ap (λ (x : ℕ). at 0 x w) (more (k d))) (λ n d w. in_rounds bracket.OpenSquare n d w)

  pub brace_opens : (k : ℕ → ℕ) (t : Token) → IsToken text t bracket.OpenBrace → Moves (Here k) (Here (λ d. suc (k d))) (t ∷ [])
  brace_opens k t i = moves_by (Here k) (Here (λ d. suc (k d))) t bracket.OpenBrace i (λ d w. ap (λ (x : ℕ). at 0 x w) (more (k d))) (λ n d w. in_rounds bracket.OpenBrace n d w)

  pub square_closes : (k : ℕ → ℕ) (t : Token) → IsToken text t bracket.CloseSquare → Moves (Here (λ d. suc (k d))) (Here k) (t ∷ [])
  square_closes k t i = moves_by (Here (λ d. suc (k d))) (Here k) t bracket.CloseSquare i (λ d w. ap (λ (x : ℕ). at 0 x w) (less (k d))) (λ n d w. in_rounds bracket.CloseSquare n d w)

  pub brace_closes : (k : ℕ → ℕ) (t : Token) → IsToken text t bracket.CloseBrace → Moves (Here (λ d. suc (k d))) (Here k) (t ∷ [])
  brace_closes k t i = moves_by (Here (λ d. suc (k d))) (Here k) t bracket.CloseBrace i (λ d w. ap (λ (x : ℕ). at 0 x w) (less (k d))) (λ n d w. in_rounds bracket.CloseBrace n d w)

  pub round_opens : (k : ℕ → ℕ) (t : Token) → IsToken text t bracket.OpenRound → Moves (Here k) (Round k) (t ∷ [])
  round_opens k t i = moves_by (Here k) (Round k) t bracket.OpenRound i (λ d w. refl) (λ n d w. in_rounds bracket.OpenRound n d w ∙ ap (λ (x : ℕ). at x d w) (more (suc n)))

  pub round_closes : (k : ℕ → ℕ) (t : Token) → IsToken text t bracket.CloseRound → Moves (Round k) (Here k) (t ∷ [])
  round_closes k t i = moves_by (Round k) (Here k) t bracket.CloseRound i (λ d w. in_rounds bracket.CloseRound 0 (k d) w) (λ n d w. in_rounds bracket.CloseRound (suc n) d w ∙ ap (λ (x : ℕ). at x d w) (less (suc n)))
