-- What the tokens of a rule do to the scan, for each way to make a rule.
use Rattle.std.proofs.Common.{◌≡◌, ℕ, suc, Bool, true, false, List, [], ◌∷◌, ◌++◌, bytes_eq, codes, if◌then◌else◌, Option, Some, None, Result, Ok, Err, inl, inr, refl, sym, ap, subst}
use Rattle.std.specs.List.{list_all}
use Rattle.no_lex.specs.declared.token.Token.{Token}
use Rattle.no_read_rules.specs.declared.fault.Flaw.{Flaw}
use Rattle.no_read_rules.specs.declared.fault.Flaw.TheVariants.{Syntax}
use Rattle.no_read_rules.specs.Lists.{closes_list, more_item, some_items, no_items, items}
use Rattle.no_read_rules.specs.Repeated.{repeat}
use Rattle.no_read_rules.specs.Rules.{Rule, one, keeping, plain, done, change, ◌>>=◌, lift, choose, if_next, maybe, checked}
use Rattle.no_read_rules.specs.Spelled.{is_word, is_sign, a_word, a_sign, only_where}
use Rattle.no_read_constants.specs.Skipped.{behind}
use Rattle.no_read_attributes.specs.Ending.{ahead, more_where, items_where}
use Rattle.no_read_symbols.specs.declared.standing.Bracket.TheVariants as bracket
use Rattle.no_read_symbols.specs.Scan.{sign_bracket}
use Rattle.no_read_names.proofs.Marks.{from_flaw, both, only_true, a_word_token, a_sign_token}
use Rattle.no_read_names.proofs.Spots.{Spot, Here, Round, flat, deep, sunk, IsToken, Moves, moves_none, moves_then, moves_anywhere, moves_sunk, other_moves, square_opens, brace_opens, square_closes, brace_closes, round_opens, round_closes}

-- each meaning of a rule says this of its value and tokens
abbrev pub AllAt : {S A : Type 0} → (A → List Token → Type 0) → Rule S A → Type 0
AllAt {S = S} {A = A} P p = (s t : S) (used : List Token) (a : A) → p.means s used a t → P a used

-- and so of the tokens, where the scan goes
abbrev pub Runs : {S A : Type 0} → List ℕ → Spot → Spot → Rule S A → Type 0
Runs {S = S} {A = A} text a b p = (s t : S) (used : List Token) (x : A) → p.means s used x t → Moves text a b used

-- the value says whether a list goes on or ends
abbrev pub Until : {A : Type 0} → List ℕ → Spot → Spot → Option A → List Token → Type 0
Until text a b (Some x) used = Moves text a a used
Until text a b None used = Moves text a b used

module _ {S A : Type 0} where
  -- ---- one token

  kept : (s t : S) (a : A) (r : Result A Flaw) → keeping s r ≡ Ok (a, t) → r ≡ Ok a
  kept s t a (Ok x) e = ap (λ (y : A). Ok y) (ap (λ (z : A × S). z.0) (from_flaw (x, s) (a, t) e))
  kept s t a (Err flaw) e = absurd cc

  pub one_at : (P : A → List Token → Type 0) (f : S → Token → Result (A × S) Flaw) → ((s t : S) (a : A) (u : Token) → f s u ≡ Ok (a, t) → P a (u ∷ [])) → AllAt P (one f)
  one_at P f h s t used a m = subst (λ (l : List Token). P a l) (sym m.alone) (h s t a m.token m.value)

  pub plain_at : (P : A → List Token → Type 0) (f : Token → Result A Flaw) → ((a : A) (u : Token) → f u ≡ Ok a → P a (u ∷ [])) → AllAt {S = S} P (plain f)
  plain_at P f h s t used a m = subst (λ (l : List Token). P a l) (sym m.alone) (h a m.token (kept s t a (f m.token) m.value))

  -- ---- no token

  pub done_at : (P : A → List Token → Type 0) (a : A) → P a [] → AllAt {S = S} P (done a)
  done_at P a h s t used b m = subst (λ (l : List Token). P b l) (sym m.0) (subst (λ (c : A). P c []) (sym m.1) h)

  pub done_runs : (text : List ℕ) (a : Spot) (x : A) → Runs {S = S} text a a (done x)
  done_runs text a x s t used b m = subst (Moves text a a) (sym m.0) (moves_none text a)

  pub change_runs : (text : List ℕ) (a : Spot) (f : S → A × S) → Runs text a a (change f)
  change_runs text a f s t used b m = subst (Moves text a a) (sym m.0) (moves_none text a)

  -- ---- a rule in other places

  pub lift_at : (P : A → List Token → Type 0) (p : Rule (Unit {0}) A) → AllAt P p → AllAt {S = S} P (lift p)
  lift_at P p h s t used a m = h tt tt used a m.0

  pub lift_runs : (text : List ℕ) (a b : Spot) (p : Rule (Unit {0}) A) → Runs text a b p → Runs {S = S} text a b (lift p)
  lift_runs text a b p h s t used x m = h tt tt used x m.0

  pub anywhere : (text : List ℕ) (a : Spot) (p : Rule S A) → Runs text flat flat p → Runs text a a p
  anywhere text a p h s t used x m = moves_anywhere text a used (h s t used x m)

  pub below : (text : List ℕ) (a : Spot) (p : Rule S A) → Runs text deep deep p → Runs text (sunk a) (sunk a) p
  below text a p h s t used x m = moves_sunk text a used (h s t used x m)

  -- ---- choices

  pub choose_at : (P : A → List Token → Type 0) (b : Bool) (p q : Rule S A) → AllAt P p → AllAt P q → AllAt P (choose b p q)
  choose_at P true p q h k = h
  choose_at P false p q h k = k

  pub if_next_at : (P : A → List Token → Type 0) (test : Token → Bool) (p q : Rule S A) → AllAt P p → AllAt P q → AllAt P (if_next test p q)
  if_next_at P test p q h k s t used a (inl m) = h s t used a m.1
  if_next_at P test p q h k s t used a (inr m) = k s t used a m.1

  pub if_next_runs : (text : List ℕ) (a b : Spot) (test : Token → Bool) (p q : Rule S A) → Runs text a b p → Runs text a b q → Runs text a b (if_next test p q)
  if_next_runs text a b test p q h k s t used x (inl m) = h s t used x m.1
  if_next_runs text a b test p q h k s t used x (inr m) = k s t used x m.1

module _ {S A B : Type 0} where
  -- ---- one after the other

  pub then_at : (P : A → List Token → Type 0) (Q : A → B → List Token → Type 0) (R : B → List Token → Type 0) (p : Rule S A) (q : A → Rule S B) → AllAt P p → ((a : A) → AllAt (Q a) (q a))
      → ((a : A) (b : B) (u v : List Token) → P a u → Q a b v → R b (u ++ v)) → AllAt R (p >>= q)
  then_at P Q R p q h k join s t used b m =
      subst (λ (l : List Token). R b l) (sym m.parts) (join m.first b m.front m.back (h s m.between m.front m.first m.in_front) (k m.first m.between t m.back b m.in_back))

  pub then_runs : (text : List ℕ) (a b c : Spot) (p : Rule S A) (q : A → Rule S B) → Runs text a b p → ((x : A) → Runs text b c (q x)) → Runs text a c (p >>= q)
  then_runs text a b c p q h k s t used y m =
      subst (Moves text a c) (sym m.parts) (moves_then text m.front m.back a b c (h s m.between m.front m.first m.in_front) (k m.first m.between t m.back y m.in_back))

  pub ahead_runs : (text : List ℕ) (a b c : Spot) (g : A → Token → Bool) (p : Rule S A) (q : A → Rule S B) → Runs text a b p → ((x : A) → Runs text b c (q x)) → Runs text a c (ahead g p q)
  ahead_runs text a b c g p q h k s t used y m =
      subst (Moves text a c) (sym m.parts) (moves_then text m.front m.back a b c (h s m.between m.front m.first m.in_front) (k m.first m.between t m.back y m.in_back))

  pub checked_runs : (text : List ℕ) (a b : Spot) (p : Rule S A) (f : A → Result B Flaw) → Runs text a b p → Runs text a b (checked p f)
  checked_runs text a b p f h s t used y m = h s t used m.value m.read

-- ---- repeated rules

module _ (text : List ℕ) (a : Spot) where
  -- tokens that pass
  passing : (test : Token → Bool) → ((t : Token) → test t ≡ true → Moves text a a (t ∷ [])) → (front : List Token) → list_all test front ≡ true → Moves text a a front
  passing test h [] e = moves_none text a
  passing test h (t ∷ ts) e = let k = both (test t) (list_all test ts) e in moves_then text (t ∷ []) ts a a a (h t k.0) (passing test h ts k.1)

module _ {S A : Type 0} (text : List ℕ) (a : Spot) where
  pub repeat_runs : (b : Spot) (step : Rule S (Option A)) → AllAt (Until text a b) step → Runs text a b (repeat step)
  repeat_runs b step h s t used [] m = h s t used None m
  repeat_runs b step h s t used (x ∷ others) m =
      subst (Moves text a b) (sym m.parts) (moves_then text m.front m.back a a b (h s m.between m.front (Some x) m.item) (repeat_runs b step h m.between t m.back others m.others))

  pub behind_runs : (b : Spot) (test : Token → Bool) (p : Rule S A) → ((t : Token) → test t ≡ true → Moves text a a (t ∷ [])) → Runs text a b p → Runs text a b (behind test p)
  behind_runs b test p h k s t used x m = subst (Moves text a b) (sym m.parts) (moves_then text m.front m.back a a b (passing text a test h m.front m.pass) (k s t m.back x m.read))

  -- ---- one more item, or nothing

  pub some_item : (p : Rule S A) → Runs text a a p → AllAt (λ o used. (x : A) × (o ≡ Some x) × Moves text a a used) (p >>= λ x. done (Some x))
  some_item p h = then_at (λ _ u. Moves text a a u) (λ x o v. (o ≡ Some x) × Moves text a a v) (λ o used. (x : A) × (o ≡ Some x) × Moves text a a used) p (λ x. done (Some x)) h
      (λ x. done_at (λ o v. (o ≡ Some x) × Moves text a a v) (Some x) (refl, moves_none text a))
      (λ x o u v k l. (x, l.0, moves_then text u v a a a k l.1))

  pub some_until : (b : Spot) (p : Rule S (Option A)) → AllAt (λ o used. (x : A) × (o ≡ Some x) × Moves text a a used) p → AllAt (Until text a b) p
  some_until b p h s t used o m = let k = h s t used o m in subst (λ (c : Option A). Until text a b c used) (sym k.1) k.2

  pub maybe_runs : (test : Token → Bool) (p : Rule S A) → Runs text a a p → Runs text a a (maybe test p)
  maybe_runs test p h = if_next_runs text a a test (p >>= λ x. done (Some x)) (done None) (then_runs text a a a p (λ x. done (Some x)) h (λ x. done_runs text a (Some x))) (done_runs text a None)

  pub more_where_runs : (test : Token → Bool) (p : Rule S A) → Runs text a a p → AllAt (Until text a a) (more_where test p)
  more_where_runs test p h = if_next_at (Until text a a) test (p >>= λ x. done (Some x)) (done None) (some_until a (p >>= λ x. done (Some x)) (some_item p h)) (done_at (Until text a a) None (moves_none text a))

  pub items_where_runs : (test : Token → Bool) (p : Rule S A) → Runs text a a p → Runs text a a (items_where test p)
  items_where_runs test p h = repeat_runs a (more_where test p) (more_where_runs test p h)

module _ {S A B : Type 0} (text : List ℕ) (a b : Spot) where
  -- an item with its value put into another
  pub some_map : (p : Rule S A) (f : A → B) → Runs text a a p → AllAt (Until text a b) (p >>= λ x. done (Some (f x)))
  some_map p f h = then_at (λ _ u. Moves text a a u) (λ x o v. (o ≡ Some (f x)) × Moves text a a v) (Until text a b) p (λ x. done (Some (f x))) h
      (λ x. done_at (λ o v. (o ≡ Some (f x)) × Moves text a a v) (Some (f x)) (refl, moves_none text a))
      (λ x o u v k l. subst (λ (c : Option B). Until text a b c (u ++ v)) (sym l.0) (moves_then text u v a a a k l.1))

  -- what ends a list
  pub none_until : (p : Rule S A) → Runs text a b p → AllAt (Until {A = B} text a b) (p >>= λ _. done None)
  none_until p h = then_at (λ _ u. Moves text a b u) (λ _ o v. (o ≡ None) × Moves text b b v) (Until text a b) p (λ _. done None) h
      (λ _. done_at (λ o v. (o ≡ None) × Moves text b b v) None (refl, moves_none text b))
      (λ _ o u v k l. subst (λ (c : Option B). Until text a b c (u ++ v)) (sym l.0) (moves_then text u v a b b k l.1))

-- ---- lists that end with a bracket

module _ (text : List ℕ) (a b : Spot) (close : List ℕ) (closes : (t : Token) → is_sign text close t ≡ true → Moves text a b (t ∷ [])) where
  -- behind an item
  abbrev pub closing : Bool → List Token → Type 0
  closing true used = Moves text a b used
  closing false used = Moves text a a used

  comma_moves : (t : Token) → is_sign text (codes ",") t ≡ true → Moves text a a (t ∷ [])
  comma_moves t e = moves_anywhere text a (t ∷ []) (other_moves text t (a_sign_token text (codes ",") t e))

  pub closes_at : {S : Type 0} → AllAt {S = S} closing (plain (closes_list text close))
  closes_at = plain_at closing (closes_list text close) (λ x t e. go t (is_sign text close t) (is_sign text (codes ",") t) x refl refl e)
    where
      go : (t : Token) (c d x : Bool) → is_sign text close t ≡ c → is_sign text (codes ",") t ≡ d → (if c then Ok true else (if d then Ok false else Err Syntax)) ≡ Ok x → closing x (t ∷ [])
      go t true d x p q e = subst (λ (y : Bool). closing y (t ∷ [])) (from_flaw true x e) (closes t p)
      go t false true x p q e = subst (λ (y : Bool). closing y (t ∷ [])) (from_flaw false x e) (comma_moves t q)
      go t false false x p q e = absurd cc

  module _ {A : Type 0} where
    -- what stands behind that token
    abbrev pub behind_item : Bool → Option A → List Token → Type 0
    behind_item true o used = (o ≡ None) × Moves text b b used
    behind_item false o used = (x : A) × (o ≡ Some x) × Moves text a a used

    pub joined : (c : Bool) (o : Option A) (u v : List Token) → closing c u → behind_item c o v → Until text a b o (u ++ v)
    joined true o u v k l = subst (λ (x : Option A). Until text a b x (u ++ v)) (sym l.0) (moves_then text u v a b b k l.1)
    joined false o u v k l = subst (λ (x : Option A). Until text a b x (u ++ v)) (sym l.1) (moves_then text u v a a a k l.2)

  module _ {S A : Type 0} where
    pub more_item_runs : (item : Rule S A) → Runs text a a item → AllAt (Until text a b) (more_item text close item)
    unfolding more_item
    more_item_runs item h = then_at closing behind_item (Until text a b) (plain (closes_list text close)) (λ c. choose c (done None) (item >>= λ x. done (Some x))) closes_at go joined
      where
        go : (c : Bool) → AllAt (behind_item c) (choose c (done None) (item >>= λ x. done (Some x)))
        go true = done_at (behind_item true) None (refl, moves_none text b)
        go false = some_item text a item h

    some_items_run : (item : Rule S A) → Runs text a a item → Runs text a b (some_items text close item)
    unfolding some_items
    some_items_run item h = then_runs text a a b item _ h (λ first. then_runs text a b b (repeat (more_item text close item)) _ (repeat_runs text a b (more_item text close item) (more_item_runs item h)) (λ others. done_runs text b (first ∷ others)))

    no_items_run : Runs {S = S} text a b (no_items {S = S} {A = A} text close)
    unfolding no_items
    no_items_run = then_runs text a b b (a_sign text close) (λ _. done []) (plain_at (λ _ used. Moves text a b used) (λ token. only_where (is_sign text close token)) (λ x u e. closes u (only_true (is_sign text close u) x e))) (λ _. done_runs text b [])

    pub items_run : (item : Rule S A) → Runs text a a item → Runs text a b (items text close item)
    unfolding items
    items_run item h = if_next_runs text a b (is_sign text close) (no_items text close) (some_items text close item) no_items_run (some_items_run item h)

-- ---- words and signs

module _ {S : Type 0} (text : List ℕ) where
  pub word_runs : (w : List ℕ) → bytes_eq (codes "define") w ≡ false → bytes_eq (codes "declare") w ≡ false → Runs {S = S} text flat flat (a_word text w)
  word_runs w p q = plain_at (λ _ used. Moves text flat flat used) (λ token. only_where (is_word text w token)) (λ a u e. other_moves text u (a_word_token text w u p q (only_true (is_word text w u) a e)))

  pub sign_at : (w : List ℕ) (a b : Spot) → ((t : Token) → is_sign text w t ≡ true → Moves text a b (t ∷ [])) → Runs {S = S} text a b (a_sign text w)
  sign_at w a b h = plain_at (λ _ used. Moves text a b used) (λ token. only_where (is_sign text w token)) (λ x u e. h u (only_true (is_sign text w u) x e))

  -- a sign that is no bracket
  pub sign_runs : (w : List ℕ) → sign_bracket w ≡ bracket.Other → Runs {S = S} text flat flat (a_sign text w)
  sign_runs w e = sign_at w flat flat (λ t is. other_moves text t (subst (IsToken text t) e (a_sign_token text w t is)))

  -- ---- brackets

  pub opens_round : (k : ℕ → ℕ) → Runs {S = S} text (Here k) (Round k) (a_sign text (codes "("))
  opens_round k = sign_at (codes "(") (Here k) (Round k) (λ t is. round_opens text k t (a_sign_token text (codes "(") t is))

  pub closes_round : (k : ℕ → ℕ) → Runs {S = S} text (Round k) (Here k) (a_sign text (codes ")"))
  closes_round k = sign_at (codes ")") (Round k) (Here k) (λ t is. round_closes text k t (a_sign_token text (codes ")") t is))

  pub opens_square : (k : ℕ → ℕ) → Runs {S = S} text (Here k) (Here (λ d. suc (k d))) (a_sign text (codes "["))
  opens_square k = sign_at (codes "[") (Here k) (Here (λ d. suc (k d))) (λ t is. square_opens text k t (a_sign_token text (codes "[") t is))

  pub closes_square : (k : ℕ → ℕ) → Runs {S = S} text (Here (λ d. suc (k d))) (Here k) (a_sign text (codes "]"))
  closes_square k = sign_at (codes "]") (Here (λ d. suc (k d))) (Here k) (λ t is. square_closes text k t (a_sign_token text (codes "]") t is))

  pub opens_brace : (k : ℕ → ℕ) → Runs {S = S} text (Here k) (Here (λ d. suc (k d))) (a_sign text (codes "{"))
  opens_brace k = sign_at (codes "{") (Here k) (Here (λ d. suc (k d))) (λ t is. brace_opens text k t (a_sign_token text (codes "{") t is))

  pub closes_brace : (k : ℕ → ℕ) → Runs {S = S} text (Here (λ d. suc (k d))) (Here k) (a_sign text (codes "}"))
  closes_brace k = sign_at (codes "}") (Here (λ d. suc (k d))) (Here k) (λ t is. brace_closes text k t (a_sign_token text (codes "}") t is))

module _ (text : List ℕ) where
  -- signs that close lists

  pub round_closing : (k : ℕ → ℕ) (t : Token) → is_sign text (codes ")") t ≡ true → Moves text (Round k) (Here k) (t ∷ [])
  round_closing k t is = round_closes text k t (a_sign_token text (codes ")") t is)

  pub square_closing : (k : ℕ → ℕ) (t : Token) → is_sign text (codes "]") t ≡ true → Moves text (Here (λ d. suc (k d))) (Here k) (t ∷ [])
  square_closing k t is = square_closes text k t (a_sign_token text (codes "]") t is)

  pub brace_closing : (k : ℕ → ℕ) (t : Token) → is_sign text (codes "}") t ≡ true → Moves text (Here (λ d. suc (k d))) (Here k) (t ∷ [])
  brace_closing k t is = brace_closes text k t (a_sign_token text (codes "}") t is)
