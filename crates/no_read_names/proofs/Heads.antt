-- What the head of a function does to the scan.
use Rattle.std.proofs.Common.{◌≡◌, ℕ, Bool, true, false, List, [], ◌∷◌, ◌++◌, drop, codes, Option, Some, None, Ok, refl, sym, ap, subst, ◌∙◌, append_assoc}
use Rattle.no_lex.specs.declared.token.Token.{Token}
use Rattle.no_lex.specs.declared.token.TokenKind.TheVariants as kind
use Rattle.no_ir.specs.declared.types.Ty.{Ty}
use Rattle.no_ir.specs.declared.types.Ty.TheVariants as ty
use Rattle.no_ir.specs.declared.function.Role.{Role}
use Rattle.no_ir.specs.Naming.{with_name}
use Rattle.no_read_rules.specs.Lists.{items}
use Rattle.no_read_rules.specs.Rules.{Rule, plain, done, ◌>>=◌, lift, next_is, maybe}
use Rattle.no_read_rules.specs.Scope.{Meaning}
use Rattle.no_read_rules.specs.Spelled.{spelled, is_kind, is_word, is_sign, a_word, a_sign, only_where}
use Rattle.no_read_rules.specs.Types.{a_type}
use Rattle.no_read_rules.specs.Unescaped.{name_of}
use Rattle.no_read_attributes.specs.Attributes.{skip_attributes}
use Rattle.no_read_attributes.specs.Symbols.{symbol_name}
use Rattle.no_read_registers.specs.Numbered.{a_definition, no_name}
use Rattle.no_read_functions.specs.declared.heads.Head.{Head}
use Rattle.no_read_functions.specs.Heads.{any_name, or_no_name, own_name, place_name, param_name, a_param, params, result_type, words_type, head_marks, a_head}
use Rattle.no_read_symbols.specs.declared.standing.Bracket.TheVariants as bracket
use Rattle.no_read_symbols.specs.declared.symbols.Symbols.{Symbols}
use Rattle.no_read_symbols.specs.Scan.{bracket_of, symbols_from}
use Rattle.no_read_names.proofs.Marks.{from_flaw, where_true, only_true, kind_token, local_so, no_bracket}
use Rattle.no_read_names.proofs.RuleMoves.{Runs, AllAt, plain_at, done_at, done_runs, lift_at, lift_runs, then_at, then_runs, if_next_runs, choose_at, maybe_runs, items_run, anywhere, word_runs, opens_round, round_closing}
use Rattle.no_read_names.proofs.Spots.{at, flat, Moves, moves_none, moves_then, other_moves}
use Rattle.no_read_names.proofs.Types.{type_runs}
use Rattle.no_read_names.proofs.Places.{curved}
use Rattle.no_read_names.proofs.Attributes.{skip_runs, marks_run, behind_attributes_runs}
use Rattle.no_read_names.proofs.Operands.{definition_runs, no_name_runs}

-- ---- a value that keeps something, and what its tokens do

module _ {S A B : Type 0} (text : List ℕ) (Q : B → Type 0) where
  pub then_keeps : (p : Rule S A) (q : A → Rule S B) → Runs text flat flat p → ((x : A) → AllAt (λ y used. Q y × Moves text flat flat used) (q x)) → AllAt (λ y used. Q y × Moves text flat flat used) (p >>= q)
  then_keeps p q h k = then_at (λ _ used. Moves text flat flat used) (λ _ y used. Q y × Moves text flat flat used) (λ y used. Q y × Moves text flat flat used) p q h k
      (λ x y u v i j. (j.0, moves_then text u v flat flat flat i j.1))

pub done_keeps : {S B : Type 0} (text : List ℕ) (Q : B → Type 0) (b : B) → Q b → AllAt {S = S} (λ y used. Q y × Moves text flat flat used) (done b)
done_keeps text Q b i = done_at (λ y used. Q y × Moves text flat flat used) b (i, moves_none text flat)

-- ---- the token of a name

pub name_is : (text : List ℕ) (t : Token) (name : List ℕ) → symbol_name text t ≡ Ok name → (is_kind kind.Global t ≡ true) × (name_of (drop 1 (spelled text t)) ≡ name)
name_is text t name e =
    let k = where_true (is_kind kind.Global t) (Ok (name_of (drop 1 (spelled text t)))) name e in
    (k.0, from_flaw (name_of (drop 1 (spelled text t))) name k.1)

module _ (text : List ℕ) where
  abbrev equals : Token → Bool
  equals = is_sign text (codes "=")

  no_other : (t : Token) → is_kind kind.Global t ≡ true → bracket_of text t ≡ bracket.Other
  no_other t e = no_bracket kind.Global text t (λ x. refl) e

  pub global_named : (t : Token) (rest : List Token) (y : Symbols) → is_kind kind.Global t ≡ true → next_is equals rest ≡ true
      → symbols_from text (t ∷ rest) (at 0 0 false) y ≡ symbols_from text rest (at 0 0 false) (record y { globals = with_name y.globals (name_of (drop 1 (spelled text t))) })
  global_named t rest y e n = rw (no_other t e, e, n) refl

  pub global_used : (t : Token) (rest : List Token) (y : Symbols) → is_kind kind.Global t ≡ true → next_is equals rest ≡ false → symbols_from text (t ∷ rest) (at 0 0 false) y ≡ symbols_from text rest (at 0 0 false) y
  global_used t rest y e n = rw (no_other t e, e, n) refl

  pub function_named : (t : Token) (rest : List Token) (y : Symbols) → is_kind kind.Global t ≡ true
      → symbols_from text (t ∷ rest) (at 0 0 true) y ≡ symbols_from text rest (at 0 0 false) (record y { functions = with_name y.functions (name_of (drop 1 (spelled text t))) })
  function_named t rest y e = rw (no_other t e, e) refl

-- ---- parameters

module _ (m : Meaning) where
  local_moves : (t : Token) (a : Unit {0}) → only_where (is_kind kind.Local t) ≡ Ok a → Moves m.text flat flat (t ∷ [])
  local_moves t a e = other_moves m.text t (kind_token kind.Local m.text t local_so (only_true (is_kind kind.Local t) a e))

  any_runs : Runs m.text flat flat any_name
  any_runs = plain_at (λ _ used. Moves m.text flat flat used) (λ token. only_where (is_kind kind.Local token)) (λ a t e. local_moves t a e)

  or_runs : (o : Option ℕ) → Runs m.text flat flat (or_no_name o)
  or_runs (Some register) = done_runs m.text flat register
  or_runs None = no_name_runs m.text flat

  own_runs : Runs m.text flat flat (own_name m.text)
  unfolding own_name
  own_runs = then_runs m.text flat flat flat (maybe (is_kind kind.Local) (a_definition m.text)) or_no_name (maybe_runs m.text flat (is_kind kind.Local) (a_definition m.text) (definition_runs m.text)) or_runs

  place_name_runs : Runs m.text flat flat place_name
  unfolding place_name
  place_name_runs = then_runs m.text flat flat flat (maybe (is_kind kind.Local) any_name) (λ _. no_name) (maybe_runs m.text flat (is_kind kind.Local) any_name any_runs) (λ _. no_name_runs m.text flat)

  param_runs : (named : Bool) → Runs m.text flat flat (a_param m named)
  unfolding a_param
  param_runs named = then_runs m.text flat flat flat (lift (a_type m 64)) _ (lift_runs m.text flat flat (a_type m 64) (type_runs m 64))
      (λ t. then_runs m.text flat flat flat (lift (skip_attributes m.text)) _ (lift_runs m.text flat flat (skip_attributes m.text) (skip_runs m.text))
      (λ _. then_runs m.text flat flat flat (param_name m.text named) _ (choose_at (λ _ used. Moves m.text flat flat used) named (own_name m.text) place_name own_runs place_name_runs) (λ register. done_runs m.text flat (register, t))))

  params_run : (named : Bool) → Runs m.text flat flat (params m named)
  unfolding params
  params_run named = then_runs m.text flat curved flat (a_sign m.text (codes "(")) (λ _. items m.text (codes ")") (a_param m named)) (opens_round m.text (λ d. d))
      (λ _. items_run m.text curved flat (codes ")") (round_closing m.text (λ d. d)) (a_param m named) (anywhere m.text curved (a_param m named) (param_runs named)))

  -- ---- heads

  result_runs : Runs m.text flat flat (result_type m)
  unfolding result_type
  result_runs = if_next_runs m.text flat flat (is_word m.text (codes "void")) (a_word m.text (codes "void") >>= λ _. done ty.Void) (a_type m 64)
      (then_runs m.text flat flat flat (a_word m.text (codes "void")) (λ _. done ty.Void) (word_runs m.text (codes "void") refl refl) (λ _. done_runs m.text flat ty.Void)) (type_runs m 64)

  words_run : Runs m.text flat flat (words_type m)
  unfolding words_type
  words_run = behind_attributes_runs m.text (result_type m) result_runs

  marks_runs : (role : Role) → Runs m.text flat flat (head_marks m role)
  unfolding head_marks
  marks_runs role = marks_run m.text role

  module _ (role : Role) (named : Bool) where
    -- tokens that name a function
    abbrev pub NamesFunction : List ℕ → List Token → Type 0
    NamesFunction name used = (rest : List Token) (y : Symbols) → symbols_from m.text (used ++ rest) (at 0 0 true) y ≡ symbols_from m.text rest (at 0 0 false) (record y { functions = with_name y.functions name })

    behind_name : (result : Ty) (name : List ℕ) → AllAt (λ (h : Head) (used : List Token). (h.name ≡ name) × Moves m.text flat flat used) (params m named >>= λ all. lift (head_marks m role) >>= λ marks. done (record { name = name; result = result; params = all; marks = marks }))
    behind_name result name = then_keeps m.text (λ (h : Head). h.name ≡ name) (params m named) _ (params_run named)
        (λ all. then_keeps m.text (λ (h : Head). h.name ≡ name) (lift (head_marks m role)) _ (lift_runs m.text flat flat (head_marks m role) (marks_runs role))
        (λ marks. done_keeps m.text (λ (h : Head). h.name ≡ name) (record { name = name; result = result; params = all; marks = marks }) refl))

    named_then : (t : Token) (name other : List ℕ) (v : List Token) → symbol_name m.text t ≡ Ok name → other ≡ name → Moves m.text flat flat v → NamesFunction other ((t ∷ []) ++ v)
    named_then t name other v e same p = λ rest y.
        let k = name_is m.text t name e in
        function_named m.text t (v ++ rest) y k.0
        ∙ ap (λ (n : List ℕ). symbols_from m.text (v ++ rest) (at 0 0 false) (record y { functions = with_name y.functions n })) (k.1 ∙ sym same)
        ∙ p.outside 0 false rest (record y { functions = with_name y.functions other })

    front_then : (u v : List Token) (name : List ℕ) → Moves m.text flat flat u → NamesFunction name v → NamesFunction name (u ++ v)
    front_then u v name p q = λ rest y. ap (λ (l : List Token). symbols_from m.text l (at 0 0 true) y) (append_assoc u v rest) ∙ p.outside 0 true (v ++ rest) y ∙ q rest y

    abbrev IsName : List ℕ → List Token → Type 0
    IsName name used = (t : Token) × (used ≡ t ∷ []) × (symbol_name m.text t ≡ Ok name)

    pub head_names : AllAt (λ (h : Head) (used : List Token). NamesFunction h.name used) (a_head m role named)
    unfolding a_head
    head_names = then_at (λ _ used. Moves m.text flat flat used) (λ _ (h : Head) (used : List Token). NamesFunction h.name used) (λ (h : Head) (used : List Token). NamesFunction h.name used) (lift (words_type m)) _ (lift_runs m.text flat flat (words_type m) words_run)
        (λ result. then_at IsName (λ (name : List ℕ) (h : Head) (used : List Token). (h.name ≡ name) × Moves m.text flat flat used) (λ (h : Head) (used : List Token). NamesFunction h.name used) (lift (plain (symbol_name m.text))) _
        (lift_at IsName (plain (symbol_name m.text)) (plain_at IsName (symbol_name m.text) (λ name t e. (t, refl, e)))) (λ name. behind_name result name)
        (λ name h u v i j. subst (λ (l : List Token). NamesFunction h.name (l ++ v)) (sym i.1) (named_then i.0 name h.name v i.2 j.0 j.1)))
        (λ _ h u v i j. front_then u v h.name i j)
