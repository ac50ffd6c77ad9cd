-- What a global variable does to the scan.
use Rattle.std.proofs.Common.{◌≡◌, ℕ, Bool, true, false, not, ◌&&◌, ◌||◌, ◌⊎◌, inl, inr, List, [], ◌∷◌, ◌++◌, bytes_eq, length, nat_lt, codes, if◌then◌else◌, Some, None, Ok, Err, refl, sym, ap, subst, ◌∙◌, append_assoc}
use Rattle.no_lex.specs.declared.token.Token.{Token}
use Rattle.no_lex.specs.declared.token.TokenKind.TheVariants as kind
use Rattle.no_ir.specs.declared.types.Ty.{Ty}
use Rattle.no_ir.specs.declared.constant.Const.{Const}
use Rattle.no_ir.specs.declared.function.GlobalVar.{GlobalVar}
use Rattle.no_ir.specs.Naming.{with_name}
use Rattle.no_read_rules.specs.declared.fault.Flaw.TheVariants.{Syntax}
use Rattle.no_read_rules.specs.Repeated.{IsRepeated, repeat}
use Rattle.no_read_rules.specs.Rules.{Rule, plain, done, ◌>>=◌, next_is, Avoids}
use Rattle.no_read_rules.specs.Scope.{Meaning}
use Rattle.no_read_rules.specs.Spelled.{spelled, is_kind, is_word, is_sign, a_sign, only_where}
use Rattle.no_read_rules.specs.Types.{a_type}
use Rattle.no_read_constants.specs.Constants.{a_const}
use Rattle.no_read_constants.specs.Skipped.{behind}
use Rattle.no_read_attributes.specs.Attributes.{alignment_of, string_of}
use Rattle.no_read_attributes.specs.Ending.{more_where}
use Rattle.no_read_attributes.specs.Words.{is_node, is_one}
use Rattle.no_read_toplevel.specs.declared.globals.TailHead.{TailHead}
use Rattle.no_read_toplevel.specs.declared.globals.TailHead.TheVariants.{Align, Section, Attachment}
use Rattle.no_read_toplevel.specs.Globals.{idle_words, is_idle, constant_of, is_metadata, metadata_of, tail_head, after_tail_head, a_tail, is_comma, more_tail, last_of, tails, a_global}
use Rattle.no_read_attributes.specs.Symbols.{symbol_name}
use Rattle.no_read_symbols.specs.declared.symbols.Symbols.{Symbols}
use Rattle.no_read_symbols.specs.Scan.{symbols_from}
use Rattle.no_read_names.proofs.Marks.{both, spells, where_true, only_true, word_token, a_word_token, a_sign_token, meta_token, other_than}
use Rattle.no_read_names.proofs.RuleMoves.{Runs, AllAt, plain_at, done_at, done_runs, then_at, then_runs, repeat_runs, behind_runs, more_where_runs, sign_runs}
use Rattle.no_read_names.proofs.Spots.{at, flat, Moves, moves_none, moves_then, other_moves}
use Rattle.no_read_names.proofs.Types.{type_runs}
use Rattle.no_read_names.proofs.Places.{IsValue}
use Rattle.no_read_names.proofs.Constants.{const_is}
use Rattle.no_read_names.proofs.Attributes.{alignment_moves, string_moves}
use Rattle.no_read_names.proofs.Heads.{name_is, global_named, global_used}

-- ---- items that a test begins

module _ {S A : Type 0} (test : Token → Bool) (item : Rule S A) where
  pub item_begins : (s t : S) (used : List Token) (x : A) → (more_where test item).means s used (Some x) t → next_is test used ≡ true
  item_begins s t used x (inl m) = m.0
  item_begins s t used x (inr m) = absurd (never m.1.1)
    where
      never : Some x ≡ None → ⊥
      never e = cc

  pub none_is_empty : (s t : S) (used : List Token) → (more_where test item).means s used None t → used ≡ []
  none_is_empty s t used (inl m) = absurd (never m.1.first m.1.in_back.1)
    where
      never : (x : A) → None ≡ Some x → ⊥
      never x e = cc
  none_is_empty s t used (inr m) = m.1.0

  begins_on : (front back : List Token) → next_is test front ≡ true → next_is test (front ++ back) ≡ true
  begins_on [] back e = absurd cc
  begins_on (t ∷ ts) back e = e

  pub list_begins : (s t : S) (used : List Token) (all : List A) → IsRepeated (more_where test item) s used all t → (used ≡ []) ⊎ (next_is test used ≡ true)
  list_begins s t used [] m = inl (none_is_empty s t used m)
  list_begins s t used (x ∷ others) m = inr (ap (next_is test) m.parts ∙ begins_on m.front m.back (item_begins s m.between m.front x m.item))

-- ---- tokens

module _ (text : List ℕ) where
  abbrev pub equals : Token → Bool
  equals = is_sign text (codes "=")

  idle_moves : (t : Token) → is_idle text t ≡ true → Moves text flat flat (t ∷ [])
  idle_moves t e =
      let k = both (is_kind kind.Word t) (is_one idle_words (spelled text t)) e in
      other_moves text t (word_token text t (is_one idle_words) refl refl k.0 k.1)

  constant_moves : (c : Bool) (t : Token) → constant_of text t ≡ Ok c → Moves text flat flat (t ∷ [])
  constant_moves c t e = go (is_word text (codes "constant") t) (is_word text (codes "global") t) refl refl e
    where
      go : (b d : Bool) → is_word text (codes "constant") t ≡ b → is_word text (codes "global") t ≡ d → (if b then Ok true else (if d then Ok false else Err Syntax)) ≡ Ok c → Moves text flat flat (t ∷ [])
      go true d p q x = other_moves text t (a_word_token text (codes "constant") t refl refl p)
      go false true p q x = other_moves text t (a_word_token text (codes "global") t refl refl q)
      go false false p q x = absurd cc

  -- a name of metadata has more than its sign
  long : (x : List ℕ) → nat_lt 1 (length x) ≡ true → bytes_eq x (codes "!") ≡ false
  long x e = other_than (λ w. nat_lt 1 (length w)) x (codes "!") refl e

  metadata_moves : (t : Token) → is_metadata text t ≡ true → Moves text flat flat (t ∷ [])
  metadata_moves t e =
      let k = both (is_kind kind.Meta t) (nat_lt 1 (length (spelled text t)) && not (is_node (spelled text t))) e in
      let l = both (nat_lt 1 (length (spelled text t))) (not (is_node (spelled text t))) k.1 in
      other_moves text t (meta_token text t k.0 (long (spelled text t) l.0))

  pub metadata_runs : {S : Type 0} → Runs {S = S} text flat flat (plain (metadata_of text))
  metadata_runs = plain_at (λ _ used. Moves text flat flat used) (metadata_of text) (λ a t e. metadata_moves t (where_true (is_metadata text t) (Ok tt) a e).0)

  tail_moves : (h : TailHead) (t : Token) → tail_head text t ≡ Ok h → Moves text flat flat (t ∷ [])
  tail_moves h t e = go (is_word text (codes "align") t) (is_word text (codes "section") t) (is_metadata text t) refl refl refl e
    where
      go : (b c d : Bool) → is_word text (codes "align") t ≡ b → is_word text (codes "section") t ≡ c → is_metadata text t ≡ d
          → (if b then Ok Align else (if c then Ok Section else (if d then Ok Attachment else Err Syntax))) ≡ Ok h → Moves text flat flat (t ∷ [])
      go true c d p q r x = other_moves text t (a_word_token text (codes "align") t refl refl p)
      go false true d p q r x = other_moves text t (a_word_token text (codes "section") t refl refl q)
      go false false true p q r x = metadata_moves t r
      go false false false p q r x = absurd cc

  -- ---- what stands behind a global

  after_tail_runs : (h : TailHead) → Runs text flat flat (after_tail_head text h)
  after_tail_runs Align = then_runs text flat flat flat (plain (alignment_of text)) _ (plain_at (λ _ used. Moves text flat flat used) (alignment_of text) (λ n t e. alignment_moves text n t e)) (λ n. done_runs text flat (Some n))
  after_tail_runs Section = then_runs text flat flat flat (plain (string_of text)) _ (plain_at (λ _ used. Moves text flat flat used) (string_of text) (λ a t e. string_moves text a t e)) (λ _. done_runs text flat None)
  after_tail_runs Attachment = then_runs text flat flat flat (plain (metadata_of text)) _ metadata_runs (λ _. done_runs text flat None)

  a_tail_runs : Runs text flat flat (a_tail text)
  unfolding a_tail
  a_tail_runs = then_runs text flat flat flat (a_sign text (codes ",")) _ (sign_runs text (codes ",") refl)
      (λ _. then_runs text flat flat flat (plain (tail_head text)) _ (plain_at (λ _ used. Moves text flat flat used) (tail_head text) (λ h t e. tail_moves h t e))
      (λ head. then_runs text flat flat flat (after_tail_head text head) _ (after_tail_runs head) (λ align. done_runs text flat align)))

  -- no equals sign follows where none followed before
  abbrev Starts : List Token → Type 0
  Starts used = (rest : List Token) → Avoids equals rest → Avoids equals (used ++ rest)

  no_equals : (t : Token) → is_comma text t ≡ true → equals t ≡ false
  no_equals t e = go (is_kind kind.Sign t) (both (is_kind kind.Sign t) (bytes_eq (spelled text t) (codes ",")) e).1
    where
      go : (b : Bool) → bytes_eq (spelled text t) (codes ",") ≡ true → (b && bytes_eq (spelled text t) (codes "=")) ≡ false
      go false k = refl
      go true k = ap (λ (x : List ℕ). bytes_eq x (codes "=")) (spells (spelled text t) (codes ",") k)

  comma_starts : (used : List Token) → (used ≡ []) ⊎ (next_is (is_comma text) used ≡ true) → Starts used
  comma_starts used (inl e) = λ rest av. subst (λ (l : List Token). Avoids equals (l ++ rest)) (sym e) av
  comma_starts [] (inr e) = absurd cc
  comma_starts (t ∷ ts) (inr e) = λ rest av. no_equals t e

  -- tokens at the outer level that name nothing, where no equals sign follows them
  abbrev pub Passes : List Token → Type 0
  Passes used = (rest : List Token) (y : Symbols) → Avoids equals rest → symbols_from text (used ++ rest) (at 0 0 false) y ≡ symbols_from text rest (at 0 0 false) y

  passes_behind : (u v : List Token) → Moves text flat flat u → Passes v → Passes (u ++ v)
  passes_behind u v p q = λ rest y av. ap (λ (l : List Token). symbols_from text l (at 0 0 false) y) (append_assoc u v rest) ∙ p.outside 0 false (v ++ rest) y ∙ q rest y av

  value_passes : (used : List Token) → IsValue text used → Passes used
  value_passes used (inl p) = λ rest y av. p.outside 0 false rest y
  value_passes used (inr b) = λ rest y av. ap (λ (l : List Token). symbols_from text (l ++ rest) (at 0 0 false) y) b.1 ∙ global_used text b.0 rest y b.2 av

  value_then_tails : (u v : List Token) → IsValue text u → Starts v → Moves text flat flat v → Passes (u ++ v)
  value_then_tails u v i starts p = λ rest y av.
      ap (λ (l : List Token). symbols_from text l (at 0 0 false) y) (append_assoc u v rest) ∙ value_passes u i (v ++ rest) y (starts rest av) ∙ p.outside 0 false rest y

  tails_are : AllAt (λ _ used. Starts used × Moves text flat flat used) (tails text)
  tails_are = then_at (λ all used. Starts used × Moves text flat flat used) (λ _ _ used. used ≡ []) (λ _ used. Starts used × Moves text flat flat used) (repeat (more_tail text)) (λ all. done (last_of None all))
      (λ s t used all m. (comma_starts used (list_begins (is_comma text) (a_tail text) s t used all m), repeat_runs text flat flat (more_tail text) (more_where_runs text flat (is_comma text) (a_tail text) a_tail_runs) s t used all m))
      (λ all s t used x m. m.0)
      (λ all x u v i e. (starts_then u v i.0 e, subst (λ (l : List Token). Moves text flat flat (u ++ l)) (sym e) (moves_then text u [] flat flat flat i.1 (moves_none text flat))))
    where
      starts_then : (u v : List Token) → Starts u → v ≡ [] → Starts (u ++ v)
      starts_then u v i e = λ rest av. subst (λ (l : List Token). Avoids equals l) (sym (append_assoc u v rest)) (subst (λ (l : List Token). Avoids equals (u ++ (l ++ rest))) (sym e) (i rest av))

-- ---- a global

module _ (m : Meaning) where
  -- tokens that name a global
  abbrev pub NamesGlobal : List ℕ → List Token → Type 0
  NamesGlobal name used = (rest : List Token) (y : Symbols) → Avoids (equals m.text) rest → symbols_from m.text (used ++ rest) (at 0 0 false) y ≡ symbols_from m.text rest (at 0 0 false) (record y { globals = with_name y.globals name })

  -- what stands behind the name, and the name that the global has
  behind_equals : (name : List ℕ) → AllAt (λ (g : GlobalVar) (used : List Token). (g.name ≡ name) × Passes m.text used)
      (behind (is_idle m.text) (plain (constant_of m.text)) >>= λ constant. a_type m 64 >>= λ ty. a_const m 64 ty >>= λ init. tails m.text >>= λ align. done (record { name = name; constant = constant; ty = ty; init = init; align = align }))
  behind_equals name = then_at (λ _ used. Moves m.text flat flat used) (λ _ (g : GlobalVar) (used : List Token). (g.name ≡ name) × Passes m.text used) (λ (g : GlobalVar) (used : List Token). (g.name ≡ name) × Passes m.text used) (behind (is_idle m.text) (plain (constant_of m.text))) _
      (behind_runs m.text flat flat (is_idle m.text) (plain (constant_of m.text)) (idle_moves m.text) (plain_at (λ _ used. Moves m.text flat flat used) (constant_of m.text) (λ c t e. constant_moves m.text c t e)))
      (λ constant. then_at (λ _ used. Moves m.text flat flat used) (λ _ (g : GlobalVar) (used : List Token). (g.name ≡ name) × Passes m.text used) (λ (g : GlobalVar) (used : List Token). (g.name ≡ name) × Passes m.text used) (a_type m 64) _ (type_runs m 64)
      (λ ty. then_at (λ _ used. IsValue m.text used) (λ _ (g : GlobalVar) (used : List Token). (g.name ≡ name) × Starts m.text used × Moves m.text flat flat used) (λ (g : GlobalVar) (used : List Token). (g.name ≡ name) × Passes m.text used) (a_const m 64 ty) _ (const_is m 64 ty)
      (λ init. ending constant ty init)
      (λ _ g u v i j. (j.0, value_then_tails m.text u v i j.1 j.2)))
      (λ _ g u v i j. (j.0, passes_behind m.text u v i j.1)))
      (λ _ g u v i j. (j.0, passes_behind m.text u v i j.1))
    where
      ending : (constant : Bool) (ty : Ty) (init : Const) → AllAt (λ (g : GlobalVar) (used : List Token). (g.name ≡ name) × Starts m.text used × Moves m.text flat flat used) (tails m.text >>= λ align. done (record { name = name; constant = constant; ty = ty; init = init; align = align }))
      ending constant ty init = then_at (λ _ used. Starts m.text used × Moves m.text flat flat used) (λ _ (g : GlobalVar) (used : List Token). (g.name ≡ name) × (used ≡ [])) (λ (g : GlobalVar) (used : List Token). (g.name ≡ name) × Starts m.text used × Moves m.text flat flat used) (tails m.text) _ (tails_are m.text)
          (λ align. done_at (λ (g : GlobalVar) (used : List Token). (g.name ≡ name) × (used ≡ [])) (record { name = name; constant = constant; ty = ty; init = init; align = align }) (refl, refl))
          (λ _ g u v i j. (j.0, subst (λ (l : List Token). Starts m.text (u ++ l)) (sym j.1) (λ rest av. subst (λ (l : List Token). Avoids (equals m.text) l) (sym (append_assoc u [] rest)) (i.0 rest av)), subst (λ (l : List Token). Moves m.text flat flat (u ++ l)) (sym j.1) (moves_then m.text u [] flat flat flat i.1 (moves_none m.text flat))))

  abbrev IsEquals : List Token → Type 0
  IsEquals used = (t : Token) × (used ≡ t ∷ []) × (equals m.text t ≡ true)

  abbrev IsName : List ℕ → List Token → Type 0
  IsName name used = (t : Token) × (used ≡ t ∷ []) × (symbol_name m.text t ≡ Ok name)

  -- behind the name
  abbrev Behind : List ℕ → GlobalVar → List Token → Type 0
  Behind name g used = (g.name ≡ name) × ((rest : List Token) → next_is (equals m.text) (used ++ rest) ≡ true) × Passes m.text used

  equals_then : (e : Token) (u v : List Token) → u ≡ e ∷ [] → equals m.text e ≡ true → (rest : List Token) → next_is (equals m.text) ((u ++ v) ++ rest) ≡ true
  equals_then e u v p q rest = subst (λ (l : List Token). next_is (equals m.text) ((l ++ v) ++ rest) ≡ true) (sym p) q

  name_then : (name : List ℕ) (g : GlobalVar) (u v : List Token) → IsName name u → Behind name g v → NamesGlobal g.name (u ++ v)
  name_then name g u v i j = subst (λ (l : List Token). NamesGlobal g.name (l ++ v)) (sym i.1) (λ rest y av.
      let k = name_is m.text i.0 name i.2 in
      global_named m.text i.0 (v ++ rest) y k.0 (j.1 rest)
      ∙ ap (λ (n : List ℕ). symbols_from m.text (v ++ rest) (at 0 0 false) (record y { globals = with_name y.globals n })) (k.1 ∙ sym j.0)
      ∙ j.2 rest (record y { globals = with_name y.globals g.name }) av)

  pub global_names : AllAt (λ (g : GlobalVar) (used : List Token). NamesGlobal g.name used) (a_global m)
  unfolding a_global
  global_names = then_at IsName Behind (λ (g : GlobalVar) (used : List Token). NamesGlobal g.name used) (plain (symbol_name m.text)) _ (plain_at IsName (symbol_name m.text) (λ name t e. (t, refl, e)))
      (λ name. then_at (λ _ used. IsEquals used) (λ _ (g : GlobalVar) (used : List Token). (g.name ≡ name) × Passes m.text used) (Behind name) (a_sign m.text (codes "=")) _
      (plain_at (λ _ used. IsEquals used) (λ token. only_where (equals m.text token)) (λ a t e. (t, refl, only_true (equals m.text t) a e))) (λ _. behind_equals name)
      (λ _ g u v i j. (j.0, equals_then i.0 u v i.1 i.2, passes_behind m.text u v (equals_moves u i) j.1)))
      name_then
    where
      equals_moves : (u : List Token) → IsEquals u → Moves m.text flat flat u
      equals_moves u i = subst (Moves m.text flat flat) (sym i.1) (other_moves m.text i.0 (a_sign_token m.text (codes "=") i.0 i.2))
