-- What the forms at the top of a text do to the scan.
use Rattle.std.proofs.Common.{◌≡◌, ℕ, Bool, true, false, not, ◌&&◌, ◌||◌, ◌==◌, List, [], ◌∷◌, ◌++◌, bytes_eq, codes, if◌then◌else◌, Option, Some, None, Ok, Err, refl, sym, ap, subst, ◌∙◌, append_assoc, append-nil}
use Rattle.no_lex.specs.declared.token.Token.{Token}
use Rattle.no_lex.specs.declared.token.TokenKind.{TokenKind}
use Rattle.no_lex.specs.declared.token.TokenKind.TheVariants as kind
use Rattle.no_ir.specs.declared.function.Role.{Role}
use Rattle.no_ir.specs.declared.function.Block.{Block}
use Rattle.no_ir.specs.declared.function.GlobalVar.{GlobalVar}
use Rattle.no_ir.specs.Naming.{with_name}
use Rattle.no_read_rules.specs.declared.fault.Flaw.TheVariants.{Syntax}
use Rattle.no_read_rules.specs.Rules.{Rule, one, plain, done, ◌>>=◌, lift, maybe, if_next, Avoids}
use Rattle.no_read_rules.specs.Scope.{Meaning}
use Rattle.no_read_rules.specs.Spelled.{kind_number, spelled, is_kind, is_word, is_sign, a_word, a_sign, only_where}
use Rattle.no_read_attributes.specs.Attributes.{string_of, attribute_marks}
use Rattle.no_read_attributes.specs.Brackets.{bracketed}
use Rattle.no_read_attributes.specs.Words.{is_record}
use Rattle.no_read_toplevel.specs.Globals.{metadata_of, a_global}
use Rattle.no_read_functions.specs.Heads.{a_head}
use Rattle.no_read_functions.specs.declared.heads.Head.{Head}
use Rattle.no_read_registers.specs.declared.locals.Locals.{Locals}
use Rattle.no_read_registers.specs.Numbered.{no_locals_yet}
use Rattle.no_read_instructions.specs.Instructions.{an_instr}
use Rattle.no_read_functions.specs.Blocks.{body}
use Rattle.no_read_toplevel.specs.Entities.{a_source, target_of, layout_of, a_target, group_of, a_group, is_bare, bare_of, is_distinct, a_node, a_declaration}
use Rattle.no_read_attributes.specs.Own.{inside}
use Rattle.no_read_functions.specs.declared.functions.Written.{Written}
use Rattle.no_read_toplevel.specs.declared.tops.Top.{Top}
use Rattle.no_read_toplevel.specs.declared.tops.Top.TheVariants as top
use Rattle.no_read_toplevel.specs.declared.tops.TopWord.{TopWord}
use Rattle.no_read_toplevel.specs.declared.tops.TopWord.TheVariants as begins
use Rattle.no_read_functions.specs.Functions.{head_body, written, a_function}
use Rattle.no_read_toplevel.specs.Tops.{word_of, or_syntax, top_word, source_top, layout_top, target_top, function_top, declared, declared_top, group_top, global_top, node_top, after_word, worded, a_top}
use Rattle.no_read_symbols.specs.declared.standing.Bracket.TheVariants as bracket
use Rattle.no_read_symbols.specs.declared.standing.Standing.{Standing}
use Rattle.no_read_symbols.specs.declared.symbols.Symbols.{Symbols}
use Rattle.no_read_symbols.specs.Scan.{bracket_by, bracket_of, symbols_from}
use Rattle.no_read_names.proofs.Marks.{from_flaw, both, spells, kind_is, where_true, only_true, kind_token, group_so, a_word_token, a_sign_token}
use Rattle.no_read_names.proofs.RuleMoves.{Runs, AllAt, one_at, plain_at, done_at, done_runs, lift_at, lift_runs, then_at, then_runs, if_next_at, maybe_runs, anywhere, word_runs, sign_runs, opens_brace, closes_brace}
use Rattle.no_read_names.proofs.Spots.{at, flat, deep, Leads, leads_then, Moves, moves_none, moves_then, mild, to, other_moves}
use Rattle.no_read_names.proofs.Groups.{braces, brace_leads}
use Rattle.no_read_names.proofs.Attributes.{string_moves, marks_run}
use Rattle.no_read_names.proofs.Instructions.{instr_runs, blocks_run}
use Rattle.no_read_names.proofs.Heads.{NamesFunction, head_names}
use Rattle.no_read_names.proofs.Globals.{equals, metadata_runs, NamesGlobal}
use Rattle.no_read_names.proofs.Globals as globals

-- the names with that of a form
abbrev pub with_form : Top → Symbols → Symbols
with_form (top.Global g) y = record y { globals = with_name y.globals g.name }
with_form (top.Function w) y = record y { functions = with_name y.functions w.head.name }
with_form _ y = y

module _ (text : List ℕ) where
  -- the scan finds the name of a form in its tokens
  abbrev pub Names : Top → List Token → Type 0
  Names f used = (rest : List Token) (y : Symbols) → Avoids (equals text) rest → symbols_from text (used ++ rest) (at 0 0 false) y ≡ symbols_from text rest (at 0 0 false) (with_form f y)

  -- ---- forms that name nothing

  -- at the outer level
  abbrev Idle : List Token → Type 0
  Idle used = Leads text used (at 0 0 false) (at 0 0 false)

  idle_of : {S A : Type 0} (p : Rule S A) → Runs text flat flat p → AllAt (λ _ used. Idle used) p
  idle_of p h s t used x m = (h s t used x m).outside 0 false

  source_runs : Runs text flat flat (a_source text)
  unfolding a_source
  source_runs = then_runs text flat flat flat (a_sign text (codes "=")) _ (sign_runs text (codes "=") refl)
      (λ _. then_runs text flat flat flat (plain (string_of text)) _ (plain_at (λ _ used. Moves text flat flat used) (string_of text) (λ a t e. string_moves text a t e)) (λ _. done_runs text flat tt))

  target_moves : (stated : Bool) (x : Bool × Bool) (t : Token) → target_of text stated t ≡ Ok x → Moves text flat flat (t ∷ [])
  target_moves stated x t e = go (is_word text (codes "triple") t) (is_word text (codes "datalayout") t) refl refl e
    where
      go : (b c : Bool) → is_word text (codes "triple") t ≡ b → is_word text (codes "datalayout") t ≡ c → (if b then Ok (false, stated) else (if c then (if stated then Err Syntax else Ok (true, true)) else Err Syntax)) ≡ Ok x → Moves text flat flat (t ∷ [])
      go true c p q k = other_moves text t (a_word_token text (codes "triple") t refl refl p)
      go false true p q k = other_moves text t (a_word_token text (codes "datalayout") t refl refl q)
      go false false p q k = absurd cc

  target_runs : Runs text flat flat (a_target text)
  unfolding a_target
  target_runs = then_runs text flat flat flat (one (target_of text)) _ (one_at (λ _ used. Moves text flat flat used) (target_of text) (λ s t x u e. target_moves s (x, t) u e))
      (λ layout. then_runs text flat flat flat (a_sign text (codes "=")) _ (sign_runs text (codes "=") refl)
      (λ _. then_runs text flat flat flat (lift (plain (string_of text))) _ (lift_runs text flat flat (plain (string_of text)) (plain_at (λ _ used. Moves text flat flat used) (string_of text) (λ a t e. string_moves text a t e))) (λ token. done_runs text flat (layout_of text layout token))))

  group_moves : (a t : Token) → group_of text t ≡ Ok a → Moves text flat flat (t ∷ [])
  group_moves a t e = other_moves text t (kind_token kind.Group text t group_so (both (is_kind kind.Group t) (not (is_record (spelled text t))) (where_true (is_kind kind.Group t && not (is_record (spelled text t))) (Ok t) a e).0).0)

  group_runs : (role : Role) → Runs text flat flat (a_group text role)
  unfolding a_group
  group_runs role = then_runs text flat flat flat (plain (group_of text)) _ (plain_at (λ _ used. Moves text flat flat used) (group_of text) (λ a t e. group_moves a t e))
      (λ group. then_runs text flat flat flat (a_sign text (codes "=")) _ (sign_runs text (codes "=") refl)
      (λ _. then_runs text flat deep flat (a_sign text (codes "{")) _ (opens_brace text (λ d. d))
      (λ _. then_runs text deep deep flat (attribute_marks text role) _ (anywhere text deep (attribute_marks text role) (marks_run text role))
      (λ marks. then_runs text deep flat flat (a_sign text (codes "}")) _ (closes_brace text (λ d. d)) (λ _. done_runs text flat (group, marks))))))

  -- ---- metadata

  -- behind a mark that stands alone
  marked : Standing
  marked = record { rounds = 0; braces = 0; depth = 0; marked = true; awaits = false }

  bare_leads : (t : Token) → is_bare text t ≡ true → Leads text (t ∷ []) (at 0 0 false) marked
  unfolding marked
  bare_leads t e =
      let k = both (is_kind kind.Meta t) (bytes_eq (spelled text t) (codes "!")) e in
      let s = kind_is kind.Meta t k.0 in
      let b = bare_is t k.0 k.1 in
      to text t (at 0 0 false) marked bracket.Mark b (mild text t (at 0 0 false) (ap (λ (c : TokenKind). kind_number c == 2) s) (ap (λ (c : TokenKind). (kind_number c == 0 && bytes_eq (spelled text t) (codes "define")) || (kind_number c == 0 && bytes_eq (spelled text t) (codes "declare"))) s)) refl
    where
      bare_is : (t : Token) → is_kind kind.Meta t ≡ true → bytes_eq (spelled text t) (codes "!") ≡ true → bracket_of text t ≡ bracket.Mark
      bare_is t k e = ap (λ (c : TokenKind). bracket_by c (spelled text t)) (kind_is kind.Meta t k) ∙ ap (λ (b : Bool). if b then bracket.Mark else bracket.Other) e

  open_leads : (t : Token) → is_sign text (codes "{") t ≡ true → Leads text (t ∷ []) marked (braces text false 1)
  unfolding marked
  open_leads t e = let i = a_sign_token text (codes "{") t e in to text t marked (braces text false 1) bracket.OpenBrace i.is_bracket (mild text t marked i.no_global i.no_function) refl

  braced_is : AllAt {S = Unit {0}} (λ _ used. Leads text used marked (at 0 0 false)) (bracketed text (codes "{") (codes "}"))
  unfolding bracketed
  braced_is = then_at (λ _ used. Leads text used marked (braces text false 1)) (λ _ _ used. Leads text used (braces text false 1) (at 0 0 false)) (λ _ used. Leads text used marked (at 0 0 false)) (a_sign text (codes "{")) _
      (plain_at (λ _ used. Leads text used marked (braces text false 1)) (λ token. only_where (is_sign text (codes "{") token)) (λ a t e. open_leads t (only_true (is_sign text (codes "{") t) a e)))
      (λ _ s t used x m. brace_leads text false used m.0)
      (λ _ x u v p q. leads_then text u v marked (braces text false 1) (at 0 0 false) p q)

  idle_then : {S A B : Type 0} (p : Rule S A) (q : A → Rule S B) → Runs text flat flat p → ((x : A) → AllAt (λ _ used. Idle used) (q x)) → AllAt (λ _ used. Idle used) (p >>= q)
  idle_then p q h k = then_at (λ _ used. Idle used) (λ _ _ used. Idle used) (λ _ used. Idle used) p q (idle_of p h) k (λ _ x u v i j. leads_then text u v (at 0 0 false) (at 0 0 false) (at 0 0 false) i j)

  node_is : AllAt (λ _ used. Idle used) (a_node text)
  unfolding a_node
  node_is = idle_then (plain (metadata_of text)) _ (metadata_runs text)
      (λ _. idle_then (a_sign text (codes "=")) _ (sign_runs text (codes "=") refl)
      (λ _. idle_then (maybe (is_distinct text) (a_word text (codes "distinct"))) _ (maybe_runs text flat (is_distinct text) (a_word text (codes "distinct")) (word_runs text (codes "distinct") refl refl))
      (λ _. then_at (λ _ used. Leads text used (at 0 0 false) marked) (λ _ _ used. Leads text used marked (at 0 0 false)) (λ _ used. Idle used) (plain (bare_of text)) _
      (plain_at (λ _ used. Leads text used (at 0 0 false) marked) (bare_of text) (λ a t e. bare_leads t (where_true (is_bare text t) (Ok tt) a e).0))
      (λ _. braced_is) (λ _ x u v i j. leads_then text u v (at 0 0 false) marked (at 0 0 false) i j))))

-- ---- functions

module _ (m : Meaning) (role : Role) where
  -- behind the word, where the name of a function is awaited
  abbrev Written-by : Written → List Token → Type 0
  Written-by w used = NamesFunction m role true w.head.name used

  named_end : (name : List ℕ) (u v : List Token) → NamesFunction m role true name u → Moves m.text flat flat v → NamesFunction m role true name (u ++ v)
  named_end name u v p q = λ rest y. ap (λ (l : List Token). symbols_from m.text l (at 0 0 true) y) (append_assoc u v rest) ∙ p (v ++ rest) y ∙ q.outside 0 false rest (record y { functions = with_name y.functions name })

  body_keeps : (head : Head) → AllAt (λ (x : Head × List Block) (used : List Token). (x.0.name ≡ head.name) × Moves m.text flat flat used) (a_sign m.text (codes "{") >>= λ _. body m.text (an_instr m role) >>= λ blocks. done (head, blocks))
  body_keeps head = then_at (λ _ used. Moves m.text flat deep used) (λ _ (x : Head × List Block) (used : List Token). (x.0.name ≡ head.name) × Moves m.text deep flat used) (λ (x : Head × List Block) (used : List Token). (x.0.name ≡ head.name) × Moves m.text flat flat used) (a_sign m.text (codes "{")) _ (opens_brace m.text (λ d. d))
      (λ _. then_at (λ _ used. Moves m.text deep flat used) (λ _ (x : Head × List Block) (used : List Token). (x.0.name ≡ head.name) × Moves m.text flat flat used) (λ (x : Head × List Block) (used : List Token). (x.0.name ≡ head.name) × Moves m.text deep flat used) (body m.text (an_instr m role)) _
      (blocks_run m.text (an_instr m role) (instr_runs m role))
      (λ blocks. done_at (λ (x : Head × List Block) (used : List Token). (x.0.name ≡ head.name) × Moves m.text flat flat used) (head, blocks) (refl, moves_none m.text flat))
      (λ _ x u v i j. (j.0, moves_then m.text u v deep flat flat i j.1)))
      (λ _ x u v i j. (j.0, moves_then m.text u v flat deep flat i j.1))

  head_body_is : AllAt (λ (x : Head × List Block) (used : List Token). NamesFunction m role true x.0.name used) (head_body m role)
  unfolding head_body
  head_body_is = then_at (λ (h : Head) (used : List Token). NamesFunction m role true h.name used) (λ (h : Head) (x : Head × List Block) (used : List Token). (x.0.name ≡ h.name) × Moves m.text flat flat used) (λ (x : Head × List Block) (used : List Token). NamesFunction m role true x.0.name used) (a_head m role true) _
      (head_names m role true) body_keeps
      (λ h x u v i j. subst (λ (n : List ℕ). NamesFunction m role true n (u ++ v)) (sym j.0) (named_end h.name u v i j.1))

  function_is : AllAt Written-by (a_function m role)
  unfolding a_function
  function_is = then_at (λ (f : (Head × List Block) × Locals) (used : List Token). NamesFunction m role true f.0.0.name used) (λ (f : (Head × List Block) × Locals) (w : Written) (used : List Token). (w ≡ written f) × (used ≡ [])) Written-by (inside no_locals_yet (head_body m role)) _
      (λ s t used f k. head_body_is no_locals_yet f.1 used f.0 k.0)
      (λ f. done_at (λ (w : Written) (used : List Token). (w ≡ written f) × (used ≡ [])) (written f) (refl, refl))
      (λ f w u v i j. subst (λ (l : List Token). Written-by w (u ++ l)) (sym j.1) (subst (Written-by w) (sym (append-nil u)) (subst (λ (x : Written). Written-by x u) (sym j.0) i)))

  declaration_is : AllAt (λ (d : Head × Locals) (used : List Token). NamesFunction m role false d.0.name used) (a_declaration m role)
  declaration_is s t used d k = head_names m role false no_locals_yet d.1 used d.0 k.0

  -- ---- forms

  -- a form behind its word
  abbrev Behind-word : TopWord → Top → List Token → Type 0
  Behind-word begins.Define f used = (rest : List Token) (y : Symbols) → symbols_from m.text (used ++ rest) (at 0 0 true) y ≡ symbols_from m.text rest (at 0 0 false) (with_form f y)
  Behind-word begins.Declare f used = (rest : List Token) (y : Symbols) → symbols_from m.text (used ++ rest) (at 0 0 true) y ≡ symbols_from m.text rest (at 0 0 false) (with_form f y)
  Behind-word _ f used = (rest : List Token) (y : Symbols) → symbols_from m.text (used ++ rest) (at 0 0 false) y ≡ symbols_from m.text rest (at 0 0 false) (with_form f y)

  -- a form of which the tokens of a rule are all
  all_of : {A : Type 0} (P : A → List Token → Type 0) (Q : Top → List Token → Type 0) (p : Rule Bool A) (f : A → Top) → AllAt P p → ((x : A) (used : List Token) → P x used → Q (f x) used) → AllAt Q (p >>= λ x. done (f x))
  all_of P Q p f h k = then_at P (λ x g used. (g ≡ f x) × (used ≡ [])) Q p (λ x. done (f x)) h (λ x. done_at (λ g used. (g ≡ f x) × (used ≡ [])) (f x) (refl, refl))
      (λ x g u v i j. subst (λ (l : List Token). Q g (u ++ l)) (sym j.1) (subst (Q g) (sym (append-nil u)) (subst (λ (c : Top). Q c u) (sym j.0) (k x u i))))

  word_is : (w : TopWord) → AllAt (Behind-word w) (after_word m role w)
  unfolding source_top target_top function_top declared_top group_top
  word_is begins.Source = all_of (λ _ used. Moves m.text flat flat used) (Behind-word begins.Source) (lift (a_source m.text)) (λ _. top.Nothing) (lift_runs m.text flat flat (a_source m.text) (source_runs m.text)) (λ x used p. p.outside 0 false)
  word_is begins.Target = all_of (λ _ used. Moves m.text flat flat used) (Behind-word begins.Target) (a_target m.text) layout_top (target_runs m.text) layout
    where
      layout : (o : Option (List ℕ)) (used : List Token) → Moves m.text flat flat used → Behind-word begins.Target (layout_top o) used
      layout None used p = p.outside 0 false
      layout (Some l) used p = p.outside 0 false
  word_is begins.Define = all_of Written-by (Behind-word begins.Define) (lift (a_function m role)) (λ f. top.Function f) (lift_at Written-by (a_function m role) function_is) (λ w used p. p)
  word_is begins.Declare = all_of (λ (d : Head × Locals) (used : List Token). NamesFunction m role false d.0.name used) (Behind-word begins.Declare) (lift (a_declaration m role)) (λ d. top.Function (declared d))
      (lift_at (λ (d : Head × Locals) (used : List Token). NamesFunction m role false d.0.name used) (a_declaration m role) declaration_is) (λ d used p. p)
  word_is begins.Attributes = all_of (λ _ used. Moves m.text flat flat used) (Behind-word begins.Attributes) (lift (a_group m.text role)) (λ g. top.Group g.0 g.1) (lift_runs m.text flat flat (a_group m.text role) (group_runs m.text role)) (λ x used p. p.outside 0 false)

  -- whether a word awaits the name of a function
  awaiting : TopWord → Bool
  awaiting begins.Define = true
  awaiting begins.Declare = true
  awaiting _ = false

  -- the word that a token is
  spelling_of : TopWord → List ℕ
  spelling_of begins.Source = codes "source_filename"
  spelling_of begins.Target = codes "target"
  spelling_of begins.Define = codes "define"
  spelling_of begins.Declare = codes "declare"
  spelling_of begins.Attributes = codes "attributes"

  word_spells : (x : List ℕ) (w : TopWord) → or_syntax (word_of x) ≡ Ok w → x ≡ spelling_of w
  unfolding spelling_of
  word_spells x w e = go (bytes_eq x (codes "source_filename")) (bytes_eq x (codes "target")) (bytes_eq x (codes "define")) (bytes_eq x (codes "declare")) (bytes_eq x (codes "attributes")) refl refl refl refl refl e
    where
      is : (v : TopWord) → bytes_eq x (spelling_of v) ≡ true → or_syntax (Some v) ≡ Ok w → x ≡ spelling_of w
      is v p k = spells x (spelling_of v) p ∙ ap spelling_of (from_flaw v w k)

      go : (b c d f g : Bool) → bytes_eq x (codes "source_filename") ≡ b → bytes_eq x (codes "target") ≡ c → bytes_eq x (codes "define") ≡ d → bytes_eq x (codes "declare") ≡ f → bytes_eq x (codes "attributes") ≡ g
          → or_syntax (if b then Some begins.Source else (if c then Some begins.Target else (if d then Some begins.Define else (if f then Some begins.Declare else (if g then Some begins.Attributes else None))))) ≡ Ok w → x ≡ spelling_of w
      go true c d f g p q r s t k = is begins.Source p k
      go false true d f g p q r s t k = is begins.Target q k
      go false false true f g p q r s t k = is begins.Define r k
      go false false false true g p q r s t k = is begins.Declare s k
      go false false false false true p q r s t k = is begins.Attributes t k
      go false false false false false p q r s t k = absurd cc

  word_leads : (w : TopWord) (t : Token) → t.kind ≡ kind.Word → spelled m.text t ≡ spelling_of w → Leads m.text (t ∷ []) (at 0 0 false) (at 0 0 (awaiting w))
  unfolding spelling_of awaiting
  word_leads begins.Source t k e = λ rest y. rw (k, e) refl
  word_leads begins.Target t k e = λ rest y. rw (k, e) refl
  word_leads begins.Define t k e = λ rest y. rw (k, e) refl
  word_leads begins.Declare t k e = λ rest y. rw (k, e) refl
  word_leads begins.Attributes t k e = λ rest y. rw (k, e) refl

  top_word_is : (w : TopWord) (t : Token) → top_word m.text t ≡ Ok w → Leads m.text (t ∷ []) (at 0 0 false) (at 0 0 (awaiting w))
  top_word_is w t e = go (is_kind kind.Word t) refl e
    where
      go : (b : Bool) → is_kind kind.Word t ≡ b → or_syntax (if b then word_of (spelled m.text t) else None) ≡ Ok w → Leads m.text (t ∷ []) (at 0 0 false) (at 0 0 (awaiting w))
      go true p k = word_leads w t (kind_is kind.Word t p) (word_spells (spelled m.text t) w k)
      go false p k = absurd cc

  word_then : (w : TopWord) (f : Top) (u v : List Token) → Leads m.text u (at 0 0 false) (at 0 0 (awaiting w)) → Behind-word w f v → Names m.text f (u ++ v)
  unfolding awaiting
  word_then begins.Source f u v p q = λ rest y av. ap (λ (l : List Token). symbols_from m.text l (at 0 0 false) y) (append_assoc u v rest) ∙ p (v ++ rest) y ∙ q rest y
  word_then begins.Target f u v p q = λ rest y av. ap (λ (l : List Token). symbols_from m.text l (at 0 0 false) y) (append_assoc u v rest) ∙ p (v ++ rest) y ∙ q rest y
  word_then begins.Define f u v p q = λ rest y av. ap (λ (l : List Token). symbols_from m.text l (at 0 0 false) y) (append_assoc u v rest) ∙ p (v ++ rest) y ∙ q rest y
  word_then begins.Declare f u v p q = λ rest y av. ap (λ (l : List Token). symbols_from m.text l (at 0 0 false) y) (append_assoc u v rest) ∙ p (v ++ rest) y ∙ q rest y
  word_then begins.Attributes f u v p q = λ rest y av. ap (λ (l : List Token). symbols_from m.text l (at 0 0 false) y) (append_assoc u v rest) ∙ p (v ++ rest) y ∙ q rest y

  worded_is : AllAt (Names m.text) (worded m role)
  unfolding worded
  worded_is = then_at (λ w used. Leads m.text used (at 0 0 false) (at 0 0 (awaiting w))) Behind-word (Names m.text) (plain (top_word m.text)) (after_word m role)
      (plain_at (λ w used. Leads m.text used (at 0 0 false) (at 0 0 (awaiting w))) (top_word m.text) (λ w t e. top_word_is w t e)) word_is (λ w f u v p q. word_then w f u v p q)

  global_is : AllAt (Names m.text) (global_top m)
  unfolding global_top
  global_is = all_of (λ (g : GlobalVar) (used : List Token). NamesGlobal m g.name used) (Names m.text) (lift (a_global m)) (λ g. top.Global g) (lift_at (λ (g : GlobalVar) (used : List Token). NamesGlobal m g.name used) (a_global m) (globals.global_names m)) (λ g used p. p)

  node_top_is : AllAt (Names m.text) (node_top m)
  unfolding node_top
  node_top_is = all_of (λ _ used. Leads m.text used (at 0 0 false) (at 0 0 false)) (Names m.text) (lift (a_node m.text)) (λ _. top.Nothing) (lift_at (λ _ used. Leads m.text used (at 0 0 false) (at 0 0 false)) (a_node m.text) (node_is m.text)) (λ x used p rest y av. p rest y)

  pub top_names : AllAt (Names m.text) (a_top m role)
  unfolding a_top
  top_names = if_next_at (Names m.text) (is_kind kind.Global) (global_top m) (if_next (is_kind kind.Meta) (node_top m) (worded m role)) global_is (if_next_at (Names m.text) (is_kind kind.Meta) (node_top m) (worded m role) node_top_is worded_is)
