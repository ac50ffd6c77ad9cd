-- Whole modules that were read are formed, and in a source nothing is marked.
use Rattle.std.proofs.Common.{◌≡◌, ◌<◌, ◌≤◌, ℕ, ◌+◌, Bool, true, false, not, ◌&&◌, List, [], ◌∷◌, ◌++◌, length, map, bytes_eq, codes, if◌then◌else◌, Option, Some, None, Result, Ok, Err, refl, sym, ap, subst, ◌∙◌, inl, inr, arith, true≢false}
use Rattle.std.specs.List.{list_all, fold}
use Rattle.std.proofs.lemmas.List.{length-append, length-map}
use Rattle.no_lex.specs.declared.token.Token.{Token}
use Rattle.no_lex.specs.declared.token.TokenKind.TheVariants as kind
use Rattle.no_ir.specs.Naming.{with_name, is_known}
use Rattle.no_ir.specs.declared.types.Ty.{Ty}
use Rattle.no_ir.specs.declared.function.Block.{Block}
use Rattle.no_ir.specs.declared.function.Function.{Function}
use Rattle.no_ir.specs.declared.function.GlobalVar.{GlobalVar}
use Rattle.no_ir.specs.declared.function.Module.{Module}
use Rattle.no_ir.specs.declared.function.Role.{Role}
use Rattle.no_ir.specs.declared.function.Role.TheVariants.{Source, Part}
use Rattle.no_ir.specs.declared.instruction.Instr.{Instr}
use Rattle.no_read_rules.specs.Repeated.{repeat}
use Rattle.no_read_rules.specs.Rules.{Rule, plain, done, ◌>>=◌, lift, if_next}
use Rattle.no_read_rules.specs.Scope.{Meaning}
use Rattle.no_read_rules.specs.Spelled.{spelled, is_kind, a_sign}
use Rattle.no_read_rules.specs.Unescaped.{unescaped, inner}
use Rattle.no_read_attributes.specs.Attributes.{says, at_address, address_of, address_mark, text_mark, pair_mark, mark_of, listed, all_marks, all_attributes, attribute_marks}
use Rattle.no_read_attributes.specs.declared.attribute.Attribute.{Attribute}
use Rattle.no_read_attributes.specs.declared.attribute.Attribute.TheVariants as attribute
use Rattle.no_read_attributes.specs.declared.marks.Mark.{Mark}
use Rattle.no_read_attributes.specs.declared.marks.Mark.TheVariants as mark
use Rattle.no_read_functions.specs.Heads.{words_type, params, head_marks, a_head}
use Rattle.no_read_functions.specs.declared.heads.Head.{Head}
use Rattle.no_read_constants.specs.Constants.{resolved}
use Rattle.no_read_toplevel.specs.Globals.{a_global}
use Rattle.no_read_attributes.specs.Symbols.{symbol_name}
use Rattle.no_read_registers.specs.declared.locals.Locals.{Locals}
use Rattle.no_read_registers.specs.Numbered.{no_locals_yet}
use Rattle.no_read_functions.specs.Blocks.{body}
use Rattle.no_read_instructions.specs.Instructions.{an_instr}
use Rattle.no_read_toplevel.specs.Entities.{a_source, a_target, a_group, a_node, a_declaration, group_of}
use Rattle.no_read_attributes.specs.Own.{inside}
use Rattle.no_read_symbols.specs.Scan.{symbols_in}
use Rattle.no_read_functions.specs.declared.functions.Written.{Written}
use Rattle.no_read_toplevel.specs.declared.groups.Settings.{Settings}
use Rattle.no_read_toplevel.specs.declared.tops.Top.{Top}
use Rattle.no_read_toplevel.specs.declared.tops.Top.TheVariants as top
use Rattle.no_read_toplevel.specs.declared.tops.TopWord.{TopWord}
use Rattle.no_read_toplevel.specs.declared.tops.TopWord.TheVariants as begins
use Rattle.no_read_functions.specs.Functions.{a_function, head_body, written}
use Rattle.no_read_toplevel.specs.Grouping.{nothing_set, set_by, set_by_all, found_in, all_grouped, no_groups}
use Rattle.no_read_toplevel.specs.Modules.{with_marks, set_function, function_of, functions_in, globals_in, module_of, IsModuleOf}
use Rattle.no_read_toplevel.specs.Tops.{begins_top, top_word, source_top, layout_top, target_top, function_top, declared, declared_top, group_top, global_top, node_top, after_word, worded, a_top, more_tops, tops}
use Rattle.no_read_toplevel.specs.WrittenOut.{marks_named, one_written, written_out}
use Rattle.no_read_toplevel.proofs.WrittenLaws.{written_out_is}
use Rattle.no_read_names.specs.Defined.{names_once}
use Rattle.no_read_names.proofs.Named.{globals_named, functions_named}
use Rattle.no_module.specs.Formed.{Counts, Within, counts_of, types_formed, global_formed, function_formed, param_formed, block_formed, instr_formed, label_formed, within, IsFormed}
use Rattle.no_module.specs.Marks.{instr_unmarked, block_unmarked, no_address, function_unmarked, is_unmarked, MarksAllowed}
use Rattle.no_module.specs.Named.{resolved as stands_for}
use Rattle.no_read_formed.specs.Named.{IsTyped}
use Rattle.no_read_formed.proofs.Saying.{All, Each, Maybe, plain_all, done_all, if_next_all, then_all, skip_all, repeat_all, some_all, each_true}
use Rattle.no_read_formed.proofs.Values.{Agrees}
use Rattle.no_read_formed.proofs.Forms.{W, Unmarked, IsMark}
use Rattle.no_read_formed.proofs.Flow.{IsInstr}
use Rattle.no_read_formed.proofs.Functions.{IsGlobal, global_all, IsBlock, IsHead, IsWritten, function_all, declaration_all}

-- ---- attributes of functions

-- in a source no attribute sets an address
NoAddress : Role → Mark → Type 0
NoAddress Part k = Unit {0}
NoAddress Source mark.Bound = Unit {0}
NoAddress Source (mark.Group t) = Unit {0}
NoAddress Source (mark.Address n) = ⊥

each_join : {A : Type 0} (P : A → Type 0) (xs ys : List A) → Each P xs → Each P ys → Each P (xs ++ ys)
each_join P [] ys p q = q
each_join P (x ∷ xs) ys p q = (p.0, each_join P xs ys p.1 q)

module _ (text : List ℕ) (role : Role) where
  abbrev Fine : Mark → Type 0
  Fine k = NoAddress role k

  bound_fine : Fine mark.Bound
  unfolding NoAddress
  bound_fine = go role
    where
      go : (r : Role) → NoAddress r mark.Bound
      go Source = tt
      go Part = tt

  group_fine : (t : Token) → Fine (mark.Group t)
  unfolding NoAddress
  group_fine t = go role
    where
      go : (r : Role) → NoAddress r (mark.Group t)
      go Source = tt
      go Part = tt

  address_fine : (value : List ℕ) → Maybe Fine (address_mark role value)
  unfolding NoAddress
  address_fine value = go role
    where
      any : (o : Option ℕ) → Maybe (NoAddress Part) (at_address o)
      any None = tt
      any (Some n) = tt

      go : (r : Role) → Maybe (NoAddress r) (address_mark r value)
      go Source = tt
      go Part = any (address_of value)

  text_fine : (key : Token) → Maybe Fine (text_mark text key)
  text_fine key = go (says text key (codes "machine-bound"))
    where
      go : (b : Bool) → Maybe Fine (if b then Some mark.Bound else None)
      go true = bound_fine
      go false = tt

  pair_fine : (key value : Token) → Maybe Fine (pair_mark text role key value)
  pair_fine key value = go (says text key (codes "machine-bound")) (says text key (codes "no.addr"))
    where
      go : (b c : Bool) → Maybe Fine (if b then Some mark.Bound else (if c then address_mark role (unescaped (inner (spelled text value))) else None))
      go true c = bound_fine
      go false true = address_fine (unescaped (inner (spelled text value)))
      go false false = tt

  mark_fine : (x : Attribute) → Maybe Fine (mark_of text role x)
  mark_fine (attribute.Text key) = text_fine key
  mark_fine (attribute.Pair key value) = pair_fine key value
  mark_fine (attribute.Group group) = group_fine group
  mark_fine attribute.Word = tt
  mark_fine attribute.Align = tt
  mark_fine attribute.Closed = tt

  listed_fine : (o : Option Mark) → Maybe Fine o → Each Fine (listed o)
  listed_fine None k = tt
  listed_fine (Some x) k = (k, tt)

  all_fine : (xs : List Attribute) → Each Fine (all_marks text role xs)
  all_fine [] = tt
  all_fine (x ∷ xs) = each_join Fine (listed (mark_of text role x)) (all_marks text role xs) (listed_fine (mark_of text role x) (mark_fine x)) (all_fine xs)

  marks_all : All (Each Fine) (attribute_marks text role)
  marks_all = skip_all (Each Fine) (all_attributes text) (λ all. done (all_marks text role all)) (λ all. done_all (Each Fine) (all_marks text role all) (all_fine all))

  group_all : All (λ x. Each Fine x.1) (a_group text role)
  unfolding a_group
  group_all = skip_all (λ x. Each Fine x.1) (plain (group_of text)) _ (λ g. skip_all (λ x. Each Fine x.1) (a_sign text (codes "=")) _ (λ _. skip_all (λ x. Each Fine x.1) (a_sign text (codes "{")) _
      (λ _. then_all (Each Fine) (λ x. Each Fine x.1) (attribute_marks text role) _ marks_all (λ marks k. skip_all (λ x. Each Fine x.1) (a_sign text (codes "}")) _ (λ _. done_all (λ x. Each Fine x.1) (g, marks) k)))))

  -- ---- what a function's attributes set

  GroupFine : Top → Type 0
  GroupFine (top.Group token marks) = Each Fine marks
  GroupFine top.Nothing = Unit {0}
  GroupFine (top.Layout layout) = Unit {0}
  GroupFine (top.Global g) = Unit {0}
  GroupFine (top.Function w) = Unit {0}

  named_fine : (name : List ℕ) (all : List Top) → Each GroupFine all → Each Fine (marks_named text name all)
  unfolding GroupFine
  named_fine name [] k = tt
  named_fine name (top.Group token marks ∷ others) k = each_join Fine (if bytes_eq name (spelled text token) then marks else []) (marks_named text name others) (go (bytes_eq name (spelled text token))) (named_fine name others k.1)
    where
      go : (b : Bool) → Each Fine (if b then marks else [])
      go true = k.0
      go false = tt
  named_fine name (top.Nothing ∷ others) k = named_fine name others k.1
  named_fine name (top.Layout layout ∷ others) k = named_fine name others k.1
  named_fine name (top.Global g ∷ others) k = named_fine name others k.1
  named_fine name (top.Function w ∷ others) k = named_fine name others k.1

  one_fine : (all : List Top) → Each GroupFine all → (x : Mark) → Fine x → Each Fine (one_written text all x)
  one_fine all k (mark.Group group) p = named_fine (spelled text group) all k
  one_fine all k mark.Bound p = (p, tt)
  one_fine all k (mark.Address n) p = (p, tt)

  written_fine : (all : List Top) → Each GroupFine all → (marks : List Mark) → Each Fine marks → Each Fine (written_out text all marks)
  written_fine all k [] p = tt
  written_fine all k (x ∷ marks) p = each_join Fine (one_written text all x) (written_out text all marks) (one_fine all k x p.0) (written_fine all k marks p.1)

-- in a source
set_none : (s : Settings) (marks : List Mark) → s.address ≡ None → Each (NoAddress Source) marks → (set_by_all s marks).address ≡ None
unfolding NoAddress
set_none s [] e k = e
set_none s (mark.Bound ∷ marks) e k = set_none (record { bound = true; address = s.address }) marks e k.1
set_none s (mark.Group group ∷ marks) e k = set_none s marks e k.1
set_none s (mark.Address n ∷ marks) e k = absurd k.0

address_none : (text : List ℕ) (all : List Top) (marks : List Mark) → Each (GroupFine text Source) all → Each (NoAddress Source) marks → (with_marks text (found_in (all_grouped text no_groups all)) nothing_set marks).address ≡ None
address_none text all marks k p = ap (λ (s : Settings). s.address) (written_out_is text all marks) ∙ set_none nothing_set (written_out text all marks) refl (written_fine text Source all k marks p)

-- ---- forms at the top

module _ (m : Meaning) (c : Counts) (a : Agrees m c) (role : Role) where
  abbrev MarksFine : Head → Type 0
  MarksFine h = Each (NoAddress role) h.marks

  head_marks_all : (named : Bool) (s t : Locals) (used : List Token) (h : Head) → (a_head m role named).means s used h t → MarksFine h
  unfolding a_head head_marks
  head_marks_all named s t used h k =
      let d = k.in_back.in_back.in_back in
      subst MarksFine (sym d.in_back.1) (marks_all m.text role tt tt d.front d.first d.in_front.0)

  written_marks : All (λ (w : Written). MarksFine w.head) (a_function m role)
  unfolding a_function head_body
  written_marks s t used w k =
      let h = k.in_front.0 in
      subst (λ (x : Written). MarksFine x.head) (sym k.in_back.1) (subst (λ (x : Head × List Block). MarksFine x.0) (sym h.in_back.in_back.in_back.1) (head_marks_all true no_locals_yet h.between h.front h.first h.in_front))

  TopIs : Top → Type 0
  TopIs (top.Global g) = IsGlobal m c a g
  TopIs (top.Function w) = IsWritten m c a role w × MarksFine w.head
  TopIs top.Nothing = Unit {0}
  TopIs (top.Layout layout) = Unit {0}
  TopIs (top.Group token marks) = Each (NoAddress role) marks

  layout_is : (o : Option (List ℕ)) → TopIs (layout_top o)
  unfolding TopIs
  layout_is None = tt
  layout_is (Some layout) = tt

  lifted : {A : Type 0} (P : A → Type 0) (p : Rule (Unit {0}) A) → All P p → All {S = Bool} P (lift p)
  lifted P p h s t used x k = h tt tt used x k.0

  declared_is : (d : Head × Locals) → IsHead m c a role (length d.1.registers) (length d.1.labels) d.0 × MarksFine d.0 → TopIs (top.Function (declared d))
  unfolding TopIs
  declared_is d k = (record { head = k.0; blocks = tt }, k.1)

  after_word_all : (w : TopWord) → All TopIs (after_word m role w)
  unfolding TopIs source_top target_top function_top declared_top group_top
  after_word_all begins.Source = skip_all TopIs (lift (a_source m.text)) (λ _. done top.Nothing) (λ _. done_all TopIs top.Nothing tt)
  after_word_all begins.Target = skip_all TopIs (a_target m.text) (λ layout. done (layout_top layout)) (λ layout. done_all TopIs (layout_top layout) (layout_is layout))
  after_word_all begins.Define = then_all (λ w. IsWritten m c a role w × MarksFine w.head) TopIs (lift (a_function m role)) (λ f. done (top.Function f))
      (lifted (λ w. IsWritten m c a role w × MarksFine w.head) (a_function m role) (λ s t used w k. (function_all m c a role s t used w k, written_marks s t used w k))) (λ f k. done_all TopIs (top.Function f) k)
  after_word_all begins.Declare = then_all (λ d. IsHead m c a role (length d.1.registers) (length d.1.labels) d.0 × MarksFine d.0) TopIs (lift (a_declaration m role)) (λ d. done (top.Function (declared d)))
      (lifted (λ d. IsHead m c a role (length d.1.registers) (length d.1.labels) d.0 × MarksFine d.0) (a_declaration m role) (λ s t used d k. (declaration_all m c a role s t used d k, head_marks_all false no_locals_yet d.1 used d.0 k.0)))
      (λ d k. done_all TopIs (top.Function (declared d)) (declared_is d k))
  after_word_all begins.Attributes = then_all (λ x. Each (NoAddress role) x.1) TopIs (lift (a_group m.text role)) (λ g. done (top.Group g.0 g.1)) (lifted (λ x. Each (NoAddress role) x.1) (a_group m.text role) (group_all m.text role))
      (λ g k. done_all TopIs (top.Group g.0 g.1) k)

  top_all : All TopIs (a_top m role)
  unfolding TopIs a_top global_top node_top worded
  top_all = if_next_all TopIs (is_kind kind.Global) (global_top m) (if_next (is_kind kind.Meta) (node_top m) (worded m role))
      (then_all (IsGlobal m c a) TopIs (lift (a_global m)) (λ g. done (top.Global g)) (lifted (IsGlobal m c a) (a_global m) (global_all m c a)) (λ g k. done_all TopIs (top.Global g) k))
      (if_next_all TopIs (is_kind kind.Meta) (node_top m) (worded m role) (skip_all TopIs (lift (a_node m.text)) (λ _. done top.Nothing) (λ _. done_all TopIs top.Nothing tt))
      (skip_all TopIs (plain (top_word m.text)) (after_word m role) after_word_all))

  tops_all : All (Each TopIs) (tops m role)
  tops_all = repeat_all TopIs (more_tops m role) (if_next_all (Maybe TopIs) (begins_top m.text) (a_top m role >>= λ x. done (Some x)) (done None) (some_all TopIs (a_top m role) top_all) (done_all (Maybe TopIs) None tt))

  -- ---- the module of forms

  globals_are : (forms : List Top) → Each TopIs forms → list_all (global_formed c) (globals_in forms) ≡ true
  unfolding TopIs
  globals_are [] k = refl
  globals_are (top.Global g ∷ others) k = rw (k.0, globals_are others k.1) refl
  globals_are (top.Function w ∷ others) k = globals_are others k.1
  globals_are (top.Nothing ∷ others) k = globals_are others k.1
  globals_are (top.Layout layout ∷ others) k = globals_are others k.1
  globals_are (top.Group token marks ∷ others) k = globals_are others k.1

  instrs_are : (r l : ℕ) (is : List Instr) → Each (IsInstr m c a role r l) is → list_all (instr_formed (W m c a r l)) is ≡ true
  instrs_are r l [] k = refl
  instrs_are r l (i ∷ is) k = rw (k.0.0, instrs_are r l is k.1) refl

  blocks_are : (r l : ℕ) (bs : List Block) → Each (IsBlock m c a role r l) bs → list_all (block_formed (W m c a r l)) bs ≡ true
  blocks_are r l [] k = refl
  blocks_are r l (b ∷ bs) k = rw (k.0.label, instrs_are r l b.instrs k.0.instrs, blocks_are r l bs k.1) refl

  module _ (text : List ℕ) (all : List Top) where
    functions_are : (forms : List Top) → Each TopIs forms → list_all (function_formed c) (functions_in text (found_in (all_grouped text no_groups all)) forms) ≡ true
    unfolding TopIs
    functions_are [] k = refl
    functions_are (top.Function w ∷ others) k =
        let r = length w.names.registers in
        let l = length w.names.labels in
        rw (k.0.0.head.result, each_true (param_formed (W m c a r l)) w.head.params k.0.0.head.params, blocks_are r l w.blocks k.0.0.blocks, functions_are others k.1) refl
    functions_are (top.Global g ∷ others) k = functions_are others k.1
    functions_are (top.Nothing ∷ others) k = functions_are others k.1
    functions_are (top.Layout layout ∷ others) k = functions_are others k.1
    functions_are (top.Group token marks ∷ others) k = functions_are others k.1

-- ---- nothing is marked

module _ (m : Meaning) (c : Counts) (a : Agrees m c) where
  not_marked : (b : Bool) → IsMark m.text Source b → not b ≡ true
  unfolding Unmarked
  not_marked false k = refl
  not_marked true k = absurd (true≢false k)

  instrs_plain : (r l : ℕ) (is : List Instr) → Each (IsInstr m c a Source r l) is → list_all instr_unmarked is ≡ true
  instrs_plain r l [] k = refl
  instrs_plain r l (i ∷ is) k = rw (not_marked i.inserted k.0.1, instrs_plain r l is k.1) refl

  blocks_plain : (r l : ℕ) (bs : List Block) → Each (IsBlock m c a Source r l) bs → list_all block_unmarked bs ≡ true
  blocks_plain r l [] k = refl
  blocks_plain r l (b ∷ bs) k = rw (instrs_plain r l b.instrs k.0.instrs, blocks_plain r l bs k.1) refl

  no_address_is : (o : Option ℕ) → o ≡ None → no_address o ≡ true
  no_address_is None e = refl
  no_address_is (Some n) e = absurd cc

  group_of_top : (forms : List Top) → Each (TopIs m c a Source) forms → Each (GroupFine m.text Source) forms
  unfolding TopIs GroupFine
  group_of_top [] k = tt
  group_of_top (top.Group token marks ∷ others) k = (k.0, group_of_top others k.1)
  group_of_top (top.Global g ∷ others) k = (tt, group_of_top others k.1)
  group_of_top (top.Function w ∷ others) k = (tt, group_of_top others k.1)
  group_of_top (top.Nothing ∷ others) k = (tt, group_of_top others k.1)
  group_of_top (top.Layout layout ∷ others) k = (tt, group_of_top others k.1)

  module _ (all : List Top) (fine : Each (GroupFine m.text Source) all) where
    functions_plain : (forms : List Top) → Each (TopIs m c a Source) forms → list_all function_unmarked (functions_in m.text (found_in (all_grouped m.text no_groups all)) forms) ≡ true
    unfolding TopIs
    functions_plain [] k = refl
    functions_plain (top.Function w ∷ others) k =
        let e = no_address_is (with_marks m.text (found_in (all_grouped m.text no_groups all)) nothing_set w.head.marks).address (address_none m.text all w.head.marks fine k.0.1) in
        rw (e, blocks_plain (length w.names.registers) (length w.names.labels) w.blocks k.0.0.blocks, functions_plain others k.1) refl
    functions_plain (top.Global g ∷ others) k = functions_plain others k.1
    functions_plain (top.Nothing ∷ others) k = functions_plain others k.1
    functions_plain (top.Layout layout ∷ others) k = functions_plain others k.1
    functions_plain (top.Group token marks ∷ others) k = functions_plain others k.1

-- ---- counts

once_most : (names seen : List (List ℕ)) → length (fold with_name seen names) ≤ length seen + length names
once_most [] seen = let e : length seen + 0 ≡ length seen = omega arith in omega (arith, e)
once_most (name ∷ names) seen = go (is_known seen name) refl (once_most names (with_name seen name))
  where
    go : (b : Bool) → is_known seen name ≡ b → length (fold with_name (with_name seen name) names) ≤ length (with_name seen name) + length names → length (fold with_name (with_name seen name) names) ≤ length seen + length (name ∷ names)
    go true e h = let k : length (with_name seen name) ≡ length seen = ap (λ (b : Bool). length (if b then seen else seen ++ name ∷ [])) e in omega (arith, h, k)
    go false e h =
        let k : length (with_name seen name) ≡ length (seen ++ name ∷ []) = ap (λ (b : Bool). length (if b then seen else seen ++ name ∷ [])) e in
        let l = length-append seen (name ∷ []) in
        omega (arith, h, k, l)

mapped_most : {A : Type 0} (f : A → List ℕ) (xs : List A) (names : List (List ℕ)) → names ≡ names_once (map f xs) → length names ≤ length xs
mapped_most f xs names e =
    let k : length names ≡ length (names_once (map f xs)) = ap length e in
    let h : length (names_once (map f xs)) ≤ 0 + length (map f xs) = once_most (map f xs) [] in
    let l = length-map xs f in
    omega (arith, k, h, l)

-- ---- a whole module

module _ (m : Meaning) (role : Role) (types : List (List ℕ × Ty)) (tokens : List Token) (found : Module) (is : IsModuleOf m role types tokens found)
    (globals : m.globals ≡ (symbols_in m.text tokens).globals) (functions : m.functions ≡ (symbols_in m.text tokens).functions)
    (named : length types ≡ length m.named) (stand : (t : Ty) → resolved m t ≡ stands_for types t) (lower : types_formed 0 types ≡ true) where
  agrees : Agrees m (counts_of found)
  agrees = record {
    globals = mapped_most (λ (g : GlobalVar). g.name) found.globals m.globals (globals ∙ globals_named m role types tokens found is);
    functions = mapped_most (λ (f : Function). f.name) found.functions m.functions (functions ∙ functions_named m role types tokens found is);
    named = ap (λ (f : Module). length f.types) is.is ∙ named;
    types = λ t. stand t ∙ ap (λ (f : Module). stands_for f.types t) (sym is.is);
  }

  tops_are : Each (TopIs m (counts_of found) agrees role) is.forms
  tops_are = tops_all m (counts_of found) agrees role false is.stated tokens is.forms is.meant

  pub module_formed : IsFormed found
  module_formed = record {
    types = ap (λ (f : Module). types_formed 0 f.types) is.is ∙ lower;
    globals = ap (λ (f : Module). list_all (global_formed (counts_of found)) f.globals) is.is ∙ globals_are m (counts_of found) agrees role is.forms tops_are;
    functions = ap (λ (f : Module). list_all (function_formed (counts_of found)) f.functions) is.is ∙ functions_are m (counts_of found) agrees role m.text is.forms is.forms tops_are;
  }

module _ (m : Meaning) (types : List (List ℕ × Ty)) (tokens : List Token) (found : Module) (is : IsModuleOf m Source types tokens found)
    (globals : m.globals ≡ (symbols_in m.text tokens).globals) (functions : m.functions ≡ (symbols_in m.text tokens).functions)
    (named : length types ≡ length m.named) (stand : (t : Ty) → resolved m t ≡ stands_for types t) where
  source_agrees : Agrees m (counts_of found)
  source_agrees = agrees_of
    where
      agrees_of : Agrees m (counts_of found)
      agrees_of = record {
        globals = mapped_most (λ (g : GlobalVar). g.name) found.globals m.globals (globals ∙ globals_named m Source types tokens found is);
        functions = mapped_most (λ (f : Function). f.name) found.functions m.functions (functions ∙ functions_named m Source types tokens found is);
        named = ap (λ (f : Module). length f.types) is.is ∙ named;
        types = λ t. stand t ∙ ap (λ (f : Module). stands_for f.types t) (sym is.is);
      }

  source_tops : Each (TopIs m (counts_of found) source_agrees Source) is.forms
  source_tops = tops_all m (counts_of found) source_agrees Source false is.stated tokens is.forms is.meant

  pub source_unmarked : is_unmarked found ≡ true
  source_unmarked = ap (λ (f : Module). list_all function_unmarked f.functions) is.is
      ∙ functions_plain m (counts_of found) source_agrees is.forms (group_of_top m (counts_of found) source_agrees is.forms source_tops) is.forms source_tops

pub marks_allowed : (m : Meaning) (role : Role) (types : List (List ℕ × Ty)) (tokens : List Token) (found : Module) → IsModuleOf m role types tokens found
    → m.globals ≡ (symbols_in m.text tokens).globals → m.functions ≡ (symbols_in m.text tokens).functions → length types ≡ length m.named → ((t : Ty) → resolved m t ≡ stands_for types t) → MarksAllowed role found
marks_allowed m Source types tokens found is g f n s = source_unmarked m types tokens found is g f n s
marks_allowed m Part types tokens found is g f n s = tt

-- ---- the laws

pub read_formed : (m : Meaning) (role : Role) (types : List (List ℕ × Ty)) (tokens : List Token) (found : Module) → IsModuleOf m role types tokens found → IsTyped m types tokens → IsFormed found
read_formed m role types tokens found is k = module_formed m role types tokens found is k.globals k.functions k.named k.stand k.lower

pub read_marks : (m : Meaning) (role : Role) (types : List (List ℕ × Ty)) (tokens : List Token) (found : Module) → IsModuleOf m role types tokens found → IsTyped m types tokens → MarksAllowed role found
read_marks m role types tokens found is k = marks_allowed m role types tokens found is k.globals k.functions k.named k.stand
