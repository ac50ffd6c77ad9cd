-- Blocks, functions and globals that were read are formed.
use Rattle.std.proofs.Common.{◌≡◌, ◌≤◌, ℕ, Bool, true, false, ◌&&◌, ◌||◌, nat_lt, List, [], ◌∷◌, ◌++◌, length, codes, map, Option, Some, None, Result, Ok, Err, refl, sym, ap, subst, ◌∙◌, inl, inr, arith, true≢false}
use Rattle.std.specs.List.{list_all}
use Rattle.no_lex.specs.declared.token.Token.{Token}
use Rattle.no_lex.specs.declared.token.TokenKind.TheVariants as kind
use Rattle.no_ir.specs.declared.function.Role.{Role}
use Rattle.no_ir.specs.declared.function.Role.TheVariants.{Source, Part}
use Rattle.no_ir.specs.declared.function.Block.{Block}
use Rattle.no_ir.specs.declared.function.GlobalVar.{GlobalVar}
use Rattle.no_ir.specs.declared.types.Ty.{Ty, out-Ty}
use Rattle.no_ir.specs.declared.types.Ty.TheOpen.{Ty-F}
use Rattle.no_ir.specs.declared.types.Ty.TheViews.{out-roll-Ty}
use Rattle.no_ir.specs.declared.types.Ty.TheVariants as ty
use Rattle.no_ir.specs.declared.types.Ty.TheVariants.{rolls-Void}
use Rattle.no_ir.specs.declared.constant.Const.{Const}
use Rattle.no_ir.specs.declared.instruction.Instr.{Instr}
use Rattle.no_read_rules.specs.Lists.{items}
use Rattle.no_read_rules.specs.Repeated.{repeat}
use Rattle.no_read_rules.specs.Rules.{Rule, plain, done, ◌>>=◌, lift, choose, if_next, maybe}
use Rattle.no_read_rules.specs.Scope.{Meaning}
use Rattle.no_read_rules.specs.Spelled.{is_kind, is_word, is_sign, a_word, a_sign, only_where}
use Rattle.no_read_rules.specs.Types.{a_type}
use Rattle.no_read_constants.specs.Constants.{a_const}
use Rattle.no_read_constants.specs.Skipped.{behind}
use Rattle.no_read_attributes.specs.Attributes.{alignment_of, string_of, skip_attributes, all_attributes, all_go_on, behind_attributes}
use Rattle.no_read_attributes.specs.Ending.{more_where}
use Rattle.no_read_registers.specs.declared.locals.Locals.{Locals}
use Rattle.no_read_registers.specs.Numbered.{no_locals_yet, a_definition, no_name, a_block_label, no_block_label}
use Rattle.no_read_toplevel.specs.Globals.{is_idle, constant_of, metadata_of, tail_head, after_tail_head, a_tail, is_comma, more_tail, latest, last_of, tails, a_global}
use Rattle.no_read_attributes.specs.Symbols.{symbol_name}
use Rattle.no_read_toplevel.specs.declared.globals.TailHead.{TailHead}
use Rattle.no_read_toplevel.specs.declared.globals.TailHead.TheVariants.{Align, Section, Attachment}
use Rattle.no_read_functions.specs.Heads.{any_name, or_no_name, own_name, place_name, param_name, a_param, params, result_type, words_type, head_marks, a_head}
use Rattle.no_read_functions.specs.declared.heads.Head.{Head}
use Rattle.no_read_functions.specs.Blocks.{is_close, is_label, blocks_of, closing, label_piece, instr_piece, labelled, unlabelled, a_piece, entry, body}
use Rattle.no_read_functions.specs.declared.blocks.Piece.{Piece}
use Rattle.no_read_functions.specs.declared.blocks.Piece.TheVariants as piece
use Rattle.no_read_instructions.specs.Instructions.{an_instr}
use Rattle.no_read_toplevel.specs.Entities.{a_declaration}
use Rattle.no_read_attributes.specs.Own.{inside}
use Rattle.no_read_functions.specs.Functions.{head_body, written, a_function}
use Rattle.no_read_functions.specs.declared.functions.Written.{Written}
use Rattle.no_module.specs.Formed.{Counts, Within, type_formed, result_formed, constant_formed, alignment_formed, global_formed, label_formed, instr_formed, block_formed, param_formed}
use Rattle.no_module.specs.Marks.{instr_unmarked, block_unmarked}
use Rattle.no_module.specs.Scalars.{is_void, void_step}
use Rattle.no_read_formed.proofs.Saying.{All, Each, Maybe, plain_all, done_all, if_next_all, behind_all, then_all, skip_all, repeat_all, some_all, each_true, Grows, Holds, Says, stays_as, goes_on, held, anything, done_says, if_next_says, choose_says, lift_says, lift_any, then_says, skip_says, skip_plain, repeat_says, some_says, items_say, each_push}
use Rattle.no_read_formed.proofs.Types.{IsType}
use Rattle.no_read_formed.proofs.Values.{Agrees, IsTypeHere, IsConst, type_here, const_all}
use Rattle.no_read_formed.proofs.Forms.{IsRegister, IsLabel, definition_says, no_name_says, block_label_says, no_label_says, W, Unmarked, IsMark}
use Rattle.no_read_formed.proofs.Flow.{IsAlignment, alignment_token, IsInstr, instr_says}

module _ (m : Meaning) (c : Counts) (a : Agrees m c) where
  -- ---- globals

  abbrev AlignIs : Option ℕ → Type 0
  AlignIs o = alignment_formed o ≡ true

  after_tail : (h : TailHead) → All AlignIs (after_tail_head m.text h)
  after_tail Align = then_all IsAlignment AlignIs (plain (alignment_of m.text)) (λ n. done (Some n)) (alignment_token m.text) (λ n k. done_all AlignIs (Some n) k)
  after_tail Section = skip_all AlignIs (plain (string_of m.text)) (λ _. done None) (λ _. done_all AlignIs None refl)
  after_tail Attachment = skip_all AlignIs (plain (metadata_of m.text)) (λ _. done None) (λ _. done_all AlignIs None refl)

  tail_all : All AlignIs (a_tail m.text)
  unfolding a_tail
  tail_all = skip_all AlignIs (a_sign m.text (codes ",")) _ (λ _. skip_all AlignIs (plain (tail_head m.text)) _ (λ h. then_all AlignIs AlignIs (after_tail_head m.text h) _ (after_tail h) (λ o k. done_all AlignIs o k)))

  last_is : (found : Option ℕ) (all : List (Option ℕ)) → AlignIs found → Each AlignIs all → AlignIs (last_of found all)
  last_is found [] k e = k
  last_is found (None ∷ others) k e = last_is found others k e.1
  last_is found (Some n ∷ others) k e = last_is (Some n) others e.0 e.1

  tails_all : All AlignIs (tails m.text)
  tails_all = then_all (Each AlignIs) AlignIs (repeat (more_tail m.text)) (λ all. done (last_of None all))
      (repeat_all AlignIs (more_tail m.text) (if_next_all (Maybe AlignIs) (is_comma m.text) (a_tail m.text >>= λ x. done (Some x)) (done None) (some_all AlignIs (a_tail m.text) tail_all) (done_all (Maybe AlignIs) None tt)))
      (λ all k. done_all AlignIs (last_of None all) (last_is None all refl k))

  abbrev pub IsGlobal : GlobalVar → Type 0
  IsGlobal g = global_formed c g ≡ true

  pub global_all : All IsGlobal (a_global m)
  unfolding a_global
  global_all = skip_all IsGlobal (plain (symbol_name m.text)) _ (λ name. skip_all IsGlobal (a_sign m.text (codes "=")) _ (λ _. skip_all IsGlobal (behind (is_idle m.text) (plain (constant_of m.text))) _
      (λ constant. then_all (IsTypeHere m c a) IsGlobal (a_type m 64) _ (type_here m c a 64) (λ t k. then_all (IsConst m c a t) IsGlobal (a_const m 64 t) _ (const_all m c a 64 t)
      (λ init l. then_all AlignIs IsGlobal (tails m.text) _ tails_all (λ align n. done_all IsGlobal (record { name = name; constant = constant; ty = t; init = init; align = align }) (rw (k, l, n) refl)))))))

  module _ (role : Role) where
    -- ---- blocks

    abbrev Instr_ : ℕ → ℕ → Instr → Type 0
    Instr_ r l i = IsInstr m c a role r l i

    PieceIs : ℕ → ℕ → Piece → Type 0
    PieceIs r l (piece.Label k) = IsLabel r l k
    PieceIs r l (piece.Instr i) = Instr_ r l i

    pub record IsBlock (r l : ℕ) (b : Block) : Type 0 where
      pub label : IsLabel r l b.label
      pub instrs : Each (Instr_ r l) b.instrs

    parted : (r l k : ℕ) (is : List Instr) (ps : List Piece) → IsLabel r l k → Each (Instr_ r l) is → Each (PieceIs r l) ps → Each (IsBlock r l) (blocks_of k is ps)
    unfolding PieceIs
    parted r l k is [] p q e = (record { label = p; instrs = q }, tt)
    parted r l k is (piece.Label j ∷ ps) p q e = (record { label = p; instrs = q }, parted r l j [] ps e.0 tt e.1)
    parted r l k is (piece.Instr i ∷ ps) p q e = parted r l k (is ++ i ∷ []) ps p (each_push (Instr_ r l) is i q e.0) e.1

    piece_says : Says (λ r l. Maybe (PieceIs r l)) (a_piece m.text (an_instr m role))
    unfolding a_piece closing label_piece instr_piece PieceIs
    piece_says = if_next_says (λ r l. Maybe (PieceIs r l)) (is_close m.text) (closing m.text) (if_next is_label (label_piece m.text) (instr_piece (an_instr m role)))
        (skip_plain (λ r l. Maybe (PieceIs r l)) (λ token. only_where (is_sign m.text (codes "}") token)) (λ _. done None) (λ _. done_says (λ r l. Maybe (PieceIs r l)) None (λ r l. tt)))
        (if_next_says (λ r l. Maybe (PieceIs r l)) is_label (label_piece m.text) (instr_piece (an_instr m role))
        (then_says IsLabel (λ r l. Maybe (PieceIs r l)) (a_block_label m.text) (λ label. done (Some (piece.Label label))) (block_label_says m.text) (λ k. done_says (λ r l x. IsLabel r l k → Maybe (PieceIs r l) x) (Some (piece.Label k)) (λ r l e. e)))
        (then_says Instr_ (λ r l. Maybe (PieceIs r l)) (an_instr m role) (λ i. done (Some (piece.Instr i))) (instr_says m c a role) (λ i. done_says (λ r l x. Instr_ r l i → Maybe (PieceIs r l) x) (Some (piece.Instr i)) (λ r l e. e))))

    abbrev Entry : ℕ → ℕ → ℕ × List Instr → Type 0
    Entry r l x = IsLabel r l x.0 × Each (Instr_ r l) x.1

    entry_says : Says Entry (entry m.text (an_instr m role))
    unfolding entry labelled unlabelled
    entry_says = if_next_says Entry is_label (labelled m.text) (unlabelled (an_instr m role))
        (then_says IsLabel Entry (a_block_label m.text) (λ label. done (label, [])) (block_label_says m.text) (λ k. done_says (λ r l x. IsLabel r l k → Entry r l x) (k, []) (λ r l e. (e, tt))))
        (then_says IsLabel Entry no_block_label _ no_label_says (λ k. then_says Instr_ (λ r l x. IsLabel r l k → Entry r l x) (an_instr m role) _ (instr_says m c a role)
        (λ i. done_says (λ r l x. Instr_ r l i → IsLabel r l k → Entry r l x) (k, i ∷ []) (λ r l e f. (f, (e, tt))))))

    body_says : Says (λ r l. Each (IsBlock r l)) (body m.text (an_instr m role))
    unfolding body
    body_says = then_says Entry (λ r l. Each (IsBlock r l)) (entry m.text (an_instr m role)) _ entry_says
        (λ x. then_says (λ r l. Each (PieceIs r l)) (λ r l all. Entry r l x → Each (IsBlock r l) all) (repeat (a_piece m.text (an_instr m role))) _ (repeat_says PieceIs (a_piece m.text (an_instr m role)) piece_says)
        (λ ps. done_says (λ r l all. Each (PieceIs r l) ps → Entry r l x → Each (IsBlock r l) all) (blocks_of x.0 x.1 ps) (λ r l e f. parted r l x.0 x.1 ps f.0 f.1 e)))

    -- ---- heads

    own_says : Says IsRegister (own_name m.text)
    unfolding own_name
    own_says = then_says (λ r l. Maybe (IsRegister r l)) IsRegister (maybe (is_kind kind.Local) (a_definition m.text)) or_no_name
        (if_next_says (λ r l. Maybe (IsRegister r l)) (is_kind kind.Local) (a_definition m.text >>= λ x. done (Some x)) (done None) (some_says IsRegister (a_definition m.text) (definition_says m.text)) (done_says (λ r l. Maybe (IsRegister r l)) None (λ r l. tt)))
        (λ o. or_says o)
      where
        or_says : (o : Option ℕ) → Says (λ r l k. Maybe (IsRegister r l) o → IsRegister r l k) (or_no_name o)
        or_says (Some k) = done_says (λ r l j. IsRegister r l k → IsRegister r l j) k (λ r l e. e)
        or_says None = λ s t used k h. let x = no_name_says s t used k h in (x.0, λ r l z e. x.1 r l z)

    any_says : Says anything (maybe (is_kind kind.Local) any_name)
    any_says = if_next_says anything (is_kind kind.Local) (any_name >>= λ x. done (Some x)) (done None)
        (skip_plain anything (λ token. only_where (is_kind kind.Local token)) (λ x. done (Some x)) (λ x. done_says anything (Some x) (λ r l. tt))) (done_says anything None (λ r l. tt))

    place_says : Says IsRegister place_name
    unfolding place_name
    place_says = then_says anything IsRegister (maybe (is_kind kind.Local) any_name) (λ _. no_name) any_says (λ _ s t used k h. let x = no_name_says s t used k h in (x.0, λ r l z e. x.1 r l z))

    abbrev IsParam : ℕ → ℕ → ℕ × Ty → Type 0
    IsParam r l p = param_formed (W m c a r l) p ≡ true

    param_says : (named : Bool) → Says IsParam (a_param m named)
    unfolding a_param
    param_says named = then_says (λ r l. IsTypeHere m c a) IsParam (lift (a_type m 64)) _ (lift_says (IsTypeHere m c a) (a_type m 64) (type_here m c a 64))
        (λ t. skip_says (λ r l p. IsTypeHere m c a t → IsParam r l p) (skip_attributes m.text) _
        (λ _. then_says IsRegister (λ r l p. IsTypeHere m c a t → IsParam r l p) (param_name m.text named) _ (choose_says IsRegister named (own_name m.text) place_name own_says place_says)
        (λ k. done_says (λ r l p. IsRegister r l k → IsTypeHere m c a t → IsParam r l p) (k, t) (λ r l e f. rw (e, f) refl))))

    params_say : (named : Bool) → Says (λ r l. Each (IsParam r l)) (params m named)
    unfolding params
    params_say named = skip_plain (λ r l. Each (IsParam r l)) (λ token. only_where (is_sign m.text (codes "(") token)) (λ _. items m.text (codes ")") (a_param m named)) (λ _. items_say IsParam m.text (codes ")") (a_param m named) (param_says named))

    abbrev IsResult : Ty → Type 0
    IsResult t = result_formed (length c.types) t ≡ true

    void_result : IsResult ty.Void
    void_result = go (is_void ty.Void) (ap void_step (ap out-Ty (sym rolls-Void) ∙ out-roll-Ty Ty-F.Void))
      where
        go : (b : Bool) → b ≡ true → (b || type_formed (length c.types) ty.Void) ≡ true
        go true e = refl
        go false e = absurd cc

    type_result : (t : Ty) → IsTypeHere m c a t → IsResult t
    type_result t e = go (is_void t)
      where
        go : (b : Bool) → (b || type_formed (length c.types) t) ≡ true
        go true = refl
        go false = e

    result_all : All IsResult (result_type m)
    unfolding result_type
    result_all = if_next_all IsResult (is_word m.text (codes "void")) (a_word m.text (codes "void") >>= λ _. done ty.Void) (a_type m 64)
        (skip_all IsResult (a_word m.text (codes "void")) (λ _. done ty.Void) (λ _. done_all IsResult ty.Void void_result)) (λ s t used x k. type_result x (type_here m c a 64 s t used x k))

    words_all : All IsResult (words_type m)
    unfolding words_type
    words_all s t used x k = result_all k.between t k.back x k.in_back

    pub record IsHead (r l : ℕ) (h : Head) : Type 0 where
      pub result : IsResult h.result
      pub params : Each (IsParam r l) h.params

    pub head_says : (named : Bool) → Says IsHead (a_head m role named)
    unfolding a_head
    head_says named = then_says (λ r l. IsResult) IsHead (lift (words_type m)) _ (lift_says IsResult (words_type m) words_all)
        (λ t. skip_says (λ r l h. IsResult t → IsHead r l h) (plain (symbol_name m.text)) _
        (λ name. then_says (λ r l. Each (IsParam r l)) (λ r l h. IsResult t → IsHead r l h) (params m named) _ (params_say named)
        (λ all. skip_says (λ r l h. Each (IsParam r l) all → IsResult t → IsHead r l h) (head_marks m role) _
        (λ marks. done_says (λ r l h. Each (IsParam r l) all → IsResult t → IsHead r l h) (record { name = name; result = t; params = all; marks = marks }) (λ r l e f. record { result = f; params = e })))))

    -- ---- functions

    pub record IsWritten (w : Written) : Type 0 where
      pub head : IsHead (length w.names.registers) (length w.names.labels) w.head
      pub blocks : Each (IsBlock (length w.names.registers) (length w.names.labels)) w.blocks

    abbrev Whole : ℕ → ℕ → Head × List Block → Type 0
    Whole r l x = IsHead r l x.0 × Each (IsBlock r l) x.1

    whole_says : Says Whole (head_body m role)
    unfolding head_body
    whole_says = then_says IsHead Whole (a_head m role true) _ (head_says true) (λ h. skip_plain (λ r l x. IsHead r l h → Whole r l x) (λ token. only_where (is_sign m.text (codes "{") token)) _
        (λ _. then_says (λ r l. Each (IsBlock r l)) (λ r l x. IsHead r l h → Whole r l x) (body m.text (an_instr m role)) _ body_says
        (λ all. done_says (λ r l x. Each (IsBlock r l) all → IsHead r l h → Whole r l x) (h, all) (λ r l e f. (f, e)))))

    all_held : (t : Locals) → Holds t (length t.registers) (length t.labels)
    all_held t = record { registers = same (length t.registers); labels = same (length t.labels) }
      where
        same : (n : ℕ) → n ≤ n
        same n = omega arith

    pub function_all : All IsWritten (a_function m role)
    unfolding a_function
    function_all = then_all (λ f. Whole (length f.1.registers) (length f.1.labels) f.0) IsWritten (inside no_locals_yet (head_body m role)) (λ f. done (written f))
        (λ s t used f k. (whole_says no_locals_yet f.1 used f.0 k.0).1 (length f.1.registers) (length f.1.labels) (all_held f.1))
        (λ f k. done_all IsWritten (written f) (record { head = k.0; blocks = k.1 }))

    pub declaration_all : All (λ d. IsHead (length d.1.registers) (length d.1.labels) d.0) (a_declaration m role)
    declaration_all s t used d k = (head_says false no_locals_yet d.1 used d.0 k.0).1 (length d.1.registers) (length d.1.labels) (all_held d.1)
