-- What instructions and blocks do to the scan.
use Rattle.std.proofs.Common.{◌≡◌, ℕ, suc, Bool, true, false, not, ◌&&◌, List, [], ◌∷◌, codes, Option, Some, None, is_some, Ok, refl}
use Rattle.no_lex.specs.declared.token.Token.{Token}
use Rattle.no_lex.specs.declared.token.TokenKind.TheVariants as kind
use Rattle.no_ir.specs.declared.types.Ty.{Ty}
use Rattle.no_ir.specs.declared.types.Ty.TheVariants as ty
use Rattle.no_ir.specs.declared.function.Role.{Role}
use Rattle.no_ir.specs.declared.instruction.Instr.{Instr}
use Rattle.no_ir.specs.declared.instruction.Op.TheVariants as op
use Rattle.no_read_rules.specs.Lists.{items}
use Rattle.no_read_rules.specs.Repeated.{repeat}
use Rattle.no_read_rules.specs.Rules.{Rule, plain, lift, if_next}
use Rattle.no_read_rules.specs.Scope.{Meaning}
use Rattle.no_read_rules.specs.Spelled.{spelled, is_kind, is_word, a_sign}
use Rattle.no_read_attributes.specs.Attributes.{all_attributes, all_go_on, skip_attributes}
use Rattle.no_read_registers.specs.declared.locals.Locals.{Locals}
use Rattle.no_read_registers.specs.Numbered.{a_definition, a_block_label, no_block_label}
use Rattle.no_read_operations.specs.Operands.{word, sign, some_type, an_operand}
use Rattle.no_read_operations.specs.Ends.{end_mark}
use Rattle.no_read_operations.specs.Simple.{binary, cast_form, compare, freeze, select}
use Rattle.no_read_operations.specs.Memory as memory
use Rattle.no_read_operations.specs.Flow.{ret, br, switch}
use Rattle.no_read_instructions.specs.Calls.{result_of, behind_attributes, an_argument, call_parts, void_of, void_call, typed_call, call_type, call_form}
use Rattle.no_read_instructions.specs.Heads.{head_word, instr_head}
use Rattle.no_read_instructions.specs.Instructions.{giver_form, action_form, giving, acting, tail_call, after_instr_head, instr_body, named_instr, an_instr}
use Rattle.no_read_instructions.specs.declared.heads.Giver.{Giver}
use Rattle.no_read_instructions.specs.declared.heads.Giver.TheVariants as giver
use Rattle.no_read_instructions.specs.declared.heads.Action.{Action}
use Rattle.no_read_instructions.specs.declared.heads.Action.TheVariants as action
use Rattle.no_read_instructions.specs.declared.heads.InstrHead.{InstrHead}
use Rattle.no_read_instructions.specs.declared.heads.InstrHead.TheVariants as head
use Rattle.no_read_functions.specs.Blocks.{is_close, is_label, blocks_of, closing, label_piece, instr_piece, labelled, unlabelled, a_piece, entry, body}
use Rattle.no_read_functions.specs.declared.blocks.Piece.TheVariants as piece
use Rattle.no_read_names.proofs.Marks.{both, where_true, only_true, a_word_token, no_bracket}
use Rattle.no_read_names.proofs.RuleMoves.{Runs, AllAt, Until, plain_at, done_runs, lift_runs, then_runs, ahead_runs, if_next_at, if_next_runs, repeat_runs, items_run, none_until, some_map, anywhere, below, opens_round, closes_brace, round_closing}
use Rattle.no_read_names.proofs.Spots.{Spot, Round, flat, deep, Moves, moves_anywhere, other_moves, deep_moves}
use Rattle.no_read_names.proofs.Attributes.{attributes_run, skip_runs}
use Rattle.no_read_names.proofs.Operands.{word_at, equals_at, definition_runs, block_label_runs, no_label_runs, no_name_runs, some_type_runs, operand_runs, end_mark_runs, finish_runs, ended_runs}
use Rattle.no_read_names.proofs.Forms.{binary_runs, cast_runs, compare_runs, freeze_runs, select_runs, load_runs, store_runs, address_runs, alloca_runs, ret_runs, br_runs, switch_runs, phi_runs}

-- inside the parentheses of a call
abbrev held : Spot
held = Round (λ d. suc d)

-- ---- calls

behind_runs : {A : Type 0} (text : List ℕ) (a b : Spot) (p : Rule Locals A) → Runs text a b p → Runs text a b (behind_attributes text p)
behind_runs text a b p h = ahead_runs text a a b (all_go_on text) (lift (all_attributes text)) (λ all. p) (lift_runs text a a (all_attributes text) (anywhere text a (all_attributes text) (attributes_run text))) (λ all. h)

result_runs : (text : List ℕ) (o : Option ℕ) → Runs text deep deep (result_of o)
result_runs text (Some register) = done_runs text deep register
result_runs text None = no_name_runs text deep

module _ (m : Meaning) where
  argument_runs : Runs m.text deep deep (an_argument m)
  unfolding an_argument
  argument_runs = then_runs m.text deep deep deep (some_type m) _ (some_type_runs m deep)
      (λ of. then_runs m.text deep deep deep (behind_attributes m.text (an_operand m of)) _ (behind_runs m.text deep deep (an_operand m of) (operand_runs m of)) (λ value. done_runs m.text deep (of, value)))

  void_moves : (written : Bool) (a : Unit {0}) (t : Token) → void_of m.text written t ≡ Ok a → Moves m.text deep deep (t ∷ [])
  void_moves written a t e =
      let k = both (is_word m.text (codes "void") t) (not written) (only_true (is_word m.text (codes "void") t && not written) a e) in
      moves_anywhere m.text deep (t ∷ []) (other_moves m.text t (a_word_token m.text (codes "void") t refl refl k.0))

  module _ (role : Role) where
    parts_run : (of : Ty) (register : Option ℕ) → Runs m.text deep deep (call_parts m role of register)
    unfolding call_parts
    parts_run of register = then_runs m.text deep deep deep (an_operand m ty.Ptr) _ (operand_runs m ty.Ptr)
        (λ callee. then_runs m.text deep held deep (sign m.text (codes "(")) _ (lift_runs m.text deep held (a_sign m.text (codes "(")) (opens_round m.text (λ d. suc d)))
        (λ _. then_runs m.text held deep deep (items m.text (codes ")") (an_argument m)) _ (items_run m.text held deep (codes ")") (round_closing m.text (λ d. suc d)) (an_argument m) (below m.text held (an_argument m) argument_runs))
        (λ arguments. then_runs m.text deep deep deep (lift (skip_attributes m.text)) _ (lift_runs m.text deep deep (skip_attributes m.text) (anywhere m.text deep (skip_attributes m.text) (skip_runs m.text)))
        (λ _. then_runs m.text deep deep deep (lift (end_mark m.text role false)) _ (lift_runs m.text deep deep (end_mark m.text role false) (anywhere m.text deep (end_mark m.text role false) (end_mark_runs m.text role false)))
        (λ inserted. done_runs m.text deep (record { result = register; inserted = inserted; op = op.Call of callee arguments }))))))

    void_runs : (register : Option ℕ) → Runs m.text deep deep (void_call m role register)
    unfolding void_call
    void_runs register = then_runs m.text deep deep deep (lift (plain (void_of m.text (is_some register)))) (λ _. call_parts m role ty.Void None)
        (lift_runs m.text deep deep (plain (void_of m.text (is_some register))) (plain_at (λ _ used. Moves m.text deep deep used) (void_of m.text (is_some register)) (λ a t e. void_moves (is_some register) a t e))) (λ _. parts_run ty.Void None)

    typed_runs : (register : Option ℕ) → Runs m.text deep deep (typed_call m role register)
    unfolding typed_call
    typed_runs register = then_runs m.text deep deep deep (some_type m) _ (some_type_runs m deep)
        (λ of. then_runs m.text deep deep deep (result_of register) _ (result_runs m.text register)
        (λ result. then_runs m.text deep deep deep (call_parts m role of (Some result)) _ (parts_run of (Some result)) (λ call. done_runs m.text deep call)))

    call_runs : (register : Option ℕ) → Runs m.text deep deep (call_form m role register)
    call_runs register = behind_runs m.text deep deep (call_type m role register) (if_next_runs m.text deep deep (is_word m.text (codes "void")) (void_call m role register) (typed_call m role register) (void_runs register) (typed_runs register))

    -- ---- instructions

    giver_runs : (g : Giver) → Runs m.text deep deep (giver_form m role g)
    giver_runs (giver.Binary b) = ended_runs m.text role false (binary m b) (binary_runs m b)
    giver_runs (giver.Cast c) = ended_runs m.text role false (cast_form m c) (cast_runs m c)
    giver_runs giver.Compare = ended_runs m.text role false (compare m) (compare_runs m)
    giver_runs giver.Freeze = ended_runs m.text role false (freeze m) (freeze_runs m)
    giver_runs giver.Select = ended_runs m.text role false (select m) (select_runs m)
    giver_runs giver.Phi = phi_runs m role
    giver_runs giver.Alloca = alloca_runs m role
    giver_runs giver.Load = ended_runs m.text role true (memory.load m) (load_runs m)
    giver_runs giver.Address = address_runs m role

    action_runs : (a : Action) → Runs m.text deep deep (action_form m role a)
    action_runs action.Store = ended_runs m.text role true (memory.store m) (store_runs m)
    action_runs action.Br = ended_runs m.text role false (br m) (br_runs m)
    action_runs action.Switch = ended_runs m.text role false (switch m) (switch_runs m)
    action_runs action.Ret = ended_runs m.text role false (ret m) (ret_runs m)
    action_runs action.Unreachable = finish_runs m.text role false op.Unreachable

    giving_runs : (written : Option ℕ) (g : Giver) → Runs m.text deep deep (giving m role written g)
    unfolding giving
    giving_runs written g = then_runs m.text deep deep deep (result_of written) _ (result_runs m.text written)
        (λ register. then_runs m.text deep deep deep (giver_form m role g) _ (giver_runs g) (λ form. done_runs m.text deep (record { result = Some register; inserted = form.1; op = form.0 })))

    acting_runs : (a : Action) → Runs m.text deep deep (acting m role a)
    unfolding acting
    acting_runs a = then_runs m.text deep deep deep (action_form m role a) _ (action_runs a) (λ form. done_runs m.text deep (record { result = None; inserted = form.1; op = form.0 }))

    tail_runs : (written : Option ℕ) → Runs m.text deep deep (tail_call m role written)
    unfolding tail_call
    tail_runs written = then_runs m.text deep deep deep (word m.text (codes "call")) (λ _. call_form m role written) (word_at m.text (codes "call") deep refl refl) (λ _. call_runs written)

    after_runs : (written : Option ℕ) (h : InstrHead) → Runs m.text deep deep (after_instr_head m role written h)
    after_runs written (head.Gives g) = giving_runs written g
    after_runs written head.Call = call_runs written
    after_runs written head.TailCall = tail_runs written
    after_runs written (head.Acts a) = acting_runs a

    head_moves : (written : Bool) (h : InstrHead) (t : Token) → instr_head m.text written t ≡ Ok h → Moves m.text deep deep (t ∷ [])
    head_moves written h t e = deep_moves m.text t (no_bracket kind.Word m.text t (λ x. refl) (where_true (is_kind kind.Word t) (head_word written (spelled m.text t)) h e).0)

    body_runs : (written : Option ℕ) → Runs m.text deep deep (instr_body m role written)
    unfolding instr_body
    body_runs written = then_runs m.text deep deep deep (lift (plain (instr_head m.text (is_some written)))) (after_instr_head m role written)
        (lift_runs m.text deep deep (plain (instr_head m.text (is_some written))) (plain_at (λ _ used. Moves m.text deep deep used) (instr_head m.text (is_some written)) (λ h t e. head_moves (is_some written) h t e))) (after_runs written)

    named_runs : Runs m.text deep deep (named_instr m role)
    unfolding named_instr
    named_runs = then_runs m.text deep deep deep (a_definition m.text) _ (anywhere m.text deep (a_definition m.text) (definition_runs m.text))
        (λ register. then_runs m.text deep deep deep (sign m.text (codes "=")) _ (equals_at m.text deep)
        (λ _. then_runs m.text deep deep deep (instr_body m role (Some register)) _ (body_runs (Some register)) (λ instr. done_runs m.text deep instr)))

    pub instr_runs : Runs m.text deep deep (an_instr m role)
    unfolding an_instr
    instr_runs = if_next_runs m.text deep deep (is_kind kind.Local) (named_instr m role) (instr_body m role None) named_runs (body_runs None)

-- ---- blocks

module _ (text : List ℕ) (instr : Rule Locals Instr) (h : Runs text deep deep instr) where
  label_at : Runs text deep deep (a_block_label text)
  label_at = anywhere text deep (a_block_label text) (block_label_runs text)

  closing_is : AllAt (Until text deep flat) (closing text)
  unfolding closing
  closing_is = none_until text deep flat (a_sign text (codes "}")) (closes_brace text (λ d. d))

  label_is : AllAt (Until text deep flat) (label_piece text)
  unfolding label_piece
  label_is = some_map text deep flat (a_block_label text) (λ label. piece.Label label) label_at

  instr_is : AllAt (Until text deep flat) (instr_piece instr)
  unfolding instr_piece
  instr_is = some_map text deep flat instr (λ i. piece.Instr i) h

  piece_is : AllAt (Until text deep flat) (a_piece text instr)
  unfolding a_piece
  piece_is = if_next_at (Until text deep flat) (is_close text) (closing text) (if_next is_label (label_piece text) (instr_piece instr)) closing_is (if_next_at (Until text deep flat) is_label (label_piece text) (instr_piece instr) label_is instr_is)

  labelled_runs : Runs text deep deep (labelled text)
  unfolding labelled
  labelled_runs = then_runs text deep deep deep (a_block_label text) _ label_at (λ label. done_runs text deep (label, []))

  unlabelled_runs : Runs text deep deep (unlabelled instr)
  unfolding unlabelled
  unlabelled_runs = then_runs text deep deep deep no_block_label _ (anywhere text deep no_block_label (no_label_runs text))
      (λ label. then_runs text deep deep deep instr _ h (λ first. done_runs text deep (label, first ∷ [])))

  entry_runs : Runs text deep deep (entry text instr)
  unfolding entry
  entry_runs = if_next_runs text deep deep is_label (labelled text) (unlabelled instr) labelled_runs unlabelled_runs

  pub blocks_run : Runs text deep flat (body text instr)
  unfolding body
  blocks_run = then_runs text deep deep flat (entry text instr) _ entry_runs
      (λ first. then_runs text deep flat flat (repeat (a_piece text instr)) _ (repeat_runs text deep flat (a_piece text instr) piece_is) (λ pieces. done_runs text flat (blocks_of first.0 first.1 pieces)))
