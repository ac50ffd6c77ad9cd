-- What registers, labels, operands and the ends of instructions do to the scan.
use Rattle.std.proofs.Common.{◌≡◌, ℕ, suc, zero, Bool, true, false, not, ◌&&◌, ◌||◌, List, [], ◌∷◌, ◌++◌, bytes_eq, take, codes, Ok, refl, sym, subst}
use Rattle.no_lex.specs.declared.token.Token.{Token}
use Rattle.no_lex.specs.declared.token.TokenKind.TheVariants as kind
use Rattle.no_ir.specs.declared.types.Ty.{Ty}
use Rattle.no_ir.specs.declared.types.Ty.TheVariants as ty
use Rattle.no_ir.specs.declared.function.Role.{Role}
use Rattle.no_ir.specs.declared.instruction.Op.{Op}
use Rattle.no_ir.specs.declared.instruction.Operand.TheVariants as operand
use Rattle.no_read_rules.specs.Rules.{Rule, plain, change, lift, if_next, checked}
use Rattle.no_read_rules.specs.Scope.{Meaning}
use Rattle.no_read_rules.specs.Spelled.{spelled, is_kind, a_word, a_sign}
use Rattle.no_read_rules.specs.Types.{a_type, must_be}
use Rattle.no_read_rules.specs.Unescaped.{name_of}
use Rattle.no_read_constants.specs.Places.{width_of}
use Rattle.no_read_constants.specs.Constants.{a_const}
use Rattle.no_read_attributes.specs.Attributes.{alignment_of}
use Rattle.no_read_registers.specs.declared.locals.Locals.{Locals}
use Rattle.no_read_registers.specs.Numbered.{register_named, register_defined, register_unnamed, label_named, local_name, used_register, a_register, written_register, a_definition, no_name, used_label, a_label_name, a_label, label_by, without_colon, written_label, a_block_label, numbered_label, fitting, no_block_label}
use Rattle.no_read_operations.specs.Folded.{AreSteps, folded}
use Rattle.no_read_operations.specs.Operands.{DEPTH, word, sign, some_type, this_type, a_width, register_operand, const_operand, an_operand, a_pointer, sized_operand}
use Rattle.no_read_operations.specs.Ends.{is_comma, an_alignment, names_node, is_node, node_is, marks, an_attachment, opens_alignment, end_alignment, end_attachment, end_step, ends, end_mark, finish, ended, opens_item, list_item, list_attachment, list_step, listed}
use Rattle.no_read_operations.specs.declared.ends.Ending.{Ending}
use Rattle.no_read_operations.specs.declared.ends.Listed.{Listed}
use Rattle.no_read_names.proofs.Marks.{both, where_true, kind_token, local_so, label_so, meta_token}
use Rattle.no_read_names.proofs.RuleMoves.{Runs, one_at, plain_at, done_runs, change_runs, lift_runs, then_runs, checked_runs, if_next_runs, anywhere, word_runs, sign_runs}
use Rattle.no_read_names.proofs.Spots.{Spot, flat, deep, Moves, moves_none, moves_then, other_moves}
use Rattle.no_read_names.proofs.Types.{type_runs}
use Rattle.no_read_names.proofs.Places.{width_moves}
use Rattle.no_read_names.proofs.Constants.{const_runs}
use Rattle.no_read_names.proofs.Attributes.{alignment_moves}

-- ---- steps

module _ {S A : Type 0} (text : List ℕ) (a : Spot) where
  steps_run : (test : Token → Bool) (step : A → Rule S A) → ((x : A) → Runs text a a (step x)) → (n : ℕ) (s t : S) (used : List Token) (x y : A) → AreSteps test step n s used x y t → Moves text a a used
  steps_run test step h zero s t used x y m = subst (Moves text a a) (sym m.0) (moves_none text a)
  steps_run test step h (suc n) s t used x y m =
      subst (Moves text a a) (sym m.parts) (moves_then text m.front m.back a a a (h x s m.between m.front m.value m.first) (steps_run test step h n m.between t m.back m.value y m.others))

  pub folded_runs : (test : Token → Bool) (step : A → Rule S A) (x : A) → ((x : A) → Runs text a a (step x)) → Runs text a a (folded test step x)
  folded_runs test step x h s t used y m = steps_run test step h m.0 s t used x y m.1

-- ---- words and signs at any place

pub word_at : (text w : List ℕ) (a : Spot) → bytes_eq (codes "define") w ≡ false → bytes_eq (codes "declare") w ≡ false → Runs text a a (word text w)
word_at text w a p q = lift_runs text a a (a_word text w) (anywhere text a (a_word text w) (word_runs text w p q))

pub comma_at : (text : List ℕ) (a : Spot) → Runs text a a (sign text (codes ","))
comma_at text a = lift_runs text a a (a_sign text (codes ",")) (anywhere text a (a_sign text (codes ",")) (sign_runs text (codes ",") refl))

pub equals_at : (text : List ℕ) (a : Spot) → Runs text a a (sign text (codes "="))
equals_at text a = lift_runs text a a (a_sign text (codes "=")) (anywhere text a (a_sign text (codes "=")) (sign_runs text (codes "=") refl))

-- ---- registers and labels

module _ (text : List ℕ) where
  local_moves : (t : Token) → is_kind kind.Local t ≡ true → Moves text flat flat (t ∷ [])
  local_moves t e = other_moves text t (kind_token kind.Local text t local_so e)

  register_runs : Runs text flat flat (a_register text)
  register_runs = one_at (λ _ used. Moves text flat flat used) (used_register text) (λ s t n u e. local_moves u (where_true (is_kind kind.Local u) (Ok (register_named s (local_name text u))) (n, t) e).0)

  pub definition_runs : Runs text flat flat (a_definition text)
  definition_runs = one_at (λ _ used. Moves text flat flat used) (written_register text) (λ s t n u e. local_moves u (where_true (is_kind kind.Local u) (Ok (register_defined s (local_name text u))) (n, t) e).0)

  pub label_name_runs : Runs text flat flat (a_label_name text)
  label_name_runs = one_at (λ _ used. Moves text flat flat used) (used_label text) (λ s t n u e. local_moves u (where_true (is_kind kind.Local u) (Ok (label_named s (local_name text u))) (n, t) e).0)

  pub label_runs : Runs text flat flat (a_label text)
  unfolding a_label
  label_runs = then_runs text flat flat flat (a_word text (codes "label")) (λ _. a_label_name text) (word_runs text (codes "label") refl refl) (λ _. label_name_runs)

  pub block_label_runs : Runs text flat flat (a_block_label text)
  block_label_runs = one_at (λ _ used. Moves text flat flat used) (written_label text)
      (λ s t n u e. other_moves text u (kind_token kind.Label text u label_so (where_true (is_kind kind.Label u) (label_by s (name_of (without_colon (spelled text u)))) (n, t) e).0))

pub no_label_runs : (text : List ℕ) → Runs text flat flat no_block_label
no_label_runs text = checked_runs text flat flat (change numbered_label) fitting (change_runs text flat numbered_label)

pub no_name_runs : (text : List ℕ) (a : Spot) → Runs text a a no_name
no_name_runs text a = change_runs text a register_unnamed

-- ---- operands

module _ (m : Meaning) (a : Spot) where
  pub some_type_runs : Runs m.text a a (some_type m)
  some_type_runs = lift_runs m.text a a (a_type m DEPTH) (anywhere m.text a (a_type m DEPTH) (type_runs m DEPTH))

  pub this_type_runs : (want : Ty) → Runs m.text a a (this_type m want)
  this_type_runs want = lift_runs m.text a a (checked (a_type m DEPTH) (must_be want)) (checked_runs m.text a a (a_type m DEPTH) (must_be want) (anywhere m.text a (a_type m DEPTH) (type_runs m DEPTH)))

  pub a_width_runs : Runs m.text a a (a_width m)
  a_width_runs = lift_runs m.text a a (plain (width_of m.text)) (anywhere m.text a (plain (width_of m.text)) (plain_at (λ _ used. Moves m.text flat flat used) (width_of m.text) (λ w t e. width_moves m.text w t e)))

module _ (m : Meaning) where
  register_operand_runs : Runs m.text deep deep (register_operand m.text)
  unfolding register_operand
  register_operand_runs = then_runs m.text deep deep deep (a_register m.text) _ (anywhere m.text deep (a_register m.text) (register_runs m.text)) (λ register. done_runs m.text deep (operand.Reg register))

  const_operand_runs : (of : Ty) → Runs m.text deep deep (const_operand m of)
  unfolding const_operand
  const_operand_runs of = then_runs m.text deep deep deep (lift (a_const m DEPTH of)) _ (lift_runs m.text deep deep (a_const m DEPTH of) (const_runs m DEPTH of)) (λ constant. done_runs m.text deep (operand.Const constant))

  pub operand_runs : (of : Ty) → Runs m.text deep deep (an_operand m of)
  unfolding an_operand
  operand_runs of = if_next_runs m.text deep deep (is_kind kind.Local) (register_operand m.text) (const_operand m of) register_operand_runs (const_operand_runs of)

  pub pointer_runs : Runs m.text deep deep (a_pointer m)
  unfolding a_pointer
  pointer_runs = then_runs m.text deep deep deep (word m.text (codes "ptr")) _ (word_at m.text (codes "ptr") deep refl refl) (λ _. operand_runs ty.Ptr)

  pub sized_runs : Runs m.text deep deep (sized_operand m)
  unfolding sized_operand
  sized_runs = then_runs m.text deep deep deep (a_width m) _ (a_width_runs m deep)
      (λ width. then_runs m.text deep deep deep (an_operand m (ty.Int width)) _ (operand_runs (ty.Int width)) (λ value. done_runs m.text deep (width, value)))

-- ---- alignments and attachments

module _ (text : List ℕ) where
  pub alignment_runs : Runs text flat flat (an_alignment text)
  unfolding an_alignment
  alignment_runs = then_runs text flat flat flat (a_word text (codes "align")) (λ _. plain (alignment_of text)) (word_runs text (codes "align") refl refl)
      (λ _. plain_at (λ _ used. Moves text flat flat used) (alignment_of text) (λ n t e. alignment_moves text n t e))

  not_true : (b c : Bool) → (not b && c) ≡ true → b ≡ false
  not_true true c e = absurd cc
  not_true false c e = refl

  node_moves : (name : List ℕ) (b : Bool) (t : Token) → node_is text name t ≡ Ok b → Moves text flat flat (t ∷ [])
  node_moves name b t e =
      let i = (where_true (is_node text t) (Ok (bytes_eq (spelled text t) name)) b e).0 in
      let k = both (is_kind kind.Meta t) (names_node (spelled text t)) i in
      other_moves text t (meta_token text t k.0 (not_true (bytes_eq (spelled text t) (codes "!")) (not (bytes_eq (take 3 (spelled text t)) (codes "!DI"))) k.1))

  pub attachment_runs : (role : Role) (inserted : Bool) → Runs text flat flat (an_attachment text role inserted)
  unfolding an_attachment
  attachment_runs role inserted = then_runs text flat flat flat (plain (node_is text (codes "!no.x"))) _ (plain_at (λ _ used. Moves text flat flat used) (node_is text (codes "!no.x")) (λ b t e. node_moves (codes "!no.x") b t e))
      (λ kind. then_runs text flat flat flat (plain (node_is text (codes "!0"))) _ (plain_at (λ _ used. Moves text flat flat used) (node_is text (codes "!0")) (λ b t e. node_moves (codes "!0") b t e))
      (λ node. done_runs text flat (inserted || marks role kind node)))

  end_alignment_runs : (e : Ending) → Runs text flat flat (end_alignment text e)
  unfolding end_alignment
  end_alignment_runs e = then_runs text flat flat flat (an_alignment text) _ alignment_runs (λ _. done_runs text flat (record { aligns = false; inserted = e.inserted }))

  end_attachment_runs : (role : Role) (e : Ending) → Runs text flat flat (end_attachment text role e)
  unfolding end_attachment
  end_attachment_runs role e = then_runs text flat flat flat (an_attachment text role e.inserted) _ (attachment_runs role e.inserted) (λ inserted. done_runs text flat (record { aligns = false; inserted = inserted }))

  end_step_runs : (role : Role) (e : Ending) → Runs text flat flat (end_step text role e)
  unfolding end_step
  end_step_runs role e = then_runs text flat flat flat (a_sign text (codes ",")) (λ _. if_next (opens_alignment text e) (end_alignment text e) (end_attachment text role e)) (sign_runs text (codes ",") refl)
      (λ _. if_next_runs text flat flat (opens_alignment text e) (end_alignment text e) (end_attachment text role e) (end_alignment_runs e) (end_attachment_runs role e))

  pub end_mark_runs : (role : Role) (aligns : Bool) → Runs text flat flat (end_mark text role aligns)
  unfolding end_mark
  end_mark_runs role aligns = then_runs text flat flat flat (ends text role (record { aligns = aligns; inserted = false })) _
      (folded_runs text flat (is_comma text) (end_step text role) (record { aligns = aligns; inserted = false }) (end_step_runs role)) (λ e. done_runs text flat e.inserted)

  pub finish_runs : (role : Role) (aligns : Bool) (op : Op) → Runs text deep deep (finish text role aligns op)
  unfolding finish
  finish_runs role aligns op = then_runs text deep deep deep (lift (end_mark text role aligns)) _ (lift_runs text deep deep (end_mark text role aligns) (anywhere text deep (end_mark text role aligns) (end_mark_runs role aligns))) (λ inserted. done_runs text deep (op, inserted))

  pub ended_runs : (role : Role) (aligns : Bool) (form : Rule Locals Op) → Runs text deep deep form → Runs text deep deep (ended text role aligns form)
  ended_runs role aligns form h = then_runs text deep deep deep form (finish text role aligns) h (finish_runs role aligns)

  module _ {A : Type 0} (role : Role) (item : Rule Locals A) (h : Runs text deep deep item) where
    list_item_runs : (l : Listed A) → Runs text deep deep (list_item item l)
    unfolding list_item
    list_item_runs l = then_runs text deep deep deep item _ h (λ a. done_runs text deep (record { items = l.items ++ a ∷ []; begun = false; inserted = l.inserted }))

    list_attachment_runs : (l : Listed A) → Runs text deep deep (list_attachment text role l)
    unfolding list_attachment
    list_attachment_runs l = then_runs text deep deep deep (lift (an_attachment text role l.inserted)) _ (lift_runs text deep deep (an_attachment text role l.inserted) (anywhere text deep (an_attachment text role l.inserted) (attachment_runs role l.inserted)))
        (λ inserted. done_runs text deep (record { items = l.items; begun = true; inserted = inserted }))

    list_step_runs : (l : Listed A) → Runs text deep deep (list_step text role item l)
    unfolding list_step
    list_step_runs l = then_runs text deep deep deep (sign text (codes ",")) (λ _. if_next (opens_item l) (list_item item l) (list_attachment text role l)) (comma_at text deep)
        (λ _. if_next_runs text deep deep (opens_item l) (list_item item l) (list_attachment text role l) (list_item_runs l) (list_attachment_runs l))

    pub listed_runs : (l : Listed A) → Runs text deep deep (listed text role item l)
    listed_runs l = folded_runs text deep (is_comma text) (list_step text role item) l list_step_runs
