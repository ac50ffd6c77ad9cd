-- What the forms of instructions do to the scan.
use Rattle.std.proofs.Common.{◌≡◌, ℕ, suc, Bool, true, false, ◌&&◌, ◌||◌, List, [], ◌∷◌, bytes_eq, codes, Some, None, Ok, is_ok, ok_or, refl, ap}
use Rattle.no_lex.specs.declared.token.Token.{Token}
use Rattle.no_lex.specs.declared.token.TokenKind.TheVariants as kind
use Rattle.no_ir.specs.declared.types.Ty.{Ty}
use Rattle.no_ir.specs.declared.types.Ty.TheVariants as ty
use Rattle.no_ir.specs.declared.function.Role.{Role}
use Rattle.no_ir.specs.declared.instruction.BinOp.{BinOp}
use Rattle.no_ir.specs.declared.instruction.CastOp.{CastOp}
use Rattle.no_ir.specs.declared.instruction.Pred.{Pred}
use Rattle.no_ir.specs.declared.instruction.Op.TheVariants as op
use Rattle.no_words.specs.Words.{pred_named}
use Rattle.no_read_rules.specs.declared.fault.Flaw.TheVariants.{Syntax}
use Rattle.no_read_rules.specs.Repeated.{repeat}
use Rattle.no_read_rules.specs.Rules.{plain, lift, if_next, checked}
use Rattle.no_read_rules.specs.Scope.{Meaning}
use Rattle.no_read_rules.specs.Spelled.{spelled, is_kind, is_word, is_sign, a_sign}
use Rattle.no_read_constants.specs.Places.{width_of, number_at, is_flag}
use Rattle.no_read_registers.specs.Numbered.{a_label, a_label_name}
use Rattle.no_read_operations.specs.declared.operands.Flags.{Flags}
use Rattle.no_read_operations.specs.declared.operands.Flags.TheVariants as flags
use Rattle.no_read_operations.specs.declared.memory.AllocaEnd.{AllocaEnd}
use Rattle.no_read_operations.specs.Operands.{word, sign, some_type, this_type, a_width, an_operand, a_pointer, sized_operand, is_flag_word}
use Rattle.no_read_operations.specs.Ends.{is_comma, an_alignment, an_attachment, listed}
use Rattle.no_read_operations.specs.Folded.{folded}
use Rattle.no_read_operations.specs.Simple.{binary_flags, binary_parts, binary, cast_flags, cast_parts, cast_form, pred_of, compare_parts, compare, freeze, select}
use Rattle.no_read_operations.specs.Memory.{is_volatile, load_parts, volatile_load, load, store_parts, volatile_store, store, address_parts, address, opens_alignment, opens_count, stated_alignment, stated_count, alloca_attachment, count_or_attachment, alloca_step, alloca_start, alloca}
use Rattle.no_read_operations.specs.Flow.{return_void, return_value, ret, branch, branch_if, br, same_width, a_case, no_case, one_case, more_case, switch, a_pair, phi}
use Rattle.no_read_names.proofs.Marks.{where_true, word_token, a_word_token}
use Rattle.no_read_names.proofs.RuleMoves.{Runs, AllAt, Until, plain_at, done_runs, lift_runs, then_runs, checked_runs, if_next_at, if_next_runs, some_map, none_until, repeat_runs, behind_runs, anywhere, below, opens_square, closes_square}
use Rattle.no_read_names.proofs.Spots.{Spot, Here, flat, deep, Moves, moves_anywhere, other_moves}
use Rattle.no_read_names.proofs.Places.{flag_moves, width_moves, number_moves}
use Rattle.no_read_names.proofs.Operands.{folded_runs, word_at, comma_at, label_name_runs, label_runs, some_type_runs, this_type_runs, a_width_runs, operand_runs, pointer_runs, sized_runs, alignment_runs, attachment_runs, listed_runs}

-- ---- words without an effect

two_words : (a p q : Bool) → ((a && p) || (a && q)) ≡ true → (a ≡ true) × ((p || q) ≡ true)
two_words true p q e = (refl, e)
two_words false p q e = absurd cc

flag_word_moves : (text : List ℕ) (f : Flags) (t : Token) → is_flag_word text f t ≡ true → Moves text deep deep (t ∷ [])
flag_word_moves text f t e = moves_anywhere text deep (t ∷ []) (go f e)
  where
    go : (g : Flags) → is_flag_word text g t ≡ true → Moves text flat flat (t ∷ [])
    go flags.Nothing i = absurd cc
    go flags.Wrapping i =
        let k = two_words (is_kind kind.Word t) (bytes_eq (spelled text t) (codes "nsw")) (bytes_eq (spelled text t) (codes "nuw")) i in
        other_moves text t (word_token text t (λ w. bytes_eq w (codes "nsw") || bytes_eq w (codes "nuw")) refl refl k.0 k.1)
    go flags.Exact i = other_moves text t (a_word_token text (codes "exact") t refl refl i)
    go flags.Disjoint i = other_moves text t (a_word_token text (codes "disjoint") t refl refl i)
    go flags.NonNegative i = other_moves text t (a_word_token text (codes "nneg") t refl refl i)
    go flags.SameSign i = other_moves text t (a_word_token text (codes "samesign") t refl refl i)

-- inside two brackets
abbrev deeper : Spot
deeper = Here (λ d. suc (suc d))

module _ (m : Meaning) where
  -- ---- operations on values

  binary_parts_run : (b : BinOp) → Runs m.text deep deep (binary_parts m b)
  unfolding binary_parts
  binary_parts_run b = then_runs m.text deep deep deep (a_width m) _ (a_width_runs m deep)
      (λ width. then_runs m.text deep deep deep (an_operand m (ty.Int width)) _ (operand_runs m (ty.Int width))
      (λ first. then_runs m.text deep deep deep (sign m.text (codes ",")) _ (comma_at m.text deep)
      (λ _. then_runs m.text deep deep deep (an_operand m (ty.Int width)) _ (operand_runs m (ty.Int width)) (λ second. done_runs m.text deep (op.Binary b width first second)))))

  pub binary_runs : (b : BinOp) → Runs m.text deep deep (binary m b)
  binary_runs b = behind_runs m.text deep deep (is_flag_word m.text (binary_flags b)) (binary_parts m b) (flag_word_moves m.text (binary_flags b)) (binary_parts_run b)

  cast_parts_run : (c : CastOp) → Runs m.text deep deep (cast_parts m c)
  unfolding cast_parts
  cast_parts_run c = then_runs m.text deep deep deep (some_type m) _ (some_type_runs m deep)
      (λ from. then_runs m.text deep deep deep (an_operand m from) _ (operand_runs m from)
      (λ value. then_runs m.text deep deep deep (word m.text (codes "to")) _ (word_at m.text (codes "to") deep refl refl)
      (λ _. then_runs m.text deep deep deep (some_type m) _ (some_type_runs m deep) (λ target. done_runs m.text deep (op.Cast c from value target)))))

  pub cast_runs : (c : CastOp) → Runs m.text deep deep (cast_form m c)
  cast_runs c = behind_runs m.text deep deep (is_flag_word m.text (cast_flags c)) (cast_parts m c) (flag_word_moves m.text (cast_flags c)) (cast_parts_run c)

  pred_moves : (p : Pred) (t : Token) → pred_of m.text t ≡ Ok p → Moves m.text deep deep (t ∷ [])
  pred_moves p t e =
      let k = where_true (is_kind kind.Word t) (ok_or (pred_named (spelled m.text t)) Syntax) p e in
      moves_anywhere m.text deep (t ∷ []) (other_moves m.text t (word_token m.text t (λ w. is_ok (ok_or (pred_named w) Syntax)) refl refl k.0 (ap is_ok k.1)))

  compare_parts_run : Runs m.text deep deep (compare_parts m)
  unfolding compare_parts
  compare_parts_run = then_runs m.text deep deep deep (lift (plain (pred_of m.text))) _ (lift_runs m.text deep deep (plain (pred_of m.text)) (plain_at (λ _ used. Moves m.text deep deep used) (pred_of m.text) (λ p t e. pred_moves p t e)))
      (λ pred. then_runs m.text deep deep deep (some_type m) _ (some_type_runs m deep)
      (λ of. then_runs m.text deep deep deep (an_operand m of) _ (operand_runs m of)
      (λ first. then_runs m.text deep deep deep (sign m.text (codes ",")) _ (comma_at m.text deep)
      (λ _. then_runs m.text deep deep deep (an_operand m of) _ (operand_runs m of) (λ second. done_runs m.text deep (op.Compare pred of first second))))))

  pub compare_runs : Runs m.text deep deep (compare m)
  compare_runs = behind_runs m.text deep deep (is_flag_word m.text flags.SameSign) (compare_parts m) (flag_word_moves m.text flags.SameSign) compare_parts_run

  pub freeze_runs : Runs m.text deep deep (freeze m)
  unfolding freeze
  freeze_runs = then_runs m.text deep deep deep (some_type m) _ (some_type_runs m deep) (λ of. then_runs m.text deep deep deep (an_operand m of) _ (operand_runs m of) (λ value. done_runs m.text deep (op.Freeze of value)))

  pub select_runs : Runs m.text deep deep (select m)
  unfolding select
  select_runs = then_runs m.text deep deep deep (word m.text (codes "i1")) _ (word_at m.text (codes "i1") deep refl refl)
      (λ _. then_runs m.text deep deep deep (an_operand m (ty.Int 1)) _ (operand_runs m (ty.Int 1))
      (λ condition. then_runs m.text deep deep deep (sign m.text (codes ",")) _ (comma_at m.text deep)
      (λ _. then_runs m.text deep deep deep (some_type m) _ (some_type_runs m deep)
      (λ of. then_runs m.text deep deep deep (an_operand m of) _ (operand_runs m of)
      (λ first. then_runs m.text deep deep deep (sign m.text (codes ",")) _ (comma_at m.text deep)
      (λ _. then_runs m.text deep deep deep (this_type m of) _ (this_type_runs m deep of)
      (λ _. then_runs m.text deep deep deep (an_operand m of) _ (operand_runs m of) (λ second. done_runs m.text deep (op.Select condition of first second)))))))))

  -- ---- memory

  load_parts_run : (volatile : Bool) → Runs m.text deep deep (load_parts m volatile)
  unfolding load_parts
  load_parts_run volatile = then_runs m.text deep deep deep (some_type m) _ (some_type_runs m deep)
      (λ of. then_runs m.text deep deep deep (sign m.text (codes ",")) _ (comma_at m.text deep)
      (λ _. then_runs m.text deep deep deep (a_pointer m) _ (pointer_runs m) (λ place. done_runs m.text deep (op.Load volatile of place))))

  volatile_load_runs : Runs m.text deep deep (volatile_load m)
  unfolding volatile_load
  volatile_load_runs = then_runs m.text deep deep deep (word m.text (codes "volatile")) (λ _. load_parts m true) (word_at m.text (codes "volatile") deep refl refl) (λ _. load_parts_run true)

  pub load_runs : Runs m.text deep deep (load m)
  load_runs = if_next_runs m.text deep deep (is_volatile m.text) (volatile_load m) (load_parts m false) volatile_load_runs (load_parts_run false)

  store_parts_run : (volatile : Bool) → Runs m.text deep deep (store_parts m volatile)
  unfolding store_parts
  store_parts_run volatile = then_runs m.text deep deep deep (some_type m) _ (some_type_runs m deep)
      (λ of. then_runs m.text deep deep deep (an_operand m of) _ (operand_runs m of)
      (λ value. then_runs m.text deep deep deep (sign m.text (codes ",")) _ (comma_at m.text deep)
      (λ _. then_runs m.text deep deep deep (a_pointer m) _ (pointer_runs m) (λ place. done_runs m.text deep (op.Store volatile of value place)))))

  volatile_store_runs : Runs m.text deep deep (volatile_store m)
  unfolding volatile_store
  volatile_store_runs = then_runs m.text deep deep deep (word m.text (codes "volatile")) (λ _. store_parts m true) (word_at m.text (codes "volatile") deep refl refl) (λ _. store_parts_run true)

  pub store_runs : Runs m.text deep deep (store m)
  store_runs = if_next_runs m.text deep deep (is_volatile m.text) (volatile_store m) (store_parts m false) volatile_store_runs (store_parts_run false)

  module _ (role : Role) where
    address_parts_run : Runs m.text deep deep (address_parts m role)
    unfolding address_parts
    address_parts_run = then_runs m.text deep deep deep (some_type m) _ (some_type_runs m deep)
        (λ base. then_runs m.text deep deep deep (sign m.text (codes ",")) _ (comma_at m.text deep)
        (λ _. then_runs m.text deep deep deep (a_pointer m) _ (pointer_runs m)
        (λ place. then_runs m.text deep deep deep (sign m.text (codes ",")) _ (comma_at m.text deep)
        (λ _. then_runs m.text deep deep deep (sized_operand m) _ (sized_runs m)
        (λ first. then_runs m.text deep deep deep (listed m.text role (sized_operand m) (record { items = first ∷ []; begun = false; inserted = false })) _
        (listed_runs m.text role (sized_operand m) (sized_runs m) (record { items = first ∷ []; begun = false; inserted = false })) (λ all. done_runs m.text deep (op.Gep base place all.items, all.inserted)))))))

    pub address_runs : Runs m.text deep deep (address m role)
    address_runs = behind_runs m.text deep deep (is_flag m.text) (address_parts m role) (λ t e. moves_anywhere m.text deep (t ∷ []) (flag_moves m.text t e)) address_parts_run

    alignment_part_runs : (e : AllocaEnd) → Runs m.text deep deep (stated_alignment m.text e)
    unfolding stated_alignment
    alignment_part_runs e = then_runs m.text deep deep deep (lift (an_alignment m.text)) _ (lift_runs m.text deep deep (an_alignment m.text) (anywhere m.text deep (an_alignment m.text) (alignment_runs m.text)))
        (λ n. done_runs m.text deep (record { counts = false; aligns = false; count = e.count; align = Some n; inserted = e.inserted }))

    count_part_runs : (e : AllocaEnd) → Runs m.text deep deep (stated_count m e)
    unfolding stated_count
    count_part_runs e = then_runs m.text deep deep deep (sized_operand m) _ (sized_runs m) (λ n. done_runs m.text deep (record { counts = false; aligns = e.aligns; count = Some n; align = e.align; inserted = e.inserted }))

    attachment_part_runs : (e : AllocaEnd) → Runs m.text deep deep (alloca_attachment m.text role e)
    unfolding alloca_attachment
    attachment_part_runs e = then_runs m.text deep deep deep (lift (an_attachment m.text role e.inserted)) _ (lift_runs m.text deep deep (an_attachment m.text role e.inserted) (anywhere m.text deep (an_attachment m.text role e.inserted) (attachment_runs m.text role e.inserted)))
        (λ inserted. done_runs m.text deep (record { counts = false; aligns = false; count = e.count; align = e.align; inserted = inserted }))

    alloca_step_runs : (e : AllocaEnd) → Runs m.text deep deep (alloca_step m role e)
    unfolding alloca_step
    alloca_step_runs e = then_runs m.text deep deep deep (sign m.text (codes ",")) (λ _. if_next (opens_alignment m.text e) (stated_alignment m.text e) (count_or_attachment m role e)) (comma_at m.text deep)
        (λ _. if_next_runs m.text deep deep (opens_alignment m.text e) (stated_alignment m.text e) (count_or_attachment m role e) (alignment_part_runs e)
        (if_next_runs m.text deep deep (opens_count e) (stated_count m e) (alloca_attachment m.text role e) (count_part_runs e) (attachment_part_runs e)))

    pub alloca_runs : Runs m.text deep deep (alloca m role)
    unfolding alloca
    alloca_runs = then_runs m.text deep deep deep (some_type m) _ (some_type_runs m deep)
        (λ of. then_runs m.text deep deep deep (folded (is_comma m.text) (alloca_step m role) alloca_start) _ (folded_runs m.text deep (is_comma m.text) (alloca_step m role) alloca_start alloca_step_runs)
        (λ e. done_runs m.text deep (op.Alloca of e.count e.align, e.inserted)))

  -- ---- control flow

  return_void_runs : Runs m.text deep deep (return_void m)
  unfolding return_void
  return_void_runs = then_runs m.text deep deep deep (word m.text (codes "void")) _ (word_at m.text (codes "void") deep refl refl) (λ _. done_runs m.text deep (op.Ret None))

  return_value_runs : Runs m.text deep deep (return_value m)
  unfolding return_value
  return_value_runs = then_runs m.text deep deep deep (some_type m) _ (some_type_runs m deep) (λ of. then_runs m.text deep deep deep (an_operand m of) _ (operand_runs m of) (λ value. done_runs m.text deep (op.Ret (Some (of, value)))))

  pub ret_runs : Runs m.text deep deep (ret m)
  ret_runs = if_next_runs m.text deep deep (is_word m.text (codes "void")) (return_void m) (return_value m) return_void_runs return_value_runs

  label_at : (a : Spot) → Runs m.text a a (a_label m.text)
  label_at a = anywhere m.text a (a_label m.text) (label_runs m.text)

  branch_runs : Runs m.text deep deep (branch m)
  unfolding branch
  branch_runs = then_runs m.text deep deep deep (a_label m.text) _ (label_at deep) (λ label. done_runs m.text deep (op.Br label))

  branch_if_runs : Runs m.text deep deep (branch_if m)
  unfolding branch_if
  branch_if_runs = then_runs m.text deep deep deep (word m.text (codes "i1")) _ (word_at m.text (codes "i1") deep refl refl)
      (λ _. then_runs m.text deep deep deep (an_operand m (ty.Int 1)) _ (operand_runs m (ty.Int 1))
      (λ condition. then_runs m.text deep deep deep (sign m.text (codes ",")) _ (comma_at m.text deep)
      (λ _. then_runs m.text deep deep deep (a_label m.text) _ (label_at deep)
      (λ first. then_runs m.text deep deep deep (sign m.text (codes ",")) _ (comma_at m.text deep)
      (λ _. then_runs m.text deep deep deep (a_label m.text) _ (label_at deep) (λ second. done_runs m.text deep (op.CondBr condition first second)))))))

  pub br_runs : Runs m.text deep deep (br m)
  br_runs = if_next_runs m.text deep deep (is_word m.text (codes "label")) (branch m) (branch_if m) branch_runs branch_if_runs

  case_runs : (width : ℕ) → Runs m.text deeper deeper (a_case m width)
  unfolding a_case
  case_runs width = then_runs m.text deeper deeper deeper (lift (checked (plain (width_of m.text)) (same_width width))) _
      (lift_runs m.text deeper deeper (checked (plain (width_of m.text)) (same_width width)) (checked_runs m.text deeper deeper (plain (width_of m.text)) (same_width width) (anywhere m.text deeper (plain (width_of m.text)) (plain_at (λ _ used. Moves m.text flat flat used) (width_of m.text) (λ w t e. width_moves m.text w t e)))))
      (λ _. then_runs m.text deeper deeper deeper (lift (plain (number_at m.text width))) _
      (lift_runs m.text deeper deeper (plain (number_at m.text width)) (anywhere m.text deeper (plain (number_at m.text width)) (plain_at (λ _ used. Moves m.text flat flat used) (number_at m.text width) (λ n t e. number_moves m.text width n t e))))
      (λ number. then_runs m.text deeper deeper deeper (sign m.text (codes ",")) _ (comma_at m.text deeper)
      (λ _. then_runs m.text deeper deeper deeper (a_label m.text) _ (label_at deeper) (λ label. done_runs m.text deeper (number, label)))))

  no_case_is : AllAt (Until m.text deeper deep) (no_case m)
  unfolding no_case
  no_case_is = none_until m.text deeper deep (sign m.text (codes "]")) (lift_runs m.text deeper deep (a_sign m.text (codes "]")) (closes_square m.text (λ d. suc d)))

  one_case_is : (width : ℕ) → AllAt (Until m.text deeper deep) (one_case m width)
  unfolding one_case
  one_case_is width = some_map m.text deeper deep (a_case m width) (λ c. c) (case_runs width)

  cases_run : (width : ℕ) → Runs m.text deeper deep (repeat (more_case m width))
  cases_run width = repeat_runs m.text deeper deep (more_case m width) (if_next_at (Until m.text deeper deep) (is_sign m.text (codes "]")) (no_case m) (one_case m width) no_case_is (one_case_is width))

  square_opens_at : (k : ℕ → ℕ) → Runs m.text (Here k) (Here (λ d. suc (k d))) (sign m.text (codes "["))
  square_opens_at k = lift_runs m.text (Here k) (Here (λ d. suc (k d))) (a_sign m.text (codes "[")) (opens_square m.text k)

  pub switch_runs : Runs m.text deep deep (switch m)
  unfolding switch
  switch_runs = then_runs m.text deep deep deep (a_width m) _ (a_width_runs m deep)
      (λ width. then_runs m.text deep deep deep (an_operand m (ty.Int width)) _ (operand_runs m (ty.Int width))
      (λ value. then_runs m.text deep deep deep (sign m.text (codes ",")) _ (comma_at m.text deep)
      (λ _. then_runs m.text deep deep deep (a_label m.text) _ (label_at deep)
      (λ other. then_runs m.text deep deeper deep (sign m.text (codes "[")) _ (square_opens_at (λ d. suc d))
      (λ _. then_runs m.text deeper deep deep (repeat (more_case m width)) _ (cases_run width) (λ cases. done_runs m.text deep (op.Switch width value other cases)))))))

  pair_runs : (of : Ty) → Runs m.text deep deep (a_pair m of)
  unfolding a_pair
  pair_runs of = then_runs m.text deep deeper deep (sign m.text (codes "[")) _ (square_opens_at (λ d. suc d))
      (λ _. then_runs m.text deeper deeper deep (an_operand m of) _ (below m.text deep (an_operand m of) (operand_runs m of))
      (λ value. then_runs m.text deeper deeper deep (sign m.text (codes ",")) _ (comma_at m.text deeper)
      (λ _. then_runs m.text deeper deeper deep (a_label_name m.text) _ (anywhere m.text deeper (a_label_name m.text) (label_name_runs m.text))
      (λ label. then_runs m.text deeper deep deep (sign m.text (codes "]")) _ (lift_runs m.text deeper deep (a_sign m.text (codes "]")) (closes_square m.text (λ d. suc d))) (λ _. done_runs m.text deep (value, label))))))

  pub phi_runs : (role : Role) → Runs m.text deep deep (phi m role)
  unfolding phi
  phi_runs role = then_runs m.text deep deep deep (some_type m) _ (some_type_runs m deep)
      (λ of. then_runs m.text deep deep deep (a_pair m of) _ (pair_runs of)
      (λ first. then_runs m.text deep deep deep (listed m.text role (a_pair m of) (record { items = first ∷ []; begun = false; inserted = false })) _
      (listed_runs m.text role (a_pair m of) (pair_runs of) (record { items = first ∷ []; begun = false; inserted = false })) (λ all. done_runs m.text deep (op.Phi of all.items, all.inserted))))
