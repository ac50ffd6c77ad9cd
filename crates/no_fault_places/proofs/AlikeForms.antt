-- Texts that begin alike are read alike: operands, forms of instructions, and what ends them.
use Rattle.std.proofs.Common.{◌≡◌, ℕ, suc, zero, length, Bool, true, false, List, codes, Some, None, refl, sym, subst}
use Rattle.no_lex.specs.declared.token.Token.{Token}
use Rattle.no_lex.specs.declared.token.TokenKind.TheVariants as kind
use Rattle.no_ir.specs.declared.function.Role.{Role}
use Rattle.no_ir.specs.declared.types.Ty.{Ty}
use Rattle.no_ir.specs.declared.types.Ty.TheVariants as ty
use Rattle.no_ir.specs.declared.instruction.BinOp.{BinOp}
use Rattle.no_ir.specs.declared.instruction.CastOp.{CastOp}
use Rattle.no_ir.specs.declared.instruction.Op.{Op}
use Rattle.no_read_rules.specs.Rules.{Rule, next_is}
use Rattle.no_read_rules.specs.Scope.{Meaning}
use Rattle.no_read_rules.specs.Types.{must_be}
use Rattle.no_read_registers.specs.declared.locals.Locals.{Locals}
use Rattle.no_read_registers.specs.Numbered.{a_register, used_register, a_label, a_label_name, used_label}
use Rattle.no_read_operations.specs.declared.operands.Flags.{Flags}
use Rattle.no_read_operations.specs.declared.operands.Flags.TheVariants as flags
use Rattle.no_read_operations.specs.declared.ends.Ending.{Ending}
use Rattle.no_read_operations.specs.declared.ends.Listed.{Listed}
use Rattle.no_read_operations.specs.declared.memory.AllocaEnd.{AllocaEnd}
use Rattle.no_read_operations.specs.Folded.{stepped, folded_read, folded_all, folded}
use Rattle.no_read_operations.specs.Operands.{DEPTH, word, sign, some_type, this_type, a_width, register_operand, const_operand, an_operand, a_pointer, sized_operand, is_flag_word}
use Rattle.no_read_operations.specs.Ends.{is_comma, an_alignment, node_is, an_attachment, opens_alignment, end_alignment, end_attachment, end_step, end_mark, finish, ended, opens_item, list_item, list_attachment, list_step, listed}
use Rattle.no_read_operations.specs.Simple.{binary_flags, binary_parts, binary, cast_flags, cast_parts, cast_form, pred_of, compare_parts, compare, freeze, select}
use Rattle.no_read_operations.specs.Memory as memory
use Rattle.no_read_operations.specs.Flow.{return_void, return_value, ret, branch, branch_if, br, same_width, a_case, no_case, one_case, more_case, switch, a_pair, phi}
use Rattle.no_fault_places.specs.Alike.{IsAlike, AreAlike}
use Rattle.no_fault_places.proofs.Alike.{Same, Any, AnswerAlike, Alike, next_alike, place_alike, length_alike, one_same, plain_same, done_alike, done_any, if_next_alike, lift_alike, then_answers, then_same, then_any, any_alike}
use Rattle.no_fault_places.proofs.AlikeLists.{InOption, kind_alike, word_alike, sign_alike, a_word_alike, a_sign_alike, repeat_alike, behind_alike}
use Rattle.no_fault_places.proofs.AlikeAttributes.{alignment_alike}
use Rattle.no_fault_places.proofs.AlikeConstants.{Typing, Kept, IsWidth, then_kept, checked_kept, type_alike, type_passes, width_alike, number_alike, const_alike, flag_alike}

-- ---- rules that go on as long as the next token passes

module _ (here there : Meaning) {S A : Type 0} (P : A → A → Type 0) (f g : Token → Bool) (e : (t u : Token) → IsAlike here there t u → g u ≡ f t) (p q : A → Rule S A) (h : (a b : A) → P a b → Alike here there P (p a) (q b)) where
  -- so many steps, as a rule
  abbrev folding : (Token → Bool) → (A → Rule S A) → ℕ → A → Rule S A
  folding test step n a = record { means = λ s ts b t. Unit {0}; read = folded_read test step n a }

  folded_within : (n : ℕ) (a b : A) → P a b → (s : S) (ts us : List Token) → AreAlike here there ts us → AnswerAlike here there P (folded_read f p n a s ts) (folded_read g q n b s us)
  unfolding folded_read
  folded_within zero a b v s ts us k = place_alike here there ts us k
  folded_within (suc n) a b v s ts us k =
      subst (λ (c : Bool). AnswerAlike here there P (stepped f p (next_is f ts) (folded_read f p n) a s ts) (stepped g q c (folded_read g q n) b s us)) (sym (next_alike here there f g e ts us k)) (by (next_is f ts) (folded_within n))
    where
      by : (c : Bool) → ((a b : A) → P a b → (s : S) (ts us : List Token) → AreAlike here there ts us → AnswerAlike here there P (folded_read f p n a s ts) (folded_read g q n b s us))
          → AnswerAlike here there P (stepped f p c (folded_read f p n) a s ts) (stepped g q c (folded_read g q n) b s us)
      by true more = then_answers here there P P (folding f p n) (folding g q n) (λ x y w. record { answers = more x y w }) ((p a).read s ts) ((q b).read s us) ((h a b v).answers s ts us k)
      by false more = record { value = v; state = refl; rest = k }

  pub folded_alike : (a b : A) → P a b → Alike here there P (folded f p a) (folded g q b)
  unfolding folded_all
  folded_alike a b v = record {
    answers = λ s ts us k.
        subst (λ (n : ℕ). AnswerAlike here there P (folded_read f p (suc (length ts)) a s ts) (folded_read g q (suc n) b s us)) (sym (length_alike here there ts us k)) (folded_within (suc (length ts)) a b v s ts us k);
  }

-- ---- words, signs, registers and labels

module _ {here there : Meaning} where
  pub the_word_alike : (w : List ℕ) → Alike here there Same (word here.text w) (word there.text w)
  the_word_alike w = lift_alike _ _ (a_word_alike w)

  pub the_sign_alike : (w : List ℕ) → Alike here there Same (sign here.text w) (sign there.text w)
  the_sign_alike w = lift_alike _ _ (a_sign_alike w)

  register_alike : Alike here there Same (a_register here.text) (a_register there.text)
  register_alike = one_same (used_register here.text) (used_register there.text) (λ s t u k. rw (k.kind, k.spelling) refl)

  label_name_alike : Alike here there Same (a_label_name here.text) (a_label_name there.text)
  label_name_alike = one_same (used_label here.text) (used_label there.text) (λ s t u k. rw (k.kind, k.spelling) refl)

  label_alike : Alike here there Same (a_label here.text) (a_label there.text)
  unfolding a_label
  label_alike = then_same _ _ _ _ (a_word_alike (codes "label")) (λ _. label_name_alike)

-- ---- ends

module _ (here there : Meaning) where
  comma_alike : (t u : Token) → IsAlike here there t u → is_comma there.text u ≡ is_comma here.text t
  comma_alike = sign_alike (codes ",")

  an_alignment_alike : Alike here there Same (an_alignment here.text) (an_alignment there.text)
  unfolding an_alignment
  an_alignment_alike = then_same _ _ _ _ (a_word_alike (codes "align")) (λ _. alignment_alike here there)

  module _ (role : Role) where
    attachment_alike : (i j : Bool) → Alike here there Any (an_attachment here.text role i) (an_attachment there.text role j)
    unfolding an_attachment
    attachment_alike i j = then_same _ _ _ _ (plain_same (node_is here.text (codes "!no.x")) (node_is there.text (codes "!no.x")) (λ t u k. rw (k.kind, k.spelling) refl)) (λ x.
        then_same _ _ _ _ (plain_same (node_is here.text (codes "!0")) (node_is there.text (codes "!0")) (λ t u k. rw (k.kind, k.spelling) refl)) (λ y. done_any _ _))

    -- as many alignments may follow
    abbrev EndingAlike : Ending → Ending → Type 0
    EndingAlike e d = d.aligns ≡ e.aligns

    opens_alike : (e d : Ending) → EndingAlike e d → (t u : Token) → IsAlike here there t u → opens_alignment there.text d u ≡ opens_alignment here.text e t
    opens_alike e d v t u k = rw (v, word_alike (codes "align") t u k) refl

    end_step_alike : (e d : Ending) → EndingAlike e d → Alike here there EndingAlike (end_step here.text role e) (end_step there.text role d)
    unfolding end_step end_alignment end_attachment
    end_step_alike e d v = then_same _ _ _ _ (a_sign_alike (codes ",")) (λ _. if_next_alike _ _ _ _ _ _ (opens_alike e d v)
        (then_same _ _ _ _ an_alignment_alike (λ _. done_alike _ _ refl)) (then_any _ _ _ _ (attachment_alike e.inserted d.inserted) (λ a b. done_alike _ _ refl)))

    pub end_mark_alike : (aligns : Bool) → Alike here there Any (end_mark here.text role aligns) (end_mark there.text role aligns)
    unfolding end_mark
    end_mark_alike aligns = then_any _ _ _ _ (any_alike _ _ (folded_alike here there EndingAlike (is_comma here.text) (is_comma there.text) comma_alike (end_step here.text role) (end_step there.text role) end_step_alike _ _ refl)) (λ a b. done_any _ _)

    pub finish_alike : (aligns : Bool) (x y : Op) → Alike here there Any (finish here.text role aligns x) (finish there.text role aligns y)
    unfolding finish
    finish_alike aligns x y = then_any _ _ _ _ (lift_alike _ _ (end_mark_alike aligns)) (λ a b. done_any _ _)

    pub ended_alike : (aligns : Bool) (p q : Rule Locals Op) → Alike here there Any p q → Alike here there Any (ended here.text role aligns p) (ended there.text role aligns q)
    ended_alike aligns p q h = then_any _ _ _ _ h (finish_alike aligns)

    module _ {A : Type 0} (p q : Rule Locals A) (h : Alike here there Any p q) where
      -- attachments have begun on both sides, or on neither
      abbrev ListedAlike : Listed A → Listed A → Type 0
      ListedAlike l k = k.begun ≡ l.begun

      opens_item_alike : (l k : Listed A) → ListedAlike l k → (t u : Token) → IsAlike here there t u → opens_item k u ≡ opens_item l t
      opens_item_alike l k v t u i = rw (v, kind_alike kind.Meta t u i) refl

      list_step_alike : (l k : Listed A) → ListedAlike l k → Alike here there ListedAlike (list_step here.text role p l) (list_step there.text role q k)
      unfolding list_step list_item list_attachment
      list_step_alike l k v = then_same _ _ _ _ (the_sign_alike (codes ",")) (λ _. if_next_alike _ _ _ _ _ _ (opens_item_alike l k v)
          (then_any _ _ _ _ h (λ a b. done_alike _ _ refl)) (then_any _ _ _ _ (lift_alike _ _ (attachment_alike l.inserted k.inserted)) (λ a b. done_alike _ _ refl)))

      pub listed_alike : (l k : Listed A) → ListedAlike l k → Alike here there Any (listed here.text role p l) (listed there.text role q k)
      listed_alike l k v = any_alike _ _ (folded_alike here there ListedAlike (is_comma here.text) (is_comma there.text) comma_alike (list_step here.text role p) (list_step there.text role q) list_step_alike l k v)

module _ (here there : Meaning) (typing : Typing here there) where
  pub some_type_alike : Alike here there (Kept typing.Known) (some_type here) (some_type there)
  some_type_alike = lift_alike _ _ (type_alike here there typing DEPTH)

  this_type_alike : (want : Ty) → Alike here there Same (this_type here want) (this_type there want)
  this_type_alike want = lift_alike _ _ (type_passes here there typing DEPTH (must_be want))

  a_width_alike : Alike here there (Kept IsWidth) (a_width here) (a_width there)
  a_width_alike = lift_alike _ _ (width_alike here there typing)

  -- ---- operands

  pub operand_alike : (of : Ty) → typing.Known of → Alike here there Any (an_operand here of) (an_operand there of)
  unfolding an_operand register_operand const_operand
  operand_alike of known = if_next_alike _ _ _ _ _ _ (kind_alike kind.Local) (then_same _ _ _ _ register_alike (λ r. done_any _ _)) (then_any _ _ _ _ (lift_alike _ _ (const_alike here there typing DEPTH of known)) (λ a b. done_any _ _))

  pointer_alike : Alike here there Any (a_pointer here) (a_pointer there)
  unfolding a_pointer
  pointer_alike = then_same _ _ _ _ (the_word_alike (codes "ptr")) (λ _. operand_alike ty.Ptr typing.ptr)

  number_operand : (w : ℕ) → IsWidth w → Alike here there Any (an_operand here (ty.Int w)) (an_operand there (ty.Int w))
  number_operand w i = operand_alike (ty.Int w) (typing.int w i)

  sized_alike : Alike here there Any (sized_operand here) (sized_operand there)
  unfolding sized_operand
  sized_alike = then_kept _ _ _ _ a_width_alike (λ w i. then_any _ _ _ _ (number_operand w i) (λ a b. done_any _ _))

  -- ---- operations on values

  flag_word_alike : (f : Flags) (t u : Token) → IsAlike here there t u → is_flag_word there.text f u ≡ is_flag_word here.text f t
  flag_word_alike flags.Nothing t u k = refl
  flag_word_alike flags.Wrapping t u k = rw (word_alike (codes "nsw") t u k, word_alike (codes "nuw") t u k) refl
  flag_word_alike flags.Exact t u k = word_alike (codes "exact") t u k
  flag_word_alike flags.Disjoint t u k = word_alike (codes "disjoint") t u k
  flag_word_alike flags.NonNegative t u k = word_alike (codes "nneg") t u k
  flag_word_alike flags.SameSign t u k = word_alike (codes "samesign") t u k

  binary_parts_alike : (b : BinOp) → Alike here there Any (binary_parts here b) (binary_parts there b)
  unfolding binary_parts
  binary_parts_alike b = then_kept _ _ _ _ a_width_alike (λ w i. then_any _ _ _ _ (number_operand w i) (λ _ _. then_same _ _ _ _ (the_sign_alike (codes ",")) (λ _. then_any _ _ _ _ (number_operand w i) (λ _ _. done_any _ _))))

  pub binary_alike : (b : BinOp) → Alike here there Any (binary here b) (binary there b)
  binary_alike b = behind_alike _ _ _ _ (flag_word_alike (binary_flags b)) (binary_parts_alike b)

  cast_parts_alike : (c : CastOp) → Alike here there Any (cast_parts here c) (cast_parts there c)
  unfolding cast_parts
  cast_parts_alike c = then_kept _ _ _ _ some_type_alike (λ from k. then_any _ _ _ _ (operand_alike from k) (λ _ _. then_same _ _ _ _ (the_word_alike (codes "to")) (λ _. then_kept _ _ _ _ some_type_alike (λ target _. done_any _ _))))

  pub cast_alike : (c : CastOp) → Alike here there Any (cast_form here c) (cast_form there c)
  cast_alike c = behind_alike _ _ _ _ (flag_word_alike (cast_flags c)) (cast_parts_alike c)

  compare_parts_alike : Alike here there Any (compare_parts here) (compare_parts there)
  unfolding compare_parts
  compare_parts_alike = then_same _ _ _ _ (lift_alike _ _ (plain_same (pred_of here.text) (pred_of there.text) (λ t u k. rw (k.kind, k.spelling) refl))) (λ p. then_kept _ _ _ _ some_type_alike (λ of k.
      then_any _ _ _ _ (operand_alike of k) (λ _ _. then_same _ _ _ _ (the_sign_alike (codes ",")) (λ _. then_any _ _ _ _ (operand_alike of k) (λ _ _. done_any _ _)))))

  pub compare_alike : Alike here there Any (compare here) (compare there)
  compare_alike = behind_alike _ _ _ _ (flag_word_alike flags.SameSign) compare_parts_alike

  pub freeze_alike : Alike here there Any (freeze here) (freeze there)
  unfolding freeze
  freeze_alike = then_kept _ _ _ _ some_type_alike (λ of k. then_any _ _ _ _ (operand_alike of k) (λ _ _. done_any _ _))

  pub select_alike : Alike here there Any (select here) (select there)
  unfolding select
  select_alike = then_same _ _ _ _ (the_word_alike (codes "i1")) (λ _. then_any _ _ _ _ (number_operand 1 refl) (λ _ _. then_same _ _ _ _ (the_sign_alike (codes ",")) (λ _. then_kept _ _ _ _ some_type_alike (λ of k.
      then_any _ _ _ _ (operand_alike of k) (λ _ _. then_same _ _ _ _ (the_sign_alike (codes ",")) (λ _. then_same _ _ _ _ (this_type_alike of) (λ _. then_any _ _ _ _ (operand_alike of k) (λ _ _. done_any _ _))))))))

  -- ---- memory

  load_parts_alike : (v : Bool) → Alike here there Any (memory.load_parts here v) (memory.load_parts there v)
  unfolding memory.load_parts
  load_parts_alike v = then_kept _ _ _ _ some_type_alike (λ of k. then_same _ _ _ _ (the_sign_alike (codes ",")) (λ _. then_any _ _ _ _ pointer_alike (λ _ _. done_any _ _)))

  pub load_alike : Alike here there Any (memory.load here) (memory.load there)
  unfolding memory.volatile_load
  load_alike = if_next_alike _ _ _ _ _ _ (word_alike (codes "volatile")) (then_same _ _ _ _ (the_word_alike (codes "volatile")) (λ _. load_parts_alike true)) (load_parts_alike false)

  store_parts_alike : (v : Bool) → Alike here there Any (memory.store_parts here v) (memory.store_parts there v)
  unfolding memory.store_parts
  store_parts_alike v = then_kept _ _ _ _ some_type_alike (λ of k. then_any _ _ _ _ (operand_alike of k) (λ _ _. then_same _ _ _ _ (the_sign_alike (codes ",")) (λ _. then_any _ _ _ _ pointer_alike (λ _ _. done_any _ _))))

  pub store_alike : Alike here there Any (memory.store here) (memory.store there)
  unfolding memory.volatile_store
  store_alike = if_next_alike _ _ _ _ _ _ (word_alike (codes "volatile")) (then_same _ _ _ _ (the_word_alike (codes "volatile")) (λ _. store_parts_alike true)) (store_parts_alike false)

  module _ (role : Role) where
    address_parts_alike : Alike here there Any (memory.address_parts here role) (memory.address_parts there role)
    unfolding memory.address_parts
    address_parts_alike = then_kept _ _ _ _ some_type_alike (λ base k. then_same _ _ _ _ (the_sign_alike (codes ",")) (λ _. then_any _ _ _ _ pointer_alike (λ _ _. then_same _ _ _ _ (the_sign_alike (codes ",")) (λ _.
        then_any _ _ _ _ sized_alike (λ a b. then_any _ _ _ _ (listed_alike here there role (sized_operand here) (sized_operand there) sized_alike _ _ refl) (λ _ _. done_any _ _))))))

    pub address_alike : Alike here there Any (memory.address here role) (memory.address there role)
    address_alike = behind_alike _ _ _ _ (flag_alike here there typing) address_parts_alike

    -- the same may follow
    pub record AllocaAlike (e d : AllocaEnd) : Type 0 where
      pub counts : d.counts ≡ e.counts
      pub aligns : d.aligns ≡ e.aligns

    opens_align_alike : (e d : AllocaEnd) → AllocaAlike e d → (t u : Token) → IsAlike here there t u → memory.opens_alignment there.text d u ≡ memory.opens_alignment here.text e t
    opens_align_alike e d v t u k = rw (v.aligns, word_alike (codes "align") t u k) refl

    opens_count_alike : (e d : AllocaEnd) → AllocaAlike e d → (t u : Token) → IsAlike here there t u → memory.opens_count d u ≡ memory.opens_count e t
    opens_count_alike e d v t u k = rw (v.counts, kind_alike kind.Meta t u k) refl

    alloca_step_alike : (e d : AllocaEnd) → AllocaAlike e d → Alike here there AllocaAlike (memory.alloca_step here role e) (memory.alloca_step there role d)
    unfolding memory.alloca_step memory.stated_alignment memory.stated_count memory.alloca_attachment
    alloca_step_alike e d v = then_same _ _ _ _ (the_sign_alike (codes ",")) (λ _. if_next_alike _ _ _ _ _ _ (opens_align_alike e d v)
        (then_same _ _ _ _ (lift_alike _ _ (an_alignment_alike here there)) (λ n. done_alike _ _ (record { counts = refl; aligns = refl })))
        (if_next_alike _ _ _ _ _ _ (opens_count_alike e d v)
        (then_any _ _ _ _ sized_alike (λ a b. done_alike _ _ (record { counts = refl; aligns = v.aligns })))
        (then_any _ _ _ _ (lift_alike _ _ (attachment_alike here there role e.inserted d.inserted)) (λ a b. done_alike _ _ (record { counts = refl; aligns = refl })))))

    pub alloca_alike : Alike here there Any (memory.alloca here role) (memory.alloca there role)
    unfolding memory.alloca
    alloca_alike = then_kept _ _ _ _ some_type_alike (λ of k.
        then_any _ _ _ _ (any_alike _ _ (folded_alike here there AllocaAlike (is_comma here.text) (is_comma there.text) (comma_alike here there) (memory.alloca_step here role) (memory.alloca_step there role) alloca_step_alike memory.alloca_start memory.alloca_start (record { counts = refl; aligns = refl }))) (λ _ _. done_any _ _))

  -- ---- control flow

  return_value_alike : Alike here there Any (return_value here) (return_value there)
  unfolding return_value
  return_value_alike = then_kept _ _ _ _ some_type_alike (λ of k. then_any _ _ _ _ (operand_alike of k) (λ _ _. done_any _ _))

  pub ret_alike : Alike here there Any (ret here) (ret there)
  unfolding return_void
  ret_alike = if_next_alike _ _ _ _ _ _ (word_alike (codes "void")) (then_same _ _ _ _ (the_word_alike (codes "void")) (λ _. done_any _ _)) return_value_alike

  branch_alike : Alike here there Any (branch here) (branch there)
  unfolding branch
  branch_alike = then_same _ _ _ _ label_alike (λ l. done_any _ _)

  branch_if_alike : Alike here there Any (branch_if here) (branch_if there)
  unfolding branch_if
  branch_if_alike = then_same _ _ _ _ (the_word_alike (codes "i1")) (λ _. then_any _ _ _ _ (number_operand 1 refl) (λ _ _. then_same _ _ _ _ (the_sign_alike (codes ",")) (λ _. then_same _ _ _ _ label_alike (λ x.
      then_same _ _ _ _ (the_sign_alike (codes ",")) (λ _. then_same _ _ _ _ label_alike (λ y. done_any _ _))))))

  pub br_alike : Alike here there Any (br here) (br there)
  br_alike = if_next_alike _ _ _ _ _ _ (word_alike (codes "label")) branch_alike branch_if_alike

  case_alike : (w : ℕ) → Alike here there Any (a_case here w) (a_case there w)
  unfolding a_case
  case_alike w = then_same _ _ _ _ (lift_alike _ _ (checked_kept _ _ (same_width w) (width_alike here there typing))) (λ _. then_same _ _ _ _ (lift_alike _ _ (number_alike here there typing w)) (λ k.
      then_same _ _ _ _ (the_sign_alike (codes ",")) (λ _. then_same _ _ _ _ label_alike (λ l. done_any _ _))))

  more_case_alike : (w : ℕ) → Alike here there (InOption Any) (more_case here w) (more_case there w)
  unfolding no_case one_case
  more_case_alike w = if_next_alike _ _ _ _ _ _ (sign_alike (codes "]")) (then_same _ _ _ _ (the_sign_alike (codes "]")) (λ _. done_alike None None tt)) (then_any _ _ _ _ (case_alike w) (λ a b. done_alike (Some a) (Some b) tt))

  pub switch_alike : Alike here there Any (switch here) (switch there)
  unfolding switch
  switch_alike = then_kept _ _ _ _ a_width_alike (λ w i. then_any _ _ _ _ (number_operand w i) (λ _ _. then_same _ _ _ _ (the_sign_alike (codes ",")) (λ _. then_same _ _ _ _ label_alike (λ l. then_same _ _ _ _ (the_sign_alike (codes "[")) (λ _.
      then_any _ _ _ _ (any_alike _ _ (repeat_alike _ _ (more_case_alike w))) (λ _ _. done_any _ _))))))

  pair_alike : (of : Ty) → typing.Known of → Alike here there Any (a_pair here of) (a_pair there of)
  unfolding a_pair
  pair_alike of k = then_same _ _ _ _ (the_sign_alike (codes "[")) (λ _. then_any _ _ _ _ (operand_alike of k) (λ _ _. then_same _ _ _ _ (the_sign_alike (codes ",")) (λ _. then_same _ _ _ _ label_name_alike (λ l. then_same _ _ _ _ (the_sign_alike (codes "]")) (λ _. done_any _ _)))))

  pub phi_alike : (role : Role) → Alike here there Any (phi here role) (phi there role)
  unfolding phi
  phi_alike role = then_kept _ _ _ _ some_type_alike (λ of k. then_any _ _ _ _ (pair_alike of k) (λ _ _. then_any _ _ _ _ (listed_alike here there role (a_pair here of) (a_pair there of) (pair_alike of k) _ _ refl) (λ _ _. done_any _ _)))
