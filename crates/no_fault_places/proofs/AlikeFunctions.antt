-- Texts that begin alike are read alike: heads, blocks and whole functions.
use Rattle.std.proofs.Common.{ℕ, Bool, true, codes, Option, Some, None, refl}
use Rattle.no_lex.specs.declared.token.TokenKind.TheVariants as kind
use Rattle.no_ir.specs.declared.function.Role.{Role}
use Rattle.no_read_rules.specs.Rules.{change, plain}
use Rattle.no_read_rules.specs.Scope.{Meaning}
use Rattle.no_read_rules.specs.Spelled.{is_kind}
use Rattle.no_read_attributes.specs.Symbols.{symbol_name}
use Rattle.no_read_registers.specs.Numbered.{register_unnamed, no_block_label, numbered_label, fitting, a_block_label, written_label, no_locals_yet}
use Rattle.no_read_instructions.specs.Instructions.{an_instr}
use Rattle.no_read_functions.specs.Heads.{any_name, or_no_name, own_name, place_name, a_param, params, result_type, words_type, head_marks, a_head}
use Rattle.no_read_functions.specs.Blocks.{closing, label_piece, instr_piece, labelled, unlabelled, a_piece, entry, body}
use Rattle.no_read_functions.specs.Functions.{head_body, a_function}
use Rattle.no_fault_places.proofs.Alike.{Same, Any, Alike, one_same, plain_same, done_alike, done_any, done_same, change_same, choose_alike, if_next_alike, lift_alike, then_same, then_any, any_alike, checked_same, maybe_same}
use Rattle.no_fault_places.proofs.AlikeLists.{InOption, kind_alike, word_alike, sign_alike, a_word_alike, a_sign_alike, repeat_alike, items_alike, inside_any}
use Rattle.no_fault_places.proofs.AlikeAttributes.{skip_alike, marks_alike, behind_attributes_alike}
use Rattle.no_fault_places.proofs.AlikeConstants.{Typing, then_kept, type_alike}
use Rattle.no_fault_places.proofs.AlikeInstructions.{instr_alike, definition_alike}

-- ---- heads

module _ {here there : Meaning} where
  or_alike : (o : Option ℕ) → Alike here there Same (or_no_name o) (or_no_name o)
  or_alike (Some register) = done_same register
  or_alike None = change_same register_unnamed

  own_alike : Alike here there Same (own_name here.text) (own_name there.text)
  unfolding own_name
  own_alike = then_same _ _ _ _ (maybe_same _ _ _ _ (kind_alike kind.Local) definition_alike) or_alike

  place_name_alike : Alike here there Same place_name place_name
  unfolding place_name
  place_name_alike = then_same _ _ _ _ (maybe_same (is_kind kind.Local) (is_kind kind.Local) any_name any_name (kind_alike kind.Local) (plain_same _ _ (λ t u k. rw (kind_alike kind.Local t u k) refl))) (λ _. change_same register_unnamed)

  pub name_alike : {S : Type 0} → Alike here there {S = S} Same (plain (symbol_name here.text)) (plain (symbol_name there.text))
  name_alike = plain_same (symbol_name here.text) (symbol_name there.text) (λ t u k. rw (k.kind, k.spelling) refl)

module _ (here there : Meaning) (typing : Typing here there) where
  param_alike : (named : Bool) → Alike here there Any (a_param here named) (a_param there named)
  unfolding a_param
  param_alike named = then_kept _ _ _ _ (lift_alike _ _ (type_alike here there typing 64)) (λ t k. then_any _ _ _ _ (lift_alike _ _ (skip_alike here there)) (λ _ _.
      then_same _ _ _ _ (choose_alike named _ _ _ _ own_alike place_name_alike) (λ register. done_any _ _)))

  params_alike : (named : Bool) → Alike here there Any (params here named) (params there named)
  unfolding params
  params_alike named = then_same _ _ _ _ (a_sign_alike (codes "(")) (λ _. any_alike _ _ (items_alike (codes ")") (a_param here named) (a_param there named) (param_alike named)))

  result_type_alike : Alike here there Any (result_type here) (result_type there)
  unfolding result_type
  result_type_alike = if_next_alike _ _ _ _ _ _ (word_alike (codes "void")) (then_same _ _ _ _ (a_word_alike (codes "void")) (λ _. done_any _ _)) (any_alike _ _ (type_alike here there typing 64))

  words_alike : Alike here there Any (words_type here) (words_type there)
  unfolding words_type
  words_alike = behind_attributes_alike here there (result_type here) (result_type there) result_type_alike

  pub head_alike : (role : Role) (named : Bool) → Alike here there Any (a_head here role named) (a_head there role named)
  unfolding a_head head_marks
  head_alike role named = then_any _ _ _ _ (lift_alike _ _ words_alike) (λ _ _. then_same _ _ _ _ (lift_alike _ _ name_alike) (λ name. then_any _ _ _ _ (params_alike named) (λ _ _.
      then_any _ _ _ _ (lift_alike _ _ (marks_alike here there role)) (λ _ _. done_any _ _))))

-- ---- blocks

module _ (here there : Meaning) (typing : Typing here there) (role : Role) where
  block_label_alike : Alike here there Same (a_block_label here.text) (a_block_label there.text)
  block_label_alike = one_same (written_label here.text) (written_label there.text) (λ s t u k. rw (k.kind, k.spelling) refl)

  no_label_alike : Alike here there Same no_block_label no_block_label
  no_label_alike = checked_same (change numbered_label) (change numbered_label) fitting (change_same numbered_label)

  piece_alike : Alike here there (InOption Any) (a_piece here.text (an_instr here role)) (a_piece there.text (an_instr there role))
  unfolding a_piece closing label_piece instr_piece
  piece_alike = if_next_alike _ _ _ _ _ _ (sign_alike (codes "}")) (then_same _ _ _ _ (a_sign_alike (codes "}")) (λ _. done_alike None None tt))
      (if_next_alike _ _ _ _ _ _ (kind_alike kind.Label) (then_same _ _ _ _ block_label_alike (λ label. done_alike (Some _) (Some _) tt)) (then_any _ _ _ _ (instr_alike here there typing role) (λ a b. done_alike (Some _) (Some _) tt)))

  entry_alike : Alike here there Any (entry here.text (an_instr here role)) (entry there.text (an_instr there role))
  unfolding entry labelled unlabelled
  entry_alike = if_next_alike _ _ _ _ _ _ (kind_alike kind.Label) (then_same _ _ _ _ block_label_alike (λ label. done_any _ _)) (then_same _ _ _ _ no_label_alike (λ label. then_any _ _ _ _ (instr_alike here there typing role) (λ a b. done_any _ _)))

  body_alike : Alike here there Any (body here.text (an_instr here role)) (body there.text (an_instr there role))
  unfolding body
  body_alike = then_any _ _ _ _ entry_alike (λ a b. then_any _ _ _ _ (any_alike _ _ (repeat_alike _ _ piece_alike)) (λ _ _. done_any _ _))

  -- ---- whole functions

  head_body_alike : Alike here there Any (head_body here role) (head_body there role)
  unfolding head_body
  head_body_alike = then_any _ _ _ _ (head_alike here there typing role true) (λ a b. then_same _ _ _ _ (a_sign_alike (codes "{")) (λ _. then_any _ _ _ _ body_alike (λ _ _. done_any _ _)))

  pub function_alike : Alike here there Any (a_function here role) (a_function there role)
  unfolding a_function
  function_alike = then_any _ _ _ _ (inside_any no_locals_yet (head_body here role) (head_body there role) head_body_alike) (λ a b. done_any _ _)
