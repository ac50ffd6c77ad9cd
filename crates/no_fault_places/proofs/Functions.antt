-- Reading is decided by a prefix: heads, blocks and whole functions.
use Rattle.std.proofs.Common.{ℕ, Bool, true, List, [], ◌∷◌, codes, Option, Some, None, ◌≡◌}
use Rattle.no_lex.specs.declared.token.Token.{Token}
use Rattle.no_lex.specs.declared.token.TokenKind.TheVariants.{Local}
use Rattle.no_ir.specs.declared.function.Role.{Role}
use Rattle.no_ir.specs.declared.types.Ty.TheVariants as ty
use Rattle.no_read_rules.specs.Rules.{Rule, change, maybe}
use Rattle.no_read_rules.specs.Scope.{Meaning}
use Rattle.no_read_rules.specs.Spelled.{is_kind, is_word, is_sign, only_where}
use Rattle.no_read_rules.proofs.Laws.{change_good}
use Rattle.no_read_registers.specs.Numbered.{register_unnamed, no_block_label, numbered_label, fitting, written_label, no_locals_yet}
use Rattle.no_read_instructions.specs.Instructions.{an_instr}
use Rattle.no_read_functions.specs.Heads.{any_name, or_no_name, own_name, place_name, a_param, params, result_type, words_type, head_marks, a_head}
use Rattle.no_read_functions.specs.Blocks.{is_close, is_label, closing, label_piece, instr_piece, labelled, unlabelled, a_piece, entry, body}
use Rattle.no_read_functions.specs.Functions.{head_body, written, a_function}
use Rattle.no_fault_places.specs.Prefixes.{Steady, Eats}
use Rattle.no_fault_places.proofs.Prefix.{one_steady, plain_steady, done_steady, change_steady, choose_steady, lift_steady, if_next_steady, then_steady, checked_steady, one_eats, plain_eats, then_eats, if_next_eats}
use Rattle.no_fault_places.proofs.Lists.{repeat_steady, items_steady}
use Rattle.no_fault_places.proofs.Attributes.{inside_steady, skip_steady, marks_steady, behind_attributes_steady}
use Rattle.no_fault_places.proofs.Constants.{type_steady}
use Rattle.no_fault_places.proofs.Instructions.{instr_steady, instr_eats}

-- ---- heads

maybe_steady : {S A : Type 0} (f : Token → Bool) (p : Rule S A) → Steady p → Steady (maybe f p)
maybe_steady f p h = if_next_steady f _ _ (then_steady _ _ h (λ a. done_steady (Some a))) (done_steady None)

or_steady : (o : Option ℕ) → Steady (or_no_name o)
or_steady (Some register) = done_steady register
or_steady None = change_steady register_unnamed

own_steady : (text : List ℕ) → Steady (own_name text)
unfolding own_name
own_steady text = then_steady _ _ (maybe_steady (is_kind Local) _ (one_steady _)) or_steady

place_name_steady : Steady place_name
unfolding place_name
place_name_steady = then_steady _ _ (maybe_steady (is_kind Local) any_name (plain_steady _)) (λ _. change_steady register_unnamed)

module _ (m : Meaning) where
  param_steady : (named : Bool) → Steady (a_param m named)
  unfolding a_param
  param_steady named = then_steady _ _ (lift_steady _ (type_steady m 64)) (λ t. then_steady _ _ (lift_steady _ (skip_steady m.text)) (λ _. then_steady _ _ (choose_steady named _ _ (own_steady m.text) place_name_steady) (λ register. done_steady _)))

  params_steady : (named : Bool) → Steady (params m named)
  unfolding params
  params_steady named = then_steady _ _ (plain_steady _) (λ _. items_steady m.text (codes ")") (a_param m named) (param_steady named))

  result_type_steady : Steady (result_type m)
  unfolding result_type
  result_type_steady = if_next_steady (is_word m.text (codes "void")) _ _ (then_steady _ _ (plain_steady _) (λ _. done_steady ty.Void)) (type_steady m 64)

  words_steady : Steady (words_type m)
  unfolding words_type
  words_steady = behind_attributes_steady m.text (result_type m) result_type_steady

  head_marks_steady : (role : Role) → Steady (head_marks m role)
  unfolding head_marks
  head_marks_steady role = marks_steady m.text role

  pub head_steady : (role : Role) (named : Bool) → Steady (a_head m role named)
  unfolding a_head
  head_steady role named = then_steady _ _ (lift_steady _ words_steady) (λ result. then_steady _ _ (lift_steady _ (plain_steady _)) (λ name. then_steady _ _ (params_steady named) (λ all.
      then_steady _ _ (lift_steady _ (head_marks_steady role)) (λ marks. done_steady _))))

-- ---- blocks

no_label_steady : Steady no_block_label
no_label_steady = checked_steady (change numbered_label) fitting (change_good _ numbered_label) (change_steady numbered_label) (λ s t token more a m. absurd (nothing token more m.0))
  where
    nothing : (token : Token) (more : List Token) → token ∷ more ≡ [] → ⊥
    nothing token more e = cc

module _ (m : Meaning) (role : Role) where
  closing_steady : Steady (closing m.text)
  unfolding closing
  closing_steady = then_steady _ _ (plain_steady _) (λ _. done_steady None)

  closing_eats : Eats (closing m.text)
  unfolding closing
  closing_eats = then_eats _ _ (plain_eats (λ token. only_where (is_sign m.text (codes "}") token))) (λ _. done_steady None)

  label_piece_steady : Steady (label_piece m.text)
  unfolding label_piece
  label_piece_steady = then_steady _ _ (one_steady _) (λ label. done_steady _)

  label_piece_eats : Eats (label_piece m.text)
  unfolding label_piece
  label_piece_eats = then_eats _ _ (one_eats (written_label m.text)) (λ label. done_steady _)

  instr_piece_steady : Steady (instr_piece (an_instr m role))
  unfolding instr_piece
  instr_piece_steady = then_steady _ _ (instr_steady m role) (λ i. done_steady _)

  instr_piece_eats : Eats (instr_piece (an_instr m role))
  unfolding instr_piece
  instr_piece_eats = then_eats _ _ (instr_eats m role) (λ i. done_steady _)

  piece_steady : Steady (a_piece m.text (an_instr m role))
  unfolding a_piece
  piece_steady = if_next_steady (is_close m.text) _ _ closing_steady (if_next_steady is_label _ _ label_piece_steady instr_piece_steady)

  piece_eats : Eats (a_piece m.text (an_instr m role))
  unfolding a_piece
  piece_eats = if_next_eats (is_close m.text) _ _ closing_eats (if_next_eats is_label _ _ label_piece_eats instr_piece_eats)

  labelled_steady : Steady (labelled m.text)
  unfolding labelled
  labelled_steady = then_steady _ _ (one_steady _) (λ label. done_steady _)

  unlabelled_steady : Steady (unlabelled (an_instr m role))
  unfolding unlabelled
  unlabelled_steady = then_steady _ _ no_label_steady (λ label. then_steady _ _ (instr_steady m role) (λ first. done_steady _))

  entry_steady : Steady (entry m.text (an_instr m role))
  unfolding entry
  entry_steady = if_next_steady is_label _ _ labelled_steady unlabelled_steady

  body_steady : Steady (body m.text (an_instr m role))
  unfolding body
  body_steady = then_steady _ _ entry_steady (λ first. then_steady _ _ (repeat_steady (a_piece m.text (an_instr m role)) piece_steady (λ s t tokens rest a e. piece_eats.less s tokens (Some a, t, rest) e)) (λ pieces. done_steady _))

  -- ---- whole functions

  head_body_steady : Steady (head_body m role)
  unfolding head_body
  head_body_steady = then_steady _ _ (head_steady m role true) (λ head. then_steady _ _ (plain_steady _) (λ _. then_steady _ _ body_steady (λ blocks. done_steady _)))

  pub function_steady : Steady (a_function m role)
  unfolding a_function
  function_steady = then_steady _ _ (inside_steady no_locals_yet (head_body m role) head_body_steady) (λ f. done_steady (written f))
