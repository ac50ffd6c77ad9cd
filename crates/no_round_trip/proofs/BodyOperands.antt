-- Words, types, widths and operands of an instruction are read again.
use Rattle.std.proofs.Common.{◌≡◌, ℕ, Bool, true, false, List, [], ◌++◌, bytes_eq, codes, inl, inr, refl, sym, ap, subst, ◌∙◌}
use Rattle.no_lex.specs.declared.token.Token.{Token}
use Rattle.no_lex.specs.declared.token.TokenKind.TheVariants as kind
use Rattle.no_ir.specs.declared.types.Ty.{Ty, out-Ty}
use Rattle.no_ir.specs.declared.types.Ty.TheOpen.{Ty-F}
use Rattle.no_ir.specs.declared.types.Ty.TheVariants as ty
use Rattle.no_ir.specs.declared.types.Ty.TheVariants.{rolls-Int, rolls-Ptr}
use Rattle.no_ir.specs.declared.types.Ty.TheViews.{out-roll-Ty}
use Rattle.no_ir.specs.declared.constant.Const.{Const}
use Rattle.no_ir.specs.declared.instruction.Operand.{Operand}
use Rattle.no_read_rules.specs.Rules.{plain, checked}
use Rattle.no_read_rules.specs.Scope.{Meaning}
use Rattle.no_read_rules.specs.Spelled.{spelled, is_kind, is_word, only_where, a_word, a_sign}
use Rattle.no_read_rules.specs.Types.{a_type, must_be}
use Rattle.no_read_constants.specs.Places.{width_of}
use Rattle.no_read_constants.specs.Constants.{a_const}
use Rattle.no_read_attributes.specs.Attributes.{begins_by, begins_attribute}
use Rattle.no_read_registers.specs.declared.locals.Locals.{Locals}
use Rattle.no_read_registers.specs.Numbered.{a_label}
use Rattle.no_read_operations.specs.Operands.{DEPTH, word, sign, some_type, this_type, a_width, register_operand, const_operand, an_operand, a_pointer, sized_operand}
use Rattle.no_print.specs.Names.{name_at, local_name, int_type}
use Rattle.no_print.specs.Pieces.{Piece, spaced, comma}
use Rattle.no_print.specs.Pieces as print
use Rattle.no_print.specs.Constants.{type_at, const_pieces}
use Rattle.no_print.specs.Instructions.{operand_pieces, sized, pointer, label}
use Rattle.no_round_trip.specs.Spells.{AreBytes, WidthFits, TypeFits, TypesFit, over, spelled_by}
use Rattle.no_round_trip.proofs.ConstFirst.{read_fits}
use Rattle.no_round_trip.proofs.ConstAgain.{const_again}
use Rattle.no_round_trip.proofs.RuleListing.{word_spells, sign_spells}
use Rattle.no_round_trip.proofs.RuleOpening.{kept_value, kept_state, begins_alone}
use Rattle.no_round_trip.proofs.RuleOpening as opening
use Rattle.no_round_trip.proofs.ConstPlaces.{width_small, width_spells}
use Rattle.no_round_trip.proofs.RuleStanding.{Begins, begins, kind_tested, word_tested}
use Rattle.no_round_trip.proofs.TypeAgain.{type_again, same_again}
use Rattle.no_round_trip.proofs.WordWidths.{IsWidth}
use Rattle.no_round_trip.specs.States.{named_by}
use Rattle.no_round_trip.proofs.BodyBeginnings.{OtherWord, type_no_word, type_no_attribute, const_no_local, const_no_attribute}
use Rattle.no_round_trip.proofs.BodyRegisters.{register_again, label_name_again}
use Rattle.no_round_trip.proofs.BodyReturning.{Returns, ending, lifted, value_is, yes_returns, no_returns, then_returns, made_returns}

-- ---- types that constants are read at

pub int_fits : (w : ℕ) → IsWidth w → TypeFits (ty.Int w)
int_fits w h = subst WidthFits (sym (ap out-Ty (sym (rolls-Int w)) ∙ out-roll-Ty (Ty-F.Int w))) (h.some, h.most)

pub ptr_fits : TypeFits ty.Ptr
ptr_fits = subst WidthFits (sym (ap out-Ty (sym rolls-Ptr) ∙ out-roll-Ty Ty-F.Ptr)) tt

-- ---- first pieces

pub local_first : (text gap name : List ℕ) (rest : List Piece) → Begins text (is_kind kind.Local) true (local_name gap name ++ rest)
local_first text gap name rest = begins text (is_kind kind.Local) true (local_name gap name ++ rest) (λ token h. kind_tested text kind.Local _ token h)

pub word_first : (text gap w want : List ℕ) (rest : List Piece) (answer : Bool) → bytes_eq w want ≡ answer → Begins text (is_word text want) answer (print.word gap w ++ rest)
word_first text gap w want rest answer e =
    begins text (is_word text want) answer (print.word gap w ++ rest) (λ token h. word_tested text want (record { gap = gap; kind = kind.Word; bytes = w }) token h ∙ e)

module _ (m : Meaning) (text : List ℕ) (bytes : AreBytes m.text) (fit : TypesFit m.types) (last : Locals) where
  -- ---- words and signs

  pub word_back : (gap w : List ℕ) {s t : Locals} → bytes_eq w w ≡ true → t ≡ s → Returns text last (word text w) (print.word gap w) tt s t
  word_back gap w same e = lifted (a_word text w) e (word_spells text gap tt w same)

  pub sign_back : (gap w : List ℕ) {s t : Locals} → bytes_eq w w ≡ true → t ≡ s → Returns text last (sign text w) (print.sign gap w) tt s t
  sign_back gap w same e = lifted (a_sign text w) e (sign_spells text gap tt w same)

  bare_word_back : (gap w : List ℕ) {s t : Locals} → bytes_eq w w ≡ true → t ≡ s → Returns text last (a_word text w) (print.word gap w) tt s t
  bare_word_back gap w same e = ending e (record { fine = λ h. h; holds = λ w. w; spells = λ h k z l. (z, l, word_spells text gap z w same) })

  -- ---- types

  pub type_back : (gap : List ℕ) {s t : Locals} (tokens : List Token) (ty : Ty) → (some_type m).means s tokens ty t → Returns text last (some_type (over m text)) (type_at (spelled_by m) gap ty) ty s t
  type_back gap tokens ty r = lifted (a_type (over m text) DEPTH) r.1 (type_again m text bytes DEPTH gap tt tt tt tokens ty tt r.0).2

  -- at any state
  pub type_any : (gap : List ℕ) {s t v : Locals} (tokens : List Token) (ty : Ty) → (some_type m).means s tokens ty t → Returns text last (some_type (over m text)) (type_at (spelled_by m) gap ty) ty v v
  type_any gap tokens ty r = lifted (a_type (over m text) DEPTH) refl (type_again m text bytes DEPTH gap tt tt tt tokens ty tt r.0).2

  pub type_fits : (s t : Locals) (tokens : List Token) (ty : Ty) → (some_type m).means s tokens ty t → TypeFits ty
  type_fits s t tokens ty r = read_fits m DEPTH tokens ty bytes r.0

  -- what stands behind a type doesn't change what it begins with
  pub type_not : (gap w : List ℕ) (s t : Locals) (tokens : List Token) (ty : Ty) (rest : List Piece) → OtherWord w → (some_type m).means s tokens ty t
      → Begins text (is_word text w) false (type_at (spelled_by m) gap ty ++ rest)
  type_not gap w s t tokens ty rest other r =
      opening.begins_by text (is_word text w) false (a_type (over m text) DEPTH) (type_no_word (over m text) DEPTH w other) tt tt ty (type_at (spelled_by m) gap ty) rest (type_again m text bytes DEPTH gap tt tt tt tokens ty tt r.0).2

  pub type_plain : (gap : List ℕ) (s t : Locals) (tokens : List Token) (ty : Ty) (rest : List Piece) → (some_type m).means s tokens ty t
      → Begins text (begins_attribute text) false (type_at (spelled_by m) gap ty ++ rest)
  type_plain gap s t tokens ty rest r =
      opening.begins_by text (begins_attribute text) false (a_type (over m text) DEPTH) (type_no_attribute (over m text) DEPTH) tt tt ty (type_at (spelled_by m) gap ty) rest (type_again m text bytes DEPTH gap tt tt tt tokens ty tt r.0).2

  pub this_back : (gap : List ℕ) {s t : Locals} (tokens : List Token) (want : Ty) → (this_type m want).means s tokens tt t → Returns text last (this_type (over m text) want) (type_at (spelled_by m) gap want) tt s t
  this_back gap tokens want r = lifted (checked (a_type (over m text) DEPTH) (must_be want)) r.1 (same_again m text bytes DEPTH want gap tokens r.0)

  -- ---- widths

  pub width_read : {s t : Locals} (tokens : List Token) (w : ℕ) → (a_width m).means s tokens w t → IsWidth w
  width_read tokens w r = width_small m.text r.0.token w (kept_value tt (width_of m.text r.0.token) w tt r.0.value)

  pub width_back : (gap : List ℕ) {s t : Locals} (tokens : List Token) (w : ℕ) → (a_width m).means s tokens w t → Returns text last (a_width (over m text)) (int_type gap w) w s t
  width_back gap tokens w r = lifted (plain (width_of text)) r.1 (width_spells text gap w (width_small m.text r.0.token w (kept_value tt (width_of m.text r.0.token) w tt r.0.value)))

  -- ---- operands

  abbrev shown : Ty → Operand → List Piece
  shown = operand_pieces (spelled_by m) (named_by last)

  register_back : (ty : Ty) {s t : Locals} (tokens : List Token) (o : Operand) → (register_operand m.text).means s tokens o t → Returns text last (an_operand (over m text) ty) (shown ty o) o s t
  unfolding register_operand an_operand
  register_back ty tokens o r =
      value_is (an_operand (over m text) ty) (shown ty) r.in_back.1 (ending r.in_back.2
      (yes_returns (local_first text spaced (name_at last.registers r.first) []) (made_returns (register_again m.text text bytes last spaced _ r.between r.front r.first r.in_front))))

  const_back : (ty : Ty) → TypeFits ty → {s t : Locals} (tokens : List Token) (o : Operand) → (const_operand m ty).means s tokens o t → Returns text last (an_operand (over m text) ty) (shown ty o) o s t
  unfolding const_operand an_operand
  const_back ty fits tokens o r =
      let c : Const = r.first in
      let spells = const_again m text bytes fit DEPTH ty fits spaced r.front c r.in_front.0 in
      value_is (an_operand (over m text) ty) (shown ty) r.in_back.1 (ending r.in_back.2
      (no_returns (begins_alone text (is_kind kind.Local) false (a_const (over m text) DEPTH ty) (const_no_local (over m text) DEPTH ty) tt tt c (const_pieces (spelled_by m) c ty spaced) spells)
      (made_returns (lifted (a_const (over m text) DEPTH ty) r.in_front.1 spells))))

  pub operand_back : (ty : Ty) → TypeFits ty → {s t : Locals} (tokens : List Token) (o : Operand) → (an_operand m ty).means s tokens o t → Returns text last (an_operand (over m text) ty) (shown ty o) o s t
  unfolding an_operand
  operand_back ty fits tokens o (inl r) = register_back ty tokens o r.1
  operand_back ty fits tokens o (inr r) = const_back ty fits tokens o r.1

  -- an operand does not begin as an attribute does
  pub operand_plain : (ty : Ty) → TypeFits ty → (s t : Locals) (tokens : List Token) (o : Operand) → (an_operand m ty).means s tokens o t → Begins text (begins_attribute text) false (shown ty o)
  unfolding an_operand register_operand const_operand
  operand_plain ty fits s t tokens o (inl r) =
      subst (λ x. Begins text (begins_attribute text) false (shown ty x)) (sym r.1.in_back.1)
      (begins text (begins_attribute text) false (local_name spaced (name_at last.registers r.1.first)) (λ token h. ap (λ k. begins_by k (spelled text token)) h.kind))
  operand_plain ty fits s t tokens o (inr r) =
      let c : Const = r.1.first in
      let spells = const_again m text bytes fit DEPTH ty fits spaced r.1.front c r.1.in_front.0 in
      subst (λ x. Begins text (begins_attribute text) false (shown ty x)) (sym r.1.in_back.1)
      (begins_alone text (begins_attribute text) false (a_const (over m text) DEPTH ty) (const_no_attribute (over m text) DEPTH ty) tt tt c (const_pieces (spelled_by m) c ty spaced) spells)

  pub pointer_back : {s t : Locals} (tokens : List Token) (o : Operand) → (a_pointer m).means s tokens o t → Returns text last (a_pointer (over m text)) (pointer (spelled_by m) (named_by last) o) o s t
  unfolding a_pointer
  pointer_back tokens o r = then_returns (word_back spaced (codes "ptr") refl r.in_front.1) (operand_back ty.Ptr ptr_fits r.back o r.in_back)

  pub sized_back : {s t : Locals} (tokens : List Token) (x : ℕ × Operand) → (sized_operand m).means s tokens x t → Returns text last (sized_operand (over m text)) (sized (spelled_by m) (named_by last) x.0 x.1) x s t
  unfolding sized_operand
  sized_back tokens x r =
      let k = r.in_back in
      value_is (sized_operand (over m text)) (λ x. sized (spelled_by m) (named_by last) x.0 x.1) k.in_back.1 (ending k.in_back.2
      (then_returns (width_back spaced r.front r.first r.in_front) (made_returns (operand_back (ty.Int r.first) (int_fits r.first (width_read r.front r.first r.in_front)) k.front k.first k.in_front))))

  pub label_back : {s t : Locals} (tokens : List Token) (l : ℕ) → (a_label m.text).means s tokens l t → Returns text last (a_label text) (label (spelled_by m) (named_by last) l) l s t
  unfolding a_label
  label_back tokens l r =
      then_returns (bare_word_back spaced (codes "label") refl (kept_state _ (only_where (is_word m.text (codes "label") r.in_front.token)) tt r.between r.in_front.value)) (label_name_again m.text text bytes last spaced r.between _ r.back l r.in_back)
