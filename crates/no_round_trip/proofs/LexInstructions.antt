-- Instructions are forms.
use Rattle.std.proofs.Common.{◌≡◌, ℕ, Bool, true, false, List, [], ◌∷◌, ◌++◌, codes, decimal, Option, Some, None, refl}
use Rattle.no_ir.specs.declared.types.Ty.{Ty}
use Rattle.no_ir.specs.declared.types.Ty.TheVariants as ty
use Rattle.no_ir.specs.declared.instruction.BinOp.{BinOp}
use Rattle.no_ir.specs.declared.instruction.BinOp.TheVariants as by
use Rattle.no_ir.specs.declared.instruction.CastOp.{CastOp}
use Rattle.no_ir.specs.declared.instruction.CastOp.TheVariants as cast
use Rattle.no_ir.specs.declared.instruction.Pred.{Pred}
use Rattle.no_ir.specs.declared.instruction.Pred.TheVariants as pred
use Rattle.no_ir.specs.declared.instruction.Operand.{Operand}
use Rattle.no_ir.specs.declared.instruction.Operand.TheVariants as operand
use Rattle.no_ir.specs.declared.instruction.Op.{Op}
use Rattle.no_ir.specs.declared.instruction.Op.TheVariants as op
use Rattle.no_ir.specs.declared.instruction.Instr.{Instr}
use Rattle.no_lex.specs.declared.token.TokenKind.TheVariants as kind
use Rattle.no_lex.specs.Spelling.{kind_of}
use Rattle.no_print.specs.Pieces.{Piece, glued, spaced, indented, piece, sign, word, integer, comma, with_commas}
use Rattle.no_print.specs.Names.{name_at, local_name, int_type, number}
use Rattle.no_print.specs.Constants.{Spelled, type_at}
use Rattle.no_print.specs.Instructions.{binary_word, cast_word, pred_word, volatile_word, alignment_pieces, inserted_pieces, Locals, operand_pieces, typed, sized, pointer, label, pair_pieces, count_pieces, argument_pieces, case_pieces, op_pieces, with_result, instr_pieces}
use Rattle.no_round_trip.proofs.LexForms.{IsForm, IsApart, all_are, alone, apart_then, behind_space, comma_then, commas_apart, fits_then, integer_form, list_form, nothing_apart, piece_form, sign_apart, sign_then, then_form, word_form, word_then}
use Rattle.no_round_trip.proofs.LexSpellings.{decimal_kind}
use Rattle.no_round_trip.proofs.LexTypes.{int_form, local_form, number_form, type_form}
use Rattle.no_round_trip.proofs.LexConstants.{close_apart, const_form}

-- ---- words

binary_kind : (o : BinOp) → kind_of (binary_word o) ≡ Some kind.Word
binary_kind by.Add = refl
binary_kind by.Sub = refl
binary_kind by.Mul = refl
binary_kind by.UDiv = refl
binary_kind by.URem = refl
binary_kind by.SDiv = refl
binary_kind by.SRem = refl
binary_kind by.Shl = refl
binary_kind by.LShr = refl
binary_kind by.AShr = refl
binary_kind by.And = refl
binary_kind by.Or = refl
binary_kind by.Xor = refl

cast_kind : (c : CastOp) → kind_of (cast_word c) ≡ Some kind.Word
cast_kind cast.Trunc = refl
cast_kind cast.ZExt = refl
cast_kind cast.SExt = refl
cast_kind cast.PtrToInt = refl
cast_kind cast.IntToPtr = refl
cast_kind cast.BitCast = refl

pred_kind : (p : Pred) → kind_of (pred_word p) ≡ Some kind.Word
pred_kind pred.Eq = refl
pred_kind pred.Ne = refl
pred_kind pred.Ugt = refl
pred_kind pred.Uge = refl
pred_kind pred.Ult = refl
pred_kind pred.Ule = refl
pred_kind pred.Sgt = refl
pred_kind pred.Sge = refl
pred_kind pred.Slt = refl
pred_kind pred.Sle = refl

-- a word behind a space
pub a_word : (bytes : List ℕ) → kind_of bytes ≡ Some kind.Word → IsApart (word spaced bytes)
a_word bytes e = behind_space (λ gap. word gap bytes) (word_form bytes e)

-- a word behind a space, and more
pub word_and : (bytes : List ℕ) (ys : List Piece) → kind_of bytes ≡ Some kind.Word → IsApart ys → IsApart (word spaced bytes ++ ys)
word_and bytes ys e a = behind_space (λ gap. word gap bytes ++ ys) (word_then bytes ys e a)

volatile_apart : (volatile : Bool) → IsApart (volatile_word volatile)
volatile_apart false = nothing_apart
volatile_apart true = a_word (codes "volatile") refl

pub alignment_apart : (align : Option ℕ) → IsApart (alignment_pieces align)
alignment_apart None = nothing_apart
alignment_apart (Some n) = comma_then _ (word_and (codes "align") (integer spaced (decimal n)) refl (behind_space _ (integer_form (decimal n) (decimal_kind n)))).fits

inserted_apart : (inserted : Bool) → IsApart (inserted_pieces inserted)
inserted_apart false = nothing_apart
inserted_apart true = comma_then _ (behind_space _ (then_form (λ gap. piece kind.Meta gap (codes "!no.x")) (piece kind.Meta spaced (codes "!0")) (piece_form kind.Meta (codes "!no.x") refl refl)
    (behind_space (λ gap. piece kind.Meta gap (codes "!0")) (piece_form kind.Meta (codes "!0") refl refl)))).fits

module _ (s : Spelled) (f : Locals) where
  -- ---- operands

  operand_apart : (t : Ty) (o : Operand) → IsApart (operand_pieces s f t o)
  operand_apart t (operand.Reg r) = behind_space _ (local_form (name_at f.registers r))
  operand_apart t (operand.Const c) = behind_space _ (const_form s c t)

  typed_form : (t : Ty) (o : Operand) → IsForm (λ gap. typed s f gap t o)
  typed_form t o = then_form (λ gap. type_at s gap t) (operand_pieces s f t o) (type_form s.named t) (operand_apart t o)

  typed_apart : (t : Ty) (o : Operand) → IsApart (typed s f spaced t o)
  typed_apart t o = behind_space (λ gap. typed s f gap t o) (typed_form t o)

  type_apart : (t : Ty) → IsApart (type_at s spaced t)
  type_apart t = behind_space (λ gap. type_at s gap t) (type_form s.named t)

  sized_apart : (w : ℕ) (o : Operand) → IsApart (sized s f w o)
  sized_apart w o = apart_then (int_type spaced w) (operand_pieces s f (ty.Int w) o) (behind_space (λ gap. int_type gap w) (int_form w)) (operand_apart (ty.Int w) o)

  pointer_apart : (o : Operand) → IsApart (pointer s f o)
  pointer_apart o = word_and (codes "ptr") (operand_pieces s f ty.Ptr o) refl (operand_apart ty.Ptr o)

  label_apart : (l : ℕ) → IsApart (label s f l)
  label_apart l = word_and (codes "label") (local_name spaced (name_at f.labels l)) refl (behind_space _ (local_form (name_at f.labels l)))

  -- ---- parts of forms

  pair_form : (t : Ty) (p : Operand × ℕ) → IsForm (λ gap. pair_pieces s f t gap p)
  pair_form t p =
      sign_then 91 _ refl (fits_then (operand_pieces s f t p.0) _ (operand_apart t p.0).fits
      (comma_then _ (fits_then (local_name spaced (name_at f.labels p.1)) (sign spaced (codes "]")) (behind_space _ (local_form (name_at f.labels p.1))).fits (sign_apart 93 spaced [] refl refl refl tt))))

  count_apart : (count : Option (ℕ × Operand)) → IsApart (count_pieces s f count)
  count_apart None = nothing_apart
  count_apart (Some n) = comma_then (sized s f n.0 n.1) (sized_apart n.0 n.1).fits

  cases_apart : (w : ℕ) (cases : List (ℕ × ℕ)) → IsApart (case_pieces s f w cases)
  cases_apart w [] = nothing_apart
  cases_apart w (c ∷ cases) =
      apart_then (int_type spaced w) _ (behind_space (λ gap. int_type gap w) (int_form w)) (apart_then (number w spaced c.0) _ (behind_space (λ gap. number w gap c.0) (number_form w c.0))
      (comma_then _ (fits_then (label s f c.1) (case_pieces s f w cases) (label_apart c.1).fits (cases_apart w cases))))

  -- ---- operations

  module _ (a b : List Piece) (x : IsApart a) (y : IsApart b) where
    -- two parts with a comma between
    two : IsApart (a ++ (comma ++ b))
    two = apart_then a (comma ++ b) x (comma_then b y.fits)

  pub op_form : (o : Op) → IsForm (λ gap. op_pieces s f gap o)
  op_form (op.Binary o w a b) = word_then (binary_word o) _ (binary_kind o) (two _ _ (sized_apart w a) (operand_apart (ty.Int w) b))
  op_form (op.Compare p t a b) = word_then (codes "icmp") _ refl (word_and (pred_word p) _ (pred_kind p) (two _ _ (typed_apart t a) (operand_apart t b)))
  op_form (op.Cast c t a u) = word_then (cast_word c) _ (cast_kind c) (apart_then _ _ (typed_apart t a) (word_and (codes "to") _ refl (type_apart u)))
  op_form (op.Freeze t a) = word_then (codes "freeze") _ refl (typed_apart t a)
  op_form (op.Select c t a b) = word_then (codes "select") _ refl (two _ _ (sized_apart 1 c) (two _ _ (typed_apart t a) (typed_apart t b)))
  op_form (op.Phi t pairs) =
      word_then (codes "phi") _ refl (apart_then _ _ (type_apart t) (behind_space (λ gap. with_commas (pair_pieces s f t) gap pairs) (list_form (pair_pieces s f t) pairs (all_are _ (pair_form t) pairs))))
  op_form (op.Alloca t count align) = word_then (codes "alloca") _ refl (apart_then _ _ (type_apart t) (apart_then _ _ (count_apart count) (alignment_apart align)))
  op_form (op.Load volatile t a) = word_then (codes "load") _ refl (apart_then _ _ (volatile_apart volatile) (two _ _ (type_apart t) (pointer_apart a)))
  op_form (op.Store volatile t v a) = word_then (codes "store") _ refl (apart_then _ _ (volatile_apart volatile) (two _ _ (typed_apart t v) (pointer_apart a)))
  op_form (op.Gep t a indices) =
      word_then (codes "getelementptr") _ refl (two _ _ (type_apart t) (apart_then _ _ (pointer_apart a) (commas_apart (λ i. sized s f i.0 i.1) indices (all_are _ (λ i. (sized_apart i.0 i.1).fits) indices))))
  op_form (op.Call t g args) =
      word_then (codes "call") _ refl (apart_then _ _ (type_apart t) (apart_then _ _ (operand_apart ty.Ptr g) (sign_apart 40 glued _ refl refl refl
      (fits_then (with_commas (argument_pieces s f) glued args) (sign glued (codes ")")) (alone (λ gap. with_commas (argument_pieces s f) gap args) (list_form (argument_pieces s f) args (all_are _ (λ a. typed_form a.0 a.1) args))) close_apart))))
  op_form (op.Br l) = word_then (codes "br") _ refl (label_apart l)
  op_form (op.CondBr c l other) = word_then (codes "br") _ refl (two _ _ (sized_apart 1 c) (two _ _ (label_apart l) (label_apart other)))
  op_form (op.Switch w a l cases) =
      word_then (codes "switch") _ refl (two _ _ (sized_apart w a) (apart_then _ _ (label_apart l) (sign_apart 91 spaced _ refl refl refl
      (fits_then (case_pieces s f w cases) (sign spaced (codes "]")) (cases_apart w cases).fits (sign_apart 93 spaced [] refl refl refl tt)))))
  op_form (op.Ret None) = word_then (codes "ret") _ refl (a_word (codes "void") refl)
  op_form (op.Ret (Some v)) = word_then (codes "ret") _ refl (typed_apart v.0 v.1)
  op_form op.Unreachable = word_form (codes "unreachable") refl

  -- ---- whole instructions

  with_result_apart : (result : Option ℕ) (o : Op) → IsApart (with_result s f result o)
  with_result_apart None o = record { fits = (op_form o).fits indented refl; begins = (op_form o).begins 10 (32 ∷ 32 ∷ []) }
  with_result_apart (Some r) o =
      let named = then_form (λ gap. local_name gap (name_at f.registers r)) _ (local_form (name_at f.registers r)) (sign_apart 61 spaced (op_pieces s f spaced o) refl refl refl ((op_form o).fits spaced refl)) in
      record { fits = named.fits indented refl; begins = named.begins 10 (32 ∷ 32 ∷ []) }

  pub instr_apart : (i : Instr) → IsApart (instr_pieces s f i)
  instr_apart i = apart_then (with_result s f i.result i.op) (inserted_pieces i.inserted) (with_result_apart i.result i.op) (inserted_apart i.inserted)
