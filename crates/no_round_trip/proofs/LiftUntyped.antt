-- No definition of a type begins where globals and functions are spelled: none of their words is `type`.
use Rattle.std.proofs.Common.{◌≡◌, ℕ, suc, zero, Bool, true, false, ◌&&◌, ◌==◌, List, [], ◌∷◌, ◌++◌, map, bytes_eq, codes, decimal, Option, Some, None, ℤ, if◌then◌else◌, refl, sym, ap, subst, ◌∙◌}
use Rattle.std.specs.List.{list_any}
use Rattle.std.specs.Fmt.{signed_decimal}
use Rattle.no_ir.specs.declared.types.Ty.{Ty, out-Ty, roll-Ty}
use Rattle.no_ir.specs.declared.types.Ty.TheOpen.{Ty-F}
use Rattle.no_ir.specs.declared.types.Ty.TheFolds.{ind-Ty, fold-roll-Ty, map-Ty}
use Rattle.no_ir.specs.declared.types.Ty.TheVariants as ty
use Rattle.no_ir.specs.declared.constant.Const.{Const, roll-Const}
use Rattle.no_ir.specs.declared.constant.Const.TheOpen.{Const-F}
use Rattle.no_ir.specs.declared.constant.Const.TheFolds.{ind-Const, fold-roll-Const, map-Const}
use Rattle.no_ir.specs.declared.constant.Place.{Place}
use Rattle.no_ir.specs.declared.instruction.BinOp.{BinOp}
use Rattle.no_ir.specs.declared.instruction.BinOp.TheVariants as by
use Rattle.no_ir.specs.declared.instruction.CastOp.{CastOp}
use Rattle.no_ir.specs.declared.instruction.CastOp.TheVariants as cast
use Rattle.no_ir.specs.declared.instruction.Pred.{Pred}
use Rattle.no_ir.specs.declared.instruction.Pred.TheVariants as pred
use Rattle.no_ir.specs.declared.instruction.Operand.{Operand}
use Rattle.no_ir.specs.declared.instruction.Operand.TheVariants as operand
use Rattle.no_ir.specs.declared.instruction.Op.{Op}
use Rattle.no_ir.specs.declared.instruction.Op.TheVariants as op
use Rattle.no_ir.specs.declared.instruction.Instr.{Instr}
use Rattle.no_ir.specs.declared.function.Block.{Block}
use Rattle.no_ir.specs.declared.function.Function.{Function}
use Rattle.no_ir.specs.declared.function.GlobalVar.{GlobalVar}
use Rattle.no_ir.specs.declared.function.Module.{Module}
use Rattle.no_lex.specs.declared.token.Token.{Token}
use Rattle.no_lex.specs.declared.token.TokenKind.TheVariants as kind
use Rattle.no_read_rules.specs.Spelled.{is_kind, is_word, is_sign}
use Rattle.no_read_types.specs.Lifting.{begins_definition}
use Rattle.no_print.specs.Constants.{Spelled, zero_in, width_in, element_in, fields_in, int_as_address, index_pieces, gep_place, place_by, place_pieces, resolved, typed, member, array_const, struct_const, address_as_int, const_step, const_pieces}
use Rattle.no_print.specs.Instructions.{Locals, binary_word, cast_word, pred_word, volatile_word, alignment_pieces, inserted_pieces, operand_pieces, pair_pieces, count_pieces, argument_pieces, case_pieces, op_pieces, with_result, instr_pieces}
use Rattle.no_print.specs.Modules.{kind_word, global_pieces, bound_pieces, address_pieces, attributes, head_pieces, type_alone, declared_pieces, param_pieces, instrs_pieces, blocks_pieces, locals_of, defined_pieces, function_by, function_pieces, has_inserted, node_pieces, each}
use Rattle.no_eval.specs.Numbers.{signed}
use Rattle.no_print.specs.Names.{truth, number}
use Rattle.no_print.specs.Pieces.{Piece, glued, spaced, indented, word, integer, behind_commas, with_commas}
use Rattle.no_print.specs.Stand.{Stand}
use Rattle.no_print.specs.Types.{in_braces, fields_with, struct_pieces, type_step, type_pieces}
use Rattle.no_round_trip.proofs.RuleStanding.{piece_is_word, word_tested}
use Rattle.no_round_trip.specs.Rest.{forms_in}

-- no piece is the word type
abbrev pub Untyped : List Piece → Type 0
Untyped [] = Unit {0}
Untyped (p ∷ pieces) = (piece_is_word (codes "type") p ≡ false) × Untyped pieces

pub record Plain (pieces : List Piece) : Type 0 where
  pub each : Untyped pieces

none : Plain []
none = record { each = tt }

lead : (p : Piece) (pieces : List Piece) → piece_is_word (codes "type") p ≡ false → Plain pieces → Plain (p ∷ pieces)
lead p pieces e x = record { each = (e, x.each) }

-- one piece
alone : (p : Piece) → piece_is_word (codes "type") p ≡ false → Plain (p ∷ [])
alone p e = lead p [] e none

untyped_append : (a b : List Piece) → Untyped a → Untyped b → Untyped (a ++ b)
untyped_append [] b x y = y
untyped_append (p ∷ a) b x y = (x.0, untyped_append a b x.1 y)

both : (a b : List Piece) → Plain a → Plain b → Plain (a ++ b)
both a b x y = record { each = untyped_append a b x.each y.each }

-- ---- lists

module _ {A : Type 0} where
  behind_plain : (f : A → List Piece) (all : List A) → ((a : A) → Plain (f a)) → Plain (behind_commas f all)
  behind_plain f [] h = none
  behind_plain f (a ∷ all) h = lead _ _ refl (both (f a) (behind_commas f all) (h a) (behind_plain f all h))

  commas_plain : (f : List ℕ → A → List Piece) (gap : List ℕ) (all : List A) → ((gap : List ℕ) (a : A) → Plain (f gap a)) → Plain (with_commas f gap all)
  commas_plain f gap [] h = none
  commas_plain f gap (a ∷ all) h = both (f gap a) (behind_commas (f spaced) all) (h gap a) (behind_plain (f spaced) all (h spaced))

  each_plain : (f : A → List Piece) (all : List A) → ((a : A) → Plain (f a)) → Plain (each f all)
  each_plain f [] h = none
  each_plain f (a ∷ all) h = both (f a) (each f all) (h a) (each_plain f all h)

braces_plain : (gap : List ℕ) (pieces : List Piece) → Plain pieces → Plain (in_braces gap pieces)
braces_plain gap [] x = lead _ _ refl (alone _ refl)
braces_plain gap (p ∷ pieces) x = lead _ _ refl (both (p ∷ pieces) _ x (alone _ refl))

-- ---- types

abbrev Spelling : Type 0
Spelling = List ℕ → List Piece

module _ (names : List (List ℕ)) where
  abbrev IsPlain : Ty → Type 0
  IsPlain t = (gap : List ℕ) → Plain (type_pieces names t gap)

  module _ (S : Type 0) (v : S → Ty) (h : (d : S) → IsPlain (v d)) where
    behind_fields : (ds : List S) → Plain (behind_commas (λ (field : Spelling). field spaced) (map (type_pieces names) (map v ds)))
    behind_fields [] = none
    behind_fields (d ∷ ds) = lead _ _ refl (both (type_pieces names (v d) spaced) _ (h d spaced) (behind_fields ds))

    fields_plain : (ds : List S) → Plain (fields_with (map (type_pieces names) (map v ds)))
    fields_plain [] = none
    fields_plain (d ∷ ds) = both (type_pieces names (v d) spaced) _ (h d spaced) (behind_fields ds)

    struct_plain : (packed : Bool) (gap : List ℕ) (fields : List Piece) → Plain fields → Plain (struct_pieces packed gap fields)
    struct_plain false gap fields x = braces_plain gap fields x
    struct_plain true gap fields x = lead _ _ refl (both (in_braces glued fields) _ (braces_plain glued fields x) (alone _ refl))

    step_plain : (y : Ty-F S) (gap : List ℕ) → Plain (type_step names (map-Ty Ty Spelling (type_pieces names) (map-Ty S Ty v y)) gap)
    step_plain Ty-F.Void gap = alone _ refl
    step_plain (Ty-F.Int w) gap = alone _ refl
    step_plain Ty-F.Ptr gap = alone _ refl
    step_plain (Ty-F.Array n d) gap = lead _ _ refl (lead _ _ refl (lead _ _ refl (both (type_pieces names (v d) spaced) _ (h d spaced) (alone _ refl))))
    step_plain (Ty-F.Struct p ds) gap = struct_plain p gap (fields_with (map (type_pieces names) (map v ds))) (fields_plain ds)
    step_plain (Ty-F.Named n) gap = alone _ refl

    one_plain : (y : Ty-F S) → IsPlain (roll-Ty (map-Ty S Ty v y))
    one_plain y gap = subst (λ (f : Spelling). Plain (f gap)) (sym (fold-roll-Ty Spelling (type_step names) (map-Ty S Ty v y))) (step_plain y gap)

  pub type_plain : (t : Ty) (gap : List ℕ) → Plain (type_pieces names t gap)
  type_plain t = ind-Ty IsPlain (λ x y e. subst (λ (z : Ty-F Ty). IsPlain (roll-Ty z)) e (one_plain _ (λ d. d.0) (λ d. d.1) y)) t

-- ---- constants

truth_plain : (gap : List ℕ) (b : Bool) → Plain (word gap (if b then codes "false" else codes "true"))
truth_plain gap true = alone _ refl
truth_plain gap false = alone _ refl

number_plain : (w : ℕ) (gap : List ℕ) (n : ℕ) → Plain (number w gap n)
number_plain w gap n = by (w == 1)
  where
    by : (b : Bool) → Plain (if b then truth gap n else integer gap (signed_decimal (signed w n)))
    by true = truth_plain gap (n == 0)
    by false = alone _ refl

zero_plain : (gap : List ℕ) (x : Ty-F Ty) → Plain (zero_in gap x)
zero_plain gap (Ty-F.Int w) = number_plain w gap 0
zero_plain gap Ty-F.Ptr = alone _ refl
zero_plain gap Ty-F.Void = alone _ refl
zero_plain gap (Ty-F.Array n t) = alone _ refl
zero_plain gap (Ty-F.Struct p ts) = alone _ refl
zero_plain gap (Ty-F.Named n) = alone _ refl

index_plain : (i : ℤ) → Plain (index_pieces i)
index_plain i = lead _ _ refl (alone _ refl)

address_plain : (gap : List ℕ) (n : ℕ) → Plain (int_as_address gap n)
address_plain gap n = lead _ _ refl (lead _ _ refl (lead _ _ refl (lead _ _ refl (lead _ _ refl (lead _ _ refl (alone _ refl))))))

module _ (s : Spelled) where
  gep_plain : (gap : List ℕ) (place : Place) → Plain (gep_place s gap place)
  gep_plain gap place = lead _ _ refl (lead _ _ refl (both (type_pieces s.named place.base glued) _ (type_plain s.named place.base glued)
      (lead _ _ refl (lead _ _ refl (lead _ _ refl (both (behind_commas index_pieces place.indices) _ (behind_plain index_pieces place.indices index_plain) (alone _ refl)))))))

  place_by_plain : (gap : List ℕ) (place : Place) (indices : List ℤ) → Plain (place_by s gap place indices)
  place_by_plain gap place [] = alone _ refl
  place_by_plain gap place (i ∷ indices) = gep_plain gap place

  place_plain : (gap : List ℕ) (place : Place) → Plain (place_pieces s gap place)
  place_plain gap place = place_by_plain gap place place.indices

  ptr_to_int_plain : (gap : List ℕ) (t : Ty) (place : Place) → Plain (address_as_int s gap t place)
  ptr_to_int_plain gap t place = lead _ _ refl (lead _ _ refl (lead _ _ refl (both (place_pieces s spaced place) _ (place_plain spaced place)
      (lead _ _ refl (both (type_pieces s.named t spaced) _ (type_plain s.named t spaced) (alone _ refl))))))

  abbrev Spells : Type 0
  Spells = Ty → List ℕ → List Piece

  abbrev ConstPlain : Const → Type 0
  ConstPlain c = (t : Ty) (gap : List ℕ) → Plain (const_pieces s c t gap)

  module _ (S : Type 0) (v : S → Const) (h : (d : S) → ConstPlain (v d)) where
    member_plain : (gap : List ℕ) (t : Ty) (d : S) → Plain (member s gap t (const_pieces s (v d)))
    member_plain gap t d = both (type_pieces s.named t gap) (const_pieces s (v d) t spaced) (type_plain s.named t gap) (h d t spaced)

    behind_members : (t : Ty) (ds : List S) → Plain (behind_commas (λ (c : Spells). member s spaced t c) (map (const_pieces s) (map v ds)))
    behind_members t [] = none
    behind_members t (d ∷ ds) = lead _ _ refl (both (member s spaced t (const_pieces s (v d))) _ (member_plain spaced t d) (behind_members t ds))

    members_plain : (t : Ty) (ds : List S) → Plain (with_commas (λ g (c : Spells). member s g t c) glued (map (const_pieces s) (map v ds)))
    members_plain t [] = none
    members_plain t (d ∷ ds) = both (member s glued t (const_pieces s (v d))) _ (member_plain glued t d) (behind_members t ds)

    behind_typed : (ds : List S) (ts : List Ty) → Plain (behind_commas (λ (field : Spelling). field spaced) (typed s (map (const_pieces s) (map v ds)) ts))
    behind_typed [] ts = none
    behind_typed (d ∷ ds) [] = lead _ _ refl (both (member s spaced ty.Void (const_pieces s (v d))) _ (member_plain spaced ty.Void d) (behind_typed ds []))
    behind_typed (d ∷ ds) (t ∷ ts) = lead _ _ refl (both (member s spaced t (const_pieces s (v d))) _ (member_plain spaced t d) (behind_typed ds ts))

    typed_plain : (ds : List S) (ts : List Ty) → Plain (with_commas (λ g (field : Spelling). field g) spaced (typed s (map (const_pieces s) (map v ds)) ts))
    typed_plain [] ts = none
    typed_plain (d ∷ ds) [] = both (member s spaced ty.Void (const_pieces s (v d))) _ (member_plain spaced ty.Void d) (behind_typed ds [])
    typed_plain (d ∷ ds) (t ∷ ts) = both (member s spaced t (const_pieces s (v d))) _ (member_plain spaced t d) (behind_typed ds ts)

    const_step_plain : (y : Const-F S) (t : Ty) (gap : List ℕ) → Plain (const_step s (map-Const Const Spells (const_pieces s) (map-Const S Const v y)) t gap)
    const_step_plain Const-F.Zero t gap = zero_plain gap (out-Ty (resolved s t))
    const_step_plain (Const-F.Int n) t gap = number_plain (width_in (out-Ty (resolved s t))) gap n
    const_step_plain (Const-F.Str bytes) t gap = lead _ _ refl (alone _ refl)
    const_step_plain (Const-F.Array ds) t gap = lead _ _ refl (both _ _ (members_plain (element_in (out-Ty (resolved s t))) ds) (alone _ refl))
    const_step_plain (Const-F.Struct ds) t gap = braces_plain gap _ (typed_plain ds (fields_in (out-Ty (resolved s t))))
    const_step_plain (Const-F.Address place) t gap = place_plain gap place
    const_step_plain (Const-F.AddressAsInt place) t gap = ptr_to_int_plain gap t place
    const_step_plain (Const-F.IntAsPtr n) t gap = address_plain gap n

    one_const_plain : (y : Const-F S) → ConstPlain (roll-Const (map-Const S Const v y))
    one_const_plain y t gap = subst (λ (f : Spells). Plain (f t gap)) (sym (fold-roll-Const Spells (const_step s) (map-Const S Const v y))) (const_step_plain y t gap)

  const_plain : (c : Const) (t : Ty) (gap : List ℕ) → Plain (const_pieces s c t gap)
  const_plain c = ind-Const ConstPlain (λ x y e. subst (λ (z : Const-F Const). ConstPlain (roll-Const z)) e (one_const_plain _ (λ d. d.0) (λ d. d.1) y)) c

-- ---- words of instructions

binary_plain : (gap : List ℕ) (o : BinOp) → Plain (word gap (binary_word o))
binary_plain gap by.Add = alone _ refl
binary_plain gap by.Sub = alone _ refl
binary_plain gap by.Mul = alone _ refl
binary_plain gap by.UDiv = alone _ refl
binary_plain gap by.URem = alone _ refl
binary_plain gap by.SDiv = alone _ refl
binary_plain gap by.SRem = alone _ refl
binary_plain gap by.Shl = alone _ refl
binary_plain gap by.LShr = alone _ refl
binary_plain gap by.AShr = alone _ refl
binary_plain gap by.And = alone _ refl
binary_plain gap by.Or = alone _ refl
binary_plain gap by.Xor = alone _ refl

cast_plain : (gap : List ℕ) (c : CastOp) → Plain (word gap (cast_word c))
cast_plain gap cast.Trunc = alone _ refl
cast_plain gap cast.ZExt = alone _ refl
cast_plain gap cast.SExt = alone _ refl
cast_plain gap cast.PtrToInt = alone _ refl
cast_plain gap cast.IntToPtr = alone _ refl
cast_plain gap cast.BitCast = alone _ refl

pred_plain : (gap : List ℕ) (p : Pred) → Plain (word gap (pred_word p))
pred_plain gap pred.Eq = alone _ refl
pred_plain gap pred.Ne = alone _ refl
pred_plain gap pred.Ugt = alone _ refl
pred_plain gap pred.Uge = alone _ refl
pred_plain gap pred.Ult = alone _ refl
pred_plain gap pred.Ule = alone _ refl
pred_plain gap pred.Sgt = alone _ refl
pred_plain gap pred.Sge = alone _ refl
pred_plain gap pred.Slt = alone _ refl
pred_plain gap pred.Sle = alone _ refl

volatile_plain : (v : Bool) → Plain (volatile_word v)
volatile_plain false = none
volatile_plain true = alone _ refl

alignment_plain : (a : Option ℕ) → Plain (alignment_pieces a)
alignment_plain None = none
alignment_plain (Some n) = lead _ _ refl (lead _ _ refl (alone _ refl))

inserted_plain : (i : Bool) → Plain (inserted_pieces i)
inserted_plain false = none
inserted_plain true = lead _ _ refl (lead _ _ refl (alone _ refl))

-- ---- instructions

module _ (s : Spelled) (f : Locals) where
  operand_plain : (t : Ty) (o : Operand) → Plain (operand_pieces s f t o)
  operand_plain t (operand.Reg r) = alone _ refl
  operand_plain t (operand.Const c) = const_plain s c t spaced

  at_type : (gap : List ℕ) (t : Ty) (o : Operand) → Plain (type_pieces s.named t gap ++ operand_pieces s f t o)
  at_type gap t o = both (type_pieces s.named t gap) (operand_pieces s f t o) (type_plain s.named t gap) (operand_plain t o)

  -- a word, and an operand at a type
  behind_word : (p : Piece) (t : Ty) (o : Operand) → piece_is_word (codes "type") p ≡ false → Plain (p ∷ operand_pieces s f t o)
  behind_word p t o e = lead p (operand_pieces s f t o) e (operand_plain t o)

  pair_plain : (t : Ty) (gap : List ℕ) (p : Operand × ℕ) → Plain (pair_pieces s f t gap p)
  pair_plain t gap p = lead _ _ refl (both (operand_pieces s f t p.0) _ (operand_plain t p.0) (lead _ _ refl (lead _ _ refl (alone _ refl))))

  count_plain : (c : Option (ℕ × Operand)) → Plain (count_pieces s f c)
  count_plain None = none
  count_plain (Some n) = lead _ _ refl (behind_word _ (ty.Int n.0) n.1 refl)

  cases_plain : (w : ℕ) (cases : List (ℕ × ℕ)) → Plain (case_pieces s f w cases)
  cases_plain w [] = none
  cases_plain w (c ∷ cases) = lead _ _ refl (both (number w spaced c.0) _ (number_plain w spaced c.0) (lead _ _ refl (lead _ _ refl (lead _ _ refl (cases_plain w cases)))))

  op_plain : (gap : List ℕ) (o : Op) → Plain (op_pieces s f gap o)
  op_plain gap (op.Binary o w a b) = both (word gap (binary_word o)) _ (binary_plain gap o) (lead _ _ refl (both (operand_pieces s f (ty.Int w) a) _ (operand_plain (ty.Int w) a) (lead _ _ refl (operand_plain (ty.Int w) b))))
  op_plain gap (op.Compare p t a b) = lead _ _ refl (both (word spaced (pred_word p)) _ (pred_plain spaced p) (both _ _ (at_type spaced t a) (lead _ _ refl (operand_plain t b))))
  op_plain gap (op.Cast c t a u) = both (word gap (cast_word c)) _ (cast_plain gap c) (both _ _ (at_type spaced t a) (lead _ _ refl (type_plain s.named u spaced)))
  op_plain gap (op.Freeze t a) = lead _ _ refl (at_type spaced t a)
  op_plain gap (op.Select c t a b) =
      lead _ _ refl (both _ _ (behind_word _ (ty.Int 1) c refl) (lead _ _ refl (both _ _ (at_type spaced t a) (lead _ _ refl (at_type spaced t b)))))
  op_plain gap (op.Phi t pairs) = lead _ _ refl (both (type_pieces s.named t spaced) _ (type_plain s.named t spaced) (commas_plain (pair_pieces s f t) spaced pairs (pair_plain t)))
  op_plain gap (op.Alloca t count align) = lead _ _ refl (both (type_pieces s.named t spaced) _ (type_plain s.named t spaced) (both (count_pieces s f count) _ (count_plain count) (alignment_plain align)))
  op_plain gap (op.Load volatile t a) =
      lead _ _ refl (both (volatile_word volatile) _ (volatile_plain volatile) (both (type_pieces s.named t spaced) _ (type_plain s.named t spaced) (lead _ _ refl (behind_word _ ty.Ptr a refl))))
  op_plain gap (op.Store volatile t v a) =
      lead _ _ refl (both (volatile_word volatile) _ (volatile_plain volatile) (both _ _ (at_type spaced t v) (lead _ _ refl (behind_word _ ty.Ptr a refl))))
  op_plain gap (op.Gep t a indices) =
      lead _ _ refl (both (type_pieces s.named t spaced) _ (type_plain s.named t spaced) (lead _ _ refl (both _ _ (behind_word _ ty.Ptr a refl)
      (behind_plain _ indices (λ i. behind_word _ (ty.Int i.0) i.1 refl)))))
  op_plain gap (op.Call t g args) =
      lead _ _ refl (both (type_pieces s.named t spaced) _ (type_plain s.named t spaced) (both (operand_pieces s f ty.Ptr g) _ (operand_plain ty.Ptr g)
      (lead _ _ refl (both _ _ (commas_plain (argument_pieces s f) glued args (λ gap a. at_type gap a.0 a.1)) (alone _ refl)))))
  op_plain gap (op.Br l) = lead _ _ refl (lead _ _ refl (alone _ refl))
  op_plain gap (op.CondBr c l other) =
      lead _ _ refl (both _ _ (behind_word _ (ty.Int 1) c refl) (lead _ _ refl (lead _ _ refl (lead _ _ refl (lead _ _ refl (lead _ _ refl (alone _ refl)))))))
  op_plain gap (op.Switch w a l cases) =
      lead _ _ refl (both _ _ (behind_word _ (ty.Int w) a refl) (lead _ _ refl (lead _ _ refl (lead _ _ refl (lead _ _ refl (both (case_pieces s f w cases) _ (cases_plain w cases) (alone _ refl)))))))
  op_plain gap (op.Ret None) = lead _ _ refl (alone _ refl)
  op_plain gap (op.Ret (Some v)) = lead _ _ refl (at_type spaced v.0 v.1)
  op_plain gap op.Unreachable = alone _ refl

  result_plain : (r : Option ℕ) (o : Op) → Plain (with_result s f r o)
  result_plain None o = op_plain indented o
  result_plain (Some r) o = lead _ _ refl (lead _ _ refl (op_plain spaced o))

  instr_plain : (i : Instr) → Plain (instr_pieces s f i)
  instr_plain i = both (with_result s f i.result i.op) (inserted_pieces i.inserted) (result_plain i.result i.op) (inserted_plain i.inserted)

-- ---- globals and functions

module _ (s : Spelled) where
  kind_plain : (c : Bool) → Plain (word spaced (kind_word c))
  kind_plain false = alone _ refl
  kind_plain true = alone _ refl

  global_plain : (g : GlobalVar) → Plain (global_pieces s g)
  global_plain g =
      lead _ _ refl (lead _ _ refl (both (word spaced (kind_word g.constant)) _ (kind_plain g.constant) (both (type_pieces s.named g.ty spaced) _ (type_plain s.named g.ty spaced)
      (both (const_pieces s g.init g.ty spaced) _ (const_plain s g.init g.ty spaced) (alignment_plain g.align)))))

  bound_plain : (b : Bool) → Plain (bound_pieces b)
  bound_plain false = none
  bound_plain true = alone _ refl

  device_plain : (a : Option ℕ) → Plain (address_pieces a)
  device_plain None = none
  device_plain (Some n) = lead _ _ refl (lead _ _ refl (alone _ refl))

  attributes_plain : (f : Function) → Plain (attributes f)
  attributes_plain f = both (bound_pieces f.bound) (address_pieces f.device_address) (bound_plain f.bound) (device_plain f.device_address)

  param_plain : (registers : List (List ℕ)) (gap : List ℕ) (p : ℕ × Ty) → Plain (param_pieces s registers gap p)
  param_plain registers gap p = both (type_pieces s.named p.1 gap) _ (type_plain s.named p.1 gap) (alone _ refl)

  instrs_plain : (f : Locals) (instrs : List Instr) → Plain (instrs_pieces s f instrs)
  instrs_plain f [] = none
  instrs_plain f (i ∷ instrs) = both (instr_pieces s f i) (instrs_pieces s f instrs) (instr_plain s f i) (instrs_plain f instrs)

  blocks_plain : (f : Locals) (blocks : List Block) → Plain (blocks_pieces s f blocks)
  blocks_plain f [] = none
  blocks_plain f (b ∷ blocks) = lead _ _ refl (both (instrs_pieces s f b.instrs) (blocks_pieces s f blocks) (instrs_plain f b.instrs) (blocks_plain f blocks))

  declared_plain : (f : Function) → Plain (declared_pieces s f)
  declared_plain f = both (head_pieces s (codes "declare") f) _ (lead _ _ refl (both (type_pieces s.named f.result spaced) _ (type_plain s.named f.result spaced) (alone _ refl)))
      (lead _ _ refl (both _ _ (commas_plain (type_alone s) glued f.params (λ gap p. type_plain s.named p.1 gap)) (lead _ _ refl (attributes_plain f))))

  defined_plain : (f : Function) → Plain (defined_pieces s f)
  defined_plain f = both (head_pieces s (codes "define") f) _ (lead _ _ refl (both (type_pieces s.named f.result spaced) _ (type_plain s.named f.result spaced) (alone _ refl)))
      (lead _ _ refl (both _ _ (commas_plain (param_pieces s f.registers) glued f.params (param_plain f.registers)) (lead _ _ refl (both (attributes f) _ (attributes_plain f)
      (lead _ _ refl (both (blocks_pieces s (locals_of f) f.blocks) _ (blocks_plain (locals_of f) f.blocks) (alone _ refl)))))))

  function_plain : (f : Function) → Plain (function_pieces s f)
  function_plain f = by_blocks f.blocks
    where
      by_blocks : (blocks : List Block) → Plain (function_by s f blocks)
      by_blocks [] = declared_plain f
      by_blocks (b ∷ blocks) = defined_plain f

  node_plain : (b : Bool) → Plain (node_pieces b)
  node_plain false = none
  node_plain true = lead _ _ refl (lead _ _ refl (lead _ _ refl (lead _ _ refl (alone _ refl))))

  pub forms_plain : (m : Module) → Plain (forms_in s m)
  forms_plain m =
      both (each (global_pieces s) m.globals) _ (each_plain (global_pieces s) m.globals global_plain)
      (both (each (function_pieces s) m.functions) _ (each_plain (function_pieces s) m.functions function_plain) (node_plain (list_any has_inserted m.functions)))

-- ---- no definition begins

pub untyped_begins : (text : List ℕ) (tokens : List Token) (pieces : List Piece) → Untyped pieces → Stand text tokens pieces → begins_definition text tokens ≡ false
untyped_begins text [] pieces x s = refl
untyped_begins text (a ∷ []) pieces x s = refl
untyped_begins text (a ∷ b ∷ []) pieces x s = refl
untyped_begins text (a ∷ b ∷ c ∷ tokens) [] x s = absurd s
untyped_begins text (a ∷ b ∷ c ∷ tokens) (p ∷ []) x s = absurd s.1
untyped_begins text (a ∷ b ∷ c ∷ tokens) (p ∷ q ∷ []) x s = absurd s.1.1
untyped_begins text (a ∷ b ∷ c ∷ tokens) (p ∷ q ∷ r ∷ pieces) x s =
    ap (λ w. is_kind kind.Local a && (is_sign text (codes "=") b && w)) (word_tested text (codes "type") r c s.1.1.0 ∙ x.1.1.0) ∙ ends (is_kind kind.Local a) (is_sign text (codes "=") b)
  where
    ends : (x y : Bool) → (x && (y && false)) ≡ false
    ends true true = refl
    ends true false = refl
    ends false y = refl
