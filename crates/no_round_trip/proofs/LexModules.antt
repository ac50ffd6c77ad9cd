-- The pieces of a module fit, and its text has them as its tokens.
use Rattle.std.proofs.Common.{◌≡◌, ℕ, ◌≤◌, Bool, true, false, List, [], ◌∷◌, ◌++◌, codes, decimal, length, Option, Some, None, refl}
use Rattle.std.specs.List.{list_any}
use Rattle.no_ir.specs.declared.types.Ty.{Ty}
use Rattle.no_ir.specs.declared.instruction.Instr.{Instr}
use Rattle.no_ir.specs.declared.function.Block.{Block}
use Rattle.no_ir.specs.declared.function.Function.{Function}
use Rattle.no_ir.specs.declared.function.GlobalVar.{GlobalVar}
use Rattle.no_ir.specs.declared.function.Module.{Module}
use Rattle.no_lex.specs.declared.token.TokenKind.TheVariants as kind
use Rattle.no_lex.specs.Spelling.{kind_of}
use Rattle.no_print.specs.Pieces.{Piece, glued, spaced, lined, parted, piece, sign, with_commas}
use Rattle.no_print.specs.Names.{name_at, global_name, local_name, label_line, string}
use Rattle.no_print.specs.Constants.{Spelled, type_at}
use Rattle.no_print.specs.Instructions.{Locals, instr_pieces}
use Rattle.no_print.specs.Modules.{spelled_in, layout_pieces, named_pieces, kind_word, global_pieces, bound_pieces, address_pieces, attributes, head_pieces, type_alone, declared_pieces, param_pieces, instrs_pieces, blocks_pieces, locals_of, defined_pieces, function_by, function_pieces, has_inserted, node_pieces, each, pieces_in, module_pieces, module_text}
use Rattle.no_round_trip.specs.Fits.{Fits}
use Rattle.no_round_trip.specs.Lexed.{LexesAs}
use Rattle.no_round_trip.proofs.LexForms.{IsForm, IsApart, all_are, alone, apart_then, behind_space, fits_then, list_form, nothing_apart, on_line, piece_form, sign_apart, sign_then, then_form, word_then}
use Rattle.no_round_trip.proofs.LexTypes.{global_form, label_form, local_form, string_form, type_form}
use Rattle.no_round_trip.proofs.LexConstants.{const_form}
use Rattle.no_round_trip.proofs.LexInstructions.{alignment_apart, instr_apart, word_and}
use Rattle.no_round_trip.proofs.LexPieces.{parts_as}

pub each_apart : {A : Type 0} (f : A → List Piece) (all : List A) → ((a : A) → IsApart (f a)) → IsApart (each f all)
each_apart f [] h = nothing_apart
each_apart f (a ∷ all) h = apart_then (f a) (each f all) (h a) (each_apart f all h)

-- ---- the layout, named types and globals

equals_then : (ys : List Piece) → Fits ys → IsApart (sign spaced (codes "=") ++ ys)
equals_then ys f = sign_apart 61 spaced ys refl refl refl f

layout_fits : (layout : List ℕ) → Fits (layout_pieces layout)
layout_fits layout = alone _ (word_then (codes "target") _ refl (word_and (codes "datalayout") _ refl (equals_then (string spaced layout) (behind_space _ (string_form layout)).fits)))

module _ (s : Spelled) where
  type_apart : (t : Ty) → IsApart (type_at s spaced t)
  type_apart t = behind_space (λ gap. type_at s gap t) (type_form s.named t)

  named_apart : (t : List ℕ × Ty) → IsApart (named_pieces s t)
  named_apart t = on_line _ (then_form (λ gap. local_name gap t.0) _ (local_form t.0) (equals_then _ (word_and (codes "type") (type_at s spaced t.1) refl (type_apart t.1)).fits))

  global_word : (constant : Bool) → kind_of (kind_word constant) ≡ Some kind.Word
  global_word false = refl
  global_word true = refl

  global_apart : (g : GlobalVar) → IsApart (global_pieces s g)
  global_apart g = on_line _ (then_form (λ gap. global_name gap g.name) _ (global_form g.name) (equals_then _ (word_and (kind_word g.constant) _ (global_word g.constant)
      (apart_then _ _ (type_apart g.ty) (apart_then _ _ (behind_space _ (const_form s g.init g.ty)) (alignment_apart g.align)))).fits))

  -- ---- functions

  bound_apart : (bound : Bool) → IsApart (bound_pieces bound)
  bound_apart false = nothing_apart
  bound_apart true = behind_space _ (string_form (codes "machine-bound"))

  address_apart : (address : Option ℕ) → IsApart (address_pieces address)
  address_apart None = nothing_apart
  address_apart (Some n) =
      behind_space _ (then_form (λ gap. string gap (codes "no.addr")) _ (string_form (codes "no.addr")) (sign_apart 61 glued (string glued (decimal n)) refl refl refl (alone _ (string_form (decimal n)))))

  attributes_apart : (f : Function) → IsApart (attributes f)
  attributes_apart f = apart_then (bound_pieces f.bound) (address_pieces f.device_address) (bound_apart f.bound) (address_apart f.device_address)

  head_apart : (first : List ℕ) (f : Function) → kind_of first ≡ Some kind.Word → IsApart (head_pieces s first f)
  head_apart first f e =
      let form = word_then first _ e (apart_then _ (global_name spaced f.name) (type_apart f.result) (behind_space _ (global_form f.name))) in
      record { fits = form.fits parted refl; begins = form.begins 10 (10 ∷ []) }

  -- parameters in parentheses
  params_apart : (form : List ℕ → ℕ × Ty → List Piece) (params : List (ℕ × Ty)) (ys : List Piece) → ((p : ℕ × Ty) → IsForm (λ gap. form gap p)) → IsApart ys
      → IsApart (sign glued (codes "(") ++ (with_commas form glued params ++ (sign glued (codes ")") ++ ys)))
  params_apart form params ys h a = sign_apart 40 glued _ refl refl refl (fits_then (with_commas form glued params) _ (alone (λ gap. with_commas form gap params) (list_form form params (all_are _ h params)))
      (sign_apart 41 glued ys refl refl refl a.fits))

  declared_apart : (f : Function) → IsApart (declared_pieces s f)
  declared_apart f = apart_then (head_pieces s (codes "declare") f) _ (head_apart (codes "declare") f refl) (params_apart (type_alone s) f.params (attributes f) (λ p. type_form s.named p.1) (attributes_apart f))

  param_form : (registers : List (List ℕ)) (p : ℕ × Ty) → IsForm (λ gap. param_pieces s registers gap p)
  param_form registers p = then_form (λ gap. type_at s gap p.1) (local_name spaced (name_at registers p.0)) (type_form s.named p.1) (behind_space _ (local_form (name_at registers p.0)))

  instrs_apart : (f : Locals) (instrs : List Instr) → IsApart (instrs_pieces s f instrs)
  instrs_apart f [] = nothing_apart
  instrs_apart f (i ∷ instrs) = apart_then (instr_pieces s f i) (instrs_pieces s f instrs) (instr_apart s f i) (instrs_apart f instrs)

  blocks_apart : (f : Locals) (blocks : List Block) → IsApart (blocks_pieces s f blocks)
  blocks_apart f [] = nothing_apart
  blocks_apart f (b ∷ blocks) =
      apart_then (label_line lined (name_at f.labels b.label)) _ (on_line _ (label_form (name_at f.labels b.label))) (apart_then (instrs_pieces s f b.instrs) (blocks_pieces s f blocks) (instrs_apart f b.instrs) (blocks_apart f blocks))

  defined_apart : (f : Function) → IsApart (defined_pieces s f)
  defined_apart f = apart_then (head_pieces s (codes "define") f) _ (head_apart (codes "define") f refl) (params_apart (param_pieces s f.registers) f.params _ (param_form f.registers)
      (apart_then (attributes f) _ (attributes_apart f) (sign_apart 123 spaced _ refl refl refl
      (fits_then (blocks_pieces s (locals_of f) f.blocks) (sign lined (codes "}")) (blocks_apart (locals_of f) f.blocks).fits (sign_apart 125 lined [] refl refl refl tt)))))

  by_apart : (f : Function) (blocks : List Block) → IsApart (function_by s f blocks)
  by_apart f [] = declared_apart f
  by_apart f (b ∷ blocks) = defined_apart f

  function_apart : (f : Function) → IsApart (function_pieces s f)
  function_apart f = by_apart f f.blocks

  -- ---- the node that marks inserted instructions

  node_apart : (inserted : Bool) → IsApart (node_pieces inserted)
  node_apart false = nothing_apart
  node_apart true = on_line _ (then_form (λ gap. piece kind.Meta gap (codes "!0")) _ (piece_form kind.Meta (codes "!0") refl refl) (equals_then _
      (behind_space _ (then_form (λ gap. piece kind.Meta gap (codes "!")) _ (piece_form kind.Meta (codes "!") refl refl) (sign_apart 123 glued (sign glued (codes "}")) refl refl refl ((sign_then 125 [] refl tt).fits glued refl)))).fits))

  -- ---- whole modules

  all_fit : (m : Module) → Fits (pieces_in s m)
  all_fit m = fits_then (layout_pieces m.layout) _ (layout_fits m.layout) (apart_then _ _ (each_apart (named_pieces s) m.types named_apart) (apart_then _ _ (each_apart (global_pieces s) m.globals global_apart)
      (apart_then _ _ (each_apart (function_pieces s) m.functions function_apart) (node_apart (list_any has_inserted m.functions)))))

pub module_fits : (m : Module) → Fits (module_pieces m)
module_fits m = all_fit (spelled_in m) m

pub module_lexes : (limit : ℕ) (m : Module) → length (module_text m) ≤ limit → LexesAs limit (module_text m) (module_pieces m)
unfolding module_text
module_lexes limit m within = let p = parts_as (module_pieces m) (module_fits m) in record { tokens = p.tokens; lexes = (within, p.parts); stand = p.stand }
