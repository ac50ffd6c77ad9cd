-- What the verifier finds in a module it accepts: a machine does each instruction, and each global has a place and bytes of its type.
use Rattle.std.proofs.Common.{◌≡◌, ℕ, Bool, true, false, ◌&&◌, ◌||◌, ◌==◌, nat_le, List, length, if◌then◌else◌, Option, Some, None, refl, sym, subst}
use Rattle.std.specs.List.{list_all}
use Rattle.std.proofs.lemmas.Bool.{and_parts, and_from}
use Rattle.no_ir.specs.declared.instruction.Instr.{Instr}
use Rattle.no_ir.specs.declared.function.Block.{Block}
use Rattle.no_ir.specs.declared.function.Function.{Function}
use Rattle.no_ir.specs.declared.function.GlobalVar.{GlobalVar}
use Rattle.no_ir.specs.declared.function.Module.{Module}
use Rattle.no_ir.specs.declared.function.Role.{Role}
use Rattle.no_layout.specs.Sizes.{sizes_of}
use Rattle.no_layout.specs.Text.{is_formed}
use Rattle.no_layout.specs.declared.extent.Extent.{Extent}
use Rattle.no_layout.specs.declared.layout.Layout.{Layout}
use Rattle.no_room.specs.Accepted.{Accepted}
use Rattle.no_room.specs.Fits.{have_room, type_fits}
use Rattle.no_module.specs.Formed.{alignment_formed, block_formed, constant_formed, counts_of, function_formed, global_formed, instr_formed, label_formed, op_formed, param_formed, register_formed, result_formed, type_formed, within}
use Rattle.no_verify_types.specs.Constants.{global_typed}
use Rattle.no_verify_types.specs.Places.{first_found, function_fault, placed, typed}
use Rattle.no_verify_types.specs.Registers.{register_types}
use Rattle.no_verify_types.specs.Typing.{head_typed, op_typed}
use Rattle.no_verify_types.specs.declared.place.FaultPlace.{FaultPlace}
use Rattle.no_verify_structure.specs.Finding.{first_place}
use Rattle.no_verify_structure.specs.Large.{base_fits, function_large, global_fits, head_fits, instr_fits, large_with, named_fit}
use Rattle.no_verify_structure.specs.Names.{is_in, labels_defined, registers_of}
use Rattle.no_module.specs.Instructions.{types_of}
use Rattle.no_verify_structure.specs.Parts.{constant_keeps, operands_keep}
use Rattle.no_verify_structure.specs.Unknown.{function_unknown, global_known, instr_known, place_known}
use Rattle.no_verify.specs.Verdict.{IsAccepted}
use Rattle.no_verify.specs.declared.fault.VerifyKind.TheVariants as kind
use Rattle.no_sound.specs.Sound as sound
use Rattle.no_sound.specs.Image as image
use Rattle.no_verify.proofs.Images.{begins}
use Rattle.no_verify.proofs.Layouts.{layout_formed}
use Rattle.no_verify.proofs.Lists.{all_both, all_more, all_of, blocks_keep, blocks_right, each_both, each_more, each_of, functions_keep, functions_right, head_keeps, whole_keeps}
use Rattle.no_verify.proofs.Ops.{align_ok, op_ok}
use Rattle.no_verify.proofs.Tables.{table_is}

-- where a list of globals keeps a rule, the first fault is in a function
first_kept : (b : Bool) (more : Option FaultPlace) (other : FaultPlace) → (if b then more else Some other) ≡ None → (b ≡ true) × (more ≡ None)
first_kept true more other e = (refl, e)
first_kept false more other e = absurd cc

head_kept : (b : Bool) (more : Option (ℕ × ℕ)) (other : ℕ × ℕ) → (if b then more else Some other) ≡ None → more ≡ None
head_kept true more other e = e
head_kept false more other e = absurd cc

module _ (m : Module) (l : Layout) (sizes : List Extent) (role : Role) (formed : is_formed l ≡ true) where
  width : (l.pointer == 32 || l.pointer == 64) ≡ true
  width = (and_parts (l.pointer == 32 || l.pointer == 64) _ formed).0

  -- ---- functions

  module _ (f : Function) where
    instr_ok : (i : Instr) → ((instr_formed (within (counts_of m) f) i && op_typed m role f.result (register_types f) i.op)
        && (instr_known m (registers_of f) (labels_defined f) i && instr_fits l sizes i)) ≡ true → sound.op_fits m l sizes i.op ≡ true
    instr_ok i e =
        let all = and_parts (instr_formed (within (counts_of m) f) i && op_typed m role f.result (register_types f) i.op) _ e in
        let front = and_parts (instr_formed (within (counts_of m) f) i) (op_typed m role f.result (register_types f) i.op) all.0 in
        let back = and_parts (instr_known m (registers_of f) (labels_defined f) i) (instr_fits l sizes i) all.1 in
        let form = and_parts (register_formed (within (counts_of m) f) i.result) (op_formed (within (counts_of m) f) i.op) front.0 in
        let known = and_parts (operands_keep (is_in (registers_of f)) (place_known m) i.op) _ back.0 in
        let fit = and_parts (list_all (type_fits l sizes) (types_of i.op)) (operands_keep (λ r. true) (base_fits l sizes) i.op) back.1 in
        op_ok m l sizes width role (within (counts_of m) f) f.result (register_types f) (is_in (registers_of f)) i.op form.1 front.1 (known.0, fit.1) fit.0

    block_ok : (b : Block) → block_formed (within (counts_of m) f) b ≡ true → list_all (λ (i : Instr). op_typed m role f.result (register_types f) i.op) b.instrs ≡ true
        → list_all (instr_known m (registers_of f) (labels_defined f)) b.instrs ≡ true → list_all (instr_fits l sizes) b.instrs ≡ true → sound.block_fits m l sizes b ≡ true
    block_ok b form right known fit =
        let form' = (and_parts (label_formed (within (counts_of m) f) b.label) (list_all (instr_formed (within (counts_of m) f)) b.instrs) form).1 in
        all_more _ (λ (i : Instr). sound.op_fits m l sizes i.op) b.instrs instr_ok
        (all_both _ _ b.instrs (all_both (instr_formed (within (counts_of m) f)) (λ (i : Instr). op_typed m role f.result (register_types f) i.op) b.instrs form' right)
        (all_both (instr_known m (registers_of f) (labels_defined f)) (instr_fits l sizes) b.instrs known fit))

    function_ok : function_formed (counts_of m) f ≡ true → function_fault (typed m role) f ≡ None → function_unknown m f ≡ None → function_large l sizes f ≡ None
        → sound.function_fits m l sizes f ≡ true
    function_ok form right known fit =
        let heads = and_parts (result_formed (length m.types) f.result) _ form in
        let form' = (and_parts (list_all (param_formed (within (counts_of m) f)) f.params) (list_all (block_formed (within (counts_of m) f)) f.blocks) heads.1).1 in
        let right' = blocks_right (λ (i : Instr). op_typed m role f.result (register_types f) i.op) f.blocks (head_kept (head_typed f) _ (0, 0) right) in
        let known' = blocks_keep (instr_known m (registers_of f) (labels_defined f)) f.blocks known in
        let fit' = blocks_keep (instr_fits l sizes) f.blocks (head_keeps (head_fits l sizes f) _ fit).1 in
        all_of (sound.block_fits m l sizes) f.blocks
        (each_more _ _ f.blocks (λ b h. block_ok b h.0.0 h.0.1 h.1.0 h.1.1)
        (each_both _ _ f.blocks (each_both _ _ f.blocks (each_of (block_formed (within (counts_of m) f)) f.blocks form') right') (each_both _ _ f.blocks known' fit')))

  -- ---- globals

  global_ok : (g : GlobalVar) → ((global_formed (counts_of m) g && global_typed m role g) && (global_known m g && global_fits l sizes g)) ≡ true
      → (image.global_fits l sizes g && image.init_fits m l sizes g.init g.ty) ≡ true
  global_ok g e =
      let all = and_parts (global_formed (counts_of m) g && global_typed m role g) _ e in
      let front = and_parts (global_formed (counts_of m) g) (global_typed m role g) all.0 in
      let back = and_parts (global_known m g) (global_fits l sizes g) all.1 in
      let form = and_parts (constant_formed (counts_of m) g.init g.ty) (alignment_formed g.align) (and_parts (type_formed (length m.types) g.ty) _ front.0).1 in
      let fit = and_parts (type_fits l sizes g.ty) (constant_keeps (base_fits l sizes) g.init) back.1 in
      and_from _ _ (and_from _ _ fit.0 (align_ok g.align form.1)) (begins m l sizes width role g.init g.ty back.0 fit.1 front.1)

-- ---- a module that was accepted

module _ (m : Module) (role : Role) (a : Accepted) (is : IsAccepted m role a) where
  abbrev sizes : List Extent
  sizes = sizes_of a.layout m.types

  formed : is_formed a.layout ≡ true
  formed = layout_formed m.layout a.layout is.layout

  types_fit : (named_fit a.layout m.types ≡ true) × (large_with a.layout sizes m ≡ None)
  types_fit = whole_keeps (named_fit a.layout m.types) (large_with a.layout sizes m) (sym (is.nowhere 0 kind.BadType refl))

  all_fit : (list_all (global_fits a.layout sizes) m.globals ≡ true) × (first_place (λ k. function_large a.layout sizes) m.functions ≡ None)
  all_fit = whole_keeps _ _ types_fit.1

  all_known : (list_all (global_known m) m.globals ≡ true) × (first_place (λ k. function_unknown m) m.functions ≡ None)
  all_known = whole_keeps _ _ (sym (is.nowhere 2 kind.UnknownName refl))

  all_typed : (list_all (global_typed m role) m.globals ≡ true) × (placed (first_found (function_fault (typed m role)) 0 m.functions) ≡ None)
  all_typed = first_kept _ _ _ (sym (is.nowhere 4 kind.TypeMismatch refl))

  functions_ok : list_all (sound.function_fits m a.layout sizes) m.functions ≡ true
  functions_ok =
      all_of (sound.function_fits m a.layout sizes) m.functions
      (each_more _ _ m.functions (λ f h. function_ok m a.layout sizes role formed f h.0.0 h.0.1 h.1.0 h.1.1)
      (each_both _ _ m.functions
      (each_both _ _ m.functions (each_of (function_formed (counts_of m)) m.functions is.formed.functions) (functions_right (function_fault (typed m role)) m.functions all_typed.1))
      (each_both _ _ m.functions (functions_keep (function_unknown m) m.functions all_known.1) (functions_keep (function_large a.layout sizes) m.functions all_fit.1))))

  runs : sound.is_sound m a.layout sizes ≡ true
  unfolding sound.is_sound
  runs = and_from _ _ formed (and_from _ _ (table_is a.layout m.types is.formed.types types_fit.0) functions_ok)

  pub accepted_runs : sound.is_sound a.«module» a.layout a.sizes ≡ true
  accepted_runs =
      subst (λ (n : Module). sound.is_sound n a.layout a.sizes ≡ true) (sym is.module_is) (subst (λ (s : List Extent). sound.is_sound m a.layout s ≡ true) (sym is.sizes) runs)

  globals_ok : list_all (λ (g : GlobalVar). image.global_fits a.layout sizes g && image.init_fits m a.layout sizes g.init g.ty) m.globals ≡ true
  globals_ok =
      all_more _ _ m.globals (global_ok m a.layout sizes role formed)
      (all_both _ _ m.globals (all_both (global_formed (counts_of m)) (global_typed m role) m.globals is.formed.globals all_typed.0)
      (all_both (global_known m) (global_fits a.layout sizes) m.globals all_known.0 all_fit.0))

  begin : image.has_image m a.layout sizes ≡ true
  begin =
      let room = (whole_keeps _ _ (sym (is.nowhere 9 kind.ImageTooLarge refl))).0 in
      let ends = (and_parts (have_room a.layout sizes m.globals) (nat_le (length m.functions) 65536) room).0 in
      let places = all_more _ (image.global_fits a.layout sizes) m.globals (λ g e. (and_parts (image.global_fits a.layout sizes g) _ e).0) globals_ok in
      let inits = all_more _ (λ (g : GlobalVar). image.init_fits m a.layout sizes g.init g.ty) m.globals (λ g e. (and_parts (image.global_fits a.layout sizes g) _ e).1) globals_ok in
      and_from _ _ (and_from _ _ places ends) inits

  pub accepted_begins : image.has_image a.«module» a.layout a.sizes ≡ true
  accepted_begins =
      subst (λ (n : Module). image.has_image n a.layout a.sizes ≡ true) (sym is.module_is) (subst (λ (s : List Extent). image.has_image m a.layout s ≡ true) (sym is.sizes) begin)
