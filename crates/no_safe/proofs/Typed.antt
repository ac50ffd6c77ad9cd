-- What a judged program has of the types of its functions: instructions fit, and so do phis, parameters and functions that are called.
use Rattle.std.proofs.Common.{◌≡◌, ℕ, ◌<◌, true, false, Some, List, length, slice_get, Contains, ap, ◌∙◌, subst}
use Rattle.no_ir.specs.declared.types.Ty.{Ty}
use Rattle.no_ir.specs.declared.instruction.Operand.{Operand}
use Rattle.no_ir.specs.declared.instruction.Op.{Op}
use Rattle.no_ir.specs.declared.instruction.Op.TheVariants as op
use Rattle.no_ir.specs.declared.instruction.Instr.{Instr}
use Rattle.no_ir.specs.declared.function.Function.{Function}
use Rattle.no_ir.specs.declared.function.Role.TheVariants.{Source}
use Rattle.no_module.specs.Instructions.{exits_of, is_terminator}
use Rattle.no_module.specs.Functions.{is_declared}
use Rattle.no_module.specs.Scalars.{is_scalar, scalar_of}
use Rattle.no_verify_types.specs.Named.{is_named, module_names}
use Rattle.no_verify_types.specs.Registers.{register_types, result_of}
use Rattle.no_verify_types.specs.Typing.{op_typed}
use Rattle.no_verify_paths.specs.Paths.{code_of}
use Rattle.no_semantics.specs.Control.{taken}
use Rattle.no_semantics.specs.States.{function_at}
use Rattle.no_semantics.specs.Taken.{is_callable}
use Rattle.no_semantics.specs.Values.{Program, width_of}
use Rattle.no_progress.specs.Proper.{Each, Idle, IsKnown, IsTarget, OpFits, PhiFits}
use Rattle.no_safe.specs.Widths.{width_of_register, width_of_type}
use Rattle.no_safe.proofs.Blocks.{in_block}
use Rattle.no_safe.proofs.Lists.{all_at, each_of}
use Rattle.no_safe.proofs.TypedJudged.{IsJudged, op_is_typed, param_defined, params_typed, result_defined}
use Rattle.no_safe.proofs.TypedLists.{is_there}
use Rattle.no_safe.proofs.TypedNames.{callable_named, instr_named, named_known}
use Rattle.no_safe.proofs.TypedOps.{each_fits, last_gives, phi_takes}
use Rattle.no_safe.proofs.TypedWidths.{scalar_width}

module _ (p : Program) (judged : IsJudged p) where
  known : (k : ℕ) (g : Function) → function_at p k ≡ Some g → is_named (module_names p.«module») k ≡ true → IsKnown p g
  known k g is named declared = named_known p.«module» p.role k g judged.external is named declared

  -- each function that may be called through a pointer in a source is defined or an external
  pub source_callable : p.role ≡ Source → (k : ℕ) (g : Function) → function_at p k ≡ Some g → is_callable p.«module» p.role k g ≡ true → IsKnown p g
  source_callable source k g is callable = known k g is (callable_named p.«module» p.role k g source callable)

  module _ (k : ℕ) (g : Function) (is : function_at p k ≡ Some g) where
    -- an instruction fits where each label that it names leads to a target
    pub op_fits : (b j : ℕ) (i : Instr) → slice_get (code_of g b) j ≡ Some i → ((l : ℕ) → Contains (exits_of i.op) l → IsTarget p g (width_of_register p.layout g) b l)
        → OpFits p g (width_of_register p.layout g) b i.result i.op
    op_fits b j i at targets =
        let in' = in_block g b j i at in
        each_fits p g b i.result known i.op (op_is_typed p judged k g is b in'.block j i in'.is in'.at) (λ r into. result_defined p judged k g is b in'.block j i r in'.is in'.at into)
        (λ n e. instr_named p.«module» k g b in'.block j i n is in'.is in'.at e) targets

    -- a phi takes an operand of its type
    pub phi_fits : (b j : ℕ) (i : Instr) → slice_get (code_of g b) j ≡ Some i → (t : Ty) (pairs : List (Operand × ℕ)) → i.op ≡ op.Phi t pairs → (l : ℕ) (o : Operand) → taken l pairs ≡ Some o
        → PhiFits p (length g.registers) (width_of_register p.layout g) l i.result t pairs
    phi_fits b j i at t pairs e l o takes =
        let in' = in_block g b j i at in
        phi_takes p g b i.result known t pairs (subst (λ (x : Op). op_typed p.«module» p.role g.result (register_types g) x ≡ true) e (op_is_typed p judged k g is b in'.block j i in'.is in'.at))
        (λ r into. let d = result_defined p judged k g is b in'.block j i r in'.is in'.at into in (d.0, d.1 ∙ ap result_of e)) l o takes

    -- nothing reads the result of an instruction that ends its block
    pub last_idle : (b j : ℕ) (i : Instr) → slice_get (code_of g b) j ≡ Some i → is_terminator i.op ≡ true → Idle (width_of_register p.layout g) i.result
    last_idle b j i at last =
        let in' = in_block g b j i at in
        last_gives p g b i.result known i.op last (λ r into. result_defined p judged k g is b in'.block j i r in'.is in'.at into)

    -- each parameter has a register of its width
    pub params_fit : is_declared g ≡ false → Each (λ (q : ℕ × Ty). (q.0 < length g.registers) × (width_of_register p.layout g q.0 ≡ Some (width_of p.layout q.1))) g.params
    params_fit defined = each_of (λ (q : ℕ × Ty). (q.0 < length g.registers) × (width_of_register p.layout g q.0 ≡ Some (width_of p.layout q.1))) g.params (λ n q at.
        let d = param_defined p judged k g is n q at in
        let s = is_there (scalar_of q.1) (all_at (λ (q : ℕ × Ty). is_scalar q.1) g.params (params_typed p judged k g is defined) n q at) in
        (d.0, ap (width_of_type p.layout) (d.1 ∙ s.1) ∙ ap Some (scalar_width p.layout q.1 s.0 s.1)))
