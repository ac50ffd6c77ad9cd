-- What the kinds of faults that a module does not have say of each function, block and instruction.
use Rattle.std.proofs.Common.{◌≡◌, ℕ, ◌<◌, Bool, true, false, not, ◌&&◌, ◌||◌, if◌then◌else◌, Option, Some, None, ◌++◌, length, take, slice_get, flat_map, nat_lt, sym, ap, ◌∙◌, subst, arith, ltb-true}
use Rattle.std.proofs.lemmas.Bool.{and_parts, not-true, not-false}
use Rattle.std.proofs.lemmas.Option.{none-some, same_Some}
use Rattle.std.specs.List.{list_all}
use Rattle.no_ir.specs.declared.types.Ty.{Ty}
use Rattle.no_ir.specs.declared.instruction.Instr.{Instr}
use Rattle.no_ir.specs.declared.function.Block.{Block}
use Rattle.no_ir.specs.declared.function.Function.{Function}
use Rattle.no_module.specs.Formed.{IsFormed, block_formed, counts_of, function_formed, instr_formed, op_formed, param_formed, register_formed, result_formed, within}
use Rattle.no_module.specs.Functions.{is_declared}
use Rattle.no_module.specs.Scalars.{is_scalar, is_result, scalar_of}
use Rattle.no_verify_types.specs.Places.{external_fault_of, first_found, function_fault, placed, type_fault_of, typed, wrong_among, wrong_in}
use Rattle.no_verify_types.specs.Registers.{register_types, result_of, type_at}
use Rattle.no_verify_types.specs.Typing.{head_typed, op_typed}
use Rattle.no_verify_structure.specs.Finding.{first_at, first_break, first_place}
use Rattle.no_verify_structure.specs.Names.{block_registers, is_in, instr_registers, parameters_of, blocks_labels}
use Rattle.no_verify_structure.specs.Twice.{block_twice, function_twice, globals_differ, is_new, names_before, parameter_registers, params_differ, registers_before, result_twice, twice_of}
use Rattle.no_ir.specs.Naming.{is_known}
use Rattle.no_semantics.specs.States.{function_at}
use Rattle.no_semantics.specs.Values.{Program}
use Rattle.no_safe.proofs.Lists.{all_at, at_none, break_none, placed_none, unless_none, whole_none}
use Rattle.no_safe.proofs.TypedLists.{found_nowhere, none_since, position_nowhere}
use Rattle.no_safe.proofs.TypedRegisters.{type_of_param, type_of_result}

-- a program whose module is formed and has no fault of types, externals and definitions
pub record IsJudged (p : Program) : Type 0 where
  pub formed : IsFormed p.«module»
  pub typed : type_fault_of p.«module» p.role ≡ None
  pub external : external_fault_of p.«module» p.role ≡ None
  pub twice : twice_of p.«module» ≡ None

module _ (p : Program) (judged : IsJudged p) (k : ℕ) (g : Function) (is : function_at p k ≡ Some g) where
  -- ---- types

  no_fault : function_fault (typed p.«module» p.role) g ≡ None
  no_fault = found_nowhere (function_fault (typed p.«module» p.role)) 0 p.«module».functions k g
      (placed_none _ (whole_none (list_all (typed p.«module» p.role).keeps_global p.«module».globals) (placed (first_found (function_fault (typed p.«module» p.role)) 0 p.«module».functions)) judged.typed).1) is

  head : (head_typed g ≡ true) × (wrong_among ((typed p.«module» p.role).keeps_instr g) g.blocks ≡ None)
  head = unless_none (head_typed g) (wrong_among ((typed p.«module» p.role).keeps_instr g) g.blocks) no_fault

  pub op_is_typed : (b : ℕ) (block : Block) (j : ℕ) (i : Instr) → slice_get g.blocks b ≡ Some block → slice_get block.instrs j ≡ Some i → op_typed p.«module» p.role g.result (register_types g) i.op ≡ true
  op_is_typed b block j i at in' =
      let keeps = (typed p.«module» p.role).keeps_instr g in
      not-false (keeps i) (position_nowhere (λ i. not (keeps i)) 0 block.instrs j i (found_nowhere (wrong_in keeps) 0 g.blocks b block head.1 at) in')

  pub params_typed : is_declared g ≡ false → list_all (λ (q : ℕ × Ty). is_scalar q.1) g.params ≡ true
  params_typed defined = (and_parts (is_result g.result) (list_all (λ (q : ℕ × Ty). is_scalar q.1) g.params) (subst (λ (b : Bool). (b || (is_result g.result && list_all (λ (q : ℕ × Ty). is_scalar q.1) g.params)) ≡ true) defined head.0)).1

  -- ---- forms

  formed : (result_formed (length (counts_of p.«module»).types) g.result ≡ true) × (list_all (param_formed (within (counts_of p.«module») g)) g.params ≡ true) × (list_all (block_formed (within (counts_of p.«module») g)) g.blocks ≡ true)
  formed =
      let c = counts_of p.«module» in
      let whole = all_at (function_formed c) p.«module».functions judged.formed.functions k g is in
      let first = and_parts (result_formed (length c.types) g.result) (list_all (param_formed (within c g)) g.params && list_all (block_formed (within c g)) g.blocks) whole in
      let rest = and_parts (list_all (param_formed (within c g)) g.params) (list_all (block_formed (within c g)) g.blocks) first.1 in
      (first.0, rest.0, rest.1)

  result_within : (into : Option ℕ) (r : ℕ) → register_formed (within (counts_of p.«module») g) into ≡ true → into ≡ Some r → r < length g.registers
  result_within None r e into = absurd (none-some r into)
  result_within (Some q) r e into = subst (λ (x : ℕ). x < length g.registers) (same_Some q r into) (ltb-true q (length g.registers) e)

  pub register_within : (b : ℕ) (block : Block) (j : ℕ) (i : Instr) (r : ℕ) → slice_get g.blocks b ≡ Some block → slice_get block.instrs j ≡ Some i → i.result ≡ Some r → r < length g.registers
  register_within b block j i r at in' into =
      let f = within (counts_of p.«module») g in
      let whole = all_at (block_formed f) g.blocks formed.2 b block at in
      let instrs = (and_parts (nat_lt block.label f.labels) (list_all (instr_formed f) block.instrs) whole).1 in
      let here = all_at (instr_formed f) block.instrs instrs j i in' in
      result_within i.result r (and_parts (register_formed f i.result) (op_formed f i.op) here).0 into

  pub param_within : (n : ℕ) (q : ℕ × Ty) → slice_get g.params n ≡ Some q → q.0 < length g.registers
  param_within n q at =
      let f = within (counts_of p.«module») g in
      let here = all_at (param_formed f) g.params formed.1 n q at in
      ltb-true q.0 (length g.registers) (and_parts (nat_lt q.0 f.registers) _ here).0

  -- ---- definitions

  not_twice : function_twice p.«module» k g ≡ None
  not_twice =
      at_none (function_twice p.«module») 0 p.«module».functions
      (placed_none _ (whole_none (globals_differ p.«module».globals) (first_place (function_twice p.«module») p.«module».functions) judged.twice).1) k k g is (omega arith)

  differ : (params_differ g.params ≡ true) × (first_at (block_twice g) 0 g.blocks ≡ None)
  differ =
      let new = not (is_known (names_before p.«module» k) g.name) in
      let parts = unless_none (new && params_differ g.params) (first_at (block_twice g) 0 g.blocks) not_twice in
      ((and_parts new (params_differ g.params) parts.0).1, parts.1)

  pub param_new : (n : ℕ) (q : ℕ × Ty) → slice_get g.params n ≡ Some q → is_in (parameter_registers (take n g.params)) q.0 ≡ false
  param_new n q at =
      let keeps = λ (n : ℕ) (q : ℕ × Ty). not (is_in (parameter_registers (take n g.params)) q.0) in
      let none = none_since (first_break keeps 0 g.params) differ.0 in
      not-true (is_in (parameter_registers (take n g.params)) q.0) (break_none keeps 0 g.params none n n q at (omega arith))

  pub result_new : (b : ℕ) (block : Block) (j : ℕ) (i : Instr) (r : ℕ) → slice_get g.blocks b ≡ Some block → slice_get block.instrs j ≡ Some i → i.result ≡ Some r
      → is_in ((parameters_of g ++ flat_map block_registers (take b g.blocks)) ++ flat_map instr_registers (take j block.instrs)) r ≡ false
  result_new b block j i r at in' into =
      let before = registers_before g b in
      let keeps = λ (n : ℕ) (x : Instr). is_new (before ++ flat_map instr_registers (take n block.instrs)) x.result in
      let here = at_none (block_twice g) 0 g.blocks differ.1 b b block at (omega arith) in
      let none = label_new (is_in (blocks_labels (take b g.blocks)) block.label) (result_twice before block.instrs) here in
      let new = break_none keeps 0 block.instrs none j j i in' (omega arith) in
      not-true (is_in (before ++ flat_map instr_registers (take j block.instrs)) r) (ap (is_new (before ++ flat_map instr_registers (take j block.instrs))) (sym into) ∙ new)
    where
      label_new : (b : Bool) (o : Option ℕ) → (if b then Some 0 else o) ≡ None → o ≡ None
      label_new true o e = absurd (none-some 0 (sym e))
      label_new false o e = e

  -- ---- the registers that are defined

  pub result_defined : (b : ℕ) (block : Block) (j : ℕ) (i : Instr) (r : ℕ) → slice_get g.blocks b ≡ Some block → slice_get block.instrs j ≡ Some i → i.result ≡ Some r
      → (r < length g.registers) × (type_at (register_types g) r ≡ result_of i.op)
  result_defined b block j i r at in' into =
      let lt = register_within b block j i r at in' into in
      (lt, type_of_result g b block j i r at in' into lt (result_new b block j i r at in' into))

  pub param_defined : (n : ℕ) (q : ℕ × Ty) → slice_get g.params n ≡ Some q → (q.0 < length g.registers) × (type_at (register_types g) q.0 ≡ scalar_of q.1)
  param_defined n q at = let lt = param_within n q at in (lt, type_of_param g n q at lt (param_new n q at))
