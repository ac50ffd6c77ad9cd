-- The type of a register is that of its one definition.
use Rattle.std.proofs.Common.{◌≡◌, ℕ, zero, suc, ◌+◌, ◌<◌, Bool, false, nat_eq, if◌then◌else◌, Option, Some, None, option_map, List, [], ◌∷◌, ◌++◌, map, length, take, slice_get, flat_map, refl, sym, ap, ◌∙◌, subst, arith, eq-eqb, ne_eqb}
use Rattle.std.proofs.lemmas.Bool.{or_parts, false≢true}
use Rattle.std.proofs.lemmas.Option.{none-some, same_Some, slice_get-map}
use Rattle.std.specs.List.{range_with_len}
use Rattle.no_ir.specs.declared.types.Ty.{Ty}
use Rattle.no_ir.specs.declared.instruction.Instr.{Instr}
use Rattle.no_ir.specs.declared.function.Block.{Block}
use Rattle.no_ir.specs.declared.function.Function.{Function}
use Rattle.no_module.specs.declared.scalar.Scalar.{Scalar}
use Rattle.no_module.specs.Scalars.{scalar_of}
use Rattle.no_verify_types.specs.Registers.{result_of, result_defined, instr_defined, block_defined, param_defined, all_defined, first_type, register_types, known_type, type_at}
use Rattle.no_verify_structure.specs.Names.{is_in, result_registers, instr_registers, block_registers, parameters_of}
use Rattle.no_verify_structure.specs.Twice.{parameter_registers}
use Rattle.no_safe.proofs.TypedLists.{not_among_parts}

-- ---- the first definition of a register

other : (q r : ℕ) (s : Option Scalar) (more : List (ℕ × Option Scalar)) → nat_eq r q ≡ false → first_type ((q, s) ∷ more) r ≡ first_type more r
other q r s more differ = ap (λ (b : Bool). if b then s else first_type more r) (ne_eqb q r (λ e. false≢true (sym differ ∙ eq-eqb r q (sym e))))

here : (q r : ℕ) (s : Option Scalar) (more : List (ℕ × Option Scalar)) → q ≡ r → first_type ((q, s) ∷ more) r ≡ s
here q r s more e = ap (λ (b : Bool). if b then s else first_type more r) (eq-eqb q r e)

of_result : (into : Option ℕ) (s : Option Scalar) (more rest : List (ℕ × Option Scalar)) (r : ℕ) → into ≡ Some r → first_type ((result_defined into s ++ more) ++ rest) r ≡ s
of_result None s more rest r is = absurd (none-some r is)
of_result (Some q) s more rest r is = here q r s (more ++ rest) (same_Some q r is)

past_result : (into : Option ℕ) (s : Option Scalar) (more rest : List (ℕ × Option Scalar)) (r : ℕ) → is_in (result_registers into) r ≡ false → first_type ((result_defined into s ++ more) ++ rest) r ≡ first_type (more ++ rest) r
past_result None s more rest r none = refl
past_result (Some q) s more rest r none = other q r s (more ++ rest) (or_parts (nat_eq r q) false none).0

past_instrs : (instrs : List Instr) (rest : List (ℕ × Option Scalar)) (r : ℕ) → is_in (flat_map instr_registers instrs) r ≡ false → first_type (flat_map instr_defined instrs ++ rest) r ≡ first_type rest r
past_instrs [] rest r none = refl
past_instrs (i ∷ more) rest r none =
    let parts = not_among_parts r (instr_registers i) (flat_map instr_registers more) none in
    past_result i.result (result_of i.op) (flat_map instr_defined more) rest r parts.0 ∙ past_instrs more rest r parts.1

in_instrs : (instrs : List Instr) (rest : List (ℕ × Option Scalar)) (j : ℕ) (i : Instr) (r : ℕ) → slice_get instrs j ≡ Some i → i.result ≡ Some r → is_in (flat_map instr_registers (take j instrs)) r ≡ false
    → first_type (flat_map instr_defined instrs ++ rest) r ≡ result_of i.op
in_instrs [] rest j i r is into none = absurd (none-some i is)
in_instrs (y ∷ ys) rest zero i r is into none =
    let same = same_Some y i is in
    of_result y.result (result_of y.op) (flat_map instr_defined ys) rest r (ap (λ (x : Instr). x.result) same ∙ into) ∙ ap (λ (x : Instr). result_of x.op) same
in_instrs (y ∷ ys) rest (suc j) i r is into none =
    let parts = not_among_parts r (instr_registers y) (flat_map instr_registers (take j ys)) none in
    past_result y.result (result_of y.op) (flat_map instr_defined ys) rest r parts.0 ∙ in_instrs ys rest j i r is into parts.1

in_blocks : (blocks : List Block) (b : ℕ) (block : Block) (j : ℕ) (i : Instr) (r : ℕ) → slice_get blocks b ≡ Some block → slice_get block.instrs j ≡ Some i → i.result ≡ Some r
    → is_in (flat_map block_registers (take b blocks)) r ≡ false → is_in (flat_map instr_registers (take j block.instrs)) r ≡ false → first_type (flat_map block_defined blocks) r ≡ result_of i.op
in_blocks [] b block j i r at is into before none = absurd (none-some block at)
in_blocks (y ∷ ys) zero block j i r at is into before none =
    let same = same_Some y block at in
    in_instrs y.instrs (flat_map block_defined ys) j i r
    (subst (λ (x : Block). slice_get x.instrs j ≡ Some i) (sym same) is) into
    (subst (λ (x : Block). is_in (flat_map instr_registers (take j x.instrs)) r ≡ false) (sym same) none)
in_blocks (y ∷ ys) (suc b) block j i r at is into before none =
    let parts = not_among_parts r (block_registers y) (flat_map block_registers (take b ys)) before in
    past_instrs y.instrs (flat_map block_defined ys) r parts.0 ∙ in_blocks ys b block j i r at is into parts.1 none

past_params : (params : List (ℕ × Ty)) (rest : List (ℕ × Option Scalar)) (r : ℕ) → is_in (parameter_registers params) r ≡ false → first_type (map param_defined params ++ rest) r ≡ first_type rest r
past_params [] rest r none = refl
past_params (q ∷ more) rest r none =
    let parts = or_parts (nat_eq r q.0) (is_in (parameter_registers more) r) none in
    other q.0 r (scalar_of q.1) (map param_defined more ++ rest) parts.0 ∙ past_params more rest r parts.1

in_params : (params : List (ℕ × Ty)) (rest : List (ℕ × Option Scalar)) (k : ℕ) (q : ℕ × Ty) → slice_get params k ≡ Some q → is_in (parameter_registers (take k params)) q.0 ≡ false → first_type (map param_defined params ++ rest) q.0 ≡ scalar_of q.1
in_params [] rest k q is none = absurd (none-some q is)
in_params (y ∷ ys) rest zero q is none =
    let same = same_Some y q is in
    here y.0 q.0 (scalar_of y.1) (map param_defined ys ++ rest) (ap (λ (x : ℕ × Ty). x.0) same) ∙ ap (λ (x : ℕ × Ty). scalar_of x.1) same
in_params (y ∷ ys) rest (suc k) q is none =
    let parts = or_parts (nat_eq q.0 y.0) (is_in (parameter_registers (take k ys)) q.0) none in
    other y.0 q.0 (scalar_of y.1) (map param_defined ys ++ rest) parts.0 ∙ in_params ys rest k q is parts.1

-- ---- the types of a function's registers

range_at : (a n k : ℕ) → k < n → slice_get (range_with_len a n) k ≡ Some (a + k)
range_at a zero k lt = absurd (omega (arith, lt))
range_at a (suc n) zero lt = ap Some (let e : a ≡ a + zero = omega arith in e)
range_at a (suc n) (suc k) lt = range_at (a + 1) n k (omega (arith, lt)) ∙ ap Some (let e : (a + 1) + k ≡ a + suc k = omega arith in e)

pub first_of_all : (g : Function) (r : ℕ) → r < length g.registers → type_at (register_types g) r ≡ first_type (all_defined g) r
first_of_all g r lt =
    ap known_type (
    slice_get-map (first_type (all_defined g)) (range_with_len 0 (length g.registers)) r
    ∙ ap (option_map (first_type (all_defined g))) (range_at 0 (length g.registers) r lt ∙ ap Some (let e : 0 + r ≡ r = omega arith in e)))

-- the register of an instruction's result that no parameter and no earlier instruction has
pub type_of_result : (g : Function) (b : ℕ) (block : Block) (j : ℕ) (i : Instr) (r : ℕ) → slice_get g.blocks b ≡ Some block → slice_get block.instrs j ≡ Some i → i.result ≡ Some r → r < length g.registers
    → is_in ((parameters_of g ++ flat_map block_registers (take b g.blocks)) ++ flat_map instr_registers (take j block.instrs)) r ≡ false → type_at (register_types g) r ≡ result_of i.op
type_of_result g b block j i r at is into lt none =
    let whole = not_among_parts r (parameters_of g ++ flat_map block_registers (take b g.blocks)) (flat_map instr_registers (take j block.instrs)) none in
    let parts = not_among_parts r (parameters_of g) (flat_map block_registers (take b g.blocks)) whole.0 in
    first_of_all g r lt ∙ past_params g.params (flat_map block_defined g.blocks) r parts.0 ∙ in_blocks g.blocks b block j i r at is into parts.1 whole.1

-- the register of a parameter that no earlier one has
pub type_of_param : (g : Function) (k : ℕ) (q : ℕ × Ty) → slice_get g.params k ≡ Some q → q.0 < length g.registers → is_in (parameter_registers (take k g.params)) q.0 ≡ false → type_at (register_types g) q.0 ≡ scalar_of q.1
type_of_param g k q is lt none = first_of_all g q.0 lt ∙ in_params g.params (flat_map block_defined g.blocks) k q is none
