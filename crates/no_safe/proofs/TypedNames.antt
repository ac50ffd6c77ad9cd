-- Each declared function that a module names anywhere is an external.
use Rattle.std.proofs.Common.{◌≡◌, ℕ, zero, suc, ◌+◌, Bool, true, false, not, ◌&&◌, nat_eq, is_some, if◌then◌else◌, Option, Some, None, List, [], ◌∷◌, slice_get, flat_map, refl, sym, ap, ◌∙◌, subst, arith}
use Rattle.std.proofs.lemmas.Bool.{false≢true}
use Rattle.std.proofs.lemmas.Option.{none-some, same_Some}
use Rattle.std.specs.List.{list_any}
use Rattle.no_ir.specs.declared.instruction.Op.{Op}
use Rattle.no_ir.specs.declared.instruction.Op.TheVariants as op
use Rattle.no_ir.specs.declared.instruction.Instr.{Instr}
use Rattle.no_ir.specs.declared.function.Block.{Block}
use Rattle.no_ir.specs.declared.function.Function.{Function}
use Rattle.no_ir.specs.declared.function.Module.{Module}
use Rattle.no_ir.specs.declared.function.Role.{Role}
use Rattle.no_ir.specs.declared.function.Role.TheVariants.{Source}
use Rattle.no_module.specs.declared.external.External.{External}
use Rattle.no_module.specs.Externals.{external_of, external_typed, is_external}
use Rattle.no_module.specs.Functions.{is_declared}
use Rattle.no_module.specs.Instructions.{argument_operands}
use Rattle.no_verify_types.specs.Named.{block_names, first_unknown, function_names, global_names, is_named, is_unknown, module_names, op_names, operand_names}
use Rattle.no_verify_types.specs.Places.{at_function, external_fault_of}
use Rattle.no_verify_types.specs.Typing.{direct}
use Rattle.no_semantics.specs.Taken.{block_taken, callee_taken, function_taken, is_callable, module_taken, op_taken}
use Rattle.no_safe.proofs.TypedLists.{among_flat, among_left, among_parts, among_right, among_wider, is_there, keeps_second}

-- ---- what no fault says of each function

at_nowhere : (o : Option ℕ) → at_function o ≡ None → o ≡ None
at_nowhere None e = refl
at_nowhere (Some k) e = absurd (none-some _ (sym e))

known_here : (role : Role) (used : ℕ → Bool) (n : ℕ) (fs : List Function) (k : ℕ) (f : Function) → first_unknown role used n fs ≡ None → slice_get fs k ≡ Some f → is_unknown role (used (n + k)) f ≡ false
known_here role used n [] k f none is = absurd (none-some f is)
known_here role used n (x ∷ xs) zero f none is =
    subst (λ (j : ℕ). is_unknown role (used j) f ≡ false) (let e : n ≡ n + zero = omega arith in e)
    (subst (λ (y : Function). is_unknown role (used n) y ≡ false) (same_Some x f is) (keeps_second (is_unknown role (used n) x) n (first_unknown role used (n + 1) xs) none).0)
known_here role used n (x ∷ xs) (suc k) f none is =
    subst (λ (j : ℕ). is_unknown role (used j) f ≡ false) (let e : (n + 1) + k ≡ n + suc k = omega arith in e)
    (known_here role used (n + 1) xs k f (keeps_second (is_unknown role (used n) x) n (first_unknown role used (n + 1) xs) none).1 is)

third : (a b c : Bool) → (a && (b && not c)) ≡ false → a ≡ true → b ≡ true → c ≡ true
third true true true e x y = refl
third true true false e x y = absurd (false≢true (sym e))
third true false c e x y = absurd (false≢true y)
third false b c e x y = absurd (false≢true x)

-- a function that is named is one of the module's rows where it is declared
pub named_known : (m : Module) (role : Role) (k : ℕ) (f : Function) → external_fault_of m role ≡ None → slice_get m.functions k ≡ Some f → is_named (module_names m) k ≡ true
    → is_declared f ≡ true → (e : External) × (external_of role f ≡ Some e)
named_known m role k f none is named declared =
    let nowhere = at_nowhere (first_unknown role (is_named (module_names m)) 0 m.functions) none in
    let here = subst (λ (j : ℕ). is_unknown role (is_named (module_names m) j) f ≡ false) (let e : 0 + k ≡ k = omega arith in e) (known_here role (is_named (module_names m)) 0 m.functions k f nowhere is) in
    let row = is_there (external_typed role f.name f.result f.params) (third (is_named (module_names m) k) (is_declared f) (is_external role f.name f.result f.params) here named declared) in
    (row.0, ap (λ (b : Bool). if b then external_typed role f.name f.result f.params else None) declared ∙ row.1)

-- ---- what an instruction names, the module names

pub instr_named : (m : Module) (k : ℕ) (g : Function) (b : ℕ) (block : Block) (j : ℕ) (i : Instr) (n : ℕ) → slice_get m.functions k ≡ Some g → slice_get g.blocks b ≡ Some block → slice_get block.instrs j ≡ Some i
    → list_any (nat_eq n) (op_names i.op) ≡ true → is_named (module_names m) n ≡ true
instr_named m k g b block j i n at in' is e =
    among_right n (flat_map global_names m.globals) (flat_map function_names m.functions)
    (among_flat function_names n m.functions k g at (among_flat block_names n g.blocks b block in' (among_flat (λ (x : Instr). op_names x.op) n block.instrs j i is e)))

-- ---- what is taken is named

callee_wider : (b : Bool) (k : ℕ) (xs : List ℕ) → list_any (nat_eq k) (if b then [] else xs) ≡ true → list_any (nat_eq k) xs ≡ true
callee_wider true k xs e = absurd (false≢true e)
callee_wider false k xs e = e

op_wider : (k : ℕ) (o : Op) → list_any (nat_eq k) (op_taken o) ≡ true → list_any (nat_eq k) (op_names o) ≡ true
op_wider k (op.Call t callee args) e =
    let rest = flat_map operand_names (argument_operands args) in
    among_parts k (callee_taken callee) rest e (λ here. among_left k (operand_names callee) rest (callee_wider (is_some (direct callee)) k (operand_names callee) here)) (λ later. among_right k (operand_names callee) rest later)
op_wider k _ e = e

block_wider : (k : ℕ) (b : Block) → list_any (nat_eq k) (block_taken b) ≡ true → list_any (nat_eq k) (block_names b) ≡ true
block_wider k b e = among_wider (λ (i : Instr). op_taken i.op) (λ (i : Instr). op_names i.op) k (λ i. op_wider k i.op) b.instrs e

function_wider : (k : ℕ) (f : Function) → list_any (nat_eq k) (function_taken f) ≡ true → list_any (nat_eq k) (function_names f) ≡ true
function_wider k f e = among_wider block_taken block_names k (block_wider k) f.blocks e

taken_named : (m : Module) (k : ℕ) → list_any (nat_eq k) (module_taken m) ≡ true → is_named (module_names m) k ≡ true
taken_named m k e =
    let globals = flat_map global_names m.globals in
    let names = flat_map function_names m.functions in
    among_parts k globals (flat_map function_taken m.functions) e (λ here. among_left k globals names here) (λ later. among_right k globals names (among_wider function_taken function_names k (function_wider k) m.functions later))

-- what may be called through a pointer is named
pub callable_named : (m : Module) (role : Role) (k : ℕ) (f : Function) → role ≡ Source → is_callable m role k f ≡ true → is_named (module_names m) k ≡ true
callable_named m role k f source e = taken_named m k (subst (λ (r : Role). is_callable m r k f ≡ true) source e)
