-- Each instruction that has its types fits, where the blocks that it names are targets.
use Rattle.std.proofs.Common.{◌≡◌, ℕ, suc, Bool, true, false, ◌&&◌, ◌==◌, nat_eq, if◌then◌else◌, Option, Some, None, option_map, List, [], ◌∷◌, map, length, slice_get, flat_map, Contains, refl, sym, ap, ◌∙◌, subst}
use Rattle.std.proofs.lemmas.Bool.{and_parts, and_from, false≢true}
use Rattle.std.proofs.lemmas.Option.{none-some, same_Some, slice_get-map, slice_get_within, get_or_from_slice_get}
use Rattle.std.specs.List.{list_all, list_any}
use Rattle.no_ir.specs.declared.types.Ty.{Ty}
use Rattle.no_ir.specs.declared.instruction.BinOp.{BinOp}
use Rattle.no_ir.specs.declared.instruction.CastOp.{CastOp}
use Rattle.no_ir.specs.declared.instruction.Pred.{Pred}
use Rattle.no_ir.specs.declared.instruction.Operand.{Operand}
use Rattle.no_ir.specs.declared.instruction.Op.{Op}
use Rattle.no_ir.specs.declared.instruction.Op.TheVariants as op
use Rattle.no_ir.specs.declared.function.Function.{Function}
use Rattle.no_module.specs.Instructions.{argument_operands, exits_of, is_terminator}
use Rattle.no_module.specs.declared.scalar.Scalar.{Scalar}
use Rattle.no_module.specs.declared.scalar.Scalar.TheVariants as scalar
use Rattle.no_module.specs.Externals.{declared_external}
use Rattle.no_module.specs.Scalars.{agree, integer, is_result, is_scalar, same_result, scalar_of}
use Rattle.no_verify_types.specs.Addresses.{indices_lead}
use Rattle.no_verify_types.specs.Named.{is_named, module_names, op_names, operand_names}
use Rattle.no_verify_types.specs.Registers.{register_types, result_of}
use Rattle.no_verify_types.specs.Typing.{args_match, argument_fits, both_fit, callee_fits, calls, case_numbers, cases_fit, converts, count_fits, direct, integer_fits, is_passed, numbers_stated, op_typed, operand_fits, returns, stated_field}
use Rattle.no_semantics.specs.Calls.{are_passed, has_type}
use Rattle.no_semantics.specs.Control.{taken}
use Rattle.no_semantics.specs.States.{function_at}
use Rattle.no_semantics.specs.Values.{Program, width_of}
use Rattle.no_progress.specs.Proper.{CalleeFits, CountFits, Idle, IsDirect, IsKnown, IsTarget, OpFits, PhiFits, Reads, ReadsOf, ReturnFits, bits}
use Rattle.no_safe.specs.Widths.{width_of_register}
use Rattle.no_safe.proofs.Lists.{each_of}
use Rattle.no_safe.proofs.TypedConstants.{callee_named}
use Rattle.no_safe.proofs.TypedLists.{among_left, each_from_all, is_there}
use Rattle.no_safe.proofs.TypedWidths.{Defines, agreed, converted, gives_answer, gives_nothing, gives_scalar, gives_some, gives_type, integer_width, operand_typed, reads_integer, reads_of, reads_pointer, scalar_width, value_not_void}

-- ---- calls

passed : (args : List (Ty × Operand)) (params : List (ℕ × Ty)) → args_match args params ≡ true → are_passed args params ≡ true
unfolding is_passed
passed [] [] e = refl
passed [] (q ∷ params) e = absurd (false≢true e)
passed (a ∷ args) [] e = absurd (false≢true e)
passed (a ∷ args) (q ∷ params) e =
    let parts = and_parts (is_passed a q) (args_match args params) e in
    and_from (agree (scalar_of a.0) (scalar_of q.1)) (are_passed args params) parts.0 (passed args params parts.1)

pub typed_call : (t : Ty) (args : List (Ty × Operand)) (f : Function) (stated : Bool) → (same_result t f.result && (args_match args f.params && stated)) ≡ true → has_type t args f ≡ true
typed_call t args f stated e =
    let first = and_parts (same_result t f.result) (args_match args f.params && stated) e in
    let rest = and_parts (args_match args f.params) stated first.1 in
    and_from (same_result t f.result) (are_passed args f.params) first.0 (passed args f.params rest.0)

-- ---- lists that instructions name

contains_at : {A : Type 0} (xs : List A) (k : ℕ) (x : A) → slice_get xs k ≡ Some x → Contains xs x
contains_at xs k x e = (k, slice_get_within xs k x e, get_or_from_slice_get xs k x x e)

case_label : (l : ℕ) (cases : List (ℕ × ℕ)) (k : ℕ) (c : ℕ × ℕ) → slice_get cases k ≡ Some c → Contains (l ∷ map (λ (case : ℕ × ℕ). case.1) cases) c.1
case_label l cases k c e =
    contains_at (l ∷ map (λ (case : ℕ × ℕ). case.1) cases) (suc k) c.1 (slice_get-map (λ (case : ℕ × ℕ). case.1) cases k ∙ ap (option_map (λ (case : ℕ × ℕ). case.1)) e)

module _ (p : Program) (g : Function) (b : ℕ) (into : Option ℕ) (known : (k : ℕ) (f : Function) → function_at p k ≡ Some f → is_named (module_names p.«module») k ≡ true → IsKnown p f) where
  -- every function that the instruction names, the module names
  abbrev AreNamed : Op → Type 0
  AreNamed o = (k : ℕ) → list_any (nat_eq k) (op_names o) ≡ true → is_named (module_names p.«module») k ≡ true

  abbrev AreTargets : Op → Type 0
  AreTargets o = (l : ℕ) → Contains (exits_of o) l → IsTarget p g (width_of_register p.layout g) b l

  abbrev Typed : Op → Type 0
  Typed o = op_typed p.«module» p.role g.result (register_types g) o ≡ true

  abbrev Fits : Op → Type 0
  Fits o = OpFits p g (width_of_register p.layout g) b into o

  fits_both : (so : Option Scalar) (x y : Operand) → both_fit p.«module» p.role (register_types g) so x y ≡ true
      → (operand_fits p.«module» p.role (register_types g) so x ≡ true) × (operand_fits p.«module» p.role (register_types g) so y ≡ true)
  fits_both so x y e = and_parts (operand_fits p.«module» p.role (register_types g) so x) (operand_fits p.«module» p.role (register_types g) so y) e

  binary : (o : BinOp) (w : ℕ) (x y : Operand) → Typed (op.Binary o w x y) → Defines g into (integer w) → Fits (op.Binary o w x y)
  unfolding op_typed
  binary o w x y e d =
      let both = fits_both (integer w) x y e in
      let s = operand_typed p g (integer w) x both.0 in
      (reads_integer p g w x both.0, reads_integer p g w y both.1, gives_some p.layout g into (integer w) s.0 w s.1 (integer_width p.layout w s.0 s.1) d)

  compare : (o : Pred) (t : Ty) (x y : Operand) → Typed (op.Compare o t x y) → Defines g into (Some (scalar.Int 1)) → Fits (op.Compare o t x y)
  unfolding op_typed
  compare o t x y e d =
      let both = fits_both (scalar_of t) x y e in
      (reads_of p g t x both.0, reads_of p g t y both.1, gives_scalar p.layout g into (scalar.Int 1) d)

  conversion : (o : CastOp) (t : Ty) (x : Operand) (u : Ty) → Typed (op.Cast o t x u) → Defines g into (scalar_of u) → Fits (op.Cast o t x u)
  unfolding op_typed
  conversion o t x u e d =
      let both = and_parts (converts o (scalar_of t) (scalar_of u)) (operand_fits p.«module» p.role (register_types g) (scalar_of t) x) e in
      let goes = converted p.layout o t u both.0 in
      (reads_of p g t x both.1, goes.0, gives_type p.layout g into u goes.1 goes.2 d)

  freeze : (t : Ty) (x : Operand) → Typed (op.Freeze t x) → Defines g into (scalar_of t) → Fits (op.Freeze t x)
  unfolding op_typed
  freeze t x e d =
      let s = operand_typed p g (scalar_of t) x e in
      (reads_of p g t x e, gives_type p.layout g into t s.0 s.1 d)

  select : (c : Operand) (t : Ty) (x y : Operand) → Typed (op.Select c t x y) → Defines g into (scalar_of t) → Fits (op.Select c t x y)
  unfolding op_typed
  select c t x y e d =
      let whole = and_parts (operand_fits p.«module» p.role (register_types g) (integer 1) c) (both_fit p.«module» p.role (register_types g) (scalar_of t) x y) e in
      let both = fits_both (scalar_of t) x y whole.1 in
      let s = operand_typed p g (scalar_of t) x both.0 in
      (reads_integer p g 1 c whole.0, reads_of p g t x both.0, reads_of p g t y both.1, gives_type p.layout g into t s.0 s.1 d)

  count_reads : (count : Option (ℕ × Operand)) → count_fits p.«module» p.role (register_types g) count ≡ true → CountFits p (width_of_register p.layout g) count
  count_reads None e = tt
  count_reads (Some count) e = reads_integer p g count.0 count.1 e

  alloca : (t : Ty) (count : Option (ℕ × Operand)) (align : Option ℕ) → Typed (op.Alloca t count align) → Defines g into (Some scalar.Ptr) → Fits (op.Alloca t count align)
  unfolding op_typed
  alloca t count align e d = (count_reads count e, gives_scalar p.layout g into scalar.Ptr d)

  load : (volatile : Bool) (t : Ty) (x : Operand) → Typed (op.Load volatile t x) → Defines g into (scalar_of t) → Fits (op.Load volatile t x)
  unfolding op_typed
  load volatile t x e d =
      let both = and_parts (is_scalar t) (operand_fits p.«module» p.role (register_types g) (Some scalar.Ptr) x) e in
      let s = is_there (scalar_of t) both.0 in
      (reads_pointer p g x both.1, gives_type p.layout g into t s.0 s.1 d)

  store : (volatile : Bool) (t : Ty) (v x : Operand) → Typed (op.Store volatile t v x) → Defines g into None → Fits (op.Store volatile t v x)
  unfolding op_typed
  store volatile t v x e d =
      let both = and_parts (operand_fits p.«module» p.role (register_types g) (scalar_of t) v) (operand_fits p.«module» p.role (register_types g) (Some scalar.Ptr) x) e in
      (reads_of p g t v both.0, reads_pointer p g x both.1, gives_nothing p.layout g into d)

  gep : (t : Ty) (x : Operand) (indices : List (ℕ × Operand)) → Typed (op.Gep t x indices) → Defines g into (Some scalar.Ptr) → Fits (op.Gep t x indices)
  unfolding op_typed
  gep t x indices e d =
      let fits = integer_fits p.«module» p.role (register_types g) in
      let first = and_parts (operand_fits p.«module» p.role (register_types g) (Some scalar.Ptr) x) (list_all fits indices && indices_lead p.«module».types t (map stated_field indices)) e in
      let rest = and_parts (list_all fits indices) (indices_lead p.«module».types t (map stated_field indices)) first.1 in (
        reads_pointer p g x first.0,
        each_from_all fits (λ (i : ℕ × Operand). Reads p (width_of_register p.layout g) i.0 i.1) (λ i f. reads_integer p g i.0 i.1 f) indices rest.0,
        gives_scalar p.layout g into scalar.Ptr d,
      )

  -- ---- calls

  direct_fits : (t : Ty) (args : List (Ty × Operand)) (k : ℕ) (o : Option Function) → function_at p k ≡ o → is_named (module_names p.«module») k ≡ true → calls p.role t args o ≡ true → IsDirect p t args k
  direct_fits t args k None is named e = absurd (false≢true e)
  direct_fits t args k (Some f) is named e = record {
    function = f;
    is = is;
    typed = typed_call t args f (numbers_stated (declared_external p.role f) args) e;
    known = known k f is named;
  }

  callee_is : (t : Ty) (callee : Operand) (args : List (Ty × Operand)) (o : Option ℕ) → direct callee ≡ o → AreNamed (op.Call t callee args) → callee_fits p.«module» p.role (register_types g) t callee args o ≡ true
      → CalleeFits p (width_of_register p.layout g) t callee args o
  callee_is t callee args None is named e = reads_pointer p g callee e
  callee_is t callee args (Some k) is named e =
      direct_fits t args k (function_at p k) refl (named k (among_left k (operand_names callee) (flat_map operand_names (argument_operands args)) (callee_named callee k is))) e

  call : (t : Ty) (callee : Operand) (args : List (Ty × Operand)) → Typed (op.Call t callee args) → AreNamed (op.Call t callee args) → Defines g into (scalar_of t) → Fits (op.Call t callee args)
  unfolding op_typed
  call t callee args e named d =
      let fits = argument_fits p.«module» p.role (register_types g) in
      let called = callee_fits p.«module» p.role (register_types g) t callee args (direct callee) in
      let first = and_parts (is_result t) (list_all fits args && called) e in
      let rest = and_parts (list_all fits args) called first.1 in (
        callee_is t callee args (direct callee) refl named rest.1,
        each_from_all fits (λ (a : Ty × Operand). ReadsOf p (width_of_register p.layout g) a.0 a.1) (λ a f. reads_of p g a.0 a.1 f) args rest.0,
        gives_answer p g into t first.0 d,
      )

  -- ---- terminators

  branch : (l : ℕ) → AreTargets (op.Br l) → Fits (op.Br l)
  unfolding exits_of
  branch l targets = targets l (contains_at (l ∷ []) 0 l refl)

  conditional : (c : Operand) (l k : ℕ) → Typed (op.CondBr c l k) → AreTargets (op.CondBr c l k) → Fits (op.CondBr c l k)
  unfolding op_typed exits_of
  conditional c l k e targets = (reads_integer p g 1 c e, targets l (contains_at (l ∷ k ∷ []) 0 l refl), targets k (contains_at (l ∷ k ∷ []) 1 k refl))

  switched : (w : ℕ) (x : Operand) (l : ℕ) (cases : List (ℕ × ℕ)) → Typed (op.Switch w x l cases) → AreTargets (op.Switch w x l cases) → Fits (op.Switch w x l cases)
  unfolding op_typed exits_of
  switched w x l cases e targets = (
    reads_integer p g w x (and_parts (operand_fits p.«module» p.role (register_types g) (integer w) x) (cases_fit w (case_numbers cases)) e).0,
    targets l (contains_at (l ∷ map (λ (case : ℕ × ℕ). case.1) cases) 0 l refl),
    each_of (λ (c : ℕ × ℕ). IsTarget p g (width_of_register p.layout g) b c.1) cases (λ k c is. targets c.1 (case_label l cases k c is)),
  )

  gives_bits : (t : Ty) (s : Scalar) → scalar_of t ≡ Some s → bits p t ≡ Some (width_of p.layout t)
  gives_bits t s is = ap (λ (b : Bool). if b then None else Some (width_of p.layout t)) (value_not_void t s is)

  return_fits : (value : Option (Ty × Operand)) → returns p.«module» p.role (register_types g) g.result value ≡ true → ReturnFits p (width_of_register p.layout g) g.result value
  return_fits None e = ap (λ (b : Bool). if b then None else Some (width_of p.layout g.result)) e
  return_fits (Some x) e =
      let both = and_parts (agree (scalar_of x.0) (scalar_of g.result)) (argument_fits p.«module» p.role (register_types g) x) e in
      let same = agreed (scalar_of x.0) (scalar_of g.result) both.0 in
      (gives_bits g.result same.0 same.2 ∙ ap Some (sym (scalar_width p.layout g.result same.0 same.2) ∙ scalar_width p.layout x.0 same.0 same.1), reads_of p g x.0 x.1 both.1)

  returned : (value : Option (Ty × Operand)) → Typed (op.Ret value) → Fits (op.Ret value)
  unfolding op_typed
  returned value e = return_fits value e

  -- ---- all

  pub each_fits : (o : Op) → Typed o → Defines g into (result_of o) → AreNamed o → AreTargets o → Fits o
  each_fits (op.Binary o w x y) e d named targets = binary o w x y e d
  each_fits (op.Compare o t x y) e d named targets = compare o t x y e d
  each_fits (op.Cast o t x u) e d named targets = conversion o t x u e d
  each_fits (op.Freeze t x) e d named targets = freeze t x e d
  each_fits (op.Select c t x y) e d named targets = select c t x y e d
  each_fits (op.Phi t pairs) e d named targets = tt
  each_fits (op.Alloca t count align) e d named targets = alloca t count align e d
  each_fits (op.Load volatile t x) e d named targets = load volatile t x e d
  each_fits (op.Store volatile t v x) e d named targets = store volatile t v x e d
  each_fits (op.Gep t x indices) e d named targets = gep t x indices e d
  each_fits (op.Call t callee args) e d named targets = call t callee args e named d
  each_fits (op.Br l) e d named targets = branch l targets
  each_fits (op.CondBr c l k) e d named targets = conditional c l k e targets
  each_fits (op.Switch w x l cases) e d named targets = switched w x l cases e targets
  each_fits (op.Ret value) e d named targets = returned value e
  each_fits op.Unreachable e d named targets = tt

  -- ---- what a phi takes and gives

  taken_fits : (so : Option Scalar) (l : ℕ) (pairs : List (Operand × ℕ)) (o : Operand) → list_all (λ (pair : Operand × ℕ). operand_fits p.«module» p.role (register_types g) so pair.0) pairs ≡ true → taken l pairs ≡ Some o
      → operand_fits p.«module» p.role (register_types g) so o ≡ true
  taken_fits so l [] o e is = absurd (none-some o is)
  taken_fits so l (pair ∷ more) o e is =
      let fits = λ (pair : Operand × ℕ). operand_fits p.«module» p.role (register_types g) so pair.0 in
      let both = and_parts (fits pair) (list_all fits more) e in
      at (pair.1 == l) is both.0 (λ is. taken_fits so l more o both.1 is)
    where
      at : (b : Bool) → (if b then Some pair.0 else taken l more) ≡ Some o → operand_fits p.«module» p.role (register_types g) so pair.0 ≡ true → (taken l more ≡ Some o → operand_fits p.«module» p.role (register_types g) so o ≡ true)
          → operand_fits p.«module» p.role (register_types g) so o ≡ true
      at true is first later = subst (λ (x : Operand). operand_fits p.«module» p.role (register_types g) so x ≡ true) (same_Some pair.0 o is) first
      at false is first later = later is

  pub phi_takes : (t : Ty) (pairs : List (Operand × ℕ)) → Typed (op.Phi t pairs) → Defines g into (scalar_of t) → (l : ℕ) (o : Operand) → taken l pairs ≡ Some o → PhiFits p (length g.registers) (width_of_register p.layout g) l into t pairs
  unfolding op_typed
  phi_takes t pairs e d l o is =
      let both = and_parts (is_scalar t) (list_all (λ (pair : Operand × ℕ). operand_fits p.«module» p.role (register_types g) (scalar_of t) pair.0) pairs) e in
      let s = is_there (scalar_of t) both.0 in
      record { operand = o; is = is; reads = reads_of p g t o (taken_fits (scalar_of t) l pairs o both.1 is); gives = gives_type p.layout g into t s.0 s.1 d }

  -- ---- an instruction that ends its block gives nothing

  pub last_gives : (o : Op) → is_terminator o ≡ true → Defines g into (result_of o) → Idle (width_of_register p.layout g) into
  last_gives (op.Br l) e d = gives_nothing p.layout g into d
  last_gives (op.CondBr c l k) e d = gives_nothing p.layout g into d
  last_gives (op.Switch w x l cases) e d = gives_nothing p.layout g into d
  last_gives (op.Ret value) e d = gives_nothing p.layout g into d
  last_gives op.Unreachable e d = gives_nothing p.layout g into d
  last_gives _ e d = absurd (false≢true e)
