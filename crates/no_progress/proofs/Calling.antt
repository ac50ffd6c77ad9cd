-- Calls leave a state one of its program.
use Rattle.std.proofs.Common.{◌≡◌, ℕ, ◌+◌, ◌*◌, ◌^◌, ◌<◌, ◌≤◌, ◌&&◌, Bool, true, false, Option, Some, None, if◌then◌else◌, List, [], ◌∷◌, length, refl, sym, ap, ◌∙◌, subst, arith, pow_mono}
use Rattle.std.proofs.lemmas.Option.{same_Some, none-some}
use Rattle.no_ir.specs.declared.types.Ty.{Ty}
use Rattle.no_ir.specs.declared.ending.Trap.TheVariants.{BadFunction}
use Rattle.no_ir.specs.declared.instruction.Operand.{Operand}
use Rattle.no_ir.specs.declared.instruction.Op.TheVariants as op
use Rattle.no_ir.specs.declared.function.Function.{Function}
use Rattle.no_module.specs.Instructions.{is_terminator}
use Rattle.no_module.specs.declared.external.External.{External}
use Rattle.no_module.specs.declared.external.External.TheVariants as external
use Rattle.no_module.specs.declared.scalar.Scalar.TheVariants as scalar
use Rattle.no_module.specs.Externals.{gives as gives', external_of}
use Rattle.no_module.specs.Functions.{is_declared}
use Rattle.no_module.specs.Scalars.{same_result, takes}
use Rattle.no_verify_types.specs.Typing.{direct}
use Rattle.no_semantics.specs.Registers.{Registers, given}
use Rattle.no_semantics.specs.Results.{Valued, Number, Traps, NoValue, reading, stack_place, lowered}
use Rattle.no_semantics.specs.Rows.{stuck}
use Rattle.no_semantics.specs.States.{Frame, State, function_at}
use Rattle.no_semantics.specs.Externals.{World, Effect, Outcome, do_external, is_getchar}
use Rattle.no_semantics.specs.Externals as outcome
use Rattle.no_semantics.specs.Control.{arrived}
use Rattle.no_semantics.specs.Taken.{is_callable}
use Rattle.no_semantics.specs.Calls.{are_passed, has_type, function_number, pointed, at_address, callee_by, callee_value, arguments_of, entered, world_of, effect_next, outcome_row, row_effect, has_address, addressed_from, mapped, row_map, row_room, row_external, invoked, calling}
use Rattle.no_semantics.specs.Values.{Program}
use Rattle.no_progress.specs.Proper.{Reads, Gives, bits, Answers, IsDirect, CalleeFits, IsSafe}
use Rattle.no_progress.specs.Valid.{IsStateOf, Fine}
use Rattle.no_progress.proofs.Reading.{Has, AreBelow}
use Rattle.no_progress.proofs.Values.{lowered_place}
use Rattle.no_progress.proofs.Frames.{fine}
use Rattle.no_progress.proofs.Stepping.{ValueFits, Answered, answer, stays, allocates}
use Rattle.no_progress.proofs.Entering.{and_parts, same_bits, same_widths, param_widths, argument_widths, enters}
use Rattle.no_progress.proofs.Externals.{given_bits, taken_widths, IsExternal, is_external}
use Rattle.no_progress.proofs.Effects.{OutcomeFits, EffectFits, is_plain, external_fits}

-- ---- callees

module _ (p : Program) (safe : IsSafe p) where
  -- a function of the call's type that is defined or an external, or a trap
  abbrev pub CalleeGood : Ty → List (Ty × Operand) → Valued → Type 0
  CalleeGood t args (Number k) = IsDirect p t args k
  CalleeGood t args (Traps trap) = Unit {0}
  CalleeGood t args NoValue = ⊥

  pointed_good : (t : Ty) (args : List (Ty × Operand)) (k : ℕ) (o : Option Function) → function_at p k ≡ o → CalleeGood t args (pointed p t args k o)
  pointed_good t args k None e = tt
  pointed_good t args k (Some g) e = by_type (is_callable p.«module» p.role k g && has_type t args g) refl
    where
      by_type : (b : Bool) → (is_callable p.«module» p.role k g && has_type t args g) ≡ b → CalleeGood t args (if b then Number k else Traps BadFunction)
      by_type true h =
          let parts = and_parts (is_callable p.«module» p.role k g) (has_type t args g) h in
          record { function = g; is = e; typed = parts.1; known = safe.callable k g e parts.0 }
      by_type false h = tt

  address_good : (t : Ty) (args : List (Ty × Operand)) (o : Option ℕ) → CalleeGood t args (given (Traps BadFunction) o (λ k. pointed p t args k (function_at p k)))
  address_good t args None = tt
  address_good t args (Some k) = pointed_good t args k (function_at p k) refl

  callee_good_by : (rs : Registers) (width : ℕ → Option ℕ) (t : Ty) (callee : Operand) (args : List (Ty × Operand)) (o : Option ℕ) → CalleeFits p width t callee args o → (Reads p width p.layout.pointer callee → Has p rs p.layout.pointer callee)
      → CalleeGood t args (callee_by p rs t callee args o)
  callee_good_by rs width t callee args (Some k) fits reads = fits
  callee_good_by rs width t callee args None fits reads =
      subst (λ (x : Option ℕ). CalleeGood t args (reading x (at_address p t args))) (sym (reads fits).1) (address_good t args (function_number (reads fits).0))

  pub callee_good : (rs : Registers) (width : ℕ → Option ℕ) (t : Ty) (callee : Operand) (args : List (Ty × Operand)) → CalleeFits p width t callee args (direct callee) → (Reads p width p.layout.pointer callee → Has p rs p.layout.pointer callee)
      → CalleeGood t args (callee_value p rs t callee args)
  unfolding callee_value
  callee_good rs width t callee args fits reads = callee_good_by rs width t callee args (direct callee) fits reads

  -- ---- the number to call for an address is a pointer

  addressed_below : (k : ℕ) (fs : List Function) (at j : ℕ) → addressed_from k fs at ≡ Some j → j < k + length fs
  addressed_below k [] at j e = absurd (none-some j e)
  addressed_below k (f ∷ more) at j e = by_address (has_address at f.device_address) e (addressed_below (k + 1) more at j)
    where
      by_address : (b : Bool) → (if b then Some k else addressed_from (k + 1) more at) ≡ Some j → (addressed_from (k + 1) more at ≡ Some j → j < (k + 1) + length more) → j < k + length (f ∷ more)
      by_address true h rest = let same : k ≡ j = same_Some k j h in omega (arith, same)
      by_address false h rest = let lt : j < (k + 1) + length more = rest h in omega (arith, lt)

  module _ (s : State) (is : IsStateOf p safe s) (t : Ty) (callee : Operand) (args : List (Ty × Operand)) (at : is.frame.instr.op ≡ op.Call t callee args)
      (answers : Answers (length is.frame.function.registers) (fine p safe s.frame is.frame).width is.frame.instr.result (bits p t)) where
    goes : is_terminator is.frame.instr.op ≡ false
    goes = ap is_terminator at

    -- the call is answered
    answering : (value : Option ℕ) → ValueFits (bits p t) value → Answered p safe s.frame is.frame.instr.result value
    answering value fits = answer p safe s.frame is.frame goes is.frame.instr.result refl (bits p t) value fits answers

    outcome_fine : (o : Outcome) (e : Effect) → OutcomeFits (bits p t) o e.world → Fine p safe (outcome_row is.frame.instr.result o e s).next
    outcome_fine (outcome.Gives v cost) e fits =
        let a : Answered p safe s.frame is.frame.instr.result (Some v) = answering (Some v) fits.0 in
        subst (λ (f : Option Frame). Fine p safe (effect_next e s f)) (sym a.is) (stays p safe s is a.frame a.same a.of s.sp is.sp e.world.byte e.world.heap fits.1.0 e.world.input fits.1.1)
    outcome_fine (outcome.Does cost) e fits =
        let a : Answered p safe s.frame is.frame.instr.result None = answering None fits.0 in
        subst (λ (f : Option Frame). Fine p safe (effect_next e s f)) (sym a.is) (stays p safe s is a.frame a.same a.of s.sp is.sp e.world.byte e.world.heap fits.1.0 e.world.input fits.1.1)
    outcome_fine (outcome.Exits c) e fits = tt
    outcome_fine (outcome.Traps trap) e fits = tt
    outcome_fine outcome.Over e fits = tt
    outcome_fine outcome.Stuck e fits = absurd fits

    -- what gives a pointer has a register of its width
    pointer_given : (u : Ty) → bits p t ≡ bits p u → bits p u ≡ Some p.layout.pointer → Gives (length is.frame.function.registers) (fine p safe s.frame is.frame).width is.frame.instr.result p.layout.pointer
    pointer_given u e f = subst (λ (g : Option ℕ). Answers (length is.frame.function.registers) (fine p safe s.frame is.frame).width is.frame.instr.result g) (e ∙ f) answers

    room_fine : (ns : List ℕ) → AreBelow ns (64 ∷ 64 ∷ 64 ∷ []) → Gives (length is.frame.function.registers) (fine p safe s.frame is.frame).width is.frame.instr.result p.layout.pointer → Fine p safe (row_room is.frame.instr.result ns s).next
    room_fine [] small gives = absurd small
    room_fine (n ∷ []) small gives = absurd small.1
    room_fine (n ∷ m ∷ []) small gives = absurd small.1.1
    room_fine (n ∷ m ∷ k ∷ []) small gives = allocates p safe s is (stack_place (lowered s.sp (n * m) k)) goes gives (lowered_place s.sp (n * m) k is.sp.1)
    room_fine (n ∷ m ∷ k ∷ j ∷ ns) small gives = absurd small.1.1.1

    map_fine : (ns : List ℕ) (w : ℕ) → AreBelow ns (w ∷ []) → bits p t ≡ Some p.layout.pointer → Fine p safe (row_map p is.frame.instr.result ns s).next
    map_fine [] w small gives = absurd small
    map_fine (n ∷ []) w small gives =
        let a : Answered p safe s.frame is.frame.instr.result (Some (mapped (addressed_from 0 p.«module».functions n))) = answering (Some (mapped (addressed_from 0 p.«module».functions n)))
        (subst (λ (g : Option ℕ). ValueFits g (Some (mapped (addressed_from 0 p.«module».functions n)))) (sym gives) (mapped_small (addressed_from 0 p.«module».functions n) (λ j e. addressed_below 0 p.«module».functions n j e))) in
        subst (λ (f : Option Frame). Fine p safe (arrived s f).next) (sym a.is) (stays p safe s is a.frame a.same a.of s.sp is.sp s.byte s.heap is.heap s.input is.input)
      where
        mapped_small : (o : Option ℕ) → ((j : ℕ) → o ≡ Some j → j < 0 + length p.«module».functions) → mapped o < 2 ^ p.layout.pointer
        mapped_small None h = let big : 2 ^ 32 ≤ 2 ^ p.layout.pointer = pow_mono safe.pointer in omega (arith, big)
        mapped_small (Some j) h =
            let big : 2 ^ 32 ≤ 2 ^ p.layout.pointer = pow_mono safe.pointer in
            let lt : j < 0 + length p.«module».functions = h j refl in
            let few : length p.«module».functions ≤ 65536 = safe.few in
            omega (arith, big, lt, few)
    map_fine (n ∷ m ∷ ns) w small gives = absurd small.1

    external_fine : (u : Ty) (ps : List (ℕ × Ty)) (e : External) → bits p t ≡ bits p u → IsExternal e u ps → (ns : List ℕ) → AreBelow ns (param_widths p ps) → Fine p safe (row_external p is.frame.instr.result e ns s).next
    external_fine u ps external.Alloca same x ns small =
        let parts = and_parts (gives' scalar.Ptr u) (takes (scalar.Int 64 ∷ scalar.Int 64 ∷ scalar.Int 64 ∷ []) ps) x.typed in
        room_fine ns (subst (AreBelow ns) (taken_widths p (scalar.Int 64 ∷ scalar.Int 64 ∷ scalar.Int 64 ∷ []) ps parts.1) small) (pointer_given u same (given_bits p scalar.Ptr u parts.0))
    external_fine u ps external.Map same x ns small =
        let parts = and_parts (gives' scalar.Ptr u) (takes (scalar.Ptr ∷ []) ps) x.typed in
        map_fine ns p.layout.pointer (subst (AreBelow ns) (taken_widths p (scalar.Ptr ∷ []) ps parts.1) small) (same ∙ given_bits p scalar.Ptr u parts.0)
    external_fine u ps e same x ns small = plainly e refl x
      where
        plainly : (e : External) → is_plain e ≡ true → IsExternal e u ps → Fine p safe (row_effect is.frame.instr.result (do_external p.regions e ns (world_of s)) s).next
        plainly e plain x = outcome_fine (do_external p.regions e ns (world_of s)).outcome (do_external p.regions e ns (world_of s))
            (subst (λ (g : Option ℕ). EffectFits g (do_external p.regions e ns (world_of s))) (sym same) (external_fits p safe.pointer u ps ns small (world_of s) (is.heap, is.input) p.regions e plain x))

    -- ---- the function that is called

    calls : (k : ℕ) (d : IsDirect p t args k) (ns : List ℕ) → AreBelow ns (argument_widths p args) → Fine p safe (invoked p is.frame.instr.result k ns s d.function).next
    calls k d ns small = by_declared (is_declared d.function) refl
      where
        parts : (same_result t d.function.result ≡ true) × (are_passed args d.function.params ≡ true)
        parts = and_parts (same_result t d.function.result) (are_passed args d.function.params) d.typed

        same : bits p t ≡ bits p d.function.result
        same = same_bits p t d.function.result parts.0

        below_params : AreBelow ns (param_widths p d.function.params)
        below_params = subst (AreBelow ns) (same_widths p args d.function.params parts.1) small

        by_declared : (b : Bool) → is_declared d.function ≡ b → Fine p safe (if b then given stuck (external_of p.role d.function) (λ e. row_external p is.frame.instr.result e ns s) else entered k d.function ns s).next
        by_declared true e =
            let x : (e : External) × (external_of p.role d.function ≡ Some e) = d.known e in
            subst (λ (o : Option External). Fine p safe (given stuck o (λ e. row_external p is.frame.instr.result e ns s)).next) (sym x.1)
            (external_fine d.function.result d.function.params x.0 same (is_external p.role d.function x.0 x.1) ns below_params)
        by_declared false e = enters p safe s is k d.function ns d.is e below_params
            (record { stands = is.frame; type = t; callee = callee; arguments = args; is_call = at; answers = subst (λ (g : Option ℕ). Answers (length is.frame.function.registers) (fine p safe s.frame is.frame).width is.frame.instr.result g) same answers })
            is.callers

    pub call_fine : (v : Valued) → CalleeGood t args v → (ns : List ℕ) → arguments_of p s.frame.registers args ≡ Some ns → AreBelow ns (argument_widths p args) → Fine p safe (calling p is.frame.instr.result v args s).next
    call_fine (Number k) good ns e small =
        subst (λ (o : Option (List ℕ)). Fine p safe (given stuck o (λ ns. given stuck (function_at p k) (invoked p is.frame.instr.result k ns s))).next) (sym e)
        (subst (λ (o : Option Function). Fine p safe (given stuck o (invoked p is.frame.instr.result k ns s)).next) (sym good.is) (calls k good ns small))
    call_fine (Traps trap) good ns e small = tt
    call_fine NoValue good ns e small = absurd good
