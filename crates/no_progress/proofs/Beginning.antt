-- A run of a program begins in a state of it.
use Rattle.std.proofs.Common.{◌≡◌, ℕ, ◌-◌, ◌<◌, Option, Some, None, List, [], ◌∷◌, ap, ◌∙◌, arith, pow_pos}
use Rattle.no_ir.specs.declared.types.Ty.{Ty}
use Rattle.no_ir.specs.declared.function.Function.{Function}
use Rattle.no_heap.specs.Blocks.{AreLive}
use Rattle.no_layout.specs.Memory.{stack_end}
use Rattle.no_semantics.specs.Registers.{given}
use Rattle.no_semantics.specs.States.{Frame, State, function_at}
use Rattle.no_semantics.specs.Calls.{call_room, entry_frame}
use Rattle.no_semantics.specs.Starts.{zeros_for, main_frame, entry_of, begun, start, at_entry}
use Rattle.no_semantics.specs.Values.{Program, width_of}
use Rattle.no_progress.specs.Proper.{Each, IsSafe}
use Rattle.no_progress.specs.Valid.{IsOnStack, IsStateOf}
use Rattle.no_progress.specs.Begin.{HasMain, ArgumentsFit, IsEntry}
use Rattle.no_progress.proofs.Reading.{AreBelow}
use Rattle.no_progress.proofs.Stepping.{state_of}
use Rattle.no_progress.proofs.Entering.{param_widths, Entry, entry}

zeros_below : (p : Program) (params : List (ℕ × Ty)) → AreBelow (zeros_for params) (param_widths p params)
zeros_below p [] = tt
zeros_below p (q ∷ params) = (pow_pos (width_of p.layout q.1), zeros_below p params)

fit_below : (p : Program) (ns : List ℕ) (params : List (ℕ × Ty)) → ArgumentsFit p ns params → AreBelow ns (param_widths p params)
fit_below p [] [] fit = tt
fit_below p (n ∷ ns) (q ∷ params) fit = (fit.0, fit_below p ns params fit.1)
fit_below p [] (q ∷ params) fit = absurd fit
fit_below p (n ∷ ns) [] fit = absurd fit

no_blocks_live : AreLive []
no_blocks_live = record { few = omega arith; rising = tt }

module _ (p : Program) (safe : IsSafe p) where
  pub begins : (main : HasMain p) (byte : ℕ → ℕ) (input : List ℕ) → Each (λ (b : ℕ). b < 256) input → (s : State) × (start p byte input ≡ Some s) × IsStateOf p safe s
  unfolding start
  begins main byte input bytes =
      let top : IsOnStack stack_end = (omega arith, omega arith) in
      let low : IsOnStack (stack_end - call_room) = (omega arith, omega arith) in
      let e : Entry p safe main.number main.function (zeros_for main.function.params) stack_end = entry p safe main.number main.function (zeros_for main.function.params) stack_end main.function_is main.is_defined (zeros_below p main.function.params) top in
      let frame : main_frame p ≡ Some e.frame =
      ap (λ (o : Option ℕ). given None o (λ k. given None (function_at p k) (λ g. entry_frame k g (zeros_for g.params) stack_end))) main.is
      ∙ ap (λ (o : Option Function). given None o (λ g. entry_frame main.number g (zeros_for g.params) stack_end)) main.function_is ∙ e.is in (
        begun byte input e.frame,
        ap (λ (o : Option Frame). given None o (λ f. Some (begun byte input f))) frame,
        state_of p safe e.frame main.function [] (stack_end - call_room) byte [] input (ap (function_at p) e.same ∙ main.function_is) e.of tt low no_blocks_live bytes,
      )

  pub enters : (k : ℕ) (arguments : List ℕ) (x : IsEntry p k arguments) (s : State) → IsStateOf p safe s → (t : State) × (at_entry p s k arguments ≡ Some t) × IsStateOf p safe t
  enters k arguments x s is =
      let e : Entry p safe k x.function arguments s.sp = entry p safe k x.function arguments s.sp x.function_is x.is_defined (fit_below p arguments x.function.params x.fit) is.sp in
      let frame : entry_of p k arguments s.sp ≡ Some e.frame = ap (λ (o : Option Function). given None o (λ g. entry_frame k g arguments s.sp)) x.function_is ∙ e.is in (
        record s { frame = e.frame; callers = [] },
        ap (λ (o : Option Frame). given None o (λ f. Some (record s { frame = f; callers = [] }))) frame,
        state_of p safe e.frame x.function [] s.sp s.byte s.heap s.input (ap (function_at p) e.same ∙ x.function_is) e.of tt is.sp is.heap is.input,
      )
