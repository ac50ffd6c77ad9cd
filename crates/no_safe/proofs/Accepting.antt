-- Accepted sources are safe programs, and their runs finish.
use Rattle.std.proofs.Common.{◌≡◌, ℕ, ◌%◌, ◌<◌, Bool, Option, Some, None, if◌then◌else◌, option_map, List, refl, sym, ap, ◌∙◌, subst}
use Rattle.std.proofs.lemmas.Option.{same_Some, none-some}
use Rattle.no_ir.specs.declared.ending.End.{End}
use Rattle.no_ir.specs.declared.ending.End.TheVariants.{Exited}
use Rattle.no_ir.specs.declared.function.Function.{Function}
use Rattle.no_ir.specs.declared.function.Module.{Module}
use Rattle.no_ir.specs.declared.function.Role.TheVariants.{Source}
use Rattle.no_layout.specs.Memory.{stack_end}
use Rattle.no_room.specs.Accepted.{Accepted}
use Rattle.no_verify_types.specs.Places.{type_fault_of, external_fault_of}
use Rattle.no_verify.specs.declared.fault.VerifyKind.TheVariants as kind
use Rattle.no_verify.specs.Verdict.{IsAccepted}
use Rattle.no_semantics.specs.Calls.{passed, unassigned, entry_frame}
use Rattle.no_semantics.specs.First.{program_of, first_byte}
use Rattle.no_semantics.specs.Registers.{Registers, given}
use Rattle.no_semantics.specs.Runs.{Finish, Returned, Ended, Ran, ran_by, end_of, IsRun}
use Rattle.no_semantics.specs.Starts.{zeros_for, main_frame, begun, start}
use Rattle.no_semantics.specs.States.{Frame, State, function_at}
use Rattle.no_semantics.specs.Values.{Program, width_of}
use Rattle.no_progress.specs.Proper.{Each, IsSafe}
use Rattle.no_progress.proofs.Beginning.{begins}
use Rattle.no_progress.proofs.Steady.{outer}
use Rattle.no_progress.proofs.Finishing.{Answered, finishes}
use Rattle.no_safe.specs.Widths.{width_of_register}
use Rattle.no_safe.proofs.Assembly.{AreTyped, GivesNumber, safe, main}
use Rattle.no_safe.proofs.TypedJudged.{IsJudged}
use Rattle.no_safe.proofs.TypedLayout.{pointer_wide}
use Rattle.no_safe.proofs.Typed.{op_fits, phi_fits, last_idle, params_fit, source_callable}

-- ---- an accepted module is that of its answer

pub own : (m : Module) (a : Accepted) → IsAccepted m Source a → IsAccepted a.«module» Source a
own m a is = subst (λ (x : Module). IsAccepted x Source a) (sym is.module_is) is

module _ (a : Accepted) (is : IsAccepted a.«module» Source a) where
  judged : IsJudged (program_of a)
  judged = record {
    formed = is.formed;
    typed = ap (type_fault_of a.«module») is.role_is ∙ sym (is.nowhere 4 kind.TypeMismatch refl);
    external = ap (external_fault_of a.«module») is.role_is ∙ sym (is.nowhere 3 kind.UnknownExternal refl);
    twice = sym (is.nowhere 1 kind.Twice refl);
  }

  typed : AreTyped (program_of a)
  typed = record {
    pointer = pointer_wide a.«module».layout a.layout is.layout;
    width = λ k g. width_of_register a.layout g;
    functions = λ k g at def. record {
      params = params_fit (program_of a) judged k g at def;
      phis = phi_fits (program_of a) judged k g at;
      fits = op_fits (program_of a) judged k g at;
      idle = last_idle (program_of a) judged k g at;
    };
    callable = source_callable (program_of a) judged is.role_is;
  }

  pub is_safe : IsSafe (program_of a)
  is_safe = safe a is typed

  pub has_main : GivesNumber (program_of a)
  has_main = main a is

-- ---- runs

module _ (p : Program) (m : GivesNumber p) where
  -- the outermost call of a begun run is that of main
  begun_outer : (byte : ℕ → ℕ) (input : List ℕ) (s : State) → start p byte input ≡ Some s → outer s ≡ m.main.number
  unfolding start
  begun_outer byte input s e =
      by (passed m.main.function.params (zeros_for m.main.function.params) (unassigned m.main.function)) (sym (ap (λ (o : Option Frame). given None o (λ f. Some (begun byte input f))) frame) ∙ e)
    where
      frame : main_frame p ≡ entry_frame m.main.number m.main.function (zeros_for m.main.function.params) stack_end
      frame =
          ap (λ (o : Option ℕ). given None o (λ k. given None (function_at p k) (λ g. entry_frame k g (zeros_for g.params) stack_end))) m.main.is
          ∙ ap (λ (o : Option Function). given None o (λ g. entry_frame m.main.number g (zeros_for g.params) stack_end)) m.main.function_is

      by : (o : Option Registers) → given None (given None o (λ registers. Some (record { function = m.main.number; block = 0; at = 0; registers = registers; saved = stack_end }))) (λ f. Some (begun byte input f)) ≡ Some s
          → outer s ≡ m.main.number
      by None e = absurd (none-some s e)
      by (Some registers) e = ap outer (sym (same_Some (begun byte input (record { function = m.main.number; block = 0; at = 0; registers = registers; saved = stack_end })) s e))

  -- main returns a number
  finish_end : (f : Finish) → Answered p m.main.number f → (e : End) × (end_of f ≡ Some e)
  finish_end (Returned None) answers =
      absurd (none-some (width_of p.layout m.main.function.result) (sym (answers m.main.function m.main.function_is)
      ∙ ap (λ (b : Bool). if b then None else Some (width_of p.layout m.main.function.result)) m.gives))
  finish_end (Returned (Some n)) answers = (Exited (n % 256), refl)
  finish_end (Ended end) answers = (end, refl)

pub runs : (a : Accepted) → IsAccepted a.«module» Source a → (input : List ℕ) → Each (λ (b : ℕ). b < 256) input → (budget : ℕ) → (r : Ran) × IsRun a input budget r
runs a is input bytes budget =
    let p : Program = program_of a in
    let m : GivesNumber p = has_main a is in
    let s = begins p (is_safe a is) m.main (first_byte a) input bytes in
    let w = finishes p (is_safe a is) is.marks budget s.0 s.2 in
    let e = finish_end p m w.0.finish (subst (λ (k : ℕ). Answered p k w.0.finish) (begun_outer p m (first_byte a) input s.0 s.1) w.2) in
    (ran_by w.0.output w.0.count e.0, record { begin = s.0; begins = s.1; whole = w.0; runs = w.1; is = ap (option_map (ran_by w.0.output w.0.count)) e.1 })
