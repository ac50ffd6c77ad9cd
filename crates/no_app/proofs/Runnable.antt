-- What the verifier accepts as a source can be run.
use Rattle.std.proofs.Common.{◌≡◌, ℕ, Bool, true, false, List, refl, sym, ap, subst, ◌∙◌, Option, Some, None, arith}
use Rattle.std.proofs.lemmas.Option.{none-some, same_Some}
use Rattle.std.specs.Prelude.{not, slice_get}
use Rattle.std.specs.List.{list_all}
use Rattle.no_ir.specs.declared.function.Block.{Block}
use Rattle.no_ir.specs.declared.function.Function.{Function}
use Rattle.no_ir.specs.declared.function.Module.{Module}
use Rattle.no_ir.specs.declared.function.Role.TheVariants.{Source}
use Rattle.no_ir.specs.declared.instruction.Instr.{Instr}
use Rattle.no_module.specs.Marks.{block_unmarked, function_unmarked, instr_unmarked, is_unmarked, no_address}
use Rattle.no_machine.specs.Turning.{NeverStuck}
use Rattle.no_progress.proofs.Acts.{not_stuck, steps_fine}
use Rattle.no_progress.proofs.Beginning.{begins}
use Rattle.no_progress.proofs.Entering.{and_parts}
use Rattle.no_progress.specs.Proper.{IsSafe}
use Rattle.no_progress.specs.Valid.{IsStateOf}
use Rattle.no_semantics.specs.Accepted.{Accepted}
use Rattle.no_semantics.proofs.Running.{affords}
use Rattle.no_semantics.specs.Acting.{row}
use Rattle.no_semantics.specs.First.{first_byte, program_of}
use Rattle.no_semantics.specs.Registers.{given}
use Rattle.no_semantics.specs.Rows.{Row}
use Rattle.no_semantics.specs.Starts.{start_of}
use Rattle.no_semantics.specs.Values.{Program}
use Rattle.no_verify.specs.Verdict.{IsAccepted}
use Rattle.no_semantics.specs.States.{HasNoMarks, State}
use Rattle.no_safe.proofs.Accepting.{own, has_main, is_safe, runs}
use Rattle.no_safe.proofs.Lists.{all_at}
use Rattle.no_app.specs.Jobs.{AreBytes, IsRunnable}

not_true : (b : Bool) → not b ≡ true → b ≡ false
not_true true e = sym e
not_true false e = refl

module _ (m : Module) (none : is_unmarked m ≡ true) where
  in_block : (f : Function) (k b at : ℕ) (i : Instr) → slice_get m.functions k ≡ Some f → (o : Option Block) → slice_get f.blocks b ≡ o → given None o (λ (x : Block). slice_get x.instrs at) ≡ Some i → i.inserted ≡ false
  in_block f k b at i f_is None b_is e = absurd (none-some i e)
  in_block f k b at i f_is (Some x) b_is e =
      let blocks : list_all block_unmarked f.blocks ≡ true = (and_parts (no_address f.device_address) (list_all block_unmarked f.blocks) (all_at function_unmarked m.functions none k f f_is)).1 in
      not_true i.inserted (all_at instr_unmarked x.instrs (all_at block_unmarked f.blocks blocks b x b_is) at i e)

  in_function : (k b at : ℕ) (i : Instr) (o : Option Function) → slice_get m.functions k ≡ o
      → given None (given None o (λ (f : Function). slice_get f.blocks b)) (λ (x : Block). slice_get x.instrs at) ≡ Some i → i.inserted ≡ false
  in_function k b at i None f_is e = absurd (none-some i e)
  in_function k b at i (Some f) f_is e = in_block f k b at i f_is (slice_get f.blocks b) refl e

  no_marks : HasNoMarks m
  no_marks k b at i e = in_function k b at i (slice_get m.functions k) refl e

-- from a state of a safe program no run gets stuck
pub never_stuck : (p : Program) (safe : IsSafe p) (s : State) → IsStateOf p safe s → NeverStuck p s
never_stuck p safe s is bytes count t steps e =
    not_stuck p safe (row p t).cost t (steps_fine p safe s t bytes count is steps) (ap (λ (r : Row). r.next) (affords (row p t).cost (row p t) (omega arith)) ∙ e)

-- nor from where an accepted source begins
never_begun : (a : Accepted) → IsAccepted a.«module» Source a → (given : List ℕ) → AreBytes given → (s : State) → start_of a given ≡ Some s → NeverStuck (program_of a) s
never_begun a is given are s begun =
    let safe : IsSafe (program_of a) = is_safe a is in
    let first = begins (program_of a) safe (has_main a is).main (first_byte a) given are in
    subst (NeverStuck (program_of a)) (same_Some first.0 s (sym first.1 ∙ begun)) (never_stuck (program_of a) safe first.0 first.2)

pub runnable : (m : Module) (a : Accepted) → IsAccepted m Source a → IsRunnable a
runnable m a is =
    let whole = own m a is in
    let main = (has_main a whole).main in
    record {
      role = is.role_is;
      main = (main.number, main.is);
      marks = no_marks a.«module» whole.marks;
      runs = λ given are budget. runs a whole given are budget;
      never = λ given are s begun. never_begun a whole given are s begun;
    }
