-- A machine at its entry is at the beginning of the run on every input.
use Rattle.std.proofs.Common.{◌≡◌, ◌<◌, ℕ, true, List, [], sym, ap, subst, ◌∙◌, Some, Result, Ok, Err, arith}
use Rattle.std.specs.Prelude.{IfOk}
use Rattle.no_ir.specs.declared.memory.NoMemory.{NoMemory}
use Rattle.no_layout.specs.Memory.{Agrees, AreFormed}
use Rattle.no_layout.specs.declared.memory.Regions.{Regions}
use Rattle.no_pages.specs.declared.table.PageTable.{PageTable}
use Rattle.no_pages.specs.Table.{byte_of, held_of, regions_of}
use Rattle.no_machine.specs.Booted.{IsBooted}
use Rattle.no_machine.specs.Ran as machine
use Rattle.no_machine.specs.Turning.{NeverStuck}
use Rattle.no_semantics.specs.Accepted.{Accepted}
use Rattle.no_semantics.specs.First.{program_of, first_byte}
use Rattle.no_semantics.specs.Image as image
use Rattle.no_semantics.specs.Runs.{IsRun}
use Rattle.no_semantics.specs.Starts.{start}
use Rattle.no_semantics.specs.States.{HasNoMarks}
use Rattle.no_semantics.specs.Values.{Program}
use Rattle.no_semantics.proofs.Running.{no_step}
use Rattle.no_semantics.specs.Steps.{Steps}
use Rattle.no_engine.specs.Local.{IsOnWay, Local}
use Rattle.no_engine.specs.Parts.{IsFresh, MayRun}

-- a program by its addresses and regions
abbrev placed : Accepted → List ℕ → Regions → Program
placed a addresses regions = record { «module» = a.«module»; layout = a.layout; sizes = a.sizes; addresses = addresses; regions = regions; role = a.role }

fresh : (a : Accepted) (addresses : List ℕ) (mem : PageTable) (budget : ℕ) (m : Local) → HasNoMarks a.«module»
    → IsBooted byte_of held_of regions_of a addresses mem budget m
    → addresses ≡ image.addresses_of a.layout a.sizes a.«module».globals
    → regions_of mem ≡ image.regions_of a.layout a.sizes a.«module».globals
    → byte_of mem ≡ first_byte a
    → AreFormed (regions_of mem)
    → ((page : ℕ) → page < 131328 → held_of mem page ≡ true)
    → IsFresh (IsOnWay a) machine.count_of machine.budget_of a budget m
fresh a addresses mem budget m marks booted places ends bytes formed held = record {
  starts = λ given may env more came closed none. record {
    stands = record {
      going = booted.goes_on;
      within = rw booted.uncounted (omega arith);
      same_program = same_program;
      made = booted.made;
      marks = marks;
      whole = record {
        formed = subst (λ (x : PageTable). AreFormed (regions_of x)) (sym booted.memory) formed;
        held = λ page lt. ap (λ (x : PageTable). held_of x page) booted.memory ∙ held page lt;
      };
    };
    ran = may.ran;
    run = subst (λ (n : ℕ). IsRun a given n may.ran) (sym booted.allowed) may.run;
    begin = may.begin;
    begins = may.begins;
    state = may.begin;
    at = booted.starts (first_byte a) given may.begin (subst (λ (p : Program). start p (first_byte a) given ≡ Some may.begin) (sym same_program) may.begins) agrees
        (subst (λ (p : Program). NeverStuck p may.begin) (sym same_program) may.never) env more came closed;
    steps = rw (none, booted.uncounted) (no_step (program_of a) may.begin);
  };
  uncounted = booted.uncounted;
  allowed = booted.allowed;
}
  where
    same_program : machine.program_of regions_of a m ≡ program_of a
    same_program =
        ap (λ (xs : List ℕ). placed a xs (regions_of (machine.memory_of m))) (booted.globals ∙ places)
        ∙ ap (λ (r : Regions). placed a (image.addresses_of a.layout a.sizes a.«module».globals) r) (ap regions_of booted.memory ∙ ends)

    agrees : Agrees (held_of mem) (byte_of mem) (first_byte a)
    agrees = λ at held. ap (λ (f : ℕ → ℕ). f at) bytes

pub started : (a : Accepted) (addresses : List ℕ) (mem : PageTable) (budget : ℕ) (r : Result Local NoMemory) → HasNoMarks a.«module»
    → IfOk r (λ m. IsBooted byte_of held_of regions_of a addresses mem budget m)
    → addresses ≡ image.addresses_of a.layout a.sizes a.«module».globals
    → regions_of mem ≡ image.regions_of a.layout a.sizes a.«module».globals
    → byte_of mem ≡ first_byte a
    → AreFormed (regions_of mem)
    → ((page : ℕ) → page < 131328 → held_of mem page ≡ true)
    → IfOk r (λ m. IsFresh (IsOnWay a) machine.count_of machine.budget_of a budget m)
started a addresses mem budget (Ok m) marks booted places ends bytes formed held = fresh a addresses mem budget m marks booted places ends bytes formed held
started a addresses mem budget (Err e) marks booted places ends bytes formed held = tt
