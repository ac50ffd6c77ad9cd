-- How a machine begins.
use Rattle.std.proofs.Common.{◌≡◌, ◌∙◌, sym, ap, subst, refl, ℕ, suc, ◌<◌, ◌+◌, Bool, true, List, [], ◌∷◌, length, drop, get_or, drop-cons, bytes_eq, codes, if◌then◌else◌, Some, None, inl, inr, arith}
use Rattle.std.proofs.lemmas.Option.{slice_get_cases, slice_get_within}
use Rattle.no_ir.specs.declared.function.Function.{Function}
use Rattle.no_ir.specs.declared.function.Module.{Module}
use Rattle.no_layout.specs.Memory.{Agrees}
use Rattle.no_layout.specs.declared.extent.Extent.{Extent}
use Rattle.no_layout.specs.declared.layout.Layout.{Layout}
use Rattle.no_layout.specs.declared.memory.Regions.{Regions}
use Rattle.no_code.specs.Source.{Source, source}
use Rattle.no_code.specs.Whole.{IsCode}
use Rattle.no_code.specs.declared.code.Code.{Code}
use Rattle.no_semantics.specs.Accepted.{Accepted}
use Rattle.no_semantics.specs.Sound.{is_sound}
use Rattle.no_semantics.specs.Starts.{main_from, main_number, start}
use Rattle.no_semantics.specs.States.{HasNoMarks, State}
use Rattle.no_semantics.specs.Values.{Program}
use Rattle.no_taken.specs.Marked.{AreTaken}
use Rattle.no_machine.specs.Booted.{IsBooted}
use Rattle.no_machine.specs.Outside.{AreExternals}
use Rattle.no_machine.specs.Ran.{IsMade, program_of}
use Rattle.no_machine.specs.Standing.{Stands, source_of}
use Rattle.no_machine.specs.Turning.{AreDeclared}
use Rattle.no_machine.specs.declared.machine.Machine.{Machine}
use Rattle.no_machine.proofs.Begun.{start_known}

-- ---- the first function of the name

module _ (fs : List Function) (i : ℕ) (f : Function) where
  pub found : i < length fs → f ≡ get_or fs i f → true ≡ bytes_eq f.name (codes "main") → main_from i (drop i fs) ≡ main_from 0 fs → main_from 0 fs ≡ Some i
  found below is named so_far =
      let parts : drop i fs ≡ f ∷ drop (suc i) fs = drop-cons fs i f below ∙ ap (λ (g : Function). g ∷ drop (suc i) fs) (sym is) in
      sym so_far ∙ ap (main_from i) parts ∙ ap (λ (b : Bool). if b then Some i else main_from (i + 1) (drop (suc i) fs)) (sym named)

-- code has a home for each function
pub homed : (s : Source) (code : Code) (k : ℕ) → IsCode s code → k < length s.«module».functions → k < length code.homes
homed s code k is inside = elim ((slice_get_cases s.«module».functions k).1) [
  | inl (f, lt, there, same) ↦ (let home = (is.functions k f there).home in slice_get_within code.homes k home.home home.is)
  | inr (past, none) ↦ absurd (omega (arith, past, inside))
]

-- ---- the state in which a run begins

pub record HasBegun (byte : ℕ → ℕ) (input : List ℕ) (s : State) : Type 0 where
  pub bytes : s.byte ≡ byte
  pub blocks : s.heap ≡ []
  pub rest : s.input ≡ input

pub has_begun : (p : Program) (byte : ℕ → ℕ) (input : List ℕ) (s : State) → start p byte input ≡ Some s → HasBegun byte input s
has_begun p byte input s e =
    let known = start_known p byte input s e in
    record {
      bytes = ap (λ (t : State). t.byte) (sym known.2);
      blocks = ap (λ (t : State). t.heap) (sym known.2);
      rest = ap (λ (t : State). t.input) (sym known.2);
    }

-- code of the same parts
pub coded : (m n : Module) (l k : Layout) (sizes extents : List Extent) (addresses places : List ℕ) (code : Code) → m ≡ n → l ≡ k → sizes ≡ extents → addresses ≡ places → IsCode (source m l sizes addresses) code → IsCode (source n k extents places) code
coded m n l k sizes extents addresses places code e f g h is =
    subst (λ (x : Module). IsCode (source x k extents places) code) e (subst (λ (x : Layout). IsCode (source m x extents places) code) f
    (subst (λ (x : List Extent). IsCode (source m l x places) code) g (subst (λ (x : List ℕ). IsCode (source m l sizes x) code) h is)))

module _ {M : Type 0} (byte : M → ℕ → ℕ) (held : M → ℕ → Bool) (regions : M → Regions) (a : Accepted) (mem : M) (m : Machine M) (sound : is_sound a.«module» a.layout a.sizes ≡ true) (marks : HasNoMarks a.«module»)
    (code : IsCode (source a.«module» a.layout a.sizes m.addresses) m.code) (flags : AreDeclared a.«module» m.declared) (externals : AreExternals a.«module» a.role m.externals) (taken : AreTaken a.«module» m.taken) where
  made : IsMade a m
  made = record {
    facts = record { sound = sound; marks = marks; is = code; cells_are = refl; constants_are = refl; flags = flags; order = refl; width = refl };
    outside = externals;
    pointed = taken;
  }

  pub booted : (k : ℕ) → main_from 0 a.«module».functions ≡ Some k
      → ((p : Program) → IsCode (source_of p) m.code → main_number p ≡ Some k → (whole : ℕ → ℕ) (input : List ℕ) (s : State) → start p whole input ≡ Some s → Stands p m.core.at m.core.base m.core.sp m.core.slots.items m.core.frames.items s)
      → m.core.mem ≡ mem → m.core.heap ≡ [] → m.count ≡ 0 → m.end ≡ None → IsBooted byte held regions a m.addresses mem m.budget m
  booted k main begun same_mem none uncounted goes_on = record {
    made = made;
    starts = λ whole input s e agrees never env more is_input last.
        let h = has_begun (program_of regions a m) whole input s e in
        record {
          here = record {
            stands = begun (program_of regions a m) code main whole input s e;
            agrees = subst (λ (f : ℕ → ℕ). Agrees (held m.core.mem) (byte m.core.mem) f) (sym h.bytes) (subst (λ (x : M). Agrees (held x) (byte x) whole) (sym same_mem) agrees);
            never = never;
          };
          blocks = h.blocks ∙ sym none;
          rest = h.rest ∙ is_input;
          last = last;
        };
    uncounted = uncounted;
    allowed = refl;
    goes_on = goes_on;
    memory = same_mem;
    globals = refl;
  }
