-- Turns one after another.
use Rattle.std.proofs.Common.{◌≡◌, ℕ, ◌+◌, ◌++◌, Bool, List, [], Option, refl, sym, subst, ◌∙◌}
use Rattle.no_layout.specs.declared.memory.Regions.{Regions}
use Rattle.no_semantics.specs.Accepted.{Accepted}
use Rattle.no_semantics.specs.Acting.{row}
use Rattle.no_semantics.specs.Rows.{Calling, Goes, needed}
use Rattle.no_semantics.specs.Spans.{AreHeld}
use Rattle.no_semantics.specs.States.{State}
use Rattle.no_semantics.specs.Steps.{Steps}
use Rattle.no_semantics.specs.Values.{Program}
use Rattle.no_semantics.proofs.Running.{steps_compose}
use Rattle.no_machine.proofs.Each.{each_compose, each_none, each_one, steps_of}
use Rattle.no_machine.specs.Turning.{HasTurned, IsHere, IsStill, NeverStuck, Stopped, Turned, program_with}
use Rattle.no_machine.specs.Each.{HasPages, StepsEach}
use Rattle.no_machine.specs.Spun.{Halted, HasSpun}
use Rattle.no_machine.specs.declared.frame.Saved.{Saved}
use Rattle.no_machine.specs.declared.turn.Stop.{Stop}
use Rattle.no_machine.specs.declared.turn.Stop.TheVariants as stop
use Rattle.no_machine.specs.declared.turn.Turn.{Turn}

-- what holds of a memory holds of one with the same regions and pages
pub turn_at : (a : Accepted) (addresses : List ℕ) (result : Turn) (at base sp sp' : ℕ) (slots slots' : List ℕ) (frames frames' : List Saved) (byte after : ℕ → ℕ) (r q : Regions) (h k : ℕ → Bool) → r ≡ q → h ≡ k
    → ((s : State) → IsHere (program_with a addresses r) at base sp slots frames h byte s → Turned (program_with a addresses r) result at base sp' slots' frames' h byte after s)
    → (s : State) → IsHere (program_with a addresses q) at base sp slots frames k byte s → Turned (program_with a addresses q) result at base sp' slots' frames' k byte after s
turn_at a addresses result at base sp sp' slots slots' frames frames' byte after r q h k e f all =
    subst (λ (x : Regions). (s : State) → IsHere (program_with a addresses x) at base sp slots frames k byte s → Turned (program_with a addresses x) result at base sp' slots' frames' k byte after s) e
    (subst (λ (x : ℕ → Bool). (s : State) → IsHere (program_with a addresses r) at base sp slots frames x byte s → Turned (program_with a addresses r) result at base sp' slots' frames' x byte after s) f all)

pub never_after : (p : Program) (s t : State) (bytes : List ℕ) (count : ℕ) → NeverStuck p s → Steps p s bytes count t → NeverStuck p t
never_after p s t bytes count never steps more cost u further = never (bytes ++ more) (count + cost) u (steps_compose p s t u bytes more count cost steps further)

one_cost : (p : Program) (held : ℕ → Bool) (s t : State) (bytes : List ℕ) (call : Option Calling) → (row p s).next ≡ Goes bytes call t → (row p s).cost ≡ 1 → AreHeld held (needed (row p s)) → StepsEach (HasPages held) p s bytes 1 t
one_cost p held s t bytes call next cost present = subst (λ (k : ℕ). StepsEach (HasPages held) p s bytes k t) cost (each_one (HasPages held) p s t bytes call next present)

module _ (p : Program) (held : ℕ → Bool) where
  pub here_more : (at base sp : ℕ) (slots : List ℕ) (frames : List Saved) (byte : ℕ → ℕ) (at' base' sp' : ℕ) (slots' : List ℕ) (frames' : List Saved) (byte' : ℕ → ℕ) (s : State) → IsHere p at base sp slots frames held byte s
      → (t : HasTurned p at' base' sp' slots' frames' held byte' s) → IsHere p at' base' sp' slots' frames' held byte' t.state
  here_more at base sp slots frames byte at' base' sp' slots' frames' byte' s here t = record {
    stands = t.stands;
    agrees = t.agrees;
    never = never_after p s t.state [] 1 here.never (steps_of (HasPages held) p s [] 1 t.state (one_cost p held s t.state [] t.call t.next t.cost t.present));
  }

  pub spun_none : (at base sp : ℕ) (slots : List ℕ) (frames : List Saved) (byte : ℕ → ℕ) (s : State) → IsHere p at base sp slots frames held byte s → HasSpun p stop.Spent 0 at base sp slots frames held byte s
  spun_none at base sp slots frames byte s here = record { state = s; steps = each_none (HasPages held) p s; here = here; heap = refl; input = refl; stopped = tt }

  pub spun_more : (count at base sp : ℕ) (slots : List ℕ) (frames : List Saved) (byte : ℕ → ℕ) (at' base' sp' : ℕ) (slots' : List ℕ) (frames' : List Saved) (byte' : ℕ → ℕ) (s : State) → HasSpun p stop.Spent count at base sp slots frames held byte s
      → ((t : State) → IsHere p at base sp slots frames held byte t → HasTurned p at' base' sp' slots' frames' held byte' t) → HasSpun p stop.Spent (count + 1) at' base' sp' slots' frames' held byte' s
  spun_more count at base sp slots frames byte at' base' sp' slots' frames' byte' s spun turns =
      let t = turns spun.state spun.here in
      record {
        state = t.state;
        steps = each_compose (HasPages held) p s spun.state t.state [] [] count 1 spun.steps (one_cost p held spun.state t.state [] t.call t.next t.cost t.present);
        here = here_more at base sp slots frames byte at' base' sp' slots' frames' byte' spun.state spun.here t;
        heap = t.heap ∙ spun.heap;
        input = t.input ∙ spun.input;
        stopped = tt;
      }

  not_spent : (why : Stop) (t : State) → Stopped p why held t → Halted p why held t
  not_spent stop.Spent t s = absurd s
  not_spent stop.Grow t s = s
  not_spent stop.NoMemory t s = s
  not_spent (stop.Trapped trap) t s = s
  not_spent (stop.WantPage page) t s = s
  not_spent (stop.Left v) t s = s
  not_spent stop.Outside t s = s

  pub spun_stop : (why : Stop) (count left at base sp : ℕ) (slots : List ℕ) (frames : List Saved) (byte : ℕ → ℕ) (sp' : ℕ) (slots' : List ℕ) (frames' : List Saved) (byte' : ℕ → ℕ) (s : State) → HasSpun p stop.Spent count at base sp slots frames held byte s → count ≡ left
      → ((t : State) → IsHere p at base sp slots frames held byte t → Stopped p why held t × IsStill p at base sp' slots' frames' byte byte' t) → HasSpun p why left at base sp' slots' frames' held byte' s
  spun_stop why count left at base sp slots frames byte sp' slots' frames' byte' s spun same stops =
      let t = stops spun.state spun.here in
      record {
        state = spun.state;
        steps = subst (λ (k : ℕ). StepsEach (HasPages held) p s [] k spun.state) same spun.steps;
        here = record { stands = t.1.stands; agrees = subst (λ (f : ℕ → ℕ). Rattle.no_layout.specs.Memory.Agrees held f spun.state.byte) (sym t.1.bytes) spun.here.agrees; never = spun.here.never };
        heap = spun.heap;
        input = spun.input;
        stopped = not_spent why spun.state t.0;
      }

  pub never_spent : (why : Stop) (left at base sp : ℕ) (slots : List ℕ) (frames : List Saved) (byte : ℕ → ℕ) (sp' : ℕ) (slots' : List ℕ) (frames' : List Saved) (byte' : ℕ → ℕ) (t : State) → IsHere p at base sp slots frames held byte t
      → ((t : State) → IsHere p at base sp slots frames held byte t → Stopped p why held t × IsStill p at base sp' slots' frames' byte byte' t) → why ≡ stop.Spent → left ≡ 0
  never_spent why left at base sp slots frames byte sp' slots' frames' byte' t here stops e = absurd (subst (λ (w : Stop). Stopped p w held t) e (stops t here).0)
