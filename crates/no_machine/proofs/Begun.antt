-- The first frame of a run stands at the entry of main, over slots of 0.
use Rattle.std.proofs.Common.{◌≡◌, ℕ, zero, suc, ◌+◌, ◌-◌, ◌<◌, ◌∷◌, [], List, length, replicate, slice_get, slice_set, Option, Some, None, refl, sym, ap, subst, ◌∙◌, arith, inl, inr}
use Rattle.std.proofs.lemmas.Bool.{cases_eq}
use Rattle.std.proofs.lemmas.Option.{same_Some, slice_get_within}
use Rattle.no_ir.specs.declared.types.Ty.{Ty}
use Rattle.no_ir.specs.declared.function.Function.{Function}
use Rattle.no_layout.specs.Memory.{stack_end}
use Rattle.no_semantics.specs.Calls.{call_room, entry_frame, passed, unassigned}
use Rattle.no_semantics.specs.Registers.{Registers, given}
use Rattle.no_semantics.specs.Starts.{begun, main_frame, main_number, start, zeros_for}
use Rattle.no_semantics.specs.States.{Frame, State, function_at, put}
use Rattle.no_semantics.specs.Values.{Program}
use Rattle.no_code.specs.Coded.{block_size}
use Rattle.no_code.specs.Slots.{first_constant}
use Rattle.no_code.specs.Whole.{HasHome, IsCode}
use Rattle.no_code.specs.declared.code.Code.{Code}
use Rattle.no_code.specs.declared.code.Home.{Home}
use Rattle.no_machine.specs.Standing.{Stands, source_of}
use Rattle.no_machine.specs.declared.frame.Saved.{Saved}
use Rattle.no_machine.proofs.Invoking.{none_there, total_zero, unassigned_length}
use Rattle.no_machine.proofs.Lists.{set_elsewhere, set_length, set_there}

put_zeros : (registers : Registers) (q : ℕ) → ((r n : ℕ) → slice_get registers r ≡ Some (Some n) → n ≡ 0) → (r n : ℕ) → slice_get (slice_set registers q (Some 0)) r ≡ Some (Some n) → n ≡ 0
put_zeros registers q zeros r n e = elim (cases_eq q r) [
  | inl same ↦ (
      let inside : q < length registers = omega (arith, same, slice_get_within (slice_set registers q (Some 0)) r (Some n) e, set_length registers q (Some 0)) in
      let there : Some (Some 0) ≡ Some (Some n) = sym (set_there registers q (Some 0) inside) ∙ ap (slice_get (slice_set registers q (Some 0))) same ∙ e in
      sym (same_Some 0 n (same_Some (Some 0) (Some n) there))
      )
  | inr other ↦ zeros r n (sym (set_elsewhere registers q r (Some 0) other) ∙ e)
]

passed_zeros : (qs : List (ℕ × Ty)) (registers to : Registers) → passed qs (zeros_for qs) registers ≡ Some to → ((r n : ℕ) → slice_get registers r ≡ Some (Some n) → n ≡ 0) → ((r n : ℕ) → slice_get to r ≡ Some (Some n) → n ≡ 0) × (length to ≡ length registers)
passed_zeros [] registers to e zeros = let same = same_Some registers to e in ((λ r n is. zeros r n (ap (λ (l : Registers). slice_get l r) same ∙ is)), ap length (sym same))
passed_zeros (q ∷ qs) registers to e zeros =
    let rest = passed_zeros qs (put q.0 0 registers) to e (put_zeros registers q.0 zeros) in
    (rest.0, rest.1 ∙ set_length registers q.0 (Some 0))

zero_at : (k r : ℕ) → r < k → slice_get {X = ℕ} (replicate k 0) r ≡ Some 0
zero_at zero r lt = absurd (omega arith)
zero_at (suc k) zero lt = refl
zero_at (suc k) (suc r) lt = zero_at k r (omega arith)

zero_length : (k : ℕ) → length {A = ℕ} (replicate k 0) ≡ k
zero_length zero = refl
zero_length (suc k) = ap suc (zero_length k)

some_of : {A B : Type 0} (o : Option A) (f : A → Option B) (n : B) → given None o f ≡ Some n → (x : A) × (o ≡ Some x) × (f x ≡ Some n)
some_of None f n e = absurd cc
some_of (Some x) f n e = (x, refl, e)

pub start_known : (p : Program) (byte : ℕ → ℕ) (input : List ℕ) (s : State) → start p byte input ≡ Some s → (f : Frame) × (main_frame p ≡ Some f) × (begun byte input f ≡ s)
unfolding start
start_known p byte input s e = let one = some_of (main_frame p) (λ f. Some (begun byte input f)) s e in (one.0, one.1, same_Some (begun byte input one.0) s one.2)

pub begins : (p : Program) (code : Code) (is : IsCode (source_of p) code) (k : ℕ) (home : Home) (at sp : ℕ) (slots : List ℕ) (frames : List Saved) → slice_get code.homes k ≡ Some home → home.registers < first_constant → at ≡ home.start → sp ≡ stack_end - call_room
    → slots ≡ replicate (home.registers + 1) 0 → frames ≡ [] → main_number p ≡ Some k → (byte : ℕ → ℕ) (input : List ℕ) (s : State) → start p byte input ≡ Some s → Stands p at 0 sp slots frames s
begins p code is k home at sp slots frames home_is few at_is sp_is slots_is none main byte input s e =
    let first = start_known p byte input s e in
    let number = some_of (main_number p) (λ j. given None (function_at p j) (λ g. entry_frame j g (zeros_for g.params) stack_end)) first.0 first.1 in
    let same : number.0 ≡ k = same_Some number.0 k (sym number.1 ∙ main) in
    let function = some_of (function_at p number.0) (λ g. entry_frame number.0 g (zeros_for g.params) stack_end) first.0 number.2 in
    let g : Function = function.0 in
    let entry = some_of (passed g.params (zeros_for g.params) (unassigned g)) (λ registers. Some (record { function = number.0; block = 0; at = 0; registers = registers; saved = stack_end })) first.0 function.2 in
    let frame : record { function = number.0; block = 0; at = 0; registers = entry.0; saved = stack_end } ≡ first.0 = same_Some (record { function = number.0; block = 0; at = 0; registers = entry.0; saved = stack_end }) first.0 entry.2 in
    let has : HasHome code number.0 g (Rattle.no_code.specs.Coded.first_cell p.«module».functions number.0) = (is.functions number.0 g function.1).home in
    let home_same : has.home ≡ home = same_Some has.home home (sym has.is ∙ ap (slice_get code.homes) same ∙ home_is) in
    let registers : home.registers ≡ length g.registers = ap (λ (h : Home). h.registers) (sym home_same) ∙ has.registers in
    let zeros = passed_zeros g.params (unassigned g) entry.0 entry.1 (λ r n x. absurd (none_there (length g.registers) r n x)) in
    let long : length entry.0 ≡ length g.registers = zeros.1 ∙ unassigned_length g in
    let room : length slots ≡ home.registers + 1 = ap length slots_is ∙ zero_length (home.registers + 1) in
    let start_at : home.start ≡ Rattle.no_code.specs.Coded.first_cell p.«module».functions number.0 = ap (λ (h : Home). h.start) (sym home_same) ∙ has.starts in
    subst (λ (x : State). Stands p at 0 sp slots frames x) (ap (begun byte input) frame ∙ first.2) (record {
      inside = omega arith;
      frame = record {
        function = g;
        is = function.1;
        long = long;
        place = omega (arith, at_is, start_at, total_zero block_size g.blocks);
        covers = record {
          few = omega (arith, few, registers, long);
          room = omega (arith, room, registers, long);
          each = λ r n x.
              let inside : r < home.registers + 1 = omega (arith, slice_get_within entry.0 r (Some n) x, registers, long) in
              ap (λ (l : List ℕ). slice_get l r) slots_is ∙ zero_at (home.registers + 1) r inside ∙ ap Some (sym (zeros.0 r n x));
        };
      };
      callers = none;
      sp_is = sym sp_is;
    })
