-- Runs of safe programs without inserted instructions finish within any budget.
use Rattle.std.proofs.Common.{◌≡◌, ℕ, zero, suc, ◌-◌, ◌<◌, ◌≤◌, not, Bool, true, false, true≢false, Option, Some, None, option_map, List, [], ◌∷◌, slice_get, refl, sym, ap, ◌∙◌, subst, arith}
use Rattle.std.specs.List.{list_all}
use Rattle.std.proofs.lemmas.Option.{same_Some, none-some}
use Rattle.no_ir.specs.declared.instruction.Op.{Op}
use Rattle.no_ir.specs.declared.instruction.Op.TheVariants as op
use Rattle.no_ir.specs.declared.instruction.Instr.{Instr}
use Rattle.no_ir.specs.declared.function.Block.{Block}
use Rattle.no_ir.specs.declared.function.Function.{Function}
use Rattle.no_module.specs.Marks.{instr_unmarked, block_unmarked, no_address, function_unmarked, is_unmarked}
use Rattle.no_verify_paths.specs.Paths.{code_in, code_of}
use Rattle.no_semantics.specs.Acting.{step}
use Rattle.no_semantics.specs.Rows.{Next, Calling, Goes, Leaves, Ends, Stuck}
use Rattle.no_semantics.specs.Runs.{Finish, Returned, Ended, Whole, finished, resumed, whole_by, within, Runs, IsFrom}
use Rattle.no_semantics.specs.States.{State, function_at, instr_at}
use Rattle.no_semantics.specs.Values.{Program}
use Rattle.no_progress.specs.Begin.{IsEntry}
use Rattle.no_progress.specs.Proper.{bits, OpFits, IsProper, IsSafe}
use Rattle.no_progress.specs.Valid.{IsStateOf, Fine}
use Rattle.no_progress.proofs.Frames.{fine, instr_found}
use Rattle.no_progress.proofs.Entering.{and_parts}
use Rattle.no_progress.proofs.Acts.{step_fine}
use Rattle.no_progress.proofs.Beginning.{enters}
use Rattle.no_progress.proofs.Steady.{outer_of, outer, LeavesBy, KeepsWithin, step_steady}

-- what a run returns is a number where the outermost function gives one
abbrev pub Answered : Program → ℕ → Finish → Type 0
Answered p k (Returned None) = (g : Function) → function_at p k ≡ Some g → bits p g.result ≡ None
Answered p k (Returned (Some n)) = Unit {0}
Answered p k (Ended end) = Unit {0}

-- ---- no instruction is inserted

every : {A : Type 0} (keeps : A → Bool) (xs : List A) (j : ℕ) (x : A) → list_all keeps xs ≡ true → slice_get xs j ≡ Some x → keeps x ≡ true
every keeps [] j x e at = absurd (none-some x at)
every {A} keeps (y ∷ ys) zero x e at = subst (λ (z : A). keeps z ≡ true) (same_Some y x at) (and_parts (keeps y) (list_all keeps ys) e).0
every keeps (y ∷ ys) (suc j) x e at = every keeps ys j x (and_parts (keeps y) (list_all keeps ys) e).1 at

not_true : (b : Bool) → not b ≡ true → b ≡ false
not_true true e = absurd (true≢false (sym e))
not_true false e = refl

not_inserted : (p : Program) → is_unmarked p.«module» ≡ true → (k : ℕ) (g : Function) → function_at p k ≡ Some g → (b n : ℕ) (i : Instr) → slice_get (code_of g b) n ≡ Some i → i.inserted ≡ false
unfolding code_of
not_inserted p none k g is b n i at = by (slice_get g.blocks b) refl at
  where
    blocks : list_all block_unmarked g.blocks ≡ true
    blocks = (and_parts (no_address g.device_address) (list_all block_unmarked g.blocks) (every function_unmarked p.«module».functions k g none is)).1

    by : (o : Option Block) → slice_get g.blocks b ≡ o → slice_get (code_in o) n ≡ Some i → i.inserted ≡ false
    by None is at = absurd (none-some i at)
    by (Some block) is at = not_true i.inserted (every instr_unmarked block.instrs n i (every block_unmarked g.blocks b block blocks is) at)

-- ---- runs

module _ (p : Program) (safe : IsSafe p) where
  -- the instruction that returns gives what its function gives
  leaves_answered : (g : Function) (width : ℕ → Option ℕ) (b k : ℕ) (into : Option ℕ) (s : State) (o : Op) (value : Option ℕ) → OpFits p g width b into o → function_at p k ≡ Some g → LeavesBy s o value
      → Answered p k (Returned value)
  leaves_answered g width b k into s (op.Ret None) None fits is leaves = λ h at. ap (λ (f : Function). bits p f.result) (same_Some h g (sym at ∙ is)) ∙ fits
  leaves_answered g width b k into s (op.Ret None) (Some n) fits is leaves = tt
  leaves_answered g width b k into s (op.Ret (Some x)) value fits is leaves = subst (λ (v : Option ℕ). Answered p k (Returned v)) (sym leaves.2) tt
  leaves_answered g width b k into s _ value fits is leaves = absurd leaves

  outermost : (s : State) (o : Op) (value : Option ℕ) → LeavesBy s o value → outer s ≡ s.frame.function
  outermost s (op.Ret None) value leaves = ap (outer_of s.frame) leaves
  outermost s (op.Ret (Some x)) value leaves = ap (outer_of s.frame) leaves.0
  outermost s _ value leaves = absurd leaves

  module _ (none : is_unmarked p.«module» ≡ true) where
    next_whole : (n left cost : ℕ) (s : State) (leaves : Option ℕ → Type 0) (x : Next) → Fine p safe x → KeepsWithin left s leaves cost x
        → ((value : Option ℕ) → leaves value → Answered p (outer s) (Returned value))
        → ((t : State) → IsStateOf p safe t → 0 < cost → cost ≤ left → (w : Whole) × (within p n (left - cost) t ≡ Some w) × Answered p (outer t) w.finish)
        → (w : Whole) × (whole_by cost x s (within p n (left - cost)) ≡ Some w) × Answered p (outer s) w.finish
    next_whole n left cost s leaves (Goes bytes call t) f keeps answers rest =
        let r = rest t f keeps.0 keeps.1 in
        (resumed bytes cost r.0, ap (option_map (resumed bytes cost)) r.1, subst (λ (k : ℕ). Answered p k r.0.finish) keeps.2 r.2)
    next_whole n left cost s leaves (Leaves value) f keeps answers rest = (finished cost (Returned value) s, refl, answers value keeps)
    next_whole n left cost s leaves (Ends end) f keeps answers rest = (finished cost (Ended end) s, refl, tt)
    next_whole n left cost s leaves Stuck f keeps answers rest = absurd f

    whole : (n left : ℕ) (s : State) → left < n → IsStateOf p safe s → (w : Whole) × (within p n left s ≡ Some w) × Answered p (outer s) w.finish
    whole zero left s lt is = absurd (omega (arith, lt))
    whole (suc n) left s lt is =
        let g : Function = is.frame.function in
        let good : IsProper p g = fine p safe s.frame is.frame in
        let at : instr_at p s.frame ≡ Some is.frame.instr = instr_found p s.frame g is.frame.function_is ∙ is.frame.instr_is in
        let own = not_inserted p none s.frame.function g is.frame.function_is s.frame.block s.frame.at is.frame.instr is.frame.instr_is in
        next_whole n left (step p left s).cost s (LeavesBy s is.frame.instr.op) (step p left s).next (step_fine p safe s is left) (step_steady p left s is.frame.instr at own)
        (λ value leaves. subst (λ (k : ℕ). Answered p k (Returned value)) (sym (outermost s is.frame.instr.op value leaves))
        (leaves_answered g good.width s.frame.block s.frame.function is.frame.instr.result s is.frame.instr.op value (good.fits s.frame.block s.frame.at is.frame.instr is.frame.instr_is) is.frame.function_is leaves))
        (λ t there some few. whole n (left - (step p left s).cost) t (omega (arith, lt, some, few)) there)

    -- the run within what is left, which returns what its outermost function gives
    pub finishes : (left : ℕ) (s : State) → IsStateOf p safe s → (w : Whole) × Runs p left s w × Answered p (outer s) w.finish
    finishes left s is = let w = whole (suc left) left s (omega arith) is in (w.0, (suc left, w.1), w.2)

    -- a step that goes on costs something, and no more than is left
    step_costs : (cost left : ℕ) (s t : State) (leaves : Option ℕ → Type 0) (x : Next) (bytes : List ℕ) (call : Option Calling) → KeepsWithin left s leaves cost x → x ≡ Goes bytes call t → (0 < cost) × (cost ≤ left)
    step_costs cost left s t leaves x bytes call keeps e = let k = subst (KeepsWithin left s leaves cost) e keeps in (k.0, k.1)

    pub costs : (left : ℕ) (s t : State) (bytes : List ℕ) (call : Option Calling) → IsStateOf p safe s → (step p left s).next ≡ Goes bytes call t → (0 < (step p left s).cost) × ((step p left s).cost ≤ left)
    costs left s t bytes call is e =
        let at : instr_at p s.frame ≡ Some is.frame.instr = instr_found p s.frame is.frame.function is.frame.function_is ∙ is.frame.instr_is in
        let own = not_inserted p none s.frame.function is.frame.function is.frame.function_is s.frame.block s.frame.at is.frame.instr is.frame.instr_is in
        step_costs (step p left s).cost left s t (LeavesBy s is.frame.instr.op) (step p left s).next bytes call (step_steady p left s is.frame.instr at own) e

    pub entered_finishes : (k : ℕ) (arguments : List ℕ) → IsEntry p k arguments → (left : ℕ) (s : State) → IsStateOf p safe s → (w : Whole) × IsFrom p s k arguments left w
    entered_finishes k arguments x left s is =
        let t = enters p safe k arguments x s is in
        let w = finishes left t.0 t.2 in
        (w.0, record { begin = t.0; begins = t.1; runs = w.1 })
