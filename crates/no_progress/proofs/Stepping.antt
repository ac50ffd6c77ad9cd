-- Instructions that leave a state one of its program: values, memory, branches, returns and entries.
use Rattle.std.proofs.Common.{◌≡◌, ℕ, ◌^◌, ◌<◌, ◌==◌, Bool, true, false, Option, Some, None, if◌then◌else◌, List, [], ◌∷◌, length, slice_get, Contains, refl, sym, ap, ◌∙◌, subst}
use Rattle.std.proofs.lemmas.Option.{same_Some, none-some}
use Rattle.no_ir.specs.declared.ending.Trap.{Trap}
use Rattle.no_ir.specs.declared.instruction.Instr.{Instr}
use Rattle.no_ir.specs.declared.function.Block.{Block}
use Rattle.no_ir.specs.declared.function.Function.{Function}
use Rattle.no_module.specs.Instructions.{is_terminator}
use Rattle.no_heap.specs.declared.block.Block as heap'
use Rattle.no_heap.specs.Blocks.{AreLive}
use Rattle.no_verify_paths.specs.Paths.{phi_uses_in, phi_uses_at, code_in, code_of}
use Rattle.no_semantics.specs.Registers.{given}
use Rattle.no_semantics.specs.Results.{Valued, Number, Traps, NoValue}
use Rattle.no_semantics.specs.Rows.{Row, stuck, computed}
use Rattle.no_semantics.specs.States.{Frame, State, function_at, instr_at, moved, assigned as given_result, answered}
use Rattle.no_semantics.specs.Control.{phi_count, put_all, landed, at_block, from_block, branched, arrived, go, case_label}
use Rattle.no_semantics.specs.Access.{allocated, fetched, stored}
use Rattle.no_semantics.specs.Calls.{returned_in, returned}
use Rattle.no_semantics.specs.Values.{Program}
use Rattle.no_progress.specs.Proper.{Each, Gives, Idle, bits, Answers, IsTarget, IsProper, IsSafe}
use Rattle.no_progress.specs.Valid.{IsOnStack, IsFrameOf, IsCallerOf, AreCallers, IsStateOf, Fine}
use Rattle.no_progress.proofs.Values.{Good, IsPlace, stack_small}
use Rattle.no_progress.proofs.Frames.{instr_found, put_all_long, put_all_kept, put_all_new, Landing, land, PhisHeld, fine, assigning, passing, whole, at_begin}

-- what a call waits for, and what is given to it
abbrev pub ValueFits : Option ℕ → Option ℕ → Type 0
ValueFits None None = Unit {0}
ValueFits (Some w) (Some n) = n < 2 ^ w
ValueFits _ _ = ⊥

module _ (p : Program) (safe : IsSafe p) where
  -- a state of parts that fit
  pub state_of : (f : Frame) (g : Function) (cs : List Frame) (sp : ℕ) (byte : ℕ → ℕ) (heap : List heap'.Block) (input : List ℕ) → function_at p f.function ≡ Some g → IsFrameOf p safe f → AreCallers p safe (bits p g.result) cs
      → IsOnStack sp → AreLive heap → Each (λ (b : ℕ). b < 256) input → IsStateOf p safe (record { frame = f; callers = cs; sp = sp; byte = byte; heap = heap; input = input })
  state_of f g cs sp byte heap input is of callers on live bytes =
      let same : g ≡ of.function = same_Some g of.function (sym is ∙ of.function_is) in
      record { frame = of; callers = subst (λ (h : Function). AreCallers p safe (bits p h.result) cs) same callers; sp = on; heap = live; input = bytes }

  -- ---- a call that gets what it waits for

  -- the caller behind its call
  pub record Answered (c : Frame) (into value : Option ℕ) : Type 0 where
    pub frame : Frame
    pub is : answered into value c ≡ Some frame
    pub same : frame.function ≡ c.function
    pub of : IsFrameOf p safe frame

  idle_none : (width : ℕ → Option ℕ) (into : Option ℕ) → into ≡ None → Idle width into
  idle_none width into e r is = absurd (none-some r (sym e ∙ is))

  pub answer : (c : Frame) (st : IsFrameOf p safe c) → is_terminator st.instr.op ≡ false → (into : Option ℕ) → st.instr.result ≡ into → (given' value : Option ℕ) → ValueFits given' value
      → Answers (length st.function.registers) (fine p safe c st).width into given' → Answered c into value
  answer c st goes None e given' value fits answers = record { frame = moved c; is = refl; same = refl; of = passing p safe c st goes (idle_none (fine p safe c st).width st.instr.result e) }
  answer c st goes (Some r) e (Some w) (Some n) fits answers = record {
    frame = given_result (Some r) n c;
    is = refl;
    same = refl;
    of = subst (λ (x : Option ℕ). IsFrameOf p safe (given_result x n c)) e (assigning p safe c st goes w n (subst (λ (x : Option ℕ). Gives (length st.function.registers) (fine p safe c st).width x w) (sym e) answers) fits);
  }
  answer c st goes (Some r) e None None fits answers = record { frame = moved c; is = refl; same = refl; of = passing p safe c st goes (subst (λ (x : Option ℕ). Idle (fine p safe c st).width x) (sym e) answers) }
  answer c st goes (Some r) e (Some w) None fits answers = absurd fits
  answer c st goes (Some r) e None (Some n) fits answers = absurd fits

  module _ (s : State) (is : IsStateOf p safe s) where
    -- the same callers, heap and input, and another frame of the same function
    pub stays : (f : Frame) → f.function ≡ s.frame.function → IsFrameOf p safe f → (sp : ℕ) → IsOnStack sp → (byte : ℕ → ℕ) → (heap : List heap'.Block) → AreLive heap → (input : List ℕ) → Each (λ (b : ℕ). b < 256) input
        → IsStateOf p safe (record { frame = f; callers = s.callers; sp = sp; byte = byte; heap = heap; input = input })
    stays f same of sp on byte heap live input bytes = state_of f is.frame.function s.callers sp byte heap input (ap (function_at p) same ∙ is.frame.function_is) of is.callers on live bytes

    pub computes : (v : Valued) (w : ℕ) → is_terminator is.frame.instr.op ≡ false → Gives (length is.frame.function.registers) (fine p safe s.frame is.frame).width is.frame.instr.result w → Good w v → Fine p safe (computed is.frame.instr.result v s).next
    computes (Number n) w goes gives good = stays (given_result is.frame.instr.result n s.frame) refl (assigning p safe s.frame is.frame goes w n gives good) s.sp is.sp s.byte s.heap is.heap s.input is.input
    computes (Traps t) w goes gives good = tt
    computes NoValue w goes gives good = absurd good

    pub allocates : (v : Valued) → is_terminator is.frame.instr.op ≡ false → Gives (length is.frame.function.registers) (fine p safe s.frame is.frame).width is.frame.instr.result p.layout.pointer → IsPlace v → Fine p safe (allocated is.frame.instr.result v s).next
    allocates (Number n) goes gives good = stays (given_result is.frame.instr.result n s.frame) refl (assigning p safe s.frame is.frame goes p.layout.pointer n gives (stack_small p.layout.pointer n safe.pointer good)) n good s.byte s.heap is.heap s.input is.input
    allocates (Traps t) goes gives good = tt
    allocates NoValue goes gives good = absurd good

    pub fetches : (v : Valued) (w at size : ℕ) → is_terminator is.frame.instr.op ≡ false → Gives (length is.frame.function.registers) (fine p safe s.frame is.frame).width is.frame.instr.result w → Good w v → Fine p safe (fetched is.frame.instr.result v at size s).next
    fetches (Number n) w at size goes gives good = computes (Number n) w goes gives good
    fetches (Traps t) w at size goes gives good = tt
    fetches NoValue w at size goes gives good = absurd good

    pub stores : (at size n : ℕ) (o : Option Trap) → is_terminator is.frame.instr.op ≡ false → Idle (fine p safe s.frame is.frame).width is.frame.instr.result → Fine p safe (stored p at size n s o).next
    stores at size n (Some t) goes idle = tt
    stores at size n None goes idle = stays (moved s.frame) refl (passing p safe s.frame is.frame goes idle) s.sp is.sp _ s.heap is.heap s.input is.input

    -- what is read makes a row
    pub reads_fine : (o : Option ℕ) (make : ℕ → Row) (n : ℕ) → o ≡ Some n → Fine p safe (make n).next → Fine p safe (given stuck o make).next
    reads_fine o make n e h = subst (λ (x : Option ℕ). Fine p safe (given stuck x make).next) (sym e) h

    -- ---- branches

    pub lands : is_terminator is.frame.instr.op ≡ true → (l : ℕ) → IsTarget p is.frame.function (fine p safe s.frame is.frame).width s.frame.block l → Fine p safe (go p s l).next
    unfolding branched phi_uses_at code_of
    lands ends l t =
        let good : IsProper p is.frame.function = fine p safe s.frame is.frame in
        let count : ℕ = length is.frame.function.registers in
        let phis_held : PhisHeld good.width s.frame.registers t.from.label t.block.instrs = λ k i e r c.
        whole p safe s.frame is.frame ends r ((good.paths t.to k).end is.frame.before r t.from.label s.frame.block
        (subst (λ (o : Option Instr). Contains {X = ℕ × ℕ} (phi_uses_in o) (r, t.from.label)) (sym (ap (λ (o : Option Block). slice_get (code_in o) k) t.block_is ∙ e)) c) t.home is.frame.path) in
        let landing : Landing p count good.width s.frame.registers t.from.label t.block.instrs = land p count good.width s.frame.registers t.from.label t.block.instrs t.phis phis_held in
        let f : Frame = record s.frame { block = t.to; at = phi_count t.block.instrs; registers = put_all landing.moves s.frame.registers } in
        let found_it : branched p s.frame l ≡ Some f =
        ap (λ (o : Option Function). given None o (λ g. from_block p s.frame g l (slice_get g.blocks s.frame.block))) is.frame.function_is
        ∙ ap (from_block p s.frame is.frame.function l) t.from_is
        ∙ ap (at_block p s.frame t.from.label is.frame.function) t.to_is
        ∙ ap (λ (o : Option Block). given None o (landed p s.frame t.from.label t.to)) t.block_is
        ∙ ap (λ o. given None o (λ moves. Some (record s.frame { block = t.to; at = phi_count t.block.instrs; registers = put_all moves s.frame.registers }))) landing.are in
        let of : IsFrameOf p safe f = at_begin p safe s.frame.function is.frame.function t.to s.frame.saved t.block (put_all landing.moves s.frame.registers) (s.frame.block ∷ is.frame.before) is.frame.function_is is.frame.is_defined t.block_is
        (t.follows, is.frame.path) is.frame.saved (put_all_long landing.moves s.frame.registers ∙ is.frame.long)
        (λ r h. put_all_kept count good.width landing.moves s.frame.registers r landing.fit (whole p safe s.frame is.frame ends r h))
        (λ r h. put_all_new count good.width landing.moves s.frame.registers r (sym is.frame.long) landing.fit (landing.assign r ∙ h)) in
        subst (λ (o : Option Frame). Fine p safe (arrived s o).next) (sym found_it) (stays f refl of s.sp is.sp s.byte s.heap is.heap s.input is.input)

    pub chooses : is_terminator is.frame.instr.op ≡ true → (b : Bool) (l k : ℕ) → IsTarget p is.frame.function (fine p safe s.frame is.frame).width s.frame.block l → IsTarget p is.frame.function (fine p safe s.frame is.frame).width s.frame.block k
        → Fine p safe (go p s (if b then l else k)).next
    chooses ends true l k t u = lands ends l t
    chooses ends false l k t u = lands ends k u

    pub switches : is_terminator is.frame.instr.op ≡ true → (x l : ℕ) (cs : List (ℕ × ℕ)) → IsTarget p is.frame.function (fine p safe s.frame is.frame).width s.frame.block l
        → Each (λ (c : ℕ × ℕ). IsTarget p is.frame.function (fine p safe s.frame is.frame).width s.frame.block c.1) cs → Fine p safe (go p s (case_label x l cs)).next
    switches ends x l [] t ts = lands ends l t
    switches ends x l (c ∷ more) t ts = by_case (c.0 == x) (switches ends x l more t ts.1)
      where
        by_case : (b : Bool) → Fine p safe (go p s (case_label x l more)).next → Fine p safe (go p s (if b then c.1 else case_label x l more)).next
        by_case true rest = lands ends c.1 ts.0
        by_case false rest = rest

    -- ---- returns

    pub returns : (value : Option ℕ) (cs : List Frame) → AreCallers p safe (bits p is.frame.function.result) cs → ValueFits (bits p is.frame.function.result) value → Fine p safe (returned p value cs s).next
    returns value [] callers fits = tt
    returns value (c ∷ cs) callers fits =
        let w : IsCallerOf p safe (bits p is.frame.function.result) c = callers.0 in
        let goes : is_terminator w.stands.instr.op ≡ false = ap is_terminator w.is_call in
        let a : Answered c w.stands.instr.result value = answer c w.stands goes w.stands.instr.result refl (bits p is.frame.function.result) value fits w.answers in
        let found_it : given None (instr_at p c) (λ (i : Instr). answered i.result value c) ≡ Some a.frame =
        ap (λ (o : Option Instr). given None o (λ (i : Instr). answered i.result value c)) (instr_found p c w.stands.function w.stands.function_is ∙ w.stands.instr_is) ∙ a.is in
        subst (λ (o : Option Frame). Fine p safe (returned_in s cs o).next) (sym found_it)
        (state_of a.frame w.stands.function cs s.frame.saved s.byte s.heap s.input (ap (function_at p) a.same ∙ w.stands.function_is) a.of callers.1 is.frame.saved is.heap is.input)
