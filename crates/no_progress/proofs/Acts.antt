-- No step from a state of a program is stuck, and each leads to a state of it.
use Rattle.std.proofs.Common.{◌≡◌, ◌≢◌, ℕ, zero, suc, ◌==◌, nat_lt, Bool, true, false, true≢false, Option, Some, None, option_map, if◌then◌else◌, List, [], ◌∷◌, flat_map, map, refl, sym, ap, ◌∙◌, subst}
use Rattle.std.proofs.lemmas.Option.{same_Some}
use Rattle.no_ir.specs.declared.types.Ty.{Ty}
use Rattle.no_ir.specs.declared.instruction.Operand.{Operand}
use Rattle.no_ir.specs.declared.instruction.Op.{Op}
use Rattle.no_ir.specs.declared.instruction.Op.TheVariants as op
use Rattle.no_ir.specs.declared.instruction.Instr.{Instr}
use Rattle.no_layout.specs.Memory.{refusal}
use Rattle.no_module.specs.Instructions.{argument_operands, count_operands, index_operands, is_phi, is_terminator, value_operands}
use Rattle.no_verify_paths.specs.Paths.{registers_of, uses}
use Rattle.no_semantics.specs.Registers.{Registers, given, with_front, all_given, operand, operand_of, pointer_of, index_of, argument_of}
use Rattle.no_semantics.specs.Results.{binary_value, compare_value, cast_value, freeze_value, select_value, gep_value, count_of, alloca_value, load_value, bytes_of_type}
use Rattle.no_semantics.specs.Rows.{Row, Next, Calling, Goes, Stuck, stuck, charged, unfinished}
use Rattle.no_semantics.specs.States.{State}
use Rattle.no_semantics.specs.Access.{row_alloca, fetched, row_load, stored, row_store}
use Rattle.no_semantics.specs.Control.{go, case_label, row_br, row_cond_br, row_switch}
use Rattle.no_semantics.specs.Calls.{arguments_of, callee_value, row_call, row_return, row_ret}
use Rattle.no_semantics.specs.Acting.{row_of_op, row_of_instr, row, step}
use Rattle.no_semantics.specs.Steps.{Reached, Steps, here, after}
use Rattle.no_semantics.specs.Values.{Program, width_of, extended}
use Rattle.no_semantics.proofs.Running.{first_of, IsFirst}
use Rattle.no_progress.specs.Proper.{Each, bits, CountFits, ReturnFits, OpFits, IsSafe}
use Rattle.no_progress.specs.Valid.{IsStateOf, Fine}
use Rattle.no_progress.proofs.Reading.{AreHeld, Has, has, held_left, held_right, each_has, each_of_uses}
use Rattle.no_progress.proofs.Values.{binary_good, compare_good, cast_good, freeze_good, select_good, gep_good, load_good, alloca_place}
use Rattle.no_progress.proofs.Frames.{fine, used, instr_found}
use Rattle.no_progress.proofs.Stepping.{ValueFits, computes, allocates, fetches, stores, reads_fine, lands, chooses, switches, returns}
use Rattle.no_progress.proofs.Calling.{callee_good, call_fine}

module _ (p : Program) (safe : IsSafe p) where
  -- indices are numbers where their operands are
  indices_given : (rs : Registers) (indices : List (ℕ × Operand)) → Each (λ (i : ℕ × Operand). Has p rs i.0 i.1) indices → (ns : List ℕ) × (all_given (map (index_of p rs) indices) ≡ Some ns)
  indices_given rs [] h = ([], refl)
  indices_given rs (i ∷ more) h =
      let rest = indices_given rs more h.1 in (
        extended i.0 p.layout.pointer h.0.0 ∷ rest.0,
        ap (λ (o : Option ℕ). with_front (option_map (extended i.0 p.layout.pointer) o) (all_given (map (index_of p rs) more))) h.0.1
            ∙ ap (with_front (Some (extended i.0 p.layout.pointer h.0.0))) rest.1,
      )

  module _ (s : State) (is : IsStateOf p safe s) where
    abbrev width : ℕ → Option ℕ
    width = (fine p safe s.frame is.frame).width

    abbrev rs : Registers
    rs = s.frame.registers

    -- the registers that operands name are held
    abbrev AreRead : List Operand → Type 0
    AreRead os = AreHeld width rs (flat_map registers_of os)

    -- those of the first operand, and those of the operands after it
    first_read : (o : Operand) (more : List Operand) → AreRead (o ∷ more) → AreHeld width rs (registers_of o)
    first_read o more h = held_left width rs (registers_of o) (flat_map registers_of more) h

    others_read : (o : Operand) (more : List Operand) → AreRead (o ∷ more) → AreRead more
    others_read o more h = held_right width rs (registers_of o) (flat_map registers_of more) h

    second_read : (a b : Operand) → AreRead (a ∷ b ∷ []) → AreHeld width rs (registers_of b)
    second_read a b h = first_read b [] (others_read a (b ∷ []) h)

    count_has : (count : Option (ℕ × Operand)) → CountFits p width count → AreRead (count_operands count) → (n : ℕ) × (count_of p rs count ≡ Some n)
    count_has None fits h = (1, refl)
    count_has (Some count) fits h = let n : Has p rs count.0 count.1 = has p width rs count.0 count.1 fits (first_read count.1 [] h) in (n.0, n.1)

    returning : (result : Ty) (value : Option (Ty × Operand)) → result ≡ is.frame.function.result → ReturnFits p width result value → AreRead (value_operands value) → Fine p safe (row_ret p value s).next
    unfolding row_ret
    returning result None same fits h = returns p safe s is None s.callers is.callers (subst (λ (t : Ty). ValueFits (bits p t) None) same (subst (λ (o : Option ℕ). ValueFits o None) (sym fits) tt))
    returning result (Some x) same fits h =
        let n : Has p rs (width_of p.layout x.0) x.1 = has p width rs (width_of p.layout x.0) x.1 fits.1 (first_read x.1 [] h) in
        reads_fine p safe s is (argument_of p rs x) (λ n. row_return p (Some n) s) n.0 n.1
        (returns p safe s is (Some n.0) s.callers is.callers (subst (λ (t : Ty). ValueFits (bits p t) (Some n.0)) same (subst (λ (o : Option ℕ). ValueFits o (Some n.0)) (sym fits.0) n.2)))

    -- one line for each instruction
    acts : (o : Op) → is.frame.instr.op ≡ o → OpFits p is.frame.function width s.frame.block is.frame.instr.result o → AreHeld width rs (uses o) → is_phi o ≡ false
        → Fine p safe (row_of_op p is.frame.instr.result o s).next
    unfolding uses row_alloca row_load row_store row_call row_br row_cond_br row_switch arguments_of
    acts (op.Binary o w a b) at fits h plain = computes p safe s is (binary_value p rs o w a b) w (ap is_terminator at) fits.2
        (binary_good p rs o w a b (has p width rs w a fits.0 (first_read a (b ∷ []) h)) (has p width rs w b fits.1 (second_read a b h)))
    acts (op.Compare o t a b) at fits h plain = computes p safe s is (compare_value p rs o t a b) 1 (ap is_terminator at) fits.2
        (compare_good p rs o t a b (has p width rs (width_of p.layout t) a fits.0 (first_read a (b ∷ []) h)) (has p width rs (width_of p.layout t) b fits.1 (second_read a b h)))
    acts (op.Cast o t a u) at fits h plain = computes p safe s is (cast_value p rs o t a u) (width_of p.layout u) (ap is_terminator at) fits.2
        (cast_good p rs o t a u (has p width rs (width_of p.layout t) a fits.0 (first_read a [] h)) fits.1)
    acts (op.Freeze t a) at fits h plain = computes p safe s is (freeze_value p rs t a) (width_of p.layout t) (ap is_terminator at) fits.1
        (freeze_good p rs t a (has p width rs (width_of p.layout t) a fits.0 (first_read a [] h)))
    acts (op.Select c t a b) at fits h plain = computes p safe s is (select_value p rs c t a b) (width_of p.layout t) (ap is_terminator at) fits.3
        (select_good p rs c t a b (has p width rs 1 c fits.0 (first_read c (a ∷ b ∷ []) h))
        (has p width rs (width_of p.layout t) a fits.1 (first_read a (b ∷ []) (others_read c (a ∷ b ∷ []) h)))
        (has p width rs (width_of p.layout t) b fits.2 (second_read a b (others_read c (a ∷ b ∷ []) h))))
    acts (op.Phi t pairs) at fits h plain = absurd (true≢false plain)
    acts (op.Alloca t count align) at fits h plain =
        let n = count_has count fits.0 h in
        allocates p safe s is (alloca_value p rs s.sp t count align) (ap is_terminator at) fits.1 (alloca_place p rs s.sp t count align n.0 is.sp.1 n.1)
    acts (op.Load volatile t a) at fits h plain =
        let x : Has p rs p.layout.pointer a = has p width rs p.layout.pointer a fits.0 (first_read a [] h) in
        reads_fine p safe s is (pointer_of p rs a) (λ at. fetched is.frame.instr.result (load_value p rs s.byte t a) at (bytes_of_type p t) s) x.0 x.1
        (fetches p safe s is (load_value p rs s.byte t a) (width_of p.layout t) x.0 (bytes_of_type p t) (ap is_terminator at) fits.1 (load_good p rs s.byte t a x))
    acts (op.Store volatile t v a) at fits h plain =
        let y : Has p rs (width_of p.layout t) v = has p width rs (width_of p.layout t) v fits.0 (first_read v (a ∷ []) h) in
        let x : Has p rs p.layout.pointer a = has p width rs p.layout.pointer a fits.1 (second_read v a h) in
        reads_fine p safe s is (pointer_of p rs a) (λ at. given stuck (operand_of p rs t v) (λ n. stored p at (bytes_of_type p t) n s (refusal p.regions true at (bytes_of_type p t)))) x.0 x.1
        (reads_fine p safe s is (operand_of p rs t v) (λ n. stored p x.0 (bytes_of_type p t) n s (refusal p.regions true x.0 (bytes_of_type p t))) y.0 y.1
        (stores p safe s is x.0 (bytes_of_type p t) y.0 (refusal p.regions true x.0 (bytes_of_type p t)) (ap is_terminator at) fits.2))
    acts (op.Gep t a indices) at fits h plain =
        let x : Has p rs p.layout.pointer a = has p width rs p.layout.pointer a fits.0 (first_read a (index_operands indices) h) in
        let ns = indices_given rs indices (each_of_uses p width rs (λ (i : ℕ × Operand). i.0) (λ (i : ℕ × Operand). i.1) indices fits.1 (others_read a (index_operands indices) h)) in
        computes p safe s is (gep_value p rs t a indices) p.layout.pointer (ap is_terminator at) fits.2 (gep_good p rs t a indices ns.0 x ns.1)
    acts (op.Call t callee args) at fits h plain =
        let each = each_of_uses p width rs (λ (a : Ty × Operand). width_of p.layout a.0) (λ (a : Ty × Operand). a.1) args fits.1 (others_read callee (argument_operands args) h) in
        let ns = each_has p rs (λ (a : Ty × Operand). width_of p.layout a.0) (λ (a : Ty × Operand). a.1) args each in
        call_fine p safe s is t callee args at fits.2 (callee_value p rs t callee args)
        (callee_good p safe rs width t callee args fits.0 (λ reads. has p width rs p.layout.pointer callee reads (first_read callee (argument_operands args) h)))
        ns.0 ns.1 ns.2
    acts (op.Br l) at fits h plain = lands p safe s is (ap is_terminator at) l fits
    acts (op.CondBr c l k) at fits h plain =
        let x : Has p rs 1 c = has p width rs 1 c fits.0 (first_read c [] h) in
        reads_fine p safe s is (operand p 1 rs c) (λ x. go p s (if x == 1 then l else k)) x.0 x.1 (chooses p safe s is (ap is_terminator at) (x.0 == 1) l k fits.1 fits.2)
    acts (op.Switch w a l cs) at fits h plain =
        let x : Has p rs w a = has p width rs w a fits.0 (first_read a [] h) in
        reads_fine p safe s is (operand p w rs a) (λ x. go p s (case_label x l cs)) x.0 x.1 (switches p safe s is (ap is_terminator at) x.0 l cs fits.1 fits.2)
    acts (op.Ret value) at fits h plain = returning is.frame.function.result value refl fits h
    acts op.Unreachable at fits h plain = tt

    charged_fine : (b : Bool) (r : Row) → Fine p safe r.next → Fine p safe (charged b r).next
    charged_fine true r f = f
    charged_fine false r f = f

    pub row_fine : Fine p safe (row p s).next
    unfolding row
    row_fine = subst (λ (o : Option Instr). Fine p safe (given stuck o (row_of_instr p s)).next) (sym (instr_found p s.frame is.frame.function is.frame.function_is ∙ is.frame.instr_is))
        (charged_fine is.frame.instr.inserted (row_of_op p is.frame.instr.result is.frame.instr.op s)
        (acts is.frame.instr.op refl ((fine p safe s.frame is.frame).fits s.frame.block s.frame.at is.frame.instr is.frame.instr_is) (used p safe s.frame is.frame) is.frame.plain))

    limited_by : (left : ℕ) (r : Row) (a b c : Bool) → Fine p safe r.next → Fine p safe (if a then r else (if b then unfinished [] else (if c then unfinished r.sought else r))).next
    limited_by left r true b c f = f
    limited_by left r false true c f = tt
    limited_by left r false false true f = tt
    limited_by left r false false false f = f

    pub step_fine : (left : ℕ) → Fine p safe (step p left s).next
    step_fine left = limited_by left (row p s) ((row p s).cost == 0) (left == 0) (nat_lt left (row p s).cost) row_fine

  fine_next : (n : Next) (bytes : List ℕ) (call : Option Calling) (t : State) → n ≡ Goes bytes call t → Fine p safe n → IsStateOf p safe t
  fine_next n bytes call t e f = subst (Fine p safe) e f

  pub reached_fine : (n : ℕ) (s : State) (q : Reached) → IsStateOf p safe s → after p n s ≡ Some q → IsStateOf p safe q.state
  reached_fine zero s q is e = subst (λ (r : Reached). IsStateOf p safe r.state) (same_Some (here s) q e) is
  reached_fine (suc n) s q is e =
      let first : IsFirst (row p s).next (row p s).cost (after p n) q = first_of (row p s).next (row p s).cost (after p n) q e in
      let there : IsStateOf p safe first.then' = fine_next (row p s).next first.bytes first.call first.then' first.next_is (row_fine s is) in
      subst (λ (r : Reached). IsStateOf p safe r.state) first.is (reached_fine n first.then' first.others there first.others_are)

  pub steps_fine : (s t : State) (bytes : List ℕ) (count : ℕ) → IsStateOf p safe s → Steps p s bytes count t → IsStateOf p safe t
  steps_fine s t bytes count is steps = reached_fine steps.0 s (record { output = bytes; count = count; state = t }) is steps.1

  pub not_stuck : (left : ℕ) (s : State) → IsStateOf p safe s → (step p left s).next ≢ Stuck
  not_stuck left s is e = subst (Fine p safe) e (step_fine s is left)

  pub goes_on : (left : ℕ) (s t : State) (bytes : List ℕ) (call : Option Calling) → IsStateOf p safe s → (step p left s).next ≡ Goes bytes call t → IsStateOf p safe t
  goes_on left s t bytes call is e = fine_next (step p left s).next bytes call t e (step_fine s is left)
