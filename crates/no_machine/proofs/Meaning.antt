-- Each cell means its instruction.
use Rattle.std.proofs.Common.{◌≡◌, ℕ, ◌+◌, ◌%◌, ◌^◌, ◌<◌, ◌==◌, if◌then◌else◌, true, IsTrue, List, length, slice_get, slice_range, Option, Some, refl, sym, ap, subst, ◌∙◌, arith}
use Rattle.std.proofs.lemmas.Bool.{and_parts}
use Rattle.std.proofs.lemmas.Option.{same_Some}
use Rattle.no_ir.specs.declared.ending.Trap.TheVariants as trap
use Rattle.no_ir.specs.declared.function.Block.{Block}
use Rattle.no_ir.specs.declared.instruction.BinOp.{BinOp}
use Rattle.no_ir.specs.declared.instruction.BinOp.TheVariants as bin
use Rattle.no_ir.specs.declared.instruction.CastOp.{CastOp}
use Rattle.no_ir.specs.declared.instruction.CastOp.TheVariants as cast
use Rattle.no_ir.specs.declared.instruction.Pred.{Pred}
use Rattle.no_ir.specs.declared.instruction.Pred.TheVariants as pred
use Rattle.no_ir.specs.declared.instruction.Instr.{Instr}
use Rattle.no_ir.specs.declared.instruction.Op.{Op}
use Rattle.no_ir.specs.declared.instruction.Op.TheVariants as op
use Rattle.no_eval.specs.Binary.{binary_of}
use Rattle.no_eval.specs.Compare.{compare_of}
use Rattle.no_eval.specs.Cast.{cast_of}
use Rattle.no_layout.specs.Memory.{Agrees}
use Rattle.no_layout.specs.Text.{is_formed}
use Rattle.no_layout.specs.declared.memory.Regions.{Regions}
use Rattle.no_semantics.specs.Acting.{row_of_op}
use Rattle.no_semantics.specs.Control.{arrived, case_label, go}
use Rattle.no_semantics.specs.Results.{bit}
use Rattle.no_semantics.specs.Rows.{Row, needed}
use Rattle.no_semantics.specs.Sound.{block_fits, is_width, op_fits, operand_fits, table_holds}
use Rattle.no_semantics.specs.Spans.{AreHeld}
use Rattle.no_semantics.specs.States.{State}
use Rattle.no_semantics.specs.Values.{Program}
use Rattle.no_semantics.proofs.Scalars.{most, some}
use Rattle.no_code.specs.Coded.{IsBinary, IsCast, IsCell, IsCompare, IsEdge, first_cell, is_phi}
use Rattle.no_code.specs.Slots.{IsInto}
use Rattle.no_code.specs.declared.code.Case.{Case}
use Rattle.no_code.specs.declared.code.Cell.{Cell}
use Rattle.no_code.specs.declared.code.Cell.TheVariants as cell
use Rattle.no_code.specs.declared.code.Code.{Code}
use Rattle.no_code.specs.declared.code.Edge.{Edge}
use Rattle.no_machine.specs.Did.{Acted, Beside, Combines, Compares, Converts, Gave, IsReady, IsReadyEdge, Loads, Stores, Takes, Wrote, case_edge, leads, moved, value_at}
use Rattle.no_machine.specs.Standing.{IsFrameAt, Means, Says, source_of}
use Rattle.no_machine.specs.declared.did.Did.{Did}
use Rattle.no_machine.specs.declared.did.Did.TheVariants as did
use Rattle.no_machine.proofs.Branching.{Lands, br_row, case_is, chosen_edge, cond_known, cond_row, edge_lands, into_low, switch_known, switch_row}
use Rattle.no_machine.proofs.Computing.{binary_two, cast_one, cast_ready, compare_two, copy_one, select_three, two_ready}
use Rattle.no_machine.proofs.Going.{Live, gave_means, none_needed, trapped_means, wrote_means}
use Rattle.no_machine.proofs.Reaching.{alloca_one, alloca_ready, allocated_means, load_one, load_ready, loaded_means, store_one, store_ready, stored_means}
use Rattle.no_machine.proofs.Reading.{Reads, reads}
use Rattle.no_machine.proofs.Walking.{gep_ready, gep_walks}

-- no row of a phi goes on
phi_stuck : (p : Program) (into : Option ℕ) (o : Op) (s : State) → is_phi o ≡ true → Live (row_of_op p into o s) → ⊥
phi_stuck p into (op.Phi t pairs) s e live = live refl
phi_stuck p into _ s e live = absurd cc

module _ (p : Program) (formed : IsTrue (is_formed p.layout)) (table : table_holds p.layout p.sizes 0 p.«module».types ≡ true) (code : Code) (i : Instr) (s : State) (at : ℕ) (old : List ℕ)
    (here : IsFrameAt p.«module» s.frame at old) (from : Block) (from_is : slice_get here.function.blocks s.frame.block ≡ Some from)
    (blocks : (b : ℕ) (block : Block) → slice_get here.function.blocks b ≡ Some block → block_fits p.«module» p.layout p.sizes block ≡ true)
    (fits : op_fits p.«module» p.layout p.sizes i.op ≡ true) (live : Live (row_of_op p i.result i.op s)) where
  abbrev n : ℕ
  n = length s.frame.registers

  abbrev Row' : Row
  Row' = row_of_op p i.result i.op s

  abbrev base : ℕ
  base = first_cell p.«module».functions s.frame.function

  inside : (into : ℕ) → IsInto n i.result into → into < length old
  inside into is = omega (arith, into_low n i.result into is, here.covers.room)

  row_as : (q : Op) → i.op ≡ q → Row' ≡ row_of_op p i.result q s
  row_as q e = ap (λ (r : Op). row_of_op p i.result r s) e

  live_as : (r : Row) → Row' ≡ r → Live r
  live_as r e = subst Live e live

  -- ---- where branches land

  pub record Branches (l e : ℕ) : Type 0 where
    pub is : Row' ≡ go p s l
    pub lands : Lands p code s old l e

  lands_at : (l e : ℕ) → Row' ≡ go p s l → IsEdge (source_of p) n code here.function base from.label l e → Branches l e
  lands_at l e is edge = record { is = is; lands = edge_lands p formed code s at old here from from_is blocks l e edge (live_as (go p s l) is) }

  pub record Decides (x e f : ℕ) : Type 0 where
    pub test : ℕ
    pub value : Reads old code.constants 1 x test
    pub label : ℕ
    pub branch : Branches label (if test == 1 then e else f)

  pub record Selects (x e : ℕ) (cases : List Case) : Type 0 where
    pub width : ℕ
    pub number : ℕ
    pub value : Reads old code.constants width x number
    pub label : ℕ
    pub branch : Branches label (case_edge number e cases)

  br_lands : (e : ℕ) → IsCell (source_of p) n code here.function base from.label i (cell.Br e) → (l : ℕ) × Branches l e
  br_lands e r = (r.to, lands_at r.to e (row_as (op.Br r.to) r.is ∙ br_row p r.to s) r.edge)

  cond_lands : (x e f : ℕ) → IsCell (source_of p) n code here.function base from.label i (cell.CondBr x e f) → Decides x e f
  cond_lands x e f r =
      let q : Op = op.CondBr r.a r.to r.other in
      let ok : operand_fits p.«module» p.layout p.sizes r.a ≡ true = subst (λ (z : Op). op_fits p.«module» p.layout p.sizes z ≡ true) r.is fits in
      let known = cond_known p r.a r.to r.other s (live_as _ (row_as q r.is)) in
      record {
        test = known.0;
        value = reads p s.frame.registers old code.constants here.covers 1 x known.0 r.a (omega arith) (omega arith) ok r.condition known.1;
        label = if known.0 == 1 then r.to else r.other;
        branch = lands_at (if known.0 == 1 then r.to else r.other) (if known.0 == 1 then e else f) (row_as q r.is ∙ cond_row p r.a r.to r.other s known.0 known.1)
            (chosen_edge p formed code s at old here from from_is blocks known.0 e f r.to r.other r.edge r.other_edge);
      }

  switch_lands : (x e first last : ℕ) → IsCell (source_of p) n code here.function base from.label i (cell.Switch x e first last) → Selects x e (slice_range code.cases first last)
  switch_lands x e first last r =
      let q : Op = op.Switch r.w r.a r.default r.given in
      let ok : op_fits p.«module» p.layout p.sizes q ≡ true = subst (λ (z : Op). op_fits p.«module» p.layout p.sizes z ≡ true) r.is fits in
      let parts = and_parts (is_width r.w) (operand_fits p.«module» p.layout p.sizes r.a) ok in
      let known = switch_known p r.w r.a r.default r.given s (live_as _ (row_as q r.is)) in
      let edge : IsEdge (source_of p) n code here.function base from.label (case_label known.0 r.default r.given) (case_edge known.0 e r.cases) = case_is p formed code s at old here from from_is blocks known.0 r.default e r.given r.cases r.each r.edge in
      record {
        width = r.w;
        number = known.0;
        value = reads p s.frame.registers old code.constants here.covers r.w x known.0 r.a (some r.w parts.0) (most r.w parts.0) parts.1 r.value known.1;
        label = case_label known.0 r.default r.given;
        branch = lands_at (case_label known.0 r.default r.given) (case_edge known.0 e (slice_range code.cases first last)) (row_as q r.is ∙ switch_row p r.w r.a r.default r.given s known.0 known.1)
            (subst (λ (l : List Case). IsEdge (source_of p) n code here.function base from.label (case_label known.0 r.default r.given) (case_edge known.0 e l)) (sym r.range.is) edge);
      }

  -- ---- what a cell needs is there

  pub cell_ready : (c : Cell) → IsCell (source_of p) n code here.function base from.label i c → IsReady p.layout.pointer code old c
  cell_ready cell.Nothing r = absurd r
  cell_ready cell.Phi r = absurd (phi_stuck p i.result i.op s r live)
  cell_ready (cell.Add w into x y) r = two_ready p formed code i s at old here fits live w into x y _ (inside into r.result) (binary_two p formed code i s at old here fits live bin.Add w into x y r)
  cell_ready (cell.Sub w into x y) r = two_ready p formed code i s at old here fits live w into x y _ (inside into r.result) (binary_two p formed code i s at old here fits live bin.Sub w into x y r)
  cell_ready (cell.Mul w into x y) r = two_ready p formed code i s at old here fits live w into x y _ (inside into r.result) (binary_two p formed code i s at old here fits live bin.Mul w into x y r)
  cell_ready (cell.UDiv w into x y) r = two_ready p formed code i s at old here fits live w into x y _ (inside into r.result) (binary_two p formed code i s at old here fits live bin.UDiv w into x y r)
  cell_ready (cell.URem w into x y) r = two_ready p formed code i s at old here fits live w into x y _ (inside into r.result) (binary_two p formed code i s at old here fits live bin.URem w into x y r)
  cell_ready (cell.SDiv w into x y) r = two_ready p formed code i s at old here fits live w into x y _ (inside into r.result) (binary_two p formed code i s at old here fits live bin.SDiv w into x y r)
  cell_ready (cell.SRem w into x y) r = two_ready p formed code i s at old here fits live w into x y _ (inside into r.result) (binary_two p formed code i s at old here fits live bin.SRem w into x y r)
  cell_ready (cell.Shl w into x y) r = two_ready p formed code i s at old here fits live w into x y _ (inside into r.result) (binary_two p formed code i s at old here fits live bin.Shl w into x y r)
  cell_ready (cell.LShr w into x y) r = two_ready p formed code i s at old here fits live w into x y _ (inside into r.result) (binary_two p formed code i s at old here fits live bin.LShr w into x y r)
  cell_ready (cell.AShr w into x y) r = two_ready p formed code i s at old here fits live w into x y _ (inside into r.result) (binary_two p formed code i s at old here fits live bin.AShr w into x y r)
  cell_ready (cell.And w into x y) r = two_ready p formed code i s at old here fits live w into x y _ (inside into r.result) (binary_two p formed code i s at old here fits live bin.And w into x y r)
  cell_ready (cell.Or w into x y) r = two_ready p formed code i s at old here fits live w into x y _ (inside into r.result) (binary_two p formed code i s at old here fits live bin.Or w into x y r)
  cell_ready (cell.Xor w into x y) r = two_ready p formed code i s at old here fits live w into x y _ (inside into r.result) (binary_two p formed code i s at old here fits live bin.Xor w into x y r)
  cell_ready (cell.Eq w into x y) r = two_ready p formed code i s at old here fits live w into x y _ (inside into r.result) (compare_two p formed code i s at old here fits live pred.Eq w into x y r)
  cell_ready (cell.Ne w into x y) r = two_ready p formed code i s at old here fits live w into x y _ (inside into r.result) (compare_two p formed code i s at old here fits live pred.Ne w into x y r)
  cell_ready (cell.Ugt w into x y) r = two_ready p formed code i s at old here fits live w into x y _ (inside into r.result) (compare_two p formed code i s at old here fits live pred.Ugt w into x y r)
  cell_ready (cell.Uge w into x y) r = two_ready p formed code i s at old here fits live w into x y _ (inside into r.result) (compare_two p formed code i s at old here fits live pred.Uge w into x y r)
  cell_ready (cell.Ult w into x y) r = two_ready p formed code i s at old here fits live w into x y _ (inside into r.result) (compare_two p formed code i s at old here fits live pred.Ult w into x y r)
  cell_ready (cell.Ule w into x y) r = two_ready p formed code i s at old here fits live w into x y _ (inside into r.result) (compare_two p formed code i s at old here fits live pred.Ule w into x y r)
  cell_ready (cell.Sgt w into x y) r = two_ready p formed code i s at old here fits live w into x y _ (inside into r.result) (compare_two p formed code i s at old here fits live pred.Sgt w into x y r)
  cell_ready (cell.Sge w into x y) r = two_ready p formed code i s at old here fits live w into x y _ (inside into r.result) (compare_two p formed code i s at old here fits live pred.Sge w into x y r)
  cell_ready (cell.Slt w into x y) r = two_ready p formed code i s at old here fits live w into x y _ (inside into r.result) (compare_two p formed code i s at old here fits live pred.Slt w into x y r)
  cell_ready (cell.Sle w into x y) r = two_ready p formed code i s at old here fits live w into x y _ (inside into r.result) (compare_two p formed code i s at old here fits live pred.Sle w into x y r)
  cell_ready (cell.Trunc w v into x) r = cast_ready p formed code i s at old here fits live cast.Trunc w v into x (inside into r.result) (cast_one p formed code i s at old here fits live cast.Trunc w v into x r)
  cell_ready (cell.ZExt w v into x) r = cast_ready p formed code i s at old here fits live cast.ZExt w v into x (inside into r.result) (cast_one p formed code i s at old here fits live cast.ZExt w v into x r)
  cell_ready (cell.SExt w v into x) r = cast_ready p formed code i s at old here fits live cast.SExt w v into x (inside into r.result) (cast_one p formed code i s at old here fits live cast.SExt w v into x r)
  cell_ready (cell.PtrToInt w v into x) r = cast_ready p formed code i s at old here fits live cast.PtrToInt w v into x (inside into r.result) (cast_one p formed code i s at old here fits live cast.PtrToInt w v into x r)
  cell_ready (cell.IntToPtr w v into x) r = cast_ready p formed code i s at old here fits live cast.IntToPtr w v into x (inside into r.result) (cast_one p formed code i s at old here fits live cast.IntToPtr w v into x r)
  cell_ready (cell.BitCast w v into x) r = cast_ready p formed code i s at old here fits live cast.BitCast w v into x (inside into r.result) (cast_one p formed code i s at old here fits live cast.BitCast w v into x r)
  cell_ready (cell.Copy into x) r = record { operand = (copy_one p formed code i s at old here fits live into x r).value.slot; result = inside into r.result }
  cell_ready (cell.Select into z x y) r = (let t = select_three p formed code i s at old here fits live into z x y r in record { condition = t.condition.slot; left = t.left.slot; right = t.right.slot; result = inside into r.result })
  cell_ready (cell.Alloca into x stride align) r = alloca_ready p formed code i s at old here fits live into x stride align (inside into r.result) (alloca_one p formed code i s at old here fits live into x stride align r)
  cell_ready (cell.Load w into x) r = load_ready p formed code i s at old here fits live w into x (inside into r.result) (load_one p formed code i s at old here fits live w into x r)
  cell_ready (cell.Store w y x) r = store_ready p formed code i s at old here fits live w y x (store_one p formed code i s at old here fits live w y x r)
  cell_ready (cell.Gep into x first last) r = gep_ready p formed table code i s at old here fits live into x first last r (inside into r.result)
  cell_ready (cell.Br e) r = (br_lands e r).1.lands.ready
  cell_ready (cell.CondBr x e f) r = (let t = cond_lands x e f r in record { operand = t.value.slot; edge = subst (λ (k : ℕ). IsReadyEdge old code.constants code (if k == 1 then e else f)) (sym t.value.is) t.branch.lands.ready })
  cell_ready (cell.Switch x e first last) r = (let t = switch_lands x e first last r in record {
    operand = t.value.slot;
    ordered = r.range.ordered;
    within = r.range.within;
    edge = subst (λ (k : ℕ). IsReadyEdge old code.constants code (case_edge k e (slice_range code.cases first last))) (sym t.value.is) t.branch.lands.ready;
  })
  cell_ready _ r = tt

  -- ---- what a cell did is what its instruction does

  module _ (b : Beside) (regions : b.regions ≡ p.regions) (stack : s.sp ≡ b.sp) (agrees : Agrees b.held b.byte s.byte) (new : List ℕ) where
    abbrev Said : Did → Type 0
    Said d = Means p at old new b.sp b.sp_after b.held b.byte b.after s Row' d

    abbrev Whole : Did → Type 0
    Whole d = Says p code i at old new b.sp b.sp_after b.held b.byte b.after s Row' d

    plain_says : (d : Did) → Said d → Whole d
    plain_says (did.Calls into f first last) m = absurd m
    plain_says (did.CallsAt into first last) m = absurd m
    plain_says (did.Returns x) m = absurd m
    plain_says did.Leaves m = absurd m
    plain_says _ m = m

    combined : (o : BinOp) (w into x y : ℕ) (d : Did) → IsBinary (source_of p) n code o w into x y i → Combines o code w into x y b old new d → Said d
    combined o w into x y d r acted =
        let t = binary_two p formed code i s at old here fits live o w into x y r in
        gave_means p s at old b.sp b.held b.byte here stack agrees Row' i.result into (binary_of o w t.first t.second) new b.after b.sp_after d t.row r.result acted.0.0 acted.0.1
        (subst (λ (k : ℕ). Gave (binary_of o w t.first k) into old new d) t.right.is (subst (λ (k : ℕ). Gave (binary_of o w k (value_at code old y)) into old new d) t.left.is acted.1))

    compared : (o : Pred) (w into x y : ℕ) (d : Did) → IsCompare (source_of p) n code o w into x y i → Compares o code w into x y b old new d → Said d
    compared o w into x y d r acted =
        let t = compare_two p formed code i s at old here fits live o w into x y r in
        wrote_means p s at old b.sp b.held b.byte here stack agrees Row' i.result into (bit (compare_of o w t.first t.second)) new b.after b.sp_after d t.row r.result acted.0.0 acted.0.1
        (subst (λ (k : ℕ). Wrote (bit (compare_of o w t.first k)) into old new d) t.right.is (subst (λ (k : ℕ). Wrote (bit (compare_of o w k (value_at code old y))) into old new d) t.left.is acted.1))

    converted : (o : CastOp) (w v into x : ℕ) (d : Did) → IsCast (source_of p) n code o w v into x i → Converts o code w v into x b old new d → Said d
    converted o w v into x d r acted =
        let t = cast_one p formed code i s at old here fits live o w v into x r in
        wrote_means p s at old b.sp b.held b.byte here stack agrees Row' i.result into (cast_of o w v t.number) new b.after b.sp_after d t.row r.result acted.0.0 acted.0.1
        (subst (λ (k : ℕ). Wrote (cast_of o w v k) into old new d) t.value.is acted.1)

    -- a branch along an edge
    landed : (l e : ℕ) (d : Did) → Branches l e → b.after ≡ b.byte → b.sp_after ≡ b.sp → Takes code.constants code e old new d → Said d
    landed l e (did.To target) t bytes same took =
        let edge : took.0 ≡ t.lands.ready.edge = same_Some took.0 t.lands.ready.edge (sym took.1 ∙ t.lands.ready.is) in
        let row : Row' ≡ arrived s (Some t.lands.frame) = t.is ∙ ap (arrived s) t.lands.is in
        let slots : new ≡ moved (slice_range code.moves t.lands.ready.edge.from t.lands.ready.edge.to) code.constants old = took.3 ∙ ap (λ (x : Edge). moved (slice_range code.moves x.from x.to) code.constants old) edge in
        record {
          state = record s { frame = t.lands.frame };
          next = ap (λ (r : Row). r.next) row;
          cost = ap (λ (r : Row). r.cost) row;
          frame = subst (λ (w : List ℕ). IsFrameAt p.«module» t.lands.frame target w) (sym slots)
              (subst (λ (k : ℕ). IsFrameAt p.«module» t.lands.frame k (moved (slice_range code.moves t.lands.ready.edge.from t.lands.ready.edge.to) code.constants old)) (sym (took.2 ∙ ap (λ (x : Edge). x.target) edge)) t.lands.stands);
          saved = t.lands.saved;
          callers = refl;
          sp_is = stack ∙ sym same;
          heap = refl;
          input = refl;
          agrees = subst (λ (f : ℕ → ℕ). Agrees b.held f s.byte) (sym bytes) agrees;
          present = subst (λ (r : Row). AreHeld b.held (needed r)) (sym row) (none_needed b.held);
        }
    landed l e did.NoMemory t bytes same took = record { slots = took; bytes = bytes; stack = same }
    landed l e _ t bytes same took = absurd took

    pub cell_says : (c : Cell) (d : Did) → IsCell (source_of p) n code here.function base from.label i c → Acted p.layout.big p.layout.pointer code b old new d c → Says p code i at old new b.sp b.sp_after b.held b.byte b.after s Row' d
    cell_says (cell.Add w into x y) d r acted = plain_says d (combined bin.Add w into x y d r acted)
    cell_says (cell.Sub w into x y) d r acted = plain_says d (combined bin.Sub w into x y d r acted)
    cell_says (cell.Mul w into x y) d r acted = plain_says d (combined bin.Mul w into x y d r acted)
    cell_says (cell.UDiv w into x y) d r acted = plain_says d (combined bin.UDiv w into x y d r acted)
    cell_says (cell.URem w into x y) d r acted = plain_says d (combined bin.URem w into x y d r acted)
    cell_says (cell.SDiv w into x y) d r acted = plain_says d (combined bin.SDiv w into x y d r acted)
    cell_says (cell.SRem w into x y) d r acted = plain_says d (combined bin.SRem w into x y d r acted)
    cell_says (cell.Shl w into x y) d r acted = plain_says d (combined bin.Shl w into x y d r acted)
    cell_says (cell.LShr w into x y) d r acted = plain_says d (combined bin.LShr w into x y d r acted)
    cell_says (cell.AShr w into x y) d r acted = plain_says d (combined bin.AShr w into x y d r acted)
    cell_says (cell.And w into x y) d r acted = plain_says d (combined bin.And w into x y d r acted)
    cell_says (cell.Or w into x y) d r acted = plain_says d (combined bin.Or w into x y d r acted)
    cell_says (cell.Xor w into x y) d r acted = plain_says d (combined bin.Xor w into x y d r acted)
    cell_says (cell.Eq w into x y) d r acted = plain_says d (compared pred.Eq w into x y d r acted)
    cell_says (cell.Ne w into x y) d r acted = plain_says d (compared pred.Ne w into x y d r acted)
    cell_says (cell.Ugt w into x y) d r acted = plain_says d (compared pred.Ugt w into x y d r acted)
    cell_says (cell.Uge w into x y) d r acted = plain_says d (compared pred.Uge w into x y d r acted)
    cell_says (cell.Ult w into x y) d r acted = plain_says d (compared pred.Ult w into x y d r acted)
    cell_says (cell.Ule w into x y) d r acted = plain_says d (compared pred.Ule w into x y d r acted)
    cell_says (cell.Sgt w into x y) d r acted = plain_says d (compared pred.Sgt w into x y d r acted)
    cell_says (cell.Sge w into x y) d r acted = plain_says d (compared pred.Sge w into x y d r acted)
    cell_says (cell.Slt w into x y) d r acted = plain_says d (compared pred.Slt w into x y d r acted)
    cell_says (cell.Sle w into x y) d r acted = plain_says d (compared pred.Sle w into x y d r acted)
    cell_says (cell.Trunc w v into x) d r acted = plain_says d (converted cast.Trunc w v into x d r acted)
    cell_says (cell.ZExt w v into x) d r acted = plain_says d (converted cast.ZExt w v into x d r acted)
    cell_says (cell.SExt w v into x) d r acted = plain_says d (converted cast.SExt w v into x d r acted)
    cell_says (cell.PtrToInt w v into x) d r acted = plain_says d (converted cast.PtrToInt w v into x d r acted)
    cell_says (cell.IntToPtr w v into x) d r acted = plain_says d (converted cast.IntToPtr w v into x d r acted)
    cell_says (cell.BitCast w v into x) d r acted = plain_says d (converted cast.BitCast w v into x d r acted)
    cell_says (cell.Copy into x) d r acted =
        let t = copy_one p formed code i s at old here fits live into x r in
        plain_says d (wrote_means p s at old b.sp b.held b.byte here stack agrees Row' i.result into t.number new b.after b.sp_after d t.row r.result acted.0.0 acted.0.1 (subst (λ (k : ℕ). Wrote k into old new d) t.value.is acted.1))
    cell_says (cell.Select into z x y) d r acted =
        let t = select_three p formed code i s at old here fits live into z x y r in
        plain_says d (wrote_means p s at old b.sp b.held b.byte here stack agrees Row' i.result into (if t.test == 1 then t.first else t.second) new b.after b.sp_after d t.row r.result acted.0.0 acted.0.1
        (subst (λ (k : ℕ). Wrote (if t.test == 1 then t.first else k) into old new d) t.right.is
        (subst (λ (k : ℕ). Wrote (if t.test == 1 then k else value_at code old y) into old new d) t.left.is
        (subst (λ (k : ℕ). Wrote (if k == 1 then value_at code old x else value_at code old y) into old new d) t.condition.is acted.1))))
    cell_says (cell.Alloca into x stride align) d r acted =
        plain_says d (allocated_means p formed code i s at old here fits live b.held b stack agrees new into x stride align d (alloca_one p formed code i s at old here fits live into x stride align r) r.result acted.0 acted.1)
    cell_says (cell.Load w into x) d r acted =
        plain_says d (loaded_means p formed code i s at old here fits live b.held b stack agrees new w into x d (load_one p formed code i s at old here fits live w into x r) r.result acted.0.0 acted.0.1
        (subst (λ (m : Regions). Loads m b.held b.byte p.layout.big w (value_at code old x) into old new d) regions acted.1))
    cell_says (cell.Store w y x) d r acted =
        plain_says d (stored_means p formed code i s at old here fits live b.held b stack agrees new w y x d (store_one p formed code i s at old here fits live w y x r) acted.0 acted.1
        (subst (λ (m : Regions). Stores m b.held b.byte b.after p.layout.big w (value_at code old x) (value_at code old y) d) regions acted.2))
    cell_says (cell.Gep into x first last) d r acted =
        let t = gep_walks p formed table code i s at old here fits live into x first last r in
        plain_says d (wrote_means p s at old b.sp b.held b.byte here stack agrees Row' i.result into ((value_at code old x + leads old code.constants p.layout.pointer (slice_range code.steps first last)) % 2 ^ p.layout.pointer) new b.after b.sp_after d t.is r.result acted.0.0 acted.0.1 acted.1)
    cell_says (cell.Br e) d r acted = (let t = br_lands e r in plain_says d (landed t.0 e d t.1 acted.0.0 acted.0.1 acted.1))
    cell_says (cell.CondBr x e f) d r acted =
        let t = cond_lands x e f r in
        plain_says d (landed t.label (if t.test == 1 then e else f) d t.branch acted.0.0 acted.0.1 (subst (λ (k : ℕ). Takes code.constants code (if k == 1 then e else f) old new d) t.value.is acted.1))
    cell_says (cell.Switch x e first last) d r acted =
        let t = switch_lands x e first last r in
        plain_says d (landed t.label (case_edge t.number e (slice_range code.cases first last)) d t.branch acted.0.0 acted.0.1
        (subst (λ (k : ℕ). Takes code.constants code (case_edge k e (slice_range code.cases first last)) old new d) t.value.is acted.1))
    cell_says (cell.Call into f first last) d r acted = subst Whole (sym acted.1) (r, record { slots = acted.2; bytes = acted.0.0; stack = acted.0.1 })
    cell_says (cell.CallAt into first last) d r acted = subst Whole (sym acted.1) (r, record { slots = acted.2; bytes = acted.0.0; stack = acted.0.1 })
    cell_says (cell.Ret x) d r acted = subst Whole (sym acted.1) (record { t = r.t; a = r.a; is = r.is; value = r.value }, record { slots = acted.2; bytes = acted.0.0; stack = acted.0.1 })
    cell_says cell.Leave d r acted = subst Whole (sym acted.1) (r, record { slots = acted.2; bytes = acted.0.0; stack = acted.0.1 })
    cell_says cell.Unreachable d r acted =
        plain_says d (trapped_means p s at old b.sp b.held b.byte here stack agrees Row' trap.Unreachable new b.after b.sp_after d (row_as op.Unreachable r) acted.1 acted.2 acted.0.0 acted.0.1)
    cell_says cell.Nothing d r acted = absurd r
    cell_says cell.Phi d r acted = absurd acted
