-- Cells of branches mean their instructions.
use Rattle.std.proofs.Common.{◌≡◌, ℕ, zero, suc, ◌+◌, ◌≤◌, ◌==◌, if◌then◌else◌, inl, inr, Bool, true, false, IsTrue, List, [], ◌∷◌, map, length, slice_get, slice_range, slice_set, Option, Some, None, refl, sym, ap, subst, ◌∙◌, arith}
use Rattle.std.specs.List.{list_all}
use Rattle.std.proofs.lemmas.Bool.{and_parts, cases_Bool, cases_lt}
use Rattle.std.proofs.lemmas.Option.{same_Some}
use Rattle.no_ir.specs.declared.types.Ty.{Ty}
use Rattle.no_ir.specs.declared.function.Block.{Block}
use Rattle.no_ir.specs.declared.function.Function.{Function}
use Rattle.no_ir.specs.declared.instruction.Instr.{Instr}
use Rattle.no_ir.specs.declared.instruction.Op.{Op}
use Rattle.no_ir.specs.declared.instruction.Op.TheVariants as op
use Rattle.no_ir.specs.declared.instruction.Operand.{Operand}
use Rattle.no_layout.specs.Text.{is_formed}
use Rattle.no_semantics.specs.Control.{Move as Given, arrived, at_block, block_from, block_number, branched, case_label, go, landed, one_more, phi_count, phi_front, phi_move, phi_moves, put_all, row_br, row_cond_br, row_switch, taken, with_register}
use Rattle.no_semantics.specs.Registers.{Registers, given, operand, operand_of, with_front}
use Rattle.no_semantics.specs.Rows.{stuck}
use Rattle.no_semantics.specs.Sound.{block_fits, is_scalar, op_fits, operand_fits, pair_fits}
use Rattle.no_semantics.specs.States.{Frame, State, function_at, put_into}
use Rattle.no_semantics.specs.Values.{Program, width_of}
use Rattle.no_semantics.proofs.Scalars.{most, scalar_width, some}
use Rattle.no_code.specs.Coded.{Each, IsCase, IsEdge, IsFrom, IsMove, IsTaken, LeadsIn, LeadsTo, before, first_cell, first_from, incoming, is_phi, phis}
use Rattle.no_code.specs.Slots.{IsInto, IsSlot}
use Rattle.no_code.specs.declared.code.Case.{Case}
use Rattle.no_code.specs.declared.code.Code.{Code}
use Rattle.no_code.specs.declared.code.Move.{Move}
use Rattle.no_machine.specs.Did.{IsReadyEdge, IsReadyMove, case_edge, moved, read_move, write_all}
use Rattle.no_machine.specs.Slots.{IsSlotIn, value_in}
use Rattle.no_machine.specs.Standing.{Covers, IsFrameAt, source_of}
use Rattle.no_machine.proofs.Framing.{covers_put, put_length}
use Rattle.no_machine.proofs.Going.{Live}
use Rattle.no_machine.proofs.Reading.{reads}

-- ---- blocks of labels, operands of phis, and their number

number_same : (l k : ℕ) (blocks : List Block) → first_from l k blocks ≡ block_from k blocks l
number_same l k [] = refl
number_same l k (b ∷ blocks) = ap (λ (o : Option ℕ). if b.label == l then Some k else o) (number_same l (k + 1) blocks)

taken_same : (l : ℕ) (pairs : List (Operand × ℕ)) → incoming l pairs ≡ taken l pairs
taken_same l [] = refl
taken_same l (pair ∷ pairs) = ap (λ (o : Option Operand). if pair.1 == l then Some pair.0 else o) (taken_same l pairs)

one_count : (o : Op) (i : Instr) (rest : List Instr) (n : ℕ) → length rest ≡ n → length (if is_phi o then i ∷ rest else []) ≡ one_more o n
one_count (op.Phi t pairs) i rest n e = ap suc e
one_count _ i rest n e = refl

count_is : (instrs : List Instr) → length (phis instrs) ≡ phi_count instrs
count_is [] = refl
count_is (i ∷ more) = one_count i.op i (phis more) (phi_count more) (count_is more)

pub into_low : (n : ℕ) (into : Option ℕ) (x : ℕ) → IsInto n into x → x ≤ n
into_low n None x is = omega (arith, is)
into_low n (Some r) x is = elim (cases_lt r n) [
  | inl lt ↦ omega (arith, is.0 lt, lt)
  | inr le ↦ omega (arith, is.1 le)
]

-- ---- moves

fronts : {A : Type 0} (o : Option A) (os : Option (List A)) (ns : List A) → with_front o os ≡ Some ns → (n : A) × (rest : List A) × (o ≡ Some n) × (os ≡ Some rest) × (n ∷ rest ≡ ns)
fronts None os ns e = absurd cc
fronts (Some n) None ns e = absurd cc
fronts (Some n) (Some rest) ns e = (n, rest, refl, refl, same_Some (n ∷ rest) ns e)

registered : (into : Option ℕ) (o : Option ℕ) (m : Given) → with_register into o ≡ Some m → (n : ℕ) × (o ≡ Some n) × ((into, n) ≡ m)
registered into None m e = absurd cc
registered into (Some n) m e = (n, refl, same_Some (into, n) m e)

some_taken : {B : Type 0} (o : Option Operand) (f : Operand → Option B) (n : B) → given None o f ≡ Some n → (a : Operand) × (o ≡ Some a) × (f a ≡ Some n)
some_taken None f n e = absurd cc
some_taken (Some a) f n e = (a, refl, e)

chosen_is : (b : Bool) (a : Operand) (o : Option Operand) (c : Operand) → (if b then Some a else o) ≡ Some c → (b ≡ true → a ≡ c) × (b ≡ false → o ≡ Some c)
chosen_is true a o c e = (λ q. same_Some a c e, λ q. absurd cc)
chosen_is false a o c e = (λ q. absurd cc, λ q. e)

module _ (p : Program) (formed : IsTrue (is_formed p.layout)) (code : Code) (g : Function) (base label : ℕ) (registers : Registers) (window : List ℕ) (covers : Covers registers window) where
  abbrev n : ℕ
  n = length registers

  -- a move reads what its phi takes
  pub record IsGiven (v : Move) (m : Given) : Type 0 where
    pub into : IsInto n m.0 v.into
    pub slot : IsSlotIn window code.constants v.from
    pub is : value_in window code.constants v.from ≡ m.1

  taken_fits : (l : ℕ) (pairs : List (Operand × ℕ)) (a : Operand) → list_all (pair_fits p.«module» p.layout p.sizes) pairs ≡ true → taken l pairs ≡ Some a → operand_fits p.«module» p.layout p.sizes a ≡ true
  taken_fits l [] a all e = absurd cc
  taken_fits l (pair ∷ pairs) a all e =
      let parts = and_parts (pair_fits p.«module» p.layout p.sizes pair) (list_all (pair_fits p.«module» p.layout p.sizes) pairs) all in
      let both = chosen_is (pair.1 == l) pair.0 (taken l pairs) a e in
      elim (cases_Bool (pair.1 == l)) [
        | inl holds ↦ subst (λ (o : Operand). operand_fits p.«module» p.layout p.sizes o ≡ true) (both.0 holds) parts.0
        | inr fails ↦ taken_fits l pairs a parts.1 (both.1 fails)
      ]

  phi_given : (into : Option ℕ) (t : Ty) (pairs : List (Operand × ℕ)) (v : Move) (m : Given) → op_fits p.«module» p.layout p.sizes (op.Phi t pairs) ≡ true → IsInto n into v.into
      → IsTaken (source_of p) n code g base label (width_of p.layout t) (incoming label pairs) v.from → phi_move p registers label into t pairs ≡ Some m → IsGiven v m
  phi_given into t pairs v m fits is slot e =
      let parts = and_parts (is_scalar t) (list_all (pair_fits p.«module» p.layout p.sizes) pairs) fits in
      let reg = registered into (given None (taken label pairs) (operand_of p registers t)) m e in
      let source = some_taken (taken label pairs) (operand_of p registers t) reg.0 reg.1 in
      let width = scalar_width p.layout t formed parts.0 in
      let w = width_of p.layout t in
      let at : IsSlot (source_of p) n code.constants w source.0 v.from = subst (λ (o : Option Operand). IsTaken (source_of p) n code g base label w o v.from) (taken_same label pairs ∙ source.1) slot in
      let read = reads p registers window code.constants covers w v.from reg.0 source.0 (some w width) (most w width) (taken_fits label pairs source.0 parts.1 source.1) at source.2 in
      record {
        into = subst (λ (x : Given). IsInto n x.0 v.into) reg.2 is;
        slot = read.slot;
        is = read.is ∙ ap (λ (x : Given). x.1) reg.2;
      }

  front_given : (i : Instr) (o : Op) (more : List Instr) (vs : List Move) (ms : List Given) → i.op ≡ o → op_fits p.«module» p.layout p.sizes o ≡ true → Each (IsMove (source_of p) n code g base label) (if is_phi o then i ∷ phis more else []) vs
      → phi_front p registers label i.result o (phi_moves p registers label more) ≡ Some ms
      → ((us : List Move) (ns : List Given) → Each (IsMove (source_of p) n code g base label) (phis more) us → phi_moves p registers label more ≡ Some ns → Each IsGiven us ns) → Each IsGiven vs ms
  front_given i (op.Phi t pairs) more [] ms is fits each e rest = absurd each
  front_given i (op.Phi t pairs) more (v ∷ vs) ms is fits each e rest =
      let parts = fronts (phi_move p registers label i.result t pairs) (phi_moves p registers label more) ms e in
      let from = subst (λ (o : Op). IsFrom (source_of p) n code g base label o v.from) is each.0.1 in
      subst (λ (l : List Given). Each IsGiven (v ∷ vs) l) parts.4 (phi_given i.result t pairs v parts.0 fits each.0.0 from parts.2, rest vs parts.1 each.1 parts.3)
  front_given i _ more [] ms is fits each e rest = subst (λ (l : List Given). Each IsGiven [] l) (same_Some [] ms e) tt
  front_given i _ more (v ∷ vs) ms is fits each e rest = absurd each

  moves_given : (instrs : List Instr) (vs : List Move) (ms : List Given) → list_all (λ (i : Instr). op_fits p.«module» p.layout p.sizes i.op) instrs ≡ true → Each (IsMove (source_of p) n code g base label) (phis instrs) vs
      → phi_moves p registers label instrs ≡ Some ms → Each IsGiven vs ms
  moves_given [] [] ms fits each e = subst (λ (l : List Given). Each IsGiven [] l) (same_Some [] ms e) tt
  moves_given [] (v ∷ vs) ms fits each e = absurd each
  moves_given (i ∷ more) vs ms fits each e =
      let parts = and_parts (op_fits p.«module» p.layout p.sizes i.op) (list_all (λ (j : Instr). op_fits p.«module» p.layout p.sizes j.op) more) fits in
      front_given i i.op more vs ms refl parts.0 each e (λ us ns each' e'. moves_given more us ns parts.1 each' e')

  moves_cover : (vs : List Move) (ms : List Given) (rs : Registers) (slots : List ℕ) → Each IsGiven vs ms → length rs ≡ n → Covers rs slots → Covers (put_all ms rs) (write_all (map (read_move window code.constants) vs) slots)
  moves_cover [] [] rs slots each len c = c
  moves_cover [] (m ∷ ms) rs slots each len c = absurd each
  moves_cover (v ∷ vs) [] rs slots each len c = absurd each
  moves_cover (v ∷ vs) (m ∷ ms) rs slots each len c =
      let put : Covers (put_into m.0 m.1 rs) (slice_set slots v.into m.1) = covers_put m.0 rs slots v.into m.1 (subst (λ (k : ℕ). IsInto k m.0 v.into) (sym len) each.0.into) c in
      moves_cover vs ms (put_into m.0 m.1 rs) (slice_set slots v.into (value_in window code.constants v.from)) each.1 (put_length m.0 m.1 rs ∙ len)
      (subst (λ (k : ℕ). Covers (put_into m.0 m.1 rs) (slice_set slots v.into k)) (sym each.0.is) put)

  put_all_length : (ms : List Given) (rs : Registers) → length (put_all ms rs) ≡ length rs
  put_all_length [] rs = refl
  put_all_length (m ∷ ms) rs = put_all_length ms (put_into m.0 m.1 rs) ∙ put_length m.0 m.1 rs

  moves_ready : (vs : List Move) (ms : List Given) → Each IsGiven vs ms → (k : ℕ) (v : Move) → slice_get vs k ≡ Some v → IsReadyMove window code.constants v
  moves_ready [] ms each k v e = absurd cc
  moves_ready (u ∷ vs) [] each k v e = absurd each
  moves_ready (u ∷ vs) (m ∷ ms) each zero v e = subst (IsReadyMove window code.constants) (same_Some u v e) (omega (arith, into_low n m.0 u.into each.0.into, covers.room), each.0.slot)
  moves_ready (u ∷ vs) (m ∷ ms) each (suc k) v e = moves_ready vs ms each.1 k v e

-- ---- landing

arrived_known : (s : State) (o : Option Frame) → Live (arrived s o) → (f : Frame) × (o ≡ Some f)
arrived_known s None live = absurd (live refl)
arrived_known s (Some f) live = (f, refl)

branch_known : (p : Program) (s : State) (l : ℕ) → Live (go p s l) → (f : Frame) × (branched p s.frame l ≡ Some f)
branch_known p s l live = arrived_known s (branched p s.frame l) live

some_of : {A B : Type 0} (o : Option A) (f : A → Option B) (n : B) → given None o f ≡ Some n → (a : A) × (o ≡ Some a) × (f a ≡ Some n)
some_of None f n e = absurd cc
some_of (Some a) f n e = (a, refl, e)

block_some : (p : Program) (f : Frame) (from : ℕ) (g : Function) (o : Option ℕ) (to : Frame) → at_block p f from g o ≡ Some to
    → (b : ℕ) × (block : Block) × (ms : List Given) × (o ≡ Some b) × (slice_get g.blocks b ≡ Some block) × (phi_moves p f.registers from block.instrs ≡ Some ms)
    × (record f { block = b; at = phi_count block.instrs; registers = put_all ms f.registers } ≡ to)
block_some p f from g None to e = absurd cc
block_some p f from g (Some b) to e =
    let first = some_of (slice_get g.blocks b) (landed p f from b) to e in
    let second = some_of (phi_moves p f.registers from first.0.instrs) (λ moves. Some (record f { block = b; at = phi_count first.0.instrs; registers = put_all moves f.registers })) to first.2 in
    (b, first.0, second.0, refl, first.1, second.1, same_Some (record f { block = b; at = phi_count first.0.instrs; registers = put_all second.0 f.registers }) to second.2)

branched_at : (p : Program) (f : Frame) (l : ℕ) (g : Function) (from : Block) → function_at p f.function ≡ Some g → slice_get g.blocks f.block ≡ Some from → branched p f l ≡ at_block p f from.label g (block_number g l)
unfolding branched
branched_at p f l g from e e' = rw (e, e') refl

-- where a branch along an edge leads
pub record Lands (p : Program) (code : Code) (s : State) (window : List ℕ) (l e : ℕ) : Type 0 where
  pub ready : IsReadyEdge window code.constants code e
  pub frame : Frame
  pub is : branched p s.frame l ≡ Some frame
  pub stands : IsFrameAt p.«module» frame ready.edge.target (moved (slice_range code.moves ready.edge.from ready.edge.to) code.constants window)
  pub saved : frame.saved ≡ s.frame.saved

module _ (p : Program) (formed : IsTrue (is_formed p.layout)) (code : Code) (s : State) (at : ℕ) (window : List ℕ) (here : IsFrameAt p.«module» s.frame at window) (from : Block) (from_is : slice_get here.function.blocks s.frame.block ≡ Some from)
    (fits : (b : ℕ) (block : Block) → slice_get here.function.blocks b ≡ Some block → block_fits p.«module» p.layout p.sizes block ≡ true) where
  abbrev g : Function
  g = here.function

  abbrev base : ℕ
  base = first_cell p.«module».functions s.frame.function

  pub edge_lands : (l e : ℕ) → IsEdge (source_of p) (length s.frame.registers) code g base from.label l e → Live (go p s l) → Lands p code s window l e
  edge_lands l e edge live =
      let known = branch_known p s l live in
      let parts = block_some p s.frame from.label g (block_number g l) known.0 (sym (branched_at p s.frame l g from here.is from_is) ∙ known.1) in
      let b = parts.0 in
      let block = parts.1 in
      let ms = parts.2 in
      let leads : LeadsIn (source_of p) (length s.frame.registers) code g base from.label b (Some block) edge.edge =
      subst (λ (o : Option Block). LeadsIn (source_of p) (length s.frame.registers) code g base from.label b o edge.edge) parts.4
      (subst (λ (o : Option ℕ). LeadsTo (source_of p) (length s.frame.registers) code g base from.label o edge.edge) (number_same l 0 g.blocks ∙ parts.3) edge.leads) in
      let vs = leads.0 in
      let each = moves_given p formed code g base from.label s.frame.registers window here.covers block.instrs vs ms (fits b block parts.4) leads.3 parts.5 in
      let slots : moved (slice_range code.moves edge.edge.from edge.edge.to) code.constants window ≡ moved vs code.constants window = ap (λ (l : List Move). moved l code.constants window) leads.2.is in
      record {
        ready = record {
          edge = edge.edge;
          is = edge.is;
          ordered = leads.2.ordered;
          within = leads.2.within;
          each = subst (λ (l : List Move). (k : ℕ) (v : Move) → slice_get l k ≡ Some v → IsReadyMove window code.constants v) (sym leads.2.is) (moves_ready p formed code g base from.label s.frame.registers window here.covers vs ms each);
        };
        frame = known.0;
        is = known.1;
        stands = subst (λ (f : Frame). IsFrameAt p.«module» f edge.edge.target (moved (slice_range code.moves edge.edge.from edge.edge.to) code.constants window)) parts.6 (record {
          function = g;
          is = here.is;
          long = put_all_length p formed code g base from.label s.frame.registers window here.covers ms s.frame.registers ∙ here.long;
          place = leads.1 ∙ ap (λ (k : ℕ). base + before g.blocks b + k) (count_is block.instrs);
          covers = subst (λ (w : List ℕ). Covers (put_all ms s.frame.registers) w) (sym slots) (moves_cover p formed code g base from.label s.frame.registers window here.covers vs ms s.frame.registers window each refl here.covers);
        });
        saved = ap (λ (f : Frame). f.saved) (sym parts.6);
      }

  -- ---- the edges of conditions and cases

  pub chosen_edge : (x e f l k : ℕ) → IsEdge (source_of p) (length s.frame.registers) code g base from.label l e → IsEdge (source_of p) (length s.frame.registers) code g base from.label k f
      → IsEdge (source_of p) (length s.frame.registers) code g base from.label (if x == 1 then l else k) (if x == 1 then e else f)
  chosen_edge x e f l k one other = pick (x == 1)
    where
      pick : (b : Bool) → IsEdge (source_of p) (length s.frame.registers) code g base from.label (if b then l else k) (if b then e else f)
      pick true = one
      pick false = other

  pub case_is : (x l e : ℕ) (given' : List (ℕ × ℕ)) (cases : List Case) → Each (IsCase (source_of p) (length s.frame.registers) code g base from.label) given' cases → IsEdge (source_of p) (length s.frame.registers) code g base from.label l e
      → IsEdge (source_of p) (length s.frame.registers) code g base from.label (case_label x l given') (case_edge x e cases)
  case_is x l e [] [] each default = default
  case_is x l e [] (c ∷ cases) each default = absurd each
  case_is x l e (d ∷ given') [] each default = absurd each
  case_is x l e (d ∷ given') (c ∷ cases) each default = subst (λ (k : ℕ). IsEdge (source_of p) (length s.frame.registers) code g base from.label (case_label x l (d ∷ given')) (if k == x then c.edge else case_edge x e cases)) (sym each.0.0) (pick (case_is x l e given' cases each.1 default) (d.0 == x))
    where
      pick : IsEdge (source_of p) (length s.frame.registers) code g base from.label (case_label x l given') (case_edge x e cases) → (b : Bool) → IsEdge (source_of p) (length s.frame.registers) code g base from.label (if b then d.1 else case_label x l given') (if b then c.edge else case_edge x e cases)
      pick rest true = each.0.1
      pick rest false = rest

-- ---- rows

pub cond_known : (p : Program) (c : Operand) (l k : ℕ) (s : State) → Live (row_cond_br p c l k s) → (x : ℕ) × (operand p 1 s.frame.registers c ≡ Some x)
unfolding row_cond_br
cond_known p c l k s live = of (operand p 1 s.frame.registers c) live
  where
    of : (o : Option ℕ) → Live (given stuck o (λ x. go p s (if x == 1 then l else k))) → (x : ℕ) × (o ≡ Some x)
    of None live = absurd (live refl)
    of (Some x) live = (x, refl)

pub cond_row : (p : Program) (c : Operand) (l k : ℕ) (s : State) (x : ℕ) → operand p 1 s.frame.registers c ≡ Some x → row_cond_br p c l k s ≡ go p s (if x == 1 then l else k)
unfolding row_cond_br
cond_row p c l k s x e = rw e refl

pub switch_known : (p : Program) (w : ℕ) (a : Operand) (l : ℕ) (cases : List (ℕ × ℕ)) (s : State) → Live (row_switch p w a l cases s) → (x : ℕ) × (operand p w s.frame.registers a ≡ Some x)
unfolding row_switch
switch_known p w a l cases s live = of (operand p w s.frame.registers a) live
  where
    of : (o : Option ℕ) → Live (given stuck o (λ x. go p s (case_label x l cases))) → (x : ℕ) × (o ≡ Some x)
    of None live = absurd (live refl)
    of (Some x) live = (x, refl)

pub switch_row : (p : Program) (w : ℕ) (a : Operand) (l : ℕ) (cases : List (ℕ × ℕ)) (s : State) (x : ℕ) → operand p w s.frame.registers a ≡ Some x → row_switch p w a l cases s ≡ go p s (case_label x l cases)
unfolding row_switch
switch_row p w a l cases s x e = rw e refl

pub br_row : (p : Program) (l : ℕ) (s : State) → row_br p l s ≡ go p s l
unfolding row_br
br_row p l s = refl
