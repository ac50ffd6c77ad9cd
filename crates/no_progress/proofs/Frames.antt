-- Frames that stay frames of their program: at the next place, behind an edge, at an entry.
use Rattle.std.proofs.Common.{◌≡◌, ◌⊎◌, inl, inr, ⊎_elim, ℕ, zero, suc, ◌+◌, ◌^◌, ◌<◌, ◌==◌, ◌||◌, Bool, true, false, true≢false, eqb-true, Option, Some, None, if◌then◌else◌, List, [], ◌∷◌, length, map, flat_map, take, take_all, slice_get, Contains, refl, sym, ap, ◌∙◌, subst, arith, length-set}
use Rattle.std.specs.List.{list_any}
use Rattle.std.proofs.lemmas.List.Folds.{list_any_more}
use Rattle.std.proofs.lemmas.Option.{same_Some, none-some, slice_get_within, slice_get_cases, get_or_from_slice_get}
use Rattle.std.proofs.lemmas.List.Elements.{Contains-append_left, Contains-append_right}
use Rattle.no_ir.specs.declared.types.Ty.{Ty}
use Rattle.no_ir.specs.declared.instruction.Operand.{Operand}
use Rattle.no_ir.specs.declared.instruction.Operand.TheVariants as operand
use Rattle.no_ir.specs.declared.instruction.Op.{Op}
use Rattle.no_ir.specs.declared.instruction.Op.TheVariants as op
use Rattle.no_ir.specs.declared.instruction.Instr.{Instr}
use Rattle.no_ir.specs.declared.function.Block.{Block}
use Rattle.no_ir.specs.declared.function.Function.{Function}
use Rattle.no_module.specs.Instructions.{is_phi, is_terminator}
use Rattle.no_module.specs.Functions.{is_declared}
use Rattle.no_verify_paths.specs.Paths.{registers_of, uses, phi_uses, pair_use, code_in, code_of, uses_in, uses_at, PathTo, is_result, assigns, assigned, assigned_at}
use Rattle.no_semantics.specs.Registers.{Registers, given, with_front, operand_of}
use Rattle.no_semantics.specs.States.{Frame, function_at, instr_at, put, put_into, moved, assigned as given_result}
use Rattle.no_semantics.specs.Control.{Move, taken, with_register, phi_moves, one_more, phi_count, put_all}
use Rattle.no_semantics.specs.Values.{Program, width_of}
use Rattle.no_progress.specs.Proper.{Each, Reads, Gives, Idle, PhiFits, FrontFits, EdgeFits, IsProper, IsSafe}
use Rattle.no_progress.specs.Valid.{Held, IsOnStack, IsFrameOf}
use Rattle.no_progress.proofs.Reading.{AreHeld, Has, has, put_here, put_kept}

pub cases : (b : Bool) → (b ≡ true) ⊎ (b ≡ false)
cases true = inl refl
cases false = inr refl

pub or2 : {A : Type 0} (a b : Bool) → (a || b) ≡ true → (a ≡ true → A) → (b ≡ true → A) → A
or2 true b e f g = f refl
or2 false b e f g = g e

pub or_left : (a b : Bool) → a ≡ true → (a || b) ≡ true
or_left a b e = ap (λ (x : Bool). x || b) e

pub or_right : (a b : Bool) → b ≡ true → (a || b) ≡ true
or_right true b e = refl
or_right false b e = e

pub found : {A : Type 0} (xs : List A) (k : ℕ) → k < length xs → (x : A) × (slice_get xs k ≡ Some x)
found xs k lt = ⊎_elim (λ p. (p.0, p.2)) (λ p. absurd (omega (arith, p.0, lt))) (slice_get_cases xs k).1

-- ---- the instruction of a frame

code_found : (o : Option Block) (k : ℕ) → given None o (λ (b : Block). slice_get b.instrs k) ≡ slice_get (code_in o) k
code_found None k = refl
code_found (Some x) k = refl

pub instr_found : (p : Program) (f : Frame) (g : Function) → function_at p f.function ≡ Some g → instr_at p f ≡ slice_get (code_of g f.block) f.at
unfolding code_of
instr_found p f g e =
    ap (λ (o : Option Function). given None (given None o (λ (h : Function). slice_get h.blocks f.block)) (λ (b : Block). slice_get b.instrs f.at)) e
    ∙ code_found (slice_get g.blocks f.block) f.at

-- ---- what is assigned behind an instruction was so before it, or is its result

module _ (g : Function) (before : List ℕ) (b k : ℕ) (i : Instr) (is : slice_get (code_of g b) k ≡ Some i) where
  assigns_now : (r : ℕ) → assigns r (take (k + 1) (code_of g b)) ≡ (assigns r (take k (code_of g b)) || is_result r i.result)
  unfolding assigns
  assigns_now r = list_any_more (λ (i : Instr). is_result r i.result) (code_of g b) k i (slice_get_within (code_of g b) k i is)
      ∙ ap (λ (x : Instr). list_any (λ (i : Instr). is_result r i.result) (take k (code_of g b)) || is_result r x.result) (get_or_from_slice_get (code_of g b) k i i is)

  pub split : {A : Type 0} (r : ℕ) → assigned_at g before b (k + 1) r ≡ true → (assigned_at g before b k r ≡ true → A) → (is_result r i.result ≡ true → A) → A
  split r e old new = or2 (assigned g before r) (assigns r (take (k + 1) (code_of g b))) e
      (λ h. old (or_left (assigned g before r) (assigns r (take k (code_of g b))) h))
      (λ h. or2 (assigns r (take k (code_of g b))) (is_result r i.result) (sym (assigns_now r) ∙ h)
      (λ j. old (or_right (assigned g before r) (assigns r (take k (code_of g b))) j)) new)

-- ---- results

pub put_into_long : (into : Option ℕ) (n : ℕ) (rs : Registers) → length (put_into into n rs) ≡ length rs
put_into_long None n rs = refl
put_into_long (Some r) n rs = length-set rs r (Some n)

pub put_into_kept : (count w : ℕ) (width : ℕ → Option ℕ) (into : Option ℕ) (n q : ℕ) (rs : Registers) → Gives count width into w → n < 2 ^ w → Held width rs q → Held width (put_into into n rs) q
put_into_kept count w width None n q rs gives small h = h
put_into_kept count w width (Some r) n q rs gives small h = put_kept width rs r n q w (gives r refl).1 small h

pub put_into_new : (count w : ℕ) (width : ℕ → Option ℕ) (into : Option ℕ) (n q : ℕ) (rs : Registers) → count ≡ length rs → Gives count width into w → n < 2 ^ w → is_result q into ≡ true → Held width (put_into into n rs) q
put_into_new count w width None n q rs long gives small e = absurd (true≢false (sym e))
put_into_new count w width (Some r) n q rs long gives small e =
    let g : (r < count) × (width r ≡ Some w) = gives r refl in
    subst (λ (x : ℕ). Held width (put r n rs) x) (eqb-true r q e) (put_here width rs r n w (subst (λ (x : ℕ). r < x) long g.0) g.1 small)

-- ---- phis on an edge

-- the registers of the phis that a block begins with
abbrev pub moves_to : ℕ → List Move → Bool
moves_to r ms = list_any (λ (m : Move). is_result r m.0) ms

-- a phi's number is one of its register's width
abbrev pub MoveFits : ℕ → (ℕ → Option ℕ) → Move → Type 0
MoveFits count width m = (w : ℕ) × Gives count width m.0 w × (m.1 < 2 ^ w)

pub put_all_long : (ms : List Move) (rs : Registers) → length (put_all ms rs) ≡ length rs
put_all_long [] rs = refl
put_all_long (m ∷ ms) rs = put_all_long ms (put_into m.0 m.1 rs) ∙ put_into_long m.0 m.1 rs

pub put_all_kept : (count : ℕ) (width : ℕ → Option ℕ) (ms : List Move) (rs : Registers) (q : ℕ) → Each (MoveFits count width) ms → Held width rs q → Held width (put_all ms rs) q
put_all_kept count width [] rs q fits h = h
put_all_kept count width (m ∷ ms) rs q fits h =
    put_all_kept count width ms (put_into m.0 m.1 rs) q fits.1 (put_into_kept count fits.0.0 width m.0 m.1 q rs fits.0.1 fits.0.2 h)

pub put_all_new : (count : ℕ) (width : ℕ → Option ℕ) (ms : List Move) (rs : Registers) (q : ℕ) → count ≡ length rs → Each (MoveFits count width) ms → moves_to q ms ≡ true → Held width (put_all ms rs) q
put_all_new count width [] rs q long fits e = absurd (true≢false (sym e))
put_all_new count width (m ∷ ms) rs q long fits e = or2 (is_result q m.0) (moves_to q ms) e
    (λ h. put_all_kept count width ms (put_into m.0 m.1 rs) q fits.1 (put_into_new count fits.0.0 width m.0 m.1 q rs long fits.0.1 fits.0.2 h))
    (λ h. put_all_new count width ms (put_into m.0 m.1 rs) q (long ∙ sym (put_into_long m.0 m.1 rs)) fits.1 h)

-- what a phi takes behind a label is a use at the end of that label's block
pub taken_used : (l r : ℕ) (pairs : List (Operand × ℕ)) → taken l pairs ≡ Some (operand.Reg r) → Contains {X = ℕ × ℕ} (flat_map pair_use pairs) (r, l)
taken_used l r [] e = absurd (none-some (operand.Reg r) e)
taken_used l r (pair ∷ more) e = ⊎_elim
    (λ same.
    let it : pair.0 ≡ operand.Reg r = same_Some pair.0 (operand.Reg r) (sym (ap (λ (b : Bool). if b then Some pair.0 else taken l more) same) ∙ e) in
    let label : pair.1 ≡ l = eqb-true pair.1 l same in
    Contains-append_left (pair_use pair) (flat_map pair_use more) (r, l)
    (subst (λ (k : ℕ). Contains {X = ℕ × ℕ} (pair_use pair) (r, k)) label
    (subst (λ (o : Operand). Contains {X = ℕ × ℕ} (map (λ q. (q, pair.1)) (registers_of o)) (r, pair.1)) (sym it) (0, omega arith, refl))))
    (λ differ. Contains-append_right (pair_use pair) (flat_map pair_use more) (r, l) (taken_used l r more (sym (ap (λ (b : Bool). if b then Some pair.0 else taken l more) differ) ∙ e)))
    (cases (pair.1 == l))

-- the phis of a block take numbers behind a label
pub record Landing (p : Program) (count : ℕ) (width : ℕ → Option ℕ) (rs : Registers) (l : ℕ) (code : List Instr) : Type 0 where
  pub moves : List Move
  pub are : phi_moves p rs l code ≡ Some moves
  pub fit : Each (MoveFits count width) moves
  pub assign : (r : ℕ) → moves_to r moves ≡ assigns r (take (phi_count code) code)

-- each phi's register behind the label holds a number
abbrev pub PhisHeld : (ℕ → Option ℕ) → Registers → ℕ → List Instr → Type 0
PhisHeld width rs l code = (k : ℕ) (i : Instr) → slice_get code k ≡ Some i → (r : ℕ) → Contains {X = ℕ × ℕ} (phi_uses i.op) (r, l) → Held width rs r

module _ (p : Program) (count : ℕ) (width : ℕ → Option ℕ) (rs : Registers) (l : ℕ) where
  operand_held : (w : ℕ) (o : Operand) → Reads p width w o → ((r : ℕ) → o ≡ operand.Reg r → Held width rs r) → Has p rs w o
  operand_held w (operand.Reg r) reads h = has p width rs w (operand.Reg r) reads (λ q c. subst (λ (x : ℕ). Held width rs x) (only q c) (h r refl))
    where
      only : (q : ℕ) → Contains (r ∷ []) q → r ≡ q
      only q (zero, lt, e) = e
      only q (suc k, lt, e) = absurd (omega (arith, lt))
  operand_held w (operand.Const c) reads h = has p width rs w (operand.Const c) reads (λ q c. absurd (omega (arith, c.1)))

  one_phi : (into : Option ℕ) (inserted : Bool) (t : Ty) (pairs : List (Operand × ℕ)) (more : List Instr) → PhiFits p count width l into t pairs
      → ((r : ℕ) → Contains {X = ℕ × ℕ} (flat_map pair_use pairs) (r, l) → Held width rs r) → Landing p count width rs l more
      → Landing p count width rs l (record { result = into; inserted = inserted; op = op.Phi t pairs } ∷ more)
  unfolding assigns
  one_phi into inserted t pairs more fits h rest =
      let o : Has p rs (width_of p.layout t) fits.operand = operand_held (width_of p.layout t) fits.operand fits.reads (λ r e. h r (taken_used l r pairs (fits.is ∙ ap Some e))) in
      record {
        moves = (into, o.0) ∷ rest.moves;
        are = ap (λ (x : Option Operand). with_front (with_register into (given None x (operand_of p rs t))) (phi_moves p rs l more)) fits.is
            ∙ ap (λ (x : Option ℕ). with_front (with_register into x) (phi_moves p rs l more)) o.1
            ∙ ap (with_front (Some (into, o.0))) rest.are;
        fit = ((width_of p.layout t, fits.gives, o.2), rest.fit);
        assign = λ r. ap (λ (b : Bool). is_result r into || b) (rest.assign r);
      }

  land_op : (into : Option ℕ) (inserted : Bool) (o : Op) (more : List Instr) → FrontFits p count width l into o (EdgeFits p count width l more)
      → ((r : ℕ) → Contains {X = ℕ × ℕ} (phi_uses o) (r, l) → Held width rs r) → (EdgeFits p count width l more → Landing p count width rs l more)
      → Landing p count width rs l (record { result = into; inserted = inserted; op = o } ∷ more)
  unfolding phi_uses assigns
  land_op into inserted (op.Phi t pairs) more fits h rest = one_phi into inserted t pairs more fits.0 h (rest fits.1)
  land_op into inserted o more fits h rest = record { moves = []; are = refl; fit = tt; assign = λ r. refl }

  pub land : (code : List Instr) → EdgeFits p count width l code → PhisHeld width rs l code → Landing p count width rs l code
  unfolding assigns
  land [] fits h = record { moves = []; are = refl; fit = tt; assign = λ r. refl }
  land (i ∷ more) fits h = land_op i.result i.inserted i.op more fits (λ r c. h 0 i refl r c) (λ f. land more f (λ k j e r c. h (suc k) j e r c))

-- ---- behind the phis of a block stands an instruction, and no phi

-- a phi ends no block
phi_goes_on : (o : Op) → is_phi o ≡ true → is_terminator o ≡ false
phi_goes_on (op.Phi t pairs) e = refl
phi_goes_on (op.Binary x w a b) e = absurd (true≢false (sym e))
phi_goes_on (op.Compare x t a b) e = absurd (true≢false (sym e))
phi_goes_on (op.Cast x t a u) e = absurd (true≢false (sym e))
phi_goes_on (op.Freeze t a) e = absurd (true≢false (sym e))
phi_goes_on (op.Select c t a b) e = absurd (true≢false (sym e))
phi_goes_on (op.Alloca t c a) e = absurd (true≢false (sym e))
phi_goes_on (op.Load v t a) e = absurd (true≢false (sym e))
phi_goes_on (op.Store v t x a) e = absurd (true≢false (sym e))
phi_goes_on (op.Gep t a i) e = absurd (true≢false (sym e))
phi_goes_on (op.Call t c a) e = absurd (true≢false (sym e))
phi_goes_on (op.Br l) e = absurd (true≢false (sym e))
phi_goes_on (op.CondBr c l k) e = absurd (true≢false (sym e))
phi_goes_on (op.Switch w a l c) e = absurd (true≢false (sym e))
phi_goes_on (op.Ret v) e = absurd (true≢false (sym e))
phi_goes_on op.Unreachable e = absurd (true≢false (sym e))

-- the first instruction that is no phi
pub record Behind (code : List Instr) : Type 0 where
  pub instr : Instr
  pub is : slice_get code (phi_count code) ≡ Some instr
  pub plain : is_phi instr.op ≡ false

count_phi : (o : Op) (n : ℕ) → is_phi o ≡ true → one_more o n ≡ suc n
count_phi (op.Phi t pairs) n e = refl
count_phi (op.Binary x w a b) n e = absurd (true≢false (sym e))
count_phi (op.Compare x t a b) n e = absurd (true≢false (sym e))
count_phi (op.Cast x t a u) n e = absurd (true≢false (sym e))
count_phi (op.Freeze t a) n e = absurd (true≢false (sym e))
count_phi (op.Select c t a b) n e = absurd (true≢false (sym e))
count_phi (op.Alloca t c a) n e = absurd (true≢false (sym e))
count_phi (op.Load v t a) n e = absurd (true≢false (sym e))
count_phi (op.Store v t x a) n e = absurd (true≢false (sym e))
count_phi (op.Gep t a i) n e = absurd (true≢false (sym e))
count_phi (op.Call t c a) n e = absurd (true≢false (sym e))
count_phi (op.Br l) n e = absurd (true≢false (sym e))
count_phi (op.CondBr c l k) n e = absurd (true≢false (sym e))
count_phi (op.Switch w a l c) n e = absurd (true≢false (sym e))
count_phi (op.Ret v) n e = absurd (true≢false (sym e))
count_phi op.Unreachable n e = absurd (true≢false (sym e))

pub count_none : (o : Op) (n : ℕ) → is_phi o ≡ false → one_more o n ≡ zero
count_none (op.Phi t pairs) n e = absurd (true≢false e)
count_none o n e = refl

-- where each phi has something behind it
pub behind_phis : (code : List Instr) → 0 < length code → ((k : ℕ) (i : Instr) → slice_get code k ≡ Some i → is_phi i.op ≡ true → k + 1 < length code) → Behind code
behind_phis [] some more = absurd (omega (arith, some))
behind_phis (i ∷ code) some more = ⊎_elim
    (λ phi.
    let rest : Behind code = behind_phis code (let lt : 0 + 1 < length (i ∷ code) = more 0 i refl phi in omega (arith, lt)) (λ k j e f. let lt : suc k + 1 < length (i ∷ code) = more (suc k) j e f in omega (arith, lt)) in
    record { instr = rest.instr; is = ap (slice_get (i ∷ code)) (count_phi i.op (phi_count code) phi) ∙ rest.is; plain = rest.plain })
    (λ none. record { instr = i; is = ap (slice_get (i ∷ code)) (count_none i.op (phi_count code) none); plain = none })
    (cases (is_phi i.op))

-- ---- frames of a program

module _ (p : Program) (safe : IsSafe p) where
  module _ (f : Frame) (of : IsFrameOf p safe f) where
    abbrev pub fine : IsProper p of.function
    fine = safe.defined f.function of.function of.function_is of.is_defined

    -- what the instruction uses is held
    pub used : AreHeld fine.width f.registers (uses of.instr.op)
    unfolding uses_at
    used r c = of.holds r ((fine.paths f.block f.at).here of.before r of.path (subst (λ (o : Option Instr). Contains (uses_in o) r) (sym of.instr_is) c))

    -- the frame at the next place of its block
    pub further : is_terminator of.instr.op ≡ false → (rs : Registers) → length rs ≡ length f.registers → ((r : ℕ) → Held fine.width f.registers r → Held fine.width rs r)
        → ((r : ℕ) → is_result r of.instr.result ≡ true → Held fine.width rs r) → IsFrameOf p safe (record f { at = f.at + 1; registers = rs })
    further goes rs long old new =
        let next : (i : Instr) × (slice_get (code_of of.function f.block) (f.at + 1) ≡ Some i) = found (code_of of.function f.block) (f.at + 1) (fine.inner f.block f.at of.instr of.instr_is goes) in
        record {
          function = of.function;
          function_is = of.function_is;
          is_defined = of.is_defined;
          long = long ∙ of.long;
          instr = next.0;
          instr_is = next.1;
          plain = ⊎_elim (λ phi. absurd (true≢false (sym (fine.lead f.block f.at of.instr next.0 of.instr_is next.1 phi) ∙ of.plain))) (λ none. none) (cases (is_phi next.0.op));
          before = of.before;
          path = of.path;
          holds = λ r e. split of.function of.before f.block f.at of.instr of.instr_is r e (λ h. old r (of.holds r h)) (λ h. new r h);
          saved = of.saved;
        }

    -- with a result, and without
    pub assigning : is_terminator of.instr.op ≡ false → (w n : ℕ) → Gives (length of.function.registers) fine.width of.instr.result w → n < 2 ^ w → IsFrameOf p safe (given_result of.instr.result n f)
    assigning goes w n gives small = further goes (put_into of.instr.result n f.registers) (put_into_long of.instr.result n f.registers)
        (λ r h. put_into_kept (length of.function.registers) w fine.width of.instr.result n r f.registers gives small h)
        (λ r e. put_into_new (length of.function.registers) w fine.width of.instr.result n r f.registers (sym of.long) gives small e)

    none_read : (into : Option ℕ) (r : ℕ) → is_result r into ≡ true → Idle fine.width into → fine.width r ≡ None
    none_read None r e idle = absurd (true≢false (sym e))
    none_read (Some q) r e idle = subst (λ (x : ℕ). fine.width x ≡ None) (eqb-true q r e) (idle q refl)

    idle_held : (rs : Registers) (r : ℕ) → is_result r of.instr.result ≡ true → Idle fine.width of.instr.result → Held fine.width rs r
    idle_held rs r e idle w is = absurd (none-some w (sym (none_read of.instr.result r e idle) ∙ is))

    pub passing : is_terminator of.instr.op ≡ false → Idle fine.width of.instr.result → IsFrameOf p safe (moved f)
    passing goes idle = further goes f.registers refl (λ r h. h) (λ r e. idle_held f.registers r e idle)

    -- at the end of a block all that the block assigns is held, and the path goes on
    module _ (ends : is_terminator of.instr.op ≡ true) where
      pub whole : (r : ℕ) → assigned of.function (f.block ∷ of.before) r ≡ true → Held fine.width f.registers r
      whole r e =
          let end : f.at + 1 ≡ length (code_of of.function f.block) = fine.last f.block f.at of.instr of.instr_is ends in
          let all : take (f.at + 1) (code_of of.function f.block) ≡ code_of of.function f.block = take_all (f.at + 1) (code_of of.function f.block) (omega (arith, end)) in
          split of.function of.before f.block f.at of.instr of.instr_is r
          (ap (λ (l : List Instr). assigned of.function of.before r || assigns r l) all ∙ e)
          (λ h. of.holds r h)
          (λ h. idle_held f.registers r h (fine.idle f.block f.at of.instr of.instr_is ends))

  -- a frame of function g behind the phis of block b
  pub at_begin : (k : ℕ) (g : Function) (b saved : ℕ) (block : Block) (rs : Registers) (before : List ℕ) (is : function_at p k ≡ Some g) (def : is_declared g ≡ false) → slice_get g.blocks b ≡ Some block → PathTo g b before → IsOnStack saved
      → length rs ≡ length g.registers
      → ((r : ℕ) → assigned g before r ≡ true → Held (safe.defined k g is def).width rs r)
      → ((r : ℕ) → assigns r (take (phi_count block.instrs) block.instrs) ≡ true → Held (safe.defined k g is def).width rs r)
      → IsFrameOf p safe (record { function = k; block = b; at = phi_count block.instrs; registers = rs; saved = saved })
  unfolding code_of
  at_begin k g b saved block rs before is def block_is path on long old new =
      let good : IsProper p g = safe.defined k g is def in
      let code : code_of g b ≡ block.instrs = ap code_in block_is in
      let some : 0 < length block.instrs = subst (λ (l : List Instr). 0 < length l) code (good.some b (slice_get_within g.blocks b block block_is)) in
      let first : Behind block.instrs = behind_phis block.instrs some (λ j i e phi. subst (λ (l : List Instr). j + 1 < length l) code (good.inner b j i (ap (λ (l : List Instr). slice_get l j) code ∙ e) (phi_goes_on i.op phi))) in
      record {
        function = g;
        function_is = is;
        is_defined = def;
        long = long;
        instr = first.instr;
        instr_is = ap (λ (l : List Instr). slice_get l (phi_count block.instrs)) code ∙ first.is;
        plain = first.plain;
        before = before;
        path = path;
        holds = λ r e. or2 (assigned g before r) (assigns r (take (phi_count block.instrs) (code_of g b))) e (λ h. old r h)
            (λ h. new r (sym (ap (λ (l : List Instr). assigns r (take (phi_count block.instrs) l)) code) ∙ h));
        saved = on;
      }
