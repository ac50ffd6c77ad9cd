-- Edges of an accepted function: each label that a block's last instruction names is a block's, and the phis there have an operand
-- for where the edge comes from.
use Rattle.std.proofs.Common.{◌≡◌, ⊎_elim, ℕ, zero, suc, ◌+◌, ◌-◌, ◌==◌, ◌&&◌, ◌||◌, nat_lt, cond, Bool, true, false, true≢false, eqb-true, eq-eqb, Option, Some, None, if◌then◌else◌, List, [], ◌∷◌, length, take, slice_get, Contains, refl, sym, ap, ◌∙◌, subst, arith}
use Rattle.std.specs.List.{list_all, filter}
use Rattle.std.proofs.lemmas.Bool.{or_parts}
use Rattle.std.proofs.lemmas.Cmp.{nat_eq_equiv}
use Rattle.std.proofs.lemmas.Option.{same_Some, none-some}
use Rattle.no_ir.specs.declared.types.Ty.{Ty}
use Rattle.no_ir.specs.declared.instruction.Operand.{Operand}
use Rattle.no_ir.specs.declared.instruction.Op.{Op}
use Rattle.no_ir.specs.declared.instruction.Op.TheVariants as op
use Rattle.no_ir.specs.declared.instruction.Instr.{Instr}
use Rattle.no_ir.specs.declared.function.Block.{Block}
use Rattle.no_ir.specs.declared.function.Function.{Function}
use Rattle.no_ir.specs.declared.function.Module.{Module}
use Rattle.no_verify_paths.specs.Paths.{code_of, first_from, block_of, exits, successors}
use Rattle.no_verify_structure.specs.Ending.{function_ending}
use Rattle.no_verify_structure.specs.Finding.{first_at, block_break}
use Rattle.no_verify_structure.specs.Names.{is_in, blocks_labels, labels_defined, registers_of}
use Rattle.no_module.specs.Instructions.{exits_in, exits_of, is_terminator, labels_of, pair_labels}
use Rattle.no_verify_structure.specs.Parts.{operands_keep}
use Rattle.no_verify_structure.specs.Phis.{block_exits, leads_to, predecessors, same_labels, pairs_agree, op_meets, phi_allowed, function_phis}
use Rattle.no_verify_structure.specs.Twice.{result_twice, registers_before, block_twice}
use Rattle.no_verify_structure.specs.Unknown.{place_known, instr_known, function_unknown}
use Rattle.no_semantics.specs.Control.{block_from, taken}
use Rattle.no_semantics.specs.Values.{Program}
use Rattle.no_progress.specs.Proper.{PhiFits, FrontFits, EdgeFits, IsTarget}
use Rattle.no_progress.proofs.Frames.{cases, or_left, or_right}
use Rattle.no_safe.proofs.Lists.{and_one, and_two, at_none, break_none, any_at, contained, contains_kept}
use Rattle.no_safe.proofs.Blocks.{InBlock, in_block, code_is, block_ended, phi_meets}

-- ---- blocks by their labels

-- the first block of a label, from n on
pub record Labelled (n : ℕ) (blocks : List Block) (l : ℕ) : Type 0 where
  pub number : ℕ
  pub is : first_from n blocks l ≡ Some number
  pub place : ℕ
  pub at_place : number ≡ n + place
  pub block : Block
  pub at : slice_get blocks place ≡ Some block
  pub label : block.label ≡ l

same_eqb : (a b : ℕ) → (a == b) ≡ (b == a)
same_eqb a b = nat_eq_equiv.symm a b

-- what is not the first is behind it
other : (a b : Bool) → a ≡ false → (a || b) ≡ true → b ≡ true
other true b f e = absurd (true≢false f)
other false b f e = e

label_found : (n : ℕ) (blocks : List Block) (l : ℕ) → is_in (blocks_labels blocks) l ≡ true → Labelled n blocks l
label_found n [] l e = absurd (true≢false (sym e))
label_found n (b ∷ bs) l e = ⊎_elim
    (λ same. record {
      number = n;
      is = ap (λ (t : Bool). if t then Some n else first_from (n + 1) bs l) same;
      place = 0;
      at_place = omega arith;
      block = b;
      at = refl;
      label = eqb-true b.label l same;
    })
    (λ differ. let more : Labelled (n + 1) bs l = label_found (n + 1) bs l (other (l == b.label) (is_in (blocks_labels bs) l) (same_eqb l b.label ∙ differ) e) in
    record {
      number = more.number;
      is = ap (λ (t : Bool). if t then Some n else first_from (n + 1) bs l) differ ∙ more.is;
      place = suc more.place;
      at_place = let p = more.at_place in omega (arith, p);
      block = more.block;
      at = more.at;
      label = more.label;
    })
    (cases (b.label == l))

same_number : (n : ℕ) (blocks : List Block) (l : ℕ) → block_from n blocks l ≡ first_from n blocks l
same_number n [] l = refl
same_number n (b ∷ bs) l = ap (λ (o : Option ℕ). if b.label == l then Some n else o) (same_number (n + 1) bs l)

-- a block whose label no block before it has is the first of its label
first_home : (n : ℕ) (blocks : List Block) (b m : ℕ) (from : Block) → slice_get blocks b ≡ Some from → is_in (blocks_labels (take b blocks)) from.label ≡ false → m ≡ n + b
    → first_from n blocks from.label ≡ Some m
first_home n [] b m from at new e = absurd (none-some from at)
first_home n (x ∷ xs) zero m from at new e =
    let same : x ≡ from = same_Some x from at in
    let here : n ≡ m = omega (arith, e) in
    ap (λ (t : Bool). if t then Some n else first_from (n + 1) xs from.label) (eq-eqb x.label from.label (ap (λ (y : Block). y.label) same)) ∙ ap Some here
first_home n (x ∷ xs) (suc b) m from at new e =
    let parts = or_parts (from.label == x.label) (is_in (blocks_labels (take b xs)) from.label) new in
    ap (λ (t : Bool). if t then Some n else first_from (n + 1) xs from.label) (same_eqb x.label from.label ∙ parts.0)
    ∙ first_home (n + 1) xs b m from at parts.1 (omega (arith, e))

-- the labels of blocks that pass a test
label_kept : (test : Block → Bool) (blocks : List Block) (b : ℕ) (from : Block) → slice_get blocks b ≡ Some from → test from ≡ true → is_in (blocks_labels (filter test blocks)) from.label ≡ true
label_kept test [] b from at e = absurd (none-some from at)
label_kept test (x ∷ xs) zero from at e =
    let same : x ≡ from = same_Some x from at in
    ap (λ (t : Bool). is_in (blocks_labels (cond t (x ∷ filter test xs) (filter test xs))) from.label) (ap test same ∙ e)
    ∙ or_left (from.label == x.label) (is_in (blocks_labels (filter test xs)) from.label) (eq-eqb from.label x.label (ap (λ (y : Block). y.label) (sym same)))
label_kept test (x ∷ xs) (suc b) from at e = behind (test x) (label_kept test xs b from at e)
  where
    behind : (t : Bool) → is_in (blocks_labels (filter test xs)) from.label ≡ true → is_in (blocks_labels (cond t (x ∷ filter test xs) (filter test xs))) from.label ≡ true
    behind true h = or_right (from.label == x.label) (is_in (blocks_labels (filter test xs)) from.label) h
    behind false h = h

-- ---- labels of a terminator

-- each label that leads on is named
exits_named : (labels : List ℕ) (o : Op) → list_all (is_in labels) (labels_of o) ≡ true → list_all (is_in labels) (exits_of o) ≡ true
unfolding exits_of
exits_named labels (op.Phi t pairs) e = refl
exits_named labels (op.Br l) e = e
exits_named labels (op.CondBr c l k) e = e
exits_named labels (op.Switch w a l cs) e = e
exits_named labels _ e = refl

all_in : (keeps : ℕ → Bool) (xs : List ℕ) (x : ℕ) → list_all keeps xs ≡ true → is_in xs x ≡ true → keeps x ≡ true
all_in keeps [] x e c = absurd (true≢false (sym c))
all_in keeps (y ∷ ys) x e c = ⊎_elim
    (λ same. subst (λ (z : ℕ). keeps z ≡ true) (sym (eqb-true x y same)) (and_one (keeps y) (list_all keeps ys) e))
    (λ differ. all_in keeps ys x (and_two (keeps y) (list_all keeps ys) e) (other (x == y) (is_in ys x) differ c))
    (cases (x == y))

-- an element at a place is among them
is_in_at : (xs : List ℕ) (k x : ℕ) → slice_get xs k ≡ Some x → is_in xs x ≡ true
is_in_at xs k x at = any_at (λ (y : ℕ). x == y) xs k x at (eq-eqb x x refl)

taken_found : (pairs : List (Operand × ℕ)) (l : ℕ) → is_in (pair_labels pairs) l ≡ true → (o : Operand) × (taken l pairs ≡ Some o)
taken_found [] l e = absurd (true≢false (sym e))
taken_found (pair ∷ more) l e = ⊎_elim
    (λ same. (pair.0, ap (λ (t : Bool). if t then Some pair.0 else taken l more) same))
    (λ differ. let rest = taken_found more l (other (l == pair.1) (is_in (pair_labels more) l) (same_eqb l pair.1 ∙ differ) e) in
    (rest.0, ap (λ (t : Bool). if t then Some pair.0 else taken l more) differ ∙ rest.1))
    (cases (pair.1 == l))

-- ---- targets

-- what is found nowhere in a function, and that its blocks' labels are its own
pub record IsShaped (m : Module) (g : Function) : Type 0 where
  pub ending : function_ending g ≡ None
  pub phis : function_phis g ≡ None
  pub known : function_unknown m g ≡ None
  pub once : first_at (block_twice g) 0 g.blocks ≡ None
  pub labels : (b : ℕ) (block : Block) → slice_get g.blocks b ≡ Some block → nat_lt block.label (length g.labels) ≡ true

-- each phi of the function that takes an operand behind a label takes one that fits
abbrev pub PhisTake : Program → Function → (ℕ → Option ℕ) → Type 0
PhisTake p g width =
    (b k : ℕ) (i : Instr) → slice_get (code_of g b) k ≡ Some i → (t : Ty) (pairs : List (Operand × ℕ)) → i.op ≡ op.Phi t pairs → (l : ℕ) (o : Operand) → taken l pairs ≡ Some o
    → PhiFits p (length g.registers) width l i.result t pairs

edge_fits : (p : Program) (count : ℕ) (width : ℕ → Option ℕ) (l : ℕ) (code : List Instr)
    → ((k : ℕ) (i : Instr) → slice_get code k ≡ Some i → (t : Ty) (pairs : List (Operand × ℕ)) → i.op ≡ op.Phi t pairs → PhiFits p count width l i.result t pairs) → EdgeFits p count width l code
edge_fits p count width l [] h = tt
edge_fits p count width l (i ∷ more) h = front i.op refl (edge_fits p count width l more (λ k j at. h (suc k) j at))
  where
    front : (o : Op) → i.op ≡ o → EdgeFits p count width l more → FrontFits p count width l i.result o (EdgeFits p count width l more)
    front (op.Phi t pairs) e rest = (h 0 i refl t pairs e, rest)
    front _ e rest = tt

not_twice : (t : Bool) (o : Option ℕ) → (if t then Some 0 else o) ≡ None → t ≡ false
not_twice true o e = absurd (none-some {A = ℕ} 0 (sym e))
not_twice false o e = refl

module _ (p : Program) (m : Module) (g : Function) (s : IsShaped m g) where
  home : (b : ℕ) (from : Block) → slice_get g.blocks b ≡ Some from → block_of g from.label ≡ Some b
  unfolding block_of
  home b from is =
      let new : is_in (blocks_labels (take b g.blocks)) from.label ≡ false =
      not_twice (is_in (blocks_labels (take b g.blocks)) from.label) (result_twice (registers_before g b) from.instrs) (at_none (block_twice g) 0 g.blocks s.once b b from is (omega arith)) in
      first_home 0 g.blocks b b from is new (omega arith)

  named : (b k : ℕ) (block : Block) (i : Instr) → slice_get g.blocks b ≡ Some block → slice_get block.instrs k ≡ Some i → list_all (is_in (labels_defined g)) (labels_of i.op) ≡ true
  named b k block i is at =
      let keeps : Instr → Bool = instr_known m (registers_of g) (labels_defined g) in
      and_two (operands_keep (is_in (registers_of g)) (place_known m) i.op) (list_all (is_in (labels_defined g)) (labels_of i.op))
      (break_none (λ j. keeps) 0 block.instrs (at_none (λ c. block_break keeps) 0 g.blocks s.known b b block is (omega arith)) k k i at (omega arith))

  -- a block that leads to a label is one of its predecessors
  precedes : (b l : ℕ) (from : Block) → slice_get g.blocks b ≡ Some from → nat_lt l (length g.labels) ≡ true → is_in (block_exits from) l ≡ true → is_in (predecessors g l) from.label ≡ true
  precedes b l from is lt leads =
      ap (λ (t : Bool). is_in (if t then blocks_labels (filter (leads_to l) g.blocks) else []) from.label) lt ∙ label_kept (leads_to l) g.blocks b from is leads

  -- a phi has an operand for each predecessor
  takes : (b k l : ℕ) (block : Block) (i : Instr) (t : Ty) (pairs : List (Operand × ℕ)) → slice_get g.blocks b ≡ Some block → slice_get block.instrs k ≡ Some i → i.op ≡ op.Phi t pairs
      → is_in (predecessors g block.label) l ≡ true → (o : Operand) × (taken l pairs ≡ Some o)
  takes b k l block i t pairs is at e before =
      let allowed : Bool = phi_allowed b (take k block.instrs) in
      let meets : op_meets (predecessors g block.label) allowed (op.Phi t pairs) ≡ true =
      subst (λ (o : Op). op_meets (predecessors g block.label) allowed o ≡ true) e (phi_meets g s.phis b block is k i at) in
      let same : same_labels (pair_labels pairs) (predecessors g block.label) ≡ true =
      and_one (same_labels (pair_labels pairs) (predecessors g block.label)) (pairs_agree pairs)
      (and_two allowed (same_labels (pair_labels pairs) (predecessors g block.label) && pairs_agree pairs) meets) in
      taken_found pairs l (all_in (is_in (pair_labels pairs)) (predecessors g block.label) l
      (and_two (list_all (is_in (predecessors g block.label)) (pair_labels pairs)) (list_all (is_in (pair_labels pairs)) (predecessors g block.label)) same) before)

  pub target : (width : ℕ → Option ℕ) → PhisTake p g width → (b k : ℕ) (i : Instr) → slice_get (code_of g b) k ≡ Some i → is_terminator i.op ≡ true → (l : ℕ) → Contains (exits_of i.op) l
      → IsTarget p g width b l
  unfolding block_of successors exits
  target width phi b k i at ends l c =
      let h : InBlock g b k i = in_block g b k i at in
      let code : code_of g b ≡ h.block.instrs = code_is g b h.block h.is in
      let last : k + 1 ≡ length h.block.instrs = (block_ended g s.ending b h.block h.is).last k i h.at ends in
      let place : k ≡ length h.block.instrs - 1 = omega (arith, last) in
      let final : slice_get h.block.instrs (length h.block.instrs - 1) ≡ Some i = ap (slice_get h.block.instrs) (sym place) ∙ h.at in
      let named_at : (j : ℕ) × (slice_get (exits_of i.op) j ≡ Some l) = contained (exits_of i.op) l c in
      let exit : is_in (exits_of i.op) l ≡ true = is_in_at (exits_of i.op) named_at.0 l named_at.1 in
      let to : Labelled 0 g.blocks l = label_found 0 g.blocks l (all_in (is_in (labels_defined g)) (exits_of i.op) l (exits_named (labels_defined g) i.op (named b k h.block i h.is h.at)) exit) in
      let to_place : to.number ≡ to.place = let e = to.at_place in omega (arith, e) in
      let block_is : slice_get g.blocks to.number ≡ Some to.block = ap (slice_get g.blocks) to_place ∙ to.at in
      let exits_are : exits_in (slice_get (code_of g b) (length (code_of g b) - 1)) ≡ exits_of i.op =
      ap (λ (xs : List Instr). exits_in (slice_get xs (length xs - 1))) code ∙ ap exits_in final in
      let leads : is_in (block_exits h.block) to.block.label ≡ true = ap (λ (x : ℕ). is_in (block_exits h.block) x) to.label ∙ ap (λ (o : Option Instr). is_in (exits_in o) l) final ∙ exit in
      let before : is_in (predecessors g to.block.label) h.block.label ≡ true = precedes b to.block.label h.block h.is (s.labels to.number to.block block_is) leads in
      record {
        from = h.block;
        from_is = h.is;
        home = home b h.block h.is;
        to = to.number;
        to_is = same_number 0 g.blocks l ∙ to.is;
        block = to.block;
        block_is = block_is;
        follows = contains_kept (block_of g) (exits g b) named_at.0 l to.number (ap (λ (xs : List ℕ). slice_get xs named_at.0) exits_are ∙ named_at.1) to.is;
        phis = edge_fits p (length g.registers) width h.block.label to.block.instrs (λ n j is t pairs e.
            let o = takes to.number n h.block.label to.block j t pairs block_is is e before in
            phi to.number n j (ap (λ (xs : List Instr). slice_get xs n) (code_is g to.number to.block block_is) ∙ is) t pairs e h.block.label o.0 o.1);
      }
