-- How blocks of an accepted function begin and end: one terminator, as the last instruction, and phis first.
use Rattle.std.proofs.Common.{◌≡◌, ⊎_elim, ℕ, ◌+◌, ◌-◌, ◌<◌, ◌≤◌, ◌==◌, ◌&&◌, nat_lt, not, Bool, true, false, true≢false, eqb-true, Option, Some, None, if◌then◌else◌, List, length, take, slice_get, refl, sym, ap, ◌∙◌, subst, arith}
use Rattle.std.specs.List.{list_all}
use Rattle.std.proofs.Math.Nat.{eq-or-lt_of_le}
use Rattle.std.proofs.lemmas.Bool.{false_from_ne_true}
use Rattle.std.proofs.lemmas.Option.{same_Some, none-some, slice_get_within}
use Rattle.no_ir.specs.declared.instruction.Op.{Op}
use Rattle.no_ir.specs.declared.instruction.Op.TheVariants as op
use Rattle.no_ir.specs.declared.instruction.Instr.{Instr}
use Rattle.no_ir.specs.declared.function.Block.{Block}
use Rattle.no_ir.specs.declared.function.Function.{Function}
use Rattle.no_verify_paths.specs.Paths.{code_in, code_of}
use Rattle.no_module.specs.Instructions.{is_phi, is_terminator, pair_labels}
use Rattle.no_verify_structure.specs.Ending.{first_terminator, ending_fault, block_ending, function_ending}
use Rattle.no_verify_structure.specs.Phis.{same_labels, pairs_agree, op_meets, phi_allowed, predecessors, block_phis, function_phis}
use Rattle.no_progress.proofs.Frames.{cases}
use Rattle.no_safe.proofs.Lists.{and_one, and_two, not_of, not_not, at_none, Broken, break_none, break_some, all_at, taken_at}

-- ---- an instruction in its block

pub record InBlock (g : Function) (b k : ℕ) (i : Instr) : Type 0 where
  pub block : Block
  pub is : slice_get g.blocks b ≡ Some block
  pub at : slice_get block.instrs k ≡ Some i

pub in_block : (g : Function) (b k : ℕ) (i : Instr) → slice_get (code_of g b) k ≡ Some i → InBlock g b k i
unfolding code_of
in_block g b k i e = by (slice_get g.blocks b) refl e
  where
    by : (o : Option Block) → slice_get g.blocks b ≡ o → slice_get (code_in o) k ≡ Some i → InBlock g b k i
    by None is e = absurd (none-some i e)
    by (Some block) is e = record { block = block; is = is; at = e }

pub code_is : (g : Function) (b : ℕ) (block : Block) → slice_get g.blocks b ≡ Some block → code_of g b ≡ block.instrs
unfolding code_of
code_is g b block is = ap code_in is

-- ---- ends

-- a block has a last instruction, which is the only one that ends a block
pub record IsEnded (code : List Instr) : Type 0 where
  pub some : 0 < length code
  pub inner : (k : ℕ) (i : Instr) → slice_get code k ≡ Some i → is_terminator i.op ≡ false → k + 1 < length code
  pub last : (k : ℕ) (i : Instr) → slice_get code k ≡ Some i → is_terminator i.op ≡ true → k + 1 ≡ length code

module _ (code : List Instr) where
  ended_at : (n : ℕ) → Broken (λ i (instr : Instr). not (is_terminator instr.op)) code 0 n → n + 1 ≡ length code → IsEnded code
  ended_at n b e = record {
    some = omega (arith, e);
    inner = λ k i at goes. ⊎_elim
        (λ same. absurd (true≢false (sym (ends k i at same) ∙ goes)))
        (λ less. omega (arith, e, less))
        (eq-or-lt_of_le (within k i at));
    last = λ k i at ends'. ⊎_elim
        (λ same. omega (arith, e, same))
        (λ less. let p = place in
        absurd (true≢false (sym ends' ∙ not_of (is_terminator i.op) (b.before k k i (omega (arith, less, p)) at (omega arith)))))
        (eq-or-lt_of_le (within k i at));
  }
    where
      place : b.place ≡ n
      place = let is = b.is in omega (arith, is)

      within : (k : ℕ) (i : Instr) → slice_get code k ≡ Some i → k ≤ n
      within k i at = let lt = slice_get_within code k i at in omega (arith, e, lt)

      ends : (k : ℕ) (i : Instr) → slice_get code k ≡ Some i → k ≡ n → is_terminator i.op ≡ true
      ends k i at same =
          let element : b.element ≡ i = same_Some b.element i (sym b.at ∙ ap (slice_get code) (place ∙ sym same) ∙ at) in
          not_not (is_terminator i.op) (subst (λ (x : Instr). not (is_terminator x.op) ≡ false) element b.breaks)

  ended_by : (o : Option ℕ) → first_terminator code ≡ o → ending_fault (length code) o ≡ None → IsEnded code
  ended_by None is e = absurd (none-some (length code - 1) (sym e))
  ended_by (Some n) is e = ⊎_elim
      (λ same. ended_at n (break_some (λ i (instr : Instr). not (is_terminator instr.op)) 0 code n is) (eqb-true (n + 1) (length code) same))
      (λ differ. absurd (none-some n (sym e ∙ ap (λ (b : Bool). if b then None else Some n) differ)))
      (cases (n + 1 == length code))

pub block_ended : (g : Function) → function_ending g ≡ None → (b : ℕ) (block : Block) → slice_get g.blocks b ≡ Some block → IsEnded block.instrs
block_ended g e b block at = ended_by block.instrs (first_terminator block.instrs) refl (at_none (λ b. block_ending) 0 g.blocks e b b block at (omega arith))

-- ---- phis

pub phi_meets : (g : Function) → function_phis g ≡ None → (b : ℕ) (block : Block) → slice_get g.blocks b ≡ Some block → (k : ℕ) (i : Instr) → slice_get block.instrs k ≡ Some i
    → op_meets (predecessors g block.label) (phi_allowed b (take k block.instrs)) i.op ≡ true
phi_meets g e b block is k i at =
    break_none (λ j (instr : Instr). op_meets (predecessors g block.label) (phi_allowed b (take j block.instrs)) instr.op) 0 block.instrs
    (at_none (block_phis g) 0 g.blocks e b b block is (omega arith)) k k i at (omega arith)

-- what a phi meets
pub allowed_phi : (before : List ℕ) (allowed : Bool) (o : Op) → op_meets before allowed o ≡ true → is_phi o ≡ true → allowed ≡ true
allowed_phi before allowed (op.Phi t pairs) e phi = and_one allowed (same_labels (pair_labels pairs) before && pairs_agree pairs) e
allowed_phi before allowed _ e phi = absurd (true≢false (sym phi))

-- the entry has no phi
pub entry_plain : (g : Function) → function_phis g ≡ None → (i : Instr) → slice_get (code_of g 0) 0 ≡ Some i → is_phi i.op ≡ false
entry_plain g e i at =
    let h = in_block g 0 0 i at in
    false_from_ne_true (is_phi i.op) (λ phi.
    let allowed = allowed_phi (predecessors g h.block.label) (phi_allowed 0 (take 0 h.block.instrs)) i.op (phi_meets g e 0 h.block h.is 0 i h.at) phi in
    true≢false (sym (and_one (nat_lt 0 0) (list_all (λ (i : Instr). is_phi i.op) (take 0 h.block.instrs)) allowed)))

-- before a phi stands a phi
pub phis_lead : (g : Function) → function_phis g ≡ None → (b k : ℕ) (i j : Instr) → slice_get (code_of g b) k ≡ Some i → slice_get (code_of g b) (k + 1) ≡ Some j → is_phi j.op ≡ true → is_phi i.op ≡ true
phis_lead g e b k i j at next phi =
    let h = in_block g b (k + 1) j next in
    let before : slice_get h.block.instrs k ≡ Some i = ap (λ (l : List Instr). slice_get l k) (sym (code_is g b h.block h.is)) ∙ at in
    let allowed = allowed_phi (predecessors g h.block.label) (phi_allowed b (take (k + 1) h.block.instrs)) j.op (phi_meets g e b h.block h.is (k + 1) j h.at) phi in
    let all = and_two (nat_lt 0 b) (list_all (λ (i : Instr). is_phi i.op) (take (k + 1) h.block.instrs)) allowed in
    all_at (λ (i : Instr). is_phi i.op) (take (k + 1) h.block.instrs) all k i (taken_at (k + 1) h.block.instrs k i (omega arith) before)
