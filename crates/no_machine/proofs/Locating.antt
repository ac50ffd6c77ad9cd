-- The instruction and the cell at which a machine stands.
use Rattle.std.proofs.Common.{◌≡◌, ℕ, Bool, true, false, List, length, slice_get, Option, Some, None, refl, sym, ap, subst, ◌∙◌}
use Rattle.std.specs.Option.{IfSome}
use Rattle.std.proofs.lemmas.Option.{slice_get_within}
use Rattle.no_ir.specs.declared.function.Block.{Block}
use Rattle.no_ir.specs.declared.function.Function.{Function}
use Rattle.no_ir.specs.declared.instruction.Instr.{Instr}
use Rattle.no_semantics.specs.Acting.{row, row_of_instr, row_of_op}
use Rattle.no_semantics.specs.Registers.{given}
use Rattle.no_semantics.specs.Rows.{charged, stuck}
use Rattle.no_semantics.specs.Sound.{block_fits, is_sound, op_fits}
use Rattle.no_semantics.specs.States.{HasNoMarks, State, block_at, block_in, instr_at}
use Rattle.no_semantics.specs.Values.{Program}
use Rattle.no_semantics.proofs.Facts.{block_fits_in}
use Rattle.no_code.specs.Coded.{IsCell, first_cell}
use Rattle.no_code.specs.Whole.{IsCode, HasCell}
use Rattle.no_code.specs.declared.code.Cell.{Cell}
use Rattle.no_code.specs.declared.code.Code.{Code}
use Rattle.no_code.specs.declared.code.Place.{Place}
use Rattle.no_machine.specs.Standing.{IsFrameAt, source_of}
use Rattle.no_machine.proofs.Going.{Live}
use Rattle.no_machine.proofs.Lists.{each_at}

some_of : {A B : Type 0} (o : Option A) (f : A → Option B) (n : B) → given None o f ≡ Some n → (a : A) × (o ≡ Some a) × (f a ≡ Some n)
some_of None f n e = absurd cc
some_of (Some a) f n e = (a, refl, e)

live_instr : (p : Program) (s : State) → Live (row p s) → (i : Instr) × (instr_at p s.frame ≡ Some i)
unfolding row
live_instr p s live = of (instr_at p s.frame) live
  where
    of : (o : Option Instr) → Live (given stuck o (row_of_instr p s)) → (i : Instr) × (o ≡ Some i)
    of None live = absurd (live refl)
    of (Some i) live = (i, refl)

row_at : (p : Program) (s : State) (i : Instr) → instr_at p s.frame ≡ Some i → i.inserted ≡ false → row p s ≡ row_of_op p i.result i.op s
unfolding row
row_at p s i is unmarked = ap (λ (o : Option Instr). given stuck o (row_of_instr p s)) is ∙ ap (λ (b : Bool). charged b (row_of_op p i.result i.op s)) unmarked

-- the instruction and the cell at which a frame stands
pub record Current (p : Program) (code : Code) (s : State) (at : ℕ) (window : List ℕ) (here : IsFrameAt p.«module» s.frame at window) : Type 0 where
  pub from : Block
  pub from_is : slice_get here.function.blocks s.frame.block ≡ Some from
  pub instr : Instr
  pub instr_is : instr_at p s.frame ≡ Some instr
  pub row_is : row p s ≡ row_of_op p instr.result instr.op s
  pub live : Live (row_of_op p instr.result instr.op s)
  pub cell : Cell
  pub cell_is : slice_get code.cells at ≡ Some cell
  pub place : Place
  pub place_is : slice_get code.places at ≡ Some place
  pub function_is : place.function ≡ s.frame.function
  pub block_is : place.block ≡ s.frame.block
  pub at_is : place.at ≡ s.frame.at
  pub means : IsCell (source_of p) (length s.frame.registers) code here.function (first_cell p.«module».functions s.frame.function) from.label instr cell
  pub fits : op_fits p.«module» p.layout p.sizes instr.op ≡ true
  pub blocks : (b : ℕ) (block : Block) → slice_get here.function.blocks b ≡ Some block → block_fits p.«module» p.layout p.sizes block ≡ true

module _ (p : Program) (sound : is_sound p.«module» p.layout p.sizes ≡ true) (code : Code) (is : IsCode (source_of p) code) (marks : HasNoMarks p.«module») (s : State) (at : ℕ) (window : List ℕ) (here : IsFrameAt p.«module» s.frame at window) where
  block_is : (b : ℕ) → block_in p.«module» s.frame.function b ≡ slice_get here.function.blocks b
  block_is b = ap (λ (o : Option Function). given None o (λ (f : Function). slice_get f.blocks b)) here.is

  blocks_fit : (b : ℕ) (block : Block) → slice_get here.function.blocks b ≡ Some block → block_fits p.«module» p.layout p.sizes block ≡ true
  blocks_fit b block e = subst (λ (o : Option Block). IfSome o (λ (x : Block). block_fits p.«module» p.layout p.sizes x ≡ true)) (block_is b ∙ e) (block_fits_in p.«module» p.layout p.sizes s.frame.function b sound)

  pub current : Live (row p s) → Current p code s at window here
  current live =
      let instr = live_instr p s live in
      let in_block = some_of (block_at p s.frame.function s.frame.block) (λ (b : Block). slice_get b.instrs s.frame.at) instr.0 instr.1 in
      let from : Block = in_block.0 in
      let from_is : slice_get here.function.blocks s.frame.block ≡ Some from = sym (block_is s.frame.block) ∙ in_block.1 in
      let fits = blocks_fit s.frame.block from from_is in
      let base = first_cell p.«module».functions s.frame.function in
      let has : HasCell (source_of p) code s.frame.function here.function base s.frame.block from s.frame.at instr.0 =
      (is.functions s.frame.function here.function here.is).blocks s.frame.block s.frame.at from instr.0 (slice_get_within here.function.blocks s.frame.block from from_is) from_is in_block.2 in
      let row_is = row_at p s instr.0 instr.1 (marks s.frame.function s.frame.block s.frame.at instr.0 instr.1) in
      record {
        from = from;
        from_is = from_is;
        instr = instr.0;
        instr_is = instr.1;
        row_is = row_is;
        live = subst Live row_is live;
        cell = has.cell;
        cell_is = ap (slice_get code.cells) here.place ∙ has.is;
        place = record { function = s.frame.function; block = s.frame.block; at = s.frame.at; inserted = instr.0.inserted };
        place_is = ap (slice_get code.places) here.place ∙ has.stands;
        function_is = refl;
        block_is = refl;
        at_is = refl;
        means = subst (λ (k : ℕ). IsCell (source_of p) k code here.function base from.label instr.0 has.cell) (sym here.long) has.means;
        fits = each_at (λ (i : Instr). op_fits p.«module» p.layout p.sizes i.op) from.instrs s.frame.at instr.0 fits in_block.2;
        blocks = blocks_fit;
      }
