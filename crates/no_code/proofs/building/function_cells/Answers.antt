use Rattle.std.proofs.Common.{◌≡◌, ◌∙◌, ◌<◌, ℕ, List, length, get_or, refl, subst, ap, arith}
use Rattle.no_ir.specs.declared.function.Block.{Block}
use Rattle.no_code.specs.declared.frame.Frame.{Frame}
use Rattle.no_code.specs.Making.{PutsBlock, PutsBlocks}
use Rattle.no_code.specs.Source.{source}
use Rattle.no_code.proofs.Made.{blocks_more, blocks_none}
use Rattle.no_code.proofs.building.function_cells.Goals as goal

pub loop-b-init : goal.loop-b-init
loop-b-init c =
    let a = c.args in
    blocks_none (source a.from.program.now a.from.layout.now a.from.sizes.now a.from.addresses.now) a.g.now a.f a.base a.code.now

pub loop-b-preserved : goal.loop-b-preserved
loop-b-preserved c =
    let a = c.args in
    let s = source a.from.program.now a.from.layout.now a.from.sizes.now a.from.addresses.now in
    let block = c.index-blocks-b.result in
    let frame : Frame = record { registers = a.registers; base = a.base; label = block.label } in
    let lt : c.loop-b.b < length a.g.now.blocks = omega (arith, c.loop-b-test.true, c.len-b-end.ensures) in
    blocks_more s a.g.now frame a.f a.base c.loop-b.b block a.code.now c.loop-b.code c.block_cells.new.code refl lt
    (c.index-blocks-b.is ∙ ap (λ (l : List Block). get_or l c.loop-b.b block) c.as_slice-blocks.ensures) c.loop-b.invariant
    (subst (λ (n : ℕ). PutsBlock s a.g.now frame a.f n block (length block.instrs) c.loop-b.code c.block_cells.new.code) c.in_ok-number.ensures.0 c.in_ok-block_cells.ensures)

pub returns : goal.returns
returns c =
    let a = c.args in
    let all : c.loop-b.b ≡ length a.g.now.blocks = omega (arith, c.loop-b.auto.b-end, c.loop-b-test.false, c.len-b-end.ensures) in
    subst (λ (n : ℕ). PutsBlocks (source a.from.program.now a.from.layout.now a.from.sizes.now a.from.addresses.now) a.g.now a.f a.base n a.code.now c.loop-b.code) all c.loop-b.invariant
