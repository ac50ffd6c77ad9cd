use Rattle.std.proofs.Common.{◌≡◌, ◌∙◌, ℕ, List, length, get_or, subst, ap, arith}
use Rattle.no_ir.specs.declared.instruction.Instr.{Instr}
use Rattle.no_code.specs.declared.code.Place.{Place}
use Rattle.no_code.specs.Making.{PutsBlock}
use Rattle.no_code.specs.Source.{source}
use Rattle.no_code.proofs.Made.{block_more, block_none}
use Rattle.no_code.proofs.building.block_cells.Goals as goal

pub loop-k-init : goal.loop-k-init
loop-k-init c =
    let a = c.args in
    block_none (source a.from.program.now a.from.layout.now a.from.sizes.now a.from.addresses.now) a.g.now a.frame a.f a.b a.block.now a.code.now

pub loop-k-preserved : goal.loop-k-preserved
loop-k-preserved c =
    let a = c.args in
    let i = c.index-instrs-k.result in
    let place : Place = record { function = a.f; block = a.b; at = c.in_ok-at.at; inserted = i.inserted } in
    block_more (source a.from.program.now a.from.layout.now a.from.sizes.now a.from.addresses.now) a.g.now a.frame a.f a.b a.block.now c.loop-k.k a.code.now c.loop-k.code c.make_cell.new.code i place c.requires.registers c.requires.label c.requires.cells c.requires.places
    (c.index-instrs-k.is ∙ ap (λ (l : List Instr). get_or l c.loop-k.k i) c.as_slice-instrs.ensures)
    (ap (λ (n : ℕ). let one : Place = record { function = a.f; block = a.b; at = n; inserted = i.inserted } in one) c.in_ok-at.ensures.0) c.loop-k.invariant c.in_ok-make_cell.ensures

pub returns : goal.returns
returns c =
    let a = c.args in
    let all : c.loop-k.k ≡ length a.block.now.instrs = omega (arith, c.loop-k.auto.k-end, c.loop-k-test.false, c.len-k-end.ensures) in
    subst (λ (n : ℕ). PutsBlock (source a.from.program.now a.from.layout.now a.from.sizes.now a.from.addresses.now) a.g.now a.frame a.f a.b a.block.now n a.code.now c.loop-k.code) all c.loop-k.invariant
