use Rattle.std.proofs.Common.{◌≡◌, ◌∙◌, ◌+◌, ◌-◌, length, arith, subst, List}
use Rattle.no_ir.specs.declared.instruction.Instr.{Instr}
use Rattle.no_code.specs.Making.{PutsMoves}
use Rattle.no_code.specs.Coded.{before, phis}
use Rattle.no_code.specs.Source.{source}
use Rattle.no_code.proofs.Joins.{edge_to_stays}
use Rattle.no_code.proofs.edges.edge_to.Goals as goal

pub returns : goal.returns
returns c =
    let a = c.args in
    let mid = c.moves.new.code in
    let first : c.in_ok-first.first ≡ length a.code.now.moves = c.in_ok-first.ensures.0 ∙ c.len.ensures in
    let last : c.in_ok-last.last ≡ length mid.moves = c.in_ok-last.ensures.0 ∙ c.len-2.ensures in
    let target : c.in_ok-target.target ≡ a.frame.base + before a.g.now.blocks a.b + length mid.moves - length a.code.now.moves = omega (arith, c.in_ok-target.ensures.0, c.start_of-start.ensures, c.len-3.ensures, first) in
    edge_to_stays (source a.from.program.now a.from.layout.now a.from.sizes.now a.from.addresses.now) a.g.now a.frame a.code.now mid c.put_edge.new.code (record { target = c.in_ok-target.target; from = c.in_ok-first.first; to = c.in_ok-last.last }) a.to c.in_ok-e.e a.b a.block.now
    c.requires.is c.requires.leads (subst (λ (l : List Instr). PutsMoves (source a.from.program.now a.from.layout.now a.from.sizes.now a.from.addresses.now) a.g.now a.frame a.code.now mid (phis l)) c.as_slice.ensures c.in_ok-moves.ensures) c.in_ok-e.ensures.0 c.in_ok-e.ensures.1 first last target
