use Rattle.std.proofs.Common.{◌≡◌, true, rules, subst, List}
use Rattle.no_ir.specs.declared.instruction.Instr.{Instr}
use Rattle.no_code.specs.Coded.{is_phi}
use Rattle.no_code.specs.Making.{PutsMoves}
use Rattle.no_code.specs.Source.{source}
use Rattle.no_code.proofs.Joins.{heads_all, heads_more, heads_none, moves_more, moves_none}
use Rattle.no_code.proofs.edges.moves.Goals as goal

pub loop-i-init : goal.loop-i-init
loop-i-init c =
    let a = c.args in
    record { heads = heads_none a.instrs.now; puts = moves_none (source a.from.program.now a.from.layout.now a.from.sizes.now a.from.addresses.now) a.g.now a.frame a.code.now a.instrs.now }

pub loop-i-preserved : goal.loop-i-preserved
loop-i-preserved c =
    let a = c.args in
    let phi : is_phi c.i-item.result.op ≡ true = search rules in
    record {
      heads = heads_more a.instrs.now c.loop-i.i-index c.i-item.result c.loop-i-test.true c.i-item.is phi c.loop-i.invariant.heads;
      puts = moves_more (source a.from.program.now a.from.layout.now a.from.sizes.now a.from.addresses.now) a.g.now a.frame a.code.now c.loop-i.code c.source_of.new.code c.put_move.new.code a.instrs.now c.loop-i.i-index c.i-item.result
          (record { into = c.into.result; from = c.in_ok-x.x }) c.loop-i-test.true c.i-item.is c.loop-i.invariant.puts c.in_ok-x.ensures.0 c.into.ensures c.in_ok-x.ensures.1 c.in_ok-put_move.ensures;
    }

pub returns : goal.returns
returns c =
    let a = c.args in
    subst (λ (l : List Instr). PutsMoves (source a.from.program.now a.from.layout.now a.from.sizes.now a.from.addresses.now) a.g.now a.frame a.code.now c.loop-i.code l) (heads_all a.instrs.now c.loop-i.i-index c.loop-i-test.false c.loop-i.invariant.heads) c.loop-i.invariant.puts
