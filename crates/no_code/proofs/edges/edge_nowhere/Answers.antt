use Rattle.std.proofs.Common.{refl}
use Rattle.no_code.specs.Source.{source}
use Rattle.no_code.proofs.Joins.{edge_nowhere_stays}
use Rattle.no_code.proofs.edges.edge_nowhere.Goals as goal

pub returns : goal.returns
returns c =
    let a = c.args in
    edge_nowhere_stays (source a.from.program.now a.from.layout.now a.from.sizes.now a.from.addresses.now) a.g.now a.frame a.code.now c.put_edge.new.code (record { target = 0; from = c.in_ok-at.at; to = c.in_ok-at.at }) a.to c.in_ok-e.e c.requires.nowhere c.in_ok-e.ensures.0 c.in_ok-e.ensures.1 refl refl
