use Rattle.std.proofs.Common.{arith}
use Rattle.no_layout.proofs.NamedTypes.{type_large, table_more, types_fit}
use Rattle.no_layout.proofs.layout.Layout.sizes.Goals as goal

pub returns-in-None : goal.returns-in-None
returns-in-None c =
    let lt = rw c.as_slice-named-items.ensures at c.loop-named-test.true in
    let is = rw c.as_slice-named-items.ensures at c.named-item.is in
    type_large c.args.self.now c.args.types.now c.loop-named.named-index c.named-item.result c.loop-named.sizes lt is c.loop-named.invariant.numbers c.loop-named.number c.loop-named.invariant.number c.in-None.ensures c.loop-named.invariant.fit

pub loop-named-preserved : goal.loop-named-preserved
loop-named-preserved c =
    let lt = rw c.as_slice-named-items.ensures at c.loop-named-test.true in
    let is = rw c.as_slice-named-items.ensures at c.named-item.is in
    record {
      number = omega arith;
      numbers = table_more c.args.self.now c.args.types.now c.loop-named.named-index c.named-item.result c.loop-named.sizes lt is c.loop-named.invariant.numbers c.in-Some.extent _ c.in-Some.ensures c.in_ok-push-in-Some.ensures.ok;
      fit = types_fit c.args.self.now c.args.types.now c.loop-named.named-index c.named-item.result c.loop-named.sizes lt is c.loop-named.invariant.numbers c.in-Some.extent c.in-Some.ensures c.loop-named.invariant.fit;
    }
