use Rattle.std.proofs.Common.{◌≡◌, length, arith, subst, ℕ}
use Rattle.no_calls.specs.Spreading.{IsListedTo}
use Rattle.no_calls.proofs.Walking.{listed_none}
use Rattle.no_calls.proofs.reached.listed.Goals as goal

pub loop-k-init : goal.loop-k-init
loop-k-init c = listed_none c.args.far.now c.new-ks.result c.new-ks.ensures

pub loop-k-preserved : goal.loop-k-preserved
loop-k-preserved c = c.in_ok-list_found.ensures c.loop-k.invariant

pub returns : goal.returns
returns c =
    let all : c.loop-k.k ≡ length c.args.far.now = omega (arith, c.loop-k.auto.k-end) in
    subst (λ (n : ℕ). IsListedTo c.args.far.now n c.loop-k.ks) all c.loop-k.invariant
