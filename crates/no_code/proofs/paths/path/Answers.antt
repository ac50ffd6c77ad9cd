use Rattle.std.proofs.Common.{◌≡◌, ◌<◌, ◌≤◌, length, rules, sym, arith}
use Rattle.std.proofs.lemmas.List.{nil_from_length}
use Rattle.no_code.specs.Source.{source}
use Rattle.no_code.proofs.Steps.{lead_end, lead_first, lead_more, lead_stop, path_empty}
use Rattle.no_code.proofs.paths.path.Goals as goal

pub returns-then-is_empty : goal.returns-then-is_empty
returns-then-is_empty c =
    let a = c.args in
    let none : length a.indices.now ≡ 0 = first_of (search rules, omega arith, grind arith) in
    path_empty (source a.from.program.now a.from.layout.now a.from.sizes.now a.from.addresses.now) a.n a.code.now a.t.now a.indices.now (nil_from_length a.indices.now none)

pub loop-k-init : goal.loop-k-init
loop-k-init c =
    let a = c.args in
    let some : 0 < length a.indices.now = first_of (search rules, omega arith, grind arith) in
    lead_first (source a.from.program.now a.from.layout.now a.from.sizes.now a.from.addresses.now) a.n a.code.now c.first_step.new.code a.t.now a.indices.now c.index-indices-0.result some c.index-indices-0.is c.in_ok-first_step.ensures

pub loop-k-preserved : goal.loop-k-preserved
loop-k-preserved c =
    let a = c.args in
    let lt : c.loop-k.k < length a.indices.now = omega arith in
    lead_more (source a.from.program.now a.from.layout.now a.from.sizes.now a.from.addresses.now) a.n a.code.now c.loop-k.code c.next_step.new.code a.t.now c.loop-k.at.now c.resolved-whole.result.now c.in-Some.next.now a.indices.now c.loop-k.k c.index-indices-k.result lt c.index-indices-k.is
    c.resolved-whole.ensures (sym c.in-Some.ensures) c.loop-k.invariant c.in_ok-next_step-in-Some.ensures

pub returns-in-None : goal.returns-in-None
returns-in-None c =
    let a = c.args in
    let lt : c.loop-k.k < length a.indices.now = omega arith in
    lead_stop (source a.from.program.now a.from.layout.now a.from.sizes.now a.from.addresses.now) a.n a.code.now c.loop-k.code a.t.now c.loop-k.at.now c.resolved-whole.result.now a.indices.now c.loop-k.k c.index-indices-k.result lt c.index-indices-k.is
    c.resolved-whole.ensures (sym c.in-None.ensures) c.loop-k.invariant

pub returns : goal.returns
returns c =
    let a = c.args in
    let le : length a.indices.now ≤ c.loop-k.k = omega arith in
    lead_end (source a.from.program.now a.from.layout.now a.from.sizes.now a.from.addresses.now) a.n a.code.now c.loop-k.code a.t.now c.loop-k.at.now a.indices.now c.loop-k.k le c.loop-k.invariant
