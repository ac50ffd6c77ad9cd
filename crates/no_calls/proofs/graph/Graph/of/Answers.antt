use Rattle.std.proofs.Common.{◌≡◌, ◌<◌, ◌+◌, length, arith, refl, subst, ℕ, List, Vec}
use Rattle.std.specs.Global.{Global}
use Rattle.no_calls.specs.Rows.{IsReverse}
use Rattle.no_calls.proofs.Graphs.{graph_of, uses_below, within_below}
use Rattle.no_calls.proofs.Tables.{row_within}
use Rattle.no_calls.proofs.graph.Graph.of.Goals as goal

pub reversed-requires-clause-below : goal.reversed-requires-clause-below
reversed-requires-clause-below c = λ a s h.
    let below : s < length c.as_slice-functions.result.now + length c.in_ok-shapes.shapes =
    within_below c.as_slice-functions.result.now c.as_slice-2.result.now c.in_ok-shapes.shapes c.in_ok-within.within.items c.as_slice-3.result.now c.as_slice-3.ensures.value (omega (arith, c.in_ok-within.ensures.wide, c.in_ok-within.within.ok.0)) c.in_ok-within.ensures.sets a s h in
    omega (arith, below, c.len.ensures)

pub reversed-requires-2-clause-below : goal.reversed-requires-2-clause-below
reversed-requires-2-clause-below c = λ a s h.
    let below : s < length c.as_slice-functions.result.now + length c.in_ok-shapes.shapes =
    uses_below c.as_slice-functions.result.now c.in_ok-shapes.shapes c.in_ok-uses.uses.items c.as_slice-4.result.now c.as_slice-4.ensures.value (omega (arith, c.in_ok-uses.ensures.wide, c.in_ok-uses.uses.ok.0)) c.in_ok-uses.ensures.sets a s h in
    omega (arith, below, c.len.ensures)

pub invariant_of-result : goal.invariant_of-result
invariant_of-result c =
    let n = length c.as_slice-functions.result.now in
    let uses_wide : length c.in_ok-uses.uses.items ≡ n = omega (arith, c.in_ok-uses.ensures.wide, c.in_ok-uses.uses.ok.0) in
    let within_wide : length c.in_ok-within.within.items ≡ n = omega (arith, c.in_ok-within.ensures.wide, c.in_ok-within.within.ok.0) in
    let turned = subst (λ (t : List (Vec ℕ Global)). IsReverse t c.in_ok-users.users.items) c.as_slice-4.ensures.value c.in_ok-users.ensures.reverse in
    let filled = subst (λ (t : List (Vec ℕ Global)). IsReverse t c.in_ok-members.members.items) c.as_slice-3.ensures.value c.in_ok-members.ensures.reverse in
    record {
      short = omega arith;
      functions = omega (arith, c.in_ok-uses.ensures.wide, c.in_ok-within.ensures.wide);
      sets = omega (arith, c.in_ok-users.ensures.wide, c.in_ok-members.ensures.wide);
      uses = λ a s h.
          let below = uses_below c.as_slice-functions.result.now c.in_ok-shapes.shapes c.in_ok-uses.uses.items c.in_ok-uses.uses.items refl uses_wide c.in_ok-uses.ensures.sets a s h in
          omega (arith, below, c.len.ensures, c.in_ok-users.ensures.wide);
      users = λ a s h. let lt = row_within c.in_ok-uses.uses.items s a (turned.back' s a h) in omega (arith, lt, c.in_ok-uses.uses.ok.0);
      within = λ a s h.
          let below = within_below c.as_slice-functions.result.now c.as_slice-2.result.now c.in_ok-shapes.shapes c.in_ok-within.within.items c.in_ok-within.within.items refl within_wide c.in_ok-within.ensures.sets a s h in
          omega (arith, below, c.len.ensures, c.in_ok-users.ensures.wide);
      members = λ a s h. let lt = row_within c.in_ok-within.within.items s a (filled.back' s a h) in omega (arith, lt, within_wide, uses_wide, c.in_ok-uses.uses.ok.0);
      turned = turned;
      filled = filled;
    }

pub returns : goal.returns
returns c =
    graph_of c.args.program.now c.as_slice-functions.result.now c.in_ok-flags.flags c.as_slice.result.now c.as_slice-2.result.now c.in_ok-shapes.shapes c.in_ok-uses.uses.items c.in_ok-within.within.items c.as_slice-functions.ensures c.as_slice.ensures c.as_slice-2.ensures c.in_ok-flags.ensures
    c.in_ok-shapes.ensures.shapes (omega (arith, c.in_ok-uses.ensures.wide, c.in_ok-uses.uses.ok.0)) (omega (arith, c.in_ok-within.ensures.wide, c.in_ok-within.within.ok.0)) c.in_ok-uses.ensures.sets c.in_ok-within.ensures.sets
