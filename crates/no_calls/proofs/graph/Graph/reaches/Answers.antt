use Rattle.std.proofs.Common.{◌<◌, length, arith, subst, sym, ℕ, List, Vec}
use Rattle.std.specs.Global.{Global}
use Rattle.std.specs.List.{Contains}
use Rattle.no_calls.specs.Links.{IsGraphOf, Links}
use Rattle.no_calls.specs.Rows.{row}
use Rattle.no_calls.proofs.Alike.{reaches_answer}
use Rattle.no_calls.proofs.graph.Graph.reaches.Goals as goal

pub spread-requires-clause-sets : goal.spread-requires-clause-sets
spread-requires-clause-sets c = λ a s h.
    let below = c.self.invariant.uses a s (subst (λ (t : List (Vec ℕ Global)). Contains (row t a) s) c.as_slice.ensures.value h) in
    omega (arith, below, c.self.invariant.sets, c.as_slice-2.ensures.len)

pub spread-requires-clause-below : goal.spread-requires-clause-below
spread-requires-clause-below c = λ a s h.
    let below = c.self.invariant.members a s (subst (λ (t : List (Vec ℕ Global)). Contains (row t a) s) c.as_slice-2.ensures.value h) in
    omega (arith, below, c.as_slice.ensures.len)

pub returns : goal.returns
returns c = λ m is.
    let links : Links = record { uses = c.self.inside.uses.items; within = c.self.inside.within.items } in
    let graph : IsGraphOf m links = subst (λ (l : Links). IsGraphOf m l) (sym c.self.view_is) is in
    let lt : c.args.f < length links.uses = subst (λ (l : Links). c.args.f < length l.uses) (sym c.self.view_is) c.requires in
    reaches_answer m links c.self.inside.users.items c.self.inside.members.items c.as_slice.result.now c.as_slice-2.result.now c.args.f c.in_ok-far.far.items c.as_slice-3.result.now c.in_ok-all.all c.self.invariant.turned c.self.invariant.filled graph
    c.as_slice.ensures.value c.as_slice-2.ensures.value lt c.in_ok-far.ensures c.as_slice-3.ensures.value c.in_ok-all.ensures
