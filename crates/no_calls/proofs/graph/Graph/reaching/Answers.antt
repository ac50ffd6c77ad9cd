use Rattle.std.proofs.Common.{arith, subst, sym, ℕ, List, Vec}
use Rattle.std.specs.Global.{Global}
use Rattle.std.specs.List.{Contains}
use Rattle.no_calls.specs.Links.{IsGraphOf, Links}
use Rattle.no_calls.specs.Rows.{row}
use Rattle.no_calls.specs.Spreading.{Towards}
use Rattle.no_calls.proofs.Alike.{reaching_answer, towards_answer}
use Rattle.no_calls.proofs.graph.Graph.reaching.Goals as goal

pub spread-requires-clause-sets : goal.spread-requires-clause-sets
spread-requires-clause-sets c = λ a s h.
    let below = c.self.invariant.within a s (subst (λ (t : List (Vec ℕ Global)). Contains (row t a) s) c.as_slice.ensures.value h) in
    omega (arith, below, c.as_slice-2.ensures.len)

pub spread-requires-clause-below : goal.spread-requires-clause-below
spread-requires-clause-below c = λ a s h.
    let below = c.self.invariant.users a s (subst (λ (t : List (Vec ℕ Global)). Contains (row t a) s) c.as_slice-2.ensures.value h) in
    omega (arith, below, c.self.invariant.functions, c.as_slice.ensures.len)

pub returns : goal.returns
returns c = λ m is.
    let links : Links = record { uses = c.self.inside.uses.items; within = c.self.inside.within.items } in
    let graph : IsGraphOf m links = subst (λ (l : Links). IsGraphOf m l) (sym c.self.view_is) is in
    let t : Towards links.uses c.self.inside.members.items c.args.goals.now c.in_ok-far.far.items =
    towards_answer links c.self.inside.users.items c.self.inside.members.items c.as_slice.result.now c.as_slice-2.result.now c.args.goals.now c.in_ok-far.far.items c.self.invariant.turned c.self.invariant.filled (omega (arith, c.self.invariant.functions, c.self.inside.within.ok.0, c.self.inside.uses.ok.0)) (λ a k h. omega (arith, c.self.invariant.members a k h, c.self.inside.uses.ok.0)) c.as_slice.ensures.value c.as_slice-2.ensures.value c.in_ok-far.ensures in
    reaching_answer m links c.self.inside.users.items c.self.inside.members.items c.args.goals.now c.in_ok-far.far.items c.as_slice-3.result.now c.in_ok-all.all c.self.invariant.turned c.self.invariant.filled graph t c.as_slice-3.ensures.value c.in_ok-all.ensures
