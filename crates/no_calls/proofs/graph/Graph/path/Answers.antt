use Rattle.std.proofs.Common.{◌≡◌, ◌∙◌, ◌<◌, length, arith, subst, sym, ℕ, List, Vec}
use Rattle.std.specs.Prelude.{Some, None}
use Rattle.std.specs.Global.{Global}
use Rattle.std.specs.List.{Contains}
use Rattle.std.proofs.lemmas.List.{get_or_read}
use Rattle.no_calls.specs.Links.{IsGraphOf, Links}
use Rattle.no_calls.specs.Nearest.{AreNearest}
use Rattle.no_calls.specs.Rows.{row}
use Rattle.no_calls.specs.Spreading.{Towards, at}
use Rattle.no_calls.proofs.Alike.{near_answer, none_calls, path_answer, towards_answer}
use Rattle.no_calls.proofs.graph.Graph.path.Goals as goal

pub spread-requires-clause-sets : goal.spread-requires-clause-sets
spread-requires-clause-sets c = λ a s h.
    let below = c.self.invariant.within a s (subst (λ (t : List (Vec ℕ Global)). Contains (row t a) s) c.as_slice.ensures.value h) in
    omega (arith, below, c.as_slice-2.ensures.len)

pub spread-requires-clause-below : goal.spread-requires-clause-below
spread-requires-clause-below c = λ a s h.
    let below = c.self.invariant.users a s (subst (λ (t : List (Vec ℕ Global)). Contains (row t a) s) c.as_slice-2.ensures.value h) in
    omega (arith, below, c.self.invariant.functions, c.as_slice.ensures.len)

pub returns-in-None : goal.returns-in-None
returns-in-None c = λ m is.
    let links : Links = record { uses = c.self.inside.uses.items; within = c.self.inside.within.items } in
    let graph : IsGraphOf m links = subst (λ (l : Links). IsGraphOf m l) (sym c.self.view_is) is in
    let lt : c.args.f < length links.uses = subst (λ (l : Links). c.args.f < length l.uses) (sym c.self.view_is) c.requires in
    let t : Towards links.uses c.self.inside.members.items c.args.goals.now c.in_ok-far.far.items =
    towards_answer links c.self.inside.users.items c.self.inside.members.items c.as_slice.result.now c.as_slice-2.result.now c.args.goals.now c.in_ok-far.far.items c.self.invariant.turned c.self.invariant.filled (omega (arith, c.self.invariant.functions, c.self.inside.within.ok.0, c.self.inside.uses.ok.0)) (λ a k h. omega (arith, c.self.invariant.members a k h, c.self.inside.uses.ok.0)) c.as_slice.ensures.value c.as_slice-2.ensures.value c.in_ok-far.ensures in
    let none : at c.in_ok-far.far.items c.args.f ≡ None = sym (get_or_read c.in_ok-far.far.items c.args.f c.index.result.now (omega (arith, lt, c.in_ok-far.ensures.wide, c.as_slice.ensures.len, c.self.invariant.functions, c.self.inside.uses.ok.0)) c.index.ensures None) ∙ c.in-None.is in
    none_calls links c.self.inside.users.items c.self.inside.members.items c.self.invariant.turned c.self.invariant.filled m graph c.args.goals.now c.args.f c.in_ok-far.far.items t lt none

pub returns : goal.returns
returns c = λ m is.
    let links : Links = record { uses = c.self.inside.uses.items; within = c.self.inside.within.items } in
    let graph : IsGraphOf m links = subst (λ (l : Links). IsGraphOf m l) (sym c.self.view_is) is in
    let lt : c.args.f < length links.uses = subst (λ (l : Links). c.args.f < length l.uses) (sym c.self.view_is) c.requires in
    let t : Towards links.uses c.self.inside.members.items c.args.goals.now c.in_ok-far.far.items =
    towards_answer links c.self.inside.users.items c.self.inside.members.items c.as_slice.result.now c.as_slice-2.result.now c.args.goals.now c.in_ok-far.far.items c.self.invariant.turned c.self.invariant.filled (omega (arith, c.self.invariant.functions, c.self.inside.within.ok.0, c.self.inside.uses.ok.0)) (λ a k h. omega (arith, c.self.invariant.members a k h, c.self.inside.uses.ok.0)) c.as_slice.ensures.value c.as_slice-2.ensures.value c.in_ok-far.ensures in
    let here : at c.in_ok-far.far.items c.args.f ≡ Some c.in-Some.distance =
    sym (get_or_read c.in_ok-far.far.items c.args.f c.index.result.now (omega (arith, lt, c.in_ok-far.ensures.wide, c.as_slice.ensures.len, c.self.invariant.functions, c.self.inside.uses.ok.0)) c.index.ensures None) ∙ c.in-Some.is in
    let near : AreNearest c.self.inside.members.items c.in_ok-far.far.items c.as_slice-in-Some-4.result.now =
    near_answer c.as_slice-in-Some.result.now c.self.inside.members.items c.as_slice-in-Some-2.result.now c.in_ok-far.far.items c.in_ok-near-in-Some.near.items c.as_slice-in-Some-4.result.now
    c.as_slice-in-Some.ensures.value c.as_slice-in-Some-2.ensures.value c.as_slice-in-Some-4.ensures.value c.in_ok-near-in-Some.ensures in
    path_answer m links c.self.inside.users.items c.self.inside.members.items c.as_slice-in-Some-3.result.now c.args.goals.now c.args.f (Some c.in_ok-way-in-Some.way) c.self.invariant.turned c.self.invariant.filled graph c.as_slice-in-Some-3.ensures.value
    (c.in_ok-way-in-Some.ensures c.self.inside.members.items c.in_ok-far.far.items c.args.goals.now (subst (λ (u : List (Vec ℕ Global)). Towards u c.self.inside.members.items c.args.goals.now c.in_ok-far.far.items) (sym c.as_slice-in-Some-3.ensures.value) t) near here (subst (λ (u : List (Vec ℕ Global)). c.args.f < length u) (sym c.as_slice-in-Some-3.ensures.value) lt))
