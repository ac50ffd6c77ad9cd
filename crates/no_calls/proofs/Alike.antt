-- What holds along one relation holds along another that relates the same numbers.
use Rattle.std.proofs.Common.{◌≡◌, ◌∙◌, sym, subst, ℕ, ◌<◌, inl, inr, List, [], ◌∷◌, length, Vec}
use Rattle.std.specs.Prelude.{Option, Some, None}
use Rattle.std.specs.Global.{Global}
use Rattle.std.proofs.lemmas.Bool.{cases_lt}
use Rattle.std.proofs.lemmas.Option.{none-some}
use Rattle.std.proofs.lemmas.List.{get_or_past}
use Rattle.no_ir.specs.declared.function.Module.{Module}
use Rattle.no_calls.specs.Calling.{MayCall}
use Rattle.no_calls.specs.Links.{Calls, IsGraphOf, Links}
use Rattle.no_calls.specs.Nearest.{AreNearest}
use Rattle.no_calls.specs.Rows.{AreBelow, IsReverse}
use Rattle.no_calls.specs.Reaching.{IsReached, IsReaching, IsShortest, Path}
use Rattle.no_calls.specs.Spreading.{IsFound, IsListedTo, Measured, Step, Towards, at}
use Rattle.no_calls.proofs.Finding.{one}
use Rattle.no_calls.proofs.Ways.{bound, found_goal, found_reached, not_reached, reached_found}

module _ (R S : ℕ → ℕ → Type 0) (to : (a b : ℕ) → R a b → S a b) (from : (a b : ℕ) → S a b → R a b) where
  path_to : (q : List ℕ) (a b : ℕ) → Path R a q b → Path S a q b
  path_to [] a b is = is
  path_to (c ∷ q) a b (step, rest) = (to a c step, path_to q c b rest)

  path_from : (q : List ℕ) (a b : ℕ) → Path S a q b → Path R a q b
  path_from [] a b is = is
  path_from (c ∷ q) a b (step, rest) = (from a c step, path_from q c b rest)

  pub shortest_alike : (goals : List ℕ) (a : ℕ) (o : Option (List ℕ)) → IsShortest R goals a o → IsShortest S goals a o
  shortest_alike goals a None none = λ g goal (q, path). none g goal (q, path_from q a g path)
  shortest_alike goals a (Some p) (way, is, (g, goal, path), first) = (way, is, (g, goal, path_to way a g path), λ q (h, goal', path'). first q (h, goal', path_from q a h path'))

  pub reached_alike : (a : ℕ) (ks : List ℕ) → IsReached R a ks → IsReached S a ks
  reached_alike a ks r = record {
    rising = r.rising;
    all = λ k (q, path). r.all k (q, path_from q a k path);
    only = λ k h. let (q, path) = r.only k h in (q, path_to q a k path);
  }

  pub measured_alike : (starts : List ℕ) (n : ℕ) (far : List (Option ℕ)) → Measured R starts n far → Measured S starts n far
  measured_alike starts n far m = record {
    wide = m.wide;
    begins = m.begins;
    first = m.first;
    back = λ b d e. let (a, step, here) = m.back b d e in (a, to a b step, here);
    on = λ a b d step e. m.on a b d (from a b step) e;
  }

pub found_within : (far : List (Option ℕ)) (k : ℕ) → IsFound far k → k < length far
found_within far k (d, e) = elim (cases_lt k (length far)) [ inl lt ↦ lt | inr past ↦ absurd (none-some d (sym (get_or_past far k None past) ∙ e)) ]

-- a table of distances, as a list of what is reached
pub reached_is : (R : ℕ → ℕ → Type 0) (a n : ℕ) (far : List (Option ℕ)) (ks : List ℕ) → a < n → Measured R (a ∷ []) n far → IsListedTo far (length far) ks → IsReached R a ks
reached_is R a n far ks lt m listed = record {
  rising = listed.rising;
  all = λ k (way, path).
      let found : IsFound far k = reached_found R a n far m lt way a k 0 (m.begins a lt (one a)) path in
      listed.all k (found_within far k found) found;
  only = λ k h. let (d, e) = (listed.only k h).1 in found_reached R a n far m lt d k e;
}

-- ---- the relation of a graph, along its tables and against them

module _ (links : Links) (users members : List (Vec ℕ Global)) (turned : IsReverse links.uses users) (filled : IsReverse links.within members) where
  step_calls : (a k : ℕ) → Step links.uses members a k → Calls links a k
  step_calls a k (s, used, member) = (s, used, filled.back' k s member)

  calls_step : (a k : ℕ) → Calls links a k → Step links.uses members a k
  calls_step a k (s, used, within) = (s, used, filled.there k s within)

  step_back : (k a : ℕ) → Step links.within users k a → Step links.uses members a k
  step_back k a (s, within, user) = (s, turned.back' a s user, filled.there k s within)

  back_step : (k a : ℕ) → Step links.uses members a k → Step links.within users k a
  back_step k a (s, used, member) = (s, filled.back' k s member, turned.there a s used)

  pub towards : (n : ℕ) (goals : List ℕ) (far : List (Option ℕ)) → n ≡ length links.uses → AreBelow members n → Measured (Step links.within users) goals n far → Towards links.uses members goals far
  towards n goals far wide below m = record {
    measured = subst (λ (k : ℕ). Measured (λ b a. Step links.uses members a b) goals k far) wide (measured_alike (Step links.within users) (λ b a. Step links.uses members a b) step_back back_step goals n far m);
    below = λ a k (s, used, member). subst (λ (j : ℕ). k < j) wide (below s k member);
  }

  module _ (m : Module) (is : IsGraphOf m links) where
    to_calls : (a k : ℕ) → Step links.uses members a k → MayCall m a k
    to_calls a k step = is.only a k (step_calls a k step)

    from_calls : (a k : ℕ) → MayCall m a k → Step links.uses members a k
    from_calls a k may = calls_step a k (is.there a k may)

    pub shortest_calls : (goals : List ℕ) (f : ℕ) (o : Option (List ℕ)) → IsShortest (Step links.uses members) goals f o → IsShortest (MayCall m) goals f o
    shortest_calls goals f o h = shortest_alike (Step links.uses members) (MayCall m) to_calls from_calls goals f o h

    pub none_calls : (goals : List ℕ) (f : ℕ) (far : List (Option ℕ)) → Towards links.uses members goals far → f < length links.uses → at far f ≡ None → IsShortest (MayCall m) goals f None
    none_calls goals f far t lt none = shortest_calls goals f None (not_reached (Step links.uses members) goals (length links.uses) far t.measured t.below f lt none)

    pub reached_calls : (f n : ℕ) (far : List (Option ℕ)) (ks : List ℕ) → f < n → Measured (Step links.uses members) (f ∷ []) n far → IsListedTo far (length far) ks → IsReached (MayCall m) f ks
    reached_calls f n far ks lt measured listed = reached_alike (Step links.uses members) (MayCall m) to_calls from_calls f ks (reached_is (Step links.uses members) f n far ks lt measured listed)

-- the numbers that were found are those that reach a goal
reaching_is : (R : ℕ → ℕ → Type 0) (goals : List ℕ) (n : ℕ) (far : List (Option ℕ)) (ks : List ℕ) (m : Measured (λ k a. R a k) goals n far) (below : (a k : ℕ) → R a k → k < n) → IsListedTo far (length far) ks → IsReaching R goals n ks
reaching_is R goals n far ks m below listed = record {
  rising = listed.rising;
  all = λ k g lt goal (way, path).
      let (d, e, small) = bound R goals n far m below way k g lt goal path in
      listed.all k (found_within far k (d, e)) (d, e);
  only = λ k h. let (d, e) = (listed.only k h).1 in found_goal R goals n far m below d k e;
}

reaching_alike : (R S : ℕ → ℕ → Type 0) (to : (a b : ℕ) → R a b → S a b) (from : (a b : ℕ) → S a b → R a b) (goals : List ℕ) (n : ℕ) (ks : List ℕ) → IsReaching R goals n ks → IsReaching S goals n ks
reaching_alike R S to from goals n ks r = record {
  rising = r.rising;
  all = λ k g lt goal (q, path). r.all k g lt goal (q, path_from R S to from q k g path);
  only = λ k h. let (g, goal, (q, path)) = r.only k h in (g, goal, (q, path_to R S to from q k g path));
}

-- ---- the answers of a graph

pub reaching_answer : (m : Module) (links : Links) (users members : List (Vec ℕ Global)) (goals : List ℕ) (far lent : List (Option ℕ)) (ks : List ℕ) → IsReverse links.uses users → IsReverse links.within members → IsGraphOf m links
    → Towards links.uses members goals far → lent ≡ far → IsListedTo lent (length lent) ks → IsReaching (MayCall m) goals (length m.functions) ks
reaching_answer m links users members goals far lent ks turned filled is t same listed =
    subst (λ (n : ℕ). IsReaching (MayCall m) goals n ks) is.callers
    (reaching_alike (Step links.uses members) (MayCall m) (to_calls links users members turned filled m is) (from_calls links users members turned filled m is) goals (length links.uses) ks
    (reaching_is (Step links.uses members) goals (length links.uses) far ks t.measured t.below (subst (λ (l : List (Option ℕ)). IsListedTo l (length l) ks) same listed)))

pub reaches_answer : (m : Module) (links : Links) (users members up down : List (Vec ℕ Global)) (f : ℕ) (far lent : List (Option ℕ)) (ks : List ℕ) → IsReverse links.uses users → IsReverse links.within members → IsGraphOf m links → up ≡ links.uses → down ≡ members
    → f < length links.uses → Measured (Step up down) (f ∷ []) (length up) far → lent ≡ far → IsListedTo lent (length lent) ks → IsReached (MayCall m) f ks
reaches_answer m links users members up down f far lent ks turned filled is these those lt measured same listed =
    let here : Measured (Step links.uses members) (f ∷ []) (length links.uses) far =
    subst (λ (d : List (Vec ℕ Global)). Measured (Step links.uses d) (f ∷ []) (length links.uses) far) those
    (subst (λ (u : List (Vec ℕ Global)). Measured (Step u down) (f ∷ []) (length u) far) these measured) in
    reached_calls links users members turned filled m is f (length links.uses) far ks lt here (subst (λ (l : List (Option ℕ)). IsListedTo l (length l) ks) same listed)

pub towards_answer : (links : Links) (users members up down : List (Vec ℕ Global)) (goals : List ℕ) (far : List (Option ℕ)) → IsReverse links.uses users → IsReverse links.within members → length links.within ≡ length links.uses → AreBelow members (length links.uses)
    → up ≡ links.within → down ≡ users → Measured (Step up down) goals (length up) far → Towards links.uses members goals far
towards_answer links users members up down goals far turned filled wide below these those measured =
    let here : Measured (Step links.within users) goals (length links.within) far =
    subst (λ (d : List (Vec ℕ Global)). Measured (Step links.within d) goals (length links.within) far) those
    (subst (λ (u : List (Vec ℕ Global)). Measured (Step u down) goals (length u) far) these measured) in
    towards links users members turned filled (length links.within) goals far wide (λ a k h. subst (λ (n : ℕ). k < n) (sym wide) (below a k h)) here

pub path_answer : (m : Module) (links : Links) (users members uses : List (Vec ℕ Global)) (goals : List ℕ) (f : ℕ) (o : Option (List ℕ)) → IsReverse links.uses users → IsReverse links.within members → IsGraphOf m links → uses ≡ links.uses
    → IsShortest (Step uses members) goals f o → IsShortest (MayCall m) goals f o
path_answer m links users members uses goals f o turned filled is these h =
    shortest_calls links users members turned filled m is goals f o (subst (λ (u : List (Vec ℕ Global)). IsShortest (Step u members) goals f o) these h)

pub near_answer : (lent members : List (Vec ℕ Global)) (lent_far far : List (Option ℕ)) (near lent_near : List (Option (ℕ × ℕ))) → lent ≡ members → lent_far ≡ far → lent_near ≡ near → AreNearest lent lent_far near → AreNearest members far lent_near
near_answer lent members lent_far far near lent_near these those they are =
    subst (λ (n : List (Option (ℕ × ℕ))). AreNearest members far n) (sym they)
    (subst (λ (f : List (Option ℕ)). AreNearest members f near) those (subst (λ (t : List (Vec ℕ Global)). AreNearest t lent_far near) these are))
