-- Steps of each of whose rows something holds compose.
use Rattle.std.proofs.Common.{◌≡◌, ℕ, zero, suc, ◌+◌, ◌≤◌, List, [], ◌++◌, append-nil, append_assoc, Option, Some, refl, sym, ap, subst, ◌∙◌, arith}
use Rattle.std.proofs.lemmas.Option.{same_Some}
use Rattle.no_semantics.specs.Acting.{row}
use Rattle.no_semantics.specs.Rows.{Row, Next, Calling, Goes}
use Rattle.no_semantics.specs.States.{State}
use Rattle.no_semantics.specs.Steps.{Reached, Steps, after, here}
use Rattle.no_semantics.specs.Values.{Program}
use Rattle.no_semantics.proofs.Running.{IsFirst, before_others, first_of, joined}
use Rattle.no_machine.specs.Each.{AllRows, StepsEach, ThenAll}

-- they are steps
pub steps_of : (P : Row → Type 0) (p : Program) (s : State) (bytes : List ℕ) (count : ℕ) (t : State) → StepsEach P p s bytes count t → Steps p s bytes count t
steps_of P p s bytes count t steps = (steps.number, steps.is)

same_reached : (o u : List ℕ) (c d : ℕ) (s : State) → o ≡ u → c ≡ d → ◌≡◌ {A = Reached} (record { output = o; count = c; state = s }) (record { output = u; count = d; state = s })
same_reached o u c d s e f = ap (λ (x : List ℕ). record { output = x; count = c; state = s }) e ∙ ap (λ (x : ℕ). record { output = u; count = x; state = s }) f

module _ (P : Row → Type 0) (p : Program) where
  -- as many steps lead to this, of each of whose rows it holds
  abbrev Leads : ℕ → State → Reached → Type 0
  Leads n s q = (k : ℕ) × (k ≡ n) × (after p k s ≡ Some q) × AllRows P p k s

  compose : (n m : ℕ) (s : State) (q r : Reached) → after p n s ≡ Some q → AllRows P p n s → after p m q.state ≡ Some r → AllRows P p m q.state → Leads (n + m) s (joined q r)
  compose zero m s q r e all f more =
      let is : here s ≡ q = same_Some (here s) q e in (
        m,
        omega arith,
        ap (λ (x : Reached). after p m x.state) is ∙ f
            ∙ ap Some (same_reached r.output ([] ++ r.output) r.count (0 + r.count) r.state refl (omega arith))
            ∙ ap (λ (x : Reached). Some (joined x r)) is,
        subst (λ (x : Reached). AllRows P p m x.state) (sym is) more,
      )
  compose (suc n) m s q r e all f more =
      let first : IsFirst (row p s).next (row p s).cost (after p n) q = first_of (row p s).next (row p s).cost (after p n) q e in
      let then' : AllRows P p n first.then' = subst (λ (x : Next). ThenAll x (AllRows P p n)) first.next_is all.1 in
      let last : AllRows P p m first.others.state = subst (λ (x : Reached). AllRows P p m x.state) (sym first.is) more in
      let rest : Leads (n + m) first.then' (joined first.others r) = compose n m first.then' first.others r first.others_are then' (ap (λ (x : Reached). after p m x.state) first.is ∙ f) last in (
        suc rest.0,
        omega (arith, rest.1),
        before_others p rest.0 s first.then' first.bytes first.call (joined first.others r) first.next_is rest.2
            ∙ ap Some (same_reached (first.bytes ++ (first.others.output ++ r.output)) ((first.bytes ++ first.others.output) ++ r.output) ((row p s).cost + (first.others.count + r.count)) (((row p s).cost + first.others.count) + r.count) r.state
            (sym (append_assoc first.bytes first.others.output r.output)) (omega arith))
            ∙ ap (λ (x : Reached). Some (joined x r)) first.is,
        (all.0, subst (λ (x : Next). ThenAll x (AllRows P p rest.0)) (sym first.next_is) rest.3),
      )

  pub each_compose : (s t u : State) (bytes more : List ℕ) (count cost : ℕ) → StepsEach P p s bytes count t → StepsEach P p t more cost u → StepsEach P p s (bytes ++ more) (count + cost) u
  each_compose s t u bytes more count cost a b =
      let c = compose a.number b.number s (record { output = bytes; count = count; state = t }) (record { output = more; count = cost; state = u }) a.is a.each b.is b.each in
      record { number = c.0; is = c.2; each = c.3 }

  pub each_number : (s t u : State) (bytes more : List ℕ) (count cost : ℕ) (a : StepsEach P p s bytes count t) (b : StepsEach P p t more cost u) → (each_compose s t u bytes more count cost a b).number ≡ a.number + b.number
  unfolding each_compose compose
  each_number s t u bytes more count cost a b = (compose a.number b.number s (record { output = bytes; count = count; state = t }) (record { output = more; count = cost; state = u }) a.is a.each b.is b.each).1

  -- no step, and one step
  pub each_none : (s : State) → StepsEach P p s [] 0 s
  each_none s = record { number = 0; is = refl; each = tt }

  pub each_one : (s t : State) (bytes : List ℕ) (call : Option Calling) → (row p s).next ≡ Goes bytes call t → P (row p s) → StepsEach P p s bytes (row p s).cost t
  each_one s t bytes call e holds = record {
    number = 1;
    is = before_others p 0 s t bytes call (here t) e refl ∙ ap Some (same_reached (bytes ++ []) bytes ((row p s).cost + 0) (row p s).cost t (append-nil bytes) (omega arith));
    each = (holds, subst (λ (x : Next). ThenAll x (AllRows P p 0)) (sym e) tt);
  }

  pub each_costs : (s t : State) (bytes : List ℕ) (call : Option Calling) (cost : ℕ) → (row p s).next ≡ Goes bytes call t → (row p s).cost ≡ cost → P (row p s) → (steps : StepsEach P p s bytes cost t) × (steps.number ≡ 1)
  unfolding each_one
  each_costs s t bytes call cost e costs holds = subst (λ (k : ℕ). (steps : StepsEach P p s bytes k t) × (steps.number ≡ 1)) costs (each_one s t bytes call e holds, refl)

  -- ---- where each row costs something

  module _ (paid : (s : State) → 1 ≤ (row p s).cost) where
    none_counted : (n : ℕ) (s : State) (q : Reached) → after p n s ≡ Some q → q.count ≡ 0 → n ≡ 0
    none_counted zero s q e zero' = refl
    none_counted (suc n) s q e zero' =
        let first : IsFirst (row p s).next (row p s).cost (after p n) q = first_of (row p s).next (row p s).cost (after p n) q e in
        let sum : (row p s).cost + first.others.count ≡ q.count = ap (λ (x : Reached). x.count) first.is in
        absurd (omega (arith, sum, zero', paid s))

    one_counted : (n : ℕ) (s : State) (q : Reached) → after p n s ≡ Some q → q.count ≡ 1 → n ≡ 1
    one_counted zero s q e one = (let sum : 0 ≡ q.count = ap (λ (x : Reached). x.count) (same_Some (here s) q e) in absurd (omega (arith, sum, one)))
    one_counted (suc n) s q e one =
        let first : IsFirst (row p s).next (row p s).cost (after p n) q = first_of (row p s).next (row p s).cost (after p n) q e in
        let sum : (row p s).cost + first.others.count ≡ q.count = ap (λ (x : Reached). x.count) first.is in
        let others : first.others.count ≡ 0 = omega (arith, sum, one, paid s) in
        omega (arith, none_counted n first.then' first.others first.others_are others)

    -- steps that cost nothing are none, and those that cost 1 are one
    pub each_zero : (s t : State) (bytes : List ℕ) (count : ℕ) (steps : StepsEach P p s bytes count t) → count ≡ 0 → steps.number ≡ 0
    each_zero s t bytes count steps e = none_counted steps.number s (record { output = bytes; count = count; state = t }) steps.is e

    pub each_first : (s t : State) (bytes : List ℕ) (count : ℕ) (steps : StepsEach P p s bytes count t) → count ≡ 1 → steps.number ≡ 1
    each_first s t bytes count steps e = one_counted steps.number s (record { output = bytes; count = count; state = t }) steps.is e

  -- no step leads nowhere
  pub each_nowhere : (s t : State) (bytes : List ℕ) (count : ℕ) (steps : StepsEach P p s bytes count t) → steps.number ≡ 0 → (bytes ≡ []) × (t ≡ s)
  each_nowhere s t bytes count steps e =
      let is : here s ≡ record { output = bytes; count = count; state = t } = same_Some (here s) (record { output = bytes; count = count; state = t }) (subst (λ (n : ℕ). after p n s ≡ Some (record { output = bytes; count = count; state = t })) e steps.is) in
      (sym (ap (λ (x : Reached). x.output) is), sym (ap (λ (x : Reached). x.state) is))

  -- what one step is
  pub record IsSingle (s : State) (bytes : List ℕ) (count : ℕ) (t : State) : Type 0 where
    pub call : Option Calling
    pub next : (row p s).next ≡ Goes bytes call t
    pub cost : count ≡ (row p s).cost
    pub holds : P (row p s)

  pub each_single : (s t : State) (bytes : List ℕ) (count : ℕ) (steps : StepsEach P p s bytes count t) → steps.number ≡ 1 → IsSingle s bytes count t
  each_single s t bytes count steps e =
      let q : Reached = record { output = bytes; count = count; state = t } in
      let is : after p 1 s ≡ Some q = subst (λ (n : ℕ). after p n s ≡ Some q) e steps.is in
      let all : AllRows P p 1 s = subst (λ (n : ℕ). AllRows P p n s) e steps.each in
      let first : IsFirst (row p s).next (row p s).cost (after p 0) q = first_of (row p s).next (row p s).cost (after p 0) q is in
      let others : here first.then' ≡ first.others = same_Some (here first.then') first.others first.others_are in
      let output : first.bytes ≡ bytes = sym (append-nil first.bytes) ∙ ap (λ (x : Reached). first.bytes ++ x.output) others ∙ ap (λ (x : Reached). x.output) first.is in
      let state : first.then' ≡ t = ap (λ (x : Reached). x.state) others ∙ ap (λ (x : Reached). x.state) first.is in
      let none : 0 ≡ first.others.count = ap (λ (x : Reached). x.count) others in
      let sum : (row p s).cost + first.others.count ≡ count = ap (λ (x : Reached). x.count) first.is in
      record {
        call = first.call;
        next = first.next_is ∙ ap (λ (o : List ℕ). Goes o first.call first.then') output ∙ ap (λ (x : State). Goes bytes first.call x) state;
        cost = omega (arith, sum, none);
        holds = all.0;
      }
