-- Steps compose, and a run is one thing alone that goes on from whatever its steps reach.
use Rattle.std.proofs.Common.{◌≡◌, ℕ, zero, suc, ◌+◌, ◌-◌, ◌≤◌, ◌==◌, nat_lt, Bool, true, false, true≢false, eqb-true, ltb-true, ltb-false, append-nil, Option, Some, None, option_map, if◌then◌else◌, List, [], ◌++◌, append_assoc, refl, sym, ap, ◌∙◌, subst, arith}
use Rattle.std.proofs.lemmas.Option.{none-some, same_Some}
use Rattle.no_semantics.specs.Acting.{row, step}
use Rattle.no_semantics.specs.Rows.{Row, Next, Calling, Goes, Leaves, Ends, Stuck, limited, affordable, unfinished}
use Rattle.no_semantics.specs.Runs.{Whole, Runs, resumed, whole_by, within}
use Rattle.no_semantics.specs.States.{State}
use Rattle.no_semantics.specs.Steps.{Reached, Steps, here, from_there, reached_by, after}
use Rattle.no_semantics.specs.Values.{Program}

pub mapped : {A B : Type 0} (h : A → B) (o : Option A) (y : B) → option_map h o ≡ Some y → (x : A) × (o ≡ Some x) × (h x ≡ y)
mapped h None y e = absurd (none-some y e)
mapped h (Some x) y e = (x, refl, same_Some (h x) y e)

-- ---- a run is one thing alone

-- more steps give the same
longer_by : (cost : ℕ) (next : Next) (s : State) (f g : State → Option Whole) → ((t : State) (w : Whole) → f t ≡ Some w → g t ≡ Some w)
    → (w : Whole) → whole_by cost next s f ≡ Some w → whole_by cost next s g ≡ Some w
longer_by cost (Goes bytes call t) s f g more w e =
    let m = mapped (resumed bytes cost) (f t) w e in
    ap (option_map (resumed bytes cost)) (more t m.0 m.1) ∙ ap Some m.2
longer_by cost (Leaves v) s f g more w e = e
longer_by cost (Ends v) s f g more w e = e
longer_by cost Stuck s f g more w e = e

pub longer : (p : Program) (n m left : ℕ) (s : State) (w : Whole) → n ≤ m → within p n left s ≡ Some w → within p m left s ≡ Some w
longer p zero m left s w le e = absurd (none-some w e)
longer p (suc n) zero left s w le e = absurd (omega (arith, le))
longer p (suc n) (suc m) left s w le e =
    longer_by (step p left s).cost (step p left s).next s (within p n (left - (step p left s).cost)) (within p m (left - (step p left s).cost))
    (λ t v f. longer p n m (left - (step p left s).cost) t v (omega (arith, le)) f) w e

pub runs_once : (p : Program) (left : ℕ) (s : State) (w v : Whole) → Runs p left s w → Runs p left s v → w ≡ v
runs_once p left s w v a b =
    same_Some w v (sym (longer p a.0 (a.0 + b.0) left s w (omega arith) a.1) ∙ longer p b.0 (a.0 + b.0) left s v (omega arith) b.1)

-- ---- a step within what is left

-- a row is done within what is left exactly where it costs no more
limited_as : (left : ℕ) (r : Row) (zero_cost none : Bool) → (r.cost == 0) ≡ zero_cost → (left == 0) ≡ none → r.cost ≤ left → limited left r ≡ r
limited_as left r true none e f le = ap (λ (b : Bool). if b then r else (if left == 0 then unfinished [] else affordable left r)) e
limited_as left r false true e f le =
    let none : r.cost ≡ 0 = omega (arith, eqb-true left 0 f, le) in
    absurd (true≢false (sym (ap (λ (n : ℕ). n == 0) none) ∙ e))
limited_as left r false false e f le =
    ap (λ (b : Bool). if b then r else (if left == 0 then unfinished [] else affordable left r)) e
    ∙ ap (λ (b : Bool). if b then unfinished [] else affordable left r) f
    ∙ fits (nat_lt left r.cost) refl
  where
    fits : (b : Bool) → nat_lt left r.cost ≡ b → affordable left r ≡ r
    fits true g = absurd (omega (arith, ltb-true left r.cost g, le))
    fits false g = ap (λ (b : Bool). if b then unfinished r.sought else r) g

pub affords : (left : ℕ) (r : Row) → r.cost ≤ left → limited left r ≡ r
affords left r le = limited_as left r (r.cost == 0) (left == 0) refl refl le

-- what goes on within what is left is the whole row, and costs no more
pub record IsAfforded (left : ℕ) (r : Row) : Type 0 where
  pub same : limited left r ≡ r
  pub most : r.cost ≤ left

is_going : Next → Bool
is_going (Goes bytes call t) = true
is_going _ = false

went_as : (left : ℕ) (r : Row) (no_cost none more : Bool) → (r.cost == 0) ≡ no_cost → (left == 0) ≡ none → nat_lt left r.cost ≡ more → is_going (limited left r).next ≡ true → IsAfforded left r
unfolding is_going
went_as left r true none more e f g h =
    let free : r.cost ≡ 0 = eqb-true r.cost 0 e in
    record { same = affords left r (omega (arith, free)); most = omega (arith, free) }
went_as left r false true more e f g h =
    absurd (true≢false (sym (sym (ap (λ (b : Bool). is_going (if b then r else (if left == 0 then unfinished [] else affordable left r)).next) e
    ∙ ap (λ (b : Bool). is_going (if b then unfinished [] else affordable left r).next) f) ∙ h)))
went_as left r false false true e f g h =
    absurd (true≢false (sym (sym (ap (λ (b : Bool). is_going (if b then r else (if left == 0 then unfinished [] else affordable left r)).next) e
    ∙ ap (λ (b : Bool). is_going (if b then unfinished [] else affordable left r).next) f
    ∙ ap (λ (b : Bool). is_going (if b then unfinished r.sought else r).next) g) ∙ h)))
went_as left r false false false e f g h =
    let le : r.cost ≤ left = omega (arith, ltb-false left r.cost g) in
    record { same = affords left r le; most = le }

pub went : (left : ℕ) (r : Row) (bytes : List ℕ) (call : Option Calling) (t : State) → (limited left r).next ≡ Goes bytes call t → IsAfforded left r
unfolding is_going
went left r bytes call t e = went_as left r (r.cost == 0) (left == 0) (nat_lt left r.cost) refl refl refl (ap is_going e)

-- ---- steps

-- the first of some steps, and the others
pub record IsFirst (next : Next) (cost : ℕ) (rest : State → Option Reached) (q : Reached) : Type 0 where
  pub bytes : List ℕ
  pub call : Option Calling
  pub then' : State
  pub next_is : next ≡ Goes bytes call then'
  pub others : Reached
  pub others_are : rest then' ≡ Some others
  pub is : from_there bytes cost others ≡ q

pub first_of : (next : Next) (cost : ℕ) (rest : State → Option Reached) (q : Reached) → reached_by cost next rest ≡ Some q → IsFirst next cost rest q
first_of (Goes bytes call t) cost rest q e =
    let m = mapped (from_there bytes cost) (rest t) q e in
    record { bytes = bytes; call = call; then' = t; next_is = refl; others = m.0; others_are = m.1; is = m.2 }
first_of (Leaves v) cost rest q e = absurd (none-some q e)
first_of (Ends v) cost rest q e = absurd (none-some q e)
first_of Stuck cost rest q e = absurd (none-some q e)

-- a step before others
pub before_others : (p : Program) (n : ℕ) (s t : State) (bytes : List ℕ) (call : Option Calling) (q : Reached) → (row p s).next ≡ Goes bytes call t → after p n t ≡ Some q → after p (suc n) s ≡ Some (from_there bytes (row p s).cost q)
before_others p n s t bytes call q e f = ap (λ (x : Next). reached_by (row p s).cost x (after p n)) e ∙ ap (option_map (from_there bytes (row p s).cost)) f

abbrev pub joined : Reached → Reached → Reached
joined q r = record { output = q.output ++ r.output; count = q.count + r.count; state = r.state }

-- both bytes and counts add up
same_reached : (o u : List ℕ) (c d : ℕ) (s : State) → o ≡ u → c ≡ d → ◌≡◌ {A = Reached} (record { output = o; count = c; state = s }) (record { output = u; count = d; state = s })
same_reached o u c d s e f = ap (λ (x : List ℕ). record { output = x; count = c; state = s }) e ∙ ap (λ (x : ℕ). record { output = u; count = x; state = s }) f

pub compose : (p : Program) (n m : ℕ) (s : State) (q r : Reached) → after p n s ≡ Some q → after p m q.state ≡ Some r → (k : ℕ) × (after p k s ≡ Some (joined q r))
compose p zero m s q r e f =
    let is : here s ≡ q = same_Some (here s) q e in (
      m,
      ap (λ (x : Reached). after p m x.state) is ∙ f
          ∙ ap Some (same_reached r.output ([] ++ r.output) r.count (0 + r.count) r.state refl (omega arith))
          ∙ ap (λ (x : Reached). Some (joined x r)) is,
    )
compose p (suc n) m s q r e f =
    let first : IsFirst (row p s).next (row p s).cost (after p n) q = first_of (row p s).next (row p s).cost (after p n) q e in
    let more : (k : ℕ) × (after p k first.then' ≡ Some (joined first.others r)) = compose p n m first.then' first.others r first.others_are (ap (λ (x : Reached). after p m x.state) first.is ∙ f) in (
      suc more.0,
      before_others p more.0 s first.then' first.bytes first.call (joined first.others r) first.next_is more.1
          ∙ ap Some (same_reached (first.bytes ++ (first.others.output ++ r.output)) ((first.bytes ++ first.others.output) ++ r.output) ((row p s).cost + (first.others.count + r.count)) (((row p s).cost + first.others.count) + r.count) r.state
          (sym (append_assoc first.bytes first.others.output r.output)) (omega arith))
          ∙ ap (λ (x : Reached). Some (joined x r)) first.is,
    )

pub steps_compose : (p : Program) (s t u : State) (bytes more : List ℕ) (count cost : ℕ) → Steps p s bytes count t → Steps p t more cost u → Steps p s (bytes ++ more) (count + cost) u
steps_compose p s t u bytes more count cost a b =
    compose p a.0 b.0 s (record { output = bytes; count = count; state = t }) (record { output = more; count = cost; state = u }) a.1 b.1

-- no step, and one step
pub no_step : (p : Program) (s : State) → Steps p s [] 0 s
no_step p s = (0, refl)

pub one_step : (p : Program) (s t : State) (bytes : List ℕ) (call : Option Calling) → (row p s).next ≡ Goes bytes call t → Steps p s bytes (row p s).cost t
one_step p s t bytes call e =
    (1, before_others p 0 s t bytes call (here t) e refl ∙ ap Some (same_reached (bytes ++ []) bytes ((row p s).cost + 0) (row p s).cost t (append-nil bytes) (omega arith)))

-- ---- a run goes on from what its steps reach

same_whole : (o u : List ℕ) (c d : ℕ) (w : Whole) → o ≡ u → c ≡ d → ◌≡◌ {A = Whole} (record { output = o; count = c; finish = w.finish; state = w.state }) (record { output = u; count = d; finish = w.finish; state = w.state })
same_whole o u c d w e f = ap (λ (x : List ℕ). record { output = x; count = c; finish = w.finish; state = w.state }) e ∙ ap (λ (x : ℕ). record { output = u; count = x; finish = w.finish; state = w.state }) f

-- a step within what is left, and what follows
within_step : (p : Program) (k left : ℕ) (s : State) → (row p s).cost ≤ left → within p (suc k) left s ≡ whole_by (row p s).cost (row p s).next s (within p k (left - (row p s).cost))
within_step p k left s le = ap (λ (r : Row). whole_by r.cost r.next s (within p k (left - r.cost))) (affords left (row p s) le)

pub resume : (p : Program) (n left : ℕ) (s : State) (q : Reached) (w : Whole) → after p n s ≡ Some q → q.count ≤ left → Runs p (left - q.count) q.state w → Runs p left s (resumed q.output q.count w)
resume p zero left s q w e le runs =
    let is : here s ≡ q = same_Some (here s) q e in
    subst (λ (x : Reached). Runs p left s (resumed x.output x.count w)) is
    (subst (λ (x : Whole). Runs p left s x) (same_whole w.output ([] ++ w.output) w.count (0 + w.count) w refl (omega arith))
    (subst (λ (l : ℕ). Runs p l s w) (omega arith) (subst (λ (x : Reached). Runs p (left - x.count) x.state w) (sym is) runs)))
resume p (suc n) left s q w e le runs =
    let first : IsFirst (row p s).next (row p s).cost (after p n) q = first_of (row p s).next (row p s).cost (after p n) q e in
    let total : (row p s).cost + first.others.count ≡ q.count = ap (λ (x : Reached). x.count) first.is in
    let left_over : left - q.count ≡ (left - (row p s).cost) - first.others.count = omega (arith, total) in
    let same_state : first.others.state ≡ q.state = ap (λ (x : Reached). x.state) first.is in
    let there : Runs p ((left - (row p s).cost) - first.others.count) first.others.state w = subst (λ (l : ℕ). Runs p l first.others.state w) left_over (subst (λ (u : State). Runs p (left - q.count) u w) (sym same_state) runs) in
    let more : Runs p (left - (row p s).cost) first.then' (resumed first.others.output first.others.count w) =
    resume p n (left - (row p s).cost) first.then' first.others w first.others_are (omega (arith, total, le)) there in (
      suc more.0,
      within_step p more.0 left s (omega (arith, total, le))
          ∙ ap (λ (x : Next). whole_by (row p s).cost x s (within p more.0 (left - (row p s).cost))) first.next_is
          ∙ ap (option_map (resumed first.bytes (row p s).cost)) more.1
          ∙ ap Some (same_whole (first.bytes ++ (first.others.output ++ w.output)) ((first.bytes ++ first.others.output) ++ w.output) ((row p s).cost + (first.others.count + w.count)) (((row p s).cost + first.others.count) + w.count) w
          (sym (append_assoc first.bytes first.others.output w.output)) (omega arith))
          ∙ ap (λ (x : Reached). Some (resumed x.output x.count w)) first.is,
    )

pub runs_resume : (p : Program) (left : ℕ) (s t : State) (bytes : List ℕ) (count : ℕ) (w : Whole) → Steps p s bytes count t → count ≤ left → Runs p (left - count) t w → Runs p left s (resumed bytes count w)
runs_resume p left s t bytes count w steps le runs = resume p steps.0 left s (record { output = bytes; count = count; state = t }) w steps.1 le runs

-- the rest of a run
pub record IsRest (p : Program) (left : ℕ) (q : Reached) (w : Whole) : Type 0 where
  pub rest : Whole
  pub runs : Runs p (left - q.count) q.state rest
  pub is : w ≡ resumed q.output q.count rest

-- the whole run's first step, and the rest
rest_by : (cost : ℕ) (next : Next) (s : State) (f : State → Option Whole) (w : Whole) (bytes : List ℕ) (call : Option Calling) (t : State) → next ≡ Goes bytes call t → whole_by cost next s f ≡ Some w
    → (v : Whole) × (f t ≡ Some v) × (resumed bytes cost v ≡ w)
rest_by cost next s f w bytes call t e g = mapped (resumed bytes cost) (f t) w (sym (ap (λ (x : Next). whole_by cost x s f) e) ∙ g)

pub split : (p : Program) (n left : ℕ) (s : State) (q : Reached) (w : Whole) → after p n s ≡ Some q → q.count ≤ left → Runs p left s w → IsRest p left q w
split p zero left s q w e le runs =
    let is : here s ≡ q = same_Some (here s) q e in
    subst (λ (x : Reached). IsRest p left x w) is
    (record { rest = w; runs = subst (λ (l : ℕ). Runs p l s w) (omega arith) runs; is = same_whole w.output ([] ++ w.output) w.count (0 + w.count) w refl (omega arith) })
split p (suc n) left s q w e le (zero, f) = absurd (none-some w f)
split p (suc n) left s q w e le (suc k, f) =
    let first : IsFirst (row p s).next (row p s).cost (after p n) q = first_of (row p s).next (row p s).cost (after p n) q e in
    let total : (row p s).cost + first.others.count ≡ q.count = ap (λ (x : Reached). x.count) first.is in
    let there = rest_by (row p s).cost (row p s).next s (within p k (left - (row p s).cost)) w first.bytes first.call first.then' first.next_is (sym (within_step p k left s (omega (arith, total, le))) ∙ f) in
    let more : IsRest p (left - (row p s).cost) first.others there.0 = split p n (left - (row p s).cost) first.then' first.others there.0 first.others_are (omega (arith, total, le)) (k, there.1) in
    let left_over : (left - (row p s).cost) - first.others.count ≡ left - q.count = omega (arith, total) in
    let same_state : first.others.state ≡ q.state = ap (λ (x : Reached). x.state) first.is in
    record {
      rest = more.rest;
      runs = subst (λ (u : State). Runs p (left - q.count) u more.rest) same_state (subst (λ (l : ℕ). Runs p l first.others.state more.rest) left_over more.runs);
      is = sym there.2 ∙ ap (resumed first.bytes (row p s).cost) more.is
          ∙ same_whole (first.bytes ++ (first.others.output ++ more.rest.output)) ((first.bytes ++ first.others.output) ++ more.rest.output) ((row p s).cost + (first.others.count + more.rest.count)) (((row p s).cost + first.others.count) + more.rest.count) more.rest
          (sym (append_assoc first.bytes first.others.output more.rest.output)) (omega arith)
          ∙ ap (λ (x : Reached). resumed x.output x.count more.rest) first.is;
    }

pub runs_split : (p : Program) (left : ℕ) (s t : State) (bytes : List ℕ) (count : ℕ) (w : Whole) → Steps p s bytes count t → count ≤ left → Runs p left s w → (v : Whole) × Runs p (left - count) t v × (w ≡ resumed bytes count v)
runs_split p left s t bytes count w steps le runs =
    let r : IsRest p left (record { output = bytes; count = count; state = t }) w = split p steps.0 left s (record { output = bytes; count = count; state = t }) w steps.1 le runs in
    (r.rest, r.runs, r.is)
