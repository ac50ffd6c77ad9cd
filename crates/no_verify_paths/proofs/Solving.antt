-- What flows, and what the paths of a function assign.
use Rattle.std.proofs.Common.{◌≡◌, ℕ, ◌+◌, ◌*◌, ◌/◌, ◌%◌, ◌<◌, ◌≤◌, ◌&&◌, ◌||◌, ◌==◌, ◌⊎◌, Bool, true, false, List, [], ◌∷◌, length, take, get_or, slice_index, Vec, refl, sym, ap, ◌∙◌, subst, inl, inr, arith}
use Rattle.std.specs.Global.{Global}
use Rattle.std.specs.List.{Any, Contains, list_any}
use Rattle.std.proofs.lemmas.Bool.{cases_lt, cases_Bool, false≢true}
use Rattle.std.proofs.lemmas.Bool.Decides.{nat_tests}
use Rattle.std.proofs.lemmas.List.Folds.{list_any_more, Any-from_list_any, list_any-from_Any}
use Rattle.std.proofs.lemmas.Option.{slice_get_past}
use Rattle.no_ir.specs.declared.types.Ty.{Ty}
use Rattle.no_ir.specs.declared.instruction.Instr.{Instr}
use Rattle.no_ir.specs.declared.function.Function.{Function}
use Rattle.no_verify_paths.specs.Paths.{PathTo, assigned, assigns, code_of, code_in, is_parameter, is_among, is_result, successors}
use Rattle.no_verify_paths.specs.Words.{has}
use Rattle.no_verify_paths.specs.Flow.{row, Goes, Settled}
use Rattle.no_verify_paths.specs.Survey.{IsAssignment, RowAdded}
use Rattle.no_verify_paths.specs.Judge.{AreParameters, is_in_row, is_made, IsSolved}

same_bools : (a b : Bool) → (a ≡ true → b ≡ true) → (b ≡ true → a ≡ true) → a ≡ b
same_bools true b to from = sym (to refl)
same_bools false true to from = from refl
same_bools false false to from = refl

or_falses : (a b : Bool) → a ≡ false → b ≡ false → (a || b) ≡ false
or_falses true b p q = p
or_falses false b p q = q

left_false : (a b : Bool) → (a || b) ≡ false → a ≡ false
left_false true b p = p
left_false false b p = refl

right_false : (a b : Bool) → (a || b) ≡ false → b ≡ false
right_false true b p = cc
right_false false b p = p

both_true : (a b : Bool) → a ≡ true → b ≡ true → (a && b) ≡ true
both_true true b p q = q
both_true false b p q = p

first_true : (a b : Bool) → (a && b) ≡ true → a ≡ true
first_true true b p = refl
first_true false b p = p

second_true : (a b : Bool) → (a && b) ≡ true → b ≡ true
second_true true b p = p
second_true false b p = cc

equal_true : (a b : ℕ) → (a == b) ≡ true → a ≡ b
equal_true a b e = grind (arith, nat_tests)

true_equal : (a b : ℕ) → a ≡ b → (a == b) ≡ true
true_equal a b e = grind (arith, nat_tests)

one_of : (a b : Bool) → (a || b) ≡ true → (a ≡ true) ⊎ (b ≡ true)
one_of true b p = inl refl
one_of false b p = inr p

or_left : (a b : Bool) → a ≡ true → (a || b) ≡ true
or_left true b p = refl
or_left false b p = cc

or_right : (a b : Bool) → b ≡ true → (a || b) ≡ true
or_right true b p = refl
or_right false b p = p

module _ (j i : ℕ) (low : i < 64) where
  -- the register that is member i of row j
  row_of : (64 * j + i) / 64 ≡ j
  row_of = omega arith

  place_of : (64 * j + i) % 64 ≡ i
  place_of = omega arith

  number_of : (r : ℕ) → r / 64 ≡ j → r % 64 ≡ i → r ≡ 64 * j + i
  number_of r p q = omega arith

module _ (parameters : List (ℕ × Ty)) (rows : List (Vec ℕ Global)) (are : AreParameters parameters rows) (j i : ℕ) (low : i < 64) where
  to_parameter : Any (λ r. (r % 64 == i) ≡ true) (row rows j) → is_among parameters (64 * j + i) ≡ true
  to_parameter (k, r, lt, at, test) =
      let made = are.made j r (k, lt, at) in
      subst (λ x. is_among parameters x ≡ true) (number_of j i low r made.0 (equal_true (r % 64) i test)) made.1

  from_parameter : is_among parameters (64 * j + i) ≡ true → Any (λ r. (r % 64 == i) ≡ true) (row rows j)
  from_parameter e =
      let (k, lt, at) = subst (λ x. Contains (row rows x) (64 * j + i)) (row_of j i low) (are.told (64 * j + i) e) in
      (k, 64 * j + i, lt, at, true_equal ((64 * j + i) % 64) i (place_of j i low))

  start_among : is_in_row (row rows j) i ≡ is_among parameters (64 * j + i)
  start_among = same_bools (is_in_row (row rows j) i) (is_among parameters (64 * j + i))
      (λ e. to_parameter (Any-from_list_any (λ r. r % 64 == i) (row rows j) e))
      (λ e. list_any-from_Any (λ r. r % 64 == i) (row rows j) (from_parameter e))

no_register : {X : Type 0} (x : X) → Contains {X = X} [] x → ⊥
no_register x h = omega (arith, h.1)

pub parameters_none : (rows : List (Vec ℕ Global)) → rows ≡ [] → AreParameters [] rows
unfolding row
parameters_none rows none = record {
  made = λ j r h. absurd (no_register r (subst (λ rs. Contains (row rs j) r) none h));
  told = λ r e. absurd (false≢true e);
}

among_more : (ps : List (ℕ × Ty)) (i : ℕ) (p : ℕ × Ty) → i < length ps → p ≡ get_or ps i p → (r : ℕ) → is_among (take (i + 1) ps) r ≡ (is_among (take i ps) r || p.0 == r)
among_more ps i p within is r = list_any_more (λ (q : ℕ × Ty). q.0 == r) ps i p within ∙ ap (λ (q : ℕ × Ty). is_among (take i ps) r || q.0 == r) (sym is)

pub parameters_more : (ps : List (ℕ × Ty)) (i : ℕ) (p : ℕ × Ty) (old new : List (Vec ℕ Global)) → i < length ps → p ≡ get_or ps i p → AreParameters (take i ps) old → RowAdded (p.0 / 64) p.0 old new → AreParameters (take (i + 1) ps) new
parameters_more ps i p old new within is are added = record {
  made = λ j r h. elim (added.only j r h) [
    | inl was ↦ ((are.made j r was).0, among_more ps i p within is r ∙ or_left _ _ (are.made j r was).1)
    | inr (row', same) ↦ (ap (λ x. x / 64) same ∙ sym row', among_more ps i p within is r ∙ or_right _ _ (true_equal p.0 r (sym same)))
  ];
  told = λ r e. elim (one_of _ _ (sym (among_more ps i p within is r) ∙ e)) [
    | inl early ↦ added.kept (r / 64) r (are.told r early)
    | inr now ↦ subst (λ x. Contains (row new (x / 64)) x) (equal_true p.0 r now) added.there
  ];
}

pub start_is : (f : Function) (rows : List (Vec ℕ Global)) → AreParameters f.params rows → (j i : ℕ) → i < 64 → is_in_row (row rows j) i ≡ is_parameter f (64 * j + i)
unfolding is_parameter
start_is f rows are j i low = start_among f.params rows are j i low

none_assigned : (f : Function) (b r : ℕ) → length f.blocks ≤ b → assigns r (code_of f b) ≡ true → ⊥
unfolding code_of assigns
none_assigned f b r past e = false≢true (ap (λ o. list_any (λ (i : Instr). is_result r i.result) (code_in o)) (sym (slice_get_past f.blocks b past)) ∙ e)

module _ (f : Function) (rows : List (Vec (ℕ × ℕ) Global)) (made : (j : ℕ) (p : ℕ × ℕ) → Contains (row rows j) p → IsAssignment f j p)
    (told : (r c : ℕ) → c < length f.blocks → assigns r (code_of f c) ≡ true → Contains (row rows (r / 64)) (r, c)) (j b i : ℕ) (low : i < 64) where
  to_assigned : Any (λ (p : ℕ × ℕ). (p.1 == b && p.0 % 64 == i) ≡ true) (row rows j) → assigns (64 * j + i) (code_of f b) ≡ true
  to_assigned (k, p, lt, at, test) =
      let is : IsAssignment f j p = made j p (k, lt, at) in
      subst (λ c. assigns (64 * j + i) (code_of f c) ≡ true) (equal_true p.1 b (first_true _ _ test))
      (subst (λ r. assigns r (code_of f p.1) ≡ true) (number_of j i low p.0 is.row (equal_true (p.0 % 64) i (second_true _ _ test))) is.assigns)

  from_assigned : b < length f.blocks → assigns (64 * j + i) (code_of f b) ≡ true → Any (λ (p : ℕ × ℕ). (p.1 == b && p.0 % 64 == i) ≡ true) (row rows j)
  from_assigned within e =
      let (k, lt, at) = subst (λ x. Contains (row rows x) (64 * j + i, b)) (row_of j i low) (told (64 * j + i) b within e) in
      (k, (64 * j + i, b), lt, at, both_true (b == b) ((64 * j + i) % 64 == i) (true_equal b b refl) (true_equal ((64 * j + i) % 64) i (place_of j i low)))

  pub gens_are : is_made (row rows j) b i ≡ assigns (64 * j + i) (code_of f b)
  gens_are = same_bools (is_made (row rows j) b i) (assigns (64 * j + i) (code_of f b))
      (λ e. to_assigned (Any-from_list_any (λ (p : ℕ × ℕ). p.1 == b && p.0 % 64 == i) (row rows j) e))
      (λ e. elim (cases_lt b (length f.blocks)) [
        | inl within ↦ list_any-from_Any (λ (p : ℕ × ℕ). p.1 == b && p.0 % 64 == i) (row rows j) (from_assigned within e)
        | inr past ↦ absurd (none_assigned f b (64 * j + i) past e)
      ])

module _ (f : Function) (j : ℕ) (next : ℕ → List ℕ) (gens : List ℕ) (start : ℕ)
    (edges : (a : ℕ) → next a ≡ successors f a)
    (starts : (i : ℕ) → i < 64 → has start i ≡ is_parameter f (64 * j + i))
    (makes : (b i : ℕ) → i < 64 → has (slice_index gens b) i ≡ assigns (64 * j + i) (code_of f b)) where
  to_path : (before : List ℕ) (b i : ℕ) → i < 64 → Goes next gens b before i → has start i ≡ false → PathTo f b before × (assigned f before (64 * j + i) ≡ false)
  to_path [] b i low is none = (is, sym (starts i low) ∙ none)
  to_path (a ∷ before) b i low (edge, off, path) none =
      let rest : PathTo f a before × (assigned f before (64 * j + i) ≡ false) = to_path before a i low path none in
      ((subst (λ xs. Contains xs b) (edges a) edge, rest.0), or_falses _ _ rest.1 (sym (makes a i low) ∙ off))

  from_path : (before : List ℕ) (b i : ℕ) → i < 64 → PathTo f b before → assigned f before (64 * j + i) ≡ false → Goes next gens b before i × (has start i ≡ false)
  from_path [] b i low is none = (is, starts i low ∙ none)
  from_path (a ∷ before) b i low (edge, path) none =
      let rest : Goes next gens a before i × (has start i ≡ false) = from_path before a i low path (left_false _ _ none) in
      ((subst (λ xs. Contains xs b) (sym (edges a)) edge, makes a i low ∙ right_false _ _ none, rest.0), rest.1)

  pub solved_is : (sets : List ℕ) → length sets ≡ length f.blocks → length gens ≡ length f.blocks → Settled next gens start sets → IsSolved f j sets gens
  solved_is sets wide as_wide settled = record {
    wide = wide;
    as_wide = as_wide;
    missed = λ b i lt low h.
        let (before, goes, none) = settled.shown b i (omega arith) low h in
        let p : PathTo f b before × (assigned f before (64 * j + i) ≡ false) = to_path before b i low goes none in
        (before, p.0, p.1);
    met = λ before b i low path h. elim (cases_Bool (assigned f before (64 * j + i))) [
      | inl yes' ↦ yes'
      | inr none ↦
          let g : Goes next gens b before i × (has start i ≡ false) = from_path before b i low path none in
          absurd (false≢true (sym (settled.sound b i low (before, g.0, g.1)) ∙ h))
    ];
    made = λ b i lt low. makes b i low;
  }
