-- From rows that were judged to the answer for a function.
use Rattle.std.proofs.Common.{◌≡◌, ℕ, ◌+◌, ◌/◌, ◌<◌, ◌≤◌, ◌⊎◌, ◌==◌, true, List, length, get_or, slice_index, Vec, Option, None, sym, ap, ◌∙◌, subst, inl, inr, arith}
use Rattle.std.specs.Global.{Global}
use Rattle.std.specs.List.{All, Contains}
use Rattle.std.proofs.lemmas.Bool.{cases_lt, cases_eq}
use Rattle.std.proofs.lemmas.Bool.Decides.{nat_tests}
use Rattle.std.proofs.lemmas.List.Elements.{Contains-get_or}
use Rattle.no_ir.specs.declared.function.Block.{Block}
use Rattle.no_ir.specs.declared.function.Function.{Function}
use Rattle.no_verify_paths.specs.Paths.{successors, IsUnassigned, IsAnswer}
use Rattle.no_verify_paths.specs.Words.{has}
use Rattle.no_verify_paths.specs.Flow.{row, IsGraph, Settled}
use Rattle.no_verify_paths.specs.Survey.{IsMissed, IsNeed}
use Rattle.no_verify_paths.specs.Judge.{is_in_row, is_made, IsSolved, Judged, IsSketch, InRows}
use Rattle.no_verify_paths.specs.declared.need.Need.{Need}
use Rattle.no_verify_paths.specs.declared.verdict.Sketch.{Sketch}
use Rattle.no_verify_paths.proofs.RowLaws.{row_past, row_within}
use Rattle.no_verify_paths.proofs.Noting.{successors_inside, no_successors, code_past, none_past}
use Rattle.no_verify_paths.proofs.Judging.{judged_none, judged_then, judged_as, assigned_or_not, answered}
use Rattle.no_verify_paths.proofs.Solving.{start_is, gens_are, solved_is}

each : {X : Type 0} (P : X → Type 0) (xs : List X) → ((x : X) → Contains xs x → P x) → All P xs
each P xs h = λ k d lt. h (get_or xs k d) (Contains-get_or xs k d lt)

module _ (f : Function) (sketch : Sketch) (is : IsSketch f sketch) where
  all_edges : (a : ℕ) → row sketch.next.items a ≡ successors f a
  all_edges a = elim (cases_lt a (length f.blocks)) [
    | inl lt ↦ is.edges a lt
    | inr past ↦ row_past sketch.next.items a (omega (arith, sketch.next.ok.0, is.width)) ∙ sym (no_successors f a past)
  ]

  pub sketch_graph : (n : ℕ) → n ≡ length f.blocks → IsGraph sketch.next.items n
  sketch_graph n e = record {
    width = omega (arith, sketch.next.ok.0, is.width);
    inside = λ a. subst (λ m. All (λ b. b < m) (row sketch.next.items a)) (sym e) (subst (λ bs. All (λ b. b < length f.blocks) bs) (sym (all_edges a)) (successors_inside f a));
  }

  pub sketch_assignments : (j : ℕ) → All (λ (p : ℕ × ℕ). p.1 < length f.blocks) (row sketch.book.assignments.items j)
  sketch_assignments j = each (λ (p : ℕ × ℕ). p.1 < length f.blocks) (row sketch.book.assignments.items j) (λ p h. (is.book.made j p h).block)

  pub sketch_needs : (j : ℕ) (u : Need) → Contains (row sketch.book.needs.items j) u → IsNeed f j u
  sketch_needs = is.book.stand

  pub sketch_solved : (j start : ℕ) (gens sets : List ℕ) → ((i : ℕ) → has start i ≡ is_in_row (row sketch.parameters.items j) i) → ((b i : ℕ) → has (slice_index gens b) i ≡ is_made (row sketch.book.assignments.items j) b i)
      → length gens ≡ length f.blocks → length sets ≡ length f.blocks → Settled (row sketch.next.items) gens start sets → IsSolved f j sets gens
  sketch_solved j start gens sets starts makes as_wide wide settled = solved_is f j (row sketch.next.items) gens start all_edges
      (λ i low. starts i ∙ start_is f sketch.parameters.items is.parameters j i low)
      (λ b i low. makes b i ∙ gens_are f sketch.book.assignments.items is.book.made is.book.told j b i low)
      sets wide as_wide settled

  inside_of : (b k : ℕ) → IsUnassigned f b k → b < length f.blocks
  inside_of b k un = elim (cases_lt b (length f.blocks)) [ inl lt ↦ lt | inr past ↦ absurd (none_past f b k (subst (λ code. length code ≤ k) (sym (code_past f b past)) (omega arith)) un) ]

  pub sketch_answer : (n : ℕ) (first : Option (ℕ × ℕ)) → length sketch.book.needs.items ≤ n → Judged f (InRows sketch.book.needs.items n) None first → IsAnswer f first
  sketch_answer n first all judged = answered f (InRows sketch.book.needs.items n)
      (λ u (j, lt, at) m. (is.book.stand j u at).stands m)
      (λ b k un.
      let h = is.book.noted b k (inl (inside_of b k un)) un in
      let row' : h.need.register / 64 < length sketch.book.needs.items = row_within sketch.book.needs.items (h.need.register / 64) h.need h.noted in
      (h.need, (h.need.register / 64, omega arith, h.noted), h.at_block, h.at_place, h.missed))
      first judged

module _ (f : Function) (rows : List (Vec Need Global)) where
  no_row : (u : Need) → InRows rows 0 u → IsMissed f u → ⊥
  no_row u (j, lt, at) m = omega arith

  pub rows_none : Judged f (InRows rows 0) None None
  rows_none = judged_none f (InRows rows 0) None no_row

  row_to : (n : ℕ) (u : Need) → InRows rows n u ⊎ Contains (row rows n) u → InRows rows (n + 1) u
  row_to n u (inl (j, lt, at)) = (j, omega arith, at)
  row_to n u (inr at) = (n, omega arith, at)

  row_from : (n : ℕ) (u : Need) → InRows rows (n + 1) u → InRows rows n u ⊎ Contains (row rows n) u
  row_from n u (j, lt, at) = elim (cases_eq j n) [
    | inl same ↦ inr (subst (λ k. Contains (row rows k) u) same at)
    | inr other ↦ inl (j, omega arith, at)
  ]

  pub rows_more : (n : ℕ) (a b : Option (ℕ × ℕ)) → Judged f (InRows rows n) None a → Judged f (Contains (row rows n)) a b → Judged f (InRows rows (n + 1)) None b
  rows_more n a b g h = judged_as f (λ u. InRows rows n u ⊎ Contains (row rows n) u) (InRows rows (n + 1)) None b (row_to n) (row_from n) (judged_then f (InRows rows n) (Contains (row rows n)) None a b g h)

pub no_blocks_answer : (f : Function) → length f.blocks ≡ 0 → IsAnswer f None
no_blocks_answer f none b k = assigned_or_not f b k (λ un. none_past f b k (subst (λ code. length code ≤ k) (sym (code_past f b (omega arith))) (omega arith)) un)

empty_length : (n : ℕ) → (n == 0) ≡ true → n ≡ 0
empty_length n e = grind (arith, nat_tests)

pub empty_answer : (f : Function) (blocks : List Block) → blocks ≡ f.blocks → (length blocks == 0) ≡ true → IsAnswer f None
empty_answer f blocks are e = no_blocks_answer f (ap (λ (bs : List Block). length bs) (sym are) ∙ empty_length (length blocks) e)
