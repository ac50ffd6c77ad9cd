use Rattle.std.proofs.Common.{◌≡◌, ◌==◌, true, ℕ, ◌<◌, length, sym, ap, ◌∙◌, subst, arith}
use Rattle.std.specs.List.{All, Contains}
use Rattle.std.proofs.lemmas.Bool.Decides.{nat_tests}
use Rattle.std.proofs.lemmas.List.{nil_from_length}
use Rattle.no_verify_paths.specs.Flow.{row, IsGraph, Settled}
use Rattle.no_verify_paths.specs.Judge.{is_in_row, is_made, IsSolved, Judged}
use Rattle.no_verify_paths.proofs.Judging.{judged_empty}
use Rattle.no_verify_paths.proofs.Deciding.{sketch_graph, sketch_assignments, sketch_needs, sketch_solved}
use Rattle.no_verify_paths.proofs.verdict.judge_row.Goals as goal

empty_length : (n : ℕ) → (n == 0) ≡ true → n ≡ 0
empty_length n e = grind (arith, nat_tests)

pub returns-then-is_empty : goal.returns-then-is_empty
returns-then-is_empty c =
    let f = c.args.function.now in
    let j = c.args.number in
    let needs : c.row_of-needs.result.now ≡ row c.args.sketch.now.book.needs.items j = c.row_of-needs.ensures ∙ ap (λ rows. row rows j) c.as_slice.ensures.value in
    let size : length c.row_of-needs.result.now ≡ 0 = empty_length (length c.row_of-needs.result.now) (sym c.if-is_empty.ensures) in
    subst (λ xs. Judged f (Contains xs) c.args.found c.args.found) (sym (nil_from_length c.row_of-needs.result.now size) ∙ needs) (judged_empty f c.args.found)

pub sets_of-requires : goal.sets_of-requires
sets_of-requires c =
    let f = c.args.function.now in
    let made : c.row_of-assignments.result.now ≡ row c.args.sketch.now.book.assignments.items c.args.number = c.row_of-assignments.ensures ∙ ap (λ rows. row rows c.args.number) c.as_slice-2.ensures.value in
    let all : All (λ (p : ℕ × ℕ). p.1 < length f.blocks) c.row_of-assignments.result.now = subst (λ xs. All (λ (p : ℕ × ℕ). p.1 < length f.blocks) xs) (sym made) (sketch_assignments f c.args.sketch.now c.requires.sketch c.args.number) in
    λ k d lt. omega (arith, all k d lt)

pub solve-requires-clause-edges : goal.solve-requires-clause-edges
solve-requires-clause-edges c =
    let f = c.args.function.now in
    let n = length c.as_slice-5.result.now in
    let size : n ≡ length f.blocks = omega (arith, c.as_slice-5.ensures.len, c.in_ok-gens.ensures.wide) in
    subst (λ rows. IsGraph rows n) (sym c.as_slice-4.ensures.value) (sketch_graph f c.args.sketch.now c.requires.sketch n size)

pub judge-requires-clause-solved : goal.judge-requires-clause-solved
judge-requires-clause-solved c =
    let f = c.args.function.now in
    let j = c.args.number in
    let sketch = c.args.sketch.now in
    let gens = c.in_ok-gens.gens.items in
    let sets = c.in_ok-sets.sets.items in
    let start = c.set_of-start.result in
    let made : c.row_of-assignments.result.now ≡ row sketch.book.assignments.items j = c.row_of-assignments.ensures ∙ ap (λ rows. row rows j) c.as_slice-2.ensures.value in
    let registers : c.row_of.result.now ≡ row sketch.parameters.items j = c.row_of.ensures ∙ ap (λ rows. row rows j) c.as_slice-3.ensures.value in
    let gens' : c.as_slice-5.result.now ≡ gens = c.as_slice-5.ensures.value in
    let flowed : Settled (row c.as_slice-4.result.now) c.as_slice-5.result.now start sets = c.in_ok-sets.ensures.settled in
    let settled : Settled (row sketch.next.items) gens start sets = subst (λ rows. Settled (row rows) gens start sets) c.as_slice-4.ensures.value (subst (λ ws. Settled (row c.as_slice-4.result.now) ws start sets) gens' flowed) in
    let as_wide : length gens ≡ length f.blocks = omega (arith, c.in_ok-gens.gens.ok.0, c.in_ok-gens.ensures.wide) in
    let wide : length sets ≡ length f.blocks = omega (arith, c.in_ok-sets.sets.ok.0, c.in_ok-sets.ensures.wide, c.as_slice-5.ensures.len, c.in_ok-gens.ensures.wide) in
    let solved : IsSolved f j sets gens = sketch_solved f sketch c.requires.sketch j start gens sets
    (λ i. c.set_of-start.ensures i ∙ ap (λ rs. is_in_row rs i) registers)
    (λ b i. c.in_ok-gens.ensures.made b i ∙ ap (λ ps. is_made ps b i) made)
    as_wide wide settled in
    subst (λ ws. IsSolved f j ws c.as_slice-7.result.now) (sym c.as_slice-6.ensures.value) (subst (λ ws. IsSolved f j sets ws) (sym c.as_slice-7.ensures.value) solved)

pub judge-requires-clause-stand : goal.judge-requires-clause-stand
judge-requires-clause-stand c =
    let needs : c.row_of-needs.result.now ≡ row c.args.sketch.now.book.needs.items c.args.number = c.row_of-needs.ensures ∙ ap (λ rows. row rows c.args.number) c.as_slice.ensures.value in
    λ u h. sketch_needs c.args.function.now c.args.sketch.now c.requires.sketch c.args.number u (subst (λ xs. Contains xs u) needs h)

pub returns : goal.returns
returns c =
    let needs : c.row_of-needs.result.now ≡ row c.args.sketch.now.book.needs.items c.args.number = c.row_of-needs.ensures ∙ ap (λ rows. row rows c.args.number) c.as_slice.ensures.value in
    subst (λ xs. Judged c.args.function.now (Contains xs) c.args.found c.judge.result) needs c.judge.ensures
