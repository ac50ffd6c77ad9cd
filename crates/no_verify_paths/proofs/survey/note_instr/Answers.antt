use Rattle.std.proofs.Common.{◌≡◌, ◌++◌, ◌∙◌, ap}
use Rattle.std.proofs.lemmas.Result.{on_ok_weaker}
use Rattle.no_verify_paths.specs.Paths.{uses, phi_uses}
use Rattle.no_verify_paths.proofs.Noting.{step_is}
use Rattle.no_verify_paths.proofs.survey.note_instr.Goals as goal

pub returns : goal.returns
returns c =
    let i = c.args.instr.now in
    let registers : c.as_slice.result.now ≡ uses i.op = c.as_slice.ensures.value ∙ (c.in_ok-list_uses.ensures ∙ ap (λ xs. xs ++ uses i.op) c.new-registers.ensures.items) in
    let pairs : c.as_slice-3.result.now ≡ phi_uses i.op = c.as_slice-3.ensures.value ∙ (c.in_ok-list_phi_uses.ensures ∙ ap (λ xs. xs ++ phi_uses i.op) c.new-pairs.ensures.items) in
    on_ok_weaker c.note_result.result (λ told. step_is i c.args.labels.now c.args.user c.args.book.now (record { needs = c.note_ends.new.needs; assignments = c.note_result.new.assignments; marks = c.note_result.new.marks })
    c.as_slice.result.now c.as_slice-2.result.now c.as_slice-3.result.now c.note_uses.new.needs.items registers c.as_slice-2.ensures.value pairs c.in_ok-note_uses.ensures c.in_ok-note_ends.ensures told) c.note_result.ensures
