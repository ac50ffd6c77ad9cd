use Rattle.std.proofs.Common.{◌≡◌, ◌≤◌, List, Some, length, slice_get, arith, sym, ap, ◌∙◌, refl, subst, get_or}
use Rattle.std.proofs.lemmas.Option.{slice_get_read}
use Rattle.no_ir.specs.declared.function.Block.{Block}
use Rattle.no_ir.specs.declared.instruction.Instr.{Instr}
use Rattle.no_verify_paths.specs.Paths.{code_of}
use Rattle.no_verify_paths.specs.Survey.{IsStep}
use Rattle.no_verify_paths.proofs.Noting.{code_is, block_inside, notes_more, notes_next}
use Rattle.no_verify_paths.proofs.survey.note_block.Goals as goal

pub loop-place-preserved : goal.loop-place-preserved
loop-place-preserved c =
    let f = c.args.function.now in
    let n = c.args.number in
    let k = c.loop-place.place in
    let block = c.index-as_slice-number.result in
    let blocks : c.as_slice.result.now ≡ f.blocks = c.as_slice.ensures in
    let code : code_of f n ≡ c.as_slice-code.result.now = code_is f n block c.requires.block (c.index-as_slice-number.is ∙ ap (λ (bs : List Block). get_or bs n block) blocks) ∙ (ap (λ (b : Block). b.instrs) c.index-as_slice-number.is ∙ sym c.as_slice-code.ensures) in
    let stands : slice_get (code_of f n) k ≡ Some c.index-code-place.result = ap (λ (is : List Instr). slice_get is k) code ∙ slice_get_read c.as_slice-code.result.now (length c.as_slice-code.result.now) k c.index-code-place.result refl (omega arith) c.index-code-place.is in
    let old = c.loop-place.book in
    let new = c.note_instr.new.book in
    let step : IsStep c.index-code-place.result c.args.labels.now (n, k) old new = c.in_ok-note_instr.ensures in
    notes_more f n k c.index-code-place.result c.args.labels.now old.needs.items new.needs.items old.assignments.items new.assignments.items old.marks.items new.marks.items stands c.requires.labels c.requires.block (block_inside f) c.loop-place.invariant step.needs step.result

pub returns : goal.returns
returns c =
    let f = c.args.function.now in
    let n = c.args.number in
    let block = c.index-as_slice-number.result in
    let blocks : c.as_slice.result.now ≡ f.blocks = c.as_slice.ensures in
    let code : code_of f n ≡ c.as_slice-code.result.now = code_is f n block c.requires.block (c.index-as_slice-number.is ∙ ap (λ (bs : List Block). get_or bs n block) blocks) ∙ (ap (λ (b : Block). b.instrs) c.index-as_slice-number.is ∙ sym c.as_slice-code.ensures) in
    let book = c.loop-place.book in
    let k = c.loop-place.place in
    let past : length (code_of f n) ≤ k = subst (λ (is : List Instr). length is ≤ k) (sym code) (omega arith) in
    notes_next f book.needs.items book.assignments.items book.marks.items n k past c.loop-place.invariant
