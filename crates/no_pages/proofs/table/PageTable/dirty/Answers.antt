use Rattle.std.proofs.Common.{◌≡◌, ◌∙◌, ◌++◌, ◌∷◌, [], ℕ, List, Vec, Global, get_or, ap, sym, arith}
use Rattle.std.proofs.lemmas.List.{get_or_default}
use Rattle.no_pages.specs.Slot.{nothing}
use Rattle.no_pages.specs.Table.{dirty_of}
use Rattle.no_pages.specs.declared.slot.Slot.{Slot}
use Rattle.no_pages.proofs.Making.{listed_none, listed_not, listed_told}
use Rattle.no_pages.proofs.table.PageTable.dirty.Goals as goal
use Rattle.no_pages.proofs.table.PageTable.dirty.Goals.{then-index+in_ok-push, else-index}

pub loop-page-init : goal.loop-page-init
loop-page-init c = c.new-pages.ensures.items ∙ sym (listed_none (dirty_of c.args.self.now))

pub loop-page-preserved : goal.loop-page-preserved
loop-page-preserved c =
    let xs = c.args.self.now.slots.items in
    let p = c.loop-page.page in
    let here : get_or xs p nothing ≡ c.index.result.now = get_or_default xs p nothing c.index.result.now (omega (arith, c.args.self.now.slots.ok.0, c.args.self.now.all)) ∙ sym c.index.ensures in
    let told = dirty_of c.args.self.now in
    elim c.if-index.branch [
      | then-index+in_ok-push w ↦
          ap (λ (v : Vec ℕ Global). v.items) w.pages-is ∙ w.in_ok-push.ensures.items ∙ ap (λ (l : List ℕ). l ++ p ∷ []) c.loop-page.invariant
          ∙ sym (listed_told told p (ap (λ (t : Slot). t.dirty) here ∙ w.if-index.true))
      | else-index w ↦
          ap (λ (v : Vec ℕ Global). v.items) w.pages-is ∙ c.loop-page.invariant
          ∙ sym (listed_not told p (ap (λ (t : Slot). t.dirty) here ∙ w.if-index.false))
    ]
