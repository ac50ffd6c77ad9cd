use Rattle.std.proofs.Common.{◌≡◌, ◌∙◌, ◌<◌, ℕ, Bool, List, Option, None, Box, Global, length, get_or, sym, subst, ap, arith}
use Rattle.std.proofs.lemmas.List.{get_or_default, get_or-set_other, get_or_past, length-set}
use Rattle.no_pages.specs.Held.{IsHeld}
use Rattle.no_pages.specs.Keeping.{bytes_of, kept_in}
use Rattle.no_pages.specs.Table.{byte_of, held_of}
use Rattle.no_pages.proofs.Laying.{first_all, first_next}
use Rattle.no_pages.proofs.table.PageTable.adopt.Goals as goal

-- what was taken from a slot is what it kept at first
slot : (xs ys : List (Option (Box (List ℕ) Global))) (p : ℕ) (x y : Option (Box (List ℕ) Global)) → p < length xs → get_or xs p None ≡ get_or ys p None → x ≡ get_or xs p x → y ≡ x → get_or ys p None ≡ y
slot xs ys p x y lt same is took = sym same ∙ get_or_default xs p None x lt ∙ sym is ∙ sym took

pub adopt_slot-requires : goal.adopt_slot-requires
adopt_slot-requires c =
    let p = c.loop-page.page in
    let same = c.loop-page.invariant in
    let lt : p < length c.loop-page.pages.items = omega (arith, same.all) in
    let is = slot c.loop-page.pages.items c.args.held.pages.items p c.index_mut.result.now c.take-kept.result lt (same.rest p (omega arith)) c.index_mut.ensures.value c.take-kept.ensures.value in
    subst (λ (h : ℕ → Bool). IsHeld h p (bytes_of c.take-kept.result)) (sym same.held)
    (subst (λ (o : Option (Box (List ℕ) Global)). IsHeld (held_of c.args.self.now) p (bytes_of o)) is (c.requires p))

pub loop-page-preserved : goal.loop-page-preserved
loop-page-preserved c =
    let p = c.loop-page.page in
    let same = c.loop-page.invariant in
    let lt : p < length c.loop-page.pages.items = omega (arith, same.all) in
    let is = slot c.loop-page.pages.items c.args.held.pages.items p c.index_mut.result.now c.take-kept.result lt (same.rest p (omega arith)) c.index_mut.ensures.value c.take-kept.ensures.value in
    let laid = c.adopt_slot.ensures in
    record {
      bytes = first_next (kept_in c.args.held.pages.items) (byte_of c.args.self.now) p (bytes_of c.take-kept.result) (byte_of c.loop-page.self) (byte_of c.adopt_slot.new.self) (ap bytes_of is) same.bytes laid.bytes;
      rest = λ q from. get_or-set_other c.loop-page.pages.items p q c.take-kept.new.self None (omega arith) ∙ same.rest q (omega arith);
      all = length-set c.loop-page.pages.items p c.take-kept.new.self ∙ same.all;
      kept = λ q h. laid.kept q (same.kept q h);
      dirty = laid.dirty ∙ same.dirty;
      regions = laid.regions ∙ same.regions;
      held = laid.held ∙ same.held;
    }

pub returns-clause-bytes : goal.returns-clause-bytes
returns-clause-bytes c =
    let all = c.args.held.all in
    c.loop-page.invariant.bytes ∙ first_all (kept_in c.args.held.pages.items) (byte_of c.args.self.now) c.loop-page.page (λ q from. ap bytes_of (get_or_past c.args.held.pages.items q None (omega (arith, all))))
