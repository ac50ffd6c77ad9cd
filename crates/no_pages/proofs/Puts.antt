-- The general way: bytes of one page that has bytes of its own.
use Rattle.std.proofs.Common.{◌≡◌, ℕ, ◌+◌, ◌/◌, ◌%◌, ◌<◌, ◌≤◌, inl, inr, true, false, List, length, get_or, refl, sym, ap, ◌∙◌, arith}
use mathlib.Core.Path.{fun_ext}
use Rattle.std.proofs.Math.ListN.{set}
use Rattle.std.proofs.lemmas.Bool.{cases_lt}
use Rattle.std.proofs.lemmas.List.{get_or_default, get_or_past}
use Rattle.no_layout.specs.Memory.{splice, written}
use Rattle.no_layout.specs.Numbers.{marked}
use Rattle.no_pages.specs.Pages.{dirties, helds, lists, owns, paged}
use Rattle.no_pages.specs.Slot.{IsLaidIn, IsPutIn, is_own, nothing, own_of}
use Rattle.no_pages.specs.declared.slot.Slot.{Slot}
use Rattle.no_pages.proofs.Slots.{own_held, own_list, same_of, set_bytes, set_dirty, set_held, set_own}

-- a page that has bytes of its own is one of the table
pub own_within : (xs : List Slot) (p : ℕ) → owns xs p ≡ true → p < length xs
own_within xs p e = elim (cases_lt p (length xs)) [
  | inl lt ↦ lt
  | inr past ↦ absurd (let gone = ap (λ (t : Slot). is_own t.bytes) (get_or_past xs p nothing past) in let both : false ≡ true = sym gone ∙ e in cc)
]

module _ (z : List ℕ) (xs : List Slot) (at : ℕ) (bs : List ℕ) (own : owns xs (at / 4096) ≡ true) (some : 0 < length bs) (fits : at % 4096 + length bs ≤ 4096) (old : Slot) (was : old ≡ get_or xs (at / 4096) old) (new : Slot) (put : IsPutIn old new (at % 4096) bs) where
  lt : at / 4096 < length xs
  lt = own_within xs (at / 4096) own

  found : get_or xs (at / 4096) nothing ≡ old
  found = get_or_default xs (at / 4096) nothing old lt ∙ sym was

  list : lists z xs (at / 4096) ≡ own_of old.bytes
  list = own_list z (get_or xs (at / 4096) nothing).bytes own ∙ ap (λ (t : Slot). own_of t.bytes) found

  pub put_bytes : paged (lists z (set xs (at / 4096) new)) ≡ written (paged (lists z xs)) at bs
  put_bytes = set_bytes xs (at / 4096) new lt z (at % 4096) at bs (omega arith) fits (own_list z new.bytes put.own ∙ put.bytes ∙ ap (λ (l : List ℕ). splice l (at % 4096) bs) (sym list)) (ap length list ∙ put.whole)

  pub put_dirty : dirties (set xs (at / 4096) new) ≡ marked (dirties xs) at (length bs)
  put_dirty = set_dirty xs (at / 4096) new lt at (length bs) refl (omega arith) put.dirty

  pub put_held : helds (set xs (at / 4096) new) ≡ helds xs
  put_held = set_held xs (at / 4096) new lt (own_held new.bytes put.own ∙ sym (own_held (get_or xs (at / 4096) nothing).bytes own))

  pub put_own : owns (set xs (at / 4096) new) ≡ owns xs
  put_own = set_own xs (at / 4096) new lt (put.own ∙ sym own)

-- the same where the page is not marked
module _ (z : List ℕ) (xs : List Slot) (at : ℕ) (bs : List ℕ) (own : owns xs (at / 4096) ≡ true) (fits : at % 4096 + length bs ≤ 4096) (old : Slot) (was : old ≡ get_or xs (at / 4096) old) (new : Slot) (put : IsLaidIn old new (at % 4096) bs) where
  laid_lt : at / 4096 < length xs
  laid_lt = own_within xs (at / 4096) own

  laid_found : get_or xs (at / 4096) nothing ≡ old
  laid_found = get_or_default xs (at / 4096) nothing old laid_lt ∙ sym was

  laid_list : lists z xs (at / 4096) ≡ own_of old.bytes
  laid_list = own_list z (get_or xs (at / 4096) nothing).bytes own ∙ ap (λ (t : Slot). own_of t.bytes) laid_found

  pub laid_bytes : paged (lists z (set xs (at / 4096) new)) ≡ written (paged (lists z xs)) at bs
  laid_bytes = set_bytes xs (at / 4096) new laid_lt z (at % 4096) at bs (omega arith) fits (own_list z new.bytes put.own ∙ put.bytes ∙ ap (λ (l : List ℕ). splice l (at % 4096) bs) (sym laid_list)) (ap length laid_list ∙ put.whole)

  pub laid_dirty : dirties (set xs (at / 4096) new) ≡ dirties xs
  laid_dirty = fun_ext (same_of xs (at / 4096) new laid_lt (λ (t : Slot). t.dirty) (put.dirty ∙ sym (ap (λ (t : Slot). t.dirty) laid_found)))

  pub laid_held : helds (set xs (at / 4096) new) ≡ helds xs
  laid_held = set_held xs (at / 4096) new laid_lt (own_held new.bytes put.own ∙ sym (own_held (get_or xs (at / 4096) nothing).bytes own))

  pub laid_own : owns (set xs (at / 4096) new) ≡ owns xs
  laid_own = set_own xs (at / 4096) new laid_lt (put.own ∙ sym own)
