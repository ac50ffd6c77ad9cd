-- An absent page that is given.
use Rattle.std.proofs.Common.{◌≡◌, ℕ, ◌+◌, ◌*◌, ◌/◌, ◌<◌, ◌≤◌, inl, inr, true, false, List, length, get_or, refl, sym, ap, ◌∙◌, arith, Box, Global}
use mathlib.Core.Path.{fun_ext}
use Rattle.std.proofs.Math.ListN.{set}
use Rattle.std.proofs.lemmas.Bool.{cases_eq, eq-eqb, ne_eqb}
use Rattle.std.proofs.lemmas.List.{get_or_default}
use Rattle.no_layout.specs.Memory.{AreFormed, IsPage, access, also, page_count, page_of, stack_end, written}
use Rattle.no_layout.specs.declared.memory.Access.TheVariants.{Done}
use Rattle.no_layout.specs.declared.memory.Regions.{Regions}
use Rattle.no_layout.proofs.Accesses.{done_within, full_none}
use Rattle.no_pages.specs.Pages.{dirties, helds, lists, paged}
use Rattle.no_pages.specs.Slot.{is_held, list_of, nothing}
use Rattle.no_pages.specs.declared.slot.Bytes.TheVariants.{Own}
use Rattle.no_pages.specs.declared.slot.Slot.{Slot}
use Rattle.no_pages.proofs.Paged.{give_page}
use Rattle.no_pages.proofs.Slots.{here_of, others_of, same_of}

-- a page that has a byte in a region is one of the table
pub page_within : (r : Regions) (p : ℕ) → AreFormed r → IsPage r p → p < 131328
page_within r p formed h =
    let done : access r (λ q. true) false h.0 1 ≡ Done = rw (h.2, full_none (page_of h.0) (page_count h.0 1)) refl in
    let end : h.0 + 1 ≤ stack_end = done_within r (λ q. true) false h.0 1 formed done in
    let page : h.0 / 4096 ≡ p = h.1 in
    omega arith

module _ (z : List ℕ) (xs : List Slot) (i : ℕ) (lt : i < length xs) (b : Slot) (was : b ≡ get_or xs i b) (own : Box (List ℕ) Global) (bs : List ℕ) (value : own.value ≡ bs) (len : length bs ≡ 4096) where
  pub supplied_bytes : paged (lists z (set xs i (record { kind = b.kind; dirty = b.dirty; bytes = Own own }))) ≡ written (paged (lists z xs)) (4096 * i) bs
  supplied_bytes = give_page (lists z xs) (lists z (set xs i (record { kind = b.kind; dirty = b.dirty; bytes = Own own }))) i bs
      (here_of xs i (record { kind = b.kind; dirty = b.dirty; bytes = Own own }) lt (λ (t : Slot). list_of z t.bytes) ∙ value)
      (λ q ne. others_of xs i (record { kind = b.kind; dirty = b.dirty; bytes = Own own }) lt (λ (t : Slot). list_of z t.bytes) q ne)
      len

  pub supplied_dirty : dirties (set xs i (record { kind = b.kind; dirty = b.dirty; bytes = Own own })) ≡ dirties xs
  supplied_dirty = fun_ext (same_of xs i (record { kind = b.kind; dirty = b.dirty; bytes = Own own }) lt (λ (t : Slot). t.dirty) (ap (λ (t : Slot). t.dirty) (was ∙ sym (get_or_default xs i nothing b lt))))

  held_each : (q : ℕ) → is_held (get_or (set xs i (record { kind = b.kind; dirty = b.dirty; bytes = Own own })) q nothing).bytes ≡ also (helds xs) i q
  held_each q = elim (cases_eq q i) [
    | inl is ↦ rw (is, eq-eqb i i refl) (here_of xs i (record { kind = b.kind; dirty = b.dirty; bytes = Own own }) lt (λ (t : Slot). is_held t.bytes))
    | inr ne ↦ rw (ne_eqb q i ne) (others_of xs i (record { kind = b.kind; dirty = b.dirty; bytes = Own own }) lt (λ (t : Slot). is_held t.bytes) q ne)
  ]

  pub supplied_held : helds (set xs i (record { kind = b.kind; dirty = b.dirty; bytes = Own own })) ≡ also (helds xs) i
  supplied_held = fun_ext held_each

  replaced_each : helds xs i ≡ true → (q : ℕ) → is_held (get_or (set xs i (record { kind = b.kind; dirty = b.dirty; bytes = Own own })) q nothing).bytes ≡ helds xs q
  replaced_each held = same_of xs i (record { kind = b.kind; dirty = b.dirty; bytes = Own own }) lt (λ (t : Slot). is_held t.bytes) (sym held)

  pub replaced_held : helds xs i ≡ true → helds (set xs i (record { kind = b.kind; dirty = b.dirty; bytes = Own own })) ≡ helds xs
  replaced_held held = fun_ext (replaced_each held)
