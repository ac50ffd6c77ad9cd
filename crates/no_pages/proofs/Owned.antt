-- A page of zeros that is given bytes of its own, and an absent page that is given.
use Rattle.std.proofs.Common.{◌≡◌, ℕ, ◌<◌, inl, inr, true, false, List, length, get_or, sym, ap, ◌∙◌, Box, Global}
use mathlib.Core.Path.{fun_ext}
use Rattle.std.proofs.Math.ListN.{set}
use Rattle.std.proofs.lemmas.Bool.{cases_lt}
use Rattle.std.proofs.lemmas.List.{get_or_default, get_or_past}
use Rattle.no_layout.specs.declared.memory.Regions.{Regions}
use Rattle.no_pages.specs.Kinds.{AreKinds}
use Rattle.no_pages.specs.Pages.{dirties, helds, lists, paged}
use Rattle.no_pages.specs.Slot.{is_held, list_of, nothing}
use Rattle.no_pages.specs.declared.slot.Bytes.TheVariants.{Zeros, Own}
use Rattle.no_pages.specs.declared.slot.Slot.{Slot}
use Rattle.no_pages.proofs.Paged.{same_bytes}
use Rattle.no_pages.proofs.Slots.{same_of, set_held}

-- a page that is present is one of the table
pub held_within : (xs : List Slot) (p : ℕ) → helds xs p ≡ true → p < length xs
held_within xs p e = elim (cases_lt p (length xs)) [
  | inl lt ↦ lt
  | inr past ↦ absurd (let gone = ap (λ (t : Slot). is_held t.bytes) (get_or_past xs p nothing past) in let both : false ≡ true = sym gone ∙ e in cc)
]

-- kinds are as before where a page keeps its kind
pub set_kinds : (r : Regions) (xs : List Slot) (i : ℕ) (s b : Slot) → i < length xs → b ≡ get_or xs i b → s.kind ≡ b.kind → AreKinds r xs → AreKinds r (set xs i s)
set_kinds r xs i s b lt was e kinds =
    let found : get_or xs i nothing ≡ b = get_or_default xs i nothing b lt ∙ sym was in
    let same = same_of xs i s lt (λ (t : Slot). t.kind) (e ∙ ap (λ (t : Slot). t.kind) (sym found)) in
    record { each = λ p. rw (same p) (kinds.each p) }

module _ (z : List ℕ) (xs : List Slot) (i : ℕ) (held : helds xs i ≡ true) (a b : Slot) (was_a : a ≡ get_or xs i a) (zero : a.bytes ≡ Zeros) (was_b : b ≡ get_or xs i b) (own : Box (List ℕ) Global) (value : own.value ≡ z) where
  lt : i < length xs
  lt = held_within xs i held

  found : get_or xs i nothing ≡ b
  found = get_or_default xs i nothing b lt ∙ sym was_b

  shared : (get_or xs i nothing).bytes ≡ Zeros
  shared = ap (λ (t : Slot). t.bytes) (get_or_default xs i nothing a lt ∙ sym was_a) ∙ zero

  pub owned_bytes : paged (lists z (set xs i (record { kind = b.kind; dirty = b.dirty; bytes = Own own }))) ≡ paged (lists z xs)
  owned_bytes = same_bytes (lists z xs) (lists z (set xs i (record { kind = b.kind; dirty = b.dirty; bytes = Own own }))) (same_of xs i (record { kind = b.kind; dirty = b.dirty; bytes = Own own }) lt (λ (t : Slot). list_of z t.bytes) (value ∙ sym (ap (list_of z) shared)))

  pub owned_dirty : dirties (set xs i (record { kind = b.kind; dirty = b.dirty; bytes = Own own })) ≡ dirties xs
  owned_dirty = fun_ext (same_of xs i (record { kind = b.kind; dirty = b.dirty; bytes = Own own }) lt (λ (t : Slot). t.dirty) (ap (λ (t : Slot). t.dirty) (sym found)))

  pub owned_held : helds (set xs i (record { kind = b.kind; dirty = b.dirty; bytes = Own own })) ≡ helds xs
  owned_held = set_held xs i (record { kind = b.kind; dirty = b.dirty; bytes = Own own }) lt (sym (ap is_held shared))
