-- The quick way: an access inside one page that has bytes of its own.
use Rattle.std.proofs.Common.{◌≡◌, ℕ, ◌+◌, ◌/◌, ◌%◌, ◌<◌, ◌≤◌, Bool, true, false, List, length, get_or, take, drop, Option, Some, None, refl, sym, subst, ap, ◌∙◌, arith, if◌then◌else◌}
use Rattle.std.proofs.Math.ListN.{set}
use Rattle.std.proofs.lemmas.List.{get_or_default, set-get_or}
use Rattle.no_layout.specs.Laws.{big_length, little_length}
use Rattle.no_layout.specs.Memory.{AreFormed, access, read_number, refusal}
use Rattle.no_layout.specs.Numbers.{IsMarked}
use Rattle.no_layout.specs.Orders.{bytes_of, number_of}
use Rattle.no_layout.specs.Width.{width_of}
use Rattle.no_layout.specs.declared.memory.Regions.{Regions}
use Rattle.no_layout.specs.declared.memory.Access.TheVariants.{Done}
use Rattle.no_layout.specs.declared.memory.Stored.TheVariants as stored
use Rattle.no_layout.specs.declared.width.Width.{Width}
use Rattle.no_layout.specs.declared.width.Width.TheVariants.{One, Two, Four, Eight}
use Rattle.no_pages.specs.Kinds.{AreKinds, IsKind}
use Rattle.no_pages.specs.Pages.{dirties, helds, lists, owns, paged}
use Rattle.no_pages.specs.Slot.{IsHeldNumber, IsNumberAt, IsSetIn, IsStoredIn, is_held, is_own, list_of, nothing, own_of}
use Rattle.no_pages.specs.Table.{TriesLoad, TriesStore}
use Rattle.no_pages.specs.declared.slot.Slot.{Slot}
use Rattle.no_pages.proofs.Access.{one_held, reads, writes}
use Rattle.no_pages.proofs.Owned.{set_kinds}
use Rattle.no_pages.proofs.Paged.{read_from}
use Rattle.no_pages.proofs.Slots.{own_held, own_list, set_bytes, set_dirty, set_held, set_own}

pub some_width : (w : Width) → 0 < width_of w
some_width One = omega arith
some_width Two = omega arith
some_width Four = omega arith
some_width Eight = omega arith

pub bytes_length : (big : Bool) (n v : ℕ) → length (bytes_of big n v) ≡ n
bytes_length true n v = big_length n v
bytes_length false n v = little_length n v

module _ (r : Regions) (formed : AreFormed r) (z : List ℕ) (xs : List Slot) (kinds : AreKinds r xs) (at n : ℕ) (some : 0 < n) (lt : at / 4096 < length xs) (fits : at % 4096 + n ≤ 4096) (old : Slot) (was : old ≡ get_or xs (at / 4096) old) where
  found : get_or xs (at / 4096) nothing ≡ old
  found = get_or_default xs (at / 4096) nothing old lt ∙ sym was

  kind : IsKind r (at / 4096) old.kind
  kind = subst (λ (t : Slot). IsKind r (at / 4096) t.kind) found (kinds.each (at / 4096))

  present : is_own old.bytes ≡ true → helds xs (at / 4096) ≡ true
  present e = ap (λ (t : Slot). is_held t.bytes) found ∙ own_held old.bytes e

  list : is_own old.bytes ≡ true → lists z xs (at / 4096) ≡ own_of old.bytes
  list e = ap (λ (t : Slot). list_of z t.bytes) found ∙ own_list z old.bytes e

  -- an access that is allowed, in a page that is present
  allowed : (write : Bool) → refusal r write at n ≡ None → helds xs (at / 4096) ≡ true → access r (helds xs) write at n ≡ Done
  allowed write may here = rw (may, one_held r formed (helds xs) at n (at / 4096) old.kind kind some refl fits here) refl

  read_as : (big : Bool) (v : ℕ) → length (list_of z old.bytes) ≡ 4096 → v ≡ number_of big (take n (drop (at % 4096) (list_of z old.bytes))) → v ≡ read_number big (paged (lists z xs)) at n
  read_as big v whole is =
      let same : lists z xs (at / 4096) ≡ list_of z old.bytes = ap (λ (t : Slot). list_of z t.bytes) found in
      let read = read_from (lists z xs) (at / 4096) (at % 4096) n at (omega arith) fits (ap length same ∙ whole) in
      is ∙ ap (λ (l : List ℕ). number_of big (take n (drop (at % 4096) l))) (sym same) ∙ ap (number_of big) (sym read)

  pub tries_load : (big : Bool) (o : Option ℕ) → IsNumberAt o z old big n (at % 4096) → TriesLoad o r (helds xs) (paged (lists z xs)) big at n
  tries_load big None h = tt
  tries_load big (Some v) h = (
    reads r formed (helds xs) at n (at / 4096) old.kind kind some refl fits (ap (λ (t : Slot). is_held t.bytes) found ∙ h.1) old.kind refl h.0,
    read_as big v h.2 h.3,
  )

  pub part_load : (big : Bool) (o : Option ℕ) → refusal r false at n ≡ None → IsHeldNumber o z old big n (at % 4096) → TriesLoad o r (helds xs) (paged (lists z xs)) big at n
  part_load big None may h = tt
  part_load big (Some v) may h = (allowed false may (ap (λ (t : Slot). is_held t.bytes) found ∙ h.0), read_as big v h.1 h.2)

  module _ (new : Slot) where
    same : new ≡ old → set xs (at / 4096) new ≡ xs
    same e = ap (set xs (at / 4096)) (e ∙ sym found) ∙ set-get_or xs (at / 4096) nothing

    set_in : (bs : List ℕ) (b : Bool) → IsStoredIn b old new (at % 4096) bs → IsSetIn b old new (at % 4096) bs
    set_in bs false h = h
    set_in bs true h = (h.1, h.2, h.3 ∙ sym h.0, h.4, h.5, h.6)

    set_store : (big : Bool) (v : ℕ) (b : Bool) → (b ≡ true → access r (helds xs) true at n ≡ Done) → IsSetIn b old new (at % 4096) (bytes_of big n v) → TriesStore b r (helds xs) (paged (lists z xs)) (paged (lists z (set xs (at / 4096) new))) big at n v
    set_store big v false may h = ap (λ (l : List Slot). paged (lists z l)) (same h)
    set_store big v true may h =
        let own = list h.0 in
        let len = bytes_length big n v in
        let after = own_list z new.bytes h.3 in (
          may refl,
          set_bytes xs (at / 4096) new lt z (at % 4096) at (bytes_of big n v) (omega arith) (omega (arith, len)) (rw (after, h.5, own) refl) (ap length own ∙ h.1),
        )

    pub part_store : (big : Bool) (v : ℕ) (b : Bool) → refusal r true at n ≡ None → IsSetIn b old new (at % 4096) (bytes_of big n v) → TriesStore b r (helds xs) (paged (lists z xs)) (paged (lists z (set xs (at / 4096) new))) big at n v
    part_store big v false may h = set_store big v false (λ e. absurd cc) h
    part_store big v true may h = set_store big v true (λ e. allowed true may (present h.0)) h

    pub tries_store : (big : Bool) (v : ℕ) (b : Bool) → IsStoredIn b old new (at % 4096) (bytes_of big n v) → TriesStore b r (helds xs) (paged (lists z xs)) (paged (lists z (set xs (at / 4096) new))) big at n v
    tries_store big v false h = set_store big v false (λ e. absurd cc) h
    tries_store big v true h =
        set_store big v true (λ e. writes r formed (helds xs) at n (at / 4096) old.kind kind some refl fits (present h.1) h.0 true) (set_in (bytes_of big n v) true h)

    same_kind : (bs : List ℕ) (b : Bool) → IsSetIn b old new (at % 4096) bs → new.kind ≡ old.kind
    same_kind bs false h = ap (λ (t : Slot). t.kind) h
    same_kind bs true h = h.2

    pub part_kinds : (bs : List ℕ) (b : Bool) → IsSetIn b old new (at % 4096) bs → AreKinds r (set xs (at / 4096) new)
    part_kinds bs b h = set_kinds r xs (at / 4096) new old lt was (same_kind bs b h) kinds

    pub part_dirty : (bs : List ℕ) (b : Bool) → IsSetIn b old new (at % 4096) bs → IsMarked (if b then stored.Done else stored.NoMemory) (dirties xs) (dirties (set xs (at / 4096) new)) at n
    part_dirty bs false h = ap dirties (same h)
    part_dirty bs true h = set_dirty xs (at / 4096) new lt at n refl (omega arith) h.4

    pub part_held : (bs : List ℕ) (b : Bool) → IsSetIn b old new (at % 4096) bs → helds (set xs (at / 4096) new) ≡ helds xs
    part_held bs false h = ap helds (same h)
    part_held bs true h = set_held xs (at / 4096) new lt (own_held new.bytes h.3 ∙ sym (present h.0))

    pub part_own : (bs : List ℕ) (b : Bool) → IsSetIn b old new (at % 4096) bs → owns (set xs (at / 4096) new) ≡ owns xs
    part_own bs false h = ap owns (same h)
    part_own bs true h = set_own xs (at / 4096) new lt (h.3 ∙ sym (ap (λ (t : Slot). is_own t.bytes) found ∙ h.0))

    pub tries_dirty : (bs : List ℕ) (b : Bool) → IsStoredIn b old new (at % 4096) bs → IsMarked (if b then stored.Done else stored.NoMemory) (dirties xs) (dirties (set xs (at / 4096) new)) at n
    tries_dirty bs b h = part_dirty bs b (set_in bs b h)

    pub tries_held : (bs : List ℕ) (b : Bool) → IsStoredIn b old new (at % 4096) bs → helds (set xs (at / 4096) new) ≡ helds xs
    tries_held bs b h = part_held bs b (set_in bs b h)

    pub tries_own : (bs : List ℕ) (b : Bool) → IsStoredIn b old new (at % 4096) bs → owns (set xs (at / 4096) new) ≡ owns xs
    tries_own bs b h = part_own bs b (set_in bs b h)
