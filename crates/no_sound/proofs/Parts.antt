-- Parts of types that fit fit, and so do definitions of named types.
use Rattle.std.proofs.Common.{◌≡◌, ◌≢◌, ℕ, zero, suc, ◌+◌, ◌-◌, ◌%◌, ◌^◌, ◌<◌, ◌≤◌, inl, inr, Bool, true, false, ◌==◌, nat_lt, List, [], ◌∷◌, map, length, take, drop, ℤ, pos, slice_get, get_or, Option, Some, None, refl, sym, ap, subst, ◌∙◌, arith, rules}
use Rattle.std.proofs.lemmas.Bool.{cases_Bool, and_parts, eqb-true, ltb-true}
use Rattle.std.proofs.lemmas.Option.{same_Some, slice_get_within, get_or_from_slice_get}
use Rattle.no_ir.specs.declared.types.Ty.{Ty, out-Ty, the_lemmas}
use Rattle.no_ir.specs.declared.types.Ty.TheOpen.{Ty-F}
use Rattle.no_ir.specs.declared.types.Ty.TheFolds.{fold_out-Ty, map-Ty}
use Rattle.no_ir.specs.declared.types.Ty.TheVariants as ty
use Rattle.no_layout.specs.Sizes.{Measure, HasField, known, measure_of, measure_step, fields_of, whole, type_align, type_size}
use Rattle.no_layout.specs.declared.extent.Extent.{Extent}
use Rattle.no_layout.specs.declared.layout.Layout.{Layout}
use Rattle.no_layout.proofs.Fields.{field_fits}
use Rattle.no_ir.specs.declared.function.Module.{Module}
use Rattle.no_eval.specs.Numbers.{modulo}
use Rattle.std.proofs.lemmas.List.{at_drop_more, length-drop, take_all}
use Rattle.no_sound.proofs.Facts.{table_is}
use Rattle.std.proofs.Math.Nat.{add-mod-mod, mod-add-mod}
use Rattle.std.proofs.Math.Pow.{mod-mod-pow}
use Rattle.no_sound.specs.Indices.{defined, index_offset, inner_leads, inner_offset, part_in, part_of, resolved, resolved_step, told_of}
use Rattle.no_sound.specs.Sound.{is_sound, entry_holds, table_holds, type_fits}

none_some : {A : Type 0} (x : A) → None ≡ Some x → ⊥
none_some x e = absurd cc

some_is : (x y : Ty) → Some x ≡ Some y → x ≡ y
some_is x y e = cc

-- ---- one layer of a type

module _ (l : Layout) (sizes : List Extent) where
  pub measured : (t : Ty) → measure_of l sizes t ≡ measure_step l sizes (map-Ty Ty Measure (measure_of l sizes) (out-Ty t))
  measured t = fold_out-Ty Measure (measure_step l sizes) t

  pub rolled : (t : Ty) (s : Ty-F Ty) → out-Ty t ≡ s → measure_of l sizes t ≡ measure_step l sizes (map-Ty Ty Measure (measure_of l sizes) s)
  rolled t s e = measured t ∙ ap (λ (x : Ty-F Ty). measure_step l sizes (map-Ty Ty Measure (measure_of l sizes) x)) e

  pub named_is : (k : ℕ) → measure_of l sizes (ty.Named k) ≡ known (slice_get sizes k)
  named_is k = search (rules, the_lemmas)

  -- an element or a field of a type that fits fits
  pub in_struct : (packed : Bool) (fields : List Ty) (i : ℕ) (u : Ty) → (whole packed (fields_of packed (map (measure_of l sizes) fields))).fits ≡ true
      → slice_get fields i ≡ Some u → type_fits l sizes u ≡ true
  in_struct packed fields i u fits is = elim (cases_Bool (type_fits l sizes u)) [
    | inl holds ↦ holds
    | inr fails ↦ absurd (field_fits packed (measure_of l sizes) fields i fits u (slice_get_within fields i u is) (sym (get_or_from_slice_get fields i u u is)) fails)
  ]

  part_fits_in : (s : Ty-F Ty) (i : ℕ) (u : Ty) → (measure_step l sizes (map-Ty Ty Measure (measure_of l sizes) s)).fits ≡ true → part_in s i ≡ Some u → type_fits l sizes u ≡ true
  part_fits_in (Ty-F.Array count element) i u fits is =
      subst (λ (x : Ty). type_fits l sizes x ≡ true) (some_is element u is) (and_parts (type_fits l sizes element) _ fits).0
  part_fits_in (Ty-F.Struct packed fields) i u fits is = elim (cases_Bool (nat_lt i (2 ^ 31))) [
    | inl low ↦ in_struct packed fields i u fits (rw low at is)
    | inr high ↦ absurd (none_some u (rw high at is))
  ]
  part_fits_in Ty-F.Void i u fits is = absurd cc
  part_fits_in (Ty-F.Int w) i u fits is = absurd cc
  part_fits_in Ty-F.Ptr i u fits is = absurd cc
  part_fits_in (Ty-F.Named k) i u fits is = absurd cc

  pub part_fits : (t : Ty) (i : ℕ) (u : Ty) → type_fits l sizes t ≡ true → part_of t i ≡ Some u → type_fits l sizes u ≡ true
  part_fits t i u fits is = part_fits_in (out-Ty t) i u (sym (ap (λ (m : Measure). m.fits) (measured t)) ∙ fits) is

  -- the element of an array
  pub element_fits : (count : ℕ) (element : Ty) → type_fits l sizes (ty.Array count element) ≡ true → type_fits l sizes element ≡ true
  element_fits count element fits =
      let is : measure_of l sizes (ty.Array count element) ≡ measure_step l sizes (Ty-F.Array count (measure_of l sizes element)) = search (rules, the_lemmas) in
      (and_parts (type_fits l sizes element) _ (sym (ap (λ (m : Measure). m.fits) is) ∙ fits)).0

-- ---- fields

other_part : (s : Ty-F Ty) (i : ℕ) → part_in s i ≢ None → nat_lt i (2 ^ 31) ≡ false → (packed : Bool) (fields : List Ty) → s ≡ Ty-F.Struct packed fields → ⊥
other_part s i some high packed fields e = some (ap (λ (x : Ty-F Ty). part_in x i) e ∙ rw high refl)

field_in : (packed : Bool) (fields : List Ty) (i : ℕ) (o : Option Ty) → slice_get fields i ≡ o → part_in (Ty-F.Struct packed fields) i ≢ None → (i < length fields) × (i < 2 ^ 31)
field_in packed fields i o is some = elim (cases_Bool (nat_lt i (2 ^ 31))) [
  | inl low ↦ (known_field o is, ltb-true i (2 ^ 31) low)
  | inr high ↦ absurd (some (rw high refl))
]
  where
    known_field : (o : Option Ty) → slice_get fields i ≡ o → i < length fields
    known_field None is = absurd (some (elim (cases_Bool (nat_lt i (2 ^ 31))) [ inl low ↦ rw low is | inr high ↦ rw high refl ]))
    known_field (Some u) is = slice_get_within fields i u is

pub has_field : (t : Ty) (packed : Bool) (fields : List Ty) (i : ℕ) → t ≡ ty.Struct packed fields → part_of t i ≢ None → HasField t i
has_field t packed fields i e some =
    let shape : out-Ty t ≡ Ty-F.Struct packed fields = ap out-Ty e ∙ search (rules, the_lemmas) in
    let h = field_in packed fields i (slice_get fields i) refl (λ none. some (ap (λ (x : Ty-F Ty). part_in x i) shape ∙ none)) in
    rw shape h.0

pub index_small : (t : Ty) (packed : Bool) (fields : List Ty) (i : ℕ) → t ≡ ty.Struct packed fields → part_of t i ≢ None → i < 2 ^ 31
index_small t packed fields i e some =
    let shape : out-Ty t ≡ Ty-F.Struct packed fields = ap out-Ty e ∙ search (rules, the_lemmas) in
    (field_in packed fields i (slice_get fields i) refl (λ none. some (ap (λ (x : Ty-F Ty). part_in x i) shape ∙ none))).1

-- ---- named types

zero_plus : (k : ℕ) → 0 + k ≡ k
zero_plus k = omega arith

module _ (l : Layout) (sizes : List Extent) where
  entry_at : (first : ℕ) (types : List (List ℕ × Ty)) (k : ℕ) (named : List ℕ × Ty) → table_holds l sizes first types ≡ true → slice_get types k ≡ Some named
      → entry_holds l sizes (first + k) named.1 ≡ true
  entry_at first [] k named holds is = absurd (none_some named is)
  entry_at first (t ∷ types) zero named holds is =
      let here : t ≡ named = same_Some t named is in
      let place : first ≡ first + 0 = omega arith in
      subst (λ (n : ℕ). entry_holds l sizes n named.1 ≡ true) place
      (subst (λ (x : List ℕ × Ty). entry_holds l sizes first x.1 ≡ true) here (and_parts (entry_holds l sizes first t.1) (table_holds l sizes (first + 1) types) holds).0)
  entry_at first (t ∷ types) (suc k) named holds is =
      let place : first + 1 + k ≡ first + suc k = omega arith in
      subst (λ (n : ℕ). entry_holds l sizes n named.1 ≡ true) place
      (entry_at (first + 1) types k named (and_parts (entry_holds l sizes first t.1) (table_holds l sizes (first + 1) types) holds).1 is)

  module _ (types : List (List ℕ × Ty)) (holds : table_holds l sizes 0 types ≡ true) (t : Ty) where
    -- a named type has the numbers of its definition
    abbrev Alike : Ty → Type 0
    Alike u = (type_fits l sizes u ≡ true) × (type_size l sizes u ≡ type_size l sizes t) × (type_align l sizes u ≡ type_align l sizes t)

    alike_named : (k : ℕ) (named : List ℕ × Ty) → out-Ty t ≡ Ty-F.Named k → slice_get types k ≡ Some named → Alike named.1
    alike_named k named shape is =
        let entry : entry_holds l sizes k named.1 ≡ true = subst (λ (n : ℕ). entry_holds l sizes n named.1 ≡ true) (zero_plus k) (entry_at 0 types k named holds is) in
        let parts = and_parts (type_fits l sizes named.1) _ entry in
        let numbers = and_parts (type_fits l sizes (ty.Named k)) _ parts.1 in
        let both = and_parts (type_size l sizes (ty.Named k) == type_size l sizes named.1) _ numbers.1 in
        let name : measure_of l sizes t ≡ measure_of l sizes (ty.Named k) = rolled l sizes t (Ty-F.Named k) shape ∙ sym (named_is l sizes k) in (
          parts.0,
          sym (ap (λ (m : Measure). m.size) name ∙ eqb-true (type_size l sizes (ty.Named k)) (type_size l sizes named.1) both.0),
          sym (ap (λ (m : Measure). m.align) name ∙ eqb-true (type_align l sizes (ty.Named k)) (type_align l sizes named.1) both.1),
        )

    alike_defined : (k : ℕ) (o : Option (List ℕ × Ty)) → out-Ty t ≡ Ty-F.Named k → slice_get types k ≡ o → type_fits l sizes t ≡ true → Alike (defined t o)
    alike_defined k None shape is fits = (fits, refl, refl)
    alike_defined k (Some named) shape is fits = alike_named k named shape is

    alike : (s : Ty-F Ty) → out-Ty t ≡ s → type_fits l sizes t ≡ true → Alike (resolved_step types t s)
    alike Ty-F.Void shape fits = (fits, refl, refl)
    alike (Ty-F.Int w) shape fits = (fits, refl, refl)
    alike Ty-F.Ptr shape fits = (fits, refl, refl)
    alike (Ty-F.Array count element) shape fits = (fits, refl, refl)
    alike (Ty-F.Struct packed fields) shape fits = (fits, refl, refl)
    alike (Ty-F.Named k) shape fits = alike_defined k (slice_get types k) shape refl fits

    pub resolved_fits : type_fits l sizes t ≡ true → type_fits l sizes (resolved types t) ≡ true
    resolved_fits fits = (alike (out-Ty t) refl fits).0

    pub resolved_size : type_fits l sizes t ≡ true → type_size l sizes (resolved types t) ≡ type_size l sizes t
    resolved_size fits = (alike (out-Ty t) refl fits).1

-- ---- several indices

turned : (a b c : ℕ) → a + b + c ≡ a + c + b
turned a b c = omega arith

joined : (a b c : ℕ) → a + c + b ≡ a + (b + c)
joined a b c = omega arith

pub sum_more : (a b c m : ℕ) → ((a + b % m) % m + c) % m ≡ (a + (b + c)) % m
sum_more a b c m =
    mod-add-mod (a + b % m) m c
    ∙ ap (λ (k : ℕ). k % m) (turned a (b % m) c)
    ∙ add-mod-mod (a + c) b m
    ∙ ap (λ (k : ℕ). k % m) (joined a b c)

module _ (l : Layout) (sizes : List Extent) (types : List (List ℕ × Ty)) where
  -- one index more was followed
  pub inner_more : (at t next : Ty) (i total offset : ℕ) (others : List ℕ) → t ≡ resolved types at → part_of t i ≡ Some next
      → offset ≡ index_offset l sizes t i % 2 ^ 64
      → ((total + offset) % 2 ^ 64 + inner_offset l sizes types next others) % 2 ^ 64 ≡ (total + inner_offset l sizes types at (i ∷ others)) % 2 ^ 64
  inner_more at t next i total offset others is found e =
      let part : part_of (resolved types at) i ≡ Some next = ap (λ (u : Ty). part_of u i) (sym is) ∙ found in
      let whole : inner_offset l sizes types at (i ∷ others) ≡ index_offset l sizes t i + inner_offset l sizes types next others =
      ap (λ (o : Option Ty). told_of 0 o (λ u. index_offset l sizes (resolved types at) i + inner_offset l sizes types u others)) part
      ∙ ap (λ (u : Ty). index_offset l sizes u i + inner_offset l sizes types next others) (sym is) in
      ap (λ (o : ℕ). ((total + o) % 2 ^ 64 + inner_offset l sizes types next others) % 2 ^ 64) e
      ∙ sum_more total (index_offset l sizes t i) (inner_offset l sizes types next others) (2 ^ 64)
      ∙ ap (λ (k : ℕ). (total + k) % 2 ^ 64) (sym whole)

  -- an index leads nowhere
  pub inner_none : (at t : Ty) (i total whole : ℕ) (others : List ℕ) → t ≡ resolved types at → part_of t i ≡ None → total < 2 ^ 64
      → (total + inner_offset l sizes types at (i ∷ others)) % 2 ^ 64 ≡ whole → total ≡ whole
  inner_none at t i total whole others is found small so_far =
      let none : inner_offset l sizes types at (i ∷ others) ≡ 0 =
      ap (λ (o : Option Ty). told_of 0 o (λ u. index_offset l sizes (resolved types at) i + inner_offset l sizes types u others)) (ap (λ (u : Ty). part_of u i) (sym is) ∙ found) in
      sym (ap (λ (k : ℕ). (total + k) % 2 ^ 64) none ∙ alone total small) ∙ so_far
    where
      alone : (total : ℕ) → total < 2 ^ 64 → (total + 0) % 2 ^ 64 ≡ total
      alone total small = omega arith

-- the indices behind one that leads somewhere lead somewhere
pub leads_more : (types : List (List ℕ × Ty)) (at t next : Ty) (i : ℕ) (others : List ℕ) → t ≡ resolved types at → part_of t i ≡ Some next
    → inner_leads types at (i ∷ others) ≡ true → inner_leads types next others ≡ true
leads_more types at t next i others is found leads =
    sym (ap (λ (o : Option Ty). told_of false o (λ u. inner_leads types u others)) (ap (λ (u : Ty). part_of u i) (sym is) ∙ found)) ∙ leads

-- an index that leads nowhere
pub leads_on : (types : List (List ℕ × Ty)) (at t : Ty) (i : ℕ) (others : List ℕ) → t ≡ resolved types at → part_of t i ≡ None
    → inner_leads types at (i ∷ others) ≡ true → ⊥
leads_on types at t i others is found leads =
    not_both (ap (λ (o : Option Ty). told_of false o (λ u. inner_leads types u others)) (ap (λ (u : Ty). part_of u i) (sym is) ∙ found)) leads
  where
    not_both : {b : Bool} → b ≡ false → b ≡ true → ⊥
    not_both e f = absurd cc

-- the first index, and the others
pub first_more : (n inner : ℕ) → (n % 2 ^ 64 + inner) % 2 ^ 64 ≡ (n + inner) % 2 ^ 64
first_more n inner = mod-add-mod n (2 ^ 64) inner

pub known_sum : (n inner r : ℕ) → inner ≡ r % 2 ^ 64 → (n + inner) % 2 ^ 64 ≡ (n + r) % 2 ^ 64
known_sum n inner r is = ap (λ (k : ℕ). (n + k) % 2 ^ 64) is ∙ add-mod-mod n r (2 ^ 64)

-- ---- the address of a place

narrowed_twice : (n w : ℕ) → w ≤ 64 → n % 2 ^ 64 % 2 ^ w ≡ n % 2 ^ w
narrowed_twice n w most = let e : 64 - w + w ≡ 64 = omega arith in ap (λ (k : ℕ). n % 2 ^ k % 2 ^ w) (sym e) ∙ mod-mod-pow n (64 - w) w

-- a sum of which one part is known modulo 2 ^ 64
pub place_sum : (a b n w : ℕ) → w ≤ 64 → b ≡ n % 2 ^ 64 → (a + b) % 2 ^ 64 % 2 ^ w ≡ (a + n) % 2 ^ w
place_sum a b n w most is =
    ap (λ (k : ℕ). (a + k) % 2 ^ 64 % 2 ^ w) is ∙ ap (λ (k : ℕ). k % 2 ^ w) (add-mod-mod a n (2 ^ 64)) ∙ narrowed_twice (a + n) w most

-- the same by equal layouts and sizes
pub fits_on : (m : Module) (l k : Layout) (sizes table : List Extent) (at t : Ty) → is_sound m l sizes ≡ true → k ≡ l → table ≡ sizes → t ≡ resolved m.types at
    → type_fits l sizes at ≡ true → type_fits k table t ≡ true
fits_on m l k sizes table at t sound same alike is fits = rw (same, alike, is) (resolved_fits l sizes m.types (table_is m l sizes sound) at fits)

pub offset_on : (l k : Layout) (sizes table : List Extent) (t : Ty) (i offset : ℕ) → k ≡ l → table ≡ sizes → offset ≡ index_offset k table t i % 2 ^ 64
    → offset ≡ index_offset l sizes t i % 2 ^ 64
offset_on l k sizes table t i offset same alike e = e ∙ rw (same, alike) refl

-- the indices that are left, as numbers
pub next_index : (width pointer i : ℕ) (indices : List ℤ) (k : ℕ) → k < length indices → width ≡ pointer → i ≡ modulo width (get_or indices k (pos 0))
    → map (modulo pointer) (drop k indices) ≡ i ∷ map (modulo pointer) (drop (k + 1) indices)
next_index width pointer i indices k lt same is =
    at_drop_more (λ (us : List ℤ). map (modulo pointer) us) indices k (pos 0) lt
    ∙ ap (λ (n : ℕ). n ∷ map (modulo pointer) (drop (k + 1) indices)) (sym (is ∙ ap (λ (w : ℕ). modulo w (get_or indices k (pos 0))) same))

-- all behind the first, as a slice pattern has them
pub whole_rest : (zs : List ℤ) → take (length zs - 1) (drop 1 zs) ≡ drop 1 zs
whole_rest zs = take_all (length zs - 1) (drop 1 zs) (omega (arith, length-drop 1 zs))
