-- Tables of the blocks of a function.
use Rattle.std.proofs.Common.{◌≡◌, ℕ, zero, suc, ◌+◌, ◌<◌, ◌≤◌, ◌==◌, inl, inr, Bool, if◌then◌else◌, List, [], ◌∷◌, ◌++◌, length, drop, get_or, slice_get, slice_set, replicate, Option, Some, None, refl, sym, ap, subst, ◌∙◌, arith, eq-eqb, add-one}
use Rattle.std.proofs.lemmas.Bool.{cases_Bool, cases_lt, cases_eq, eqb-true}
use Rattle.std.proofs.lemmas.List.{at_drop_more, at_drop_all, length-append}
use Rattle.std.proofs.lemmas.Option.{slice_get_within}
use Rattle.no_ir.specs.declared.function.Block.{Block}
use Rattle.no_ir.specs.declared.function.Function.{Function}
use Rattle.no_code.specs.Coded.{before, block_of, block_size, first_from, total}
use Rattle.no_code.specs.Making.{AreLabels, AreStarts}
use Rattle.no_code.proofs.Grown.{last_at, stays_at}

set_there : {A : Type 0} (xs : List A) (i : ℕ) (v : A) → i < length xs → slice_get (slice_set xs i v) i ≡ Some v
set_there [] i v lt = absurd (omega arith)
set_there (x ∷ xs) zero v lt = refl
set_there (x ∷ xs) (suc i) v lt = set_there xs i v (omega arith)

set_elsewhere : {A : Type 0} (xs : List A) (i j : ℕ) (v : A) → (i ≡ j → ⊥) → slice_get (slice_set xs i v) j ≡ slice_get xs j
set_elsewhere [] i j v other = refl
set_elsewhere (x ∷ xs) zero zero v other = absurd (other refl)
set_elsewhere (x ∷ xs) zero (suc j) v other = refl
set_elsewhere (x ∷ xs) (suc i) zero v other = refl
set_elsewhere (x ∷ xs) (suc i) (suc j) v other = set_elsewhere xs i j v (λ e. other (ap suc e))

set_length : {A : Type 0} (xs : List A) (i : ℕ) (v : A) → length (slice_set xs i v) ≡ length xs
set_length [] i v = refl
set_length (x ∷ xs) zero v = refl
set_length (x ∷ xs) (suc i) v = ap suc (set_length xs i v)

abbrev nothing : Option ℕ
nothing = None

unknown_at : (n l : ℕ) → l < n → slice_get (replicate n nothing) l ≡ Some nothing
unknown_at zero l lt = absurd (omega arith)
unknown_at (suc n) zero lt = refl
unknown_at (suc n) (suc l) lt = unknown_at n l (omega arith)

unknown_length : (n : ℕ) → length (replicate n nothing) ≡ n
unknown_length zero = refl
unknown_length (suc n) = ap suc (unknown_length n)

-- the blocks from k on are noted
pub record Noted (count : ℕ) (blocks : List Block) (table : List (Option ℕ)) (k : ℕ) : Type 0 where
  pub many : length table ≡ count
  pub low : k ≤ length blocks
  pub each : (l : ℕ) → l < count → slice_get table l ≡ Some (first_from l k (drop k blocks))

pub noted_none : (count : ℕ) (blocks : List Block) (table : List (Option ℕ)) → table ≡ replicate count None → Noted count blocks table (length blocks)
noted_none count blocks table is = record {
  many = ap length is ∙ unknown_length count;
  low = omega arith;
  each = λ l lt. ap (λ (t : List (Option ℕ)). slice_get t l) is ∙ unknown_at count l lt ∙ ap Some (sym (at_drop_all (first_from l (length blocks)) blocks (length blocks) (omega arith)));
}

noted_value : (l k : ℕ) (b : Block) (rest : List Block) → b.label ≡ l → first_from l k (b ∷ rest) ≡ Some k
noted_value l k b rest e = ap (λ (t : Bool). if t then Some k else first_from l (k + 1) rest) (eq-eqb b.label l e)

other_value : (l k : ℕ) (b : Block) (rest : List Block) → (b.label ≡ l → ⊥) → first_from l k (b ∷ rest) ≡ first_from l (k + 1) rest
other_value l k b rest other = elim (cases_Bool (b.label == l)) [
  | inl is ↦ absurd (other (eqb-true b.label l is))
  | inr is ↦ ap (λ (t : Bool). if t then Some k else first_from l (k + 1) rest) is
]

pub noted_more : (count : ℕ) (blocks : List Block) (old new : List (Option ℕ)) (j k : ℕ) (d : Block) → j ≡ k + 1 → Noted count blocks old j
    → ((get_or blocks k d).label < length old → new ≡ slice_set old (get_or blocks k d).label (Some k)) → (length old ≤ (get_or blocks k d).label → new ≡ old) → Noted count blocks new k
noted_more count blocks old new j k d at before noted other =
    let b = get_or blocks k d in
    let inside : k < length blocks = omega (arith, before.low, at) in
    let step : (l : ℕ) → first_from l k (drop k blocks) ≡ first_from l k (b ∷ drop (k + 1) blocks) = λ l. at_drop_more (first_from l k) blocks k d inside in
    let older : (l : ℕ) → l < count → slice_get old l ≡ Some (first_from l (k + 1) (drop (k + 1) blocks)) = λ l lt. before.each l lt ∙ ap (λ (n : ℕ). Some (first_from l n (drop n blocks))) at in
    elim (cases_lt b.label (length old)) [
      | inl lt ↦ record {
        many = ap length (noted lt) ∙ set_length old b.label (Some k) ∙ before.many;
        low = omega (arith, inside);
        each = λ l small. ap (λ (t : List (Option ℕ)). slice_get t l) (noted lt) ∙ at_label l b (older l small) (step l) lt;
      }
      | inr le ↦ record {
        many = ap length (other le) ∙ before.many;
        low = omega (arith, inside);
        each = λ l small. ap (λ (t : List (Option ℕ)). slice_get t l) (other le) ∙ older l small
            ∙ ap Some (sym (step l ∙ other_value l k b (drop (k + 1) blocks) (λ e. absurd (omega (arith, e, le, small, before.many)))));
      }
    ]
  where
    at_label : (l : ℕ) (b : Block) → slice_get old l ≡ Some (first_from l (k + 1) (drop (k + 1) blocks)) → first_from l k (drop k blocks) ≡ first_from l k (b ∷ drop (k + 1) blocks) → b.label < length old
        → slice_get (slice_set old b.label (Some k)) l ≡ Some (first_from l k (drop k blocks))
    at_label l b old_is step lt = elim (cases_eq b.label l) [
      | inl e ↦ subst (λ (n : ℕ). slice_get (slice_set old b.label (Some k)) n ≡ Some (first_from l k (drop k blocks))) e
          (set_there old b.label (Some k) lt ∙ ap Some (sym (step ∙ noted_value l k b (drop (k + 1) blocks) e)))
      | inr ne ↦ set_elsewhere old b.label l (Some k) ne ∙ old_is ∙ ap Some (sym (step ∙ other_value l k b (drop (k + 1) blocks) ne))
    ]

pub labels_noted : (g : Function) (table : List (Option ℕ)) (k : ℕ) → k ≤ 0 → Noted (length g.labels) g.blocks table k → AreLabels g table
labels_noted g table zero le noted l lt = noted.each l lt
labels_noted g table (suc k) le noted l lt = absurd (omega arith)

-- ---- sums

pub total_more : {A : Type 0} (size : A → ℕ) (xs : List A) (k : ℕ) (d : A) → k < length xs → total size xs (k + 1) ≡ total size xs k + size (get_or xs k d)
total_more size [] k d lt = absurd (omega arith)
total_more size (x ∷ xs) zero d lt = none size xs (size x)
  where
    none : {A : Type 0} (size : A → ℕ) (xs : List A) (n : ℕ) → n + total size xs 0 ≡ 0 + n
    none size [] n = omega arith
    none size (x ∷ xs) n = omega arith
total_more size (x ∷ xs) (suc k) d lt = rw add-one (ap (λ (n : ℕ). size x + n) (sym (ap (λ (n : ℕ). total size xs n) (one k)) ∙ total_more size xs k d (omega arith)) ∙ turned (size x) (total size xs k) (size (get_or xs k d)))
  where
    one : (k : ℕ) → k + 1 ≡ suc k
    one k = omega arith

    turned : (a b c : ℕ) → a + (b + c) ≡ a + b + c
    turned a b c = omega arith

-- the first cells of the first k blocks are known, and that of the next
pub record Begun (blocks : List Block) (base : ℕ) (table : List ℕ) (at k : ℕ) : Type 0 where
  pub next : at ≡ base + before blocks k
  pub many : length table ≡ k
  pub each : (b : ℕ) → b < k → slice_get table b ≡ Some (base + before blocks b)

pub total_none : {A : Type 0} (size : A → ℕ) (xs : List A) → total size xs 0 ≡ 0
total_none size [] = refl
total_none size (x ∷ xs) = refl

pub begun_none : (blocks : List Block) (base : ℕ) → Begun blocks base [] base 0
begun_none blocks base = record {
  next = omega (arith, total_none block_size blocks);
  many = refl;
  each = λ b lt. absurd (omega arith);
}

pub begun_more : (blocks : List Block) (base : ℕ) (old new : List ℕ) (at next k : ℕ) (d : Block) → k < length blocks → d ≡ get_or blocks k d → Begun blocks base old at k → new ≡ old ++ at ∷ [] → next ≡ at + length d.instrs → Begun blocks base new next (k + 1)
begun_more blocks base old new at next k d lt is before put sum = record {
  next = omega (arith, sum, before.next, total_more block_size blocks k d lt, ap block_size is);
  many = ap length put ∙ length-append old (at ∷ []) ∙ ap (λ (n : ℕ). n + 1) before.many;
  each = λ b small. elim (cases_lt b k) [
    | inl low ↦ stays_at old new b (base + Rattle.no_code.specs.Coded.before blocks b) (at ∷ [], put) (before.each b low)
    | inr high ↦
        let same : b ≡ k = omega arith in
        ap (λ (t : List ℕ). slice_get t b) put ∙ ap (λ (n : ℕ). slice_get (old ++ at ∷ []) n) (same ∙ sym before.many) ∙ last_at old at ∙ ap Some (before.next ∙ ap (λ (n : ℕ). base + Rattle.no_code.specs.Coded.before blocks n) (sym same))
  ];
}

pub starts_begun : (g : Function) (base at k : ℕ) (table : List ℕ) → length g.blocks ≤ k → Begun g.blocks base table at k → AreStarts g base table
starts_begun g base at k table le begun b block is = begun.each b (omega (arith, slice_get_within g.blocks b block is, le))
