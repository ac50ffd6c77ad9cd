-- Alignments stay those that are allowed.
use Rattle.std.proofs.Common.{◌≡◌, ℕ, zero, suc, Bool, true, ◌||◌, ◌==◌, List, [], ◌∷◌, length, set, get_or, nat_le, ◌<◌, ◌≤◌, inl, inr, refl, arith}
use Rattle.std.specs.List.{list_all, list_any}
use Rattle.std.proofs.lemmas.Bool.{and_parts, and_from, or_cases, eqb-true, leb-true}
use Rattle.std.proofs.lemmas.List.{length-set}
use Rattle.no_layout.specs.Part.{is_alignment}
use Rattle.no_layout.specs.Text.{are_formed, is_formed}
use Rattle.no_layout.specs.declared.layout.Layout.{Layout}

all_set : (p : ℕ → Bool) (xs : List ℕ) (i y : ℕ) → list_all p xs ≡ true → p y ≡ true → list_all p (set xs i y) ≡ true
all_set p [] i y h k = refl
all_set p (x ∷ xs) zero y h k = and_from _ _ k (and_parts (p x) (list_all p xs) h).1
all_set p (x ∷ xs) (suc i) y h k =
    let parts = and_parts (p x) (list_all p xs) h in
    and_from _ _ parts.0 (all_set p xs i y parts.1 k)

pub formed_set : (pointer pointer_align : ℕ) (int_align : List ℕ) (place align : ℕ) → is_alignment align 64 ≡ true → are_formed pointer pointer_align int_align ≡ true → are_formed pointer pointer_align (set int_align place align) ≡ true
formed_set pointer pointer_align int_align place align fits h =
    let width = and_parts (pointer == 32 || pointer == 64) _ h in
    let aligned = and_parts (is_alignment pointer_align 64) _ width.1 in
    let five = and_parts (length int_align == 5) _ aligned.1 in
    let same : (length (set int_align place align) == 5) ≡ true = rw (length-set int_align place align) five.0 in
    and_from _ _ width.0 (and_from _ _ aligned.0 (and_from _ _ same (all_set (λ a. is_alignment a 64) int_align place align five.1 fits)))

-- a number among some that are not below `low` is not below it
any_low : (b low : ℕ) (xs : List ℕ) → list_all (λ x. nat_le low x) xs ≡ true → list_any (λ x. b == x) xs ≡ true → low ≤ b
any_low b low [] h e = absurd cc
any_low b low (x ∷ xs) h e =
    let parts = and_parts (nat_le low x) (list_all (λ y. nat_le low y) xs) h in
    elim (or_cases (b == x) (list_any (λ y. b == y) xs) e) [
      | inl same ↦ let eq : b ≡ x = eqb-true b x same in let le : low ≤ x = leb-true low x parts.0 in omega arith
      | inr later ↦ any_low b low xs parts.1 later
    ]

align_bounds : (b : ℕ) → is_alignment b 64 ≡ true → (8 ≤ b) × (b ≤ 64)
align_bounds b h =
    let powers : List ℕ = 8 ∷ 16 ∷ 32 ∷ 64 ∷ 128 ∷ 256 ∷ 512 ∷ 1024 ∷ [] in
    let parts = and_parts (list_any (λ x. b == x) powers) (nat_le b 64) h in
    (any_low b 8 powers refl parts.0, leb-true b 64 parts.1)

all_at : (p : ℕ → Bool) (xs : List ℕ) (k : ℕ) → list_all p xs ≡ true → k < length xs → p (get_or xs k 0) ≡ true
all_at p [] k h lt = absurd (omega arith)
all_at p (x ∷ xs) zero h lt = (and_parts (p x) (list_all p xs) h).0
all_at p (x ∷ xs) (suc k) h lt = all_at p xs k (and_parts (p x) (list_all p xs) h).1 (omega arith)

int_align_bounds : (l : Layout) (place : ℕ) → is_formed l ≡ true → place < 5 → (8 ≤ get_or l.int_align place 0) × (get_or l.int_align place 0 ≤ 64)
int_align_bounds l place h lt =
    let width = and_parts (l.pointer == 32 || l.pointer == 64) _ h in
    let aligned = and_parts (is_alignment l.pointer_align 64) _ width.1 in
    let five = and_parts (length l.int_align == 5) _ aligned.1 in
    let len : length l.int_align ≡ 5 = eqb-true (length l.int_align) 5 five.0 in
    align_bounds (get_or l.int_align place 0) (all_at (λ a. is_alignment a 64) l.int_align place five.1 (omega arith))

pub int_align_low : (l : Layout) (place : ℕ) → is_formed l ≡ true → place < 5 → 8 ≤ get_or l.int_align place 0
int_align_low l place h lt = (int_align_bounds l place h lt).0

pub int_align_high : (l : Layout) (place : ℕ) → is_formed l ≡ true → place < 5 → get_or l.int_align place 0 ≤ 64
int_align_high l place h lt = (int_align_bounds l place h lt).1
