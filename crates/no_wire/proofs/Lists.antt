-- Numbers that stand one behind the other.
use Rattle.std.proofs.Common.{◌≡◌, ℕ, suc, ◌+◌, ◌-◌, ◌*◌, ◌<◌, ◌≤◌, List, [], ◌∷◌, ◌++◌, length, take, drop, refl, sym, ap, ◌∙◌, append_assoc, arith, length-append, Result, Ok, Err, OnErr}
use Rattle.std.proofs.lemmas.List.{take-take, take_at}
use Rattle.std.specs.List.{flat_map}
use Rattle.no_wire.specs.declared.kind.Kind.{Kind}
use Rattle.no_wire.specs.Messages.{be64, framed, pair_bytes}
use Rattle.no_wire.specs.Fronts.{number_32, number_64}
use Rattle.no_wire.specs.Spelled.{Keeps, front}
use Rattle.no_wire.specs.Reading.{numbers_in, pairs_in}

-- with one read, those left begin behind it
pub numbers_on : (all : List ℕ) (end counter : ℕ) (rest total : List ℕ) → counter < end → all ++ numbers_in (end - counter) rest ≡ total
    → (all ++ number_64 (take 8 rest) 0 ∷ []) ++ numbers_in (end - (counter + 1)) (drop 8 rest) ≡ total
numbers_on all end counter rest total lt e =
    let left : end - counter ≡ suc (end - (counter + 1)) = omega arith in
    append_assoc all (number_64 (take 8 rest) 0 ∷ []) (numbers_in (end - (counter + 1)) (drop 8 rest))
    ∙ ap (λ (n : ℕ). all ++ numbers_in n rest) (sym left) ∙ e

pub pairs_on : (all : List (ℕ × ℕ)) (end counter : ℕ) (rest : List ℕ) (total : List (ℕ × ℕ)) → counter < end → all ++ pairs_in (end - counter) rest ≡ total
    → (all ++ (number_32 (take 8 rest) 0, number_32 (take 8 rest) 4) ∷ []) ++ pairs_in (end - (counter + 1)) (drop 8 rest) ≡ total
pairs_on all end counter rest total lt e =
    let left : end - counter ≡ suc (end - (counter + 1)) = omega arith in
    append_assoc all ((number_32 (take 8 rest) 0, number_32 (take 8 rest) 4) ∷ []) (pairs_in (end - (counter + 1)) (drop 8 rest))
    ∙ ap (λ (n : ℕ). all ++ pairs_in n rest) (sym left) ∙ e

-- what keeps more keeps less
pub keeps_before : (before middle more after : List ℕ) → middle ≡ before ++ more → Keeps middle after → Keeps before after
keeps_before before middle more after e h =
    let len = length-append before more in
    let le : length before ≤ length (before ++ more) = omega (arith, len) in
    let k : Keeps (before ++ more) after = rw (← e) h in
    sym (take-take (length before) (length (before ++ more)) after le) ∙ ap (take (length before)) k ∙ take_at before more (length before) refl

-- a body behind the front that says its length
pub framed_by : (before middle after body : List ℕ) (n epoch : ℕ) (k : Kind) → middle ≡ before ++ front (5 + n) k epoch → after ≡ middle ++ body → length body ≡ n
    → after ≡ before ++ framed k epoch body
framed_by before middle after body n epoch k e f len =
    rw (f, e, ← len) (append_assoc before (front (5 + length body) k epoch) body)

-- each number takes 8 bytes, and so does each pair
pub length_numbers : (numbers : List ℕ) → length (flat_map be64 numbers) ≡ 8 * length numbers
length_numbers [] = refl
length_numbers (n ∷ more) = omega (arith, length_numbers more, length-append (be64 n) (flat_map be64 more))

pub length_pairs : (pairs : List (ℕ × ℕ)) → length (flat_map pair_bytes pairs) ≡ 8 * length pairs
length_pairs [] = refl
length_pairs (p ∷ more) = omega (arith, length_pairs more, length-append (pair_bytes p) (flat_map pair_bytes more))

-- what holds holds where a call failed
pub on_any_err : {A E : Type 0} (r : Result A E) (P : Type 0) → P → OnErr r P
on_any_err (Ok a) P h = tt
on_any_err (Err e) P h = h
