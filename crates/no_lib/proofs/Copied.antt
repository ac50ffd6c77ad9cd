-- Bytes copied in pieces.
use Rattle.std.proofs.Common.{◌≡◌, ℕ, zero, suc, ◌+◌, ◌-◌, ◌/◌, ◌<◌, ◌≤◌, Bool, true, false, ◌&&◌, ◌||◌, nat_le, if◌then◌else◌, List, [], ◌∷◌, ◌++◌, length, get_or, Option, Some, None, ◌⊎◌, inl, inr, refl, sym, ap, subst, ◌∙◌, arith}
use mathlib.Core.Path.{fun_ext}
use Rattle.std.proofs.lemmas.Bool.{cases_lt, false≢true}
use Rattle.std.proofs.lemmas.List.{get_or_append_left, get_or-append_right, length-append}
use Rattle.no_layout.specs.declared.memory.Access.{Access}
use Rattle.no_layout.specs.declared.memory.Access.TheVariants.{Done, Missing, Refused}
use Rattle.no_layout.specs.declared.memory.Stored.{Stored}
use Rattle.no_layout.specs.declared.memory.Stored.TheVariants as stored
use Rattle.no_layout.specs.declared.memory.Regions.{Regions}
use Rattle.no_layout.specs.Memory.{AreOwn, IsGot, access, read_bytes, written}
use Rattle.no_layout.specs.Numbers.{IsShared, IsWritten}
use Rattle.no_layout.proofs.Overlay.{inside, below, above, read_outside}

pub length_read : (f : ℕ → ℕ) (at n : ℕ) → length (read_bytes f at n) ≡ n
length_read f at zero = refl
length_read f at (suc n) = ap suc (length_read f (at + 1) n)

pub read_more : (f : ℕ → ℕ) (at n m : ℕ) → read_bytes f at (n + m) ≡ read_bytes f at n ++ read_bytes f (at + n) m
read_more f at zero m = (let a : 0 + m ≡ m = omega arith in let b : at ≡ at + 0 = omega arith in ap (read_bytes f at) a ∙ ap (λ (k : ℕ). read_bytes f k m) b)
read_more f at (suc n) m =
    let a : suc n + m ≡ suc (n + m) = omega arith in
    let b : at + 1 + n ≡ at + suc n = omega arith in
    ap (read_bytes f at) a ∙ ap (λ (xs : List ℕ). f at ∷ xs) (read_more f (at + 1) n m ∙ ap (λ (k : ℕ). read_bytes f (at + 1) n ++ read_bytes f k m) b)

-- bytes written behind others, and in front of them
pub written_then : (f : ℕ → ℕ) (s e : ℕ) (xs ys : List ℕ) → e ≡ s + length xs → written (written f s xs) e ys ≡ written f s (xs ++ ys)
written_then f s e xs ys end = fun_ext (λ a. elim (cases_lt a s) [
  | inl under ↦ below (written f s xs) e ys a (omega arith) ∙ below f s xs a under ∙ sym (below f s (xs ++ ys) a under)
  | inr from ↦ elim (cases_lt a e) [
    | inl first ↦ below (written f s xs) e ys a first ∙ inside f s xs a from (omega arith) ∙ sym (inside f s (xs ++ ys) a from (omega (arith, length-append xs ys)) ∙ get_or_append_left xs ys 0 (a - s) (omega arith))
    | inr later ↦ elim (cases_lt a (e + length ys)) [
      | inl second ↦
          let place : a - s - length xs ≡ a - e = omega arith in
          inside (written f s xs) e ys a later second ∙ sym (inside f s (xs ++ ys) a from (omega (arith, length-append xs ys)) ∙ get_or-append_right xs ys (length xs) (a - s) 0 refl (omega arith) ∙ ap (λ (k : ℕ). get_or ys k 0) place)
      | inr over ↦ above (written f s xs) e ys a over ∙ above f s xs a (omega arith) ∙ sym (above f s (xs ++ ys) a (omega (arith, length-append xs ys)))
    ]
  ]
])

pub written_before : (f : ℕ → ℕ) (s e : ℕ) (xs ys : List ℕ) → e ≡ s + length xs → written (written f e ys) s xs ≡ written f s (xs ++ ys)
written_before f s e xs ys end = fun_ext (λ a. elim (cases_lt a s) [
  | inl under ↦ below (written f e ys) s xs a under ∙ below f e ys a (omega arith) ∙ sym (below f s (xs ++ ys) a under)
  | inr from ↦ elim (cases_lt a e) [
    | inl first ↦ inside (written f e ys) s xs a from (omega arith) ∙ sym (inside f s (xs ++ ys) a from (omega (arith, length-append xs ys)) ∙ get_or_append_left xs ys 0 (a - s) (omega arith))
    | inr later ↦ elim (cases_lt a (e + length ys)) [
      | inl second ↦
          let place : a - s - length xs ≡ a - e = omega arith in
          above (written f e ys) s xs a (omega arith) ∙ inside f e ys a later second ∙ sym (inside f s (xs ++ ys) a from (omega (arith, length-append xs ys)) ∙ get_or-append_right xs ys (length xs) (a - s) 0 refl (omega arith) ∙ ap (λ (k : ℕ). get_or ys k 0) place)
      | inr over ↦ above (written f e ys) s xs a (omega arith) ∙ above f e ys a over ∙ sym (above f s (xs ++ ys) a (omega (arith, length-append xs ys)))
    ]
  ]
])

-- one piece more, from below, where the bytes written stand no higher than those read
pub up_more : (f : ℕ → ℕ) (to from done size : ℕ) → to ≤ from → written (written f to (read_bytes f from done)) (to + done) (read_bytes (written f to (read_bytes f from done)) (from + done) size) ≡ written f to (read_bytes f from (done + size))
up_more f to from done size low =
    let len = length_read f from done in
    ap (λ (xs : List ℕ). written (written f to (read_bytes f from done)) (to + done) xs) (read_outside f to (read_bytes f from done) (from + done) size (inr (omega (arith, len))))
    ∙ written_then f to (to + done) (read_bytes f from done) (read_bytes f (from + done) size) (omega (arith, len))
    ∙ ap (written f to) (sym (read_more f from done size))

-- one piece more, from above, where they stand no lower
pub down_more : (f : ℕ → ℕ) (to from left size rest : ℕ) → from ≤ to → written (written f (to + (left + size)) (read_bytes f (from + (left + size)) rest)) (to + left) (read_bytes (written f (to + (left + size)) (read_bytes f (from + (left + size)) rest)) (from + left) size) ≡ written f (to + left) (read_bytes f (from + left) (size + rest))
down_more f to from left size rest high =
    let g = written f (to + (left + size)) (read_bytes f (from + (left + size)) rest) in
    let same : from + left + size ≡ from + (left + size) = omega arith in
    ap (λ (xs : List ℕ). written g (to + left) xs) (read_outside f (to + (left + size)) (read_bytes f (from + (left + size)) rest) (from + left) size (inl (omega arith)))
    ∙ written_before f (to + left) (to + (left + size)) (read_bytes f (from + left) size) (read_bytes f (from + (left + size)) rest) (omega (arith, length_read f (from + left) size))
    ∙ ap (λ (k : ℕ). written f (to + left) (read_bytes f (from + left) size ++ read_bytes f k rest)) (sym same)
    ∙ ap (written f (to + left)) (sym (read_more f (from + left) size rest))

-- ---- what the calls of a memory did

pub got_done : (a : Access) (byte : ℕ → ℕ) (at : ℕ) (old new : List ℕ) → a ≡ Done → IsGot a byte at old new → new ≡ read_bytes byte at (length old)
got_done Done byte at old new is got = got
got_done (Missing page) byte at old new is got = absurd cc
got_done (Refused trap) byte at old new is got = absurd cc

pub put_done : (a : Stored) (r : Regions) (held own : ℕ → Bool) (old new : ℕ → ℕ) (at : ℕ) (bytes : List ℕ) → access r held true at (length bytes) ≡ Done → AreOwn own at (length bytes) → (a ≡ stored.NoMemory → IsShared own at (length bytes)) → IsWritten a r held old new at bytes → new ≡ written old at bytes
put_done stored.Done r held own old new at bytes done mine enough put = put.1
put_done (stored.Missing page) r held own old new at bytes done mine enough put = (let e : Done ≡ Missing page = sym done ∙ put.0 in absurd cc)
put_done (stored.Refused trap) r held own old new at bytes done mine enough put = (let e : Done ≡ Refused trap = sym done ∙ put.0 in absurd cc)
put_done stored.NoMemory r held own old new at bytes done mine enough put =
    let shared = enough refl in
    absurd (false≢true (sym shared.3 ∙ mine shared.0 shared.1 shared.2))
