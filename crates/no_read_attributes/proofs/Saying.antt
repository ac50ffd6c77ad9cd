-- A string and the bytes that it spells, byte by byte.
use Rattle.std.proofs.Common.{T, ◌≡◌, ℕ, ◌<◌, Bool, true, false, List, [], ◌∷◌, ◌==◌, length, take, drop, ◌-◌, ◌≤◌, bytes_eq, refl, sym, ◌∙◌, arith}
use Rattle.std.proofs.Math.Dec.{eqb-suc-zero, eqb_refl}
use Rattle.std.proofs.Math.ListN.{get_or}
use Rattle.std.proofs.Math.Seq.{take-length}
use Rattle.no_read_rules.specs.Unescaped.{first_byte, unescaped}
use Rattle.no_read_rules.proofs.Escapes.{one_more}

first : (rest rest' : List ℕ) (b n : ℕ) → 0 < length rest → b ≡ (first_byte rest).0 → n ≡ (first_byte rest).1 → rest' ≡ drop n rest → unescaped rest ≡ b ∷ unescaped rest'
first rest rest' b n h eb en er = sym (one_more [] (b ∷ []) rest rest' rest b n h eb en refl er refl)

eqb-true-refl : (c : ℕ) → (c == c) ≡ true
eqb-true-refl c = by (c == c) (eqb_refl c)
  where
    by : (b : Bool) → T b → b ≡ true
    by true h = refl
    by false h = absurd h

pub says_more : (rest rest' left : List ℕ) (b n : ℕ) (total : Bool) → false ≡ (length rest == 0) → b ≡ (first_byte rest).0 → n ≡ (first_byte rest).1 → rest' ≡ drop n rest → 1 ≤ length left → b ≡ get_or left 0 0
    → bytes_eq (unescaped rest) left ≡ total → bytes_eq (unescaped rest') (take (length left - 1) (drop 1 left)) ≡ total
says_more [] rest' left b n total h eb en er some same so_far = absurd cc
says_more (x ∷ rest) rest' [] b n total h eb en er some same so_far = absurd (omega arith)
says_more (x ∷ rest) rest' (c ∷ left) b n total h eb en er some same so_far = step ∙ so_far
  where
    equal : (b == c) ≡ true
    equal = rw same (eqb-true-refl c)

    step : bytes_eq (unescaped rest') (take (length (c ∷ left) - 1) left) ≡ bytes_eq (unescaped (x ∷ rest)) (c ∷ left)
    step = rw (first (x ∷ rest) rest' b n (omega arith) eb en er, equal, let e : length (c ∷ left) - 1 ≡ length left = omega arith in e, take-length left) refl

pub says_other : (rest left left' : List ℕ) (b n c : ℕ) (total : Bool) → 0 < length rest → b ≡ (first_byte rest).0 → n ≡ (first_byte rest).1 → left ≡ c ∷ left' → (b == c) ≡ false → bytes_eq (unescaped rest) left ≡ total → total ≡ false
says_other rest left left' b n c total h eb en el other so_far = sym so_far ∙ (rw (first rest (drop n rest) b n h eb en refl, el, other) refl)

some : (rest : List ℕ) → 0 < length rest → unescaped rest ≡ (first_byte rest).0 ∷ unescaped (drop (first_byte rest).1 rest)
some rest h = first rest (drop (first_byte rest).1 rest) (first_byte rest).0 (first_byte rest).1 h refl refl refl

-- the string ends too early
pub says_short : (rest left left' : List ℕ) (c : ℕ) (total : Bool) → length rest ≡ 0 → left ≡ c ∷ left' → bytes_eq (unescaped rest) left ≡ total → total ≡ false
says_short [] left left' c total h el so_far = sym so_far ∙ (rw el refl)
says_short (x ∷ rest) left left' c total h el so_far = absurd cc

-- the bytes end: so does the string, or it doesn't
pub says_done : (rest left : List ℕ) (total : Bool) → left ≡ [] → bytes_eq (unescaped rest) left ≡ total → total ≡ (length rest == 0)
says_done [] left total el so_far = sym so_far ∙ (rw el refl)
says_done (x ∷ rest) left total el so_far = sym so_far ∙ (rw (el, some (x ∷ rest) (omega arith)) (sym (eqb-suc-zero (length rest))))
