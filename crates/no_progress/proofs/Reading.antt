-- Operands that are read, and the widths of what instructions give.
use Rattle.std.proofs.Common.{◌≡◌, ◌⊎◌, inl, inr, ⊎_elim, ℕ, ◌%◌, ◌^◌, ◌<◌, ◌==◌, Bool, true, false, true≢false, eqb-true, eq-eqb, Option, Some, None, option_map, if◌then◌else◌, List, [], ◌∷◌, ◌++◌, length, map, flat_map, slice_get, slice_set, Contains, refl, sym, ap, ◌∙◌, subst, arith, pow_pos, length-set, get_or-set_same, get_or-set_other, set}
use Rattle.std.proofs.lemmas.Bool.{lt-ltb}
use Rattle.std.proofs.lemmas.Option.{same_Some, slice_get_within, slice_get_read, get_or_from_slice_get}
use Rattle.std.proofs.lemmas.List.Elements.{Contains-append_left, Contains-append_right}
use Rattle.no_ir.specs.declared.constant.Const.{Const}
use Rattle.no_ir.specs.declared.instruction.Operand.{Operand}
use Rattle.no_ir.specs.declared.instruction.Operand.TheVariants as operand
use Rattle.no_verify_paths.specs.Paths.{registers_of}
use Rattle.no_semantics.specs.Registers.{Registers, with_front, all_given, below, held_below, constant_number, operand}
use Rattle.no_semantics.specs.Values.{Program}
use Rattle.no_progress.specs.Proper.{Each, Reads}
use Rattle.no_progress.specs.Valid.{Held}

-- ---- registers that are used

-- each of these registers holds a number of its width
abbrev pub AreHeld : (ℕ → Option ℕ) → Registers → List ℕ → Type 0
AreHeld width rs uses = (r : ℕ) → Contains uses r → Held width rs r

pub held_left : (width : ℕ → Option ℕ) (rs : Registers) (xs ys : List ℕ) → AreHeld width rs (xs ++ ys) → AreHeld width rs xs
held_left width rs xs ys h r c = h r (Contains-append_left xs ys r c)

pub held_right : (width : ℕ → Option ℕ) (rs : Registers) (xs ys : List ℕ) → AreHeld width rs (xs ++ ys) → AreHeld width rs ys
held_right width rs xs ys h r c = h r (Contains-append_right xs ys r c)

-- ---- operands

-- an operand is a number of w bits
abbrev pub Has : Program → Registers → ℕ → Operand → Type 0
Has p rs w o = (n : ℕ) × (operand p w rs o ≡ Some n) × (n < 2 ^ w)

pub low : (n w : ℕ) → n % 2 ^ w < 2 ^ w
low n w = let some : 0 < 2 ^ w = pow_pos w in omega (arith, some)

below_is : (w n : ℕ) → n < 2 ^ w → below w n ≡ Some n
below_is w n lt = ap (λ (b : Bool). if b then Some n else None) (lt-ltb n (2 ^ w) lt)

pub has_register : (p : Program) (width : ℕ → Option ℕ) (rs : Registers) (w r : ℕ) → width r ≡ Some w → Held width rs r → Has p rs w (operand.Reg r)
has_register p width rs w r e h = let n = h w e in (n.0, ap (held_below w) n.1 ∙ below_is w n.0 n.2, n.2)

pub has_constant : (p : Program) (rs : Registers) (w : ℕ) (c : Const) (n : ℕ) → constant_number p c ≡ Some n → Has p rs w (operand.Const c)
has_constant p rs w c n e = (n % 2 ^ w, ap (option_map (λ (x : ℕ). x % 2 ^ w)) e, low n w)

pub has : (p : Program) (width : ℕ → Option ℕ) (rs : Registers) (w : ℕ) (o : Operand) → Reads p width w o → AreHeld width rs (registers_of o) → Has p rs w o
has p width rs w (operand.Reg r) reads h = has_register p width rs w r reads (h r (0, omega arith, refl))
has p width rs w (operand.Const c) reads h = has_constant p rs w c reads.0 reads.1

-- ---- lists of operands

-- numbers of these widths, each below its own bound
abbrev pub AreBelow : List ℕ → List ℕ → Type 0
AreBelow [] [] = Unit {0}
AreBelow (n ∷ ns) (w ∷ ws) = (n < 2 ^ w) × AreBelow ns ws
AreBelow _ _ = ⊥

pub each_has : {A : Type 0} (p : Program) (rs : Registers) (w : A → ℕ) (o : A → Operand) (xs : List A) → Each (λ (x : A). Has p rs (w x) (o x)) xs
    → (ns : List ℕ) × (all_given (map (λ (x : A). operand p (w x) rs (o x)) xs) ≡ Some ns) × AreBelow ns (map w xs)
each_has p rs w o [] h = ([], refl, tt)
each_has p rs w o (x ∷ xs) h =
    let rest = each_has p rs w o xs h.1 in (
      h.0.0 ∷ rest.0,
      ap (λ (y : Option ℕ). with_front y (all_given (map (λ x. operand p (w x) rs (o x)) xs))) h.0.1 ∙ ap (with_front (Some h.0.0)) rest.1,
      (h.0.2, rest.2),
    )

pub each_of_uses : {A : Type 0} (p : Program) (width : ℕ → Option ℕ) (rs : Registers) (w : A → ℕ) (o : A → Operand) (xs : List A) → Each (λ (x : A). Reads p width (w x) (o x)) xs
    → AreHeld width rs (flat_map registers_of (map o xs)) → Each (λ (x : A). Has p rs (w x) (o x)) xs
each_of_uses p width rs w o [] reads h = tt
each_of_uses p width rs w o (x ∷ xs) reads h = (
  has p width rs (w x) (o x) reads.0 (held_left width rs (registers_of (o x)) (flat_map registers_of (map o xs)) h),
  each_of_uses p width rs w o xs reads.1 (held_right width rs (registers_of (o x)) (flat_map registers_of (map o xs)) h),
)

-- ---- registers that are assigned

pub set_here : (rs : Registers) (r n : ℕ) → r < length rs → slice_get (slice_set rs r (Some n)) r ≡ Some (Some n)
set_here rs r n lt =
    slice_get_read (set rs r (Some n)) (length rs) r (Some n) (sym (length-set rs r (Some n))) lt (sym (get_or-set_same rs r (Some n) (Some n) lt))

pub set_other : (rs : Registers) (r q n m : ℕ) → (r ≡ q → ⊥) → slice_get rs q ≡ Some (Some m) → slice_get (slice_set rs r (Some n)) q ≡ Some (Some m)
set_other rs r q n m differ e =
    slice_get_read (set rs r (Some n)) (length rs) q (Some m) (sym (length-set rs r (Some n))) (slice_get_within rs q (Some m) e)
    (sym (get_or-set_other rs r q (Some n) (Some m) (λ e. differ (sym e)) ∙ get_or_from_slice_get rs q (Some m) (Some m) e))

-- a register that gets a number of its width, and one that held such a number before
pub put_here : (width : ℕ → Option ℕ) (rs : Registers) (r n w : ℕ) → r < length rs → width r ≡ Some w → n < 2 ^ w → Held width (slice_set rs r (Some n)) r
put_here width rs r n w lt is small v e = (n, set_here rs r n lt, subst (λ (x : ℕ). n < 2 ^ x) (same_Some w v (sym is ∙ e)) small)

pub put_kept : (width : ℕ → Option ℕ) (rs : Registers) (r n q w : ℕ) → width r ≡ Some w → n < 2 ^ w → Held width rs q → Held width (slice_set rs r (Some n)) q
put_kept width rs r n q w is small h v e = ⊎_elim
    (λ same.
    let at : r ≡ q = eqb-true r q same in
    let lt : r < length rs = subst (λ (x : ℕ). x < length rs) (sym at) (slice_get_within rs q (Some (h v e).0) (h v e).1) in
    (subst (λ (x : ℕ). Held width (slice_set rs r (Some n)) x) at (put_here width rs r n w lt is small)) v e)
    (λ differ. ((h v e).0, set_other rs r q n (h v e).0 (λ f. true≢false (sym (eq-eqb r q f) ∙ differ)) (h v e).1, (h v e).2))
    (cases (r == q))
  where
    cases : (b : Bool) → (b ≡ true) ⊎ (b ≡ false)
    cases true = inl refl
    cases false = inr refl
