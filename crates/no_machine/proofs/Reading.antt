-- The slots of operands hold their numbers.
use Rattle.std.proofs.Common.{◌≡◌, ℕ, ◌-◌, ◌%◌, ◌^◌, ◌<◌, ◌≤◌, if◌then◌else◌, inl, inr, Bool, true, List, length, get_or, slice_get, Option, Some, None, option_map, refl, sym, ap, subst, ◌∙◌, arith}
use Rattle.std.proofs.lemmas.Bool.{cases_lt, le-ltb, lt-ltb}
use Rattle.std.proofs.lemmas.Nat.{pow_pos}
use Rattle.std.proofs.Math.Nat.{mod-lt}
use Rattle.std.proofs.lemmas.Option.{get_or_from_slice_get, slice_get_within, same_Some}
use Rattle.no_ir.specs.declared.constant.Const.{Const}
use Rattle.no_ir.specs.declared.constant.Const.TheVariants as const
use Rattle.no_ir.specs.declared.instruction.Operand.{Operand}
use Rattle.no_ir.specs.declared.instruction.Operand.TheVariants as operand'
use Rattle.no_semantics.specs.Registers.{Registers, below, constant_number, held_below, operand}
use Rattle.no_semantics.specs.Sound.{constant_fits, operand_fits}
use Rattle.no_semantics.specs.Values.{Program}
use Rattle.no_code.specs.Slots.{HasConstant, IsSlot, first_constant}
use Rattle.no_code.specs.Source.{known}
use Rattle.no_machine.specs.Slots.{IsNumber, IsSlotIn, value_in}
use Rattle.no_machine.specs.Standing.{Covers, source_of}

-- a slot holds this number of w bits
pub record Reads (window constants : List ℕ) (w x v : ℕ) : Type 0 where
  pub slot : IsSlotIn window constants x
  pub is : value_in window constants x ≡ v
  pub fits : v < 2 ^ w

pub number_in : (window constants : List ℕ) (w x v : ℕ) → Reads window constants w x v → IsNumber window constants w x
number_in window constants w x v r = record { slot = r.slot; fits = subst (λ (n : ℕ). n < 2 ^ w) (sym r.is) r.fits }

some : ℕ → Option ℕ
some n = Some n

none : Option ℕ
none = None

below_is : (w n v : ℕ) → below w n ≡ Some v → (n ≡ v) × (v < 2 ^ w)
below_is w n v e = elim (cases_lt n (2 ^ w)) [
  | inl lt ↦ (let same : n ≡ v = same_Some n v (sym (small lt) ∙ e) in (same, subst (λ (k : ℕ). k < 2 ^ w) same lt))
  | inr le ↦ (let gone = sym (large le) ∙ e in absurd cc)
]
  where
    small : n < 2 ^ w → below w n ≡ Some n
    small lt = ap (λ (b : Bool). if b then Some n else None) (lt-ltb n (2 ^ w) lt)

    large : 2 ^ w ≤ n → below w n ≡ None
    large le = ap (λ (b : Bool). if b then Some n else None) (le-ltb n (2 ^ w) le)

held_is : (w : ℕ) (o : Option (Option ℕ)) (v : ℕ) → held_below w o ≡ Some v → (o ≡ Some (Some v)) × (v < 2 ^ w)
held_is w None v e = absurd cc
held_is w (Some None) v e = absurd cc
held_is w (Some (Some n)) v e = let parts = below_is w n v e in (ap (λ (k : ℕ). Some (Some k)) parts.0, parts.1)

-- a slot of the window
low_value : (window constants : List ℕ) (x : ℕ) → x < first_constant → value_in window constants x ≡ get_or window x 0
low_value window constants x lt = ap (λ (b : Bool). if b then get_or window x 0 else get_or constants (x - first_constant) 0) (lt-ltb x first_constant lt)

high_value : (window constants : List ℕ) (x : ℕ) → first_constant ≤ x → value_in window constants x ≡ get_or constants (x - first_constant) 0
high_value window constants x le = ap (λ (b : Bool). if b then get_or window x 0 else get_or constants (x - first_constant) 0) (le-ltb x first_constant le)

known_is : (p : Program) (c : Const) (n : ℕ) → constant_number p c ≡ Some n → known (source_of p) c ≡ n
known_is p const.Zero n e = same_Some 0 n e
known_is p (const.Int k) n e = same_Some k n e
known_is p (const.Address place) n e = same_Some _ n e
known_is p (const.AddressAsInt place) n e = same_Some _ n e
known_is p (const.IntAsPtr k) n e = same_Some k n e
known_is p _ n e = absurd cc

mapped_is : (w : ℕ) (o : Option ℕ) (v : ℕ) → option_map (λ n. n % 2 ^ w) o ≡ Some v → (n : ℕ) × (o ≡ Some n) × (n % 2 ^ w ≡ v)
mapped_is w None v e = absurd cc
mapped_is w (Some n) v e = (n, refl, same_Some (n % 2 ^ w) v e)

module _ (p : Program) (registers : Registers) (window constants : List ℕ) (covers : Covers registers window) where
  read_register : (w r x v : ℕ) → (r < length registers → x ≡ r) → held_below w (slice_get registers r) ≡ Some v → Reads window constants w x v
  read_register w r x v same e =
      let parts = held_is w (slice_get registers r) v e in
      let inside : r < length registers = slice_get_within registers r (Some v) parts.0 in
      let at : x ≡ r = same inside in
      let low : x < first_constant = omega (arith, covers.few, inside, at) in
      let there : slice_get window r ≡ Some v = covers.each r v parts.0 in
      record {
        slot = record { low = λ lt. omega (arith, covers.room, inside, at); high = λ le. absurd (omega (arith, low, le)) };
        is = low_value window constants x low ∙ ap (λ (k : ℕ). get_or window k 0) at ∙ get_or_from_slice_get window r v 0 there;
        fits = parts.1;
      }

  read_constant : (w x v : ℕ) (c : Const) → 0 < w → w ≤ 64 → constant_fits p.«module» p.layout p.sizes c ≡ true → HasConstant (source_of p) constants w c x → option_map (λ n. n % 2 ^ w) (constant_number p c) ≡ Some v → Reads window constants w x v
  read_constant w x v c some most fits has e =
      let parts = mapped_is w (constant_number p c) v e in
      let number : has.number ≡ v = has.means fits some most ∙ ap (λ (k : ℕ). k % 2 ^ w) (known_is p c parts.0 parts.1) ∙ parts.2 in
      record {
        slot = record { low = λ lt. absurd (omega (arith, lt, has.high)); high = λ le. slice_get_within constants (x - first_constant) has.number has.is };
        is = high_value window constants x has.high ∙ get_or_from_slice_get constants (x - first_constant) has.number 0 has.is ∙ number;
        fits = subst (λ (k : ℕ). k < 2 ^ w) parts.2 (mod-lt parts.0 (pow_pos w));
      }

  pub reads : (w x v : ℕ) (o : Operand) → 0 < w → w ≤ 64 → operand_fits p.«module» p.layout p.sizes o ≡ true → IsSlot (source_of p) (length registers) constants w o x → operand p w registers o ≡ Some v → Reads window constants w x v
  reads w x v (operand'.Reg r) some most fits slot e = read_register w r x v slot.1 e
  reads w x v (operand'.Const c) some most fits slot e = read_constant w x v c some most fits slot e
