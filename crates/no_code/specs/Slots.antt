-- Slots of operands and of results.
use Rattle.std.specs.Prelude.{ℕ, ◌-◌, ◌<◌, ◌≤◌, ◌^◌, ◌≡◌, Option, Some, None, List, slice_get}
use Rattle.no_ir.specs.declared.instruction.Operand.{Operand}
use Rattle.no_ir.specs.declared.instruction.Operand.TheVariants as operand
use Rattle.no_code.specs.Source.{Source, IsKnown}

-- where the slots of constants begin
abbrev pub first_constant : ℕ
first_constant = 2 ^ 31

-- the slot of a result among n registers: that of its register, or the one behind them all where there is no such register
abbrev pub IsInto : ℕ → Option ℕ → ℕ → Type 0
IsInto n None x = x ≡ n
IsInto n (Some r) x = (r < n → x ≡ r) × (n ≤ r → x ≡ n)

-- a constant of w bits has this slot
pub record HasConstant (s : Source) (constants : List ℕ) (w : ℕ) (c : Rattle.no_ir.specs.declared.constant.Const.Const) (x : ℕ) : Type 0 where
  pub number : ℕ
  pub high : first_constant ≤ x
  pub is : slice_get constants (x - first_constant) ≡ Some number
  pub means : IsKnown s w c number

-- the slot of an operand of w bits, among n registers and these constants
abbrev pub IsSlot : Source → ℕ → List ℕ → ℕ → Operand → ℕ → Type 0
IsSlot s n constants w (operand.Reg r) x = (x ≤ n) × (r < n → x ≡ r)
IsSlot s n constants w (operand.Const c) x = HasConstant s constants w c x
