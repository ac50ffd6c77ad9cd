-- Slots of a frame's window and of the table of constants.
use Rattle.std.specs.Prelude.{ℕ, ◌-◌, ◌^◌, ◌<◌, ◌≤◌, nat_lt, if◌then◌else◌, List, length, slice_index}
use Rattle.no_code.specs.Slots.{first_constant}

-- a slot is one of the window, or one of the constants
pub record IsSlotIn (window constants : List ℕ) (x : ℕ) : Type 0 where
  pub low : x < first_constant → x < length window
  pub high : first_constant ≤ x → x - first_constant < length constants

-- what it holds
abbrev pub value_in : List ℕ → List ℕ → ℕ → ℕ
value_in window constants x = if nat_lt x first_constant then slice_index window x else slice_index constants (x - first_constant)

-- it holds a number of w bits
pub record IsNumber (window constants : List ℕ) (w x : ℕ) : Type 0 where
  pub slot : IsSlotIn window constants x
  pub fits : value_in window constants x < 2 ^ w
