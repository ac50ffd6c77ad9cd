-- States of two texts that are read side by side: the second names everything in writing, where the first may have left names out.
use Rattle.std.specs.Prelude.{◌≡◌, ℕ, List, [], ◌∷◌, ◌++◌}
use Rattle.no_read_registers.specs.declared.locals.Locals.{Locals}
use Rattle.no_round_trip.specs.Spells.{AreBytes}
use Rattle.no_print.specs.Instructions as print

-- the same registers and labels, and any counter
pub record Like (s z : Locals) : Type 0 where
  pub registers : z.registers ≡ s.registers
  pub labels : z.labels ≡ s.labels

-- these names, and perhaps more behind them
pub record Within (names all : List (List ℕ)) : Type 0 where
  pub rest : List (List ℕ)
  pub is : all ≡ names ++ rest

-- what has appeared keeps its number: the later state has the names of the earlier one, and perhaps more behind them
pub record Follows (s t : Locals) : Type 0 where
  pub registers : Within s.registers t.registers
  pub labels : Within s.labels t.labels

-- each name consists of bytes
abbrev pub AreNames : List (List ℕ) → Type 0
AreNames [] = Unit {0}
AreNames (name ∷ names) = AreBytes name × AreNames names

-- names and the counter are bytes
pub record IsFine (s : Locals) : Type 0 where
  pub registers : AreNames s.registers
  pub labels : AreNames s.labels
  pub counter : AreBytes s.counter

-- the names of a state
abbrev pub named_by : Locals → print.Locals
named_by s = record { registers = s.registers; labels = s.labels }
