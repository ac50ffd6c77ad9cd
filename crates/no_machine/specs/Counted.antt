-- The counter of instructions.
use Rattle.std.specs.Prelude.{ℕ, ◌+◌}
use Rattle.no_ir.specs.declared.function.Role.{Role}
use Rattle.no_ir.specs.declared.function.Role.TheVariants.{Source, Part}

-- what was counted of source modules, and of servers' parts
pub record Counted : Type 0 where
  pub source : ℕ
  pub part : ℕ

-- so many instructions more, of the kind of a role
abbrev pub counted : Role → ℕ → Counted → Counted
counted Source n c = record { source = c.source + n; part = c.part }
counted Part n c = record { source = c.source; part = c.part + n }
