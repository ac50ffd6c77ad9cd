-- How many bytes a number takes.
use Rattle.std.specs.Prelude.{ℕ}
use Rattle.no_layout.specs.declared.width.Width.{Width}
use Rattle.no_layout.specs.declared.width.Width.TheVariants.{One, Two, Four, Eight}

-- how many bytes a width is
abbrev pub width_of : Width → ℕ
width_of One = 1
width_of Two = 2
width_of Four = 4
width_of Eight = 8
