-- A module while the forms of a text are gone through.
use Rattle.std.specs.Prelude.{ℕ, List, [], ◌∷◌, ◌++◌}
use Rattle.no_ir.specs.declared.function.Module.{Module}
use Rattle.no_read_toplevel.specs.declared.groups.Settings.{Settings}
use Rattle.no_read_toplevel.specs.declared.tops.Top.{Top}
use Rattle.no_read_toplevel.specs.declared.tops.Top.TheVariants as top
use Rattle.no_read_toplevel.specs.Modules.{function_of}

module _ (text : List ℕ) (groups : List ℕ → Settings) where
  -- with one form more
  abbrev pub gathered_by : Module → Top → Module
  gathered_by m (top.Layout layout) = record m { layout = layout }
  gathered_by m (top.Global g) = record m { globals = m.globals ++ g ∷ [] }
  gathered_by m (top.Function w) = record m { functions = m.functions ++ function_of text groups w ∷ [] }
  gathered_by m _ = m

  -- and with these
  abbrev pub gathered : Module → List Top → Module
  gathered m [] = m
  gathered m (t ∷ others) = gathered (gathered_by m t) others
