-- Modules that were accepted.
use Rattle.std.specs.Prelude.{List}
use Rattle.no_ir.specs.declared.function.Module.{Module}
use Rattle.no_ir.specs.declared.function.Role.{Role}
use Rattle.no_layout.specs.declared.layout.Layout.{Layout}
use Rattle.no_layout.specs.declared.extent.Extent.{Extent}

-- a module with its data layout, the sizes of its named types under this layout, and its role
pub record Accepted : Type 0 where
  pub «module» : Module
  pub layout : Layout
  pub sizes : List Extent
  pub role : Role
