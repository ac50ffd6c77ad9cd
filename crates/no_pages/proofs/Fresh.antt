-- What a table as it is made means.
use Rattle.std.proofs.Common.{◌≡◌, Bool, false, Result, Ok, Err, IfOk}
use Rattle.no_ir.specs.declared.memory.NoMemory.{NoMemory}
use Rattle.no_layout.specs.declared.memory.Regions.{Regions}
use Rattle.no_pages.specs.Made.{IsMade}
use Rattle.no_pages.specs.Table.{byte_of, dirty_of, held_of}
use Rattle.no_pages.specs.declared.table.PageTable.{PageTable}
use Rattle.no_pages.proofs.Making.{fresh_absent, fresh_dirty, fresh_zero}

module _ (r : Regions) (present : Bool) where
  pub made_bytes : (res : Result PageTable NoMemory) → IfOk res (λ t. IsMade t r present) → IfOk res (λ t. byte_of t ≡ λ a. 0)
  made_bytes (Ok t) h = fresh_zero r present 131328 t.slots.items h.slots t.zeros.value t.zero
  made_bytes (Err e) h = tt

  pub made_dirty : (res : Result PageTable NoMemory) → IfOk res (λ t. IsMade t r present) → IfOk res (λ t. dirty_of t ≡ λ p. false)
  made_dirty (Ok t) h = fresh_dirty r present 131328 t.slots.items h.slots
  made_dirty (Err e) h = tt

pub made_absent : (r : Regions) (res : Result PageTable NoMemory) → IfOk res (λ t. IsMade t r false) → IfOk res (λ t. held_of t ≡ λ p. false)
made_absent r (Ok t) h = fresh_absent r 131328 t.slots.items h.slots
made_absent r (Err e) h = tt
