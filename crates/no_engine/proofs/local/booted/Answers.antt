use Rattle.std.proofs.Common.{◌∙◌, IfOk, subst, sym}
use Rattle.no_layout.specs.Memory.{AreFormed}
use Rattle.no_pages.specs.Table.{byte_of, held_of, regions_of}
use Rattle.no_machine.specs.Booted.{IsBooted}
use Rattle.no_engine.proofs.Starting.{started}
use Rattle.no_engine.proofs.local.booted.Goals as goal

pub returns : goal.returns
returns c =
    let boot : record { booted : IfOk c.boot.result (λ m. IsBooted byte_of held_of regions_of c.args.sound.now c.in_ok-image.image.addresses c.in_ok-memory.memory c.args.budget m) } = c.boot.ensures in
    started c.args.sound.now c.in_ok-image.image.addresses c.in_ok-memory.memory c.args.budget c.boot.result c.requires.marks boot.booted
    c.in_ok-image.ensures.addresses (c.in_ok-memory.ensures.regions ∙ c.in_ok-image.ensures.regions) (c.in_ok-memory.ensures.bytes ∙ c.in_ok-image.ensures.bytes)
    (subst AreFormed (sym c.in_ok-memory.ensures.regions) c.in_ok-image.ensures.formed) c.in_ok-memory.ensures.held
