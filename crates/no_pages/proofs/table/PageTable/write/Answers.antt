use Rattle.std.proofs.Common.{◌∙◌, ℕ, Bool, true, length, ap, sym}
use Rattle.no_layout.proofs.Accesses.{done_held}
use Rattle.no_pages.specs.Table.{held_of, regions_of}
use Rattle.no_pages.proofs.table.PageTable.write.Goals as goal

pub take_all-requires-clause-held : goal.take_all-requires-clause-held
take_all-requires-clause-held c = done_held (regions_of c.args.self.now) (held_of c.args.self.now) true c.args.addr (length c.args.bytes.now) c.requires (sym c.in-Done.ensures)

pub returns-in-Ok-clause-own : goal.returns-in-Ok-clause-own
returns-in-Ok-clause-own c = λ p h. ap (λ (own : ℕ → Bool). own p) c.copy_in.ensures.own ∙ c.in-Ok.ensures.kept p h
