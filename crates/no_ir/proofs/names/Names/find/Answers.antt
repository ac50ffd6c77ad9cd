use Rattle.std.proofs.Common.{◌∙◌, bytes_eq}
use Rattle.no_ir.proofs.Naming.{mapped_position}
use Rattle.no_ir.proofs.names.Names.find.Goals as goal

pub returns : goal.returns
returns c = rw (← c.self.view_is) (c.get_index_of.ensures.index ∙ mapped_position (λ v. v.items) (bytes_eq c.args.name.now) c.self.inside.set.keys)
