use Rattle.no_semantics.proofs.Parts.{has_field}
use Rattle.no_semantics.proofs.indices.index_offset.Goals as goal

pub offset-requires-clause-field : goal.offset-requires-clause-field
offset-requires-clause-field c = has_field c.args.t.now c.in-Struct.field-0 c.in-Struct.field-1 c.args.index c.in-Struct.is c.requires.leads
