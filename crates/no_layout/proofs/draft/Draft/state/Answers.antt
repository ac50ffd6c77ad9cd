use Rattle.std.proofs.Common.{nat_lt}
use Rattle.std.proofs.lemmas.Bool.{and_parts}
use Rattle.no_layout.specs.Part.{is_alignment}
use Rattle.no_layout.proofs.Formed.{formed_set}
use Rattle.no_layout.proofs.draft.Draft.state.Goals as goal

pub returns-in-Integer-clause-formed : goal.returns-in-Integer-clause-formed
returns-in-Integer-clause-formed c =
    let sound = rw c.in-Integer.is at c.requires in
    let parts = and_parts (nat_lt c.in-Integer.place 5) (is_alignment c.in-Integer.align 64) sound in
    formed_set c.args.self.now.pointer c.args.self.now.pointer_align c.args.self.now.int_align c.in-Integer.place c.in-Integer.align parts.1
