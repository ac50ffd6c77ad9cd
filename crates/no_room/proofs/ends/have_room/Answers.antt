use Rattle.std.proofs.Common.{ℕ, ◌<◌, true, sym, subst}
use Rattle.no_layout.specs.Memory.{globals_limit}
use Rattle.no_room.specs.Ends.{end_of}
use Rattle.no_room.proofs.Growing.{late}
use Rattle.no_room.proofs.ends.have_room.Goals as goal

pub returns-in-None : goal.returns-in-None
returns-in-None c =
    sym (late c.args.layout.now c.args.sizes.now c.args.globals.now
    (subst (λ (start : ℕ). globals_limit < end_of c.args.layout.now c.args.sizes.now true start c.args.globals.now) c.from.ensures c.in-None.ensures))
