use Rattle.no_sound.proofs.Facts.{layout_formed}
use Rattle.no_sound.proofs.sound.Sound.layout.Goals as goal

pub returns-clause-formed : goal.returns-clause-formed
returns-clause-formed c = layout_formed _ _ _ c.self.invariant.0
