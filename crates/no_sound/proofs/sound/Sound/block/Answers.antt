use Rattle.no_sound.proofs.Facts.{block_fits_in}
use Rattle.no_sound.proofs.sound.Sound.block.Goals as goal

pub returns-clause-fits : goal.returns-clause-fits
returns-clause-fits c = rw c.block_in.ensures (rw (← c.self.view_is) (block_fits_in _ _ _ c.args.function c.args.block c.self.invariant.0))
