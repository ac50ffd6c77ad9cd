use Rattle.no_app.proofs.Jobs.{no_job}
use Rattle.no_app.proofs.Runnable.{runnable}
use Rattle.no_app.proofs.job.local_job.Goals as goal

pub booted-requires-clause-main : goal.booted-requires-clause-main
booted-requires-clause-main g c = (runnable c.args.sound.«module» c.args.sound c.requires.accepted).main

pub booted-requires-clause-marks : goal.booted-requires-clause-marks
booted-requires-clause-marks g c = (runnable c.args.sound.«module» c.args.sound c.requires.accepted).marks

pub returns-in_default-clause-run : goal.returns-in_default-clause-run
returns-in_default-clause-run g c = no_job c.args.sound c.args.budget _ _ _ (runnable c.args.sound.«module» c.args.sound c.requires.accepted) c.requires.bytes

pub slices-requires-clause-runnable : goal.slices-requires-clause-runnable
slices-requires-clause-runnable g c = runnable c.args.sound.«module» c.args.sound c.requires.accepted
