use Rattle.no_app.proofs.Runnable.{runnable}
use Rattle.no_cases.proofs.Standing.{all_fresh}
use Rattle.no_cases.proofs.machine.booted.Goals as goal

pub boot-requires-clause-main : goal.boot-requires-clause-main
boot-requires-clause-main c = (runnable c.args.sound.now.«module» c.args.sound.now c.requires.accepted).main

pub boot-requires-clause-marks : goal.boot-requires-clause-marks
boot-requires-clause-marks c = (runnable c.args.sound.now.«module» c.args.sound.now c.requires.accepted).marks

pub returns : goal.returns
returns c =
    all_fresh c.args.sound.now c.args.addresses c.args.memory c.args.budget c.boot.result c.args.env.now c.requires.accepted c.boot.ensures.booted c.requires.addresses c.requires.regions c.requires.input
