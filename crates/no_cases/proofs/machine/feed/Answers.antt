use Rattle.std.proofs.Common.{arith}
use Rattle.no_lib.specs.declared.env.Env.{Env}
use Rattle.no_app.proofs.Feeding.{bytes_of}
use Rattle.no_cases.proofs.Standing.{all_fed}
use Rattle.no_cases.proofs.machine.feed.Goals as goal

pub returns : goal.returns
returns c =
    let now : Env = record { input = c.feed.new.self; ended = c.args.env.now.ended; output = c.args.env.now.output } in
    all_fed c.args.sound.now c.args.machine.now c.args.env.now now c.args.text.now c.feed.result c.requires (bytes_of c.args.text.now (λ k. let b = c.type_inv.text k in omega (arith, b))) c.if-env.false
    c.feed.ensures.fed
