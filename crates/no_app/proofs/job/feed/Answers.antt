use Rattle.std.proofs.Common.{◌∙◌, ap}
use Rattle.no_lib.specs.declared.env.Env.{Env}
use Rattle.no_app.proofs.Feeding.{took_fed, took_on}
use Rattle.no_app.proofs.job.feed.Goals as goal

pub returns-in-Err-clause-fed : goal.returns-in-Err-clause-fed
returns-in-Err-clause-fed g c = took_on _ _ c.in-Took.n c.take.new.buf c.in-Took.ensures.took.2

pub returns-in-Ok-clause-fed : goal.returns-in-Ok-clause-fed
returns-in-Ok-clause-fed g c =
    let is = c.in-Ok.ensures.put in
    let took = c.in-Took.ensures.took in
    took_fed _ _ c.args.env.now c.put.new.env c.in-Took.n c.take.new.buf took.0 took.1 c.in-Ok.ensures.bytes took.2 (ap (λ (e : Env). e.input) is) (ap (λ (e : Env). e.output.items) is)
    (ap (λ (e : Env). e.ended) is ∙ c.requires.open)
