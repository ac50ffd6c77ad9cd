use Rattle.std.proofs.Common.{List, Bool, Ok, Err, subst}
use Rattle.no_profile.proofs.Flags.{see_failed, see_marked}
use Rattle.no_profile.specs.Numbered.{Judges, found}
use Rattle.no_profile.proofs.selecting.see.Goals as goal

pub returns-in-Ok : goal.returns-in-Ok
returns-in-Ok c = λ functions before n f.
    let judged : Judges (found c.args.defined.now.names c.args.defined.now.numbers.items c.args.line.now.name) c.args.seen.now.items c.args.line.now (Ok c.in-Ok.k)
    = subst (λ (met : List Bool). Judges (found c.args.defined.now.names c.args.defined.now.numbers.items c.args.line.now.name) met c.args.line.now (Ok c.in-Ok.k)) c.as_slice.ensures.value c.in-Ok.ensures in
    rw (c.mark.ensures.seen, c.mark.ensures.worth) (see_marked functions c.args.rates.now before c.args.line.now _ _ _ _ n f c.in-Ok.k judged)

pub returns-in-Err : goal.returns-in-Err
returns-in-Err c = λ functions before n f.
    let judged : Judges (found c.args.defined.now.names c.args.defined.now.numbers.items c.args.line.now.name) c.args.seen.now.items c.args.line.now (Err c.in-Err.error)
    = subst (λ (met : List Bool). Judges (found c.args.defined.now.names c.args.defined.now.numbers.items c.args.line.now.name) met c.args.line.now (Err c.in-Err.error)) c.as_slice.ensures.value c.in-Err.ensures in
    see_failed functions c.args.rates.now before c.args.line.now _ _ _ _ n f c.in-Err.error _ _ judged
