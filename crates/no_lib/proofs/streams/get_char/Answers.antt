use Rattle.std.proofs.Common.{ap, sym, ◌∙◌, refl}
use Rattle.no_semantics.specs.Externals.{do_getchar}
use Rattle.no_lib.specs.declared.env.Env.{Env}
use Rattle.no_lib.proofs.Told.{of_none, getchar_next, getchar_end, getchar_asks}
use Rattle.no_lib.proofs.streams.get_char.Goals as goal

pub returns-in-Some : goal.returns-in-Some
returns-in-Some c = λ s is.
    of_none do_getchar c.args.left c.if-not-none.ensures (getchar_next c.args.left c.in-Some.byte s _ c.requires (ap (λ (e : Env). e.input) is ∙ c.in-Some.ensures) (sym (ap (λ (e : Env). e.ended) is)) (sym (ap (λ (e : Env). e.output.items) is)))

pub returns-then-env : goal.returns-then-env
returns-then-env c = λ s is.
    of_none do_getchar c.args.left c.if-not-none.ensures (getchar_end c.args.left s _ c.requires (ap (λ (e : Env). e.input) is ∙ c.in_default.ensures.0) c.in_default.ensures.1 (ap (λ (e : Env). e.ended) is ∙ c.if-env.true) (sym (ap (λ (e : Env). e.ended) is)) (sym (ap (λ (e : Env). e.output.items) is)))
