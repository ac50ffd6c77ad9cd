use Rattle.std.proofs.Common.{ap, sym, ◌∙◌, ◌++◌, refl, ◌%◌, ◌∷◌, [], ℕ, List}
use Rattle.no_semantics.specs.Externals.{do_putchar}
use Rattle.no_lib.specs.declared.env.Env.{Env}
use Rattle.no_lib.proofs.Told.{of_one, putchar_done}
use Rattle.no_lib.proofs.streams.put_char.Goals as goal

pub returns-in-Ok : goal.returns-in-Ok
returns-in-Ok c = λ s is.
    of_one do_putchar c.args.left c.in-Some.ensures (putchar_done c.args.left c.in-Some.c s _ c.requires (sym (ap (λ (e : Env). e.input) is)) (sym (ap (λ (e : Env). e.ended) is))
    (c.in-Ok.ensures.items ∙ ap (λ (e : Env). e.output.items ++ c.in-Some.c % 256 ∷ []) (sym is)))
