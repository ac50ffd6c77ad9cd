use Rattle.no_read_toplevel.proofs.ModuleLaws.{read_is_meant}
use Rattle.no_read.proofs.ReadingLaws.{reads_module}
use Rattle.no_read.proofs.reading.read.Goals as goal

pub returns-in-Ok-forms : goal.returns-in-Ok-forms
returns-in-Ok-forms c =
    reads_module c.args.text.now c.args.role c.args.tokens.now c.in-Ok.known c.in-Ok-forms.module c.in-Ok.ensures c.in-Ok-forms.ensures (λ j e. read_is_meant _ _ _ _ _ e)
