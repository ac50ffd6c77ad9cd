use Rattle.no_verify_paths.proofs.Noting.{notes_start}
use Rattle.no_verify_paths.proofs.survey.survey.Goals as goal

pub loop-number-init : goal.loop-number-init
loop-number-init c = notes_start c.args.function.now c.new.result.items c.new-2.result.items c.new-3.result.items c.new.ensures.items c.new-2.ensures.items c.new-3.ensures.items
