use Rattle.std.proofs.Common.{sym}
use Rattle.std.proofs.lemmas.Result.{on_ok_weaker}
use Rattle.no_verify_paths.proofs.Noting.{there_leads}
use Rattle.no_verify_paths.proofs.survey.note_end.Goals as goal

pub returns-in-Some : goal.returns-in-Some
returns-in-Some c = on_ok_weaker c.add_need.result (there_leads c.args.labels.now c.args.user c.args.pair.now c.in-Some.source c.args.needs.now.items c.add_need.new.needs.items (sym c.in-Some.ensures)) c.add_need.ensures
