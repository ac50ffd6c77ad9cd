use Rattle.std.proofs.lemmas.Result.{on_ok_weaker}
use Rattle.no_verify_paths.proofs.Noting.{gathers_one}
use Rattle.no_verify_paths.proofs.survey.add_need.Goals as goal

pub returns : goal.returns
returns c = on_ok_weaker c.add_to_row.result (gathers_one c.args.need c.args.needs.now.items c.add_to_row.new.rows.items) c.add_to_row.ensures
