use Rattle.std.proofs.Common.{sym}
use Rattle.std.proofs.lemmas.Result.{on_ok_weaker}
use Rattle.no_verify_paths.proofs.Noting.{here_unmarked}
use Rattle.no_verify_paths.proofs.survey.note_use.Goals as goal

pub returns : goal.returns
returns c = on_ok_weaker c.add_need.result (here_unmarked c.args.marks.now c.args.user c.args.register c.args.needs.now.items c.add_need.new.needs.items (sym c.if-is_marked.ensures)) c.add_need.ensures
