use Rattle.std.proofs.lemmas.Result.{on_ok_weaker}
use Rattle.no_verify_paths.proofs.Flowing.{narrow_changed}
use Rattle.no_verify_paths.proofs.flow.narrow.Goals as goal

pub returns : goal.returns
returns c = on_ok_weaker c.add.result (narrow_changed c.args.target c.args.out c.args.sets.now c.meet-both.result c.meet-both.ensures.members c.args.queue.now c.add.new.self c.requires.within c.meet-both.ensures.less c.if-both-held.false) c.add.ensures
