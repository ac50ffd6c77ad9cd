use Rattle.no_profile.proofs.Judging.{judged_told}
use Rattle.serde_json.specs.View.{view}
use Rattle.no_profile.proofs.reading.judged.Goals as goal

pub returns : goal.returns
returns c members =
    judged_told members (view c.args.value.now) c.version_in-version.result c.in_ok-lines.lines c.number_at-steps.result _ c.is_some.result c.is_some-2.result c.unless_wrong.result c.version_in-version.ensures c.if-version-ne1.false c.in_ok-lines.ensures c.number_at-steps.ensures
    c.is_some.ensures c.is_some-2.ensures c.wrong_in-wrong.ensures c.unless_wrong.ensures
