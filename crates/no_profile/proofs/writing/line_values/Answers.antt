use Rattle.std.proofs.Common.{◌≡◌, ◌∷◌, ◌++◌, [], rules}
use Rattle.serde_json.specs.View.{view}
use Rattle.no_profile.proofs.TextsAgain.{again_more, values_more}
use Rattle.no_profile.specs.Texts.{line_data}
use Rattle.no_profile.proofs.writing.line_values.Goals as goal

pub loop-line-preserved : goal.loop-line-preserved
loop-line-preserved c =
    let lines = c.args.lines.now in
    let i = c.loop-line.line-index in
    let l = c.line-item.result in
    let new : c.push.new.self.items ≡ c.loop-line.values.items ++ c.in_ok-line_value.field-0 ∷ [] = search rules in
    let seen : view c.in_ok-line_value.field-0 ≡ line_data l = search rules in
    record {
      values = values_more lines i l c.loop-line-test.true c.line-item.is c.loop-line.values.items c.push.new.self.items c.in_ok-line_value.field-0 new seen c.loop-line.invariant.values;
      again = again_more lines i l c.loop-line-test.true c.line-item.is c.line_value.ensures.again c.loop-line.invariant.again;
    }
