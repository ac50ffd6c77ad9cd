use Rattle.std.proofs.Common.{◌≡◌, ◌≤◌, length, ◌∙◌}
use Rattle.serde_json.specs.View.{view}
use Rattle.no_profile.proofs.TextsAgain.{reads_again, text_is}
use Rattle.no_profile.specs.Reading.{MOST_BYTES}
use Rattle.no_profile.specs.Texts.{profile_data}
use Rattle.no_profile.proofs.writing.profile_text.Goals as goal

pub returns-clause-text : goal.returns-clause-text
returns-clause-text c =
    let seen : view c.in_ok-value.value ≡ profile_data c.args.profile.now = c.in_ok-value.ensures.value in
    c.from_vec.ensures ∙ text_is c.args.profile.now (view c.in_ok-value.value) c.in_ok-text.text.items seen c.in_ok-text.ensures.text

pub returns-clause-again : goal.returns-clause-again
returns-clause-again c short =
    let p = c.args.profile.now in
    let text = c.in_ok-text.text.items in
    let seen : view c.in_ok-value.value ≡ profile_data p = c.in_ok-value.ensures.value in
    let limit : length text ≤ MOST_BYTES = rw c.from_vec.ensures at short in
    rw c.from_vec.ensures (reads_again p (view c.in_ok-value.value) text c.requires c.in_ok-value.ensures.again seen c.in_ok-text.ensures.utf8 c.in_ok-text.ensures.reads_back limit)
