use Rattle.std.proofs.Common.{◌≡◌, rules, Option, Some, option_map, unwrap_or, length, sym, ap, ◌∙◌}
use Rattle.serde_json.proofs.Views.{members_len-members_view}
use Rattle.serde_json.specs.Data.{Members}
use Rattle.serde_json.specs.Events.{members_len}
use Rattle.serde_json.specs.Find.{as_object}
use Rattle.serde_json.specs.View.{view, members_view}
use Rattle.no_profile.proofs.reading.size.Goals as goal

pub returns-in-Some : goal.returns-in-Some
returns-in-Some c =
    let entries = c.in-Some.members.now.entries in
    let seen : Some (members_view entries) ≡ as_object (view c.args.value.now) = search rules in
    let len : c.len.result ≡ length entries = search rules in
    len ∙ sym (members_len-members_view entries) ∙ ap (λ (o : Option Members). unwrap_or (option_map members_len o) 0) seen
