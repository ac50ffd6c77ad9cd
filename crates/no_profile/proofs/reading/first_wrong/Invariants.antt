use Rattle.std.proofs.Common.{◌≡◌, fold, option_copied}
use Rattle.serde_json.specs.View.{members_view}
use Rattle.no_profile.specs.Reading.{is_wrong, names_of, with_name}
use Rattle.no_profile.proofs.reading.first_wrong.Given as goal

-- the names that are left lead from the name that was found to the one that all lead to
abbrev pub invariant-loop-name : goal.invariant-loop-name
invariant-loop-name l =
    fold (with_name (is_wrong l.functions l.steps)) (option_copied l.found) (names_of (members_view l.name-iterator))
    ≡ fold (with_name (is_wrong l.functions l.steps)) (option_copied l.initial.found) (names_of (members_view l.members.entries))
