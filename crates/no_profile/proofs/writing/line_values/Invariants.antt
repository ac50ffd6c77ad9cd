use Rattle.std.proofs.Common.{◌≡◌, map, take}
use Rattle.std.specs.List.{All}
use Rattle.serde_json.specs.View.{view}
use Rattle.no_profile.specs.Texts.{IsAgain, line_data}
use Rattle.no_profile.proofs.writing.line_values.Given as goal

abbrev pub invariant-loop-line : goal.invariant-loop-line
invariant-loop-line l = record {
  values : map view l.values.items ≡ map line_data (take l.line-index l.lines);
  again : All IsAgain (take l.line-index l.lines);
}
