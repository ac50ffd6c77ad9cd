use Rattle.std.proofs.Common.{◌≡◌, drop}
use Rattle.serde_json.specs.View.{items_view}
use Rattle.no_profile.proofs.TextLists.{behind}
use Rattle.no_profile.specs.Reading.{lines_of}
use Rattle.no_profile.proofs.reading.lines_of.Given as goal

abbrev pub invariant-loop-value : goal.invariant-loop-value
invariant-loop-value l = behind l.lines (lines_of (items_view (drop l.value-index l.values))) ≡ lines_of (items_view l.values)
