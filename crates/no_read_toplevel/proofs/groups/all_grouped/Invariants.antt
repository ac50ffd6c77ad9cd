use Rattle.std.proofs.Common.{◌≡◌, drop}
use Rattle.no_read_toplevel.specs.Grouping.{all_grouped, no_groups}
use Rattle.no_read_toplevel.proofs.groups.all_grouped.Given as goal

abbrev pub invariant-loop-top : goal.invariant-loop-top
invariant-loop-top l = all_grouped l.text l.groups (drop l.top-index l.tops) ≡ all_grouped l.text no_groups l.tops
