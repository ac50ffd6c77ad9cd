use Rattle.std.proofs.Common.{◌≡◌, ◌-◌, ◌%◌, ◌≤◌, ◌==◌, length, take, true}
use Rattle.std.specs.List.{list_all}
use Rattle.no_pages.proofs.zero.is_zero.Given as goal

abbrev pub invariant-loop-at : goal.invariant-loop-at
invariant-loop-at l = record {
  within : l.at ≤ 4096;
  words : l.at % 8 ≡ 0;
  long : length l.bytes ≡ 4096;
  zeros : list_all (λ b. b == 0) (take l.at l.bytes) ≡ true;
}

abbrev pub decreases-loop-at : goal.decreases-loop-at
decreases-loop-at l = 4096 - l.at
