use Rattle.std.proofs.Common.{◌≡◌, drop, map}
use Rattle.no_read_attributes.specs.Words.{is_one}
use Rattle.no_read_attributes.proofs.words.is_one.Given as goal

abbrev pub invariant-loop-other : goal.invariant-loop-other
invariant-loop-other l = is_one (map (λ w. w.now) (drop l.other-index l.words)) l.word ≡ is_one (map (λ w. w.now) l.words) l.word
