use Rattle.std.proofs.Common.{◌≡◌, ℕ, ◌<◌, true, take}
use Rattle.no_layout.specs.Sizes.{fits_at, sizes_of}
use Rattle.no_layout.proofs.layout.Layout.sizes.Given as goal

abbrev pub invariant-loop-named : goal.invariant-loop-named
invariant-loop-named l = record {
  number : l.number ≡ l.named-index;
  numbers : l.sizes ≡ sizes_of l.self (take l.named-index l.types);
  fit : (k : ℕ) → k < l.named-index → fits_at l.self l.types k ≡ true;
}
