use Rattle.std.proofs.Common.{◌≡◌, ℕ, ◌<◌, ◌≤◌, true}
use Rattle.no_layout.proofs.ranges.prepare_all.Given as goal

abbrev pub invariant-loop-page : goal.invariant-loop-page
invariant-loop-page g l =
    let m = g.M.Memory in
    record {
      taken : (p : ℕ) → l.first ≤ p → p < l.page → m.own l.memory p ≡ true;
      kept : (p : ℕ) → m.own l.fn.memory p ≡ true → m.own l.memory p ≡ true;
      bytes : m.byte l.memory ≡ m.byte l.fn.memory;
      dirty : m.dirty l.memory ≡ m.dirty l.fn.memory;
      regions : m.regions l.memory ≡ m.regions l.fn.memory;
      held : m.held l.memory ≡ m.held l.fn.memory;
    }
