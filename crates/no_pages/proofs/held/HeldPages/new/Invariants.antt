use Rattle.std.proofs.Common.{◌≡◌, ℕ, None, get_or, length}
use Rattle.no_pages.proofs.held.HeldPages.new.Given as goal

abbrev pub invariant-loop-page : goal.invariant-loop-page
invariant-loop-page l = record {
  all : length l.pages.items ≡ l._page;
  none : (q : ℕ) → get_or l.pages.items q None ≡ None;
}
