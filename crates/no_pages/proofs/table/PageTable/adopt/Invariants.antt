use Rattle.std.proofs.Common.{◌≡◌, ◌≤◌, ℕ, true, None, get_or, length}
use Rattle.no_pages.specs.Held.{first, over}
use Rattle.no_pages.specs.Keeping.{kept_in}
use Rattle.no_pages.specs.Table.{byte_of, dirty_of, held_of, own_of, regions_of}
use Rattle.no_pages.proofs.table.PageTable.adopt.Given as goal

abbrev pub invariant-loop-page : goal.invariant-loop-page
invariant-loop-page l = record {
  bytes : byte_of l.self ≡ over (first l.page (kept_in l.fn.held.pages.items)) (byte_of l.fn.self);
  rest : (q : ℕ) → l.page ≤ q → get_or l.pages.items q None ≡ get_or l.fn.held.pages.items q None;
  all : length l.pages.items ≡ 131328;
  kept : (p : ℕ) → own_of l.fn.self p ≡ true → own_of l.self p ≡ true;
  dirty : dirty_of l.self ≡ dirty_of l.fn.self;
  regions : regions_of l.self ≡ regions_of l.fn.self;
  held : held_of l.self ≡ held_of l.fn.self;
}
