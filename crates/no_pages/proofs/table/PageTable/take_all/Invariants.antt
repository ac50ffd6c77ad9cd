use Rattle.std.proofs.Common.{◌≡◌, ◌≤◌, ◌<◌, ℕ, true}
use Rattle.no_pages.specs.Table.{byte_of, dirty_of, held_of, own_of, regions_of}
use Rattle.no_pages.proofs.table.PageTable.take_all.Given as goal

abbrev pub invariant-loop-page : goal.invariant-loop-page
invariant-loop-page l = record {
  taken : (p : ℕ) → l.first ≤ p → p < l.page → own_of l.self p ≡ true;
  kept : (p : ℕ) → own_of l.fn.self p ≡ true → own_of l.self p ≡ true;
  bytes : byte_of l.self ≡ byte_of l.fn.self;
  dirty : dirty_of l.self ≡ dirty_of l.fn.self;
  regions : regions_of l.self ≡ regions_of l.fn.self;
  held : held_of l.self ≡ held_of l.fn.self;
}
