use Rattle.std.proofs.Common.{arith}
use Rattle.no_cases.proofs.Kept.{more_kept, none_kept}
use Rattle.no_pages.specs.Keeping.{kept_of}
use Rattle.no_pages.specs.Table.{held_of}
use Rattle.no_cases.proofs.pages.pages_that_were_kept_are_adopted.Goals as goal

pub adopt-requires : goal.adopt-requires
adopt-requires g c =
    let held = held_of c.in_ok-memory.memory in
    let there = c.in_ok-memory.ensures.held in
    let none = none_kept held (kept_of c.in_ok-held.held) c.in_ok-held.ensures in
    let one = more_kept held (kept_of c.in_ok-held.held) (kept_of c.keep.new.self) 131072 _ c.in_ok-keep.ensures.kept (there 131072 (omega arith)) none in
    let two = more_kept held (kept_of c.keep.new.self) (kept_of c.keep-2.new.self) 65536 _ c.in_ok-keep-2.ensures.kept (there 65536 (omega arith)) one in
    more_kept held (kept_of c.keep-2.new.self) (kept_of c.keep-3.new.self) 131072 _ c.in_ok-keep-3.ensures.kept (there 131072 (omega arith)) two
