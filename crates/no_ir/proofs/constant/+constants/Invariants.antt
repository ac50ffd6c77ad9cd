use Rattle.std.proofs.Common.{◌≡◌, take}
use Rattle.no_ir.proofs.constant.+constants.Given as goal

abbrev pub invariant-copy_members-loop-member : goal.invariant-copy_members-loop-member
invariant-copy_members-loop-member l = l.all ≡ take l.member-index l.members
