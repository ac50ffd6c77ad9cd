use Rattle.std.proofs.Common.{ap}
use Rattle.std.specs.Prelude.{ℕ}
use Rattle.no_read_attributes.proofs.Saying.{says_more}
use Rattle.no_read_attributes.proofs.marks.spells.Goals as goal

pub loop-left-preserved : goal.loop-left-preserved
loop-left-preserved c =
    says_more c.loop-left.rest.now c.split_at.result.1.now c.loop-left.left.now c.first_byte-byte.result.0 c.first_byte-byte.result.1 _
    c.if-is_empty.ensures (ap (λ (x : ℕ × ℕ). x.0) c.first_byte-byte.ensures) (ap (λ (x : ℕ × ℕ). x.1) c.first_byte-byte.ensures) c.split_at.ensures.back
    c.in-len1-up.len_at_least c.if-byte-first.false c.loop-left.invariant
