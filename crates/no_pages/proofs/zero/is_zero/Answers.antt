use Rattle.std.proofs.Common.{◌≡◌, ◌+◌, ◌-◌, ◌∙◌, ℕ, List, take, drop, sym, ap, arith}
use Rattle.no_layout.specs.Orders.{little_of}
use Rattle.no_pages.proofs.Zeros.{not_zeros, zeros_more}
use Rattle.no_pages.proofs.zero.is_zero.Goals as goal

word : (xs : List ℕ) (at n : ℕ) → n ≡ little_of (take (at + 8 - at) (drop at xs)) → n ≡ little_of (take 8 (drop at xs))
word xs at n e = (let long : at + 8 - at ≡ 8 = omega arith in e ∙ ap (λ (k : ℕ). little_of (take k (drop at xs))) long)

pub returns-then-get_number-ne0 : goal.returns-then-get_number-ne0
returns-then-get_number-ne0 c = sym (not_zeros c.args.bytes.now c.loop-at.at 8 (λ none. c.if-get_number-ne0.true (word c.args.bytes.now c.loop-at.at c.get_number.result c.get_number.ensures ∙ none)))

pub loop-at-preserved : goal.loop-at-preserved
loop-at-preserved c = record {
  within = omega arith;
  words = omega arith;
  long = c.loop-at.invariant.long;
  zeros = zeros_more c.args.bytes.now c.loop-at.at 8 c.loop-at.invariant.zeros (sym (word c.args.bytes.now c.loop-at.at c.get_number.result c.get_number.ensures) ∙ c.if-get_number-ne0.false);
}
