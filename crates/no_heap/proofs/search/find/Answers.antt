use Rattle.std.proofs.Common.{◌≡◌, ℕ, ◌+◌, ◌-◌, ◌/◌, ◌<◌, ◌≤◌, inl, inr, sym, arith}
use Rattle.std.proofs.lemmas.Bool.{cases_lt}
use Rattle.no_heap.proofs.Placing.{block_at}
use Rattle.no_heap.proofs.Found.{between_low, between_high, between_all}
use Rattle.no_heap.proofs.search.find.Goals as goal

pub returns-then-at-addr : goal.returns-then-at-addr
returns-then-at-addr c = block_at c.args.blocks.now (c.loop-low.low + (c.loop-low.high - c.loop-low.low) / 2) c.args.addr c.requires (omega (arith, c.loop-low.invariant.most, c.loop-low-test.true)) c.if-at-addr.true

pub loop-low-preserved-then-at-addr-2 : goal.loop-low-preserved-then-at-addr-2
loop-low-preserved-then-at-addr-2 c =
    between_low c.args.blocks.now c.args.addr c.loop-low.low c.loop-low.high (c.loop-low.low + (c.loop-low.high - c.loop-low.low) / 2) c.requires c.loop-low.invariant (omega (arith, c.loop-low-test.true)) (omega (arith, c.if-at-addr-2.true))

below : (a b : ℕ) → a ≤ b → (a ≡ b → ⊥) → a < b
below a b h n = elim (cases_lt a b) [ inl less ↦ less | inr not ↦ absurd (n (omega arith)) ]

pub loop-low-preserved : goal.loop-low-preserved
loop-low-preserved c =
    let middle = c.loop-low.low + (c.loop-low.high - c.loop-low.low) / 2 in
    between_high c.args.blocks.now c.args.addr c.loop-low.low c.loop-low.high middle c.requires c.loop-low.invariant (omega (arith, c.loop-low-test.true)) (below _ _ c.if-at-addr-2.false (λ e. c.if-at-addr.false (sym e)))

pub returns : goal.returns
returns c = between_all c.args.blocks.now c.args.addr c.loop-low.low c.loop-low.high c.loop-low.invariant (omega (arith, c.loop-low-test.false))
