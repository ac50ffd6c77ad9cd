use Rattle.std.proofs.Common.{◌≡◌, ◌<◌, ◌∷◌, ◌++◌, [], length, arith, sym, ◌∙◌, subst}
use Rattle.std.specs.List.{All}
use Rattle.no_verify_paths.specs.Flow.{Passed, row}
use Rattle.no_verify_paths.proofs.RowLaws.{row_is}
use Rattle.no_verify_paths.proofs.Flowing.{flowing_more, flowing_end}
use Rattle.no_verify_paths.proofs.flow.settle.Goals as goal

pub pass-requires-clause-within : goal.pass-requires-clause-within
pass-requires-clause-within c =
    let next = c.args.next.now in
    let a = c.in-Some.block in
    let row' : row next a ≡ c.as_slice.result.now = row_is next a c.index-next-at.result (omega (arith, c.in-Some.ensures.2)) c.index-next-at.is ∙ sym c.as_slice.ensures.value in
    let all : All (λ b. b < length c.args.sets.now) c.as_slice.result.now = subst (λ xs. All (λ b. b < length c.args.sets.now) xs) row' (c.requires.edges.inside a) in
    λ k d lt. omega (arith, all k d lt)

pub loop-block-preserved : goal.loop-block-preserved
loop-block-preserved c =
    let next = c.args.next.now in
    let a = c.in-Some.block in
    let old = c.loop-block.queue in
    let taken = c.take.new.self in
    let split : old.blocks ≡ taken.blocks ++ a ∷ [] = c.in-Some.ensures.0 in
    let room : taken.room ≡ old.room = c.in-Some.ensures.1 in
    let within : a < old.room = c.in-Some.ensures.2 in
    let row' : row next a ≡ c.as_slice.result.now = row_is next a c.index-next-at.result (omega arith) c.index-next-at.is ∙ sym c.as_slice.ensures.value in
    let now : Passed c.as_slice.result.now c.join-out.result c.loop-block.sets c.pass.new.sets taken c.pass.new.queue = c.in_ok-pass.ensures in
    let passed : Passed (row next a) c.join-out.result c.loop-block.sets c.pass.new.sets taken c.pass.new.queue = subst (λ ts. Passed ts c.join-out.result c.loop-block.sets c.pass.new.sets taken c.pass.new.queue) (sym row') now in
    record {
      flowing = λ start f. flowing_more (row next) c.args.gens.now start a c.loop-block.sets c.pass.new.sets old taken c.pass.new.queue c.join-out.result (c.loop-block.invariant.flowing start f) split room c.join-out.ensures (omega arith) (omega arith) passed;
      room = omega (arith, now.room);
    }

pub returns : goal.returns
returns c = λ start f. flowing_end (row c.args.next.now) c.args.gens.now start c.loop-block.sets c.loop-block.queue (c.loop-block.invariant.flowing start f) c.in_default.ensures.0
