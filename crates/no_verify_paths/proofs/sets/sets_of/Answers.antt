use Rattle.std.proofs.Common.{◌≡◌, replicate, ◌∙◌, ap, List, ℕ, slice_index}
use Rattle.no_verify_paths.specs.Words.{has}
use Rattle.no_verify_paths.proofs.Bits.{has_zeros}
use Rattle.no_verify_paths.proofs.sets.sets_of.Goals as goal

pub fill_sets-requires-clause-empty : goal.fill_sets-requires-clause-empty
fill_sets-requires-clause-empty c =
    let e : c.in_ok-gens.gens.items ≡ replicate c.args.count 0 = c.in_ok-gens.ensures.items_if_clones_equal (λ y e. e) in
    λ b i. ap (λ (ws : List ℕ). has (slice_index ws b) i) (c.deref_mut.ensures.value ∙ e) ∙ has_zeros c.args.count b i
