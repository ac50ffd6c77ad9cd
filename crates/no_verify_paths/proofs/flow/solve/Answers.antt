use Rattle.std.proofs.Common.{◌≡◌, ℕ, ◌-◌, ◌^◌, length, replicate, refl, sym, ◌∙◌, subst}
use Rattle.std.specs.List.{All}
use Rattle.std.proofs.lemmas.List.Elements.{All-replicate}
use Rattle.no_verify_paths.proofs.flow.solve.Goals as goal

pub run-requires-clause-full : goal.run-requires-clause-full
run-requires-clause-full c =
    let ones : ℕ = 2 ^ 64 - 1 in
    let e : c.in_ok-sets.sets.items ≡ replicate (length c.args.gens.now) ones = c.in_ok-sets.ensures.items_if_clones_equal (λ y e. e) in
    subst (λ ws. All (λ w. w ≡ ones) ws) (sym (c.deref_mut.ensures.value ∙ e)) (All-replicate (λ w. w ≡ ones) (length c.args.gens.now) ones refl)
