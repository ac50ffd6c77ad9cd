use Rattle.std.proofs.Common.{◌≡◌, ◌+◌, ◌%◌, ◌^◌, ◌∙◌, ℕ, List, ap, slice_range, slice_set}
use Rattle.no_code.specs.declared.code.Step.{Step}
use Rattle.no_machine.specs.Did.{leads}
use Rattle.no_machine.specs.Slots.{value_in}
use Rattle.no_machine.proofs.Sums.{narrowed_twice}
use Rattle.no_machine.proofs.paths.address.Goals as goal

pub returns : goal.returns
returns c =
    let a = c.args in
    let base = value_in a.window.now a.constants.now a.x in
    let path : List Step → ℕ = leads a.window.now a.constants.now a.pointer in
    let there : c.walk-at.result ≡ (base + path (slice_range a.code.now.steps a.from a.to)) % 2 ^ 64 =
    c.walk-at.ensures ∙ ap (λ (l : List Step). (c.read.result + path (slice_range l a.from a.to)) % 2 ^ 64) c.as_slice.ensures ∙ ap (λ (n : ℕ). (n + path (slice_range a.code.now.steps a.from a.to)) % 2 ^ 64) c.read.ensures in
    let low : c.narrowed.result ≡ (base + path (slice_range a.code.now.steps a.from a.to)) % 2 ^ a.pointer =
    c.narrowed.ensures.value ∙ ap (λ (n : ℕ). n % 2 ^ a.pointer) there ∙ narrowed_twice (base + path (slice_range a.code.now.steps a.from a.to)) a.pointer c.requires.most in
    (c.put.ensures.0, c.put.ensures.1 ∙ ap (λ (n : ℕ). slice_set a.window.now a.into n) low)
