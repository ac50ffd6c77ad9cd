use Rattle.std.proofs.Common.{◌≡◌, ◌++◌, ◌∷◌, [], ℕ, drop, map}
use Rattle.no_semantics.specs.First.{elements_bytes}
use Rattle.no_image.proofs.emit.put_text.Given as goal

abbrev pub invariant-loop-byte : goal.invariant-loop-byte
invariant-loop-byte l = l.fn.out.items ++ elements_bytes l.stride (map (λ (b : ℕ). b ∷ []) l.text) ≡ l.out.items ++ elements_bytes l.stride (map (λ (b : ℕ). b ∷ []) (drop l.byte-index l.text))
