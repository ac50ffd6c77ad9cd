-- What a call on a source, a sink or a store of files did, by cases on its answer.
use Rattle.std.specs.Prelude.{◌≡◌, ℕ, ◌+◌, ◌-◌, ◌^◌, ◌<◌, ◌≤◌, min, Option, Some, List, [], ◌++◌, length, take, drop, IfSome, IsSome}
use Rattle.no_ports.specs.declared.source.Took.{Took}
use Rattle.no_ports.specs.declared.source.Took.TheVariants as took
use Rattle.no_ports.specs.declared.sink.Gave.{Gave}
use Rattle.no_ports.specs.declared.sink.Gave.TheVariants as gave
use Rattle.no_ports.specs.declared.files.FileAnswer.{FileAnswer}
use Rattle.no_ports.specs.declared.files.FileAnswer.TheVariants as answer

-- a count has risen; one that stands at its type's end counts as risen
abbrev pub Rose : ℕ → ℕ → Type 0
Rose before now = min (before + 1) (2 ^ 64 - 1) ≤ now

-- where contents are told, these bytes were added, and contents are told afterwards
abbrev pub Adds : Option (List ℕ) → Option (List ℕ) → List ℕ → Type 0
Adds old new bytes = IfSome old (λ held. new ≡ Some (held ++ bytes))

-- where contents are told, some first bytes of these were added
abbrev pub AddsPrefix : Option (List ℕ) → Option (List ℕ) → List ℕ → Type 0
AddsPrefix old new bytes = (n : ℕ) × (n ≤ length bytes) × Adds old new (take n bytes)

-- what a sink holds after it was given a piece: the first n bytes more, or no more
abbrev pub Gives : Gave → List ℕ → Option (List ℕ) → Option (List ℕ) → Type 0
Gives (gave.Gave n) piece old new = (0 < n) × (n ≤ length piece) × Adds old new (take n piece)
Gives gave.Failed piece old new = Adds old new []
Gives gave.NoMemory piece old new = Adds old new []

-- where it is told what is left, its first n bytes are now the first n of the buffer
abbrev pub Moves : ℕ → List ℕ → Option (List ℕ) → Option (List ℕ) → Type 0
Moves n buf old new = IfSome old (λ left.
    (n ≤ length left) × (take n buf ≡ take n left) × (new ≡ Some (drop n left)))

-- what is left of a source after a take: n bytes less, or as much; at the end nothing is left
abbrev pub Takes : Took → List ℕ → Option (List ℕ) → Option (List ℕ) → Type 0
Takes (took.Took n) buf old new = (0 < n) × (n ≤ length buf) × Moves n buf old new
Takes took.End buf old new = IfSome old (λ left. (left ≡ []) × (new ≡ Some []))
Takes took.Failed buf old new = IfSome old (λ left. new ≡ Some left)

-- what a file's reader gets: the file's first bytes up to the limit, or nothing after a fault
abbrev pub Reads : FileAnswer → ℕ → List ℕ → Option (List ℕ) → Type 0
Reads answer.Done limit into contents =
    (length into ≤ limit) × IfSome contents (λ bytes. into ≡ take limit bytes)
Reads answer.Failed limit into contents = into ≡ []
Reads answer.NoMemory limit into contents = into ≡ []

-- what a written file holds: these bytes, or anything after a fault; contents stay told
abbrev pub Writes : FileAnswer → List ℕ → Option (List ℕ) → Option (List ℕ) → Type 0
Writes answer.Done bytes old new = IfSome old (λ _. new ≡ Some bytes)
Writes answer.Failed bytes old new = IfSome old (λ _. IsSome new)
Writes answer.NoMemory bytes old new = IfSome old (λ _. IsSome new)
