-- Appending to bytes.
use Rattle.std.specs.Prelude.{◌≡◌, ℕ, List, ◌∷◌, ◌++◌, length, take}
use Rattle.no_wire.specs.declared.kind.Kind.{Kind}
use Rattle.no_wire.specs.declared.msg.Msg.{Msg}
use Rattle.no_wire.specs.Kinds.{kind_number}
use Rattle.no_wire.specs.Messages.{be32, frame}

-- what stands before the body
abbrev pub front : ℕ → Kind → ℕ → List ℕ
front n k epoch = be32 n ++ (kind_number k ∷ be32 epoch)

-- what was there is there yet
abbrev pub Keeps : List ℕ → List ℕ → Type 0
Keeps before after = take (length before) after ≡ before

-- the frame of a message was appended
abbrev pub AddsFrame : List ℕ → List ℕ → Msg → Type 0
AddsFrame before after m = after ≡ before ++ frame m
