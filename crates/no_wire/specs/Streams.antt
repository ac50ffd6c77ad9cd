-- Streams of frames, as far as they have come.
use Rattle.std.specs.Prelude.{◌≡◌, ℕ, ◌<◌, ◌≤◌, List, ◌∷◌, ◌++◌, length, Option}
use Rattle.std.specs.List.{flat_map}
use Rattle.no_wire.specs.declared.kind.Kind.{Kind}
use Rattle.no_wire.specs.declared.msg.Msg.{Msg}
use Rattle.no_wire.specs.declared.fault.WireFault.{WireFault}
use Rattle.no_wire.specs.declared.fault.WireFault.TheVariants as fault
use Rattle.no_wire.specs.Kinds.{kind_number}
use Rattle.no_wire.specs.Messages.{IsMessage, be32, frame}

-- less than a whole frame, to which it can grow
abbrev pub IsPartial : List ℕ → Type 0
IsPartial rest = (m : Msg) × (more : List ℕ) × IsMessage m × (0 < length more) × (rest ++ more ≡ frame m)

-- bytes that can go on, or have gone on, so that a length stands at their front
abbrev pub BeginsLength : List ℕ → Type 0
BeginsLength rest = (n : ℕ) × (more : List ℕ) × (behind : List ℕ) × (5 ≤ n) × (n ≤ 65536) × (rest ++ more ≡ be32 n ++ behind)

-- bytes that can go on, or have gone on, so that a length and a kind stand at their front
abbrev pub BeginsKind : List ℕ → Type 0
BeginsKind rest = (n : ℕ) × (k : Kind) × (more : List ℕ) × (behind : List ℕ) × (5 ≤ n) × (n ≤ 65536) × (rest ++ more ≡ be32 n ++ (kind_number k ∷ behind))

-- bytes that can go on, or have gone on, so that a frame stands at their front
abbrev pub BeginsFrame : List ℕ → Type 0
BeginsFrame rest = (m : Msg) × (more : List ℕ) × (behind : List ℕ) × IsMessage m × (rest ++ more ≡ frame m ++ behind)

-- bytes that begin no frame: the first of length, kind and body that is wrong
abbrev pub IsFault : WireFault → List ℕ → Type 0
IsFault fault.Length rest = BeginsLength rest → ⊥
IsFault fault.Kind rest = BeginsLength rest × (BeginsKind rest → ⊥)
IsFault fault.Body rest = BeginsKind rest × (BeginsFrame rest → ⊥)

-- messages, and bytes behind them
abbrev pub stream_of : List Msg → List ℕ → List ℕ
stream_of messages rest = flat_map frame messages ++ rest

-- what a decoder knows: the bytes since the last whole frame, and the fault that it met
pub record Decoding : Type 0 where
  pub rest : List ℕ
  pub fault : Option WireFault
