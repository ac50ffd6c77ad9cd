-- What reading a stream piece by piece does.
use Rattle.std.specs.Prelude.{◌≡◌, ℕ, ◌+◌, ◌<◌, ◌≤◌, List, [], ◌++◌, length, Option, Some, None}
use Rattle.no_wire.specs.declared.decoder.FeedAnswer.{FeedAnswer}
use Rattle.no_wire.specs.declared.decoder.FeedAnswer.TheVariants as answer
use Rattle.no_wire.specs.declared.fault.WireFault.{WireFault}
use Rattle.no_wire.specs.declared.msg.Msg.{Msg}
use Rattle.no_wire.specs.declared.scan.Seen.{Seen}
use Rattle.no_wire.specs.declared.scan.Seen.TheVariants as seen
use Rattle.no_wire.specs.declared.scan.Tail.{Tail}
use Rattle.no_wire.specs.declared.scan.Tail.TheVariants as tail
use Rattle.no_wire.specs.Fronts.{IsOpen, IsTail, IsWrong, IsWhole, StaysOpen, length_in}
use Rattle.no_wire.specs.Messages.{AreMessages}
use Rattle.no_wire.specs.Streams.{Decoding, IsFault, IsPartial, stream_of}

-- so many bytes are missing to the length, or to the whole frame
pub record IsMissing (rest : List ℕ) (n : ℕ) : Type 0 where
  pub some : 0 < n
  pub early : length rest < 4 → length rest + n ≡ 4
  pub late : 3 < length rest → length rest + n ≡ length_in rest + 4

-- a frame that was under way, and what is left of the piece
abbrev pub IsFilled : Seen → List ℕ → List ℕ → Type 0
IsFilled (seen.Whole k len) rest left = (9 ≤ length rest) × IsWhole k rest
IsFilled (seen.Not (tail.Open until)) rest left = (left ≡ []) × IsOpen rest × StaysOpen until rest
IsFilled (seen.Not (tail.Broken f)) rest left = IsTail (tail.Broken f) rest

-- whole frames became messages, and the rest has none at its front
pub record IsRead (before : List Msg) (bytes : List ℕ) (after : List Msg) (rest : List ℕ) (t : Tail) : Type 0 where
  pub stream : stream_of after rest ≡ stream_of before bytes
  pub messages : AreMessages before → AreMessages after
  pub tail : IsTail t rest

-- a piece was read behind a rest
abbrev pub IsAbsorbed : List ℕ → List ℕ → List Msg → List ℕ → Tail → Type 0
IsAbsorbed old piece out rest (tail.Open until) = (stream_of out rest ≡ old ++ piece) × AreMessages out × IsOpen rest × StaysOpen until rest
IsAbsorbed old piece out rest (tail.Broken f) = IsWrong f rest × AreMessages out × ((behind : List ℕ) × (stream_of out (rest ++ behind) ≡ old ++ piece))

-- a decoder that met no fault waits for so many bytes
abbrev pub IsReady : Option WireFault → ℕ → List ℕ → Type 0
IsReady None until rest = IsOpen rest × StaysOpen until rest
IsReady (Some f) until rest = Unit {0}

-- what a decoder answers to a piece, where it met no fault before
abbrev pub IsFedWhole : Decoding → List ℕ → FeedAnswer → Decoding → Type 0
IsFedWhole old piece (answer.Frames out) new = (new.fault ≡ None) × AreMessages out × IsPartial new.rest × (stream_of out new.rest ≡ old.rest ++ piece)
IsFedWhole old piece (answer.Fault before f) new =
    (new.fault ≡ Some f) × AreMessages before × IsFault f new.rest × ((behind : List ℕ) × (stream_of before (new.rest ++ behind) ≡ old.rest ++ piece))
IsFedWhole old piece answer.NoMemory new = new ≡ old

-- after a fault the same is answered for good
abbrev pub IsFedBroken : WireFault → FeedAnswer → Decoding → Type 0
IsFedBroken f (answer.Frames out) new = ⊥
IsFedBroken f (answer.Fault before g) new = (g ≡ f) × (before ≡ []) × (new.fault ≡ Some f)
IsFedBroken f answer.NoMemory new = ⊥

-- what a decoder answers to a piece, by whether it met a fault before
abbrev pub fed_by : Option WireFault → Decoding → List ℕ → FeedAnswer → Decoding → Type 0
fed_by None old piece a new = IsFedWhole old piece a new
fed_by (Some f) old piece a new = IsFedBroken f a new

-- what a decoder answers to a piece, and what it knows behind it
abbrev pub IsFed : Decoding → List ℕ → FeedAnswer → Decoding → Type 0
IsFed old piece a new = fed_by old.fault old piece a new
