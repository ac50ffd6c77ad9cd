-- The one spelling of each message (docs/FORMATS.md, "Frames").
use Rattle.std.specs.Prelude.{◌≡◌, ℕ, ◌+◌, ◌<◌, ◌≤◌, ◌^◌, List, [], ◌∷◌, ◌++◌, length, get_or}
use Rattle.std.specs.List.{flat_map}
use Rattle.std.specs.Int.{w32, w64, to_be_bytes}
use Rattle.no_wire.specs.declared.kind.Kind.{Kind}
use Rattle.no_wire.specs.declared.kind.Kind.TheVariants as kind
use Rattle.no_wire.specs.declared.msg.Msg.{Msg}
use Rattle.no_wire.specs.declared.msg.Msg.TheVariants as msg
use Rattle.no_wire.specs.Kinds.{kind_number}

-- a number of 4 bytes, the most significant byte first
abbrev pub be32 : ℕ → List ℕ
be32 n = to_be_bytes w32 n

-- a number of 8 bytes, the most significant byte first
abbrev pub be64 : ℕ → List ℕ
be64 n = to_be_bytes w64 n

-- a place and a size
abbrev pub pair_bytes : ℕ × ℕ → List ℕ
pair_bytes p = be32 p.0 ++ be32 p.1

-- the kind of a message
abbrev pub kind_of : Msg → Kind
kind_of (msg.Load text) = kind.Load
kind_of (msg.LoadEnd constants_end globals_end) = kind.LoadEnd
kind_of (msg.Start epoch function budget sp blocks args) = kind.Start
kind_of (msg.Blocks epoch pairs) = kind.Blocks
kind_of (msg.Page epoch page bytes) = kind.Page
kind_of (msg.Zero epoch page) = kind.Zero
kind_of msg.Bye = kind.Bye
kind_of (msg.Abandon epoch) = kind.Abandon
kind_of (msg.Want epoch page) = kind.Want
kind_of (msg.Output epoch bytes) = kind.Output
kind_of (msg.Dirty epoch page bytes) = kind.Dirty
kind_of (msg.Heap epoch pairs) = kind.Heap
kind_of (msg.Finish epoch end value counted dirty entries output) = kind.Finish
kind_of (msg.Declined epoch) = kind.Declined

-- the epoch that it belongs to, or 0
abbrev pub epoch_of : Msg → ℕ
epoch_of (msg.Load text) = 0
epoch_of (msg.LoadEnd constants_end globals_end) = 0
epoch_of (msg.Start epoch function budget sp blocks args) = epoch
epoch_of (msg.Blocks epoch pairs) = epoch
epoch_of (msg.Page epoch page bytes) = epoch
epoch_of (msg.Zero epoch page) = epoch
epoch_of msg.Bye = 0
epoch_of (msg.Abandon epoch) = epoch
epoch_of (msg.Want epoch page) = epoch
epoch_of (msg.Output epoch bytes) = epoch
epoch_of (msg.Dirty epoch page bytes) = epoch
epoch_of (msg.Heap epoch pairs) = epoch
epoch_of (msg.Finish epoch end value counted dirty entries output) = epoch
epoch_of (msg.Declined epoch) = epoch

-- the body of a call: function, budget, stack pointer, how many heap blocks there are, and the arguments behind their count
abbrev pub start_body : ℕ → ℕ → ℕ → ℕ → List ℕ → List ℕ
start_body function budget sp blocks args = be32 function ++ (be64 budget ++ (be32 sp ++ (be32 blocks ++ (length args ∷ flat_map be64 args))))

-- the body of a call's end: how it ended, its value, what it counted, and how many dirty pages, heap entries and bytes of output were sent
abbrev pub finish_body : ℕ → ℕ → ℕ → ℕ → ℕ → ℕ → List ℕ
finish_body end value counted dirty entries output = end ∷ (be64 value ++ (be64 counted ++ (be32 dirty ++ (be32 entries ++ be64 output))))

-- what stands behind the epoch
abbrev pub body_of : Msg → List ℕ
body_of (msg.Load text) = text
body_of (msg.LoadEnd constants_end globals_end) = be32 constants_end ++ be32 globals_end
body_of (msg.Start epoch function budget sp blocks args) = start_body function budget sp blocks args
body_of (msg.Blocks epoch pairs) = flat_map pair_bytes pairs
body_of (msg.Page epoch page bytes) = be32 page ++ bytes
body_of (msg.Zero epoch page) = be32 page
body_of msg.Bye = []
body_of (msg.Abandon epoch) = []
body_of (msg.Want epoch page) = be32 page
body_of (msg.Output epoch bytes) = bytes
body_of (msg.Dirty epoch page bytes) = be32 page ++ bytes
body_of (msg.Heap epoch pairs) = flat_map pair_bytes pairs
body_of (msg.Finish epoch end value counted dirty entries output) = finish_body end value counted dirty entries output
body_of (msg.Declined epoch) = []

-- how a call ended, and its value: any where it returned, an exit number, a trap's number, or 0
abbrev pub IsEnd : ℕ → ℕ → Type 0
IsEnd end value = (end ≤ 3) × (end ≡ 1 → value ≤ 255) × (end ≡ 2 → (1 ≤ value) × (value ≤ 9)) × (end ≡ 3 → value ≡ 0)

-- what a message may say
abbrev pub Fits : Msg → Type 0
Fits (msg.Load text) = (1 ≤ length text) × (length text ≤ 65531)
Fits (msg.LoadEnd constants_end globals_end) = Unit {0}
Fits (msg.Start epoch function budget sp blocks args) = (1 ≤ epoch) × (length args ≤ 64)
Fits (msg.Blocks epoch pairs) = (1 ≤ epoch) × (1 ≤ length pairs) × (length pairs ≤ 8191)
Fits (msg.Page epoch page bytes) = (1 ≤ epoch) × (length bytes ≡ 4096)
Fits (msg.Zero epoch page) = 1 ≤ epoch
Fits msg.Bye = Unit {0}
Fits (msg.Abandon epoch) = 1 ≤ epoch
Fits (msg.Want epoch page) = 1 ≤ epoch
Fits (msg.Output epoch bytes) = (1 ≤ epoch) × (1 ≤ length bytes) × (length bytes ≤ 65531)
Fits (msg.Dirty epoch page bytes) = (1 ≤ epoch) × (length bytes ≡ 4096)
Fits (msg.Heap epoch pairs) = (1 ≤ epoch) × (1 ≤ length pairs) × (length pairs ≤ 8191)
Fits (msg.Finish epoch end value counted dirty entries output) = (1 ≤ epoch) × IsEnd end value
Fits (msg.Declined epoch) = 1 ≤ epoch

-- a frame: the length of what follows, the kind, the epoch, the body
abbrev pub framed : Kind → ℕ → List ℕ → List ℕ
framed k epoch body = be32 (5 + length body) ++ (kind_number k ∷ (be32 epoch ++ body))

-- the spelling of a message
abbrev pub frame : Msg → List ℕ
frame m = framed (kind_of m) (epoch_of m) (body_of m)

-- ---- fields in the ranges of their types

-- each number is below 256
abbrev pub AreBytes : List ℕ → Type 0
AreBytes bytes = (i : ℕ) → get_or bytes i 0 < 256

-- each number has at most 64 bits
abbrev pub AreNumbers : List ℕ → Type 0
AreNumbers [] = Unit {0}
AreNumbers (n ∷ more) = (n < 2 ^ 64) × AreNumbers more

-- both numbers of each pair have at most 32 bits
abbrev pub ArePairs : List (ℕ × ℕ) → Type 0
ArePairs [] = Unit {0}
ArePairs (p ∷ more) = (p.0 < 2 ^ 32) × (p.1 < 2 ^ 32) × ArePairs more

-- each field of a message is in the range of its type
abbrev pub InRange : Msg → Type 0
InRange (msg.Load text) = AreBytes text
InRange (msg.LoadEnd constants_end globals_end) = (constants_end < 2 ^ 32) × (globals_end < 2 ^ 32)
InRange (msg.Start epoch function budget sp blocks args) = (epoch < 2 ^ 32) × (function < 2 ^ 32) × (budget < 2 ^ 64) × (sp < 2 ^ 32) × (blocks < 2 ^ 32) × AreNumbers args
InRange (msg.Blocks epoch pairs) = (epoch < 2 ^ 32) × ArePairs pairs
InRange (msg.Page epoch page bytes) = (epoch < 2 ^ 32) × (page < 2 ^ 32) × AreBytes bytes
InRange (msg.Zero epoch page) = (epoch < 2 ^ 32) × (page < 2 ^ 32)
InRange msg.Bye = Unit {0}
InRange (msg.Abandon epoch) = epoch < 2 ^ 32
InRange (msg.Want epoch page) = (epoch < 2 ^ 32) × (page < 2 ^ 32)
InRange (msg.Output epoch bytes) = (epoch < 2 ^ 32) × AreBytes bytes
InRange (msg.Dirty epoch page bytes) = (epoch < 2 ^ 32) × (page < 2 ^ 32) × AreBytes bytes
InRange (msg.Heap epoch pairs) = (epoch < 2 ^ 32) × ArePairs pairs
InRange (msg.Finish epoch end value counted dirty entries output) = (epoch < 2 ^ 32) × (end < 256) × (value < 2 ^ 64) × (counted < 2 ^ 64) × (dirty < 2 ^ 32) × (entries < 2 ^ 32) × (output < 2 ^ 64)
InRange (msg.Declined epoch) = epoch < 2 ^ 32

-- a message as it is sent and got
abbrev pub IsMessage : Msg → Type 0
IsMessage m = InRange m × Fits m

-- messages as they are sent and got
abbrev pub AreMessages : List Msg → Type 0
AreMessages [] = Unit {0}
AreMessages (m ∷ more) = IsMessage m × AreMessages more

-- these bytes are the frame of this message
pub record Spells (bytes : List ℕ) (m : Msg) : Type 0 where
  pub spelled : frame m ≡ bytes
  pub message : IsMessage m
