-- What the front of a frame is, byte by byte, as far as it has come. What is asked of a byte is asked only where it is there.
use Rattle.std.specs.Prelude.{◌≡◌, ℕ, ◌+◌, ◌*◌, ◌<◌, ◌≤◌, List, [], ◌∷◌, ◌++◌, length, get_or, take, Some, None, Bool, true, false}
use Rattle.std.specs.Int.{w32, w64, from_be_bytes}
use Rattle.no_wire.specs.declared.kind.Kind.{Kind}
use Rattle.no_wire.specs.declared.kind.Kind.TheVariants as kind
use Rattle.no_wire.specs.declared.fault.WireFault.{WireFault}
use Rattle.no_wire.specs.declared.fault.WireFault.TheVariants as fault
use Rattle.no_wire.specs.declared.scan.Seen.{Seen}
use Rattle.no_wire.specs.declared.scan.Tail.{Tail}
use Rattle.no_wire.specs.declared.scan.Tail.TheVariants as tail
use Rattle.no_wire.specs.declared.scan.Seen.TheVariants as seen
use Rattle.no_wire.specs.Kinds.{HasLength, is_of_no_epoch, kind_at}

-- the byte at a place, 0 where none stands there yet
abbrev pub at : List ℕ → ℕ → ℕ
at bytes i = get_or bytes i 0

-- the number of 4 bytes at a place, the most significant byte first
abbrev pub number_32 : List ℕ → ℕ → ℕ
number_32 bytes i = from_be_bytes w32 (at bytes i ∷ at bytes (i + 1) ∷ at bytes (i + 2) ∷ at bytes (i + 3) ∷ [])

-- the number of 8 bytes at a place, the most significant byte first
abbrev pub number_64 : List ℕ → ℕ → ℕ
number_64 bytes i =
    from_be_bytes w64 (at bytes i ∷ at bytes (i + 1) ∷ at bytes (i + 2) ∷ at bytes (i + 3) ∷ at bytes (i + 4) ∷ at bytes (i + 5) ∷ at bytes (i + 6) ∷ at bytes (i + 7) ∷ [])

-- what the frame says of its length
abbrev pub length_in : List ℕ → ℕ
length_in bytes = number_32 bytes 0

-- the length is one that a frame states: 5 to 65,536
pub record LengthGood (bytes : List ℕ) : Type 0 where
  pub b0 : 0 < length bytes → at bytes 0 ≡ 0
  pub b1 : 1 < length bytes → at bytes 1 ≤ 1
  pub b2 : 2 < length bytes → at bytes 1 ≡ 1 → at bytes 2 ≡ 0
  pub b3 : 3 < length bytes → (5 ≤ length_in bytes) × (length_in bytes ≤ 65536)

-- the epoch is 0
pub record NoEpochGood (bytes : List ℕ) : Type 0 where
  pub b5 : 5 < length bytes → at bytes 5 ≡ 0
  pub b6 : 6 < length bytes → at bytes 6 ≡ 0
  pub b7 : 7 < length bytes → at bytes 7 ≡ 0
  pub b8 : 8 < length bytes → at bytes 8 ≡ 0

-- the epoch is not 0, which only its last byte tells
abbrev pub SomeEpochGood : List ℕ → Type 0
SomeEpochGood bytes = 8 < length bytes → 0 < at bytes 5 + at bytes 6 + at bytes 7 + at bytes 8

-- the epoch is 0 where the kind belongs to none, and not 0 where it belongs to one
abbrev pub epoch_good_if : Bool → List ℕ → Type 0
epoch_good_if true bytes = NoEpochGood bytes
epoch_good_if false bytes = SomeEpochGood bytes

-- the epoch is right for the kind
abbrev pub EpochGood : Kind → List ℕ → Type 0
EpochGood k bytes = epoch_good_if (is_of_no_epoch k) bytes

-- the number of arguments is the one that the length leaves room for
abbrev pub StartGood : List ℕ → Type 0
StartGood bytes = 29 < length bytes → 26 + 8 * at bytes 29 ≡ length_in bytes

-- the value fits the end
pub record FinishGood (bytes : List ℕ) : Type 0 where
  pub b9 : 9 < length bytes → at bytes 9 ≤ 3
  pub b10 : 10 < length bytes → 1 ≤ at bytes 9 → at bytes 10 ≡ 0
  pub b11 : 11 < length bytes → 1 ≤ at bytes 9 → at bytes 11 ≡ 0
  pub b12 : 12 < length bytes → 1 ≤ at bytes 9 → at bytes 12 ≡ 0
  pub b13 : 13 < length bytes → 1 ≤ at bytes 9 → at bytes 13 ≡ 0
  pub b14 : 14 < length bytes → 1 ≤ at bytes 9 → at bytes 14 ≡ 0
  pub b15 : 15 < length bytes → 1 ≤ at bytes 9 → at bytes 15 ≡ 0
  pub b16 : 16 < length bytes → 1 ≤ at bytes 9 → at bytes 16 ≡ 0
  pub two : 17 < length bytes → at bytes 9 ≡ 2 → (1 ≤ at bytes 17) × (at bytes 17 ≤ 9)
  pub three : 17 < length bytes → at bytes 9 ≡ 3 → at bytes 17 ≡ 0

-- the body is right for the kind; only the bodies of a call and of its end are asked anything
abbrev pub BodyGood : Kind → List ℕ → Type 0
BodyGood kind.Start bytes = StartGood bytes
BodyGood kind.Finish bytes = FinishGood bytes
BodyGood _ bytes = Unit {0}

-- the kind is there, and length, epoch and body are right for it, as far as they have come
pub record KindGood (k : Kind) (bytes : List ℕ) : Type 0 where
  pub known : kind_at (at bytes 4) ≡ Some k
  pub room : HasLength k (length_in bytes)
  pub epoch : EpochGood k bytes
  pub body : BodyGood k bytes

-- the front of a frame
pub record Good (bytes : List ℕ) : Type 0 where
  pub counted : LengthGood bytes
  pub rest : 4 < length bytes → (k : Kind) × KindGood k bytes

-- less than the whole of one
abbrev pub IsShort : List ℕ → Type 0
IsShort bytes = 3 < length bytes → length bytes < length_in bytes + 4

-- a whole frame of a kind
pub record IsWhole (k : Kind) (bytes : List ℕ) : Type 0 where
  pub counted : LengthGood bytes
  pub right : KindGood k bytes
  pub len : length bytes ≡ length_in bytes + 4

-- the front of a frame, and less than the whole of one
pub record IsOpen (bytes : List ℕ) : Type 0 where
  pub good : Good bytes
  pub short : IsShort bytes

-- fewer bytes than so many leave the frame open, whatever they are
abbrev pub StaysOpen : ℕ → List ℕ → Type 0
StaysOpen until bytes = (more : List ℕ) → length bytes + length more < until → IsOpen (bytes ++ more)

-- what is wrong at the front
abbrev pub IsWrong : WireFault → List ℕ → Type 0
IsWrong fault.Length bytes = LengthGood bytes → ⊥
IsWrong fault.Kind bytes = LengthGood bytes × (4 < length bytes) × (kind_at (at bytes 4) ≡ None)
IsWrong fault.Body bytes = (k : Kind) × LengthGood bytes × (4 < length bytes) × (kind_at (at bytes 4) ≡ Some k) × (KindGood k bytes → ⊥)

-- bytes with no whole frame at their front
abbrev pub IsTail : Tail → List ℕ → Type 0
IsTail (tail.Open until) bytes = IsOpen bytes × StaysOpen until bytes
IsTail (tail.Broken f) bytes = IsWrong f bytes

-- what a look at bytes says
abbrev pub IsSeen : Seen → List ℕ → Type 0
IsSeen (seen.Whole k len) bytes = (9 ≤ len) × (len ≤ length bytes) × IsWhole k (take len bytes)
IsSeen (seen.Not t) bytes = IsTail t bytes
