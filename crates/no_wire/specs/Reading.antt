-- The message that a frame of a kind says.
use Rattle.std.specs.Prelude.{ℕ, zero, suc, ◌/◌, List, [], ◌∷◌, drop, take, length}
use Rattle.no_wire.specs.declared.kind.Kind.{Kind}
use Rattle.no_wire.specs.declared.kind.Kind.TheVariants as kind
use Rattle.no_wire.specs.declared.msg.Msg.{Msg}
use Rattle.no_wire.specs.declared.msg.Msg.TheVariants as msg
use Rattle.no_wire.specs.Fronts.{at, number_32, number_64}

-- so many numbers of 8 bytes, one behind the other
abbrev pub numbers_in : ℕ → List ℕ → List ℕ
numbers_in zero bytes = []
numbers_in (suc count) bytes = number_64 (take 8 bytes) 0 ∷ numbers_in count (drop 8 bytes)

-- so many pairs of numbers of 4 bytes, one behind the other
abbrev pub pairs_in : ℕ → List ℕ → List (ℕ × ℕ)
pairs_in zero bytes = []
pairs_in (suc count) bytes = (number_32 (take 8 bytes) 0, number_32 (take 8 bytes) 4) ∷ pairs_in count (drop 8 bytes)

-- as many numbers as there are 8 bytes
abbrev pub all_numbers : List ℕ → List ℕ
all_numbers bytes = numbers_in (length bytes / 8) bytes

-- as many pairs as there are 8 bytes
abbrev pub all_pairs : List ℕ → List (ℕ × ℕ)
all_pairs bytes = pairs_in (length bytes / 8) bytes

-- the message that a whole frame of this kind says
abbrev pub message_in : Kind → List ℕ → Msg
message_in kind.Load f = msg.Load (drop 9 f)
message_in kind.LoadEnd f = msg.LoadEnd (number_32 f 9) (number_32 f 13)
message_in kind.Start f = msg.Start (number_32 f 5) (number_32 f 9) (number_64 f 13) (number_32 f 21) (number_32 f 25) (all_numbers (drop 30 f))
message_in kind.Blocks f = msg.Blocks (number_32 f 5) (all_pairs (drop 9 f))
message_in kind.Page f = msg.Page (number_32 f 5) (number_32 f 9) (drop 13 f)
message_in kind.Zero f = msg.Zero (number_32 f 5) (number_32 f 9)
message_in kind.Bye f = msg.Bye
message_in kind.Abandon f = msg.Abandon (number_32 f 5)
message_in kind.Want f = msg.Want (number_32 f 5) (number_32 f 9)
message_in kind.Output f = msg.Output (number_32 f 5) (drop 9 f)
message_in kind.Dirty f = msg.Dirty (number_32 f 5) (number_32 f 9) (drop 13 f)
message_in kind.Heap f = msg.Heap (number_32 f 5) (all_pairs (drop 9 f))
message_in kind.Finish f = msg.Finish (number_32 f 5) (at f 9) (number_64 f 10) (number_64 f 18) (number_32 f 26) (number_32 f 30) (number_64 f 34)
message_in kind.Declined f = msg.Declined (number_32 f 5)
