-- A frame begins as frames do, and the message in it is read again.
use Rattle.std.proofs.Common.{◌≡◌, ℕ, zero, suc, ◌+◌, ◌/◌, ◌^◌, ◌<◌, ◌≤◌, List, [], ◌∷◌, ◌++◌, length, take, refl, sym, ap, ◌∙◌, arith}
use Rattle.std.specs.List.{flat_map}
use Rattle.std.specs.Int.{w32, w64, from_be_bytes}
use Rattle.std.proofs.lemmas.List.{take_at, append_cancel_left}
use Rattle.std.proofs.lemmas.Nat.{from_be_bytes-to_be_bytes_4, from_be_bytes-to_be_bytes_8}
use Rattle.no_wire.specs.declared.kind.Kind.{Kind}
use Rattle.no_wire.specs.declared.kind.Kind.TheVariants as kind
use Rattle.no_wire.specs.declared.msg.Msg.{Msg}
use Rattle.no_wire.specs.declared.msg.Msg.TheVariants as msg
use Rattle.no_wire.specs.Kinds.{HasLength}
use Rattle.no_wire.specs.Messages.{AreNumbers, ArePairs, Fits, IsEnd, IsMessage, be32, be64, body_of, epoch_of, frame, framed, kind_of, pair_bytes}
use Rattle.no_wire.specs.Fronts.{FinishGood, KindGood, LengthGood, NoEpochGood, at, length_in, number_32, number_64}
use Rattle.no_wire.specs.Reading.{all_numbers, all_pairs, message_in, numbers_in, pairs_in}
use Rattle.no_wire.proofs.Numbering.{at_number, number_once}
use Rattle.no_wire.proofs.Lists.{length_numbers, length_pairs}

-- ---- numbers and pairs are read again

again_32 : (n : ℕ) → n < 2 ^ 32 → from_be_bytes w32 (be32 n) ≡ n
again_32 n lt = from_be_bytes-to_be_bytes_4 n lt

again_64 : (n : ℕ) → n < 2 ^ 64 → from_be_bytes w64 (be64 n) ≡ n
again_64 n lt = from_be_bytes-to_be_bytes_8 n lt

numbers_of : (ns : List ℕ) → AreNumbers ns → numbers_in (length ns) (flat_map be64 ns) ≡ ns
numbers_of [] h = refl
numbers_of (n ∷ more) h = ap (λ (x : ℕ). x ∷ numbers_in (length more) (flat_map be64 more)) (again_64 n h.0) ∙ ap (λ (xs : List ℕ). n ∷ xs) (numbers_of more h.1)

pairs_of : (ps : List (ℕ × ℕ)) → ArePairs ps → pairs_in (length ps) (flat_map pair_bytes ps) ≡ ps
pairs_of [] h = refl
pairs_of (p ∷ more) h =
    ap (λ (x : ℕ). (x, number_32 (pair_bytes p) 4) ∷ pairs_in (length more) (flat_map pair_bytes more)) (again_32 p.0 h.0)
    ∙ ap (λ (x : ℕ). (p.0, x) ∷ pairs_in (length more) (flat_map pair_bytes more)) (again_32 p.1 h.1)
    ∙ ap (λ (xs : List (ℕ × ℕ)). p ∷ xs) (pairs_of more h.2)

all_numbers_of : (ns : List ℕ) → AreNumbers ns → all_numbers (flat_map be64 ns) ≡ ns
all_numbers_of ns h =
    let c : length (flat_map be64 ns) / 8 ≡ length ns = omega (arith, length_numbers ns) in
    ap (λ (k : ℕ). numbers_in k (flat_map be64 ns)) c ∙ numbers_of ns h

all_pairs_of : (ps : List (ℕ × ℕ)) → ArePairs ps → all_pairs (flat_map pair_bytes ps) ≡ ps
all_pairs_of ps h =
    let c : length (flat_map pair_bytes ps) / 8 ≡ length ps = omega (arith, length_pairs ps) in
    ap (λ (k : ℕ). pairs_in k (flat_map pair_bytes ps)) c ∙ pairs_of ps h

pub read_again : (m : Msg) → IsMessage m → message_in (kind_of m) (frame m) ≡ m
read_again (msg.Load text) h = refl
read_again (msg.LoadEnd c g) h = ap (λ (x : ℕ). msg.LoadEnd x (number_32 (be32 g) 0)) (again_32 c h.0.0) ∙ ap (λ (x : ℕ). msg.LoadEnd c x) (again_32 g h.0.1)
read_again (msg.Start epoch function budget sp blocks args) h =
    let r = h.0 in
    ap (λ (x : ℕ). msg.Start x (number_32 (be32 function) 0) (number_64 (be64 budget) 0) (number_32 (be32 sp) 0) (number_32 (be32 blocks) 0) (all_numbers (flat_map be64 args))) (again_32 epoch r.0)
    ∙ ap (λ (x : ℕ). msg.Start epoch x (number_64 (be64 budget) 0) (number_32 (be32 sp) 0) (number_32 (be32 blocks) 0) (all_numbers (flat_map be64 args))) (again_32 function r.1)
    ∙ ap (λ (x : ℕ). msg.Start epoch function x (number_32 (be32 sp) 0) (number_32 (be32 blocks) 0) (all_numbers (flat_map be64 args))) (again_64 budget r.2)
    ∙ ap (λ (x : ℕ). msg.Start epoch function budget x (number_32 (be32 blocks) 0) (all_numbers (flat_map be64 args))) (again_32 sp r.3)
    ∙ ap (λ (x : ℕ). msg.Start epoch function budget sp x (all_numbers (flat_map be64 args))) (again_32 blocks r.4)
    ∙ ap (λ (x : List ℕ). msg.Start epoch function budget sp blocks x) (all_numbers_of args r.5)
read_again (msg.Blocks epoch pairs) h = ap (λ (x : ℕ). msg.Blocks x (all_pairs (flat_map pair_bytes pairs))) (again_32 epoch h.0.0) ∙ ap (λ (x : List (ℕ × ℕ)). msg.Blocks epoch x) (all_pairs_of pairs h.0.1)
read_again (msg.Page epoch page bytes) h = ap (λ (x : ℕ). msg.Page x (number_32 (be32 page) 0) bytes) (again_32 epoch h.0.0) ∙ ap (λ (x : ℕ). msg.Page epoch x bytes) (again_32 page h.0.1)
read_again (msg.Zero epoch page) h = ap (λ (x : ℕ). msg.Zero x (number_32 (be32 page) 0)) (again_32 epoch h.0.0) ∙ ap (λ (x : ℕ). msg.Zero epoch x) (again_32 page h.0.1)
read_again msg.Bye h = refl
read_again (msg.Abandon epoch) h = ap (λ (x : ℕ). msg.Abandon x) (again_32 epoch h.0)
read_again (msg.Want epoch page) h = ap (λ (x : ℕ). msg.Want x (number_32 (be32 page) 0)) (again_32 epoch h.0.0) ∙ ap (λ (x : ℕ). msg.Want epoch x) (again_32 page h.0.1)
read_again (msg.Output epoch bytes) h = ap (λ (x : ℕ). msg.Output x bytes) (again_32 epoch h.0.0)
read_again (msg.Dirty epoch page bytes) h = ap (λ (x : ℕ). msg.Dirty x (number_32 (be32 page) 0) bytes) (again_32 epoch h.0.0) ∙ ap (λ (x : ℕ). msg.Dirty epoch x bytes) (again_32 page h.0.1)
read_again (msg.Heap epoch pairs) h = ap (λ (x : ℕ). msg.Heap x (all_pairs (flat_map pair_bytes pairs))) (again_32 epoch h.0.0) ∙ ap (λ (x : List (ℕ × ℕ)). msg.Heap epoch x) (all_pairs_of pairs h.0.1)
read_again (msg.Finish epoch end value counted dirty entries output) h =
    let r = h.0 in
    ap (λ (x : ℕ). msg.Finish x end (number_64 (be64 value) 0) (number_64 (be64 counted) 0) (number_32 (be32 dirty) 0) (number_32 (be32 entries) 0) (number_64 (be64 output) 0)) (again_32 epoch r.0)
    ∙ ap (λ (x : ℕ). msg.Finish epoch end x (number_64 (be64 counted) 0) (number_32 (be32 dirty) 0) (number_32 (be32 entries) 0) (number_64 (be64 output) 0)) (again_64 value r.2)
    ∙ ap (λ (x : ℕ). msg.Finish epoch end value x (number_32 (be32 dirty) 0) (number_32 (be32 entries) 0) (number_64 (be64 output) 0)) (again_64 counted r.3)
    ∙ ap (λ (x : ℕ). msg.Finish epoch end value counted x (number_32 (be32 entries) 0) (number_64 (be64 output) 0)) (again_32 dirty r.4)
    ∙ ap (λ (x : ℕ). msg.Finish epoch end value counted dirty x (number_64 (be64 output) 0)) (again_32 entries r.5)
    ∙ ap (λ (x : ℕ). msg.Finish epoch end value counted dirty entries x) (again_64 output r.6)
read_again (msg.Declined epoch) h = ap (λ (x : ℕ). msg.Declined x) (again_32 epoch h.0)

-- ---- the front of a frame, whatever follows

-- its length
pub length_said : (k : Kind) (epoch : ℕ) (body y : List ℕ) → length body ≤ 65531 → length_in (framed k epoch body ++ y) ≡ 5 + length body
length_said k epoch body y le = again_32 (5 + length body) (omega arith)

pub length_good : (k : Kind) (epoch : ℕ) (body y : List ℕ) → length body ≤ 65531 → LengthGood (framed k epoch body ++ y)
length_good k epoch body y le =
    let n = length_said k epoch body y le in
    record {
      b0 = λ lt. omega arith;
      b1 = λ lt. omega arith;
      b2 = λ lt one. omega arith;
      b3 = λ lt. (omega (arith, n), omega (arith, n));
    }

pub framed_length : (k : Kind) (epoch : ℕ) (body : List ℕ) → length (framed k epoch body) ≡ 9 + length body
framed_length k epoch body = omega arith

-- the body of a message is no longer than a frame allows
pub body_room : (m : Msg) → Fits m → length (body_of m) ≤ 65531
body_room (msg.Load text) h = h.1
body_room (msg.LoadEnd c g) h = omega arith
body_room (msg.Start epoch function budget sp blocks args) h = omega (arith, length_numbers args, h.1)
body_room (msg.Blocks epoch pairs) h = omega (arith, length_pairs pairs, h.2)
body_room (msg.Page epoch page bytes) h = omega (arith, h.1)
body_room (msg.Zero epoch page) h = omega arith
body_room msg.Bye h = omega arith
body_room (msg.Abandon epoch) h = omega arith
body_room (msg.Want epoch page) h = omega arith
body_room (msg.Output epoch bytes) h = h.2
body_room (msg.Dirty epoch page bytes) h = omega (arith, h.1)
body_room (msg.Heap epoch pairs) h = omega (arith, length_pairs pairs, h.2)
body_room (msg.Finish epoch end value counted dirty entries output) h = omega arith
body_room (msg.Declined epoch) h = omega arith

some_epoch : (k : Kind) (epoch : ℕ) (body y : List ℕ) → epoch < 2 ^ 32 → 1 ≤ epoch → let f = framed k epoch body ++ y in 0 < at f 5 + at f 6 + at f 7 + at f 8
some_epoch k epoch body y lt some = let e = again_32 epoch lt in omega (arith, e)

no_epoch : (k : Kind) (body y : List ℕ) → NoEpochGood (framed k 0 body ++ y)
no_epoch k body y = record { b5 = λ lt. refl; b6 = λ lt. refl; b7 = λ lt. refl; b8 = λ lt. refl }

-- how long the body of a kind is
room_for : (m : Msg) → Fits m → HasLength (kind_of m) (5 + length (body_of m))
room_for (msg.Load text) h = omega (arith, h.0)
room_for (msg.LoadEnd c g) h = refl
room_for (msg.Start epoch function budget sp blocks args) h = let l = length_numbers args in (omega (arith, l), omega (arith, l, h.1), omega (arith, l))
room_for (msg.Blocks epoch pairs) h = let l = length_pairs pairs in (omega (arith, l, h.1), omega (arith, l, h.2), omega (arith, l))
room_for (msg.Page epoch page bytes) h = omega (arith, h.1)
room_for (msg.Zero epoch page) h = refl
room_for msg.Bye h = refl
room_for (msg.Abandon epoch) h = refl
room_for (msg.Want epoch page) h = refl
room_for (msg.Output epoch bytes) h = omega (arith, h.1)
room_for (msg.Dirty epoch page bytes) h = omega (arith, h.1)
room_for (msg.Heap epoch pairs) h = let l = length_pairs pairs in (omega (arith, l, h.1), omega (arith, l, h.2), omega (arith, l))
room_for (msg.Finish epoch end value counted dirty entries output) h = refl
room_for (msg.Declined epoch) h = refl

room_said : (m : Msg) (y : List ℕ) → Fits m → HasLength (kind_of m) (length_in (frame m ++ y))
room_said m y h = rw (length_said (kind_of m) (epoch_of m) (body_of m) y (body_room m h)) (room_for m h)

small_value : (end value : ℕ) → 1 ≤ end → IsEnd end value → value < 256
small_value zero value some h = absurd (omega arith)
small_value (suc zero) value some h = let v = h.1 refl in omega (arith, v)
small_value (suc (suc zero)) value some h = let v = h.2 refl in omega (arith, v.1)
small_value (suc (suc (suc zero))) value some h = let v = h.3 refl in omega (arith, v)
small_value (suc (suc (suc (suc n)))) value some h = absurd (omega (arith, h.0))

finish_good : (epoch end value counted dirty entries output : ℕ) (y : List ℕ) → value < 2 ^ 64 → end < 256 → IsEnd end value → FinishGood (frame (msg.Finish epoch end value counted dirty entries output) ++ y)
finish_good epoch end value counted dirty entries output y fits byte h =
    let small : 1 ≤ end → value < 256 = λ some. small_value end value some h in
    record {
      b9 = λ lt. h.0;
      b10 = λ lt some. let s = small some in omega (arith, s);
      b11 = λ lt some. let s = small some in omega (arith, s);
      b12 = λ lt some. let s = small some in omega (arith, s);
      b13 = λ lt some. let s = small some in omega (arith, s);
      b14 = λ lt some. let s = small some in omega (arith, s);
      b15 = λ lt some. let s = small some in omega (arith, s);
      b16 = λ lt some. let s = small some in omega (arith, s);
      two = λ lt is. let v = h.2 is in (omega (arith, v.0, v.1), omega (arith, v.0, v.1));
      three = λ lt is. let v = h.3 is in omega (arith, v);
    }

pub kind_good : (m : Msg) (y : List ℕ) → IsMessage m → KindGood (kind_of m) (frame m ++ y)
kind_good (msg.Load text) y h = record { known = at_number kind.Load; room = room_said (msg.Load text) y h.1; epoch = no_epoch kind.Load (body_of (msg.Load text)) y; body = tt }
kind_good (msg.LoadEnd c g) y h = record { known = at_number kind.LoadEnd; room = room_said (msg.LoadEnd c g) y h.1; epoch = no_epoch kind.LoadEnd (body_of (msg.LoadEnd c g)) y; body = tt }
kind_good (msg.Start epoch function budget sp blocks args) y h = record { known = at_number kind.Start; room = room_said (msg.Start epoch function budget sp blocks args) y h.1; epoch = λ lt. some_epoch kind.Start epoch (body_of (msg.Start epoch function budget sp blocks args)) y h.0.0 h.1.0; body = λ lt. omega (arith, length_said kind.Start epoch (body_of (msg.Start epoch function budget sp blocks args)) y (body_room (msg.Start epoch function budget sp blocks args) h.1), length_numbers args) }
kind_good (msg.Blocks epoch pairs) y h = record { known = at_number kind.Blocks; room = room_said (msg.Blocks epoch pairs) y h.1; epoch = λ lt. some_epoch kind.Blocks epoch (body_of (msg.Blocks epoch pairs)) y h.0.0 h.1.0; body = tt }
kind_good (msg.Page epoch page bytes) y h = record { known = at_number kind.Page; room = room_said (msg.Page epoch page bytes) y h.1; epoch = λ lt. some_epoch kind.Page epoch (body_of (msg.Page epoch page bytes)) y h.0.0 h.1.0; body = tt }
kind_good (msg.Zero epoch page) y h = record { known = at_number kind.Zero; room = room_said (msg.Zero epoch page) y h.1; epoch = λ lt. some_epoch kind.Zero epoch (body_of (msg.Zero epoch page)) y h.0.0 h.1; body = tt }
kind_good (msg.Bye) y h = record { known = at_number kind.Bye; room = room_said (msg.Bye) y h.1; epoch = no_epoch kind.Bye (body_of (msg.Bye)) y; body = tt }
kind_good (msg.Abandon epoch) y h = record { known = at_number kind.Abandon; room = room_said (msg.Abandon epoch) y h.1; epoch = λ lt. some_epoch kind.Abandon epoch (body_of (msg.Abandon epoch)) y h.0 h.1; body = tt }
kind_good (msg.Want epoch page) y h = record { known = at_number kind.Want; room = room_said (msg.Want epoch page) y h.1; epoch = λ lt. some_epoch kind.Want epoch (body_of (msg.Want epoch page)) y h.0.0 h.1; body = tt }
kind_good (msg.Output epoch bytes) y h = record { known = at_number kind.Output; room = room_said (msg.Output epoch bytes) y h.1; epoch = λ lt. some_epoch kind.Output epoch (body_of (msg.Output epoch bytes)) y h.0.0 h.1.0; body = tt }
kind_good (msg.Dirty epoch page bytes) y h = record { known = at_number kind.Dirty; room = room_said (msg.Dirty epoch page bytes) y h.1; epoch = λ lt. some_epoch kind.Dirty epoch (body_of (msg.Dirty epoch page bytes)) y h.0.0 h.1.0; body = tt }
kind_good (msg.Heap epoch pairs) y h = record { known = at_number kind.Heap; room = room_said (msg.Heap epoch pairs) y h.1; epoch = λ lt. some_epoch kind.Heap epoch (body_of (msg.Heap epoch pairs)) y h.0.0 h.1.0; body = tt }
kind_good (msg.Finish epoch end value counted dirty entries output) y h = record { known = at_number kind.Finish; room = room_said (msg.Finish epoch end value counted dirty entries output) y h.1; epoch = λ lt. some_epoch kind.Finish epoch (body_of (msg.Finish epoch end value counted dirty entries output)) y h.0.0 h.1.0; body = finish_good epoch end value counted dirty entries output y h.0.2 h.0.1 h.1.1 }
kind_good (msg.Declined epoch) y h = record { known = at_number kind.Declined; room = room_said (msg.Declined epoch) y h.1; epoch = λ lt. some_epoch kind.Declined epoch (body_of (msg.Declined epoch)) y h.0 h.1; body = tt }

-- ---- one spelling each, and none begins another

pub record Alike (a b : Msg) (x y : List ℕ) : Type 0 where
  pub message : a ≡ b
  pub behind : x ≡ y

pub one_frame : (a b : Msg) (x y : List ℕ) → IsMessage a → IsMessage b → frame a ++ x ≡ frame b ++ y → Alike a b x y
one_frame a b x y ha hb e =
    let la = length_said (kind_of a) (epoch_of a) (body_of a) x (body_room a ha.1) in
    let lb = length_said (kind_of b) (epoch_of b) (body_of b) y (body_room b hb.1) in
    let n : 5 + length (body_of a) ≡ 5 + length (body_of b) = sym la ∙ ap length_in e ∙ lb in
    let len : length (frame a) ≡ length (frame b) = omega (arith, n) in
    let same : frame a ≡ frame b = sym (take_at (frame a) x (length (frame b)) len) ∙ ap (take (length (frame b))) e ∙ take_at (frame b) y (length (frame b)) refl in
    let kinds : kind_of a ≡ kind_of b = number_once (kind_of a) (kind_of b) (ap (λ (f : List ℕ). at f 4) same) in
    record {
      message = sym (read_again a ha) ∙ ap (λ (k : Kind). message_in k (frame a)) kinds ∙ ap (message_in (kind_of b)) same ∙ read_again b hb;
      behind = append_cancel_left (frame b) x y (ap (λ (f : List ℕ). f ++ x) (sym same) ∙ e);
    }
