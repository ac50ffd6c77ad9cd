-- What is wrong at a front is the fault of bytes that begin no frame.
use Rattle.std.proofs.Common.{◌≡◌, ℕ, ◌<◌, ◌≤◌, List, [], ◌∷◌, ◌++◌, length, drop, Some, None, refl, sym, ap, ◌∙◌, arith, subst}
use Rattle.std.proofs.lemmas.List.{append-nil, get_or_append_left}
use Rattle.std.proofs.lemmas.Nat.{from_be_bytes-to_be_bytes_4}
use Rattle.no_wire.specs.declared.kind.Kind.{Kind}
use Rattle.no_wire.specs.declared.fault.WireFault.{WireFault}
use Rattle.no_wire.specs.declared.fault.WireFault.TheVariants as fault
use Rattle.no_wire.specs.Kinds.{kind_at, kind_number}
use Rattle.no_wire.specs.Messages.{AreBytes, be32, kind_of}
use Rattle.no_wire.specs.Fronts.{IsWrong, KindGood, LengthGood, at, length_in}
use Rattle.no_wire.specs.Streams.{BeginsFrame, BeginsKind, BeginsLength, IsFault}
use Rattle.no_wire.proofs.Numbering.{at_number, number_at}
use Rattle.no_wire.proofs.Cells.{byte_then, word}
use Rattle.no_wire.proofs.Seeing.{covers_less, kind_covers, length_covers}
use Rattle.no_wire.proofs.Again.{kind_good}

-- a length that may stand at the front
said : (n : ℕ) (behind : List ℕ) → 5 ≤ n → n ≤ 65536 → LengthGood (be32 n ++ behind)
said n behind low high =
    let e : length_in (be32 n ++ behind) ≡ n = from_be_bytes-to_be_bytes_4 n (omega arith) in
    record { b0 = λ lt. omega arith; b1 = λ lt. omega arith; b2 = λ lt one. omega arith; b3 = λ lt. (omega (arith, e), omega (arith, e)) }

length_begun : (bytes : List ℕ) → BeginsLength bytes → LengthGood bytes
length_begun bytes b =
    let g : LengthGood (bytes ++ b.1) = subst LengthGood (sym b.5) (said b.0 b.2 b.3 b.4) in
    length_covers (bytes ++ b.1) bytes (covers_less bytes b.1) g

begins_length : (bytes : List ℕ) → AreBytes bytes → 3 < length bytes → LengthGood bytes → BeginsLength bytes
begins_length bytes fits long g =
    let n = g.b3 long in
    (length_in bytes, [], drop 4 bytes, n.0, n.1, append-nil bytes ∙ sym (word bytes 0 4 fits refl (omega arith)))

kind_begun : (bytes : List ℕ) → 4 < length bytes → (b : BeginsKind bytes) → kind_at (at bytes 4) ≡ Some b.1
kind_begun bytes long b =
    let e : at bytes 4 ≡ kind_number b.1 = sym (get_or_append_left bytes b.2 0 4 long) ∙ ap (λ (f : List ℕ). at f 4) b.6 in
    ap kind_at e ∙ at_number b.1

begins_kind : (bytes : List ℕ) (k : Kind) → AreBytes bytes → 4 < length bytes → LengthGood bytes → kind_at (at bytes 4) ≡ Some k → BeginsKind bytes
begins_kind bytes k fits long g known =
    let n = g.b3 (omega arith) in
    let number = number_at (at bytes 4) k known in
    let behind : kind_number k ∷ drop 5 bytes ≡ drop 4 bytes = ap (λ (x : ℕ). x ∷ drop 5 bytes) number ∙ byte_then bytes 4 5 refl long in
    (length_in bytes, k, [], drop 5 bytes, n.0, n.1, append-nil bytes ∙ sym (ap (λ (t : List ℕ). be32 (length_in bytes) ++ t) behind ∙ word bytes 0 4 fits refl (omega arith)))

frame_begun : (bytes : List ℕ) (k : Kind) → 4 < length bytes → kind_at (at bytes 4) ≡ Some k → BeginsFrame bytes → KindGood k bytes
frame_begun bytes k long known b =
    let g : KindGood (kind_of b.0) (bytes ++ b.1) = subst (KindGood (kind_of b.0)) (sym b.4) (kind_good b.0 b.2 b.3) in
    let h = kind_covers (kind_of b.0) (bytes ++ b.1) bytes (covers_less bytes b.1) long g in
    let both : Some (kind_of b.0) ≡ Some k = sym h.known ∙ known in
    let same : kind_of b.0 ≡ k = cc in
    subst (λ (j : Kind). KindGood j bytes) same h

pub wrong_is_fault : (f : WireFault) (bytes : List ℕ) → AreBytes bytes → IsWrong f bytes → IsFault f bytes
wrong_is_fault fault.Length bytes fits w = λ b. w (length_begun bytes b)
wrong_is_fault fault.Kind bytes fits w =
    (begins_length bytes fits (let l = w.1 in omega (arith, l)) w.0, λ b. let none : None ≡ Some b.1 = sym w.2 ∙ kind_begun bytes w.1 b in cc)
wrong_is_fault fault.Body bytes fits w =
    (begins_kind bytes w.0 fits w.2 w.1 w.3, λ b. w.4 (frame_begun bytes w.0 w.2 w.3 b))
