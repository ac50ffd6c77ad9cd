-- A whole frame is the spelling of the message in it.
use Rattle.std.proofs.Common.{◌≡◌, ℕ, ◌+◌, ◌-◌, ◌/◌, ◌%◌, ◌<◌, ◌≤◌, List, [], ◌∷◌, ◌++◌, length, drop, refl, sym, ap, ◌∙◌, arith, length-drop}
use Rattle.std.specs.List.{flat_map}
use Rattle.std.proofs.lemmas.List.{append-nil, drop_all}
use Rattle.no_wire.specs.declared.kind.Kind.{Kind}
use Rattle.no_wire.specs.declared.kind.Kind.TheVariants as kind
use Rattle.no_wire.specs.Kinds.{kind_number}
use Rattle.no_wire.specs.Messages.{AreBytes, IsEnd, Spells, be32, be64, body_of, framed, pair_bytes, start_body, finish_body}
use Rattle.no_wire.specs.Fronts.{IsWhole, NoEpochGood, at, length_in, number_32, number_64}
use Rattle.no_wire.specs.Reading.{all_numbers, all_pairs, message_in}
use Rattle.no_wire.proofs.Numbering.{number_at}
use Rattle.no_wire.proofs.Cells.{below_32, below_64, byte_then, bytes_dropped, long_word, numbers_count, numbers_fit, numbers_spelled, pairs_count, pairs_fit, pairs_spelled, word}

-- a frame from its parts
assembled : (k : Kind) (epoch : ℕ) (body f : List ℕ) → AreBytes f → IsWhole k f → 9 ≤ length f → be32 epoch ++ drop 9 f ≡ drop 5 f → body ≡ drop 9 f → framed k epoch body ≡ f
assembled k epoch body f fits w long e b =
    let len : 5 + length body ≡ length_in f = omega (arith, ap length b, length-drop 9 f, w.len) in
    let first = word f 0 4 fits refl (omega arith) in
    let number : kind_number k ≡ at f 4 = number_at (at f 4) k w.right.known in
    let rest : be32 epoch ++ body ≡ drop 5 f = ap (λ (t : List ℕ). be32 epoch ++ t) b ∙ e in
    let behind : kind_number k ∷ (be32 epoch ++ body) ≡ drop 4 f = ap (λ (t : List ℕ). kind_number k ∷ t) rest ∙ ap (λ (n : ℕ). n ∷ drop 5 f) number ∙ byte_then f 4 5 refl (omega arith) in
    ap (λ (n : ℕ). be32 n ++ (kind_number k ∷ (be32 epoch ++ body))) len ∙ ap (λ (t : List ℕ). be32 (length_in f) ++ t) behind ∙ first

-- four zeros
zeros : (f : List ℕ) → AreBytes f → 9 ≤ length f → NoEpochGood f → be32 0 ++ drop 9 f ≡ drop 5 f
zeros f fits long g =
    let n : number_32 f 5 ≡ 0 = omega (arith, g.b5 (omega arith), g.b6 (omega arith), g.b7 (omega arith), g.b8 (omega arith)) in
    ap (λ (n : ℕ). be32 n ++ drop 9 f) (sym n) ∙ word f 5 9 fits refl long

-- the last number
last_word : (f : List ℕ) (i j : ℕ) → AreBytes f → j ≡ i + 4 → length f ≡ j → be32 (number_32 f i) ≡ drop i f
last_word f i j fits e len =
    sym (append-nil (be32 (number_32 f i))) ∙ ap (λ (t : List ℕ). be32 (number_32 f i) ++ t) (sym (drop_all j f (omega arith))) ∙ word f i j fits e (omega arith)

last_long : (f : List ℕ) (i j : ℕ) → AreBytes f → j ≡ i + 8 → length f ≡ j → be64 (number_64 f i) ≡ drop i f
last_long f i j fits e len =
    sym (append-nil (be64 (number_64 f i))) ∙ ap (λ (t : List ℕ). be64 (number_64 f i) ++ t) (sym (drop_all j f (omega arith))) ∙ long_word f i j fits e (omega arith)

no_body : (f : List ℕ) → length f ≡ 9 → [] ≡ drop 9 f
no_body f len = sym (drop_all 9 f (omega arith))

epoch_is : (f : List ℕ) → (8 < length f → 0 < at f 5 + at f 6 + at f 7 + at f 8) → 9 ≤ length f → 1 ≤ number_32 f 5
epoch_is f g long = let h = g (omega arith) in omega (arith, h)

pairs_body : (f : List ℕ) → AreBytes f → length f ≡ length_in f + 4 → (13 ≤ length_in f) × (length_in f ≤ 65533) × ((length_in f - 5) % 8 ≡ 0) → flat_map pair_bytes (all_pairs (drop 9 f)) ≡ drop 9 f
pairs_body f fits len room =
    pairs_spelled (length (drop 9 f) / 8) (drop 9 f) (bytes_dropped 9 f fits) (omega (arith, length-drop 9 f, len, room.0, room.2))

pairs_many : (f : List ℕ) → length f ≡ length_in f + 4 → (13 ≤ length_in f) × (length_in f ≤ 65533) × ((length_in f - 5) % 8 ≡ 0) → (1 ≤ length (all_pairs (drop 9 f))) × (length (all_pairs (drop 9 f)) ≤ 8191)
pairs_many f len room =
    let c = pairs_count (length (drop 9 f) / 8) (drop 9 f) in
    let l = length-drop 9 f in
    (omega (arith, c, l, len, room.0, room.2), omega (arith, c, l, len, room.0, room.1, room.2))

start_spelled : (f : List ℕ) → AreBytes f → IsWhole kind.Start f → (start_body (number_32 f 9) (number_64 f 13) (number_32 f 21) (number_32 f 25) (all_numbers (drop 30 f)) ≡ drop 9 f) × (length (all_numbers (drop 30 f)) ≤ 64)
start_spelled f fits w =
    let room = w.right.room in
    let l = length-drop 30 f in
    let c = numbers_count (length (drop 30 f) / 8) (drop 30 f) in
    let said = w.right.body (omega (arith, w.len, room.0)) in
    let args = numbers_spelled (length (drop 30 f) / 8) (drop 30 f) (bytes_dropped 30 f fits) (omega (arith, l, w.len, room.0, said)) in
    let count : length (all_numbers (drop 30 f)) ≡ at f 29 = omega (arith, c, l, w.len, room.0, said) in
    let e29 : length (all_numbers (drop 30 f)) ∷ flat_map be64 (all_numbers (drop 30 f)) ≡ drop 29 f =
    ap (λ (t : List ℕ). length (all_numbers (drop 30 f)) ∷ t) args ∙ ap (λ (n : ℕ). n ∷ drop 30 f) count ∙ byte_then f 29 30 refl (omega (arith, w.len, room.0)) in
    let e25 = ap (λ (t : List ℕ). be32 (number_32 f 25) ++ t) e29 ∙ word f 25 29 fits refl (omega (arith, w.len, room.0)) in
    let e21 = ap (λ (t : List ℕ). be32 (number_32 f 21) ++ t) e25 ∙ word f 21 25 fits refl (omega (arith, w.len, room.0)) in
    let e13 = ap (λ (t : List ℕ). be64 (number_64 f 13) ++ t) e21 ∙ long_word f 13 21 fits refl (omega (arith, w.len, room.0)) in
    (ap (λ (t : List ℕ). be32 (number_32 f 9) ++ t) e13 ∙ word f 9 13 fits refl (omega (arith, w.len, room.0)), omega (arith, c, l, w.len, room.1))

finish_spelled : (f : List ℕ) → AreBytes f → length f ≡ 42 → finish_body (at f 9) (number_64 f 10) (number_64 f 18) (number_32 f 26) (number_32 f 30) (number_64 f 34) ≡ drop 9 f
finish_spelled f fits len =
    let e34 = last_long f 34 42 fits refl len in
    let e30 = ap (λ (t : List ℕ). be32 (number_32 f 30) ++ t) e34 ∙ word f 30 34 fits refl (omega arith) in
    let e26 = ap (λ (t : List ℕ). be32 (number_32 f 26) ++ t) e30 ∙ word f 26 30 fits refl (omega arith) in
    let e18 = ap (λ (t : List ℕ). be64 (number_64 f 18) ++ t) e26 ∙ long_word f 18 26 fits refl (omega arith) in
    let e10 = ap (λ (t : List ℕ). be64 (number_64 f 10) ++ t) e18 ∙ long_word f 10 18 fits refl (omega arith) in
    ap (λ (t : List ℕ). at f 9 ∷ t) e10 ∙ byte_then f 9 10 refl (omega arith)

end_fits : (f : List ℕ) → IsWhole kind.Finish f → AreBytes f → IsEnd (at f 9) (number_64 f 10)
end_fits f w fits =
    let long : length f ≡ 42 = omega (arith, w.len, w.right.room) in
    let g = w.right.body in
    let high : 1 ≤ at f 9 → number_64 f 10 ≡ at f 17 = λ some.
    omega (arith, g.b10 (omega arith) some, g.b11 (omega arith) some, g.b12 (omega arith) some, g.b13 (omega arith) some, g.b14 (omega arith) some, g.b15 (omega arith) some, g.b16 (omega arith) some) in (
      g.b9 (omega arith),
      (λ is. let h = high (omega arith) in let b = fits 17 in omega (arith, h, b)),
      (λ is. let h = high (omega arith) in let b = g.two (omega arith) is in (omega (arith, h, b.0), omega (arith, h, b.1))),
      (λ is. let h = high (omega arith) in let b = g.three (omega arith) is in h ∙ b),
    )

-- ---- each kind

pub whole_is_frame : (k : Kind) (f : List ℕ) → AreBytes f → IsWhole k f → Spells f (message_in k f)
whole_is_frame kind.Load f fits w =
    let long : 9 ≤ length f = omega (arith, w.len, w.right.room) in
    record {
      spelled = assembled kind.Load 0 (body_of (message_in kind.Load f)) f fits w long (zeros f fits long w.right.epoch) (refl);
      message = (bytes_dropped 9 f fits, (omega (arith, w.len, w.right.room, length-drop 9 f), omega (arith, w.len, (w.counted.b3 (omega arith)).1, length-drop 9 f)));
    }
whole_is_frame kind.LoadEnd f fits w =
    let long : 9 ≤ length f = omega (arith, w.len, w.right.room) in
    record {
      spelled = assembled kind.LoadEnd 0 (body_of (message_in kind.LoadEnd f)) f fits w long (zeros f fits long w.right.epoch) (ap (λ (t : List ℕ). be32 (number_32 f 9) ++ t) (last_word f 13 17 fits refl (omega (arith, w.len, w.right.room))) ∙ word f 9 13 fits refl (omega (arith, w.len, w.right.room)));
      message = ((below_32 f 9 fits, below_32 f 13 fits), tt);
    }
whole_is_frame kind.Start f fits w =
    let long : 9 ≤ length f = omega (arith, w.len, w.right.room.0) in
    let epoch = epoch_is f w.right.epoch long in
    let s = start_spelled f fits w in
    record {
      spelled = assembled kind.Start (number_32 f 5) (body_of (message_in kind.Start f)) f fits w long (word f 5 9 fits refl long) (s.0);
      message = ((below_32 f 5 fits, below_32 f 9 fits, below_64 f 13 fits, below_32 f 21 fits, below_32 f 25 fits, numbers_fit (length (drop 30 f) / 8) (drop 30 f) (bytes_dropped 30 f fits)), (epoch, s.1));
    }
whole_is_frame kind.Blocks f fits w =
    let long : 9 ≤ length f = omega (arith, w.len, w.right.room.0) in
    let epoch = epoch_is f w.right.epoch long in
    let m = pairs_many f w.len w.right.room in
    record {
      spelled = assembled kind.Blocks (number_32 f 5) (body_of (message_in kind.Blocks f)) f fits w long (word f 5 9 fits refl long) (pairs_body f fits w.len w.right.room);
      message = ((below_32 f 5 fits, pairs_fit (length (drop 9 f) / 8) (drop 9 f) (bytes_dropped 9 f fits)), (epoch, m.0, m.1));
    }
whole_is_frame kind.Heap f fits w =
    let long : 9 ≤ length f = omega (arith, w.len, w.right.room.0) in
    let epoch = epoch_is f w.right.epoch long in
    let m = pairs_many f w.len w.right.room in
    record {
      spelled = assembled kind.Heap (number_32 f 5) (body_of (message_in kind.Heap f)) f fits w long (word f 5 9 fits refl long) (pairs_body f fits w.len w.right.room);
      message = ((below_32 f 5 fits, pairs_fit (length (drop 9 f) / 8) (drop 9 f) (bytes_dropped 9 f fits)), (epoch, m.0, m.1));
    }
whole_is_frame kind.Page f fits w =
    let long : 9 ≤ length f = omega (arith, w.len, w.right.room) in
    let epoch = epoch_is f w.right.epoch long in
    record {
      spelled = assembled kind.Page (number_32 f 5) (body_of (message_in kind.Page f)) f fits w long (word f 5 9 fits refl long) (word f 9 13 fits refl (omega (arith, w.len, w.right.room)));
      message = ((below_32 f 5 fits, below_32 f 9 fits, bytes_dropped 13 f fits), (epoch, omega (arith, w.len, w.right.room, length-drop 13 f)));
    }
whole_is_frame kind.Dirty f fits w =
    let long : 9 ≤ length f = omega (arith, w.len, w.right.room) in
    let epoch = epoch_is f w.right.epoch long in
    record {
      spelled = assembled kind.Dirty (number_32 f 5) (body_of (message_in kind.Dirty f)) f fits w long (word f 5 9 fits refl long) (word f 9 13 fits refl (omega (arith, w.len, w.right.room)));
      message = ((below_32 f 5 fits, below_32 f 9 fits, bytes_dropped 13 f fits), (epoch, omega (arith, w.len, w.right.room, length-drop 13 f)));
    }
whole_is_frame kind.Zero f fits w =
    let long : 9 ≤ length f = omega (arith, w.len, w.right.room) in
    let epoch = epoch_is f w.right.epoch long in
    record {
      spelled = assembled kind.Zero (number_32 f 5) (body_of (message_in kind.Zero f)) f fits w long (word f 5 9 fits refl long) (last_word f 9 13 fits refl (omega (arith, w.len, w.right.room)));
      message = ((below_32 f 5 fits, below_32 f 9 fits), epoch);
    }
whole_is_frame kind.Want f fits w =
    let long : 9 ≤ length f = omega (arith, w.len, w.right.room) in
    let epoch = epoch_is f w.right.epoch long in
    record {
      spelled = assembled kind.Want (number_32 f 5) (body_of (message_in kind.Want f)) f fits w long (word f 5 9 fits refl long) (last_word f 9 13 fits refl (omega (arith, w.len, w.right.room)));
      message = ((below_32 f 5 fits, below_32 f 9 fits), epoch);
    }
whole_is_frame kind.Bye f fits w =
    let long : 9 ≤ length f = omega (arith, w.len, w.right.room) in
    record {
      spelled = assembled kind.Bye 0 (body_of (message_in kind.Bye f)) f fits w long (zeros f fits long w.right.epoch) (no_body f (omega (arith, w.len, w.right.room)));
      message = (tt, tt);
    }
whole_is_frame kind.Abandon f fits w =
    let long : 9 ≤ length f = omega (arith, w.len, w.right.room) in
    let epoch = epoch_is f w.right.epoch long in
    record {
      spelled = assembled kind.Abandon (number_32 f 5) (body_of (message_in kind.Abandon f)) f fits w long (word f 5 9 fits refl long) (no_body f (omega (arith, w.len, w.right.room)));
      message = (below_32 f 5 fits, epoch);
    }
whole_is_frame kind.Declined f fits w =
    let long : 9 ≤ length f = omega (arith, w.len, w.right.room) in
    let epoch = epoch_is f w.right.epoch long in
    record {
      spelled = assembled kind.Declined (number_32 f 5) (body_of (message_in kind.Declined f)) f fits w long (word f 5 9 fits refl long) (no_body f (omega (arith, w.len, w.right.room)));
      message = (below_32 f 5 fits, epoch);
    }
whole_is_frame kind.Output f fits w =
    let long : 9 ≤ length f = omega (arith, w.len, w.right.room) in
    let epoch = epoch_is f w.right.epoch long in
    record {
      spelled = assembled kind.Output (number_32 f 5) (body_of (message_in kind.Output f)) f fits w long (word f 5 9 fits refl long) (refl);
      message = ((below_32 f 5 fits, bytes_dropped 9 f fits), (epoch, omega (arith, w.len, w.right.room, length-drop 9 f), omega (arith, w.len, (w.counted.b3 (omega arith)).1, length-drop 9 f)));
    }
whole_is_frame kind.Finish f fits w =
    let long : 9 ≤ length f = omega (arith, w.len, w.right.room) in
    let epoch = epoch_is f w.right.epoch long in
    record {
      spelled = assembled kind.Finish (number_32 f 5) (body_of (message_in kind.Finish f)) f fits w long (word f 5 9 fits refl long) (finish_spelled f fits (omega (arith, w.len, w.right.room)));
      message = ((below_32 f 5 fits, fits 9, below_64 f 10 fits, below_64 f 18 fits, below_32 f 26 fits, below_32 f 30 fits, below_64 f 34 fits), (epoch, end_fits f w fits));
    }
