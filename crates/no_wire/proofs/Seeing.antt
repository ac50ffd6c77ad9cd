-- What looking at the front of bytes shows.
use Rattle.std.proofs.Common.{◌≡◌, ℕ, ◌+◌, ◌<◌, ◌≤◌, Bool, true, false, List, ◌++◌, length, get_or, take, Some, sym, ◌∙◌, arith, length-append}
use Rattle.std.proofs.lemmas.List.{get_or_append_left, get_or-take, length-take-le}
use Rattle.no_wire.specs.declared.kind.Kind.{Kind}
use Rattle.no_wire.specs.declared.kind.Kind.TheVariants as kind
use Rattle.no_wire.specs.Kinds.{HasLength, is_of_no_epoch, kind_at}
use Rattle.no_wire.specs.Fronts.{BodyGood, EpochGood, FinishGood, Good, IsOpen, KindGood, LengthGood, NoEpochGood, SomeEpochGood, StartGood, epoch_good_if, length_in}

-- what is asked of the front of the second is there in the first, and alike
abbrev pub Covers : List ℕ → List ℕ → Type 0
Covers xs ys = (i : ℕ) → i < 30 → i < length ys → (i < length xs) × (get_or xs i 0 ≡ get_or ys i 0)

pub covers_front : (n : ℕ) (xs : List ℕ) → n ≤ length xs → Covers xs (take n xs)
covers_front n xs le i in_front lt =
    let len = length-take-le n xs le in
    let below : i < n = omega (arith, lt, len) in
    (omega (arith, below, le), sym (get_or-take n xs i 0 below))

pub covers_less : (xs ys : List ℕ) → Covers (xs ++ ys) xs
covers_less xs ys i in_front lt = (omega (arith, lt, length-append xs ys), get_or_append_left xs ys 0 i lt)

pub covers_more : (xs ys : List ℕ) → 30 ≤ length xs → Covers xs (xs ++ ys)
covers_more xs ys long i in_front lt =
    let below : i < length xs = omega arith in
    (below, sym (get_or_append_left xs ys 0 i below))

-- the length that both say
pub same_length : (xs ys : List ℕ) → Covers xs ys → 3 < length ys → length_in xs ≡ length_in ys
same_length xs ys same lt =
    let e0 = (same 0 (omega arith) (omega arith)).1 in
    let e1 = (same 1 (omega arith) (omega arith)).1 in
    let e2 = (same 2 (omega arith) (omega arith)).1 in
    let e3 = (same 3 (omega arith) (omega arith)).1 in
    omega (arith, e0, e1, e2, e3)

pub length_covers : (xs ys : List ℕ) → Covers xs ys → LengthGood xs → LengthGood ys
length_covers xs ys same g = record {
  b0 = λ lt. let s = same 0 (omega arith) lt in sym s.1 ∙ g.b0 s.0;
  b1 = λ lt. let s = same 1 (omega arith) lt in let h = g.b1 s.0 in let e = s.1 in omega (arith, e, h);
  b2 = λ lt one. let s = same 2 (omega arith) lt in let t = same 1 (omega arith) (omega arith) in sym s.1 ∙ g.b2 s.0 (t.1 ∙ one);
  b3 = λ lt. let e = same_length xs ys same lt in let h = g.b3 (same 3 (omega arith) lt).0 in (omega (arith, e, h.0), omega (arith, e, h.1));
}

no_epoch_covers : (xs ys : List ℕ) → Covers xs ys → NoEpochGood xs → NoEpochGood ys
no_epoch_covers xs ys same g = record {
  b5 = λ lt. let s = same 5 (omega arith) lt in sym s.1 ∙ g.b5 s.0;
  b6 = λ lt. let s = same 6 (omega arith) lt in sym s.1 ∙ g.b6 s.0;
  b7 = λ lt. let s = same 7 (omega arith) lt in sym s.1 ∙ g.b7 s.0;
  b8 = λ lt. let s = same 8 (omega arith) lt in sym s.1 ∙ g.b8 s.0;
}

some_epoch_covers : (xs ys : List ℕ) → Covers xs ys → SomeEpochGood xs → SomeEpochGood ys
some_epoch_covers xs ys same g lt =
    let e5 = (same 5 (omega arith) (omega arith)).1 in
    let e6 = (same 6 (omega arith) (omega arith)).1 in
    let e7 = (same 7 (omega arith) (omega arith)).1 in
    let s = same 8 (omega arith) lt in
    let e8 = s.1 in
    let h = g s.0 in
    omega (arith, e5, e6, e7, e8, h)

epoch_covers : (b : Bool) (xs ys : List ℕ) → Covers xs ys → epoch_good_if b xs → epoch_good_if b ys
epoch_covers true xs ys same g = no_epoch_covers xs ys same g
epoch_covers false xs ys same g = some_epoch_covers xs ys same g

start_covers : (xs ys : List ℕ) → Covers xs ys → StartGood xs → StartGood ys
start_covers xs ys same g lt =
    let s = same 29 (omega arith) lt in
    let e = s.1 in
    let l = same_length xs ys same (omega arith) in
    let h = g s.0 in
    omega (arith, e, l, h)

finish_covers : (xs ys : List ℕ) → Covers xs ys → FinishGood xs → FinishGood ys
finish_covers xs ys same g = record {
  b9 = λ lt. let s = same 9 (omega arith) lt in let h = g.b9 s.0 in let e = s.1 in omega (arith, e, h);
  b10 = λ lt some. let s = same 10 (omega arith) lt in let t = same 9 (omega arith) (omega arith) in let e = t.1 in sym s.1 ∙ g.b10 s.0 (omega (arith, e, some));
  b11 = λ lt some. let s = same 11 (omega arith) lt in let t = same 9 (omega arith) (omega arith) in let e = t.1 in sym s.1 ∙ g.b11 s.0 (omega (arith, e, some));
  b12 = λ lt some. let s = same 12 (omega arith) lt in let t = same 9 (omega arith) (omega arith) in let e = t.1 in sym s.1 ∙ g.b12 s.0 (omega (arith, e, some));
  b13 = λ lt some. let s = same 13 (omega arith) lt in let t = same 9 (omega arith) (omega arith) in let e = t.1 in sym s.1 ∙ g.b13 s.0 (omega (arith, e, some));
  b14 = λ lt some. let s = same 14 (omega arith) lt in let t = same 9 (omega arith) (omega arith) in let e = t.1 in sym s.1 ∙ g.b14 s.0 (omega (arith, e, some));
  b15 = λ lt some. let s = same 15 (omega arith) lt in let t = same 9 (omega arith) (omega arith) in let e = t.1 in sym s.1 ∙ g.b15 s.0 (omega (arith, e, some));
  b16 = λ lt some. let s = same 16 (omega arith) lt in let t = same 9 (omega arith) (omega arith) in let e = t.1 in sym s.1 ∙ g.b16 s.0 (omega (arith, e, some));
  two = λ lt is. let s = same 17 (omega arith) lt in let t = same 9 (omega arith) (omega arith) in let h = g.two s.0 (t.1 ∙ is) in let e = s.1 in (omega (arith, e, h.0), omega (arith, e, h.1));
  three = λ lt is. let s = same 17 (omega arith) lt in let t = same 9 (omega arith) (omega arith) in sym s.1 ∙ g.three s.0 (t.1 ∙ is);
}

body_covers : (k : Kind) (xs ys : List ℕ) → Covers xs ys → BodyGood k xs → BodyGood k ys
body_covers kind.Start xs ys same g = start_covers xs ys same g
body_covers kind.Finish xs ys same g = finish_covers xs ys same g
body_covers _ xs ys same g = tt

pub kind_covers : (k : Kind) (xs ys : List ℕ) → Covers xs ys → 4 < length ys → KindGood k xs → KindGood k ys
kind_covers k xs ys same lt g =
    let s = same 4 (omega arith) lt in
    let l = same_length xs ys same (omega arith) in
    record {
      known = rw (← s.1) g.known;
      room = rw (← l) g.room;
      epoch = epoch_covers (is_of_no_epoch k) xs ys same g.epoch;
      body = body_covers k xs ys same g.body;
    }

pub good_covers : (xs ys : List ℕ) → Covers xs ys → Good xs → Good ys
good_covers xs ys same g = record {
  counted = length_covers xs ys same g.counted;
  rest = λ lt. let k = g.rest (same 4 (omega arith) lt).0 in (k.0, kind_covers k.0 xs ys same lt k.1);
}

-- a front of 30 bytes says all but the rest of the body
pub stays_open : (xs : List ℕ) (until : ℕ) → 30 ≤ length xs → until ≡ length_in xs + 4 → Good xs → (more : List ℕ) → length xs + length more < until → IsOpen (xs ++ more)
stays_open xs until long is g more lt =
    let same = covers_more xs more long in
    let longer : 30 ≤ length (xs ++ more) = omega (arith, length-append xs more) in
    let l = same_length xs (xs ++ more) same (omega arith) in
    record {
      good = good_covers xs (xs ++ more) same g;
      short = λ some. omega (arith, is, l, lt, length-append xs more);
    }

pub good_of : (k : Kind) (bytes : List ℕ) → LengthGood bytes → KindGood k bytes → Good bytes
good_of k bytes counted right = record { counted = counted; rest = λ lt. (k, right) }

-- what is right for a kind
pub right_of : (k : Kind) (bytes : List ℕ) → kind_at (get_or bytes 4 0) ≡ Some k → (HasLength k (length_in bytes) × EpochGood k bytes × BodyGood k bytes) → KindGood k bytes
right_of k bytes known h = record { known = known; room = h.0; epoch = h.1; body = h.2 }
