-- The front of a frame can grow to a whole one.
use Rattle.std.proofs.Common.{◌≡◌, ℕ, zero, suc, ◌+◌, ◌-◌, ◌*◌, ◌/◌, ◌<◌, ◌≤◌, ◌⊎◌, inl, inr, List, [], ◌∷◌, ◌++◌, length, get_or, refl, sym, ap, ◌∙◌, arith, length-append, append_assoc, subst}
use Rattle.std.proofs.lemmas.List.{get_or_append_left, get_or-append-add, get_or_past, append-nil}
use Rattle.std.proofs.lemmas.Bool.{cases_lt}
use Rattle.no_wire.specs.declared.kind.Kind.{Kind}
use Rattle.no_wire.specs.declared.kind.Kind.TheVariants as kind
use Rattle.no_wire.specs.Kinds.{kind_at}
use Rattle.no_wire.specs.Messages.{AreBytes}
use Rattle.no_wire.specs.Fronts.{BodyGood, EpochGood, FinishGood, Good, IsOpen, IsWhole, KindGood, LengthGood, NoEpochGood, SomeEpochGood, StartGood, at, length_in}
use Rattle.no_wire.specs.Streams.{IsPartial}
use Rattle.no_wire.specs.Reading.{message_in}
use Rattle.no_wire.proofs.Seeing.{covers_less, same_length}
use Rattle.no_wire.proofs.Whole.{whole_is_frame}

-- with a byte more, what stands at a place is what stood there, or the byte
Stands : List ℕ → ℕ → ℕ → Type 0
Stands xs b i = ((i < length xs) × (get_or (xs ++ b ∷ []) i 0 ≡ get_or xs i 0)) ⊎ ((i ≡ length xs) × (get_or (xs ++ b ∷ []) i 0 ≡ b))

old_at : (xs : List ℕ) (b i : ℕ) → i < length xs → get_or (xs ++ b ∷ []) i 0 ≡ get_or xs i 0
old_at xs b i lt = get_or_append_left xs (b ∷ []) 0 i lt

new_at : (xs : List ℕ) (b i : ℕ) → i ≡ length xs → get_or (xs ++ b ∷ []) i 0 ≡ b
new_at xs b i e = ap (λ (n : ℕ). get_or (xs ++ b ∷ []) n 0) (omega arith) ∙ get_or-append-add xs (b ∷ []) 0 0

stands : (xs : List ℕ) (b i : ℕ) → i < length (xs ++ b ∷ []) → Stands xs b i
unfolding Stands
stands xs b i lt =
    elim (cases_lt i (length xs)) as (λ c. Stands xs b i) [
      | inl below ↦ inl (below, old_at xs b i below)
      | inr le ↦ let e : i ≡ length xs = omega (arith, length-append xs (b ∷ []), lt, le) in inr (e, new_at xs b i e)
    ]

-- a fact that holds at a place before, or of the byte
either : (xs : List ℕ) (b i : ℕ) (P : ℕ → Type 0) → (i < length xs → P (get_or xs i 0)) → (i ≡ length xs → P b) → i < length (xs ++ b ∷ []) → P (get_or (xs ++ b ∷ []) i 0)
unfolding Stands
either xs b i P old new lt =
    elim (stands xs b i lt) [
      | inl s ↦ subst P (sym s.1) (old s.0)
      | inr s ↦ subst P (sym s.1) (new s.0)
    ]

grown_bytes : (xs : List ℕ) (b : ℕ) → AreBytes xs → b < 256 → AreBytes (xs ++ b ∷ [])
grown_bytes xs b fits byte i =
    elim (cases_lt i (length (xs ++ b ∷ []))) [
      | inl lt ↦ either xs b i (λ v. v < 256) (λ _. fits i) (λ _. byte) lt
      | inr le ↦ rw (get_or_past (xs ++ b ∷ []) i 0 le) (omega arith)
    ]

grown_length : (xs : List ℕ) (b : ℕ) → 3 < length xs → length_in (xs ++ b ∷ []) ≡ length_in xs
grown_length xs b long =
    let e0 = old_at xs b 0 (omega arith) in
    let e1 = old_at xs b 1 (omega arith) in
    let e2 = old_at xs b 2 (omega arith) in
    let e3 = old_at xs b 3 (omega arith) in
    omega (arith, e0, e1, e2, e3)

grown_counted : (xs : List ℕ) (b : ℕ) → 3 < length xs → LengthGood xs → LengthGood (xs ++ b ∷ [])
grown_counted xs b long g = record {
  b0 = λ lt. old_at xs b 0 (omega arith) ∙ g.b0 (omega arith);
  b1 = λ lt. let e = old_at xs b 1 (omega arith) in let h = g.b1 (omega arith) in omega (arith, e, h);
  b2 = λ lt one. old_at xs b 2 (omega arith) ∙ g.b2 (omega arith) (sym (old_at xs b 1 (omega arith)) ∙ one);
  b3 = λ lt. let e = grown_length xs b long in let h = g.b3 long in (omega (arith, e, h.0), omega (arith, e, h.1));
}

-- ---- what the next byte may be

no_epoch_grown : (xs : List ℕ) → NoEpochGood xs → NoEpochGood (xs ++ 0 ∷ [])
no_epoch_grown xs g = record {
  b5 = either xs 0 5 (λ v. v ≡ 0) g.b5 (λ _. refl);
  b6 = either xs 0 6 (λ v. v ≡ 0) g.b6 (λ _. refl);
  b7 = either xs 0 7 (λ v. v ≡ 0) g.b7 (λ _. refl);
  b8 = either xs 0 8 (λ v. v ≡ 0) g.b8 (λ _. refl);
}

some_epoch_grown : (xs : List ℕ) (b : ℕ) → (length xs ≡ 8 → 1 ≤ b) → SomeEpochGood xs → SomeEpochGood (xs ++ b ∷ [])
some_epoch_grown xs b new g lt =
    let long : 8 ≤ length xs = omega (arith, lt, length-append xs (b ∷ [])) in
    let e5 = old_at xs b 5 (omega arith) in
    let e6 = old_at xs b 6 (omega arith) in
    let e7 = old_at xs b 7 (omega arith) in
    elim (cases_lt 8 (length xs)) [
      | inl longer ↦ let e8 = old_at xs b 8 longer in let h = g longer in omega (arith, e5, e6, e7, e8, h)
      | inr le ↦ let e8 = new_at xs b 8 (omega arith) in let h = new (omega arith) in omega (arith, e8, h)
    ]

start_grown : (xs : List ℕ) (b : ℕ) → 4 < length xs → (length xs ≡ 29 → 26 + 8 * b ≡ length_in xs) → StartGood xs → StartGood (xs ++ b ∷ [])
start_grown xs b long new g lt =
    let n = grown_length xs b (omega arith) in
    either xs b 29 (λ v. 26 + 8 * v ≡ length_in (xs ++ b ∷ [])) (λ below. g below ∙ sym n) (λ e. new (sym e) ∙ sym n) lt

record FinishNext (xs : List ℕ) (b : ℕ) : Type 0 where
  n9 : length xs ≡ 9 → b ≤ 3
  zeros : 10 ≤ length xs → length xs ≤ 16 → b ≡ 0
  two : length xs ≡ 17 → at xs 9 ≡ 2 → (1 ≤ b) × (b ≤ 9)
  three : length xs ≡ 17 → at xs 9 ≡ 3 → b ≡ 0

finish_grown : (xs : List ℕ) (b : ℕ) → FinishNext xs b → FinishGood xs → FinishGood (xs ++ b ∷ [])
finish_grown xs b new g =
    let l = length-append xs (b ∷ []) in
    record {
      b9 = either xs b 9 (λ v. v ≤ 3) g.b9 (λ e. new.n9 (sym e));
      b10 = λ lt some. either xs b 10 (λ v. v ≡ 0) (λ below. let e = old_at xs b 9 (omega arith) in g.b10 below (omega (arith, e, some))) (λ e. new.zeros (omega arith) (omega arith)) lt;
      b11 = λ lt some. either xs b 11 (λ v. v ≡ 0) (λ below. let e = old_at xs b 9 (omega arith) in g.b11 below (omega (arith, e, some))) (λ e. new.zeros (omega arith) (omega arith)) lt;
      b12 = λ lt some. either xs b 12 (λ v. v ≡ 0) (λ below. let e = old_at xs b 9 (omega arith) in g.b12 below (omega (arith, e, some))) (λ e. new.zeros (omega arith) (omega arith)) lt;
      b13 = λ lt some. either xs b 13 (λ v. v ≡ 0) (λ below. let e = old_at xs b 9 (omega arith) in g.b13 below (omega (arith, e, some))) (λ e. new.zeros (omega arith) (omega arith)) lt;
      b14 = λ lt some. either xs b 14 (λ v. v ≡ 0) (λ below. let e = old_at xs b 9 (omega arith) in g.b14 below (omega (arith, e, some))) (λ e. new.zeros (omega arith) (omega arith)) lt;
      b15 = λ lt some. either xs b 15 (λ v. v ≡ 0) (λ below. let e = old_at xs b 9 (omega arith) in g.b15 below (omega (arith, e, some))) (λ e. new.zeros (omega arith) (omega arith)) lt;
      b16 = λ lt some. either xs b 16 (λ v. v ≡ 0) (λ below. let e = old_at xs b 9 (omega arith) in g.b16 below (omega (arith, e, some))) (λ e. new.zeros (omega arith) (omega arith)) lt;
      two = λ lt is. either xs b 17 (λ v. (1 ≤ v) × (v ≤ 9)) (λ below. g.two below (sym (old_at xs b 9 (omega arith)) ∙ is)) (λ e. new.two (sym e) (sym (old_at xs b 9 (omega arith)) ∙ is)) lt;
      three = λ lt is. either xs b 17 (λ v. v ≡ 0) (λ below. g.three below (sym (old_at xs b 9 (omega arith)) ∙ is)) (λ e. new.three (sym e) (sym (old_at xs b 9 (omega arith)) ∙ is)) lt;
    }

-- ---- a next byte for each kind

record Next (k : Kind) (xs : List ℕ) : Type 0 where
  byte : ℕ
  fits : byte < 256
  epoch : EpochGood k (xs ++ byte ∷ [])
  body : BodyGood k (xs ++ byte ∷ [])

start_next : (xs : List ℕ) → 4 < length xs → KindGood kind.Start xs → Next kind.Start xs
start_next xs long g =
    elim (cases_lt (length xs) 29) [
      | inl less ↦ record { byte = 1; fits = omega arith; epoch = some_epoch_grown xs 1 (λ _. omega arith) g.epoch; body = start_grown xs 1 long (λ e. absurd (omega arith)) g.body }
      | inr le ↦
          elim (cases_lt 29 (length xs)) [
            | inl more ↦ record { byte = 1; fits = omega arith; epoch = some_epoch_grown xs 1 (λ _. omega arith) g.epoch; body = start_grown xs 1 long (λ e. absurd (omega arith)) g.body }
            | inr at_it ↦ record {
              byte = (length_in xs - 26) / 8;
              fits = let r = g.room in omega (arith, r.0, r.1);
              epoch = some_epoch_grown xs ((length_in xs - 26) / 8) (λ e. absurd (omega arith)) g.epoch;
              body = start_grown xs ((length_in xs - 26) / 8) long (λ e. let r = g.room in omega (arith, r.0, r.2)) g.body;
            }
          ]
    ]

finish_with : (xs : List ℕ) (b : ℕ) → b < 256 → (length xs ≡ 8 → 1 ≤ b) → FinishNext xs b → KindGood kind.Finish xs → Next kind.Finish xs
finish_with xs b byte some new g = record { byte = b; fits = byte; epoch = some_epoch_grown xs b some g.epoch; body = finish_grown xs b new g.body }

finish_next : (xs : List ℕ) → KindGood kind.Finish xs → Next kind.Finish xs
finish_next xs g =
    elim (cases_lt (length xs) 9) [
      | inl less ↦ finish_with xs 1 (omega arith) (λ _. omega arith) (record { n9 = λ e. absurd (omega arith); zeros = λ a b. absurd (omega arith); two = λ e. absurd (omega arith); three = λ e. absurd (omega arith) }) g
      | inr le ↦
          elim (cases_lt (length xs) 17) [
            | inl less ↦ finish_with xs 0 (omega arith) (λ e. absurd (omega arith)) (record { n9 = λ e. omega arith; zeros = λ a b. refl; two = λ e. absurd (omega arith); three = λ e i. refl }) g
            | inr far ↦
                elim (cases_lt 17 (length xs)) [
                  | inl more ↦ finish_with xs 0 (omega arith) (λ e. absurd (omega arith)) (record { n9 = λ e. omega arith; zeros = λ a b. refl; two = λ e. absurd (omega arith); three = λ e i. refl }) g
                  | inr at_it ↦
                      elim (cases_lt (at xs 9) 2) [
                        | inl small ↦ finish_with xs 0 (omega arith) (λ e. absurd (omega arith)) (record { n9 = λ e. omega arith; zeros = λ a b. refl; two = λ e i. absurd (omega (arith, i, small)); three = λ e i. refl }) g
                        | inr big ↦
                            elim (cases_lt 2 (at xs 9)) [
                              | inl three ↦ finish_with xs 0 (omega arith) (λ e. absurd (omega arith)) (record { n9 = λ e. omega arith; zeros = λ a b. refl; two = λ e i. absurd (omega (arith, i, three)); three = λ e i. refl }) g
                              | inr is ↦ finish_with xs 1 (omega arith) (λ e. absurd (omega arith)) (record { n9 = λ e. omega arith; zeros = λ a b. absurd (omega arith); two = λ e i. (omega arith, omega arith); three = λ e i. absurd (omega (arith, i, is, big)) }) g
                            ]
                      ]
                ]
          ]
    ]

next_of : (k : Kind) (xs : List ℕ) → 4 < length xs → KindGood k xs → Next k xs
next_of kind.Load xs long g = record { byte = 0; fits = omega arith; epoch = no_epoch_grown xs g.epoch; body = tt }
next_of kind.LoadEnd xs long g = record { byte = 0; fits = omega arith; epoch = no_epoch_grown xs g.epoch; body = tt }
next_of kind.Bye xs long g = record { byte = 0; fits = omega arith; epoch = no_epoch_grown xs g.epoch; body = tt }
next_of kind.Start xs long g = start_next xs long g
next_of kind.Finish xs long g = finish_next xs g
next_of kind.Blocks xs long g = record { byte = 1; fits = omega arith; epoch = some_epoch_grown xs 1 (λ _. omega arith) g.epoch; body = tt }
next_of kind.Page xs long g = record { byte = 1; fits = omega arith; epoch = some_epoch_grown xs 1 (λ _. omega arith) g.epoch; body = tt }
next_of kind.Zero xs long g = record { byte = 1; fits = omega arith; epoch = some_epoch_grown xs 1 (λ _. omega arith) g.epoch; body = tt }
next_of kind.Abandon xs long g = record { byte = 1; fits = omega arith; epoch = some_epoch_grown xs 1 (λ _. omega arith) g.epoch; body = tt }
next_of kind.Want xs long g = record { byte = 1; fits = omega arith; epoch = some_epoch_grown xs 1 (λ _. omega arith) g.epoch; body = tt }
next_of kind.Output xs long g = record { byte = 1; fits = omega arith; epoch = some_epoch_grown xs 1 (λ _. omega arith) g.epoch; body = tt }
next_of kind.Dirty xs long g = record { byte = 1; fits = omega arith; epoch = some_epoch_grown xs 1 (λ _. omega arith) g.epoch; body = tt }
next_of kind.Heap xs long g = record { byte = 1; fits = omega arith; epoch = some_epoch_grown xs 1 (λ _. omega arith) g.epoch; body = tt }
next_of kind.Declined xs long g = record { byte = 1; fits = omega arith; epoch = some_epoch_grown xs 1 (λ _. omega arith) g.epoch; body = tt }

-- ---- any front

record Grows (xs : List ℕ) : Type 0 where
  byte : ℕ
  fits : byte < 256
  good : Good (xs ++ byte ∷ [])

grows_later : (xs : List ℕ) → 4 < length xs → Good xs → Grows xs
grows_later xs long g =
    let k = g.rest long in
    let n = next_of k.0 xs long k.1 in
    let l = grown_length xs n.byte (omega arith) in
    record {
      byte = n.byte;
      fits = n.fits;
      good = record {
        counted = grown_counted xs n.byte (omega arith) g.counted;
        rest = λ lt. (k.0, record { known = rw (old_at xs n.byte 4 long) k.1.known; room = rw l k.1.room; epoch = n.epoch; body = n.body });
      };
    }

-- a kind for each length
kind_for : (xs : List ℕ) → length xs ≡ 4 → Good xs → Grows xs
kind_for xs len g =
    let n = g.counted.b3 (omega arith) in
    elim (cases_lt 5 (length_in xs)) [
      | inl more ↦ record {
        byte = 18;
        fits = omega arith;
        good = record {
          counted = grown_counted xs 18 (omega arith) g.counted;
          rest = λ lt. (kind.Output, record { known = ap kind_at (new_at xs 18 4 (sym len)); room = rw (grown_length xs 18 (omega arith)) (omega arith); epoch = λ far. absurd (omega (arith, far, length-append xs (18 ∷ []))); body = tt });
        };
      }
      | inr le ↦ record {
        byte = 8;
        fits = omega arith;
        good = record {
          counted = grown_counted xs 8 (omega arith) g.counted;
          rest = λ lt. (kind.Abandon, record { known = ap kind_at (new_at xs 8 4 (sym len)); room = rw (grown_length xs 8 (omega arith)) (omega (arith, n.0)); epoch = λ far. absurd (omega (arith, far, length-append xs (8 ∷ []))); body = tt });
        };
      }
    ]

zero_grown : (xs : List ℕ) → length xs < 3 → Good xs → Grows xs
zero_grown xs short g =
    let l = length-append xs (0 ∷ []) in
    record {
      byte = 0;
      fits = omega arith;
      good = record {
        counted = record {
          b0 = either xs 0 0 (λ v. v ≡ 0) g.counted.b0 (λ e. refl);
          b1 = either xs 0 1 (λ v. v ≤ 1) g.counted.b1 (λ e. omega arith);
          b2 = λ lt one. either xs 0 2 (λ v. v ≡ 0) (λ below. absurd (omega arith)) (λ e. refl) lt;
          b3 = λ lt. absurd (omega (arith, l, lt));
        };
        rest = λ lt. absurd (omega (arith, l, lt));
      };
    }

fourth_grown : (xs : List ℕ) (b : ℕ) → length xs ≡ 3 → b < 256 → AreBytes xs → Good xs → (at xs 1 ≡ 0 → b ≡ 255) → (at xs 1 ≡ 1 → b ≡ 0) → Grows xs
fourth_grown xs b len byte fits g low high =
    let l = length-append xs (b ∷ []) in
    let e0 = old_at xs b 0 (omega arith) in
    let e1 = old_at xs b 1 (omega arith) in
    let e2 = old_at xs b 2 (omega arith) in
    let e3 = new_at xs b 3 (omega arith) in
    let z0 = g.counted.b0 (omega arith) in
    let z1 = g.counted.b1 (omega arith) in
    let c = fits 2 in
    record {
      byte = b;
      fits = byte;
      good = record {
        counted = record {
          b0 = λ lt. e0 ∙ z0;
          b1 = λ lt. omega (arith, e1, z1);
          b2 = λ lt one. e2 ∙ g.counted.b2 (omega arith) (sym e1 ∙ one);
          b3 = λ lt.
              elim (cases_lt (at xs 1) 1) [
                | inl zero_one ↦ let d = low (omega (arith, zero_one)) in (omega (arith, e0, e1, e2, e3, z0, zero_one, d, c), omega (arith, e0, e1, e2, e3, z0, zero_one, d, c))
                | inr some ↦ let is : at xs 1 ≡ 1 = omega (arith, some, z1) in let d = high is in let z2 = g.counted.b2 (omega arith) is in (omega (arith, e0, e1, e2, e3, z0, is, d, z2), omega (arith, e0, e1, e2, e3, z0, is, d, z2))
              ];
        };
        rest = λ lt. absurd (omega (arith, l, lt));
      };
    }

grows : (xs : List ℕ) → AreBytes xs → Good xs → Grows xs
grows xs fits g =
    elim (cases_lt (length xs) 3) [
      | inl short ↦ zero_grown xs short g
      | inr le ↦
          elim (cases_lt (length xs) 4) [
            | inl three ↦
                elim (cases_lt (at xs 1) 1) [
                  | inl low ↦ fourth_grown xs 255 (omega arith) (omega arith) fits g (λ _. refl) (λ is. absurd (omega (arith, is, low)))
                  | inr high ↦ fourth_grown xs 0 (omega arith) (omega arith) fits g (λ is. absurd (omega (arith, is, high))) (λ _. refl)
                ]
            | inr four ↦
                elim (cases_lt 4 (length xs)) [
                  | inl long ↦ grows_later xs long g
                  | inr is ↦ kind_for xs (omega arith) g
                ]
          ]
    ]

-- ---- to the whole

record Grown (xs : List ℕ) (n : ℕ) : Type 0 where
  more : List ℕ
  fits : AreBytes (xs ++ more)
  good : Good (xs ++ more)
  len : length (xs ++ more) ≡ n

grow_by : (fuel : ℕ) (xs : List ℕ) (n : ℕ) → length xs + fuel ≡ n → AreBytes xs → Good xs → Grown xs n
grow_by zero xs n e fits g = record { more = []; fits = rw append-nil fits; good = rw append-nil g; len = rw append-nil (omega arith) }
grow_by (suc fuel) xs n e fits g =
    let b = grows xs fits g in
    let r = grow_by fuel (xs ++ b.byte ∷ []) n (omega (arith, length-append xs (b.byte ∷ []))) (grown_bytes xs b.byte fits b.fits) b.good in
    let same = append_assoc xs (b.byte ∷ []) r.more in
    record { more = b.byte ∷ r.more; fits = subst AreBytes same r.fits; good = subst Good same r.good; len = sym (ap length same) ∙ r.len }

whole_now : (xs w : List ℕ) (n : ℕ) → 5 ≤ n → length w ≡ n + 4 → n ≡ length_in w → AreBytes w → Good w → (k : Kind) × IsWhole k w
whole_now xs w n some len is fits g =
    let k = g.rest (omega arith) in
    (k.0, record { counted = g.counted; right = k.1; len = omega (arith, len, is) })

-- a front that is known to its kind
pub partial_later : (xs : List ℕ) → 4 < length xs → AreBytes xs → IsOpen xs → IsPartial xs
partial_later xs long fits o =
    let short = o.short (omega arith) in
    let n = o.good.counted.b3 (omega arith) in
    let r = grow_by (length_in xs + 4 - length xs) xs (length_in xs + 4) (omega arith) fits o.good in
    let same = same_length (xs ++ r.more) xs (covers_less xs r.more) (omega arith) in
    let w = whole_now xs (xs ++ r.more) (length_in xs) n.0 r.len (sym same) r.fits r.good in
    let s = whole_is_frame w.0 (xs ++ r.more) r.fits w.1 in
    (message_in w.0 (xs ++ r.more), r.more, s.message, omega (arith, r.len, length-append xs r.more, short), sym s.spelled)

pub open_is_partial : (xs : List ℕ) → AreBytes xs → IsOpen xs → IsPartial xs
open_is_partial xs fits o =
    elim (cases_lt 4 (length xs)) [
      | inl long ↦ partial_later xs long fits o
      | inr le ↦
          let r = grow_by (5 - length xs) xs 5 (omega arith) fits o.good in
          let n = r.good.counted.b3 (omega (arith, r.len)) in
          let later = partial_later (xs ++ r.more) (omega (arith, r.len)) r.fits (record { good = r.good; short = λ lt. omega (arith, r.len, n.0) }) in
          (later.0, r.more ++ later.1, later.2, omega (arith, length-append r.more later.1, later.3), sym (append_assoc xs r.more later.1) ∙ later.4)
    ]
