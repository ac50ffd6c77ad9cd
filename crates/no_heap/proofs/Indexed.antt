-- The index over gaps: what a run's number says of its blocks, and what a search passes by.
use Rattle.std.proofs.Common.{◌≡◌, ℕ, zero, suc, ◌+◌, ◌-◌, ◌*◌, ◌/◌, ◌%◌, ◌<◌, ◌≤◌, ◌==◌, min, max, None, Some, List, [], ◌∷◌, length, set, get_or, replicate, inl, inr, refl, sym, ap, subst, ◌∙◌, arith, get_or-set_same, get_or-set_other}
use Rattle.std.specs.List.{insert, remove}
use Rattle.std.proofs.lemmas.Bool.{cond-false, ne_eqb, cases_eq, cases_order, cases_lt}
use Rattle.std.proofs.lemmas.List.{length-set, length-replicate, get_or-replicate}
use Rattle.std.proofs.lemmas.List.Edits.{length-insert, length-remove, get_or-insert_below, get_or-insert_at, get_or-insert_above, get_or-remove_below, get_or-remove_above}
use Rattle.no_heap.specs.declared.block.Block.{Block}
use Rattle.no_heap.specs.declared.block.TheConstants.{HEAP_START, HEAP_END, MOST_BLOCKS, RUN, RUNS}
use Rattle.no_heap.specs.Blocks.{IsFormed, IsRising, AreLive, IsBlockAt, block_end, set_block}
use Rattle.no_heap.specs.Fit.{IsGapAt, first_gap}
use Rattle.no_heap.specs.Index.{end_before, gap_before, AreWidest, AreRaised}
use Rattle.no_heap.specs.Search.{Along, HasCome, HasPassed, IsFirstGap, run_end}
use Rattle.no_heap.proofs.Ordered.{nth}
use Rattle.no_heap.proofs.Placing.{along_none, along_more, along_here, along_end, along_full, live_put}

-- ---- blocks and their ends

pub few : (bs : List Block) → AreLive bs → length bs ≤ MOST_BLOCKS
few bs live = live.few

formed_from : (low : ℕ) (bs : List Block) (i : ℕ) → IsRising low bs → i < length bs → IsFormed (nth bs i)
formed_from low [] i r h = absurd (omega arith)
formed_from low (b ∷ bs) zero r h = r.0
formed_from low (b ∷ bs) (suc i) r h = formed_from (block_end b) bs i r.2 (omega arith)

pub formed_at : (bs : List Block) (i : ℕ) → AreLive bs → i < length bs → IsFormed (nth bs i)
formed_at bs i live h = formed_from HEAP_START bs i live.rising h

follows : (low : ℕ) (bs : List Block) (i : ℕ) → IsRising low bs → i + 1 < length bs → block_end (nth bs i) ≤ (nth bs (suc i)).at
follows low [] i r h = absurd (omega arith)
follows low (b ∷ []) zero r h = absurd (omega arith)
follows low (b ∷ c ∷ cs) zero r h = r.2.1
follows low (b ∷ bs) (suc i) r h = follows (block_end b) bs i r.2 (omega arith)

pub end_later : (bs : List Block) (i : ℕ) → (i ≡ 0 → ⊥) → end_before bs i ≡ block_end (nth bs (i - 1))
end_later bs i n = cond-false (i == 0) HEAP_START (block_end (nth bs (i - 1))) (ne_eqb i 0 n)

pub end_more : (bs : List Block) (i : ℕ) → end_before bs (i + 1) ≡ block_end (nth bs i)
end_more bs i = end_later bs (i + 1) (λ e. omega arith) ∙ ap (λ (k : ℕ). block_end (nth bs k)) (omega arith)

first_above : (low : ℕ) (bs : List Block) → IsRising low bs → 0 < length bs → low ≤ (nth bs 0).at
first_above low [] r h = absurd (omega arith)
first_above low (b ∷ bs) r h = r.1

pub in_order : (bs : List Block) (i : ℕ) → AreLive bs → i < length bs → end_before bs i ≤ (nth bs i).at
in_order bs zero live h = first_above HEAP_START bs live.rising h
in_order bs (suc i) live h = omega (arith, follows HEAP_START bs i live.rising (omega arith), end_later bs (suc i) (λ e. omega arith), ap (λ (k : ℕ). block_end (nth bs k)) (before i))
  where
    before : (k : ℕ) → suc k - 1 ≡ k
    before k = omega arith

-- ---- a search over the blocks of a run

pub found_here : (bs : List Block) (size at i : ℕ) → AreLive bs → 0 < size → i < length bs → HasCome bs size i → at ≡ end_before bs i → size ≤ (nth bs i).at - at → IsFirstGap bs size i at
found_here bs size at i live some within come is room = record {
  behind = is;
  gap =
      subst (λ (k : ℕ). IsGapAt bs size i k) (sym is) (along_here bs size (end_before bs i) i some live come within (omega (arith, room, is)));
}

come_more : (bs : List Block) (size i : ℕ) → AreLive bs → i < length bs → HasCome bs size i → gap_before bs i < size → HasCome bs size (i + 1)
come_more bs size i live within come short =
    subst (λ (k : ℕ). Along bs size k (i + 1)) (sym (end_more bs i)) (along_more bs size (end_before bs i) i come within (omega (arith, short, in_order bs i live within)))

-- the blocks of a run in front of an index have no room, and their gaps are no larger than this
pub record Passing (bs : List Block) (size from i widest : ℕ) : Type 0 where
  pub come : HasCome bs size i
  pub most : (j : ℕ) → from ≤ j → j < i → gap_before bs j ≤ widest

pub passing_none : (bs : List Block) (size from : ℕ) → HasCome bs size from → Passing bs size from from 0
passing_none bs size from come = record { come = come; most = λ j h k. absurd (omega arith) }

pub passing_more : (bs : List Block) (size from i widest at : ℕ) → AreLive bs → i < length bs → Passing bs size from i widest → at ≡ end_before bs i → (nth bs i).at - at < size → Passing bs size from (i + 1) (max widest ((nth bs i).at - at))
passing_more bs size from i widest at live within p is short = record {
  come = come_more bs size i live within p.come (omega (arith, short, is));
  most = λ j h k. elim (cases_lt j i) [
    | inl below ↦ omega (arith, p.most j h below)
    | inr not ↦ let same : j ≡ i = omega arith in omega (arith, ap (gap_before bs) same, is)
  ];
}

pub passing_all : (bs : List Block) (size from i widest : ℕ) → Passing bs size from i widest → i ≡ run_end bs from → HasPassed bs size from widest
passing_all bs size from i widest p end = record {
  come = subst (λ (k : ℕ). HasCome bs size k) end p.come;
  most = λ j h k. p.most j h (omega (arith, end));
}

-- ---- a run passed by its number

skipped : (n : ℕ) (bs : List Block) (size i : ℕ) → AreLive bs → i + n ≤ length bs → HasCome bs size i → ((j : ℕ) → i ≤ j → j < i + n → gap_before bs j < size) → HasCome bs size (i + n)
skipped zero bs size i live within come short = subst (λ (k : ℕ). HasCome bs size k) (omega arith) come
skipped (suc n) bs size i live within come short =
    subst (λ (k : ℕ). HasCome bs size k) (omega arith)
    (skipped n bs size (i + 1) live (omega arith) (come_more bs size i live (omega arith) come (short i (omega arith) (omega arith))) (λ j h k. short j (omega arith) (omega arith)))

in_run : (bs : List Block) (widest : List ℕ) (from j : ℕ) → AreWidest bs widest → from % RUN ≡ 0 → from ≤ j → j < from + RUN → j < length bs → gap_before bs j ≤ get_or widest (from / RUN) 0
in_run bs widest from j w even low high within = let same : j / RUN ≡ from / RUN = omega arith in omega (arith, w.most j within, ap (λ (k : ℕ). get_or widest k 0) same)

pub run_passed : (bs : List Block) (widest : List ℕ) (size from : ℕ) → AreLive bs → AreWidest bs widest → from % RUN ≡ 0 → from < length bs → HasCome bs size from → get_or widest (from / RUN) 0 < size → HasCome bs size (run_end bs from)
run_passed bs widest size from live w even within come short =
    subst (λ (k : ℕ). HasCome bs size k) (omega arith)
    (skipped (run_end bs from - from) bs size from live (omega arith) come (λ j h k. omega (arith, in_run bs widest from j w even h (omega arith) (omega arith), short)))

-- ---- a search over all runs

pub come_none : (bs : List Block) (size : ℕ) → AreLive bs → HasCome bs size (min 0 (length bs))
come_none bs size live = subst (λ (k : ℕ). HasCome bs size k) (omega arith) (along_none bs size live)

pub come_start : (bs : List Block) (size from : ℕ) → from < length bs → HasCome bs size (min from (length bs)) → HasCome bs size from
come_start bs size from within come = subst (λ (k : ℕ). HasCome bs size k) (omega arith) come

pub come_all : (bs : List Block) (size from : ℕ) → length bs ≤ from → HasCome bs size (min from (length bs)) → HasCome bs size (length bs)
come_all bs size from end come = subst (λ (k : ℕ). HasCome bs size k) (omega arith) come

pub last_room : (bs : List Block) (size at : ℕ) → AreLive bs → 0 < size → HasCome bs size (length bs) → at ≡ end_before bs (length bs) → size ≤ HEAP_END - at → IsFirstGap bs size (length bs) at
last_room bs size at live some come is room = record {
  gap = subst (λ (k : ℕ). IsGapAt bs size (length bs) k) (sym is) (along_end bs size (end_before bs (length bs)) (length bs) some live come refl (omega (arith, come.most, is)));
  behind = is;
}

pub last_full : (bs : List Block) (size at : ℕ) → HasCome bs size (length bs) → at ≡ end_before bs (length bs) → HEAP_END - at < size → first_gap HEAP_START size bs ≡ None
last_full bs size at come is short = along_full bs size (end_before bs (length bs)) (length bs) come refl (omega (arith, come.most, is))

-- ---- numbers that change

set_here : (widest : List ℕ) (r k v : ℕ) → k ≡ r → r < length widest → get_or (set widest r v) k 0 ≡ v
set_here widest r k v same within = ap (λ (q : ℕ). get_or (set widest r v) q 0) same ∙ get_or-set_same widest r v 0 within

set_past : (widest : List ℕ) (r k v : ℕ) → (k ≡ r → ⊥) → get_or (set widest r v) k 0 ≡ get_or widest k 0
set_past widest r k v other = get_or-set_other widest r k v 0 other

pub tightened : (bs : List Block) (widest : List ℕ) (size from number : ℕ) → AreLive bs → AreWidest bs widest → from % RUN ≡ 0 → from < length bs → HasPassed bs size from number → AreWidest bs (set widest (from / RUN) number)
tightened bs widest size from number live w even within p = record {
  runs = length-set widest (from / RUN) number ∙ w.runs;
  most = λ i h. elim (cases_eq (i / RUN) (from / RUN)) [
    | inl same ↦ omega (arith, p.most i (omega (arith, same, even)) (omega (arith, same, even, h)), set_here widest (from / RUN) (i / RUN) number same (omega (arith, w.runs, live.few)))
    | inr other ↦ omega (arith, w.most i h, set_past widest (from / RUN) (i / RUN) number other)
  ];
}

-- numbers that hold for each gap
pub all_widest : (bs : List Block) (widest : List ℕ) → AreLive bs → length widest ≡ RUNS → ((k : ℕ) → k < RUNS → HEAP_END ≤ get_or widest k 0) → AreWidest bs widest
all_widest bs widest live runs high = record {
  runs = runs;
  most = λ i h. omega (arith, (formed_at bs i live h).below, high (i / RUN) (omega (arith, live.few)));
}

pub forgotten : (bs : List Block) (n : ℕ) → AreLive bs → n ≡ RUNS → AreWidest bs (replicate n HEAP_END)
forgotten bs n live is = all_widest bs (replicate n HEAP_END) live (length-replicate n HEAP_END ∙ is) (λ k h. omega (arith, get_or-replicate n k HEAP_END 0 (omega arith)))

-- the numbers of every so many blocks from `first` up to an index are raised
pub record Raising (bs : List Block) (old new : List ℕ) (first index : ℕ) : Type 0 where
  pub runs : length new ≡ length old
  pub later : (k : ℕ) → get_or old k 0 ≤ get_or new k 0
  pub above : first ≤ index
  pub even : (index - first) % RUN ≡ 0
  pub each : (m : ℕ) → first + RUN * m < index → m < RUN + RUN → first + RUN * m < length bs → gap_before bs (first + RUN * m) ≤ get_or new ((first + RUN * m) / RUN) 0

pub raised_none : (bs : List Block) (widest : List ℕ) (first : ℕ) → Raising bs widest widest first first
raised_none bs widest first = record { runs = refl; later = λ k. omega arith; above = omega arith; even = omega arith; each = λ m h s w. absurd (omega arith) }

rises : (widest : List ℕ) (r k g : ℕ) → r < length widest → get_or widest k 0 ≤ get_or (set widest r (max (get_or widest r 0) g)) k 0
rises widest r k g within = elim (cases_eq k r) [
  | inl same ↦ omega (arith, set_here widest r k (max (get_or widest r 0) g) same within, ap (λ (q : ℕ). get_or widest q 0) same)
  | inr other ↦ omega (arith, set_past widest r k (max (get_or widest r 0) g) other)
]

pub raised_more : (bs : List Block) (old new new' : List ℕ) (first index : ℕ) → AreLive bs → length old ≡ RUNS → index < length bs → Raising bs old new first index
    → new' ≡ set new (index / RUN) (max (get_or new (index / RUN) 0) (gap_before bs index)) → Raising bs old new' first (index + RUN)
raised_more bs old new new' first index live runs within r is =
    subst (λ (ns : List ℕ). Raising bs old ns first (index + RUN)) (sym is) (record {
      runs = length-set new (index / RUN) _ ∙ r.runs;
      later = λ k. omega (arith, r.later k, rises new (index / RUN) k (gap_before bs index) inside);
      above = omega (arith, r.above);
      even = omega (arith, r.even, r.above);
      each = λ m h s w. elim (cases_lt (first + RUN * m) index) [
        | inl below ↦ omega (arith, r.each m below s w, rises new (index / RUN) ((first + RUN * m) / RUN) (gap_before bs index) inside)
        | inr not ↦
            let same : first + RUN * m ≡ index = omega (arith, r.even, r.above) in
            omega (arith, ap (gap_before bs) same, set_here new (index / RUN) ((first + RUN * m) / RUN) (max (get_or new (index / RUN) 0) (gap_before bs index)) (ap (λ (q : ℕ). q / RUN) same) inside)
      ];
    })
  where
    inside : index / RUN < length new
    inside = omega (arith, r.runs, runs, live.few)

pub raised_all : (bs : List Block) (old new : List ℕ) (first index : ℕ) → AreLive bs → Raising bs old new first index → length bs ≤ index → AreRaised bs old new first
raised_all bs old new first index live r end = record {
  runs = r.runs;
  later = r.later;
  each = λ m h. r.each m (omega arith) (omega (arith, live.few)) h;
}

-- ---- a block more, and one less

-- the first block of the run behind that of an index, and the last one of that run
abbrev pub next_run : ℕ → ℕ
next_run i = (i / RUN + 1) * RUN

raised_at : (bs : List Block) (old new : List ℕ) (first j : ℕ) → AreRaised bs old new first → first ≤ j → (j - first) % RUN ≡ 0 → j < length bs → gap_before bs j ≤ get_or new (j / RUN) 0
raised_at bs old new first j r above even within =
    let same : first + RUN * ((j - first) / RUN) ≡ j = omega arith in
    omega (arith, r.each ((j - first) / RUN) (omega arith), ap (gap_before bs) same, ap (λ (q : ℕ). get_or new (q / RUN) 0) same)

none : Block
none = record { at = 0; size = 0 }

module _ (bs : List Block) (i : ℕ) (b : Block) (inside : i ≤ length bs) (here : b.at ≡ end_before bs i) where
  end_below : (j : ℕ) → j ≤ i → end_before (insert bs i b) j ≡ end_before bs j
  end_below j h = elim (cases_eq j 0) [
    | inl zero' ↦ ap (end_before (insert bs i b)) zero' ∙ sym (ap (end_before bs) zero')
    | inr other ↦ end_later (insert bs i b) j other ∙ ap block_end (get_or-insert_below bs i b (record { at = 0; size = 0 }) (j - 1) (omega arith) inside) ∙ sym (end_later bs j other)
  ]

  put_below : (j : ℕ) → j < i → gap_before (insert bs i b) j ≡ gap_before bs j
  put_below j h = omega (arith, ap (λ (c : Block). c.at) (get_or-insert_below bs i b (record { at = 0; size = 0 }) j h inside), end_below j (omega arith))

  put_at : gap_before (insert bs i b) i ≡ 0
  put_at = omega (arith, ap (λ (c : Block). c.at) (get_or-insert_at bs i b (record { at = 0; size = 0 }) inside), end_below i (omega arith), here)

  put_above : (j : ℕ) → i ≤ j → gap_before (insert bs i b) (j + 1) ≤ gap_before bs j
  put_above j h = elim (cases_eq j i) [
    | inl same ↦
        let moved = ap (λ (c : Block). c.at) (get_or-insert_above bs i b (record { at = 0; size = 0 }) j h inside) in
        let ends = end_more (insert bs i b) j ∙ ap (λ (k : ℕ). block_end (nth (insert bs i b) k)) same ∙ ap block_end (get_or-insert_at bs i b (record { at = 0; size = 0 }) inside) in
        omega (arith, moved, ends, here, ap (end_before bs) same)
    | inr other ↦
        let moved = ap (λ (c : Block). c.at) (get_or-insert_above bs i b (record { at = 0; size = 0 }) j h inside) in
        let before : j ≡ (j - 1) + 1 = omega arith in
        let ends = end_more (insert bs i b) j ∙ ap (λ (k : ℕ). block_end (nth (insert bs i b) k)) before ∙ ap block_end (get_or-insert_above bs i b (record { at = 0; size = 0 }) (j - 1) (omega arith) inside) in
        omega (arith, moved, ends, end_later bs j (λ e. omega arith))
  ]

  pub put_widest : (widest new : List ℕ) → AreWidest bs widest → AreRaised (insert bs i b) widest new (next_run i) → AreWidest (insert bs i b) new
  put_widest widest new w r = record {
    runs = r.runs ∙ w.runs;
    most = λ j h. elim (cases_order j i) [
      | inl same ↦ omega (arith, ap (gap_before (insert bs i b)) same, put_at)
      | inr (inl below) ↦ omega (arith, put_below j below, w.most j (omega arith), r.later (j / RUN))
      | inr (inr above) ↦ later j h above
    ];
  }
    where
      later : (j : ℕ) → j < length (insert bs i b) → i < j → gap_before (insert bs i b) j ≤ get_or new (j / RUN) 0
      later j h above = elim (cases_eq (j % RUN) 0) [
        | inl even ↦ raised_at (insert bs i b) widest new (next_run i) j r (omega arith) (omega arith) h
        | inr odd ↦
            let run : (j - 1) / RUN ≡ j / RUN = omega arith in
            omega (arith, ap (gap_before (insert bs i b)) (j_is j above), put_above (j - 1) (omega arith), w.most (j - 1) (omega (arith, length-insert bs i b inside)), ap (λ (q : ℕ). get_or widest q 0) run, r.later (j / RUN))
      ]
        where
          j_is : (j : ℕ) → i < j → j ≡ (j - 1) + 1
          j_is j above = omega arith

module _ (bs : List Block) (i : ℕ) (inside : i < length bs) where
  left_below : (j : ℕ) → j < i → gap_before (remove bs i) j ≡ gap_before bs j
  left_below j h = elim (cases_eq j 0) [
    | inl first ↦ omega (arith, ap (λ (c : Block). c.at) (get_or-remove_below bs i (record { at = 0; size = 0 }) j h inside), ap (end_before (remove bs i)) first, ap (end_before bs) first)
    | inr other ↦ omega (arith, ap (λ (c : Block). c.at) (get_or-remove_below bs i (record { at = 0; size = 0 }) j h inside), end_later (remove bs i) j other, ap block_end (get_or-remove_below bs i (record { at = 0; size = 0 }) (j - 1) (omega arith) inside), end_later bs j other)
  ]

  left_above : (j : ℕ) → i < j → gap_before (remove bs i) j ≡ gap_before bs (j + 1)
  left_above j h =
      let before : (j - 1) + 1 ≡ j = omega arith in
      omega (
        arith,
        ap (λ (c : Block). c.at) (get_or-remove_above bs i (record { at = 0; size = 0 }) j (omega arith) inside),
        end_later (remove bs i) j (λ e. omega arith),
        ap block_end (get_or-remove_above bs i (record { at = 0; size = 0 }) (j - 1) (omega arith) inside),
        ap (λ (k : ℕ). block_end (nth bs k)) before,
        end_more bs j,
      )

  pub left_widest : (widest middle new : List ℕ) → AreWidest bs widest → AreRaised (remove bs i) widest middle i → AreRaised (remove bs i) middle new (next_run i - 1) → AreWidest (remove bs i) new
  left_widest widest middle new w first second = record {
    runs = second.runs ∙ first.runs ∙ w.runs;
    most = λ j h. elim (cases_order j i) [
      | inl same ↦ omega (arith, raised_at (remove bs i) widest middle i j first (omega arith) (omega arith) h, second.later (j / RUN))
      | inr (inl below) ↦ omega (arith, left_below j below, w.most j (omega arith), first.later (j / RUN), second.later (j / RUN))
      | inr (inr above) ↦ later j h above
    ];
  }
    where
      later : (j : ℕ) → j < length (remove bs i) → i < j → gap_before (remove bs i) j ≤ get_or new (j / RUN) 0
      later j h above = elim (cases_eq (j % RUN) (RUN - 1)) [
        | inl last ↦ raised_at (remove bs i) middle new (next_run i - 1) j second (omega arith) (omega arith) h
        | inr other ↦
            let run : (j + 1) / RUN ≡ j / RUN = omega arith in
            omega (arith, left_above j above, w.most (j + 1) (omega (arith, length-remove bs i inside)), ap (λ (q : ℕ). get_or widest q 0) run, first.later (j / RUN), second.later (j / RUN))
      ]

-- ---- the same of what a call leaves

pub put_at_gap : {bs bs' bs'' lent : List Block} {i p size : ℕ} {widest new : List ℕ} → lent ≡ bs → bs'' ≡ bs' → IsFirstGap lent size i p → AreWidest lent widest → bs' ≡ insert bs i (record { at = p; size = size }) → AreRaised bs'' widest new ((i / RUN + 1) * RUN) → AreWidest bs' new
put_at_gap {bs} {bs'} {bs''} {lent} {i} {p} {size} {widest} {new} lend late gap w is r =
    let b : Block = record { at = p; size = size } in
    let gap' = subst (λ (xs : List Block). IsFirstGap xs size i p) lend gap in
    subst (λ (xs : List Block). AreWidest xs new) (sym is)
    (put_widest bs i b gap'.gap.within gap'.behind widest new (subst (λ (xs : List Block). AreWidest xs widest) lend w) (subst (λ (xs : List Block). AreRaised xs widest new ((i / RUN + 1) * RUN)) (late ∙ is) r))

pub left_of_block : {bs bs' lent lent' lent'' : List Block} {addr i : ℕ} {widest middle new : List ℕ} → lent ≡ bs → lent' ≡ bs' → lent'' ≡ bs' → IsBlockAt lent addr i → AreWidest bs widest → bs' ≡ remove bs i → AreRaised lent' widest middle i → AreRaised lent'' middle new ((i / RUN + 1) * RUN - 1) → AreWidest bs' new
left_of_block {bs} {bs'} {lent} {lent'} {lent''} {addr} {i} {widest} {middle} {new} lend late later at w is first second =
    subst (λ (xs : List Block). AreWidest xs new) (sym is)
    (left_widest bs i (omega (arith, at.within, ap length lend)) widest middle new w (subst (λ (xs : List Block). AreRaised xs widest middle i) (late ∙ is) first) (subst (λ (xs : List Block). AreRaised xs middle new ((i / RUN + 1) * RUN - 1)) (later ∙ is) second))

pub live_first : (bs : List Block) (size index p : ℕ) → AreLive bs → length bs < MOST_BLOCKS → 0 < size → size % 16 ≡ 0 → IsFirstGap bs size index p → AreLive (set_block bs p size)
live_first bs size index p live few some multiple g = live_put bs size index p live few some multiple g.gap

pub first_of_gap : (bs : List Block) (size index p : ℕ) → IsFirstGap bs size index p → Some p ≡ first_gap HEAP_START size bs
first_of_gap bs size index p g = sym g.gap.first
