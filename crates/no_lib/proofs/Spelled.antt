-- The text that `puts` writes.
use Rattle.std.proofs.Common.{◌≡◌, ℕ, zero, suc, ◌+◌, ◌-◌, ◌*◌, ◌/◌, ◌<◌, ◌≤◌, ◌==◌, Bool, true, false, ◌&&◌, nat_lt, nat_le, if◌then◌else◌, List, [], ◌∷◌, ◌++◌, length, append-nil, ◌⊎◌, inl, inr, refl, sym, ap, subst, ◌∙◌, arith}
use Rattle.std.proofs.lemmas.Bool.{cond-true, cond-false, eq-eqb, ne_eqb, cases_lt, cases_Bool, le-leb, lt-leb, false≢true, lt-ltb, le-ltb}
use Rattle.no_ir.specs.declared.ending.Trap.TheVariants.{BadAddress}
use Rattle.no_module.specs.declared.external.External.TheVariants as external
use Rattle.no_layout.specs.declared.memory.Regions.{Regions}
use Rattle.no_layout.specs.declared.memory.Access.TheVariants.{Done, Missing}
use Rattle.no_layout.specs.Memory.{Agrees, access, page_of, read_bytes, within}
use Rattle.no_layout.proofs.Agreeing.{reads_agree}
use Rattle.no_semantics.specs.Spans.{Span, span_of, Touches, AreHeld, IsLowestAbsent}
use Rattle.no_semantics.specs.Externals.{World, Effect, Outcome, Gives, Traps, Over, bounded, cost_in, cost_of, seeking, do_puts, put_text, room_of, text_length, up_to}
use Rattle.no_lib.specs.declared.env.Env.{Env}
use Rattle.no_lib.specs.declared.answer.LibAnswer.{LibAnswer}
use Rattle.no_lib.specs.declared.answer.LibAnswer.TheVariants as told
use Rattle.no_lib.specs.Answers.{Seen, IsWorld, IsLeft, Answers, AreSame, Means, needed_by}
use Rattle.no_lib.specs.Text.{IsMissing, IsSpelled, IsWhole, Reading}
use Rattle.std.proofs.lemmas.List.{length-append}
use Rattle.no_lib.proofs.Copied.{read_more}
use Rattle.no_lib.proofs.Told.{afforded, too_dear}
use Rattle.no_lib.proofs.Paged.{held_span, lowest_span, over_means, gives_means}

-- ---- the room

pub up_in : (low high at other : ℕ) → low ≤ at → at < high → high - at ≡ up_to low high at other
up_in low high at other a b = sym (cond-true (nat_le low at && nat_le (at + 1) high) (high - at) other (both (nat_le low at) (nat_le (at + 1) high) (le-leb low at a) (le-leb (at + 1) high (omega arith))))
  where
    both : (x y : Bool) → x ≡ true → y ≡ true → (x && y) ≡ true
    both true y e f = f
    both false y e f = e

pub up_under : (low high at other : ℕ) → at < low → other ≡ up_to low high at other
up_under low high at other a = sym (cond-false (nat_le low at && nat_le (at + 1) high) (high - at) other (none (nat_le low at) (nat_le (at + 1) high) (lt-leb low at a)))
  where
    none : (x y : Bool) → x ≡ false → (x && y) ≡ false
    none true y e = absurd cc
    none false y e = refl

pub up_over : (low high at other : ℕ) → high ≤ at → other ≡ up_to low high at other
up_over low high at other a = sym (cond-false (nat_le low at && nat_le (at + 1) high) (high - at) other (none (nat_le low at) (nat_le (at + 1) high) (lt-leb (at + 1) high (omega arith))))
  where
    none : (x y : Bool) → y ≡ false → (x && y) ≡ false
    none true y e = e
    none false y e = refl

-- ---- bytes read so far

pub reading_none : (held : ℕ → Bool) (byte : ℕ → ℕ) (at : ℕ) → Reading held byte at 0
reading_none held byte at = record { there = λ k h. absurd (omega arith); some = λ k h. absurd (omega arith) }

pub reading_more : (r : Regions) (held : ℕ → Bool) (byte : ℕ → ℕ) (at n b : ℕ) → Reading held byte at n → access r held false (at + n) 1 ≡ Done → b ≡ byte (at + n) → (b ≡ 0 → ⊥) → Reading held byte at (n + 1)
reading_more r held byte at n b so_far done is other = record {
  there = λ k h. elim (cases_lt k n) [
    | inl below ↦ so_far.there k below
    | inr not ↦ (let same : k ≡ n = omega arith in ap (λ (q : ℕ). held (page_of (at + q))) same ∙ here)
  ];
  some = λ k h z. elim (cases_lt k n) [
    | inl below ↦ so_far.some k below z
    | inr not ↦ (let same : k ≡ n = omega arith in other (is ∙ ap (λ (q : ℕ). byte (at + q)) (sym same) ∙ z))
  ];
}
  where
    here : held (page_of (at + n)) ≡ true
    here = held_span r held false (at + n) 1 (omega arith) done (page_of (at + n)) (inl (omega arith, omega arith, omega arith))

text_from : (f : ℕ → ℕ) (at room n : ℕ) → n ≤ room → ((k : ℕ) → k < n → f (at + k) ≡ 0 → ⊥) → text_length f at room ≡ n + text_length f (at + n) (room - n)
text_from f at room zero h some = (let a : at ≡ at + 0 = omega arith in let b : room ≡ room - 0 = omega arith in let c : text_length f (at + 0) (room - 0) ≡ 0 + text_length f (at + 0) (room - 0) = omega arith in ap (λ (k : ℕ). text_length f k room) a ∙ ap (text_length f (at + 0)) b ∙ c)
text_from f at zero (suc n) h some = absurd (omega arith)
text_from f at (suc room) (suc n) h some =
    let a : at ≡ at + 0 = omega arith in
    let first : f at ≡ 0 → ⊥ = λ e. some 0 (omega arith) (sym (ap f a) ∙ e) in
    let rest = text_from f (at + 1) room n (omega arith) (λ k g e. some (k + 1) (omega arith) (ap f (omega arith) ∙ e)) in
    let b : at + 1 + n ≡ at + suc n = omega arith in
    let c : room - n ≡ suc room - suc n = omega arith in
    cond-false (f at == 0) 0 (suc (text_length f (at + 1) room)) (ne_eqb (f at) 0 first)
    ∙ ap suc (rest ∙ ap (λ (k : ℕ). n + text_length f k (room - n)) b ∙ ap (λ (k : ℕ). n + text_length f (at + suc n) k) c)
    ∙ omega arith

-- pages of bytes that are there
pages_there : (held : ℕ → Bool) (at n : ℕ) → ((k : ℕ) → k < n → held (page_of (at + k)) ≡ true) → (p : ℕ) → page_of at ≤ p → p ≤ page_of (at + n - 1) → 0 < n → held p ≡ true
pages_there held at n there p low high some = elim (cases_lt (page_of at) p) [
  | inl later ↦ (let same : page_of (at + (4096 * p - at)) ≡ p = omega arith in ap held (sym same) ∙ there (4096 * p - at) (omega arith))
  | inr here ↦ (let same : page_of (at + 0) ≡ p = omega arith in ap held (sym same) ∙ there 0 some)
]

pub all_there : (held : ℕ → Bool) (at n : ℕ) → ((k : ℕ) → k < n → held (page_of (at + k)) ≡ true) → AreHeld held (span_of at n)
all_there held at n there = by (cases_lt 0 n)
  where
    spans : 0 < n → (p : ℕ) → Touches (record { at = at; len = n } ∷ []) p → held p ≡ true
    spans some p (inl t) = pages_there held at n there p t.1 t.2 some
    spans some p (inr t) = absurd t

    by : (0 < n) ⊎ (n ≤ 0) → AreHeld held (span_of at n)
    by (inl some) = subst (AreHeld held) (sym (cond-false (n == 0) [] (record { at = at; len = n } ∷ []) (ne_eqb n 0 (λ e. omega arith)))) (spans some)
    by (inr none) = subst (AreHeld held) (sym (cond-true (n == 0) [] (record { at = at; len = n } ∷ []) (eq-eqb n 0 (omega arith)))) (λ p t. absurd t)

-- ---- answers

reading_world : (held : ℕ → Bool) (byte f : ℕ → ℕ) (at n : ℕ) → Agrees held byte f → Reading held byte at n → Reading held f at n
reading_world held byte f at n same r = record { there = r.there; some = λ k h z. r.some k h (same (at + k) (r.there k h) ∙ z) }

lowest_at : (held : ℕ → Bool) (at n m page : ℕ) → ((k : ℕ) → k < n → held (page_of (at + k)) ≡ true) → n < m → held page ≡ false → page ≡ page_of (at + n) → IsLowestAbsent held (span_of at m) page
lowest_at held at n m page there more absent is =
    subst (λ (spans : List Span). IsLowestAbsent held spans page) (sym (cond-false (m == 0) [] (record { at = at; len = m } ∷ []) (ne_eqb m 0 (λ e. omega arith)))) (record {
      touched = inl (omega arith, omega (arith, is), omega (arith, is));
      absent = absent;
      lowest = lower;
    })
  where
    lower : (q : ℕ) → Touches (record { at = at; len = m } ∷ []) q → held q ≡ false → page ≤ q
    lower q (inl t) gone = elim (cases_lt q page) [
      | inl under ↦ absurd (false≢true (sym gone ∙ pages_there held at n there q t.1 (omega (arith, is)) (omega (arith, is, t.1))))
      | inr not ↦ not
    ]
    lower q (inr t) gone = absurd t

abbrev spelled : ℕ → ℕ → World → Effect
spelled l at w = record { sought = span_of at (l + 1); reads = []; writes = []; outcome = Gives 0 (cost_of l); output = read_bytes w.byte at l ++ 10 ∷ []; world = w }

abbrev endless : ℕ → ℕ → World → Effect
endless room at w = seeking (span_of at room) (Traps BadAddress) w

-- what is needed of an effect that only seeks, whether or not it can be paid
needed_is : (left : ℕ) (e : Effect) (w : World) (sought : List Span) → e.sought ≡ sought → e.reads ≡ [] → e.writes ≡ [] → needed_by (bounded left e w) ≡ sought ++ []
needed_is left e w sought is reads writes = by (nat_lt left (cost_in e.outcome))
  where
    by : (b : Bool) → needed_by (if b then seeking e.sought Over w else e) ≡ sought ++ []
    by true = ap (λ (xs : List Span). xs ++ []) is
    by false = ap (λ (xs : List Span). xs ++ (e.reads ++ e.writes)) is ∙ ap (λ (xs : List Span). sought ++ (xs ++ e.writes)) reads ∙ ap (λ (xs : List Span). sought ++ xs) writes

pub missing_means : (r : Regions) (at n page left : ℕ) (s : Seen) → n < room_of r at → Reading s.held s.byte at n → s.held page ≡ false → page ≡ page_of (at + n) → Means external.Puts (λ w. bounded left (do_puts r at w) w) (told.WantPage page) s s
unfolding do_puts
missing_means r at n page left s within read absent is = record {
  map = refl;
  pages = refl;
  ended = refl;
  kept = λ p h. h;
  same = record { bytes = refl; blocks = refl; rest = refl; output = refl };
  told = λ more w last here. by w (cases_Bool (text_length w.byte at (room_of r at) == room_of r at)) (text_from w.byte at (room_of r at) n (omega arith) (reading_world s.held s.byte w.byte at n here.bytes read).some);
  enough = λ e. absurd cc;
  asks = λ e. absurd cc;
}
  where
    at_page : (w : World) (m : ℕ) (e : Effect) → n < m → e.sought ≡ span_of at m → e.reads ≡ [] → e.writes ≡ [] → IsLowestAbsent s.held (needed_by (bounded left e w)) page
    at_page w m e more sought reads writes = subst (λ (spans : List Span). IsLowestAbsent s.held spans page) (sym (needed_is left e w (span_of at m) sought reads writes ∙ append-nil (span_of at m))) (lowest_at s.held at n m page read.there more absent is)

    by : (w : World) → ((text_length w.byte at (room_of r at) == room_of r at) ≡ true) ⊎ ((text_length w.byte at (room_of r at) == room_of r at) ≡ false) → text_length w.byte at (room_of r at) ≡ n + text_length w.byte (at + n) (room_of r at - n)
        → IsLowestAbsent s.held (needed_by (bounded left (put_text (room_of r at) (text_length w.byte at (room_of r at)) at w) w)) page
    by w (inl all) len =
        let e = cond-true (text_length w.byte at (room_of r at) == room_of r at) (endless (room_of r at) at w) (spelled (text_length w.byte at (room_of r at)) at w) all in
        subst (λ (x : Effect). IsLowestAbsent s.held (needed_by (bounded left x w)) page) (sym e) (at_page w (room_of r at) (endless (room_of r at) at w) within refl refl refl)
    by w (inr some) len =
        let e = cond-false (text_length w.byte at (room_of r at) == room_of r at) (endless (room_of r at) at w) (spelled (text_length w.byte at (room_of r at)) at w) some in
        subst (λ (x : Effect). IsLowestAbsent s.held (needed_by (bounded left x w)) page) (sym e) (at_page w (text_length w.byte at (room_of r at) + 1) (spelled (text_length w.byte at (room_of r at)) at w) (omega (arith, len)) refl refl refl)

endless_is : (r : Regions) (at : ℕ) (held : ℕ → Bool) (byte : ℕ → ℕ) (w : World) → Agrees held byte w.byte → Reading held byte at (room_of r at) → do_puts r at w ≡ endless (room_of r at) at w
unfolding do_puts
endless_is r at held byte w same read =
    let room = room_of r at in
    let none : room - room ≡ 0 = omega arith in
    let len : text_length w.byte at room ≡ room = text_from w.byte at room room (omega arith) (reading_world held byte w.byte at room same read).some ∙ ap (λ (k : ℕ). room + text_length w.byte (at + room) k) none ∙ omega arith in
    cond-true (text_length w.byte at room == room) (endless room at w) (spelled (text_length w.byte at room) at w) (eq-eqb (text_length w.byte at room) room len)

pub endless_means : (r : Regions) (at left : ℕ) (s : Seen) → 0 < left → Reading s.held s.byte at (room_of r at) → Means external.Puts (λ w. bounded left (do_puts r at w) w) (told.Trapped BadAddress) s s
endless_means r at left s some read = record {
  map = refl;
  pages = refl;
  ended = refl;
  kept = λ p h. h;
  same = record { bytes = refl; blocks = refl; rest = refl; output = refl };
  told = λ more w last here.
      let e = ap (λ (x : Effect). bounded left x w) (endless_is r at s.held s.byte w here.bytes read) ∙ afforded left (endless (room_of r at) at w) w (omega arith) in
      subst (λ (x : Effect). Answers (told.Trapped BadAddress) x s s more) (sym e) (refl, all_there s.held at (room_of r at) read.there);
  enough = λ e. absurd cc;
  asks = λ e. absurd cc;
}

whole_is : (r : Regions) (at n : ℕ) (held : ℕ → Bool) (byte : ℕ → ℕ) (w : World) → Agrees held byte w.byte → n < room_of r at → Reading held byte at n → held (page_of (at + n)) ≡ true → byte (at + n) ≡ 0 → do_puts r at w ≡ spelled n at w
unfolding do_puts
whole_is r at n held byte w same within read there zero' =
    let room = room_of r at in
    let more : room - n ≡ suc (room - n - 1) = omega arith in
    let stop : text_length w.byte (at + n) (suc (room - n - 1)) ≡ 0 = cond-true (w.byte (at + n) == 0) 0 (suc (text_length w.byte (at + n + 1) (room - n - 1))) (eq-eqb (w.byte (at + n)) 0 (sym (same (at + n) there) ∙ zero')) in
    let len : text_length w.byte at room ≡ n = text_from w.byte at room n (omega arith) (reading_world held byte w.byte at n same read).some ∙ ap (λ (k : ℕ). n + text_length w.byte (at + n) k) more ∙ ap (λ (k : ℕ). n + k) stop ∙ omega arith in
    cond-false (text_length w.byte at room == room) (endless room at w) (spelled (text_length w.byte at room) at w) (ne_eqb (text_length w.byte at room) room (λ e. omega (arith, len, e))) ∙ ap (λ (k : ℕ). spelled k at w) len

one_more : (held : ℕ → Bool) (at n : ℕ) → ((k : ℕ) → k < n → held (page_of (at + k)) ≡ true) → held (page_of (at + n)) ≡ true → AreHeld held (span_of at (n + 1))
one_more held at n before here = all_there held at (n + 1) (λ k h. elim (cases_lt k n) [
  | inl below ↦ before k below
  | inr not ↦ (let same : k ≡ n = omega arith in ap (λ (q : ℕ). held (page_of (at + q))) same ∙ here)
])

pub whole_over : (r : Regions) (at n left : ℕ) (s : Seen) → n < room_of r at → Reading s.held s.byte at n → s.held (page_of (at + n)) ≡ true → s.byte (at + n) ≡ 0 → left < 1 + n / 64 → Means external.Puts (λ w. bounded left (do_puts r at w) w) told.Over s s
whole_over r at n left s within read there zero' dear = over_means external.Puts (do_puts r at) left s (λ more w here.
    subst (λ (x : Effect). (left < cost_in x.outcome) × AreHeld s.held x.sought) (sym (whole_is r at n s.held s.byte w here.bytes within read there zero')) (dear, one_more s.held at n read.there there))

pub whole_done : (r : Regions) (at n left : ℕ) (s : Seen) (env : Env) (text : List ℕ) → n < room_of r at → Reading s.held s.byte at n → s.held (page_of (at + n)) ≡ true → s.byte (at + n) ≡ 0 → 1 + n / 64 ≤ left → text ≡ read_bytes s.byte at n → env.input ≡ s.env.input → env.ended ≡ s.env.ended → env.output.items ≡ s.env.output.items ++ (text ++ 10 ∷ [])
    → Means external.Puts (λ w. bounded left (do_puts r at w) w) (told.Value 0 (1 + n / 64)) s (record s { env = env })
whole_done r at n left s env text within read there zero' fits is input ended output =
    gives_means external.Puts (do_puts r at) left 0 (1 + n / 64) s (record s { env = env }) fits refl refl ended (λ p h. h) (λ more w here.
    subst (λ (x : Effect). (x.outcome ≡ Gives 0 (1 + n / 64)) × IsLeft x s (record s { env = env }) more) (sym (whole_is r at n s.held s.byte w here.bytes within read there zero')) (
      refl,
      record {
        pages = subst (AreHeld s.held) (sym (append-nil (span_of at (n + 1)))) (one_more s.held at n read.there there);
        world = record { bytes = here.bytes; blocks = here.blocks; rest = here.rest ∙ sym (ap (λ (xs : List ℕ). xs ++ more) input) };
        output = output ∙ ap (λ (xs : List ℕ). s.env.output.items ++ (xs ++ 10 ∷ [])) (is ∙ reads_agree s.byte w.byte at n (λ a low high. here.bytes a (ap (λ (k : ℕ). s.held (page_of k)) (omega arith) ∙ read.there (a - at) (omega arith))));
      },
    ))

-- what writing the text made of it
pub spelled_means : (r : Regions) (at left : ℕ) (a : LibAnswer) (s : Seen) (env : Env) (text : List ℕ) → IsWhole s.held s.byte at (room_of r at) text → IsSpelled a text left s.env.output.items env.output.items → env.input ≡ s.env.input → env.ended ≡ s.env.ended → Means external.Puts (λ w. bounded left (do_puts r at w) w) a s (record s { env = env })
spelled_means r at left (told.Value v cost) s env text whole did input ended =
    let m = whole_done r at (length text) left s env text whole.within whole.read whole.there whole.last (omega (arith, did.1, did.2)) whole.same input ended did.3 in
    subst (λ (k : ℕ). Means external.Puts (λ w. bounded left (do_puts r at w) w) (told.Value v k) s (record s { env = env })) (sym did.1)
    (subst (λ (k : ℕ). Means external.Puts (λ w. bounded left (do_puts r at w) w) (told.Value k (1 + length text / 64)) s (record s { env = env })) (sym did.0) m)
spelled_means r at left told.Over s env text whole did input ended =
    let m = whole_over r at (length text) left s whole.within whole.read whole.there whole.last did.0 in
    record { map = refl; pages = refl; ended = ended; kept = λ p h. h; same = record { bytes = refl; blocks = refl; rest = input; output = did.1 }; told = m.told; enough = m.enough; asks = m.asks }
spelled_means r at left told.NoMemory s env text whole did input ended =
    record { map = refl; pages = refl; ended = ended; kept = λ p h. h; same = record { bytes = refl; blocks = refl; rest = input; output = did }; told = λ more w last here. tt; enough = λ e. tt; asks = λ e. absurd cc }
spelled_means r at left (told.Nothing cost) s env text whole did input ended = absurd did
spelled_means r at left (told.Exited status) s env text whole did input ended = absurd did
spelled_means r at left (told.Trapped trap) s env text whole did input ended = absurd did
spelled_means r at left told.Stuck s env text whole did input ended = absurd did
spelled_means r at left (told.WantPage page) s env text whole did input ended = absurd did
spelled_means r at left told.WantInput s env text whole did input ended = absurd did

-- one byte more is read
pub reading_pushed : (r : Regions) (held : ℕ → Bool) (byte : ℕ → ℕ) (at room here b : ℕ) (xs ys : List ℕ) → here ≡ at + length xs → length xs < room → Reading held byte at (length xs) → xs ≡ read_bytes byte at (length xs) → access r held false here 1 ≡ Done → b ≡ byte here → (b ≡ 0 → ⊥) → ys ≡ xs ++ b ∷ []
    → record { within : length ys ≤ room; read : Reading held byte at (length ys); same : ys ≡ read_bytes byte at (length ys) }
reading_pushed r held byte at room here b xs ys place within read same done is other pushed =
    let len : length ys ≡ length xs + 1 = ap length pushed ∙ length-append xs (b ∷ []) in
    let byte' : b ≡ byte (at + length xs) = is ∙ ap byte place in
    record {
      within = omega (arith, len);
      read = subst (λ (k : ℕ). Reading held byte at k) (sym len) (reading_more r held byte at (length xs) b read (subst (λ (k : ℕ). access r held false k 1 ≡ Done) place done) byte' other);
      same = pushed ∙ ap (λ (zs : List ℕ). zs ++ b ∷ []) same ∙ ap (λ (k : ℕ). read_bytes byte at (length xs) ++ k ∷ []) byte' ∙ sym (read_more byte at (length xs) 1) ∙ ap (read_bytes byte at) (sym len);
    }
