-- One byte written over and over, and a new block of zeros.
use Rattle.std.proofs.Common.{◌≡◌, ℕ, ◌+◌, ◌/◌, ◌%◌, ◌<◌, ◌≤◌, ◌==◌, Bool, true, false, if◌then◌else◌, List, [], ◌++◌, replicate, Option, Some, None, append-nil, refl, sym, ap, subst, ◌∙◌, arith}
use Rattle.std.proofs.lemmas.Bool.{cond-true, cond-false, eq-eqb, ne_eqb}
use Rattle.no_ir.specs.declared.ending.Trap.{Trap}
use Rattle.no_module.specs.declared.external.External.TheVariants as external
use Rattle.no_layout.specs.declared.memory.Regions.{Regions}
use Rattle.no_layout.specs.declared.memory.Access.TheVariants.{Done, Missing, Refused}
use Rattle.no_layout.specs.Memory.{Agrees, access, refusal, written}
use Rattle.no_layout.proofs.Agreeing.{writes_agree}
use Rattle.no_heap.specs.declared.block.Block.{Block}
use Rattle.no_semantics.specs.Spans.{Span, span_of, Touches, AreHeld, IsLowestAbsent}
use Rattle.no_semantics.specs.Externals.{World, Effect, Outcome, Gives, Does, Traps, bounded, cost_in, cost_of, still, do_set, put_bytes}
use Rattle.no_lib.specs.declared.env.Env.{Env}
use Rattle.no_lib.specs.declared.answer.LibAnswer.TheVariants as told
use Rattle.no_lib.specs.Answers.{Seen, seen, IsWorld, IsLeft, Answers, AreSame, Means}
use Rattle.no_lib.proofs.Told.{nothing_means, trap_means}
use Rattle.no_lib.proofs.Paged.{done_allowed, missing_allowed, refused_is, held_span, lowest_span, over_means, want_means, does_means}

no_more : (xs : List ℕ) → xs ≡ xs ++ []
no_more xs = sym (append-nil xs)

pub agree_after : (held held' : ℕ → Bool) (byte' put whole : ℕ → ℕ) → held' ≡ held → byte' ≡ put → Agrees held put whole → Agrees held' byte' whole
agree_after held held' byte' put whole pages is same = subst (λ (h : ℕ → Bool). Agrees h byte' whole) (sym pages) (subst (λ (b : ℕ → ℕ). Agrees held b whole) (sym is) same)

-- what a write that is allowed does
abbrev put_effect : List Span → ℕ → ℕ → List ℕ → World → Effect
put_effect reads at n bytes w = record { sought = []; reads = reads; writes = span_of at n; outcome = Does (cost_of n); output = []; world = record w { byte = written w.byte at bytes } }

some_set : (r : Regions) (to value n : ℕ) (w : World) → 0 < n → do_set r to value n w ≡ put_bytes (refusal r true to n) [] to n (replicate n (value % 256)) w
unfolding do_set
some_set r to value n w some = cond-false (n == 0) (still (Does 1) w) (put_bytes (refusal r true to n) [] to n (replicate n (value % 256)) w) (ne_eqb n 0 (λ e. omega arith))

set_is : (r : Regions) (to value n : ℕ) (w : World) → 0 < n → refusal r true to n ≡ None → do_set r to value n w ≡ put_effect [] to n (replicate n (value % 256)) w
set_is r to value n w some allowed = some_set r to value n w some ∙ ap (λ (t : Option Trap). put_bytes t [] to n (replicate n (value % 256)) w) allowed

pub set_none : (r : Regions) (to value n left : ℕ) (s : Seen) → 0 < left → n ≡ 0 → Means external.Set (λ w. bounded left (do_set r to value n w) w) (told.Nothing 1) s s
unfolding do_set
set_none r to value n left s some none =
    nothing_means external.Set (do_set r to value n) left s s some refl refl refl refl (λ more w here.
    subst (λ (e : Effect). (e.outcome ≡ Does 1) × (e.sought ≡ []) × (e.reads ≡ []) × (e.writes ≡ []) × IsWorld s more e.world × (s.env.output.items ≡ s.env.output.items ++ e.output))
    (sym (cond-true (n == 0) (still (Does 1) w) (put_bytes (refusal r true to n) [] to n (replicate n (value % 256)) w) (eq-eqb n 0 none))) (refl, refl, refl, refl, here, no_more s.env.output.items))

pub set_refused : (r : Regions) (held : ℕ → Bool) (to value n left : ℕ) (trap : Trap) (s : Seen) → 0 < left → 0 < n → access r held true to n ≡ Refused trap → Means external.Set (λ w. bounded left (do_set r to value n w) w) (told.Trapped trap) s s
set_refused r held to value n left trap s some length' no' =
    trap_means external.Set trap (do_set r to value n) left s some (λ more w here. some_set r to value n w length' ∙ ap (λ (t : Option Trap). put_bytes t [] to n (replicate n (value % 256)) w) (refused_is r held true to n trap no'))

pub set_over : (r : Regions) (to value n left : ℕ) (s : Seen) → 0 < n → refusal r true to n ≡ None → left < 1 + n / 64 → Means external.Set (λ w. bounded left (do_set r to value n w) w) told.Over s s
set_over r to value n left s some allowed dear = over_means external.Set (do_set r to value n) left s (λ more w here.
    subst (λ (e : Effect). (left < cost_in e.outcome) × AreHeld s.held e.sought) (sym (set_is r to value n w some allowed)) (dear, λ p t. absurd t))

pub set_missing_over : (r : Regions) (held : ℕ → Bool) (to value n left page : ℕ) (s : Seen) → 0 < n → access r held true to n ≡ Missing page → left < 1 + n / 64 → Means external.Set (λ w. bounded left (do_set r to value n w) w) told.Over s s
set_missing_over r held to value n left page s some missing dear = set_over r to value n left s some (missing_allowed r held true to n page missing) dear

pub set_done_over : (r : Regions) (held : ℕ → Bool) (to value n left : ℕ) (s : Seen) → 0 < n → access r held true to n ≡ Done → left < 1 + n / 64 → Means external.Set (λ w. bounded left (do_set r to value n w) w) told.Over s s
set_done_over r held to value n left s some done dear = set_over r to value n left s some (done_allowed r held true to n done) dear

pub set_wants : (r : Regions) (to value n left page : ℕ) (s : Seen) → 0 < n → access r s.held true to n ≡ Missing page → 1 + n / 64 ≤ left → Means external.Set (λ w. bounded left (do_set r to value n w) w) (told.WantPage page) s s
set_wants r to value n left page s some missing fits = want_means external.Set (do_set r to value n) left page s (λ more w here.
    subst (λ (e : Effect). (cost_in e.outcome ≤ left) × IsLowestAbsent s.held (e.sought ++ (e.reads ++ e.writes)) page) (sym (set_is r to value n w some (missing_allowed r s.held true to n page missing))) (fits, lowest_span r s.held true to n page some missing))

pub set_done : (r r' : Regions) (held held' own own' : ℕ → Bool) (byte byte' : ℕ → ℕ) (heap : List Block) (env : Env) (to value n left : ℕ) → r' ≡ r → held' ≡ held → 0 < n → access r held true to n ≡ Done → 1 + n / 64 ≤ left → byte' ≡ written byte to (replicate n (value % 256)) → ((p : ℕ) → own p ≡ true → own' p ≡ true)
    → Means external.Set (λ w. bounded left (do_set r to value n w) w) (told.Nothing (1 + n / 64)) (seen r held own byte heap env) (seen r' held' own' byte' heap env)
set_done r r' held held' own own' byte byte' heap env to value n left map pages some done fits put kept =
    does_means external.Set (do_set r to value n) left (1 + n / 64) (seen r held own byte heap env) (seen r' held' own' byte' heap env) fits map pages refl kept (λ more w here.
    subst (λ (e : Effect). (e.outcome ≡ Does (1 + n / 64)) × IsLeft e (seen r held own byte heap env) (seen r' held' own' byte' heap env) more) (sym (set_is r to value n w some (done_allowed r held true to n done))) (
      refl,
      record {
        pages = held_span r held true to n some done;
        world = record { bytes = agree_after held held' byte' (written byte to (replicate n (value % 256))) (written w.byte to (replicate n (value % 256))) pages put (writes_agree held byte w.byte to (replicate n (value % 256)) here.bytes); blocks = here.blocks; rest = here.rest };
        output = no_more env.output.items;
      },
    ))
