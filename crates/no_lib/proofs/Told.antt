-- What answers say of effects: those that change nothing, and those of the heap and of input and output.
use Rattle.std.proofs.Common.{◌≡◌, ℕ, zero, suc, ◌+◌, ◌/◌, ◌%◌, ◌<◌, ◌≤◌, ◌==◌, Bool, true, false, nat_lt, if◌then◌else◌, List, [], ◌∷◌, ◌++◌, Option, Some, None, append-nil, Ok, Err, inl, inr, refl, sym, ap, subst, ◌∙◌, arith}
use Rattle.std.proofs.lemmas.Bool.{cond-true, cond-false, le-ltb, lt-ltb, eq-eqb, ne_eqb}
use Rattle.no_ir.specs.declared.ending.Trap.{Trap}
use Rattle.no_ir.specs.declared.ending.Trap.TheVariants.{Abort, BadFree}
use Rattle.no_module.specs.declared.external.External.{External}
use Rattle.no_module.specs.declared.external.External.TheVariants as external
use Rattle.no_layout.specs.declared.memory.Regions.{Regions}
use Rattle.no_heap.specs.declared.block.Block.{Block}
use Rattle.no_heap.specs.Blocks.{set_block, size_at, Frees}
use Rattle.no_heap.specs.Fit.{fit, rounded}
use Rattle.no_semantics.specs.Spans.{Span, AreHeld, Touches}
use Rattle.no_semantics.specs.Externals.{World, Effect, Outcome, Gives, Does, Exits, Traps, Over, Stuck, still, gives, bounded, cost_in, with_none, with_one, with_two, with_four, do_getchar, do_putchar, do_malloc, do_free, do_exit, do_abort, do_external, external_effect, next_of, rest_of, place_or_null, placed}
use Rattle.no_lib.specs.declared.env.Env.{Env}
use Rattle.no_lib.specs.declared.answer.LibAnswer.{LibAnswer}
use Rattle.no_lib.specs.declared.answer.LibAnswer.TheVariants as answer
use Rattle.no_lib.specs.Arguments.{AreNotNone, AreNotOne, AreNotTwo, AreNotFour}
use Rattle.no_lib.specs.Answers.{Seen, IsWorld, IsLeft, Answers, AreSame, IsSame, Means, TakesMemory}

-- ---- budgets

-- what costs no more than is left is done as it is
pub afforded : (left : ℕ) (e : Effect) (w : World) → cost_in e.outcome ≤ left → bounded left e w ≡ e
afforded left e w h = cond-false (nat_lt left (cost_in e.outcome)) _ e (le-ltb left (cost_in e.outcome) h)

pub too_dear : (left : ℕ) (e : Effect) (w : World) → left < cost_in e.outcome → bounded left e w ≡ record { sought = e.sought; reads = []; writes = []; outcome = Over; output = []; world = w }
too_dear left e w h = cond-true (nat_lt left (cost_in e.outcome)) _ e (lt-ltb left (cost_in e.outcome) h)

none_held : (held : ℕ → Bool) → AreHeld held []
none_held held p t = absurd t

same : (s : Seen) → AreSame s s
same s = record { bytes = refl; blocks = refl; rest = refl; output = refl }

-- ---- answers that change nothing

pub stuck_means : (which : External) (f : World → Effect) (left : ℕ) (s : Seen) → 0 < left → ((w : World) → f w ≡ still Stuck w) → Means which (λ w. bounded left (f w) w) answer.Stuck s s
stuck_means which f left s some is = record {
  map = refl;
  pages = refl;
  ended = refl;
  kept = λ p h. h;
  same = same s;
  told = λ more w last here. ap (λ (e : Effect). (bounded left e w).outcome) (is w) ∙ ap (λ (e : Effect). e.outcome) (afforded left (still Stuck w) w (omega arith));
  enough = λ e. absurd cc;
  asks = λ e. absurd cc;
}

pub exit_means : (which : External) (status : ℕ) (f : World → Effect) (left : ℕ) (s : Seen) → 0 < left → ((w : World) → f w ≡ still (Exits status) w) → Means which (λ w. bounded left (f w) w) (answer.Exited status) s s
exit_means which status f left s some is = record {
  map = refl;
  pages = refl;
  ended = refl;
  kept = λ p h. h;
  same = same s;
  told = λ more w last here. ap (λ (e : Effect). (bounded left e w).outcome) (is w) ∙ ap (λ (e : Effect). e.outcome) (afforded left (still (Exits status) w) w (omega arith));
  enough = λ e. absurd cc;
  asks = λ e. absurd cc;
}

-- a trap that nothing has to be read for
pub trap_means : (which : External) (trap : Trap) (f : World → Effect) (left : ℕ) (s : Seen) → 0 < left → ((more : List ℕ) (w : World) → IsWorld s more w → f w ≡ still (Traps trap) w) → Means which (λ w. bounded left (f w) w) (answer.Trapped trap) s s
trap_means which trap f left s some is = record {
  map = refl;
  pages = refl;
  ended = refl;
  kept = λ p h. h;
  same = same s;
  told = λ more w last here.
      let e : bounded left (f w) w ≡ still (Traps trap) w = ap (λ (e : Effect). bounded left e w) (is more w here) ∙ afforded left (still (Traps trap) w) w (omega arith) in
      subst (λ (e : Effect). Answers (answer.Trapped trap) e s s more) (sym e) (refl, none_held s.held);
  enough = λ e. absurd cc;
  asks = λ e. absurd cc;
}

-- ---- answers that are done at cost 1

-- the effect of a call that touches no memory and costs 1
pub value_means : (which : External) (v : ℕ) (f : World → Effect) (left : ℕ) (s t : Seen) → 0 < left → t.regions ≡ s.regions → t.held ≡ s.held → t.own ≡ s.own → t.env.ended ≡ s.env.ended
    → ((more : List ℕ) (w : World) → (s.env.ended ≡ true → more ≡ []) → IsWorld s more w → ((f w).outcome ≡ Gives v 1) × ((f w).sought ≡ []) × ((f w).reads ≡ []) × ((f w).writes ≡ []) × IsWorld t more (f w).world × (t.env.output.items ≡ s.env.output.items ++ (f w).output))
    → Means which (λ w. bounded left (f w) w) (answer.Value v 1) s t
value_means which v f left s t some map pages own ended is = record {
  map = map;
  pages = pages;
  ended = ended;
  kept = λ p h. ap (λ (g : ℕ → Bool). g p) own ∙ h;
  same = tt;
  told = λ more w last here.
      let d = is more w last here in
      let e : bounded left (f w) w ≡ f w = afforded left (f w) w (omega (arith, ap cost_in d.0)) in
      subst (λ (e : Effect). Answers (answer.Value v 1) e s t more) (sym e) (
        d.0,
        record {
          pages = λ p h. absurd (subst (λ (spans : List Span). Touches spans p) (ap (λ (spans : List Span). spans ++ ((f w).reads ++ (f w).writes)) d.1 ∙ ap (λ (spans : List Span). spans ++ (f w).writes) d.2 ∙ d.3) h);
          world = d.4;
          output = d.5;
        },
      );
  enough = λ e. absurd cc;
  asks = λ e. absurd cc;
}

pub nothing_means : (which : External) (f : World → Effect) (left : ℕ) (s t : Seen) → 0 < left → t.regions ≡ s.regions → t.held ≡ s.held → t.own ≡ s.own → t.env.ended ≡ s.env.ended
    → ((more : List ℕ) (w : World) → IsWorld s more w → ((f w).outcome ≡ Does 1) × ((f w).sought ≡ []) × ((f w).reads ≡ []) × ((f w).writes ≡ []) × IsWorld t more (f w).world × (t.env.output.items ≡ s.env.output.items ++ (f w).output))
    → Means which (λ w. bounded left (f w) w) (answer.Nothing 1) s t
nothing_means which f left s t some map pages own ended is = record {
  map = map;
  pages = pages;
  ended = ended;
  kept = λ p h. ap (λ (g : ℕ → Bool). g p) own ∙ h;
  same = tt;
  told = λ more w last here.
      let d = is more w here in
      let e : bounded left (f w) w ≡ f w = afforded left (f w) w (omega (arith, ap cost_in d.0)) in
      subst (λ (e : Effect). Answers (answer.Nothing 1) e s t more) (sym e) (
        d.0,
        record {
          pages = λ p h. absurd (subst (λ (spans : List Span). Touches spans p) (ap (λ (spans : List Span). spans ++ ((f w).reads ++ (f w).writes)) d.1 ∙ ap (λ (spans : List Span). spans ++ (f w).writes) d.2 ∙ d.3) h);
          world = d.4;
          output = d.5;
        },
      );
  enough = λ e. absurd cc;
  asks = λ e. absurd cc;
}

no_more : (xs : List ℕ) → xs ≡ xs ++ []
no_more xs = sym (append-nil xs)

-- a value that changes nothing
pub plain_means : (which : External) (v : ℕ) (f : World → Effect) (left : ℕ) (s : Seen) → 0 < left → ((w : World) → f w ≡ gives v w) → Means which (λ w. bounded left (f w) w) (answer.Value v 1) s s
plain_means which v f left s some is =
    value_means which v f left s s some refl refl refl refl (λ more w last here. subst (λ (e : Effect). (e.outcome ≡ Gives v 1) × (e.sought ≡ []) × (e.reads ≡ []) × (e.writes ≡ []) × IsWorld s more e.world × (s.env.output.items ≡ s.env.output.items ++ e.output))
    (sym (is w)) (refl, refl, refl, refl, here, no_more s.env.output.items))

-- ---- arguments

pub of_none : {which : External} {args : List ℕ} (f : World → Effect) (left : ℕ) {a : LibAnswer} {s t : Seen} → args ≡ [] → Means which (λ w. bounded left (f w) w) a s t → Means which (λ w. bounded left (with_none args f w) w) a s t
of_none {which} {args} f left {a} {s} {t} is m = subst (λ (xs : List ℕ). Means which (λ w. bounded left (with_none xs f w) w) a s t) (sym is) m

pub of_one : {which : External} {args : List ℕ} {x : ℕ} (f : ℕ → World → Effect) (left : ℕ) {a : LibAnswer} {s t : Seen} → args ≡ x ∷ [] → Means which (λ w. bounded left (f x w) w) a s t → Means which (λ w. bounded left (with_one args f w) w) a s t
of_one {which} {args} {x} f left {a} {s} {t} is m = subst (λ (xs : List ℕ). Means which (λ w. bounded left (with_one xs f w) w) a s t) (sym is) m

pub of_two : {which : External} {args : List ℕ} {x y : ℕ} (f : ℕ → ℕ → World → Effect) (left : ℕ) {a : LibAnswer} {s t : Seen} → args ≡ x ∷ y ∷ [] → Means which (λ w. bounded left (f x y w) w) a s t → Means which (λ w. bounded left (with_two args f w) w) a s t
of_two {which} {args} {x} {y} f left {a} {s} {t} is m = subst (λ (xs : List ℕ). Means which (λ w. bounded left (with_two xs f w) w) a s t) (sym is) m

pub of_four : {which : External} {args : List ℕ} {x y z last : ℕ} (f : ℕ → ℕ → ℕ → World → Effect) (left : ℕ) {a : LibAnswer} {s t : Seen} → args ≡ x ∷ y ∷ z ∷ last ∷ [] → Means which (λ w. bounded left (f x y z w) w) a s t → Means which (λ w. bounded left (with_four args f w) w) a s t
of_four {which} {args} {x} {y} {z} {last} f left {a} {s} {t} is m = subst (λ (xs : List ℕ). Means which (λ w. bounded left (with_four xs f w) w) a s t) (sym is) m

pub not_none_means : (which : External) (args : List ℕ) (f : World → Effect) (left : ℕ) (s : Seen) → 0 < left → AreNotNone args → Means which (λ w. bounded left (with_none args f w) w) answer.Stuck s s
not_none_means which args f left s some no' = stuck_means which (with_none args f) left s some (no' f)

pub not_one_means : (which : External) (args : List ℕ) (f : ℕ → World → Effect) (left : ℕ) (s : Seen) → 0 < left → AreNotOne args → Means which (λ w. bounded left (with_one args f w) w) answer.Stuck s s
not_one_means which args f left s some no' = stuck_means which (with_one args f) left s some (no' f)

pub not_two_means : (which : External) (args : List ℕ) (f : ℕ → ℕ → World → Effect) (left : ℕ) (s : Seen) → 0 < left → AreNotTwo args → Means which (λ w. bounded left (with_two args f w) w) answer.Stuck s s
not_two_means which args f left s some no' = stuck_means which (with_two args f) left s some (no' f)

pub not_four_means : (which : External) (args : List ℕ) (f : ℕ → ℕ → ℕ → World → Effect) (left : ℕ) (s : Seen) → 0 < left → AreNotFour args → Means which (λ w. bounded left (with_four args f w) w) answer.Stuck s s
not_four_means which args f left s some no' = stuck_means which (with_four args f) left s some (no' f)

-- ---- input and output

pub getchar_next : (left b : ℕ) (s : Seen) (env : Env) → 0 < left → s.env.input ≡ b ∷ env.input → env.ended ≡ s.env.ended → env.output.items ≡ s.env.output.items → Means external.GetChar (λ w. bounded left (do_getchar w) w) (answer.Value b 1) s (record s { env = env })
unfolding do_getchar
getchar_next left b s env some is ended output =
    value_means external.GetChar b do_getchar left s (record s { env = env }) some refl refl refl ended (λ more w last here.
    let left' : w.input ≡ b ∷ (env.input ++ more) = here.rest ∙ ap (λ (xs : List ℕ). xs ++ more) is in
    (ap (λ (xs : List ℕ). Gives (next_of xs) 1) left', refl, refl, refl, record { bytes = here.bytes; blocks = here.blocks; rest = ap rest_of left' }, output ∙ no_more s.env.output.items))

pub getchar_end : (left : ℕ) (s : Seen) (env : Env) → 0 < left → s.env.input ≡ [] → env.input ≡ [] → s.env.ended ≡ true → env.ended ≡ s.env.ended → env.output.items ≡ s.env.output.items → Means external.GetChar (λ w. bounded left (do_getchar w) w) (answer.Value 4294967295 1) s (record s { env = env })
unfolding do_getchar
getchar_end left s env some is still' over ended output =
    value_means external.GetChar 4294967295 do_getchar left s (record s { env = env }) some refl refl refl ended (λ more w last here.
    let none : w.input ≡ [] = here.rest ∙ ap (λ (xs : List ℕ). xs ++ more) is ∙ last over in
    (ap (λ (xs : List ℕ). Gives (next_of xs) 1) none, refl, refl, refl, record { bytes = here.bytes; blocks = here.blocks; rest = ap rest_of none ∙ sym (ap (λ (xs : List ℕ). xs ++ more) still' ∙ last over) }, output ∙ no_more s.env.output.items))

pub getchar_asks : (effect : World → Effect) (s : Seen) (env : Env) → s.env.input ≡ [] → s.env.ended ≡ false → env.input ≡ [] → env.ended ≡ s.env.ended → env.output.items ≡ s.env.output.items → Means external.GetChar effect answer.WantInput s (record s { env = env })
getchar_asks effect s env is open' still' ended output = record {
  map = refl;
  pages = refl;
  ended = ended;
  kept = λ p h. h;
  same = record { bytes = refl; blocks = refl; rest = still' ∙ sym is; output = output };
  told = λ more w last here. tt;
  enough = λ e. absurd cc;
  asks = λ e. (refl, is, open');
}

pub putchar_done : (left c : ℕ) (s : Seen) (env : Env) → 0 < left → env.input ≡ s.env.input → env.ended ≡ s.env.ended → env.output.items ≡ s.env.output.items ++ c % 256 ∷ [] → Means external.PutChar (λ w. bounded left (do_putchar c w) w) (answer.Value (c % 256) 1) s (record s { env = env })
unfolding do_putchar
putchar_done left c s env some is ended output =
    value_means external.PutChar (c % 256) (do_putchar c) left s (record s { env = env }) some refl refl refl ended (λ more w last here.
    (refl, refl, refl, refl, record { bytes = here.bytes; blocks = here.blocks; rest = here.rest ∙ sym (ap (λ (xs : List ℕ). xs ++ more) is) }, output))

pub putchar_full : (effect : World → Effect) (s : Seen) (env : Env) → env.input ≡ s.env.input → env.ended ≡ s.env.ended → env.output.items ≡ s.env.output.items → Means external.PutChar effect answer.NoMemory s (record s { env = env })
putchar_full effect s env is ended output = record {
  map = refl;
  pages = refl;
  ended = ended;
  kept = λ p h. h;
  same = record { bytes = refl; blocks = refl; rest = is; output = output };
  told = λ more w last here. tt;
  enough = λ e. tt;
  asks = λ e. absurd cc;
}

-- ---- the heap

pub malloc_done : (left size place : ℕ) (s : Seen) (heap : List Block) → 0 < left → Some place ≡ fit s.heap size → heap ≡ set_block s.heap place (rounded size) → Means external.Malloc (λ w. bounded left (do_malloc size w) w) (answer.Value place 1) s (record s { heap = heap })
unfolding do_malloc
malloc_done left size place s heap some is put =
    value_means external.Malloc place (do_malloc size) left s (record s { heap = heap }) some refl refl refl refl (λ more w last here.
    let found : fit w.heap size ≡ Some place = ap (λ (bs : List Block). fit bs size) here.blocks ∙ sym is in (
      ap (λ (o : Option ℕ). Gives (place_or_null o) 1) found,
      refl,
      refl,
      refl,
      subst (λ (o : Option ℕ). IsWorld (record s { heap = heap }) more (placed o size w)) (sym found) (record { bytes = here.bytes; blocks = ap (λ (bs : List Block). set_block bs place (rounded size)) here.blocks ∙ sym put; rest = here.rest }),
      no_more s.env.output.items,
    ))

pub malloc_none : (left size : ℕ) (s : Seen) (heap : List Block) → 0 < left → None ≡ fit s.heap size → heap ≡ s.heap → Means external.Malloc (λ w. bounded left (do_malloc size w) w) (answer.Value 0 1) s (record s { heap = heap })
unfolding do_malloc
malloc_none left size s heap some is same' =
    value_means external.Malloc 0 (do_malloc size) left s (record s { heap = heap }) some refl refl refl refl (λ more w last here.
    let found : fit w.heap size ≡ None = ap (λ (bs : List Block). fit bs size) here.blocks ∙ sym is in (
      ap (λ (o : Option ℕ). Gives (place_or_null o) 1) found,
      refl,
      refl,
      refl,
      subst (λ (o : Option ℕ). IsWorld (record s { heap = heap }) more (placed o size w)) (sym found) (record { bytes = here.bytes; blocks = here.blocks ∙ sym same'; rest = here.rest }),
      no_more s.env.output.items,
    ))

pub free_done : (left at : ℕ) (s : Seen) (old heap : List Block) → 0 < left → s.heap ≡ old → Frees (Ok tt) old heap at → Means external.Free (λ w. bounded left (do_free at w) w) (answer.Nothing 1) s (record s { heap = heap })
unfolding do_free
free_done left at s old heap some is (inl (zero', same')) =
    nothing_means external.Free (do_free at) left s (record s { heap = heap }) some refl refl refl refl (λ more w here.
    subst (λ (e : Effect). (e.outcome ≡ Does 1) × (e.sought ≡ []) × (e.reads ≡ []) × (e.writes ≡ []) × IsWorld (record s { heap = heap }) more e.world × (s.env.output.items ≡ s.env.output.items ++ e.output))
    (sym (cond-true (at == 0) (still (Does 1) w) _ (eq-eqb at 0 zero')))
    (refl, refl, refl, refl, record { bytes = here.bytes; blocks = here.blocks ∙ is ∙ sym same'; rest = here.rest }, no_more s.env.output.items))
free_done left at s old heap some is (inr (other, there, taken)) =
    nothing_means external.Free (do_free at) left s (record s { heap = heap }) some refl refl refl refl (λ more w here.
    let blocks : w.heap ≡ old = here.blocks ∙ is in
    let live : size_at w.heap at ≡ size_at old at = ap (λ (bs : List Block). size_at bs at) blocks in
    subst (λ (e : Effect). (e.outcome ≡ Does 1) × (e.sought ≡ []) × (e.reads ≡ []) × (e.writes ≡ []) × IsWorld (record s { heap = heap }) more e.world × (s.env.output.items ≡ s.env.output.items ++ e.output))
    (sym (cond-false (at == 0) (still (Does 1) w) (if size_at w.heap at == 0 then still (Traps BadFree) w else still (Does 1) (record w { heap = set_block w.heap at 0 })) (ne_eqb at 0 other)
    ∙ cond-false (size_at w.heap at == 0) (still (Traps BadFree) w) (still (Does 1) (record w { heap = set_block w.heap at 0 })) (ne_eqb (size_at w.heap at) 0 (λ e. omega (arith, there, live, e)))))
    (refl, refl, refl, refl, record { bytes = here.bytes; blocks = ap (λ (bs : List Block). set_block bs at 0) blocks ∙ sym taken; rest = here.rest }, no_more s.env.output.items))

pub free_bad : (left at : ℕ) (trap : Trap) (s : Seen) (old heap : List Block) → 0 < left → s.heap ≡ old → Frees (Err trap) old heap at → Means external.Free (λ w. bounded left (do_free at w) w) (answer.Trapped trap) s (record s { heap = heap })
unfolding do_free
free_bad left at trap s old heap some is (bad, other, none, same') =
    subst (λ (bs : List Block). Means external.Free (λ w. bounded left (do_free at w) w) (answer.Trapped trap) s (record s { heap = bs })) (is ∙ sym same')
    (trap_means external.Free trap (do_free at) left s some (λ more w here.
    cond-false (at == 0) (still (Does 1) w) (if size_at w.heap at == 0 then still (Traps BadFree) w else still (Does 1) (record w { heap = set_block w.heap at 0 })) (ne_eqb at 0 other)
    ∙ cond-true (size_at w.heap at == 0) (still (Traps BadFree) w) (still (Does 1) (record w { heap = set_block w.heap at 0 })) (eq-eqb (size_at w.heap at) 0 (ap (λ (bs : List Block). size_at bs at) (here.blocks ∙ is) ∙ none))
    ∙ ap (λ (t : Trap). still (Traps t) w) (sym bad)))

-- ---- externals that only end the run, or do nothing

pub exits : (left status : ℕ) (s : Seen) → 0 < left → Means external.Exit (λ w. bounded left (do_exit status w) w) (answer.Exited (status % 256)) s s
exits left status s some = exit_means external.Exit (status % 256) (do_exit status) left s some (λ w. refl)

pub aborts : (left : ℕ) (s : Seen) → 0 < left → Means external.Abort (λ w. bounded left (do_abort w) w) (answer.Trapped Abort) s s
aborts left s some = trap_means external.Abort Abort do_abort left s some (λ more w here. refl)

pub hints : (left : ℕ) (s : Seen) → 0 < left → Means external.Hint (λ w. bounded left (still (Does 1) w) w) (answer.Nothing 1) s s
hints left s some = nothing_means external.Hint (still (Does 1)) left s s some refl refl refl refl (λ more w here. (refl, refl, refl, refl, here, no_more s.env.output.items))

-- ---- the budget

-- with nothing left none is done
pub nothing_left : (r : Regions) (which : External) (args : List ℕ) (left : ℕ) (s : Seen) → left ≡ 0 → Means which (external_effect r which args left) answer.Over s s
nothing_left r which args left s none = record {
  map = refl;
  pages = refl;
  ended = refl;
  kept = λ p h. h;
  same = same s;
  told = λ more w last here.
      subst (λ (e : Effect). Answers answer.Over e s s more) (sym (cond-true (left == 0) (still Over w) (bounded left (do_external r which args w) w) (eq-eqb left 0 none))) (refl, none_held s.held);
  enough = λ e. absurd cc;
  asks = λ e. absurd cc;
}

pub something_left : (r : Regions) (which : External) (args : List ℕ) (left : ℕ) (a : LibAnswer) (s t : Seen) → (left ≡ 0 → ⊥) → Means which (λ w. bounded left (do_external r which args w) w) a s t → Means which (external_effect r which args left) a s t
something_left r which args left a s t some m = record {
  map = m.map;
  pages = m.pages;
  ended = m.ended;
  kept = m.kept;
  same = m.same;
  enough = m.enough;
  asks = m.asks;
  told = λ more w last here. subst (λ (e : Effect). Answers a e s t more) (sym (cond-false (left == 0) (still Over w) (bounded left (do_external r which args w) w) (ne_eqb left 0 some))) (m.told more w last here);
}

-- what has no meaning here, whatever its arguments
pub stuck_alone : (which : External) (left : ℕ) (s : Seen) → 0 < left → Means which (λ w. bounded left (still Stuck w) w) answer.Stuck s s
stuck_alone which left s some = stuck_means which (still Stuck) left s some (λ w. refl)

pub of_which : {which x : External} (r : Regions) (args : List ℕ) (left : ℕ) {a : LibAnswer} {s t : Seen} → which ≡ x → Means x (λ w. bounded left (do_external r x args w) w) a s t → Means which (λ w. bounded left (do_external r which args w) w) a s t
of_which {which} {x} r args left {a} {s} {t} is m = subst (λ (e : External). Means e (λ w. bounded left (do_external r e args w) w) a s t) (sym is) m
