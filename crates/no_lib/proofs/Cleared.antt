-- A new block of zeros.
use Rattle.std.proofs.Common.{◌≡◌, ℕ, ◌+◌, ◌-◌, ◌*◌, ◌/◌, ◌%◌, ◌^◌, ◌<◌, ◌≤◌, ◌==◌, Bool, true, false, ◌&&◌, ◌||◌, nat_le, if◌then◌else◌, List, [], ◌∷◌, ◌++◌, replicate, Option, Some, None, append-nil, inl, inr, refl, sym, ap, subst, ◌∙◌, arith}
use Rattle.std.proofs.lemmas.Bool.{cond-true, cond-false, eq-eqb, ne_eqb, le-leb, cases_lt}
use Rattle.std.specs.Prelude.{IfSome}
use Rattle.no_ir.specs.declared.ending.Trap.{Trap}
use Rattle.no_module.specs.declared.external.External.TheVariants as external
use Rattle.no_layout.specs.declared.memory.Regions.{Regions}
use Rattle.no_layout.specs.declared.memory.Access.TheVariants.{Done, Missing, Refused}
use Rattle.no_layout.specs.Memory.{AreFormed, Agrees, access, globals_start, heap_start, heap_end, in_written, refusal, stack_start, stack_end, within, written}
use Rattle.no_layout.proofs.Agreeing.{writes_agree}
use Rattle.no_heap.specs.declared.block.Block.{Block}
use Rattle.no_heap.specs.declared.block.TheConstants.{HEAP_START, HEAP_END}
use Rattle.no_heap.specs.Blocks.{AreLive, set_block}
use Rattle.no_heap.specs.Fit.{fit, rounded, IsFit}
use Rattle.no_heap.proofs.Gaps.{fit_is, fit_large}
use Rattle.no_semantics.specs.Spans.{Span, span_of, Touches, AreHeld, IsLowestAbsent}
use Rattle.no_semantics.specs.Externals.{World, Effect, Outcome, Gives, bounded, cost_in, cost_of, gives, do_calloc, cleared}
use Rattle.no_lib.specs.declared.env.Env.{Env}
use Rattle.no_lib.specs.declared.answer.LibAnswer.TheVariants as told
use Rattle.no_lib.specs.Answers.{Seen, seen, IsWorld, IsLeft, Means}
use Rattle.no_lib.proofs.Told.{value_means}
use Rattle.no_lib.proofs.Paged.{held_span, lowest_span, over_means, want_means, gives_means, refused_is}
use Rattle.no_lib.proofs.Filled.{agree_after}
use Rattle.no_lib.proofs.Ranges.{written_allowed}
use mathlib.Core.Path.{fun_ext}
use Rattle.no_layout.proofs.Overlay.{below, above}
use Rattle.std.proofs.lemmas.List.{length-replicate}

no_more : (xs : List ℕ) → xs ≡ xs ++ []
no_more xs = sym (append-nil xs)

pub is_placed : (answer : Option ℕ) (old new : List Block) (size place : ℕ) → answer ≡ fit old size → Some place ≡ fit old size → IfSome answer (λ p. new ≡ set_block old p (rounded size)) → new ≡ set_block old place (rounded size)
is_placed answer old new size place is found put = (let same : answer ≡ Some place = is ∙ sym found in subst (λ (o : Option ℕ). IfSome o (λ p. new ≡ set_block old p (rounded size))) same put)

abbrev zeroed : ℕ → ℕ → World → Effect
zeroed place size w = record {
  sought = [];
  reads = [];
  writes = span_of place size;
  outcome = Gives place (cost_of size);
  output = [];
  world = record { byte = written w.byte place (replicate size 0); heap = set_block w.heap place (rounded size); input = w.input };
}

cleared_is : (count size place : ℕ) (heap : List Block) (w : World) → w.heap ≡ heap → Some place ≡ fit heap (count * size) → do_calloc count size w ≡ zeroed place (count * size) w
unfolding do_calloc
cleared_is count size place heap w same found = ap (λ (o : Option ℕ). cleared o (count * size) w) (ap (λ (bs : List Block). fit bs (count * size)) same ∙ sym found)

none_is : (count size : ℕ) (heap : List Block) (w : World) → w.heap ≡ heap → None ≡ fit heap (count * size) → do_calloc count size w ≡ gives 0 w
unfolding do_calloc
none_is count size heap w same none = ap (λ (o : Option ℕ). cleared o (count * size) w) (ap (λ (bs : List Block). fit bs (count * size)) same ∙ sym none)

pub calloc_none : (count size left : ℕ) (s t : Seen) → 0 < left → None ≡ fit s.heap (count * size) → t.regions ≡ s.regions → t.held ≡ s.held → t.own ≡ s.own → t.byte ≡ s.byte → t.heap ≡ s.heap → t.env ≡ s.env → Means external.Calloc (λ w. bounded left (do_calloc count size w) w) (told.Value 0 1) s t
calloc_none count size left s t some none map pages own bytes blocks env =
    value_means external.Calloc 0 (do_calloc count size) left s t some map pages own (ap (λ (e : Env). e.ended) env) (λ more w last here.
    subst (λ (e : Effect). (e.outcome ≡ Gives 0 1) × (e.sought ≡ []) × (e.reads ≡ []) × (e.writes ≡ []) × IsWorld t more e.world × (t.env.output.items ≡ s.env.output.items ++ e.output)) (sym (none_is count size s.heap w here.blocks none)) (
      refl,
      refl,
      refl,
      refl,
      record {
        bytes = agree_after s.held t.held t.byte s.byte w.byte pages bytes here.bytes;
        blocks = here.blocks ∙ sym blocks;
        rest = here.rest ∙ sym (ap (λ (e : Env). e.input ++ more) env);
      },
      ap (λ (e : Env). e.output.items) env ∙ no_more s.env.output.items,
    ))

-- a product that no number of 64 bits says fits nowhere
pub too_large : (heap : List Block) (count size : ℕ) → AreLive heap → 2 ^ 64 ≤ count * size → None ≡ fit heap (count * size)
too_large heap count size live h = fit_large heap (count * size) live (omega arith)

pub calloc_over : (count size place left : ℕ) (s : Seen) → Some place ≡ fit s.heap (count * size) → left < 1 + count * size / 64 → Means external.Calloc (λ w. bounded left (do_calloc count size w) w) told.Over s s
calloc_over count size place left s found dear = over_means external.Calloc (do_calloc count size) left s (λ more w here.
    subst (λ (e : Effect). (left < cost_in e.outcome) × AreHeld s.held e.sought) (sym (cleared_is count size place s.heap w here.blocks found)) (dear, λ p t. absurd t))

pub calloc_wants : (count size place left page : ℕ) (s : Seen) → Some place ≡ fit s.heap (count * size) → 0 < count * size → 1 + count * size / 64 ≤ left → access s.regions s.held true place (count * size) ≡ Missing page → Means external.Calloc (λ w. bounded left (do_calloc count size w) w) (told.WantPage page) s s
calloc_wants count size place left page s found some fits missing = want_means external.Calloc (do_calloc count size) left page s (λ more w here.
    subst (λ (e : Effect). (cost_in e.outcome ≤ left) × IsLowestAbsent s.held (e.sought ++ (e.reads ++ e.writes)) page) (sym (cleared_is count size place s.heap w here.blocks found)) (fits, lowest_span s.regions s.held true place (count * size) page some missing))

-- the bytes of a new block may be written
in_heap : (r : Regions) (place n : ℕ) → heap_start ≤ place → place + n ≤ heap_end → in_written r place n ≡ true
in_heap r place n low high = any (within (globals_start r) r.globals_end place n) (within heap_start heap_end place n) (within stack_start stack_end place n) (both (nat_le heap_start place) (nat_le (place + n) heap_end) (le-leb heap_start place low) (le-leb (place + n) heap_end high))
  where
    both : (x y : Bool) → x ≡ true → y ≡ true → (x && y) ≡ true
    both true y e f = f
    both false y e f = e

    any : (x y z : Bool) → y ≡ true → (x || (y || z)) ≡ true
    any true y z e = refl
    any false true z e = refl
    any false false true e = refl
    any false false false e = e

pub never_refused : (r : Regions) (held : ℕ → Bool) (heap : List Block) (place size : ℕ) (trap : Trap) → AreFormed r → AreLive heap → Some place ≡ fit heap size → 0 < size → access r held true place size ≡ Refused trap → ⊥
never_refused r held heap place size trap formed live found some refused =
    let is = subst (IsFit heap size) (sym found) (fit_is heap size live) in
    let allowed = written_allowed r true place size formed some (in_heap r place size is.1.above (omega (arith, is.1.below))) in
    let e : None ≡ Some trap = sym allowed ∙ refused_is r held true place size trap refused in absurd cc

pub calloc_done : (count size place left : ℕ) (s t : Seen) → Some place ≡ fit s.heap (count * size) → 1 + count * size / 64 ≤ left → AreHeld s.held (span_of place (count * size)) → t.regions ≡ s.regions → t.held ≡ s.held → t.env ≡ s.env → ((p : ℕ) → s.own p ≡ true → t.own p ≡ true) → t.byte ≡ written s.byte place (replicate (count * size) 0) → t.heap ≡ set_block s.heap place (rounded (count * size))
    → Means external.Calloc (λ w. bounded left (do_calloc count size w) w) (told.Value place (1 + count * size / 64)) s t
calloc_done count size place left s t found fits there map pages env kept put blocks =
    gives_means external.Calloc (do_calloc count size) left place (1 + count * size / 64) s t fits map pages (ap (λ (e : Env). e.ended) env) kept (λ more w here.
    subst (λ (e : Effect). (e.outcome ≡ Gives place (1 + count * size / 64)) × IsLeft e s t more) (sym (cleared_is count size place s.heap w here.blocks found)) (
      refl,
      record {
        pages = there;
        world = record {
          bytes = agree_after s.held t.held t.byte (written s.byte place (replicate (count * size) 0)) (written w.byte place (replicate (count * size) 0)) pages put (writes_agree s.held s.byte w.byte place (replicate (count * size) 0) here.bytes);
          blocks = ap (λ (bs : List Block). set_block bs place (rounded (count * size))) here.blocks ∙ sym blocks;
          rest = here.rest ∙ sym (ap (λ (e : Env). e.input ++ more) env);
        };
        output = ap (λ (e : Env). e.output.items) env ∙ no_more s.env.output.items;
      },
    ))

-- ---- the same of a product that was computed

pub calloc_none_of : (p count size left : ℕ) (s t : Seen) → p ≡ count * size → 0 < left → None ≡ fit s.heap p → t.regions ≡ s.regions → t.held ≡ s.held → t.own ≡ s.own → t.byte ≡ s.byte → t.heap ≡ s.heap → t.env ≡ s.env → Means external.Calloc (λ w. bounded left (do_calloc count size w) w) (told.Value 0 1) s t
calloc_none_of p count size left s t e some none map pages own bytes blocks env = calloc_none count size left s t some (none ∙ ap (fit s.heap) e) map pages own bytes blocks env

pub calloc_over_of : (p count size place left : ℕ) (s : Seen) → p ≡ count * size → Some place ≡ fit s.heap p → left < 1 + p / 64 → Means external.Calloc (λ w. bounded left (do_calloc count size w) w) told.Over s s
calloc_over_of p count size place left s e found dear = calloc_over count size place left s (found ∙ ap (fit s.heap) e) (subst (λ (q : ℕ). left < 1 + q / 64) e dear)

pub calloc_wants_of : (p count size place left page : ℕ) (s : Seen) → p ≡ count * size → Some place ≡ fit s.heap p → 0 < p → 1 + p / 64 ≤ left → access s.regions s.held true place p ≡ Missing page → Means external.Calloc (λ w. bounded left (do_calloc count size w) w) (told.WantPage page) s s
calloc_wants_of p count size place left page s e found some fits missing =
    calloc_wants count size place left page s (found ∙ ap (fit s.heap) e) (subst (λ (q : ℕ). 0 < q) e some) (subst (λ (q : ℕ). 1 + q / 64 ≤ left) e fits) (subst (λ (q : ℕ). access s.regions s.held true place q ≡ Missing page) e missing)

pub calloc_done_of : (p count size place left : ℕ) (s t : Seen) → p ≡ count * size → Some place ≡ fit s.heap p → 1 + p / 64 ≤ left → AreHeld s.held (span_of place p) → t.regions ≡ s.regions → t.held ≡ s.held → t.env ≡ s.env → ((p : ℕ) → s.own p ≡ true → t.own p ≡ true) → t.byte ≡ written s.byte place (replicate p 0) → t.heap ≡ set_block s.heap place (rounded p)
    → Means external.Calloc (λ w. bounded left (do_calloc count size w) w) (told.Value place (1 + p / 64)) s t
calloc_done_of p count size place left s t e found fits there map pages env kept put blocks =
    subst (λ (q : ℕ). Means external.Calloc (λ w. bounded left (do_calloc count size w) w) (told.Value place (1 + q / 64)) s t) (sym e)
    (calloc_done count size place left s t (found ∙ ap (fit s.heap) e) (subst (λ (q : ℕ). 1 + q / 64 ≤ left) e fits) (subst (λ (q : ℕ). AreHeld s.held (span_of place q)) e there) map pages env kept
    (put ∙ ap (λ (q : ℕ). written s.byte place (replicate q 0)) e) (blocks ∙ ap (λ (q : ℕ). set_block s.heap place (rounded q)) e))

-- nothing is touched by a block of no bytes
pub none_there : (held : ℕ → Bool) (place n : ℕ) → n ≡ 0 → AreHeld held (span_of place n)
none_there held place n e = subst (AreHeld held) (sym (cond-true (n == 0) [] (record { at = place; len = n } ∷ []) (eq-eqb n 0 e))) (λ p t. absurd t)

pub none_put : (byte : ℕ → ℕ) (place n : ℕ) → n ≡ 0 → byte ≡ written byte place (replicate n 0)
none_put byte place n e = fun_ext (λ a. elim (cases_lt a place) [
  | inl under ↦ sym (below byte place (replicate n 0) a under)
  | inr from ↦ sym (above byte place (replicate n 0) a (omega (arith, length-replicate {A = ℕ} n 0)))
])
