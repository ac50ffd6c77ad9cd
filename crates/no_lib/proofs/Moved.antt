-- What copying answers and does.
use Rattle.std.proofs.Common.{◌≡◌, ℕ, ◌+◌, ◌/◌, ◌<◌, ◌≤◌, ◌==◌, min, Bool, true, false, nat_lt, if◌then◌else◌, List, [], ◌++◌, Option, Some, None, append-nil, refl, sym, ap, subst, ◌∙◌, arith}
use Rattle.std.proofs.lemmas.Bool.{cond-true, cond-false, eq-eqb, ne_eqb, ltb-true, ltb-false}
use Rattle.no_ir.specs.declared.ending.Trap.{Trap}
use Rattle.no_module.specs.declared.external.External.TheVariants as external
use Rattle.no_layout.specs.declared.memory.Regions.{Regions}
use Rattle.no_layout.specs.declared.memory.Access.{Access}
use Rattle.no_layout.specs.declared.memory.Access.TheVariants.{Done, Missing, Refused}
use Rattle.no_layout.specs.Memory.{Agrees, access, read_bytes, refusal, written}
use Rattle.no_layout.proofs.Agreeing.{done_agrees, writes_agree}
use Rattle.no_heap.specs.declared.block.Block.{Block}
use Rattle.no_semantics.specs.Spans.{Span, span_of, AreHeld, IsLowestAbsent}
use Rattle.no_semantics.specs.Externals.{World, Effect, Outcome, Does, Traps, bounded, cost_in, cost_of, still, do_move, put_bytes, first_refusal}
use Rattle.no_lib.specs.declared.env.Env.{Env}
use Rattle.no_lib.specs.declared.answer.LibAnswer.{LibAnswer}
use Rattle.no_lib.specs.declared.answer.LibAnswer.TheVariants as told
use Rattle.no_lib.specs.Answers.{Seen, seen, IsWorld, IsLeft, Means}
use Rattle.no_lib.specs.Judged.{judged}
use Rattle.no_lib.proofs.Told.{nothing_means, trap_means}
use Rattle.no_lib.proofs.Paged.{done_allowed, missing_allowed, refused_is, held_span, held_both, lowest_span, lowest_left, lowest_right, lowest_both, over_means, want_means, does_means}
use Rattle.no_lib.proofs.Filled.{agree_after}

no_more : (xs : List ℕ) → xs ≡ xs ++ []
no_more xs = sym (append-nil xs)

abbrev moves : Regions → ℕ → ℕ → ℕ → World → Option Trap → Effect
moves r to from n w t = put_bytes t (span_of from n) to n (read_bytes w.byte from n) w

abbrev copied : ℕ → ℕ → ℕ → World → Effect
copied to from n w = record { sought = []; reads = span_of from n; writes = span_of to n; outcome = Does (cost_of n); output = []; world = record w { byte = written w.byte to (read_bytes w.byte from n) } }

some_moved : (r : Regions) (to from n : ℕ) (w : World) → 0 < n → do_move r to from n w ≡ moves r to from n w (first_refusal (refusal r false from n) (refusal r true to n))
unfolding do_move
some_moved r to from n w some = cond-false (n == 0) (still (Does 1) w) (moves r to from n w (first_refusal (refusal r false from n) (refusal r true to n))) (ne_eqb n 0 (λ e. omega arith))

move_is : (r : Regions) (to from n : ℕ) (w : World) → 0 < n → refusal r false from n ≡ None → refusal r true to n ≡ None → do_move r to from n w ≡ copied to from n w
move_is r to from n w some source target =
    some_moved r to from n w some ∙ ap (λ (t : Option Trap). moves r to from n w (first_refusal t (refusal r true to n))) source ∙ ap (moves r to from n w) target

pub move_none : (r : Regions) (to from n left : ℕ) (s : Seen) → 0 < left → n ≡ 0 → Means external.Move (λ w. bounded left (do_move r to from n w) w) (told.Nothing 1) s s
unfolding do_move
move_none r to from n left s some none =
    nothing_means external.Move (do_move r to from n) left s s some refl refl refl refl (λ more w here.
    subst (λ (e : Effect). (e.outcome ≡ Does 1) × (e.sought ≡ []) × (e.reads ≡ []) × (e.writes ≡ []) × IsWorld s more e.world × (s.env.output.items ≡ s.env.output.items ++ e.output))
    (sym (cond-true (n == 0) (still (Does 1) w) (moves r to from n w (first_refusal (refusal r false from n) (refusal r true to n))) (eq-eqb n 0 none))) (refl, refl, refl, refl, here, no_more s.env.output.items))

module _ (r : Regions) (to from n left : ℕ) (s : Seen) (some : 0 < left) (length' : 0 < n) where
  abbrev Moves : LibAnswer → Type 0
  Moves a = Means external.Move (λ w. bounded left (do_move r to from n w) w) a s s

  source_refused : (trap : Trap) → refusal r false from n ≡ Some trap → Moves (told.Trapped trap)
  source_refused trap is = trap_means external.Move trap (do_move r to from n) left s some (λ more w here. some_moved r to from n w length' ∙ ap (λ (t : Option Trap). moves r to from n w (first_refusal t (refusal r true to n))) is)

  target_refused : (trap : Trap) → refusal r false from n ≡ None → refusal r true to n ≡ Some trap → Moves (told.Trapped trap)
  target_refused trap source is = trap_means external.Move trap (do_move r to from n) left s some (λ more w here.
      some_moved r to from n w length' ∙ ap (λ (t : Option Trap). moves r to from n w (first_refusal t (refusal r true to n))) source ∙ ap (moves r to from n w) is)

  dear_over : refusal r false from n ≡ None → refusal r true to n ≡ None → left < 1 + n / 64 → Moves told.Over
  dear_over source target dear = over_means external.Move (do_move r to from n) left s (λ more w here.
      subst (λ (e : Effect). (left < cost_in e.outcome) × AreHeld s.held e.sought) (sym (move_is r to from n w length' source target)) (dear, λ p t. absurd t))

  wants : (page : ℕ) → refusal r false from n ≡ None → refusal r true to n ≡ None → 1 + n / 64 ≤ left → IsLowestAbsent s.held (span_of from n ++ span_of to n) page → Moves (told.WantPage page)
  wants page source target fits lowest = want_means external.Move (do_move r to from n) left page s (λ more w here.
      subst (λ (e : Effect). (cost_in e.outcome ≤ left) × IsLowestAbsent s.held (e.sought ++ (e.reads ++ e.writes)) page) (sym (move_is r to from n w length' source target)) (fits, lowest))

  by_cases : (a b : Access) (dear : Bool) (x : LibAnswer) → access r s.held false from n ≡ a → access r s.held true to n ≡ b → nat_lt left (1 + n / 64) ≡ dear → judged a b dear ≡ Some x → Moves x
  by_cases (Refused trap) b dear x e f d is = (let same : told.Trapped trap ≡ x = cc in subst Moves same (source_refused trap (refused_is r s.held false from n trap e)))
  by_cases (Missing page) (Refused trap) dear x e f d is = (let same : told.Trapped trap ≡ x = cc in subst Moves same (target_refused trap (missing_allowed r s.held false from n page e) (refused_is r s.held true to n trap f)))
  by_cases (Missing page) (Missing other) true x e f d is = (let same : told.Over ≡ x = cc in subst Moves same (dear_over (missing_allowed r s.held false from n page e) (missing_allowed r s.held true to n other f) (ltb-true left (1 + n / 64) d)))
  by_cases (Missing page) (Missing other) false x e f d is = (let same : told.WantPage (min page other) ≡ x = cc in subst Moves same (wants (min page other) (missing_allowed r s.held false from n page e) (missing_allowed r s.held true to n other f) (ltb-false left (1 + n / 64) d)
      (lowest_both s.held (span_of from n) (span_of to n) page other (min page other) (lowest_span r s.held false from n page length' e) (lowest_span r s.held true to n other length' f) refl)))
  by_cases (Missing page) Done true x e f d is = (let same : told.Over ≡ x = cc in subst Moves same (dear_over (missing_allowed r s.held false from n page e) (done_allowed r s.held true to n f) (ltb-true left (1 + n / 64) d)))
  by_cases (Missing page) Done false x e f d is = (let same : told.WantPage page ≡ x = cc in subst Moves same (wants page (missing_allowed r s.held false from n page e) (done_allowed r s.held true to n f) (ltb-false left (1 + n / 64) d)
      (lowest_left s.held (span_of from n) (span_of to n) page (lowest_span r s.held false from n page length' e) (held_span r s.held true to n length' f))))
  by_cases Done (Refused trap) dear x e f d is = (let same : told.Trapped trap ≡ x = cc in subst Moves same (target_refused trap (done_allowed r s.held false from n e) (refused_is r s.held true to n trap f)))
  by_cases Done (Missing other) true x e f d is = (let same : told.Over ≡ x = cc in subst Moves same (dear_over (done_allowed r s.held false from n e) (missing_allowed r s.held true to n other f) (ltb-true left (1 + n / 64) d)))
  by_cases Done (Missing other) false x e f d is = (let same : told.WantPage other ≡ x = cc in subst Moves same (wants other (done_allowed r s.held false from n e) (missing_allowed r s.held true to n other f) (ltb-false left (1 + n / 64) d)
      (lowest_right s.held (span_of from n) (span_of to n) other (held_span r s.held false from n length' e) (lowest_span r s.held true to n other length' f))))
  by_cases Done Done true x e f d is = (let same : told.Over ≡ x = cc in subst Moves same (dear_over (done_allowed r s.held false from n e) (done_allowed r s.held true to n f) (ltb-true left (1 + n / 64) d)))
  by_cases Done Done false x e f d is = absurd cc

  pub move_judged : (a b : Access) (x : LibAnswer) → a ≡ access r s.held false from n → b ≡ access r s.held true to n → Some x ≡ judged a b (nat_lt left (1 + n / 64)) → Moves x
  move_judged a b x e f is = by_cases a b (nat_lt left (1 + n / 64)) x (sym e) (sym f) refl (sym is)

clear : (a b : Access) (dear : Bool) → judged a b dear ≡ None → (a ≡ Done) × (b ≡ Done) × (dear ≡ false)
clear (Refused trap) b dear e = absurd cc
clear (Missing page) (Refused trap) dear e = absurd cc
clear (Missing page) (Missing other) true e = absurd cc
clear (Missing page) (Missing other) false e = absurd cc
clear (Missing page) Done true e = absurd cc
clear (Missing page) Done false e = absurd cc
clear Done (Refused trap) dear e = absurd cc
clear Done (Missing other) true e = absurd cc
clear Done (Missing other) false e = absurd cc
clear Done Done true e = absurd cc
clear Done Done false e = (refl, refl, refl)

pub move_done : (r r' : Regions) (held held' own own' : ℕ → Bool) (byte byte' : ℕ → ℕ) (heap : List Block) (env : Env) (to from n left : ℕ) (a b : Access) → r' ≡ r → held' ≡ held → 0 < n → a ≡ access r held false from n → b ≡ access r held true to n → None ≡ judged a b (nat_lt left (1 + n / 64)) → byte' ≡ written byte to (read_bytes byte from n) → ((p : ℕ) → own p ≡ true → own' p ≡ true)
    → Means external.Move (λ w. bounded left (do_move r to from n w) w) (told.Nothing (1 + n / 64)) (seen r held own byte heap env) (seen r' held' own' byte' heap env)
move_done r r' held held' own own' byte byte' heap env to from n left a b map pages some e f is put kept =
    let c = clear a b (nat_lt left (1 + n / 64)) (sym is) in
    let source = sym e ∙ c.0 in
    let target = sym f ∙ c.1 in
    does_means external.Move (do_move r to from n) left (1 + n / 64) (seen r held own byte heap env) (seen r' held' own' byte' heap env) (ltb-false left (1 + n / 64) c.2) map pages refl kept (λ more w here.
    subst (λ (e : Effect). (e.outcome ≡ Does (1 + n / 64)) × IsLeft e (seen r held own byte heap env) (seen r' held' own' byte' heap env) more) (sym (move_is r to from n w some (done_allowed r held false from n source) (done_allowed r held true to n target))) (
      refl,
      record {
        pages = held_both held (span_of from n) (span_of to n) (held_span r held false from n some source) (held_span r held true to n some target);
        world = record {
          bytes = agree_after held held' byte' (written byte to (read_bytes byte from n)) (written w.byte to (read_bytes w.byte from n)) pages put
              (subst (λ (xs : List ℕ). Agrees held (written byte to (read_bytes byte from n)) (written w.byte to xs)) (done_agrees r held false byte w.byte from n some source here.bytes) (writes_agree held byte w.byte to (read_bytes byte from n) here.bytes));
          blocks = here.blocks;
          rest = here.rest;
        };
        output = no_more env.output.items;
      },
    ))
