-- Functions of which no rule holds, all at once.
use Rattle.std.proofs.Common.{◌≡◌, ◌∙◌, refl, sym, ap, subst, ℕ, zero, suc, ◌+◌, ◌<◌, ◌≤◌, inl, inr, Bool, true, false, ◌&&◌, not, List, [], ◌∷◌, ◌++◌, length, map, take, get_or, set, arith, get_or-set_same, get_or-set_other, length-set}
use Rattle.std.specs.Prelude.{Option, Some, None, nat_le, slice_get, slice_index_or}
use Rattle.std.specs.List.{Contains}
use Rattle.std.proofs.lemmas.Bool.{and_from, and_parts, cases_eq, cases_lt, false≢true, le-leb, leb-true, not-true, not_from_false}
use Rattle.std.proofs.lemmas.Option.{slice_get_within}
use Rattle.std.proofs.lemmas.List.{get_or_past, length-map, take_more}
use Rattle.std.proofs.lemmas.List.Elements.{Contains-append_left, Contains-append_cases, Contains-push}
use Rattle.no_ir.specs.declared.function.Function.{Function}
use Rattle.no_ir.specs.declared.function.Module.{Module}
use Rattle.no_layout.specs.declared.layout.Layout.{Layout}
use Rattle.no_module.specs.Functions.{is_declared}
use Rattle.no_room.specs.Accepted.{Accepted}
use Rattle.no_calls.specs.Calling.{MayCall}
use Rattle.no_calls.specs.Reaching.{IsReaching}
use Rattle.no_filter.specs.Reasons.{inputs, pinned, volatiles}
use Rattle.no_filter.specs.Verdicts.{AreFree, Cleared, Spares, passes}

pub cleared_none : (flags : List Bool) → Cleared [] flags flags
cleared_none flags = record {
  set' = λ k h. h;
  off = λ k h. absurd (omega (arith, h.1));
  kept = λ k none. refl;
}

set_off : (flags : List Bool) (j : ℕ) → get_or (set flags j false) j false ≡ false
set_off flags j = elim (cases_lt j (length flags)) [
  | inl lt ↦ get_or-set_same flags j false false lt
  | inr past ↦ get_or_past (set flags j false) j false (subst (λ (n : ℕ). n ≤ j) (sym (length-set flags j false)) past)
]

off_or : (flags : List Bool) (j k : ℕ) → get_or (set flags j false) k false ≡ true → get_or flags k false ≡ true
off_or flags j k h = elim (cases_eq k j) [
  | inl same ↦ absurd (false≢true (sym (set_off flags j) ∙ (ap (λ (i : ℕ). get_or (set flags j false) i false) (sym same) ∙ h)))
  | inr other ↦ sym (get_or-set_other flags j k false false other) ∙ h
]

-- one number more
cleared_set : (ks : List ℕ) (j : ℕ) (old mid : List Bool) → Cleared ks old mid → Cleared (ks ++ j ∷ []) old (set mid j false)
cleared_set ks j old mid c = record {
  set' = λ k h. c.set' k (off_or mid j k h);
  off = λ k h. elim (cases_eq k j) [
    | inl same ↦ ap (λ (i : ℕ). get_or (set mid j false) i false) same ∙ set_off mid j
    | inr other ↦ elim (Contains-append_cases ks (j ∷ []) k h) [
      | inl early ↦ get_or-set_other mid j k false false other ∙ c.off k early
      | inr late ↦ absurd (other (alone k late))
    ]
  ];
  kept = λ k none. elim (cases_eq k j) [
    | inl same ↦ absurd (none (subst (λ (i : ℕ). Contains (ks ++ j ∷ []) i) (sym same) (Contains-push ks j)))
    | inr other ↦ get_or-set_other mid j k false false other ∙ c.kept k (λ early. none (Contains-append_left ks (j ∷ []) k early))
  ];
}
  where
    alone : (k : ℕ) → Contains (j ∷ []) k → k ≡ j
    alone k (zero, lt, e) = sym e
    alone k (suc i, lt, e) = absurd (omega arith)

pub cleared_more : (ks : List ℕ) (i : ℕ) (old mid new : List Bool) → i < length ks → new ≡ set mid (get_or ks i 0) false → Cleared (take i ks) old mid → Cleared (take (i + 1) ks) old new
cleared_more ks i old mid new lt is c =
    subst (λ (l : List ℕ). Cleared l old new) (sym (take_more ks i 0 lt)) (subst (λ (f : List Bool). Cleared (take i ks ++ get_or ks i 0 ∷ []) old f) (sym is) (cleared_set (take i ks) (get_or ks i 0) old mid c))

-- ---- the flags of functions

passes_at : (device server : Layout) (functions : List Function) (k : ℕ) → get_or (map (passes device server) functions) k false ≡ true → (g : Function) × (slice_get functions k ≡ Some g) × (passes device server g ≡ true)
passes_at device server [] k e = absurd (false≢true e)
passes_at device server (g ∷ more) zero e = (g, refl, e)
passes_at device server (g ∷ more) (suc k) e = passes_at device server more k e

at_passes : (device server : Layout) (functions : List Function) (k : ℕ) (g : Function) → slice_get functions k ≡ Some g → get_or (map (passes device server) functions) k false ≡ passes device server g
at_passes device server [] k g e = absurd (omega (arith, slice_get_within [] k g e))
at_passes device server (f ∷ more) zero g e = ap (λ (o : Option Function). by o) e
  where
    by : Option Function → Bool
    by None = false
    by (Some h) = passes device server h
at_passes device server (f ∷ more) (suc k) g e = at_passes device server more k g e

pub cleared_by : (lent ks : List ℕ) (old new : List Bool) → lent ≡ ks → Cleared lent old new → Cleared ks old new
cleared_by lent ks old new same c = subst (λ (l : List ℕ). Cleared l old new) same c

pub reaching_by : (m lent : Module) (goals numbers : List ℕ) (those : Module → List ℕ) (ks : List ℕ) → lent ≡ m → goals ≡ numbers → numbers ≡ those lent → IsReaching (MayCall m) goals (length m.functions) ks → IsReaching (MayCall m) (those m) (length m.functions) ks
reaching_by m lent goals numbers those ks same one two r = subst (λ (l : List ℕ). IsReaching (MayCall m) l (length m.functions) ks) (one ∙ (two ∙ ap those same)) r

module _ (a : Accepted) (server : Layout) where
  -- what reaches none of these
  spares : (goals ks : List ℕ) (k : ℕ) → k < length a.«module».functions → IsReaching (MayCall a.«module») goals (length a.«module».functions) ks → (Contains ks k → ⊥) → Spares a.«module» k goals
  spares goals ks k lt r none = λ g goal reach. none (r.all k g lt goal reach)

  spared_not : (goals ks : List ℕ) (k : ℕ) → IsReaching (MayCall a.«module») goals (length a.«module».functions) ks → Spares a.«module» k goals → Contains ks k → ⊥
  spared_not goals ks k r spared h = let (g, goal, reach) = r.only k h in spared g goal reach

  not_cleared : (ks : List ℕ) (old new : List Bool) (k : ℕ) → Cleared ks old new → slice_index_or new k false ≡ true → Contains ks k → ⊥
  not_cleared ks old new k c h there = false≢true (sym (c.off k there) ∙ h)

  pub all_free : (device : Layout) (first second third : List ℕ) (f0 f1 f2 f3 : List Bool) → device ≡ a.layout → f0 ≡ map (passes device server) a.«module».functions
      → IsReaching (MayCall a.«module») (inputs a.«module») (length a.«module».functions) first → IsReaching (MayCall a.«module») (volatiles a.«module») (length a.«module».functions) second
      → IsReaching (MayCall a.«module») (pinned a.«module») (length a.«module».functions) third
      → Cleared first f0 f1 → Cleared second f1 f2 → Cleared third f2 f3 → length f3 ≡ length f0 → AreFree a server f3
  all_free device first second third f0 f1 f2 f3 same flags one two three c1 c2 c3 size = record {
    wide = size ∙ (ap length flags ∙ length-map a.«module».functions (passes device server));
    free = λ k h.
        let h2 = c3.set' k h in
        let h1 = c2.set' k h2 in
        let h0 = c1.set' k h1 in
        let (g, at, ok) = passes_at device server a.«module».functions k (ap (λ (l : List Bool). get_or l k false) (sym flags) ∙ h0) in
        let lt = slice_get_within a.«module».functions k g at in
        let parts = and_parts (not (is_declared g)) (nat_le device.pointer server.pointer && nat_le (length g.params) 64) ok in
        let more = and_parts (nat_le device.pointer server.pointer) (nat_le (length g.params) 64) parts.1 in (
          (spares (inputs a.«module») first k lt one (not_cleared first f0 f1 k c1 h1), spares (volatiles a.«module») second k lt two (not_cleared second f1 f2 k c2 h2), spares (pinned a.«module») third k lt three (not_cleared third f2 f3 k c3 h)),
          (g, at, (refl, not-true (is_declared g) parts.0, subst (λ (l : Layout). l.pointer ≤ server.pointer) same (leb-true device.pointer server.pointer more.0), leb-true (length g.params) 64 more.1)),
        );
    bound = λ k (spared, (g, at, (is, defined, narrow, few))).
        let ok : passes device server g ≡ true = and_from (not (is_declared g)) (nat_le device.pointer server.pointer && nat_le (length g.params) 64) (not_from_false (is_declared g) defined)
        (and_from (nat_le device.pointer server.pointer) (nat_le (length g.params) 64) (le-leb device.pointer server.pointer (subst (λ (l : Layout). l.pointer ≤ server.pointer) (sym same) narrow)) (le-leb (length g.params) 64 few)) in
        c3.kept k (spared_not (pinned a.«module») third k three spared.2) ∙ (c2.kept k (spared_not (volatiles a.«module») second k two spared.1) ∙ (c1.kept k (spared_not (inputs a.«module») first k one spared.0)
        ∙ (ap (λ (l : List Bool). get_or l k false) flags ∙ (at_passes device server a.«module».functions k g at ∙ ok))));
  }
