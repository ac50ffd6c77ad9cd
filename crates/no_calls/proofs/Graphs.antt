-- The graph of a module by sets, and which function may call which.
use Rattle.std.proofs.Common.{◌≡◌, ◌∙◌, refl, sym, ap, subst, ℕ, zero, suc, ◌+◌, ◌<◌, ◌⊎◌, inl, inr, Bool, true, false, ◌&&◌, nat_lt, List, [], ◌∷◌, length, get_or, Vec, arith}
use Rattle.std.specs.Prelude.{Option, Some, None, bytes_eq, position, slice_get, slice_index_or, if◌then◌else◌}
use Rattle.std.specs.Global.{Global}
use Rattle.std.specs.List.{Contains, flat_map, position_or_len}
use Rattle.std.proofs.lemmas.Bool.{and_from, and_parts, cases_Bool, cases_lt, cond-true, eq-eqb, eqb-true, false≢true, lt-ltb, ltb-true}
use Rattle.std.proofs.lemmas.List.Elements.{Contains-append_cases, Contains-append_left, Contains-append_right}
use Rattle.std.proofs.lemmas.List.Quantifiers.{position-Some}
use Rattle.std.proofs.lemmas.List.Sums.{fails_before_first}
use Rattle.std.proofs.lemmas.Map.Views.{Contains-from_any}
use Rattle.std.proofs.lemmas.Option.{slice_get_within}
use Rattle.std.proofs.lemmas.Slice.Eq.{bytes_eq-Decides}
use Rattle.no_ir.specs.Naming.{is_known}
use Rattle.no_ir.specs.declared.types.Ty.{Ty}
use Rattle.no_ir.specs.declared.instruction.Operand.{Operand}
use Rattle.no_ir.specs.declared.instruction.Op.{Op}
use Rattle.no_ir.specs.declared.instruction.Op.TheVariants as op
use Rattle.no_ir.specs.declared.instruction.Instr.{Instr}
use Rattle.no_ir.specs.declared.function.Function.{Function}
use Rattle.no_ir.specs.declared.function.Module.{Module}
use Rattle.no_ir.specs.declared.function.Role.TheVariants.{Source}
use Rattle.no_verify_types.specs.Typing.{direct}
use Rattle.no_semantics.specs.Calls.{has_type}
use Rattle.no_semantics.specs.Taken.{is_callable}
use Rattle.no_taken.specs.Marked.{AreTaken}
use Rattle.no_calls.specs.Calling.{MayCall, instrs_of, may_be, op_may_call}
use Rattle.no_calls.specs.Links.{Calls, IsGraphOf, Links}
use Rattle.no_calls.specs.Rows.{AreBelow, row}
use Rattle.no_calls.specs.Shapes.{HasShapes, call_shape, called_sets, callee_sets, function_shape, is_proper, op_sets, place_set, sets_of, shape_set}
use Rattle.no_calls.proofs.Finding.{nothing, one, single}
use Rattle.no_calls.proofs.Shaping.{place_below}
use Rattle.no_calls.proofs.Tables.{row_within}
use Rattle.no_calls.proofs.Typed.{shape_typed, typed_shape}

-- ---- lists of lists

flat_there : (f : Instr → List ℕ) (xs : List Instr) (x : Instr) (y : ℕ) → Contains xs x → Contains (f x) y → Contains (flat_map f xs) y
flat_there f [] x y (k, lt, e) h = absurd (omega arith)
flat_there f (z ∷ xs) x y (zero, lt, e) h = Contains-append_left (f z) (flat_map f xs) y (subst (λ (i : Instr). Contains (f i) y) (sym e) h)
flat_there f (z ∷ xs) x y (suc k, lt, e) h = Contains-append_right (f z) (flat_map f xs) y (flat_there f xs x y (k, omega arith, e) h)

flat_from : (f : Instr → List ℕ) (xs : List Instr) (y : ℕ) → Contains (flat_map f xs) y → (x : Instr) × Contains xs x × Contains (f x) y
flat_from f [] y h = absurd (nothing y h)
flat_from f (z ∷ xs) y h = elim (Contains-append_cases (f z) (flat_map f xs) y h) [
  | inl here ↦ (z, (0, omega arith, refl), here)
  | inr later ↦ let (x, (k, lt, e), in') = flat_from f xs y later in (x, (suc k, omega arith, e), in')
]

given : (functions : List Function) (k : ℕ) → k < length functions → (f : Function) × (slice_get functions k ≡ Some f)
given [] k lt = absurd (omega arith)
given (f ∷ functions) zero lt = (f, refl)
given (f ∷ functions) (suc k) lt = given functions k (omega arith)

-- ---- the places of shapes

known_place : (x : List ℕ) (shapes : List (List ℕ)) → is_known shapes x ≡ true → (c : ℕ) × (position (bytes_eq x) shapes ≡ Some c)
known_place x shapes known =
    let (k, lt, here) = Contains-from_any {eq = bytes_eq} (λ a b e. (bytes_eq-Decides a b).0 e) x shapes known in
    let p = position_or_len (bytes_eq x) shapes in
    elim (cases_lt p (length shapes)) [
      | inl below ↦ (p, cond-true (nat_lt p (length shapes)) (Some p) None (lt-ltb p (length shapes) below))
      | inr past ↦ absurd (false≢true (sym (fails_before_first (bytes_eq x) shapes k x (omega arith)) ∙ (bytes_eq-Decides x (get_or shapes k x)).1 (sym here)))
    ]

-- two shapes at one place are the same
same_place : (x y : List ℕ) (shapes : List (List ℕ)) (c : ℕ) → position (bytes_eq x) shapes ≡ Some c → position (bytes_eq y) shapes ≡ Some c → x ≡ y
same_place x y shapes c e f =
    (bytes_eq-Decides x (get_or shapes c [])).0 (position-Some (bytes_eq x) shapes c [] e).1 ∙ sym ((bytes_eq-Decides y (get_or shapes c [])).0 (position-Some (bytes_eq y) shapes c [] f).1)

place_there : (n c : ℕ) (o : Option ℕ) → o ≡ Some c → Contains (place_set n o) (n + c)
place_there n c o e = subst (λ (p : Option ℕ). Contains (place_set n p) (n + c)) (sym e) (one (n + c))

place_from : (n s : ℕ) (o : Option ℕ) → Contains (place_set n o) s → (c : ℕ) × (o ≡ Some c) × (s ≡ n + c)
place_from n s None h = absurd (nothing s h)
place_from n s (Some c) h = (c, refl, single (n + c) s h)

-- ---- one instruction

call_cases : (o : Op) → ((t : Ty) × (callee : Operand) × (args : List (Ty × Operand)) × (o ≡ op.Call t callee args)) ⊎ (((m : Module) (k : ℕ) (g : Function) → op_may_call m k g o ≡ false) × ((n : ℕ) (shapes : List (List ℕ)) → op_sets n shapes o ≡ []))
call_cases (op.Call t callee args) = inl (t, callee, args, refl)
call_cases (op.Binary o w a b) = inr (λ m k g. refl, λ n shapes. refl)
call_cases (op.Compare p t a b) = inr (λ m k g. refl, λ n shapes. refl)
call_cases (op.Cast o t a u) = inr (λ m k g. refl, λ n shapes. refl)
call_cases (op.Freeze t a) = inr (λ m k g. refl, λ n shapes. refl)
call_cases (op.Select c t a b) = inr (λ m k g. refl, λ n shapes. refl)
call_cases (op.Phi t pairs) = inr (λ m k g. refl, λ n shapes. refl)
call_cases (op.Alloca t count align) = inr (λ m k g. refl, λ n shapes. refl)
call_cases (op.Load volatile t a) = inr (λ m k g. refl, λ n shapes. refl)
call_cases (op.Store volatile t v a) = inr (λ m k g. refl, λ n shapes. refl)
call_cases (op.Gep t a indices) = inr (λ m k g. refl, λ n shapes. refl)
call_cases (op.Br l) = inr (λ m k g. refl, λ n shapes. refl)
call_cases (op.CondBr c l r) = inr (λ m k g. refl, λ n shapes. refl)
call_cases (op.Switch w a l cases) = inr (λ m k g. refl, λ n shapes. refl)
call_cases (op.Ret x) = inr (λ m k g. refl, λ n shapes. refl)
call_cases op.Unreachable = inr (λ m k g. refl, λ n shapes. refl)

module _ (m : Module) (taken : List Bool) (shapes : List (List ℕ)) (are : AreTaken m taken) (has : HasShapes m.functions taken (length m.functions) shapes) where
  -- the sets that function k is in
  abbrev sets : ℕ → Function → List ℕ
  sets k g = sets_of (length m.functions) shapes (slice_index_or taken k false) k g

  shape_in : (k : ℕ) (g : Function) (c : ℕ) → slice_index_or taken k false ≡ true → is_proper (function_shape g) ≡ true → position (bytes_eq (function_shape g)) shapes ≡ Some c → Contains (sets k g) (length m.functions + c)
  shape_in k g c t p e =
      let whole : (slice_index_or taken k false && is_proper (function_shape g)) ≡ true = and_from (slice_index_or taken k false) (is_proper (function_shape g)) t p in
      let part : Contains (if slice_index_or taken k false && is_proper (function_shape g) then shape_set (length m.functions) shapes (function_shape g) else []) (length m.functions + c) =
      subst (λ (b : Bool). Contains (if b then shape_set (length m.functions) shapes (function_shape g) else []) (length m.functions + c)) (sym whole) (place_there (length m.functions) c (position (bytes_eq (function_shape g)) shapes) e) in
      Contains-append_right (k ∷ []) (if slice_index_or taken k false && is_proper (function_shape g) then shape_set (length m.functions) shapes (function_shape g) else []) (length m.functions + c) part

  sets_from : (k : ℕ) (g : Function) (s : ℕ) → Contains (sets k g) s → (s ≡ k) ⊎ ((slice_index_or taken k false ≡ true) × (is_proper (function_shape g) ≡ true) × (c : ℕ) × (position (bytes_eq (function_shape g)) shapes ≡ Some c) × (s ≡ length m.functions + c))
  sets_from k g s h = elim (Contains-append_cases (k ∷ []) (if slice_index_or taken k false && is_proper (function_shape g) then shape_set (length m.functions) shapes (function_shape g) else []) s h) [
    | inl own ↦ inl (single k s own)
    | inr other ↦ elim (cases_Bool (slice_index_or taken k false && is_proper (function_shape g))) [
      | inl yes' ↦
          let parts = and_parts (slice_index_or taken k false) (is_proper (function_shape g)) yes' in
          let (c, e, is) = place_from (length m.functions) s (position (bytes_eq (function_shape g)) shapes) (subst (λ (b : Bool). Contains (if b then shape_set (length m.functions) shapes (function_shape g) else []) s) yes' other) in
          inr (parts.0, parts.1, c, e, is)
      | inr no' ↦ absurd (nothing s (subst (λ (b : Bool). Contains (if b then shape_set (length m.functions) shapes (function_shape g) else []) s) no' other))
    ]
  ]

  -- a call that may be one of function k calls a set that it is in
  may_meets : (t : Ty) (args : List (Ty × Operand)) (k : ℕ) (g : Function) (o : Option ℕ) → k < length m.functions → slice_get m.functions k ≡ Some g → may_be m t args k g o ≡ true → (s : ℕ) × Contains (callee_sets (length m.functions) shapes t args o) s × Contains (sets k g) s
  may_meets t args k g (Some d) lt at may =
      let same : d ≡ k = eqb-true d k may in
      (d, subst (λ (b : Bool). Contains (if b then d ∷ [] else []) d) (sym (lt-ltb d (length m.functions) (subst (λ (j : ℕ). j < length m.functions) (sym same) lt))) (one d), subst (λ (j : ℕ). Contains (sets k g) j) (sym same) (Contains-append_left (k ∷ []) _ k (one k)))
  may_meets t args k g None lt at may =
      let parts = and_parts (is_callable m Source k g) (has_type t args g) may in
      let typed : (call_shape t args ≡ function_shape g) × (is_proper (function_shape g) ≡ true) = typed_shape t args g parts.1 in
      let flag : slice_index_or taken k false ≡ true = are k lt ∙ parts.0 in
      let (c, e) = known_place (function_shape g) shapes (has k g lt at flag typed.1) in (
        length m.functions + c,
        place_there (length m.functions) c (position (bytes_eq (call_shape t args)) shapes) (ap (λ (x : List ℕ). position (bytes_eq x) shapes) typed.0 ∙ e),
        shape_in k g c flag typed.1 e,
      )

  meets_may : (t : Ty) (args : List (Ty × Operand)) (k : ℕ) (g : Function) (o : Option ℕ) (s : ℕ) → k < length m.functions → Contains (callee_sets (length m.functions) shapes t args o) s → Contains (sets k g) s → may_be m t args k g o ≡ true
  meets_may t args k g (Some d) s lt called in' = elim (cases_Bool (nat_lt d (length m.functions))) [
    | inl below ↦
        let is : s ≡ d = single d s (subst (λ (b : Bool). Contains (if b then d ∷ [] else []) s) below called) in
        elim (sets_from k g s in') [
          | inl own ↦ eq-eqb d k (sym is ∙ own)
          | inr (flag, proper, c, e, far) ↦ absurd (omega (arith, ltb-true d (length m.functions) below, is, far))
        ]
    | inr past ↦ absurd (nothing s (subst (λ (b : Bool). Contains (if b then d ∷ [] else []) s) past called))
  ]
  meets_may t args k g None s lt called in' =
      let (c, e, is) = place_from (length m.functions) s (position (bytes_eq (call_shape t args)) shapes) called in
      elim (sets_from k g s in') [
        | inl own ↦ absurd (omega (arith, own, is, lt))
        | inr (flag, proper, d, f, far) ↦
            let same : d ≡ c = omega (arith, is, far) in
            let shape : call_shape t args ≡ function_shape g = same_place (call_shape t args) (function_shape g) shapes c e (f ∙ ap Some same) in
            and_from (is_callable m Source k g) (has_type t args g) (sym (are k lt) ∙ flag) (shape_typed t args g shape proper)
      ]

  module _ (links : Links) (callers : length links.uses ≡ length m.functions) (count : length links.within ≡ length m.functions)
      (uses : (k : ℕ) (g : Function) → slice_get m.functions k ≡ Some g → row links.uses k ≡ called_sets (length m.functions) shapes g)
      (within : (k : ℕ) (g : Function) → slice_get m.functions k ≡ Some g → row links.within k ≡ sets k g) where
    there : (a k : ℕ) → MayCall m a k → Calls links a k
    there a k c = elim (call_cases c.calls.op) [
      | inl (t, callee, args, is) ↦
          let may : may_be m t args k c.callee (direct callee) ≡ true = ap (λ (o : Op). op_may_call m k c.callee o) (sym is) ∙ c.may in
          let (s, called, in') = may_meets t args k c.callee (direct callee) (slice_get_within m.functions k c.callee c.to) c.to may in
          let here : Contains (op_sets (length m.functions) shapes c.calls.op) s = subst (λ (o : Op). Contains (op_sets (length m.functions) shapes o) s) (sym is) called in (
            s,
            subst (λ (l : List ℕ). Contains l s) (sym (uses a c.caller c.from)) (flat_there (λ (i : Instr). op_sets (length m.functions) shapes i.op) (instrs_of c.caller) c.calls s c.within here),
            subst (λ (l : List ℕ). Contains l s) (sym (within k c.callee c.to)) in',
          )
      | inr (none, empty) ↦ absurd (false≢true (sym (none m k c.callee) ∙ c.may))
    ]

    only : (a k : ℕ) → Calls links a k → MayCall m a k
    only a k (s, called, in') =
        let (f, from) = given m.functions a (subst (λ (j : ℕ). a < j) callers (row_within links.uses a s called)) in
        let (g, to) = given m.functions k (subst (λ (j : ℕ). k < j) count (row_within links.within k s in')) in
        let (i, stands, here) = flat_from (λ (i : Instr). op_sets (length m.functions) shapes i.op) (instrs_of f) s (subst (λ (l : List ℕ). Contains l s) (uses a f from) called) in
        let there' : Contains (sets k g) s = subst (λ (l : List ℕ). Contains l s) (within k g to) in' in
        elim (call_cases i.op) [
          | inl (t, callee, args, is) ↦
              let may : may_be m t args k g (direct callee) ≡ true = meets_may t args k g (direct callee) s (slice_get_within m.functions k g to) (subst (λ (o : Op). Contains (op_sets (length m.functions) shapes o) s) is here) there' in
              record { caller = f; callee = g; calls = i; from = from; to = to; within = stands; may = ap (λ (o : Op). op_may_call m k g o) is ∙ may }
          | inr (none, empty) ↦ absurd (nothing s (subst (λ (l : List ℕ). Contains l s) (empty (length m.functions) shapes) here))
        ]

    pub graph_is : IsGraphOf m links
    graph_is = record { callers = callers; count = count; there = there; only = only }

-- ---- all sets are numbered below those of the functions and of the shapes

place_small : (n s : ℕ) (x : List ℕ) (shapes : List (List ℕ)) → Contains (shape_set n shapes x) s → s < n + length shapes
place_small n s x shapes h =
    let (c, e, is) = place_from n s (position (bytes_eq x) shapes) h in
    let below : c < length shapes = place_below x shapes c e in
    omega (arith, is, below)

callee_small : (n s : ℕ) (shapes : List (List ℕ)) (t : Ty) (args : List (Ty × Operand)) (o : Option ℕ) → Contains (callee_sets n shapes t args o) s → s < n + length shapes
callee_small n s shapes t args (Some d) h = elim (cases_Bool (nat_lt d n)) [
  | inl below ↦ let is : s ≡ d = single d s (subst (λ (b : Bool). Contains (if b then d ∷ [] else []) s) below h) in omega (arith, is, ltb-true d n below)
  | inr past ↦ absurd (nothing s (subst (λ (b : Bool). Contains (if b then d ∷ [] else []) s) past h))
]
callee_small n s shapes t args None h = place_small n s (call_shape t args) shapes h

op_small : (n s : ℕ) (shapes : List (List ℕ)) (o : Op) → Contains (op_sets n shapes o) s → s < n + length shapes
op_small n s shapes o h = elim (call_cases o) [
  | inl (t, callee, args, is) ↦ callee_small n s shapes t args (direct callee) (subst (λ (p : Op). Contains (op_sets n shapes p) s) is h)
  | inr (none, empty) ↦ absurd (nothing s (subst (λ (l : List ℕ). Contains l s) (empty n shapes) h))
]

pub uses_below : (functions : List Function) (shapes : List (List ℕ)) (rows lent : List (Vec ℕ Global)) → lent ≡ rows → length rows ≡ length functions → ((k : ℕ) (g : Function) → slice_get functions k ≡ Some g → row rows k ≡ called_sets (length functions) shapes g) → AreBelow lent (length functions + length shapes)
uses_below functions shapes rows lent same wide are a s h =
    let here : Contains (row rows a) s = subst (λ (t : List (Vec ℕ Global)). Contains (row t a) s) same h in
    let (f, from) = given functions a (subst (λ (j : ℕ). a < j) wide (row_within rows a s here)) in
    let (i, stands, in') = flat_from (λ (i : Instr). op_sets (length functions) shapes i.op) (instrs_of f) s (subst (λ (l : List ℕ). Contains l s) (are a f from) here) in
    op_small (length functions) s shapes i.op in'

own_small : (n s k : ℕ) (b : Bool) (x : List ℕ) (shapes : List (List ℕ)) → k < n → Contains (k ∷ (if b then shape_set n shapes x else [])) s → s < n + length shapes
own_small n s k b x shapes lt h = elim (Contains-append_cases (k ∷ []) (if b then shape_set n shapes x else []) s h) [
  | inl own ↦ let is : s ≡ k = single k s own in omega (arith, is, lt)
  | inr other ↦ by_flag b other
]
  where
    by_flag : (b : Bool) → Contains (if b then shape_set n shapes x else []) s → s < n + length shapes
    by_flag true h = place_small n s x shapes h
    by_flag false h = absurd (nothing s h)

pub within_below : (functions : List Function) (taken : List Bool) (shapes : List (List ℕ)) (rows lent : List (Vec ℕ Global)) → lent ≡ rows → length rows ≡ length functions
    → ((k : ℕ) (g : Function) → slice_get functions k ≡ Some g → row rows k ≡ sets_of (length functions) shapes (slice_index_or taken k false) k g) → AreBelow lent (length functions + length shapes)
within_below functions taken shapes rows lent same wide are a s h =
    let here : Contains (row rows a) s = subst (λ (t : List (Vec ℕ Global)). Contains (row t a) s) same h in
    let lt : a < length functions = subst (λ (j : ℕ). a < j) wide (row_within rows a s here) in
    let (g, at) = given functions a lt in
    own_small (length functions) s a (slice_index_or taken a false && is_proper (function_shape g)) (function_shape g) shapes lt (subst (λ (l : List ℕ). Contains l s) (are a g at) here)

-- ---- the graph that was made

pub graph_of : (m : Module) (functions : List Function) (flags first second : List Bool) (shapes : List (List ℕ)) (uses within : List (Vec ℕ Global)) → functions ≡ m.functions → first ≡ flags → second ≡ flags → AreTaken m flags → HasShapes functions first (length functions) shapes
    → length uses ≡ length functions → length within ≡ length functions
    → ((k : ℕ) (g : Function) → slice_get functions k ≡ Some g → row uses k ≡ called_sets (length functions) shapes g)
    → ((k : ℕ) (g : Function) → slice_get functions k ≡ Some g → row within k ≡ sets_of (length functions) shapes (slice_index_or second k false) k g)
    → IsGraphOf m (record { uses = uses; within = within })
graph_of m functions flags first second shapes uses within same one' two are has callers count used in' =
    let has' : HasShapes m.functions flags (length m.functions) shapes =
    subst (λ (b : List Bool). HasShapes m.functions b (length m.functions) shapes) one' (subst (λ (fs : List Function). HasShapes fs first (length fs) shapes) same has) in
    graph_is m flags shapes are has' (record { uses = uses; within = within }) (callers ∙ ap length same) (count ∙ ap length same)
    (subst (λ (fs : List Function). (k : ℕ) (g : Function) → slice_get fs k ≡ Some g → row uses k ≡ called_sets (length fs) shapes g) same used)
    (subst (λ (b : List Bool). (k : ℕ) (g : Function) → slice_get m.functions k ≡ Some g → row within k ≡ sets_of (length m.functions) shapes (slice_index_or b k false) k g) two
    (subst (λ (fs : List Function). (k : ℕ) (g : Function) → slice_get fs k ≡ Some g → row within k ≡ sets_of (length fs) shapes (slice_index_or second k false) k g) same in'))
