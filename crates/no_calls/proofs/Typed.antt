-- Calls and functions of one type have one shape.
use Rattle.std.proofs.Common.{◌≡◌, ◌≢◌, ◌∙◌, refl, sym, ap, ℕ, Bool, true, false, ◌&&◌, ◌||◌, not, nat_eq, List, [], ◌∷◌, length, map, arith}
use Rattle.std.specs.Prelude.{Option, Some, None, if◌then◌else◌}
use Rattle.std.specs.List.{list_any}
use Rattle.std.proofs.lemmas.Bool.{and_from, and_parts, eq-eqb, eqb-true, false≢true, not-true, or_from, or_parts, ne_eqb, eqb-false}
use Rattle.no_ir.specs.declared.types.Ty.{Ty, out-Ty}
use Rattle.no_ir.specs.declared.types.Ty.TheOpen.{Ty-F}
use Rattle.no_ir.specs.declared.instruction.Operand.{Operand}
use Rattle.no_ir.specs.declared.function.Function.{Function}
use Rattle.no_module.specs.declared.scalar.Scalar.{Scalar}
use Rattle.no_module.specs.declared.scalar.Scalar.TheVariants as scalar
use Rattle.no_module.specs.Scalars.{agree, is_void, same_result, scalar_of, scalar_step, void_step}
use Rattle.no_module.specs.Widths.{is_width}
use Rattle.no_semantics.specs.Calls.{are_passed, has_type}
use Rattle.no_calls.specs.Shapes.{call_shape, function_shape, is_proper, no_code, result_code, scalar_code, type_code}

-- an integer's width is one of the five
abbrev IsProper : Option Scalar → Type 0
IsProper (Some (scalar.Int w)) = is_width w ≡ true
IsProper _ = Unit {0}

proper_int : (w : ℕ) (b : Bool) → is_width w ≡ b → IsProper (if b then Some (scalar.Int w) else None)
proper_int w true e = e
proper_int w false e = tt

proper_step : (f : Ty-F Ty) → IsProper (scalar_step f)
proper_step (Ty-F.Int w) = proper_int w (is_width w) refl
proper_step Ty-F.Ptr = tt
proper_step Ty-F.Void = tt
proper_step (Ty-F.Array n e) = tt
proper_step (Ty-F.Struct p fs) = tt
proper_step (Ty-F.Named k) = tt

proper_of : (t : Ty) → IsProper (scalar_of t)
proper_of t = proper_step (out-Ty t)

void_scalar_step : (f : Ty-F Ty) → void_step f ≡ true → scalar_step f ≡ None
void_scalar_step (Ty-F.Int w) e = absurd (false≢true e)
void_scalar_step Ty-F.Ptr e = absurd (false≢true e)
void_scalar_step Ty-F.Void e = refl
void_scalar_step (Ty-F.Array n e') e = absurd (false≢true e)
void_scalar_step (Ty-F.Struct p fs) e = absurd (false≢true e)
void_scalar_step (Ty-F.Named k) e = absurd (false≢true e)

void_scalar : (t : Ty) → is_void t ≡ true → scalar_of t ≡ None
void_scalar t e = void_scalar_step (out-Ty t) e

not_width : (w k : ℕ) → is_width w ≡ true → w ≡ k → is_width k ≡ false → ⊥
not_width w k e is none = false≢true (sym none ∙ (ap is_width (sym is) ∙ e))

-- ---- one type

agreed_codes : (x y : Option Scalar) → IsProper y → agree x y ≡ true → (scalar_code x ≡ scalar_code y) × (scalar_code y ≢ no_code)
agreed_codes None y p e = absurd (false≢true e)
agreed_codes (Some scalar.Ptr) None p e = absurd (false≢true e)
agreed_codes (Some (scalar.Int v)) None p e = absurd (false≢true e)
agreed_codes (Some scalar.Ptr) (Some scalar.Ptr) p e = (refl, λ z. absurd (omega (arith, z)))
agreed_codes (Some scalar.Ptr) (Some (scalar.Int w)) p e = absurd (false≢true e)
agreed_codes (Some (scalar.Int v)) (Some scalar.Ptr) p e = absurd (false≢true e)
agreed_codes (Some (scalar.Int v)) (Some (scalar.Int w)) p e = (eqb-true v w e, λ z. not_width w 3 p z refl)

codes_agree : (x y : Option Scalar) → IsProper x → IsProper y → scalar_code x ≡ scalar_code y → scalar_code y ≢ no_code → agree x y ≡ true
codes_agree None y p q e some = absurd (some (sym e))
codes_agree (Some s) None p q e some = absurd (some refl)
codes_agree (Some scalar.Ptr) (Some scalar.Ptr) p q e some = refl
codes_agree (Some scalar.Ptr) (Some (scalar.Int w)) p q e some = absurd (not_width w 0 q (sym e) refl)
codes_agree (Some (scalar.Int v)) (Some scalar.Ptr) p q e some = absurd (not_width v 0 p e refl)
codes_agree (Some (scalar.Int v)) (Some (scalar.Int w)) p q e some = eq-eqb v w e

not_two : (x : Option Scalar) → IsProper x → scalar_code x ≡ 2 → ⊥
not_two None p e = absurd (omega (arith, e))
not_two (Some scalar.Ptr) p e = absurd (omega (arith, e))
not_two (Some (scalar.Int w)) p e = not_width w 2 p e refl

-- ---- results

agree_none : (x : Option Scalar) → agree x None ≡ true → ⊥
agree_none None e = false≢true e
agree_none (Some scalar.Ptr) e = false≢true e
agree_none (Some (scalar.Int w)) e = false≢true e

abbrev coded : Bool → Option Scalar → ℕ
coded b x = if b then 2 else scalar_code x

results_coded : (b c : Bool) (x y : Option Scalar) → (b ≡ true → x ≡ None) → (c ≡ true → y ≡ None) → IsProper y → ((b && c) || agree x y) ≡ true → (coded b x ≡ coded c y) × (coded c y ≢ no_code)
results_coded true true x y vx vy p e = (refl, λ z. absurd (omega (arith, z)))
results_coded true false x y vx vy p e = absurd (false≢true (ap (λ (o : Option Scalar). agree o y) (sym (vx refl)) ∙ e))
results_coded false true x y vx vy p e = absurd (agree_none x (ap (λ (o : Option Scalar). agree x o) (sym (vy refl)) ∙ e))
results_coded false false x y vx vy p e = agreed_codes x y p e

coded_results : (b c : Bool) (x y : Option Scalar) → IsProper x → IsProper y → coded b x ≡ coded c y → coded c y ≢ no_code → ((b && c) || agree x y) ≡ true
coded_results true true x y p q e some = refl
coded_results true false x y p q e some = absurd (not_two y q (sym e))
coded_results false true x y p q e some = absurd (not_two x p e)
coded_results false false x y p q e some = codes_agree x y p q e some

-- ---- arguments

abbrev arg_codes : List (Ty × Operand) → List ℕ
arg_codes args = map (λ (a : Ty × Operand). type_code a.0) args

abbrev param_codes : List (ℕ × Ty) → List ℕ
param_codes params = map (λ (p : ℕ × Ty). type_code p.1) params

passed_codes : (args : List (Ty × Operand)) (params : List (ℕ × Ty)) → are_passed args params ≡ true → (arg_codes args ≡ param_codes params) × (list_any (nat_eq no_code) (param_codes params) ≡ false)
passed_codes [] [] e = (refl, refl)
passed_codes [] (q ∷ params) e = absurd (false≢true e)
passed_codes (a ∷ args) [] e = absurd (false≢true e)
passed_codes (a ∷ args) (q ∷ params) e =
    let parts = and_parts (agree (scalar_of a.0) (scalar_of q.1)) (are_passed args params) e in
    let first : (type_code a.0 ≡ type_code q.1) × (type_code q.1 ≢ no_code) = agreed_codes (scalar_of a.0) (scalar_of q.1) (proper_of q.1) parts.0 in
    let rest : (arg_codes args ≡ param_codes params) × (list_any (nat_eq no_code) (param_codes params) ≡ false) = passed_codes args params parts.1 in
    (ap (λ (k : ℕ). k ∷ arg_codes args) first.0 ∙ ap (λ (l : List ℕ). type_code q.1 ∷ l) rest.0, or_from (nat_eq no_code (type_code q.1)) (list_any (nat_eq no_code) (param_codes params)) (ne_eqb no_code (type_code q.1) (λ z. first.1 (sym z))) rest.1)

cons_parts : (x y : ℕ) (xs ys : List ℕ) → x ∷ xs ≡ y ∷ ys → (x ≡ y) × (xs ≡ ys)
cons_parts x y xs ys e = (ap (λ (l : List ℕ). head x l) e, ap tail e)
  where
    head : ℕ → List ℕ → ℕ
    head d [] = d
    head d (z ∷ zs) = z

    tail : List ℕ → List ℕ
    tail [] = []
    tail (z ∷ zs) = zs

nil_cons : (x : ℕ) (xs : List ℕ) → [] ≡ x ∷ xs → ⊥
nil_cons x xs e = absurd (omega (arith, ap length e))

codes_passed : (args : List (Ty × Operand)) (params : List (ℕ × Ty)) → arg_codes args ≡ param_codes params → list_any (nat_eq no_code) (param_codes params) ≡ false → are_passed args params ≡ true
codes_passed [] [] e some = refl
codes_passed [] (q ∷ params) e some = absurd (nil_cons (type_code q.1) (param_codes params) e)
codes_passed (a ∷ args) [] e some = absurd (nil_cons (type_code a.0) (arg_codes args) (sym e))
codes_passed (a ∷ args) (q ∷ params) e some =
    let parts = cons_parts (type_code a.0) (type_code q.1) (arg_codes args) (param_codes params) e in
    let each = or_parts (nat_eq no_code (type_code q.1)) (list_any (nat_eq no_code) (param_codes params)) some in
    and_from (agree (scalar_of a.0) (scalar_of q.1)) (are_passed args params)
    (codes_agree (scalar_of a.0) (scalar_of q.1) (proper_of a.0) (proper_of q.1) parts.0 (λ z. eqb-false no_code (type_code q.1) each.0 (sym z)))
    (codes_passed args params parts.1 each.1)

-- ---- whole types

pub typed_shape : (t : Ty) (args : List (Ty × Operand)) (g : Function) → has_type t args g ≡ true → (call_shape t args ≡ function_shape g) × (is_proper (function_shape g) ≡ true)
typed_shape t args g e =
    let parts = and_parts (same_result t g.result) (are_passed args g.params) e in
    let first : (result_code t ≡ result_code g.result) × (result_code g.result ≢ no_code) = results_coded (is_void t) (is_void g.result) (scalar_of t) (scalar_of g.result) (void_scalar t) (void_scalar g.result) (proper_of g.result) parts.0 in
    let rest : (arg_codes args ≡ param_codes g.params) × (list_any (nat_eq no_code) (param_codes g.params) ≡ false) = passed_codes args g.params parts.1 in (
      ap (λ (k : ℕ). k ∷ arg_codes args) first.0 ∙ ap (λ (l : List ℕ). result_code g.result ∷ l) rest.0,
      ap not (or_from (nat_eq no_code (result_code g.result)) (list_any (nat_eq no_code) (param_codes g.params)) (ne_eqb no_code (result_code g.result) (λ z. first.1 (sym z))) rest.1),
    )

pub shape_typed : (t : Ty) (args : List (Ty × Operand)) (g : Function) → call_shape t args ≡ function_shape g → is_proper (function_shape g) ≡ true → has_type t args g ≡ true
shape_typed t args g e proper =
    let parts = cons_parts (result_code t) (result_code g.result) (arg_codes args) (param_codes g.params) e in
    let each = or_parts (nat_eq no_code (result_code g.result)) (list_any (nat_eq no_code) (param_codes g.params)) (not-true (list_any (nat_eq no_code) (function_shape g)) proper) in
    and_from (same_result t g.result) (are_passed args g.params)
    (coded_results (is_void t) (is_void g.result) (scalar_of t) (scalar_of g.result) (proper_of t) (proper_of g.result) parts.0 (λ z. eqb-false no_code (result_code g.result) each.0 (sym z)))
    (codes_passed args g.params parts.1 each.1)
