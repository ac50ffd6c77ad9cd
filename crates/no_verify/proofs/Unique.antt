-- A module has one verdict.
use Rattle.std.proofs.Common.{◌≡◌, ℕ, List, slice_get, Option, Some, None, Result, Ok, Err, refl, sym, ap, subst, ◌∙◌, ◌⊎◌, inl, inr}
use Rattle.std.proofs.lemmas.Bool.{cases_order}
use Rattle.std.proofs.lemmas.Option.{none-some, same_Some}
use Rattle.no_ir.specs.declared.function.Function.{Function}
use Rattle.no_ir.specs.declared.function.Module.{Module}
use Rattle.no_ir.specs.declared.function.Role.{Role}
use Rattle.no_layout.specs.Sizes.{sizes_of}
use Rattle.no_layout.specs.Text.{layout_of}
use Rattle.no_layout.specs.declared.extent.Extent.{Extent}
use Rattle.no_layout.specs.declared.fault.LayoutFault.{LayoutFault}
use Rattle.no_layout.specs.declared.layout.Layout.{Layout}
use Rattle.no_verify_paths.specs.Paths.{IsAnswer}
use Rattle.no_verify_paths.proofs.Judging.{one_answer}
use Rattle.no_room.specs.Accepted.{Accepted}
use Rattle.no_verify_types.specs.Places.{fault_at}
use Rattle.no_verify_types.specs.declared.place.FaultPlace.{FaultPlace}
use Rattle.no_verify.specs.Kinds.{IsPlace, IsUnassignedAt, IsUnassignedPlace}
use Rattle.no_verify.specs.Verdict.{Accepts, AreNowhere, Answers, Faulty, IsAccepted, IsFaulty, IsFirstFault, IsVerdict, Unstated, Verdict, judged_kinds, place_of}
use Rattle.no_verify.specs.declared.fault.VerifyError.{VerifyError}
use Rattle.no_verify.specs.declared.fault.VerifyError.TheVariants as error
use Rattle.no_verify.specs.declared.fault.VerifyFault.{VerifyFault}
use Rattle.no_verify.specs.declared.fault.VerifyKind.{VerifyKind}
use Rattle.no_verify.specs.declared.fault.VerifyKind.TheVariants as kind

-- ---- one place of a kind

same_place : (x y : FaultPlace) → x.function ≡ y.function → x.block ≡ y.block → x.place ≡ y.place → x ≡ y
same_place x y p q r =
    ap (λ (k : ℕ). fault_at k x.block x.place) p ∙ ap (λ (k : ℕ). fault_at y.function k x.place) q ∙ ap (λ (k : ℕ). fault_at y.function y.block k) r

module _ (functions : List Function) where
  not_both : (x : FaultPlace) (p : IsUnassignedAt functions x) → IsAnswer p.function None → ⊥
  not_both x p none = none-some (x.block, x.place) (one_answer p.function None (Some (x.block, x.place)) none p.first)

  one_place : (x y : FaultPlace) → IsUnassignedAt functions x → IsUnassignedAt functions y → x.function ≡ y.function → x ≡ y
  one_place x y p q same =
      let named : p.function ≡ q.function = same_Some p.function q.function (sym p.is ∙ ap (λ (k : ℕ). slice_get functions k) same ∙ q.is) in
      let first : IsAnswer q.function (Some (x.block, x.place)) = subst (λ (f : Function). IsAnswer f (Some (x.block, x.place))) named p.first in
      let at = same_Some (x.block, x.place) (y.block, y.place) (one_answer q.function (Some (x.block, x.place)) (Some (y.block, y.place)) first q.first) in
      same_place x y same (ap (λ (z : ℕ × ℕ). z.0) at) (ap (λ (z : ℕ × ℕ). z.1) at)

  unassigned_once : (a b : Option FaultPlace) → IsUnassignedPlace functions a → IsUnassignedPlace functions b → a ≡ b
  unassigned_once None None p q = refl
  unassigned_once None (Some y) p q = absurd (not_both y q (p y.function q.function q.is))
  unassigned_once (Some x) None p q = absurd (not_both x p (q x.function p.function p.is))
  unassigned_once (Some x) (Some y) p q = elim (cases_order x.function y.function) [
    | inl same ↦ ap Some (one_place x y p q same)
    | inr other ↦ elim other [
      | inl lt ↦ absurd (not_both x p (q.before x.function p.function lt p.is))
      | inr gt ↦ absurd (not_both y q (p.before y.function q.function gt q.is))
    ]
  ]

-- each kind has one place at most
abbrev Once : (VerifyKind → Option FaultPlace → Type 0) → Type 0
Once is = (k : VerifyKind) (a b : Option FaultPlace) → is k a → is k b → a ≡ b

place_once : (l : Layout) (m : Module) (role : Role) → Once (IsPlace l m role)
place_once l m role kind.UnknownName a b p q = p ∙ sym q
place_once l m role kind.Twice a b p q = p ∙ sym q
place_once l m role kind.TypeMismatch a b p q = p ∙ sym q
place_once l m role kind.NoTerminator a b p q = p ∙ sym q
place_once l m role kind.PhiEdges a b p q = p ∙ sym q
place_once l m role kind.NotAssigned a b p q = unassigned_once m.functions a b p q
place_once l m role kind.UnknownExternal a b p q = p ∙ sym q
place_once l m role kind.NoMain a b p q = p ∙ sym q
place_once l m role kind.ImageTooLarge a b p q = p ∙ sym q
place_once l m role kind.BadType a b p q = p ∙ sym q
place_once l m role kind.BadMark a b p q = p ∙ sym q

-- ---- one first fault

same_fault : (f g : VerifyFault) → f.kind ≡ g.kind → place_of f ≡ place_of g → f ≡ g
same_fault f g p q =
    ap (λ (k : VerifyKind). let z : VerifyFault = record { kind = k; function = f.function; block = f.block; place = f.place } in z) p
    ∙ ap (λ (at : FaultPlace). let z : VerifyFault = record { kind = g.kind; function = at.function; block = at.block; place = at.place } in z) q

module _ (is : VerifyKind → Option FaultPlace → Type 0) (once : Once is) (kinds : List VerifyKind) where
  somewhere : (f : VerifyFault) → IsFirstFault is kinds f → is f.kind None → ⊥
  somewhere f p none = none-some (place_of f) (once f.kind None (Some (place_of f)) none p.place)

  nowhere_or_first : (f : VerifyFault) → AreNowhere is kinds → IsFirstFault is kinds f → ⊥
  nowhere_or_first f nowhere p = somewhere f p (nowhere p.number f.kind p.kind)

  one_kind : (f g : VerifyFault) → IsFirstFault is kinds f → IsFirstFault is kinds g → f.kind ≡ g.kind → f ≡ g
  one_kind f g p q same =
      let here : is g.kind (Some (place_of f)) = subst (λ (k : VerifyKind). is k (Some (place_of f))) same p.place in
      same_fault f g same (same_Some (place_of f) (place_of g) (once g.kind (Some (place_of f)) (Some (place_of g)) here q.place))

  first_once : (f g : VerifyFault) → IsFirstFault is kinds f → IsFirstFault is kinds g → f ≡ g
  first_once f g p q = elim (cases_order p.number q.number) [
    | inl same ↦ one_kind f g p q (same_Some f.kind g.kind (sym p.kind ∙ ap (λ (k : ℕ). slice_get kinds k) same ∙ q.kind))
    | inr other ↦ elim other [
      | inl lt ↦ absurd (somewhere f p (q.before p.number f.kind lt p.kind))
      | inr gt ↦ absurd (somewhere g q (p.before q.number g.kind gt q.kind))
    ]
  ]

-- ---- one verdict

from_ok : (x y : Layout) (r : Result Layout LayoutFault) → r ≡ Ok x → r ≡ Ok y → x ≡ y
from_ok x y r p q = cc

from_err : (x y : LayoutFault) (r : Result Layout LayoutFault) → r ≡ Err x → r ≡ Err y → x ≡ y
from_err x y r p q = cc

ok_or_err : (x : Layout) (y : LayoutFault) (r : Result Layout LayoutFault) → r ≡ Ok x → r ≡ Err y → ⊥
ok_or_err x y r p q = cc

module _ (m : Module) (role : Role) where
  accepted_once : (a b : Accepted) → IsAccepted m role a → IsAccepted m role b → a ≡ b
  accepted_once a b p q =
      let one : a.«module» ≡ b.«module» = p.module_is ∙ sym q.module_is in
      let layout : a.layout ≡ b.layout = from_ok a.layout b.layout (layout_of m.layout) p.layout q.layout in
      let sizes : a.sizes ≡ b.sizes = p.sizes ∙ ap (λ (l : Layout). sizes_of l m.types) layout ∙ sym q.sizes in
      let as' : a.role ≡ b.role = p.role_is ∙ sym q.role_is in
      ap (λ (x : Module). let z : Accepted = record { «module» = x; layout = a.layout; sizes = a.sizes; role = a.role } in z) one
      ∙ ap (λ (x : Layout). let z : Accepted = record { «module» = b.«module»; layout = x; sizes = a.sizes; role = a.role } in z) layout
      ∙ ap (λ (x : List Extent). let z : Accepted = record { «module» = b.«module»; layout = b.layout; sizes = x; role = a.role } in z) sizes
      ∙ ap (λ (x : Role). let z : Accepted = record { «module» = b.«module»; layout = b.layout; sizes = b.sizes; role = x } in z) as'

  accepted_or_faulty : (a : Accepted) (f : VerifyFault) → IsAccepted m role a → IsFaulty m role f → ⊥
  accepted_or_faulty a f p q =
      let same : a.layout ≡ q.layout = from_ok a.layout q.layout (layout_of m.layout) p.layout q.stated in
      let nowhere : AreNowhere (IsPlace q.layout m role) judged_kinds = subst (λ (l : Layout). AreNowhere (IsPlace l m role) judged_kinds) same p.nowhere in
      nowhere_or_first (IsPlace q.layout m role) (place_once q.layout m role) judged_kinds f nowhere q.first

  faulty_once : (f g : VerifyFault) → IsFaulty m role f → IsFaulty m role g → f ≡ g
  faulty_once f g p q =
      let same : p.layout ≡ q.layout = from_ok p.layout q.layout (layout_of m.layout) p.stated q.stated in
      let first : IsFirstFault (IsPlace q.layout m role) judged_kinds f = subst (λ (l : Layout). IsFirstFault (IsPlace l m role) judged_kinds f) same p.first in
      first_once (IsPlace q.layout m role) (place_once q.layout m role) judged_kinds f g first q.first

  -- a module has one verdict
  pub verdict_once : (v w : Verdict) → IsVerdict m role v → IsVerdict m role w → v ≡ w
  verdict_once (Accepts a) (Accepts b) p q = ap (λ (x : Accepted). let v : Verdict = Accepts x in v) (accepted_once a b p q)
  verdict_once (Accepts a) (Unstated f) p q = absurd (ok_or_err a.layout f (layout_of m.layout) p.layout q)
  verdict_once (Accepts a) (Faulty f) p q = absurd (accepted_or_faulty a f p q)
  verdict_once (Unstated f) (Accepts b) p q = absurd (ok_or_err b.layout f (layout_of m.layout) q.layout p)
  verdict_once (Unstated f) (Unstated g) p q = ap (λ (x : LayoutFault). let v : Verdict = Unstated x in v) (from_err f g (layout_of m.layout) p q)
  verdict_once (Unstated f) (Faulty g) p q = absurd (ok_or_err q.layout f (layout_of m.layout) q.stated p)
  verdict_once (Faulty f) (Accepts b) p q = absurd (accepted_or_faulty b f q p)
  verdict_once (Faulty f) (Unstated g) p q = absurd (ok_or_err p.layout g (layout_of m.layout) p.stated q)
  verdict_once (Faulty f) (Faulty g) p q = ap (λ (x : VerifyFault). let v : Verdict = Faulty x in v) (faulty_once f g p q)

  -- so a verdict that is answered is the one
  pub answered : (r : Result Accepted VerifyError) → Answers r (IsVerdict m role) → (v : Verdict) → IsVerdict m role v → Answers r (λ found. found ≡ v)
  answered (Ok a) p v is = verdict_once (Accepts a) v p is
  answered (Err (error.Layout f)) p v is = verdict_once (Unstated f) v p is
  answered (Err (error.Fault f)) p v is = verdict_once (Faulty f) v p is
  answered (Err error.NoMemory) p v is = tt
