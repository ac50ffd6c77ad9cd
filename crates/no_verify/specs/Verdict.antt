-- The verdict on a module: accepted, or the first thing wrong with it.
use Rattle.std.specs.Prelude.{◌≡◌, ◌<◌, ℕ, List, [], ◌∷◌, slice_get, Option, Some, None, Result, Ok, Err}
use Rattle.no_ir.specs.declared.function.Module.{Module}
use Rattle.no_ir.specs.declared.function.Role.{Role}
use Rattle.no_layout.specs.Sizes.{sizes_of}
use Rattle.no_layout.specs.Text.{layout_of}
use Rattle.no_layout.specs.declared.fault.LayoutFault.{LayoutFault}
use Rattle.no_layout.specs.declared.layout.Layout.{Layout}
use Rattle.no_module.specs.Formed.{IsFormed}
use Rattle.no_module.specs.Marks.{MarksAllowed}
use Rattle.no_room.specs.Accepted.{Accepted}
use Rattle.no_verify_types.specs.declared.place.FaultPlace.{FaultPlace}
use Rattle.no_verify_types.specs.Places.{fault_at}
use Rattle.no_verify.specs.declared.fault.VerifyKind.{VerifyKind}
use Rattle.no_verify.specs.declared.fault.VerifyKind.TheVariants as kind
use Rattle.no_verify.specs.declared.fault.VerifyFault.{VerifyFault}
use Rattle.no_verify.specs.declared.fault.VerifyError.{VerifyError}
use Rattle.no_verify.specs.declared.fault.VerifyError.TheVariants as error
use Rattle.no_verify.specs.Kinds.{IsPlace}

-- the kinds of faults that are judged after sizes of types, in their order
abbrev pub later_kinds : List VerifyKind
later_kinds =
    kind.Twice ∷ kind.UnknownName ∷ kind.UnknownExternal ∷ kind.TypeMismatch ∷ kind.NoTerminator ∷ kind.PhiEdges
    ∷ kind.NotAssigned ∷ kind.BadMark ∷ kind.ImageTooLarge ∷ kind.NoMain ∷ []

-- all kinds of faults, in the order in which they are judged
abbrev pub judged_kinds : List VerifyKind
judged_kinds = kind.BadType ∷ later_kinds

-- the place of a fault, without its kind
abbrev pub place_of : VerifyFault → FaultPlace
place_of fault = fault_at fault.function fault.block fault.place

-- no kind of the list has a place
abbrev pub AreNowhere : (VerifyKind → Option FaultPlace → Type 0) → List VerifyKind → Type 0
AreNowhere is kinds = (j : ℕ) (k : VerifyKind) → slice_get kinds j ≡ Some k → is k None

-- nor has one of the first so many
abbrev pub AreNowhereBefore : (VerifyKind → Option FaultPlace → Type 0) → List VerifyKind → ℕ → Type 0
AreNowhereBefore is kinds number = (j : ℕ) (k : VerifyKind) → j < number → slice_get kinds j ≡ Some k → is k None

-- a fault is the first of the first kind of the list that has a place
pub record IsFirstFault (is : VerifyKind → Option FaultPlace → Type 0) (kinds : List VerifyKind) (fault : VerifyFault) : Type 0 where
  pub number : ℕ
  pub kind : slice_get kinds number ≡ Some fault.kind
  pub place : is fault.kind (Some (place_of fault))
  pub before : AreNowhereBefore is kinds number

-- the first fault among kinds, or that there is none
abbrev pub IsLaterAnswer : (VerifyKind → Option FaultPlace → Type 0) → List VerifyKind → Option VerifyFault → Type 0
IsLaterAnswer is kinds None = AreNowhere is kinds
IsLaterAnswer is kinds (Some fault) = IsFirstFault is kinds fault

-- a module is accepted with the layout that its string states and the sizes of its named types: it is formed, a source has no
-- marks of a part, and no kind of fault has a place in it
pub record IsAccepted (m : Module) (role : Role) (a : Accepted) : Type 0 where
  pub module_is : a.«module» ≡ m
  pub role_is : a.role ≡ role
  pub layout : layout_of m.layout ≡ Ok a.layout
  pub sizes : a.sizes ≡ sizes_of a.layout m.types
  pub formed : IsFormed m
  pub marks : MarksAllowed role m
  pub nowhere : AreNowhere (IsPlace a.layout m role) judged_kinds

-- a module whose string states a layout has its first fault here
pub record IsFaulty (m : Module) (role : Role) (fault : VerifyFault) : Type 0 where
  pub layout : Layout
  pub stated : layout_of m.layout ≡ Ok layout
  pub first : IsFirstFault (IsPlace layout m role) judged_kinds fault

-- the verdict on a module: it is accepted, its string states no layout, or it has a first fault
pub data Verdict : Type 0 where
  Accepts : (accepted : Accepted) → Verdict
  Unstated : (fault : LayoutFault) → Verdict
  Faulty : (fault : VerifyFault) → Verdict

-- the layout is judged first, then the kinds in their order
abbrev pub IsVerdict : Module → Role → Verdict → Type 0
IsVerdict m role (Accepts a) = IsAccepted m role a
IsVerdict m role (Unstated fault) = layout_of m.layout ≡ Err fault
IsVerdict m role (Faulty fault) = IsFaulty m role fault

-- what is said of an answer as a verdict, unless memory ran out
abbrev pub Answers : Result Accepted VerifyError → (Verdict → Type 0) → Type 0
Answers (Ok a) P = P (Accepts a)
Answers (Err (error.Layout fault)) P = P (Unstated fault)
Answers (Err (error.Fault fault)) P = P (Faulty fault)
Answers (Err error.NoMemory) P = Unit {0}
