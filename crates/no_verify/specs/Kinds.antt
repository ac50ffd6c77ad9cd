-- Where each kind of fault is first.
use Rattle.std.specs.Prelude.{◌≡◌, ◌<◌, ℕ, List, slice_get, Option, Some, None}
use Rattle.no_ir.specs.declared.function.Function.{Function}
use Rattle.no_ir.specs.declared.function.Module.{Module}
use Rattle.no_ir.specs.declared.function.Role.{Role}
use Rattle.no_layout.specs.Sizes.{sizes_of}
use Rattle.no_layout.specs.declared.layout.Layout.{Layout}
use Rattle.no_verify_types.specs.declared.place.FaultPlace.{FaultPlace}
use Rattle.no_verify_types.specs.Places.{external_fault_of, type_fault_of}
use Rattle.no_verify_paths.specs.Paths.{IsAnswer}
use Rattle.no_verify_structure.specs.Ending.{ending_of}
use Rattle.no_verify_structure.specs.Entry.{entry_of}
use Rattle.no_verify_structure.specs.Large.{large_of}
use Rattle.no_verify_structure.specs.Marks.{marks_of}
use Rattle.no_verify_structure.specs.Phis.{phis_of}
use Rattle.no_verify_structure.specs.Room.{room_fault_of}
use Rattle.no_verify_structure.specs.Twice.{twice_of}
use Rattle.no_verify_structure.specs.Unknown.{unknown_of}
use Rattle.no_verify.specs.declared.fault.VerifyKind.{VerifyKind}
use Rattle.no_verify.specs.declared.fault.VerifyKind.TheVariants as kind

-- each of the functions before function k assigns its registers on every path before they are used
abbrev pub AreAssigned : List Function → ℕ → Type 0
AreAssigned functions k = (j : ℕ) (f : Function) → j < k → slice_get functions j ≡ Some f → IsAnswer f None

-- the first use of a register that some path of its function reaches unassigned
pub record IsUnassignedAt (functions : List Function) (place : FaultPlace) : Type 0 where
  pub function : Function
  pub is : slice_get functions place.function ≡ Some function
  pub first : IsAnswer function (Some (place.block, place.place))
  pub before : AreAssigned functions place.function

-- the first such use in a module, or that there is none
abbrev pub IsUnassignedPlace : List Function → Option FaultPlace → Type 0
IsUnassignedPlace functions None = (j : ℕ) (f : Function) → slice_get functions j ≡ Some f → IsAnswer f None
IsUnassignedPlace functions (Some place) = IsUnassignedAt functions place

-- a module under its layout has its first fault of a kind here, or none of this kind
abbrev pub IsPlace : Layout → Module → Role → VerifyKind → Option FaultPlace → Type 0
IsPlace l m role kind.UnknownName place = place ≡ unknown_of m
IsPlace l m role kind.Twice place = place ≡ twice_of m
IsPlace l m role kind.TypeMismatch place = place ≡ type_fault_of m role
IsPlace l m role kind.NoTerminator place = place ≡ ending_of m
IsPlace l m role kind.PhiEdges place = place ≡ phis_of m
IsPlace l m role kind.NotAssigned place = IsUnassignedPlace m.functions place
IsPlace l m role kind.UnknownExternal place = place ≡ external_fault_of m role
IsPlace l m role kind.NoMain place = place ≡ entry_of m role
IsPlace l m role kind.ImageTooLarge place = place ≡ room_fault_of l (sizes_of l m.types) m
IsPlace l m role kind.BadType place = place ≡ large_of l m
IsPlace l m role kind.BadMark place = place ≡ marks_of m role

-- ---- numbers

-- the number that a line or a frame states for a kind of fault
abbrev pub number_of : VerifyKind → ℕ
number_of kind.UnknownName = 1
number_of kind.Twice = 2
number_of kind.TypeMismatch = 3
number_of kind.NoTerminator = 4
number_of kind.PhiEdges = 5
number_of kind.NotAssigned = 6
number_of kind.UnknownExternal = 7
number_of kind.NoMain = 8
number_of kind.ImageTooLarge = 9
number_of kind.BadType = 10
number_of kind.BadMark = 11
