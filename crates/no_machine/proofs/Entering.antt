-- Homes, ranges and arguments of a call.
use Rattle.std.proofs.Common.{◌≡◌, ℕ, ◌+◌, List, [], ◌∷◌, take, drop, slice_get, Some, refl, sym, ap, subst, ◌∙◌, arith}
use Rattle.std.proofs.lemmas.List.{drop-take}
use Rattle.std.proofs.lemmas.Option.{same_Some}
use Rattle.no_code.specs.declared.code.Argument.{Argument}
use Rattle.no_code.specs.declared.code.Code.{Code}
use Rattle.no_code.specs.declared.code.Home.{Home}
use Rattle.no_code.specs.declared.code.Place.{Place}
use Rattle.no_machine.specs.Calling.{IsHomeAt, passed_to}
use Rattle.no_machine.specs.Slots.{IsSlotIn}

pub passed_none : (params : List Argument) (window : List ℕ) → passed_to params [] window ≡ window
passed_none [] window = refl
passed_none (q ∷ params) window = refl

pub home_same : (code : Code) (at : ℕ) (a b : Home) → IsHomeAt code at a → IsHomeAt code at b → a ≡ b
home_same code at a b one other =
    let place : one.place ≡ other.place = same_Some one.place other.place (sym one.place_is ∙ other.place_is) in
    same_Some a b (sym one.is ∙ ap (λ (p : Place). slice_get code.homes p.function) place ∙ other.is)

-- the caller's window below the callee's
pub caller_window : (base registers : ℕ) (slots : List ℕ) → drop base (take (base + registers + 1) slots) ≡ take (registers + 1) (drop base slots)
caller_window base registers slots = let e : base + registers + 1 ≡ base + (registers + 1) = omega arith in ap (λ (k : ℕ). drop base (take k slots)) e ∙ drop-take base (registers + 1) slots

pub each_in : (args table : List Argument) (constants other window lower : List ℕ) → args ≡ table → constants ≡ other → lower ≡ window → ((k : ℕ) (a : Argument) → slice_get table k ≡ Some a → IsSlotIn window other a.slot)
    → (k : ℕ) (a : Argument) → slice_get args k ≡ Some a → IsSlotIn lower constants a.slot
each_in args table constants other window lower same_args same_constants same_window each k a e =
    subst (λ (w : List ℕ). IsSlotIn w constants a.slot) (sym same_window) (subst (λ (cs : List ℕ). IsSlotIn window cs a.slot) (sym same_constants) (each k a (ap (λ (l : List Argument). slice_get l k) (sym same_args) ∙ e)))
