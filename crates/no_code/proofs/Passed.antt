-- Arguments of calls, and calls themselves.
use Rattle.std.proofs.Common.{◌≡◌, ℕ, ◌+◌, ◌<◌, List, [], ◌∷◌, ◌++◌, length, take, get_or, Some, None, refl, sym, ap, subst, ◌∙◌, append_assoc, append-nil}
use Rattle.no_ir.specs.declared.types.Ty.{Ty}
use Rattle.no_ir.specs.declared.instruction.Operand.{Operand}
use Rattle.no_ir.specs.declared.instruction.Op.TheVariants as op
use Rattle.no_ir.specs.declared.instruction.Instr.{Instr}
use Rattle.no_ir.specs.declared.function.Function.{Function}
use Rattle.no_semantics.specs.Values.{width_of}
use Rattle.no_code.specs.declared.code.Argument.{Argument}
use Rattle.no_code.specs.declared.code.Cell.TheVariants as cell
use Rattle.no_code.specs.declared.code.Code.{Code}
use Rattle.no_code.specs.declared.frame.Frame.{Frame}
use Rattle.no_code.specs.Coded.{IsArgument, direct, kind_of}
use Rattle.no_code.specs.Longer.{Adds, Extends}
use Rattle.no_code.specs.Making.{Grows, PutsArguments, Stays}
use Rattle.no_code.specs.Slots.{IsInto, IsSlot}
use Rattle.no_code.specs.Source.{Source}
use Rattle.no_code.proofs.Grown.{adds_constants, further, same, slot_stays}
use Rattle.no_code.proofs.Lists.{each_map, each_more, range_stays}

pub argument_stays : (s : Source) (n : ℕ) (a b : Code) (given : Ty × Operand) (v : Argument) → Extends a.constants b.constants → IsArgument s n a given v → IsArgument s n b given v
argument_stays s n a b given v e is = (slot_stays s n a.constants b.constants (width_of s.layout given.0) given.1 v.slot e is.0, is.1)

pub arguments_none : (s : Source) (n : ℕ) (a : Code) (given : List (Ty × Operand)) → PutsArguments s n a a (take 0 given)
arguments_none s n a given = record {
  arguments = [];
  more = [];
  is = ap (λ (l : List ℕ). record a { constants = l }) (sym (append-nil a.constants)) ∙ ap (λ (l : List Argument). record a { constants = a.constants ++ []; arguments = l }) (sym (append-nil a.arguments));
  each = tt;
}

pub arguments_more : (s : Source) (n : ℕ) (a b mid new : Code) (given : List (Ty × Operand)) (k : ℕ) (d : Ty × Operand) (v : Argument) → k < length given → d ≡ get_or given k d → PutsArguments s n a b (take k given)
    → Adds b mid → IsArgument s n mid d v → new ≡ record mid { arguments = mid.arguments ++ v ∷ [] } → PutsArguments s n a new (take (k + 1) given)
arguments_more s n a b mid new given k d v lt at before added is put =
    let first : mid ≡ record a { constants = a.constants ++ (before.more ++ added.0); arguments = a.arguments ++ before.arguments } =
    added.1 ∙ ap (λ (x : Code). record x { constants = x.constants ++ added.0 }) before.is ∙ ap (λ (l : List ℕ). record a { constants = l; arguments = a.arguments ++ before.arguments }) (append_assoc a.constants before.more added.0) in
    let constants : new.constants ≡ mid.constants = ap (λ (x : Code). x.constants) put in
    let here : Extends mid.constants new.constants = ([], constants ∙ sym (append-nil mid.constants)) in
    let there : Extends b.constants new.constants = further b.constants mid.constants new.constants (adds_constants b mid added) here in
    record {
      arguments = before.arguments ++ v ∷ [];
      more = before.more ++ added.0;
      is = put ∙ ap (λ (x : Code). record x { arguments = x.arguments ++ v ∷ [] }) first
          ∙ ap (λ (l : List Argument). record a { constants = a.constants ++ (before.more ++ added.0); arguments = l }) (append_assoc a.arguments before.arguments (v ∷ []));
      each = each_more (IsArgument s n new) given before.arguments k d v lt
          (each_map (IsArgument s n b) (IsArgument s n new) (take k given) before.arguments (λ x y r. argument_stays s n b new x y there r) before.each)
          (subst (λ (x : Ty × Operand). IsArgument s n new x v) at (argument_stays s n mid new d v here is));
    }

pub grows_arguments : (s : Source) (n : ℕ) (a b : Code) (given : List (Ty × Operand)) → PutsArguments s n a b given → Grows a b
grows_arguments s n a b given p = subst (λ (x : Code). Grows a x) (sym p.is) (record {
  longer = record { cells = same a.cells; places = same a.places; homes = same a.homes; constants = (p.more, refl); edges = same a.edges; moves = same a.moves; arguments = (p.arguments, refl); steps = same a.steps; cases = same a.cases };
  cells = refl;
  places = refl;
  homes = refl;
})

-- a call by name
pub call_stays : (s : Source) (g : Function) (f : Frame) (i : Instr) (a new : Code) (t : Ty) (callee : Operand) (given : List (Ty × Operand)) (k into from to : ℕ) → i.op ≡ op.Call t callee given → direct callee ≡ Some k → IsInto f.registers i.result into
    → PutsArguments s f.registers a new given → from ≡ length a.arguments → to ≡ length new.arguments → Stays s g f new i (cell.Call into k from to)
call_stays s g f i a new t callee given k into from to is names result p first last later r = record {
  t = t;
  callee = callee;
  given = given;
  arguments = p.arguments;
  is = is;
  names = names;
  result = result;
  range = range_stays a.arguments p.arguments new.arguments later.arguments from to first last (ap (λ (x : Code). x.arguments) p.is) r.arguments;
  each = each_map (IsArgument s f.registers new) (IsArgument s f.registers later) given p.arguments (λ x y q. argument_stays s f.registers new later x y r.constants q) p.each;
}

-- a call through a pointer
pub call_at_stays : (s : Source) (g : Function) (f : Frame) (i : Instr) (a mid put new : Code) (t : Ty) (callee : Operand) (given : List (Ty × Operand)) (x into from to : ℕ) → i.op ≡ op.Call t callee given → direct callee ≡ None → IsInto f.registers i.result into
    → Adds a mid → IsSlot s f.registers mid.constants s.layout.pointer callee x → put ≡ record mid { arguments = mid.arguments ++ (record { slot = x; kind = kind_of t }) ∷ [] }
    → PutsArguments s f.registers put new given → from ≡ length mid.arguments → to ≡ length new.arguments → Grows a new × Stays s g f new i (cell.CallAt into from to)
call_at_stays s g f i a mid put new t callee given x into from to is names result added slot placed p first last =
    let head : Argument = record { slot = x; kind = kind_of t } in
    let table : new.arguments ≡ mid.arguments ++ (head ∷ p.arguments) =
    ap (λ (y : Code). y.arguments) p.is ∙ ap (λ (y : Code). y.arguments ++ p.arguments) placed ∙ append_assoc mid.arguments (head ∷ []) p.arguments in
    let constants : Extends mid.constants new.constants = (p.more, ap (λ (y : Code). y.constants) p.is ∙ ap (λ (y : Code). y.constants ++ p.more) placed) in (
      longer_at a mid put new head added placed p,
      λ later r. record {
        t = t;
        callee = callee;
        given = given;
        x = x;
        arguments = p.arguments;
        is = is;
        names = names;
        result = result;
        target = slot_stays s f.registers mid.constants later.constants s.layout.pointer callee x (further mid.constants new.constants later.constants constants r.constants) slot;
        range = range_stays mid.arguments (head ∷ p.arguments) new.arguments later.arguments from to first last table r.arguments;
        each = each_map (IsArgument s f.registers new) (IsArgument s f.registers later) given p.arguments (λ y z q. argument_stays s f.registers new later y z r.constants q) p.each;
      },
    )
  where
    longer_at : (a mid put new : Code) (head : Argument) → Adds a mid → put ≡ record mid { arguments = mid.arguments ++ head ∷ [] } → PutsArguments s f.registers put new given → Grows a new
    longer_at a mid put new head added placed p =
        let whole : new ≡ record a { constants = (a.constants ++ added.0) ++ p.more; arguments = (a.arguments ++ head ∷ []) ++ p.arguments } =
        p.is ∙ ap (λ (y : Code). record y { constants = y.constants ++ p.more; arguments = y.arguments ++ p.arguments }) (placed ∙ ap (λ (y : Code). record y { arguments = y.arguments ++ head ∷ [] }) added.1) in
        subst (λ (y : Code). Grows a y) (sym whole) (record {
          longer = record { cells = same a.cells; places = same a.places; homes = same a.homes; constants = (added.0 ++ p.more, append_assoc a.constants added.0 p.more); edges = same a.edges; moves = same a.moves; arguments = ((head ∷ []) ++ p.arguments, append_assoc a.arguments (head ∷ []) p.arguments); steps = same a.steps; cases = same a.cases };
          cells = refl;
          places = refl;
          homes = refl;
        })
