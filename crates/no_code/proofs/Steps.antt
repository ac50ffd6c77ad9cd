-- Steps into types.
use Rattle.std.proofs.Common.{◌≡◌, ℕ, ◌+◌, ◌<◌, ◌≤◌, List, [], ◌∷◌, ◌++◌, length, drop, get_or, Option, Some, None, refl, sym, ap, subst, ◌∙◌, arith, append_assoc, append-nil}
use Rattle.std.proofs.lemmas.List.{at_drop_more, at_drop_all}
use Rattle.no_ir.specs.declared.types.Ty.{Ty, out-Ty}
use Rattle.no_ir.specs.declared.types.Ty.TheOpen.{Ty-F}
use Rattle.no_ir.specs.declared.instruction.Instr.{Instr}
use Rattle.no_ir.specs.declared.instruction.Op.TheVariants as op
use Rattle.no_ir.specs.declared.instruction.Operand.{Operand}
use Rattle.no_ir.specs.declared.function.Function.{Function}
use Rattle.no_semantics.specs.Indices.{resolved}
use Rattle.no_semantics.specs.Sound.{field_number, known_part}
use Rattle.no_code.specs.declared.code.Cell.TheVariants as cell
use Rattle.no_code.specs.declared.code.Code.{Code}
use Rattle.no_code.specs.declared.code.Step.{Step}
use Rattle.no_code.specs.declared.code.Step.TheVariants as step
use Rattle.no_code.specs.declared.frame.Frame.{Frame}
use Rattle.no_code.specs.Coded.{AreInner, ArePath, IsField, IsIndex, IsPartStep, Told}
use Rattle.no_code.specs.Longer.{Adds, Extends}
use Rattle.no_code.specs.Making.{Grows, LeadsOn, PutsSteps, Stays}
use Rattle.no_code.specs.Slots.{IsInto, IsSlot}
use Rattle.no_code.specs.Source.{Source}
use Rattle.no_code.proofs.Branches.{grows_more}
use Rattle.no_code.proofs.Kept.{grows_adds}
use Rattle.no_code.proofs.Grown.{further, longer_more, same, slot_stays}
use Rattle.no_code.proofs.Lists.{range_stays}

pub steps_longer : (a b : Code) (P : Code → List Step → Type 0) → PutsSteps a b P → Grows a b
steps_longer a b P p = subst (λ (x : Code). Grows a x) (sym p.is) (record {
  longer = record { cells = same a.cells; places = same a.places; homes = same a.homes; constants = (p.more, refl); edges = same a.edges; moves = same a.moves; arguments = same a.arguments; steps = (p.steps, refl); cases = same a.cases };
  cells = refl;
  places = refl;
  homes = refl;
})

-- a step was added
pub steps_one : (a mid new : Code) (one : Step) (R : Code → Step → Type 0) → Adds a mid → ((later : Code) → Extends mid.constants later.constants → R later one) → new ≡ record mid { steps = mid.steps ++ one ∷ [] }
    → PutsSteps a new (λ later steps. (x : Step) × (steps ≡ x ∷ []) × R later x)
steps_one a mid new one R added stays put = record {
  steps = one ∷ [];
  more = added.0;
  is = put ∙ ap (λ (x : Code). record x { steps = x.steps ++ one ∷ [] }) added.1;
  means = λ later r. (one, refl, stays later (further mid.constants new.constants later.constants ([], ap (λ (x : Code). x.constants) put ∙ sym (append-nil mid.constants)) r.constants));
}

module _ (s : Source) (n : ℕ) where
  pub index_stays : (a b : Code) (t : Ty) (index : ℕ × Operand) (one : Step) → Extends a.constants b.constants → IsIndex s n a t index one → IsIndex s n b t index one
  index_stays a b t index (step.Index w x stride) e is = (is.0, slot_stays s n a.constants b.constants index.0 index.1 x e is.1, is.2)
  index_stays a b t index (step.Field offset) e is = is

  field_stays : (a b : Code) (t : Ty) (k : Option ℕ) (one : Step) → IsField s n a t k one → IsField s n b t k one
  field_stays a b t None one is = is
  field_stays a b t (Some k) (step.Index w x stride) is = is
  field_stays a b t (Some k) (step.Field offset) is = is

  pub part_stays : (a b : Code) (t : Ty) (shape : Ty-F Ty) (index : ℕ × Operand) (one : Step) → Extends a.constants b.constants → IsPartStep s n a t shape index one → IsPartStep s n b t shape index one
  part_stays a b t (Ty-F.Array count element) index one e is = index_stays a b element index one e is
  part_stays a b t (Ty-F.Struct packed fields) index one e is = field_stays a b t (field_number index) one is
  part_stays a b t Ty-F.Void index one e is = is
  part_stays a b t (Ty-F.Int w) index one e is = is
  part_stays a b t Ty-F.Ptr index one e is = is
  part_stays a b t (Ty-F.Named k) index one e is = is

  pub path_empty : (a : Code) (t : Ty) (indices : List (ℕ × Operand)) → indices ≡ [] → PutsSteps a a (λ later steps. ArePath s n later t indices steps)
  path_empty a t indices is = record {
    steps = [];
    more = [];
    is = ap (λ (l : List ℕ). record a { constants = l }) (sym (append-nil a.constants)) ∙ ap (λ (l : List Step). record a { constants = a.constants ++ []; steps = l }) (sym (append-nil a.steps));
    means = λ later r. subst (λ (l : List (ℕ × Operand)). ArePath s n later t l []) (sym is) refl;
  }

  lead_in : (later : Code) (t : Ty) (indices : List (ℕ × Operand)) (d : ℕ × Operand) (one : Step) (steps rest : List Step) → 0 < length indices → d ≡ get_or indices 0 d → steps ≡ one ∷ [] → IsIndex s n later t d one
      → AreInner s n later t (drop 1 indices) rest → ArePath s n later t indices (steps ++ rest)
  lead_in later t [] d one steps rest lt at is index inner = absurd (omega arith)
  lead_in later t (i ∷ indices) d one steps rest lt at is index inner =
      (one, rest, ap (λ (l : List Step). l ++ rest) is, subst (λ (x : ℕ × Operand). IsIndex s n later t x one) at index, inner)

  pub lead_first : (a b : Code) (t : Ty) (indices : List (ℕ × Operand)) (d : ℕ × Operand) → 0 < length indices → d ≡ get_or indices 0 d → PutsSteps a b (λ later steps. (x : Step) × (steps ≡ x ∷ []) × IsIndex s n later t d x)
      → PutsSteps a b (LeadsOn s n t indices 1 t)
  lead_first a b t indices d lt at p = record {
    steps = p.steps;
    more = p.more;
    is = p.is;
    means = λ later r rest inner. let one = p.means later r in lead_in later t indices d one.0 p.steps rest lt at one.1 one.2 inner;
  }

  inner_on : (later : Code) (at whole next : Ty) (d : ℕ × Operand) (others : List (ℕ × Operand)) (one : Step) (rest : List Step) → whole ≡ resolved s.«module».types at → known_part (out-Ty whole) d ≡ Some next
      → IsPartStep s n later whole (out-Ty whole) d one → AreInner s n later next others rest → AreInner s n later at (d ∷ others) (one ∷ rest)
  inner_on later at whole next d others one rest is known part inner =
      subst (λ (u : Ty). Told (known_part (out-Ty u) d) (λ v. (x : Step) × (more : List Step) × (one ∷ rest ≡ x ∷ more) × IsPartStep s n later u (out-Ty u) d x × AreInner s n later v others more)) is
      (subst (λ (o : Option Ty). Told o (λ v. (x : Step) × (more : List Step) × (one ∷ rest ≡ x ∷ more) × IsPartStep s n later whole (out-Ty whole) d x × AreInner s n later v others more)) (sym known)
      (one, rest, refl, part, inner))

  inner_stop : (later : Code) (at whole : Ty) (d : ℕ × Operand) (others : List (ℕ × Operand)) → whole ≡ resolved s.«module».types at → known_part (out-Ty whole) d ≡ None → AreInner s n later at (d ∷ others) []
  inner_stop later at whole d others is none =
      subst (λ (u : Ty). Told (known_part (out-Ty u) d) (λ v. (x : Step) × (more : List Step) × ([] ≡ x ∷ more) × IsPartStep s n later u (out-Ty u) d x × AreInner s n later v others more)) is
      (subst (λ (o : Option Ty). Told o (λ v. (x : Step) × (more : List Step) × ([] ≡ x ∷ more) × IsPartStep s n later whole (out-Ty whole) d x × AreInner s n later v others more)) (sym none) tt)

  split : (indices : List (ℕ × Operand)) (k : ℕ) (d : ℕ × Operand) → k < length indices → d ≡ get_or indices k d → drop k indices ≡ d ∷ drop (k + 1) indices
  split indices k d lt at = at_drop_more (λ (l : List (ℕ × Operand)). l) indices k d lt ∙ ap (λ (x : ℕ × Operand). x ∷ drop (k + 1) indices) (sym at)

  pub lead_more : (a b new : Code) (t at whole next : Ty) (indices : List (ℕ × Operand)) (k : ℕ) (d : ℕ × Operand) → k < length indices → d ≡ get_or indices k d → whole ≡ resolved s.«module».types at → known_part (out-Ty whole) d ≡ Some next
      → PutsSteps a b (LeadsOn s n t indices k at) → PutsSteps b new (λ later steps. (x : Step) × (steps ≡ x ∷ []) × IsPartStep s n later whole (out-Ty whole) d x) → PutsSteps a new (LeadsOn s n t indices (k + 1) next)
  lead_more a b new t at whole next indices k d lt place is known p q = record {
    steps = p.steps ++ q.steps;
    more = p.more ++ q.more;
    is = q.is ∙ ap (λ (x : Code). record x { constants = x.constants ++ q.more; steps = x.steps ++ q.steps }) p.is
        ∙ ap (λ (l : List ℕ). record a { constants = l; steps = (a.steps ++ p.steps) ++ q.steps }) (append_assoc a.constants p.more q.more)
        ∙ ap (λ (l : List Step). record a { constants = a.constants ++ (p.more ++ q.more); steps = l }) (append_assoc a.steps p.steps q.steps);
    means = λ later r rest inner.
        let one = q.means later r in
        let joined : (p.steps ++ q.steps) ++ rest ≡ p.steps ++ (one.0 ∷ rest) = append_assoc p.steps q.steps rest ∙ ap (λ (l : List Step). p.steps ++ (l ++ rest)) one.1 in
        subst (λ (l : List Step). ArePath s n later t indices l) (sym joined)
        (p.means later (longer_more b new later (steps_longer b new _ q).longer r) (one.0 ∷ rest)
        (subst (λ (l : List (ℕ × Operand)). AreInner s n later at l (one.0 ∷ rest)) (sym (split indices k d lt place)) (inner_on later at whole next d (drop (k + 1) indices) one.0 rest is known one.2 inner)));
  }

  pub lead_stop : (a b : Code) (t at whole : Ty) (indices : List (ℕ × Operand)) (k : ℕ) (d : ℕ × Operand) → k < length indices → d ≡ get_or indices k d → whole ≡ resolved s.«module».types at → known_part (out-Ty whole) d ≡ None
      → PutsSteps a b (LeadsOn s n t indices k at) → PutsSteps a b (λ later steps. ArePath s n later t indices steps)
  lead_stop a b t at whole indices k d lt place is none p = record {
    steps = p.steps;
    more = p.more;
    is = p.is;
    means = λ later r. subst (λ (l : List Step). ArePath s n later t indices l) (append-nil p.steps)
        (p.means later r [] (subst (λ (l : List (ℕ × Operand)). AreInner s n later at l []) (sym (split indices k d lt place)) (inner_stop later at whole d (drop (k + 1) indices) is none)));
  }

  pub lead_end : (a b : Code) (t at : Ty) (indices : List (ℕ × Operand)) (k : ℕ) → length indices ≤ k → PutsSteps a b (LeadsOn s n t indices k at) → PutsSteps a b (λ later steps. ArePath s n later t indices steps)
  lead_end a b t at indices k le p = record {
    steps = p.steps;
    more = p.more;
    is = p.is;
    means = λ later r. subst (λ (l : List Step). ArePath s n later t indices l) (append-nil p.steps)
        (p.means later r [] (subst (λ (l : List (ℕ × Operand)). AreInner s n later at l []) (sym (at_drop_all (λ (l : List (ℕ × Operand)). l) indices k le)) refl));
  }

pub gep_stays : (s : Source) (g : Function) (f : Frame) (i : Instr) (a mid new : Code) (t : Ty) (v : Operand) (indices : List (ℕ × Operand)) (x into from to : ℕ) → i.op ≡ op.Gep t v indices → IsInto f.registers i.result into → Adds a mid
    → IsSlot s f.registers mid.constants s.layout.pointer v x → PutsSteps mid new (λ later steps. ArePath s f.registers later t indices steps) → from ≡ length mid.steps → to ≡ length new.steps → Grows a new × Stays s g f new i (cell.Gep into x from to)
gep_stays s g f i a mid new t v indices x into from to is result added slot p first last =
    let grown = steps_longer mid new _ p in (
      grows_more a mid new (grows_adds a mid added) grown,
      λ later r. record {
        t = t;
        a = v;
        indices = indices;
        steps = p.steps;
        is = is;
        result = result;
        base = slot_stays s f.registers mid.constants later.constants s.layout.pointer v x (further mid.constants new.constants later.constants grown.longer.constants r.constants) slot;
        range = range_stays mid.steps p.steps new.steps later.steps from to first last (ap (λ (y : Code). y.steps) p.is) r.steps;
        path = p.means later r;
      },
    )
