-- Branches and switches.
use Rattle.std.proofs.Common.{◌≡◌, ℕ, ◌+◌, ◌<◌, List, [], ◌∷◌, ◌++◌, length, take, get_or, refl, sym, ap, subst, ◌∙◌, append_assoc, append-nil}
use Rattle.no_ir.specs.declared.instruction.Instr.{Instr}
use Rattle.no_ir.specs.declared.instruction.Op.TheVariants as op
use Rattle.no_ir.specs.declared.instruction.Operand.{Operand}
use Rattle.no_ir.specs.declared.function.Function.{Function}
use Rattle.no_code.specs.declared.code.Case.{Case}
use Rattle.no_code.specs.declared.code.Cell.TheVariants as cell
use Rattle.no_code.specs.declared.code.Code.{Code}
use Rattle.no_code.specs.declared.frame.Frame.{Frame}
use Rattle.no_code.specs.Coded.{IsCase}
use Rattle.no_code.specs.Longer.{Adds, Longer}
use Rattle.no_code.specs.Making.{EdgeStays, Grows, GrowsEdge, PutsCases, Stays}
use Rattle.no_code.specs.Slots.{IsSlot}
use Rattle.no_code.specs.Source.{Source}
use Rattle.no_code.proofs.Kept.{grows_adds}
use Rattle.no_code.proofs.Grown.{longer_more, longer_same, same, slot_stays}
use Rattle.no_code.proofs.Lists.{each_more, range_stays}

pub grows_same : (a : Code) → Grows a a
grows_same a = record { longer = longer_same a; cells = refl; places = refl; homes = refl }

pub grows_more : (a b c : Code) → Grows a b → Grows b c → Grows a c
grows_more a b c r s = record { longer = longer_more a b c r.longer s.longer; cells = s.cells ∙ r.cells; places = s.places ∙ r.places; homes = s.homes ∙ r.homes }

grows_case : (a b : Code) (v : Case) → b ≡ record a { cases = a.cases ++ v ∷ [] } → Grows a b
grows_case a b v is = subst (λ (x : Code). Grows a x) (sym is) (record {
  longer = record { cells = same a.cells; places = same a.places; homes = same a.homes; constants = same a.constants; edges = same a.edges; moves = same a.moves; arguments = same a.arguments; steps = same a.steps; cases = (v ∷ [], refl) };
  cells = refl;
  places = refl;
  homes = refl;
})

module _ (s : Source) (g : Function) (f : Frame) where
  pub br_stays : (i : Instr) (a new : Code) (to e : ℕ) → i.op ≡ op.Br to → GrowsEdge a new → EdgeStays s g f new to e → Grows a new × Stays s g f new i (cell.Br e)
  br_stays i a new to e is grown stays = (grown.grows, λ later r. record { to = to; is = is; edge = stays later r })

  pub cond_br_stays : (i : Instr) (a b c new : Code) (v : Operand) (x to e other d : ℕ) → i.op ≡ op.CondBr v to other → Adds a b → IsSlot s f.registers b.constants 1 v x → GrowsEdge b c → EdgeStays s g f c to e → GrowsEdge c new → EdgeStays s g f new other d
      → Grows a new × Stays s g f new i (cell.CondBr x e d)
  cond_br_stays i a b c new v x to e other d is added slot first one second two = (
    grows_more a b new (grows_adds a b added) (grows_more b c new first.grows second.grows),
    λ later r.
        let last : Longer c later = longer_more c new later second.grows.longer r in
        let all : Longer b later = longer_more b c later first.grows.longer last in
        record {
          a = v;
          to = to;
          other = other;
          is = is;
          condition = slot_stays s f.registers b.constants later.constants 1 v x all.constants slot;
          edge = one later last;
          other_edge = two later r;
        },
  )

  pub cases_none : (a : Code) (given : List (ℕ × ℕ)) → PutsCases s g f a a (take 0 given)
  cases_none a given = record { grows = grows_same a; cases = []; are = sym (append-nil a.cases); each = λ later r. tt }

  pub cases_more : (a b mid new : Code) (given : List (ℕ × ℕ)) (k : ℕ) (d : ℕ × ℕ) (v : Case) → k < length given → PutsCases s g f a b (take k given)
      → GrowsEdge b mid → v.number ≡ (get_or given k d).0 → EdgeStays s g f mid (get_or given k d).1 v.edge → new ≡ record mid { cases = mid.cases ++ v ∷ [] } → PutsCases s g f a new (take (k + 1) given)
  cases_more a b mid new given k d v lt before grown number stays put =
      let last : Grows mid new = grows_case mid new v put in
      record {
        grows = grows_more a b new before.grows (grows_more b mid new grown.grows last);
        cases = before.cases ++ v ∷ [];
        are = ap (λ (x : Code). x.cases) put ∙ ap (λ (l : List Case). l ++ v ∷ []) (grown.cases ∙ before.are) ∙ append_assoc a.cases before.cases (v ∷ []);
        each = λ later r.
            let after : Longer mid later = longer_more mid new later last.longer r in
            each_more (IsCase s f.registers later g f.base f.label) given before.cases k d v lt (before.each later (longer_more b mid later grown.grows.longer after))
            (number, stays later after);
      }

  pub switch_stays : (i : Instr) (a b c new : Code) (w : ℕ) (v : Operand) (x default e from to : ℕ) (given : List (ℕ × ℕ)) → i.op ≡ op.Switch w v default given → Adds a b → IsSlot s f.registers b.constants w v x → GrowsEdge b c → EdgeStays s g f c default e
      → PutsCases s g f c new given → from ≡ length c.cases → to ≡ length new.cases → Grows a new × Stays s g f new i (cell.Switch x e from to)
  switch_stays i a b c new w v x default e from to given is added slot first one p start end = (
    grows_more a b new (grows_adds a b added) (grows_more b c new first.grows p.grows),
    λ later r.
        let last : Longer c later = longer_more c new later p.grows.longer r in
        let all : Longer b later = longer_more b c later first.grows.longer last in
        record {
          w = w;
          a = v;
          default = default;
          given = given;
          cases = p.cases;
          is = is;
          value = slot_stays s f.registers b.constants later.constants w v x all.constants slot;
          edge = one later last;
          range = range_stays c.cases p.cases new.cases later.cases from to start end p.are r.cases;
          each = p.each later r;
        },
  )
