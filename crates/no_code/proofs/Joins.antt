-- Moves of phis, and edges.
use Rattle.std.proofs.Common.{◌≡◌, ℕ, zero, suc, ◌+◌, ◌-◌, ◌<◌, ◌≤◌, Bool, true, false, if◌then◌else◌, List, [], ◌∷◌, ◌++◌, length, take, drop, get_or, slice_get, Option, Some, None, refl, sym, ap, subst, ◌∙◌, arith, append_assoc, append-nil}
use Rattle.std.proofs.lemmas.List.{take_more, length-append, at_drop_more}
use Rattle.no_ir.specs.declared.instruction.Instr.{Instr}
use Rattle.no_ir.specs.declared.instruction.Op.{Op}
use Rattle.no_ir.specs.declared.instruction.Op.TheVariants as op
use Rattle.no_ir.specs.declared.instruction.Operand.{Operand}
use Rattle.no_ir.specs.declared.function.Block.{Block}
use Rattle.no_ir.specs.declared.function.Function.{Function}
use Rattle.no_semantics.specs.Values.{width_of}
use Rattle.no_code.specs.declared.code.Code.{Code}
use Rattle.no_code.specs.declared.code.Edge.{Edge}
use Rattle.no_code.specs.declared.code.Move.{Move}
use Rattle.no_code.specs.declared.frame.Frame.{Frame}
use Rattle.no_code.specs.Coded.{Each, IsFrom, IsMove, IsTaken, LeadsTo, before, block_found, block_of, incoming, is_phi, phis}
use Rattle.no_code.specs.Longer.{Adds, Extends}
use Rattle.no_code.specs.Making.{EdgeStays, GrowsEdge, PutsMoves}
use Rattle.no_code.specs.Slots.{IsInto}
use Rattle.no_code.specs.Source.{Source}
use Rattle.no_code.proofs.Grown.{adds_constants, further, last_at, same, slot_stays, stays_at}
use Rattle.no_code.proofs.Lists.{each_length, each_map, each_more, range_stays}

-- ---- phis at the head

-- the first k are phis
abbrev pub Heads : List Instr → ℕ → Type 0
Heads is k = phis is ≡ take k is ++ phis (drop k is)

pub heads_none : (is : List Instr) → Heads is 0
heads_none is = refl

phis_step : (is : List Instr) (k : ℕ) (d : Instr) → k < length is → phis (drop k is) ≡ if is_phi (get_or is k d).op then get_or is k d ∷ phis (drop (k + 1) is) else []
phis_step is k d lt = at_drop_more phis is k d lt

pub heads_more : (is : List Instr) (k : ℕ) (d : Instr) → k < length is → d ≡ get_or is k d → is_phi d.op ≡ true → Heads is k → Heads is (k + 1)
heads_more is k d lt at phi heads =
    let one : is_phi (get_or is k d).op ≡ true = subst (λ (i : Instr). is_phi i.op ≡ true) at phi in
    let step : phis (drop k is) ≡ get_or is k d ∷ phis (drop (k + 1) is) = phis_step is k d lt ∙ ap (λ (b : Bool). if b then get_or is k d ∷ phis (drop (k + 1) is) else []) one in
    heads ∙ ap (λ (l : List Instr). take k is ++ l) step ∙ sym (append_assoc (take k is) (get_or is k d ∷ []) (phis (drop (k + 1) is)))
    ∙ ap (λ (l : List Instr). l ++ phis (drop (k + 1) is)) (sym (take_more is k d lt))

pub heads_stop : (is : List Instr) (k : ℕ) (d : Instr) → k < length is → d ≡ get_or is k d → is_phi d.op ≡ false → Heads is k → take k is ≡ phis is
heads_stop is k d lt at other heads =
    let none : is_phi (get_or is k d).op ≡ false = subst (λ (i : Instr). is_phi i.op ≡ false) at other in
    let step : phis (drop k is) ≡ [] = phis_step is k d lt ∙ ap (λ (b : Bool). if b then get_or is k d ∷ phis (drop (k + 1) is) else []) none in
    sym (heads ∙ ap (λ (l : List Instr). take k is ++ l) step ∙ append-nil (take k is))

pub heads_all : (is : List Instr) (k : ℕ) → length is ≤ k → Heads is k → take k is ≡ phis is
heads_all is k le heads = sym (heads ∙ ap (λ (l : List Instr). take k is ++ phis l) (none is k le) ∙ append-nil (take k is))
  where
    none : (is : List Instr) (k : ℕ) → length is ≤ k → drop k is ≡ []
    none [] zero le = refl
    none [] (suc k) le = refl
    none (i ∷ is) zero le = absurd (omega arith)
    none (i ∷ is) (suc k) le = none is k (omega arith)

counted : (x a m n : ℕ) → m ≡ a + n → x + m - a ≡ x + n
counted x a m n is = omega (arith, is)

-- ---- moves

module _ (s : Source) (g : Function) (f : Frame) where
  taken_stays : (a b : Code) (w : ℕ) (o : Option Operand) (x : ℕ) → Extends a.constants b.constants → IsTaken s f.registers a g f.base f.label w o x → IsTaken s f.registers b g f.base f.label w o x
  taken_stays a b w None x e is = is
  taken_stays a b w (Some o) x e is = slot_stays s f.registers a.constants b.constants w o x e is

  from_stays : (a b : Code) (o : Op) (x : ℕ) → Extends a.constants b.constants → IsFrom s f.registers a g f.base f.label o x → IsFrom s f.registers b g f.base f.label o x
  from_stays a b (op.Phi t pairs) x e is = taken_stays a b (width_of s.layout t) (incoming f.label pairs) x e is
  from_stays a b (op.Binary o w l r) x e is = is
  from_stays a b (op.Compare o t l r) x e is = is
  from_stays a b (op.Cast o t l u) x e is = is
  from_stays a b (op.Freeze t l) x e is = is
  from_stays a b (op.Select c t l r) x e is = is
  from_stays a b (op.Alloca t count align) x e is = is
  from_stays a b (op.Load volatile t l) x e is = is
  from_stays a b (op.Store volatile t v l) x e is = is
  from_stays a b (op.Gep t l indices) x e is = is
  from_stays a b (op.Call t callee args) x e is = is
  from_stays a b (op.Br l) x e is = is
  from_stays a b (op.CondBr c l r) x e is = is
  from_stays a b (op.Switch w v l cases) x e is = is
  from_stays a b (op.Ret v) x e is = is
  from_stays a b op.Unreachable x e is = is

  move_stays : (a b : Code) (i : Instr) (v : Move) → Extends a.constants b.constants → IsMove s f.registers a g f.base f.label i v → IsMove s f.registers b g f.base f.label i v
  move_stays a b i v e is = (is.0, from_stays a b i.op v.from e is.1)

  pub moves_none : (a : Code) (given : List Instr) → PutsMoves s g f a a (take 0 given)
  moves_none a given = record {
    moves = [];
    more = [];
    is = ap (λ (l : List ℕ). record a { constants = l }) (sym (append-nil a.constants)) ∙ ap (λ (l : List Move). record a { constants = a.constants ++ []; moves = l }) (sym (append-nil a.moves));
    each = tt;
  }

  pub moves_more : (a b mid new : Code) (given : List Instr) (k : ℕ) (d : Instr) (v : Move) → k < length given → d ≡ get_or given k d → PutsMoves s g f a b (take k given)
      → Adds b mid → IsInto f.registers d.result v.into → IsFrom s f.registers mid g f.base f.label d.op v.from → new ≡ record mid { moves = mid.moves ++ v ∷ [] } → PutsMoves s g f a new (take (k + 1) given)
  moves_more a b mid new given k d v lt place before added into is put =
      let first : mid ≡ record a { constants = a.constants ++ (before.more ++ added.0); moves = a.moves ++ before.moves } =
      added.1 ∙ ap (λ (x : Code). record x { constants = x.constants ++ added.0 }) before.is ∙ ap (λ (l : List ℕ). record a { constants = l; moves = a.moves ++ before.moves }) (append_assoc a.constants before.more added.0) in
      let constants : new.constants ≡ mid.constants = ap (λ (x : Code). x.constants) put in
      let here : Extends mid.constants new.constants = ([], constants ∙ sym (append-nil mid.constants)) in
      let there : Extends b.constants new.constants = further b.constants mid.constants new.constants (adds_constants b mid added) here in
      record {
        moves = before.moves ++ v ∷ [];
        more = before.more ++ added.0;
        is = put ∙ ap (λ (x : Code). record x { moves = x.moves ++ v ∷ [] }) first
            ∙ ap (λ (l : List Move). record a { constants = a.constants ++ (before.more ++ added.0); moves = l }) (append_assoc a.moves before.moves (v ∷ []));
        each = each_more (IsMove s f.registers new g f.base f.label) given before.moves k d v lt
            (each_map (IsMove s f.registers b g f.base f.label) (IsMove s f.registers new g f.base f.label) (take k given) before.moves (λ x y r. move_stays b new x y there r) before.each)
            (subst (λ (x : Instr). IsMove s f.registers new g f.base f.label x v) place (into, from_stays mid new d.op v.from here is));
      }

  -- ---- edges

  edge_grows : (a mid new : Code) (edge : Edge) (instrs : List Instr) → PutsMoves s g f a mid instrs → new ≡ record mid { edges = mid.edges ++ edge ∷ [] } → GrowsEdge a new
  edge_grows a mid new edge instrs p put =
      let whole : new ≡ record a { constants = a.constants ++ p.more; moves = a.moves ++ p.moves; edges = a.edges ++ edge ∷ [] } = put ∙ ap (λ (x : Code). record x { edges = x.edges ++ edge ∷ [] }) p.is in
      subst (λ (x : Code). GrowsEdge a x) (sym whole) (record {
        grows = record {
          longer = record { cells = same a.cells; places = same a.places; homes = same a.homes; constants = (p.more, refl); edges = (edge ∷ [], refl); moves = (p.moves, refl); arguments = same a.arguments; steps = same a.steps; cases = same a.cases };
          cells = refl;
          places = refl;
          homes = refl;
        };
        cases = refl;
      })

  -- the edge to a block
  pub edge_to_stays : (a mid new : Code) (edge : Edge) (to e b : ℕ) (block : Block) → slice_get g.blocks b ≡ Some block → Some b ≡ block_of g to → PutsMoves s g f a mid (phis block.instrs)
      → new ≡ record mid { edges = mid.edges ++ edge ∷ [] } → e ≡ length mid.edges → edge.from ≡ length a.moves → edge.to ≡ length mid.moves
      → edge.target ≡ f.base + before g.blocks b + length mid.moves - length a.moves → GrowsEdge a new × EdgeStays s g f new to e
  edge_to_stays a mid new edge to e b block found leads p put at first last target =
      let moved : mid.moves ≡ a.moves ++ p.moves = ap (λ (x : Code). x.moves) p.is in
      let long : length mid.moves ≡ length a.moves + length p.moves = ap length moved ∙ length-append a.moves p.moves in
      let many : length (phis block.instrs) ≡ length p.moves = each_length (IsMove s f.registers mid g f.base f.label) (phis block.instrs) p.moves p.each in
      let aim : edge.target ≡ f.base + before g.blocks b + length (phis block.instrs) = target ∙ counted (f.base + before g.blocks b) (length a.moves) (length mid.moves) (length (phis block.instrs)) (long ∙ ap (λ (n : ℕ). length a.moves + n) (sym many)) in (
        edge_grows a mid new edge (phis block.instrs) p put,
        λ later r.
            let constants : Extends mid.constants later.constants = further mid.constants new.constants later.constants ([], ap (λ (x : Code). x.constants) put ∙ sym (append-nil mid.constants)) r.constants in
            let moves : Extends mid.moves later.moves = further mid.moves new.moves later.moves ([], ap (λ (x : Code). x.moves) put ∙ sym (append-nil mid.moves)) r.moves in
            record {
              edge = edge;
              is = stays_at new.edges later.edges e edge r.edges (ap (λ (x : Code). slice_get x.edges e) put ∙ ap (λ (n : ℕ). slice_get (mid.edges ++ edge ∷ []) n) at ∙ last_at mid.edges edge);
              leads = subst (λ (o : Option ℕ). LeadsTo s f.registers later g f.base f.label o edge) leads
                  (subst (λ (o : Option Block). Rattle.no_code.specs.Coded.LeadsIn s f.registers later g f.base f.label b o edge) (sym found) (
                    p.moves,
                    aim,
                    range_stays a.moves p.moves mid.moves later.moves edge.from edge.to first last moved moves,
                    each_map (IsMove s f.registers mid g f.base f.label) (IsMove s f.registers later g f.base f.label) (phis block.instrs) p.moves (λ x y q. move_stays mid later x y constants q) p.each,
                  ));
            },
      )

  leads_nowhere : (later : Code) (o : Option ℕ) (edge : Edge) → block_found g o ≡ None → edge.target ≡ 0 → edge.from ≡ edge.to → LeadsTo s f.registers later g f.base f.label o edge
  leads_nowhere later None edge none target empty = (target, empty)
  leads_nowhere later (Some b) edge none target empty = subst (λ (o : Option Block). Rattle.no_code.specs.Coded.LeadsIn s f.registers later g f.base f.label b o edge) (sym none) (target, empty)

  -- the edge to a label that no block has
  pub edge_nowhere_stays : (a new : Code) (edge : Edge) (to e : ℕ) → block_found g (block_of g to) ≡ None
      → new ≡ record a { edges = a.edges ++ edge ∷ [] } → e ≡ length a.edges → edge.target ≡ 0 → edge.from ≡ edge.to → GrowsEdge a new × EdgeStays s g f new to e
  edge_nowhere_stays a new edge to e none put at target empty = (
    edge_grows a a new edge [] (moves_none a []) put,
    λ later r. record {
      edge = edge;
      is = stays_at new.edges later.edges e edge r.edges (ap (λ (x : Code). slice_get x.edges e) put ∙ ap (λ (n : ℕ). slice_get (a.edges ++ edge ∷ []) n) at ∙ last_at a.edges edge);
      leads = leads_nowhere later (block_of g to) edge none target empty;
    },
  )
