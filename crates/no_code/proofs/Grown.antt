-- What is in a table stays there while it grows.
use Rattle.std.proofs.Common.{◌≡◌, ℕ, ◌-◌, ◌≤◌, zero, suc, List, [], ◌∷◌, ◌++◌, length, slice_get, Some, refl, sym, ap, ◌∙◌, subst, append_assoc, append-nil}
use Rattle.no_ir.specs.declared.instruction.Operand.{Operand}
use Rattle.no_ir.specs.declared.instruction.Operand.TheVariants as operand
use Rattle.no_ir.specs.declared.constant.Const.{Const}
use Rattle.no_code.specs.Source.{Source, IsKnown}
use Rattle.no_code.specs.Slots.{IsSlot, first_constant}
use Rattle.no_code.specs.Longer.{Extends, Longer, Adds}
use Rattle.no_code.specs.declared.code.Code.{Code}

pub same : {A : Type 0} (xs : List A) → Extends xs xs
same xs = ([], sym (append-nil xs))

pub further : {A : Type 0} (xs ys zs : List A) → Extends xs ys → Extends ys zs → Extends xs zs
further {A = A} xs ys zs a b = (a.0 ++ b.0, b.1 ∙ ap (λ (l : List A). l ++ b.0) a.1 ∙ append_assoc xs a.0 b.0)

there : {A : Type 0} (xs more : List A) (k : ℕ) (x : A) → slice_get xs k ≡ Some x → slice_get (xs ++ more) k ≡ Some x
there [] more k x is = absurd cc
there (y ∷ xs) more zero x is = is
there (y ∷ xs) more (suc k) x is = there xs more k x is

pub stays_at : {A : Type 0} (xs ys : List A) (k : ℕ) (x : A) → Extends xs ys → slice_get xs k ≡ Some x → slice_get ys k ≡ Some x
stays_at {A = A} xs ys k x e is = ap (λ (l : List A). slice_get l k) e.1 ∙ there xs e.0 k x is

pub last_at : {A : Type 0} (xs : List A) (x : A) → slice_get (xs ++ x ∷ []) (length xs) ≡ Some x
last_at [] x = refl
last_at (y ∷ xs) x = last_at xs x

pub longer_same : (a : Code) → Longer a a
longer_same a = record { cells = same a.cells; places = same a.places; homes = same a.homes; constants = same a.constants; edges = same a.edges; moves = same a.moves; arguments = same a.arguments; steps = same a.steps; cases = same a.cases }

pub longer_more : (a b c : Code) → Longer a b → Longer b c → Longer a c
longer_more a b c r s = record {
  cells = further a.cells b.cells c.cells r.cells s.cells;
  places = further a.places b.places c.places r.places s.places;
  homes = further a.homes b.homes c.homes r.homes s.homes;
  constants = further a.constants b.constants c.constants r.constants s.constants;
  edges = further a.edges b.edges c.edges r.edges s.edges;
  moves = further a.moves b.moves c.moves r.moves s.moves;
  arguments = further a.arguments b.arguments c.arguments r.arguments s.arguments;
  steps = further a.steps b.steps c.steps r.steps s.steps;
  cases = further a.cases b.cases c.cases r.cases s.cases;
}

pub adds_none : (a : Code) → Adds a a
adds_none a = ([], ap (λ (l : List ℕ). record a { constants = l }) (sym (append-nil a.constants)))

pub adds_one : (a b : Code) (n : ℕ) → b ≡ record a { constants = a.constants ++ n ∷ [] } → Adds a b
adds_one a b n is = (n ∷ [], is)

pub adds_more : (a b c : Code) → Adds a b → Adds b c → Adds a c
adds_more a b c r s = (
  r.0 ++ s.0,
  s.1 ∙ ap (λ (x : Code). record x { constants = x.constants ++ s.0 }) r.1 ∙ ap (λ (l : List ℕ). record a { constants = l }) (append_assoc a.constants r.0 s.0),
)

pub adds_constants : (a b : Code) → Adds a b → Extends a.constants b.constants
adds_constants a b r = (r.0, ap (λ (x : Code). x.constants) r.1)

pub longer_adds : (a b : Code) → Adds a b → Longer a b
longer_adds a b r = subst (λ (x : Code). Longer a x) (sym r.1) (record {
  cells = same a.cells;
  places = same a.places;
  homes = same a.homes;
  constants = (r.0, refl);
  edges = same a.edges;
  moves = same a.moves;
  arguments = same a.arguments;
  steps = same a.steps;
  cases = same a.cases;
})

-- a slot is right while constants are added
pub slot_stays : (s : Source) (n : ℕ) (xs ys : List ℕ) (w : ℕ) (o : Operand) (x : ℕ) → Extends xs ys → IsSlot s n xs w o x → IsSlot s n ys w o x
slot_stays s n xs ys w (operand.Reg r) x e is = is
slot_stays s n xs ys w (operand.Const c) x e is = record { number = is.number; high = is.high; is = stays_at xs ys (x - first_constant) is.number e is.is; means = is.means }

-- the slot of a constant that was added
pub constant_put : (s : Source) (n : ℕ) (a b : Code) (w number : ℕ) (c : Const) (x : ℕ) → b ≡ record a { constants = a.constants ++ number ∷ [] } → first_constant ≤ x → x - first_constant ≡ length a.constants
    → IsKnown s w c number → IsSlot s n b.constants w (operand.Const c) x
constant_put s n a b w number c x is high at means = record {
  number = number;
  high = high;
  is = ap (λ (y : Code). slice_get y.constants (x - first_constant)) is ∙ ap (λ (k : ℕ). slice_get (a.constants ++ number ∷ []) k) at ∙ last_at a.constants number;
  means = means;
}
