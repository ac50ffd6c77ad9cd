-- Functions are added one by one.
use Rattle.std.proofs.Common.{◌≡◌, ℕ, ◌+◌, ◌<◌, inl, inr, List, [], ◌∷◌, ◌++◌, length, get_or, slice_get, Some, refl, sym, ap, subst, ◌∙◌, arith}
use Rattle.std.proofs.lemmas.Bool.{cases_lt}
use Rattle.std.proofs.lemmas.List.{length-append}
use Rattle.std.proofs.lemmas.Option.{slice_get_within, get_or_from_slice_get}
use Rattle.no_ir.specs.declared.function.Function.{Function}
use Rattle.no_code.specs.declared.code.Cell.{Cell}
use Rattle.no_code.specs.declared.code.Cell.TheVariants as cell
use Rattle.no_code.specs.declared.code.Code.{Code}
use Rattle.no_code.specs.declared.code.Place.{Place}
use Rattle.no_code.specs.Coded.{first_cell, size_of}
use Rattle.no_code.specs.Longer.{Longer}
use Rattle.no_code.specs.Making.{PutsBlocks, PutsFunction, PutsFunctions, PutsHome}
use Rattle.no_code.specs.Source.{Source}
use Rattle.no_code.specs.Whole.{HasBlocks, HasFunction, HasHome, IsCode}
use Rattle.no_code.proofs.Grown.{last_at, longer_more, same, stays_at}
use Rattle.no_code.proofs.Tables.{total_more, total_none}

pub function_made : (s : Source) (number base : ℕ) (g : Function) (a mid new : Code) → length a.homes ≡ number → base ≡ length a.cells → PutsHome g base a mid → PutsBlocks s g number base (length g.blocks) mid new → PutsFunction s number g a new
function_made s number base g a mid new homes begins home blocks = record {
  longer = longer_more a mid new home.longer blocks.longer;
  homes = ap length blocks.homes ∙ home.homes;
  cells = blocks.cells ∙ ap (λ (l : List Cell). length l + size_of g) home.cells;
  places = blocks.places ∙ ap (λ (l : List Place). length l + size_of g) home.places;
  has = λ later r. record {
    home = subst (λ (n : ℕ). HasHome later n g (length a.cells)) homes (subst (λ (b : ℕ). HasHome later (length a.homes) g b) begins (home.has later (longer_more mid new later blocks.longer r)));
    blocks = subst (λ (b : ℕ). HasBlocks s later number g b (length g.blocks)) begins (blocks.each later r);
  };
}

pub functions_none : (s : Source) (functions : List Function) (a : Code) → slice_get a.cells 0 ≡ Some cell.Nothing → length a.cells ≡ 1 → length a.places ≡ 1 → length a.homes ≡ 0 → PutsFunctions s functions 0 a
functions_none s functions a first cells places homes = record {
  homes = homes;
  cells = omega (arith, cells, total_none size_of functions);
  places = omega (arith, places, total_none size_of functions);
  first = first;
  each = λ later r f g lt is. absurd (omega arith);
}

next_first : (functions : List Function) (k n : ℕ) (g : Function) → k < length functions → g ≡ get_or functions k g → n ≡ first_cell functions k → n + size_of g ≡ first_cell functions (k + 1)
next_first functions k n g lt at is = omega (arith, is, total_more size_of functions k g lt, ap size_of at)

pub functions_more : (s : Source) (functions : List Function) (k : ℕ) (g : Function) (a new : Code) → k < length functions → g ≡ get_or functions k g → PutsFunctions s functions k a → PutsFunction s k g a new → PutsFunctions s functions (k + 1) new
functions_more s functions k g a new lt at before p = record {
  homes = p.homes ∙ ap (λ (n : ℕ). n + 1) before.homes;
  cells = p.cells ∙ next_first functions k (length a.cells) g lt at before.cells;
  places = p.places ∙ next_first functions k (length a.places) g lt at before.places;
  first = stays_at a.cells new.cells 0 cell.Nothing p.longer.cells before.first;
  each = λ later r f other low is. elim (cases_lt f k) [
    | inl less ↦ before.each later (longer_more a new later p.longer r) f other less is
    | inr more ↦
        let here : f ≡ k = omega arith in
        let one : other ≡ g = sym (get_or_from_slice_get functions f other g is) ∙ ap (λ (n : ℕ). get_or functions n g) here ∙ sym at in
        subst (λ (n : ℕ). HasFunction s later n other (first_cell functions n)) (sym here) (subst (λ (x : Function). HasFunction s later k x (first_cell functions k)) (sym one)
        (subst (λ (n : ℕ). HasFunction s later k g n) before.cells (p.has later r)))
  ];
}

pub code_made : (s : Source) (a new : Code) (place : Place) → PutsFunctions s s.«module».functions (length s.«module».functions) a → new ≡ record a { cells = a.cells ++ cell.Nothing ∷ []; places = a.places ++ place ∷ [] } → IsCode s new
code_made s a new place p put =
    let functions = s.«module».functions in
    let cells : new.cells ≡ a.cells ++ cell.Nothing ∷ [] = ap (λ (x : Code). x.cells) put in
    let longer : Longer a new = subst (λ (x : Code). Longer a x) (sym put) (record {
      cells = (cell.Nothing ∷ [], refl);
      places = (place ∷ [], refl);
      homes = same a.homes;
      constants = same a.constants;
      edges = same a.edges;
      moves = same a.moves;
      arguments = same a.arguments;
      steps = same a.steps;
      cases = same a.cases;
    }) in
    record {
      first = stays_at a.cells new.cells 0 cell.Nothing longer.cells p.first;
      functions = λ f g is. p.each new longer f g (slice_get_within functions f g is) is;
      last = ap (λ (l : List Cell). slice_get l (first_cell functions (length functions))) cells ∙ ap (λ (n : ℕ). slice_get (a.cells ++ cell.Nothing ∷ []) n) (sym p.cells) ∙ last_at a.cells cell.Nothing;
      count = ap length cells ∙ length-append a.cells (cell.Nothing ∷ []) ∙ ap (λ (n : ℕ). n + 1) p.cells;
    }
