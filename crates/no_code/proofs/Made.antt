-- Cells, homes and functions are added one by one.
use Rattle.std.proofs.Common.{◌≡◌, ℕ, ◌+◌, ◌<◌, inl, inr, List, [], ◌∷◌, ◌++◌, length, take, get_or, slice_get, Some, refl, sym, ap, subst, ◌∙◌, arith, append_assoc, append-nil}
use Rattle.std.proofs.lemmas.Bool.{cases_lt}
use Rattle.std.proofs.lemmas.List.{length-append}
use Rattle.std.proofs.lemmas.Option.{slice_get_within, get_or_from_slice_get}
use Rattle.no_ir.specs.declared.types.Ty.{Ty}
use Rattle.no_ir.specs.declared.instruction.Instr.{Instr}
use Rattle.no_ir.specs.declared.function.Block.{Block}
use Rattle.no_ir.specs.declared.function.Function.{Function}
use Rattle.no_code.specs.declared.code.Argument.{Argument}
use Rattle.no_code.specs.declared.code.Cell.{Cell}
use Rattle.no_code.specs.declared.code.Code.{Code}
use Rattle.no_code.specs.declared.code.Home.{Home}
use Rattle.no_code.specs.declared.code.Place.{Place}
use Rattle.no_code.specs.declared.frame.Frame.{Frame}
use Rattle.no_code.specs.Coded.{IsCell, before, block_size, kind_of}
use Rattle.no_code.specs.Longer.{Longer}
use Rattle.no_code.specs.Making.{Grows, PutsBlock, PutsBlocks, PutsCell, PutsHome, PutsParameters, Stays}
use Rattle.no_code.specs.Source.{Source}
use Rattle.no_code.specs.Whole.{HasCell, IsParameter}
use Rattle.no_code.proofs.Grown.{last_at, longer_more, longer_same, same, stays_at}
use Rattle.no_code.proofs.Lists.{each_more, range_stays}
use Rattle.no_code.proofs.Tables.{total_more, total_none}

pub puts_cell : (s : Source) (g : Function) (f : Frame) (a mid new : Code) (i : Instr) (c : Cell) (place : Place) → Grows a mid → Stays s g f mid i c → new ≡ record mid { cells = mid.cells ++ c ∷ []; places = mid.places ++ place ∷ [] } → PutsCell s g f a new i place
puts_cell s g f a mid new i c place grown stays put =
    let last : Longer mid new = subst (λ (x : Code). Longer mid x) (sym put) (record {
      cells = (c ∷ [], refl);
      places = (place ∷ [], refl);
      homes = same mid.homes;
      constants = same mid.constants;
      edges = same mid.edges;
      moves = same mid.moves;
      arguments = same mid.arguments;
      steps = same mid.steps;
      cases = same mid.cases;
    }) in
    record {
      longer = longer_more a mid new grown.longer last;
      homes = ap (λ (x : Code). x.homes) put ∙ grown.homes;
      cell = c;
      cells = ap (λ (x : Code). x.cells) put ∙ ap (λ (l : List Cell). l ++ c ∷ []) grown.cells;
      places = ap (λ (x : Code). x.places) put ∙ ap (λ (l : List Place). l ++ place ∷ []) grown.places;
      stays = λ later r. stays later (longer_more mid new later last r);
    }

-- ---- homes

pub parameters_none : (a : Code) (given : List (ℕ × Ty)) → PutsParameters a a (take 0 given)
parameters_none a given = record { params = []; is = ap (λ (l : List Argument). record a { arguments = l }) (sym (append-nil a.arguments)); each = tt }

pub parameters_more : (a b new : Code) (given : List (ℕ × Ty)) (k : ℕ) (d : ℕ × Ty) (v : Argument) → k < length given → d ≡ get_or given k d → PutsParameters a b (take k given) → v.slot ≡ d.0 → v.kind ≡ kind_of d.1
    → new ≡ record b { arguments = b.arguments ++ v ∷ [] } → PutsParameters a new (take (k + 1) given)
parameters_more a b new given k d v lt at before slot kind put = record {
  params = before.params ++ v ∷ [];
  is = put ∙ ap (λ (x : Code). record x { arguments = x.arguments ++ v ∷ [] }) before.is ∙ ap (λ (l : List Argument). record a { arguments = l }) (append_assoc a.arguments before.params (v ∷ []));
  each = each_more IsParameter given before.params k d v lt before.each (subst (λ (x : ℕ × Ty). IsParameter x v) at (slot, kind));
}

pub puts_home : (g : Function) (base registers : ℕ) (a mid new : Code) (home : Home) → registers ≡ length g.registers → PutsParameters a mid g.params → home.start ≡ base → home.registers ≡ registers → home.result ≡ kind_of g.result
    → home.from ≡ length a.arguments → home.to ≡ length mid.arguments → new ≡ record mid { homes = mid.homes ++ home ∷ [] } → PutsHome g base a new
puts_home g base registers a mid new home count p start many result from to put =
    let whole : new ≡ record a { arguments = a.arguments ++ p.params; homes = a.homes ++ home ∷ [] } = put ∙ ap (λ (x : Code). record x { homes = x.homes ++ home ∷ [] }) p.is in
    let moved : mid.arguments ≡ a.arguments ++ p.params = ap (λ (x : Code). x.arguments) p.is in
    record {
      longer = subst (λ (x : Code). Longer a x) (sym whole) (record {
        cells = same a.cells;
        places = same a.places;
        homes = (home ∷ [], refl);
        constants = same a.constants;
        edges = same a.edges;
        moves = same a.moves;
        arguments = (p.params, refl);
        steps = same a.steps;
        cases = same a.cases;
      });
      cells = ap (λ (x : Code). x.cells) whole;
      places = ap (λ (x : Code). x.places) whole;
      homes = ap (λ (x : Code). length x.homes) whole ∙ length-append a.homes (home ∷ []);
      has = λ later r. record {
        home = home;
        params = p.params;
        is = stays_at new.homes later.homes (length a.homes) home r.homes (ap (λ (x : Code). slice_get x.homes (length a.homes)) whole ∙ last_at a.homes home);
        starts = start;
        registers = many ∙ count;
        result = result;
        range = range_stays a.arguments p.params mid.arguments later.arguments home.from home.to from to moved
            (Rattle.no_code.proofs.Grown.further mid.arguments new.arguments later.arguments ([], ap (λ (x : Code). x.arguments) put ∙ sym (append-nil mid.arguments)) r.arguments);
        each = p.each;
      };
    }

-- ---- blocks

module _ (s : Source) (g : Function) where
  pub block_none : (f : Frame) (number b : ℕ) (block : Block) (a : Code) → PutsBlock s g f number b block 0 a a
  block_none f number b block a = record {
    longer = longer_same a;
    homes = refl;
    cells = omega arith;
    places = omega arith;
    each = λ later r k i lt is. absurd (omega arith);
  }

  one_more : (n k : ℕ) (xs ys : List Cell) (x : Cell) → ys ≡ xs ++ x ∷ [] → length xs ≡ n + k → length ys ≡ n + (k + 1)
  one_more n k xs ys x is e = omega (arith, ap length is ∙ length-append xs (x ∷ []), e)

  place_more : (n k : ℕ) (xs ys : List Place) (x : Place) → ys ≡ xs ++ x ∷ [] → length xs ≡ n + k → length ys ≡ n + (k + 1)
  place_more n k xs ys x is e = omega (arith, ap length is ∙ length-append xs (x ∷ []), e)

  -- the cell that was added last
  last_cell : (f : Frame) (number b : ℕ) (block : Block) (k : ℕ) (c new later : Code) (i : Instr) (place : Place) → f.registers ≡ length g.registers → f.label ≡ block.label
      → place ≡ record { function = number; block = b; at = k; inserted = i.inserted } → length c.cells ≡ f.base + before g.blocks b + k → length c.places ≡ f.base + before g.blocks b + k
      → PutsCell s g f c new i place → Longer new later → HasCell s later number g f.base b block k i
  last_cell f number b block k c new later i place registers label stands cells places p r = record {
    cell = p.cell;
    is = stays_at new.cells later.cells (f.base + before g.blocks b + k) p.cell r.cells
        (ap (λ (l : List Cell). slice_get l (f.base + before g.blocks b + k)) p.cells ∙ ap (λ (n : ℕ). slice_get (c.cells ++ p.cell ∷ []) n) (sym cells) ∙ last_at c.cells p.cell);
    stands = stays_at new.places later.places (f.base + before g.blocks b + k) (record { function = number; block = b; at = k; inserted = i.inserted }) r.places
        (ap (λ (l : List Place). slice_get l (f.base + before g.blocks b + k)) p.places ∙ ap (λ (n : ℕ). slice_get (c.places ++ place ∷ []) n) (sym places) ∙ last_at c.places place ∙ ap Some stands);
    means = subst (λ (n : ℕ). IsCell s n later g f.base block.label i p.cell) registers (subst (λ (l : ℕ). IsCell s f.registers later g f.base l i p.cell) label (p.stays later r));
  }

  pub block_more : (f : Frame) (number b : ℕ) (block : Block) (k : ℕ) (a c new : Code) (i : Instr) (place : Place) → f.registers ≡ length g.registers → f.label ≡ block.label
      → length a.cells ≡ f.base + before g.blocks b → length a.places ≡ length a.cells → i ≡ get_or block.instrs k i → place ≡ record { function = number; block = b; at = k; inserted = i.inserted }
      → PutsBlock s g f number b block k a c → PutsCell s g f c new i place → PutsBlock s g f number b block (k + 1) a new
  block_more f number b block k a c new i place registers label cells places at stands before p = record {
    longer = longer_more a c new before.longer p.longer;
    homes = p.homes ∙ before.homes;
    cells = one_more (length a.cells) k c.cells new.cells p.cell p.cells before.cells;
    places = place_more (length a.places) k c.places new.places place p.places before.places;
    each = λ later r j x lt is. elim (cases_lt j k) [
      | inl low ↦ before.each later (longer_more c new later p.longer r) j x low is
      | inr high ↦
          let here : j ≡ k = omega arith in
          let one : x ≡ i = sym (get_or_from_slice_get block.instrs j x i is) ∙ ap (λ (n : ℕ). get_or block.instrs n i) here ∙ sym at in
          subst (λ (n : ℕ). HasCell s later number g f.base b block n x) (sym here) (subst (λ (y : Instr). HasCell s later number g f.base b block k y) (sym one)
          (last_cell f number b block k c new later i place registers label stands (before.cells ∙ ap (λ (n : ℕ). n + k) cells) (before.places ∙ ap (λ (n : ℕ). n + k) (places ∙ cells)) p r))
    ];
  }

  pub blocks_none : (number base : ℕ) (a : Code) → PutsBlocks s g number base 0 a a
  blocks_none number base a = record {
    longer = longer_same a;
    homes = refl;
    cells = omega (arith, total_none block_size g.blocks);
    places = omega (arith, total_none block_size g.blocks);
    each = λ later r b k block i lt is there. absurd (omega arith);
  }

  pub blocks_more : (f : Frame) (number base k : ℕ) (block : Block) (a c new : Code) → f.base ≡ base → k < length g.blocks → block ≡ get_or g.blocks k block → PutsBlocks s g number base k a c
      → PutsBlock s g f number k block (length block.instrs) c new → PutsBlocks s g number base (k + 1) a new
  blocks_more f number base k block a c new same_base lt at before p = record {
    longer = longer_more a c new before.longer p.longer;
    homes = p.homes ∙ before.homes;
    cells = omega (arith, p.cells, before.cells, total_more block_size g.blocks k block lt, ap block_size at);
    places = omega (arith, p.places, before.places, total_more block_size g.blocks k block lt, ap block_size at);
    each = λ later r b j other i low is there. elim (cases_lt b k) [
      | inl less ↦ before.each later (longer_more c new later p.longer r) b j other i less is there
      | inr more ↦
          let here : b ≡ k = omega arith in
          let one : other ≡ block = sym (get_or_from_slice_get g.blocks b other block is) ∙ ap (λ (n : ℕ). get_or g.blocks n block) here ∙ sym at in
          let inside : slice_get block.instrs j ≡ Some i = ap (λ (x : Block). slice_get x.instrs j) (sym one) ∙ there in
          subst (λ (n : ℕ). HasCell s later number g base n other j i) (sym here) (subst (λ (x : Block). HasCell s later number g base k x j i) (sym one)
          (subst (λ (n : ℕ). HasCell s later number g n k block j i) same_base (p.each later r j i (slice_get_within block.instrs j i inside) inside)))
    ];
  }
