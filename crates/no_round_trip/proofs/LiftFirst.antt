-- What is known of the definitions of a text that were lifted.
use Rattle.std.proofs.Common.{◌≡◌, ℕ, ◌<◌, List, [], ◌∷◌, ◌++◌, length, get_or, map, Result, Ok, Err, refl, sym, ap, subst, ◌∙◌, arith}
use Rattle.std.proofs.lemmas.List.{length-map}
use Rattle.std.proofs.Math.ListN as listn
use Rattle.no_lex.specs.declared.token.Token.{Token}
use Rattle.no_ir.specs.declared.types.Ty.{Ty}
use Rattle.no_read_rules.specs.declared.fault.Stopped.{Stopped}
use Rattle.no_read_rules.specs.Scope.{Meaning}
use Rattle.no_read_types.specs.declared.definition.Definition.{Definition}
use Rattle.no_read_types.specs.declared.definition.Lifting.{Lifting}
use Rattle.no_read_types.specs.declared.lifted.Lifted.{Lifted}
use Rattle.no_read_types.specs.Graph.{references, graph_of, order_of, number_of}
use Rattle.no_read_types.specs.Lifting.{in_types, names_from, type_definitions, lifting_of}
use Rattle.no_read_types.specs.Lifted.{renumbered, picked, types_in, names_with, IsNumbered, Arranges, Follows, Lifts}
use Rattle.no_read_types.proofs.LiftLaws.{lift_found}
use Rattle.no_round_trip.proofs.LiftDefined.{WasRead, AreNamed, pieces_named}
use Rattle.no_round_trip.proofs.LiftOrders.{Below, IsOrder, IsLow, Whole, whole_order, order_below, order_apart, order_low}
use Rattle.no_round_trip.proofs.LiftPicks.{name_of, EachNew, Holds, names_added, order_new, order_renames, picks_are, picks_hold}
use Rattle.no_round_trip.proofs.LiftRenaming.{Renames}
use Rattle.no_round_trip.proofs.LiftRenumbering.{other_references}

-- the definitions in the order of their numbers
pub record Picked (m : Meaning) (lifted : Lifted) : Type 0 where
  pub number : ℕ → ℕ
  pub picks : List Definition
  pub named : lifted.named ≡ map name_of picks
  pub types : lifted.types ≡ map (λ d. renumbered number d.ty) picks
  pub new : EachNew [] (map name_of picks)
  pub renames : Renames number m.named (map name_of picks)
  pub each : Holds (WasRead m) picks
  pub low : IsLow (length picks) 0 (map (λ d. references (renumbered number d.ty)) picks)

pub map_twice : {A B C : Type 0} (f : A → B) (g : B → C) (xs : List A) → map g (map f xs) ≡ map (λ x. g (f x)) xs
map_twice f g [] = refl
map_twice f g (x ∷ xs) = ap (λ l. g (f x) ∷ l) (map_twice f g xs)

pub map_alike : {A B : Type 0} (f g : A → B) (xs : List A) → ((x : A) → f x ≡ g x) → map f xs ≡ map g xs
map_alike f g [] h = refl
map_alike f g (x ∷ xs) h = let first = h x in let more = map_alike f g xs h in λ i. first i ∷ more i

module _ (m : Meaning) (lifted : Lifted) (defined : List Definition) (new : EachNew [] (map name_of defined)) (each : Holds (WasRead m) defined) (named : m.named ≡ map name_of defined) (is : IsNumbered defined lifted.named lifted.types) where
  abbrev graph : List (List ℕ)
  graph = graph_of defined

  abbrev order : List ℕ
  order = order_of (graph_of defined)

  abbrev number : ℕ → ℕ
  number = number_of (order_of (graph_of defined))

  abbrev picks : List Definition
  picks = picked defined (order_of (graph_of defined))

  whole : Whole graph order
  whole = whole_order graph

  graph_long : length graph ≡ length defined
  graph_long = length-map defined (λ d. references d.ty)

  names_long : length (map name_of defined) ≡ length defined
  names_long = length-map defined name_of

  below_graph : Below (length graph) order
  below_graph = order_below graph [] order whole.is

  below : Below (length defined) order
  below = subst (λ n. Below n order) graph_long below_graph

  below_names : Below (length (map name_of defined)) order
  below_names = subst (λ n. Below n order) (sym names_long) below

  picks_named : map name_of picks ≡ map (λ n. get_or (map name_of defined) n []) order
  picks_named = picks_are name_of [] defined order below

  picks_new : EachNew [] (map name_of picks)
  picks_new = subst (EachNew []) (sym picks_named) (order_new (map name_of defined) new [] order tt below_names (order_apart graph [] order whole.is))

  picks_rename : Renames number m.named (map name_of picks)
  picks_rename = subst (λ names. Renames number names (map name_of picks)) (sym named) (subst (Renames number (map name_of defined)) (sym picks_named)
      (order_renames (map name_of defined) new order below_names (λ n lt. whole.has (is.all ∙ sym graph_long) n (let a = graph_long in let b = names_long in omega arith))))

  all_long : length (map (λ d. references (renumbered number d.ty)) picks) ≡ length graph
  all_long =
      let a : length (map (λ d. references (renumbered number d.ty)) picks) ≡ length picks = length-map picks (λ d. references (renumbered number d.ty)) in
      let b : length (map name_of picks) ≡ length picks = length-map picks name_of in
      let c : length (map name_of picks) ≡ length (map (λ n. get_or (map name_of defined) n []) order) = ap length picks_named in
      let d : length (map (λ n. get_or (map name_of defined) n []) order) ≡ length order = length-map order (λ n. get_or (map name_of defined) n []) in
      let e = is.all in
      let f = graph_long in
      omega arith

  picks_long : length picks ≡ length graph
  picks_long = sym (length-map picks (λ d. references (renumbered number d.ty))) ∙ all_long

  picks_low : IsLow (length picks) 0 (map (λ d. references (renumbered number d.ty)) picks)
  picks_low =
      let one : map (λ d. references (renumbered number d.ty)) picks ≡ map (λ d. map number (references d.ty)) picks = map_alike (λ d. references (renumbered number d.ty)) (λ d. map number (references d.ty)) picks (λ d. other_references number d.ty) in
      let two : map (λ d. map number (references d.ty)) picks ≡ map (λ n. get_or (map (λ d. map number (references d.ty)) defined) n []) order = picks_are (λ d. map number (references d.ty)) [] defined order below in
      let three : map (map number) graph ≡ map (λ d. map number (references d.ty)) defined = map_twice (λ d. references d.ty) (map number) defined in
      let four : map (λ n. get_or (map (λ d. map number (references d.ty)) defined) n []) order ≡ map (λ n. map number (get_or graph n [])) order =
      map_alike (λ n. get_or (map (λ d. map number (references d.ty)) defined) n []) (λ n. map number (get_or graph n [])) order (λ n. ap (λ l. get_or l n []) (sym three) ∙ listn.get_or-map (map number) graph n []) in
      subst (λ n. IsLow n 0 (map (λ d. references (renumbered number d.ty)) picks)) (sym picks_long)
      (subst (IsLow (length graph) 0) (sym (one ∙ two ∙ four)) (order_low graph order below_graph [] order refl whole.is))

  pub numbered_picks : Picked m lifted
  numbered_picks = record {
    number = number;
    picks = picks;
    named = is.names ∙ names_added [] picks picks_new;
    types = is.by_number;
    new = picks_new;
    renames = picks_rename;
    each = picks_hold (WasRead m) defined each order;
    low = picks_low;
  }

-- the definitions of a text, where its types were lifted
pub lifted_picks : (text : List ℕ) (tokens : List Token) (lifted : Lifted) → Lifts text tokens (Ok lifted) → Picked (in_types text tokens) lifted
lifted_picks text tokens lifted is = by (type_definitions text tokens) refl is
  where
    err_ok : (f : Stopped) → Ok lifted ≡ Err f → ⊥
    err_ok f e = cc

    by : (r : Result Lifting Stopped) → type_definitions text tokens ≡ r → Follows r (Ok lifted) → Picked (in_types text tokens) lifted
    by (Ok l) e arranged =
        let p = lift_found (in_types text tokens) [] tokens l e in
        let named = pieces_named (in_types text tokens) [] tokens p.0 p.1 in
        numbered_picks (in_types text tokens) lifted (lifting_of p.0).defined named.new named.each named.found (subst (λ (l : Lifting). IsNumbered l.defined lifted.named lifted.types) p.2 arranged.0)
    by (Err f) e arranged = absurd (err_ok f arranged)
