-- Types that were lifted out of a text are structs.
use Rattle.std.proofs.Common.{◌≡◌, ℕ, suc, zero, List, [], ◌∷◌, ◌++◌, map, slice_get, Result, Ok, Err, refl, sym, ap, subst, ◌∙◌}
use Rattle.no_lex.specs.declared.token.Token.{Token}
use Rattle.no_ir.specs.declared.types.Ty.{Ty, out-Ty, out-roll-Ty}
use Rattle.no_ir.specs.declared.types.Ty.TheOpen.{Ty-F}
use Rattle.no_ir.specs.declared.types.Ty.TheFolds.{fold_out-Ty, map-Ty}
use Rattle.no_ir.specs.declared.types.Ty.TheVariants.{rolls-Struct}
use Rattle.no_read_rules.specs.declared.fault.Flaw.{Flaw}
use Rattle.no_read_rules.specs.declared.fault.Stopped.{Stopped}
use Rattle.no_read_rules.specs.Scope.{Meaning}
use Rattle.no_read_types.specs.declared.definition.Definition.{Definition}
use Rattle.no_read_types.specs.declared.definition.Lifting.{Lifting}
use Rattle.no_read_types.specs.declared.lifted.Lifted.{Lifted}
use Rattle.no_read_types.specs.Graph.{graph_of, order_of, number_of}
use Rattle.no_read_types.specs.Lifted.{renumber_step, renumbered, as_list, picked, types_in, Follows, Lifts}
use Rattle.no_read_types.specs.Lifting.{struct_in, a_definition, Piece, Kept, Defined, ArePieces, lifting_of, in_types, type_definitions}
use Rattle.no_read_types.proofs.LiftLaws.{lift_found}
use Rattle.no_round_trip.specs.Spells.{WidthFits, TypeFits, TypesFit}

-- ---- structs

abbrev IsStruct : Ty-F Ty → Type 0
IsStruct (Ty-F.Struct packed fields) = Unit {0}
IsStruct _ = ⊥

abbrev AllStructs : List Definition → Type 0
AllStructs [] = Unit {0}
AllStructs (d ∷ defined) = IsStruct (out-Ty d.ty) × AllStructs defined

-- a struct with other numbers is a struct
renumbered_fits : (number : ℕ → ℕ) (t : Ty) → IsStruct (out-Ty t) → TypeFits (renumbered number t)
renumbered_fits number t is = subst TypeFits (sym (fold_out-Ty Ty (renumber_step number) t)) (by (out-Ty t) is)
  where
    by : (x : Ty-F Ty) → IsStruct x → TypeFits (renumber_step number (map-Ty Ty Ty (renumbered number) x))
    by (Ty-F.Struct packed fields) is =
        let all : List Ty = map (renumbered number) fields in
        subst WidthFits (sym (ap out-Ty (sym (rolls-Struct packed all)) ∙ out-roll-Ty (Ty-F.Struct packed all))) tt
    by Ty-F.Void is = absurd is
    by (Ty-F.Int w) is = absurd is
    by Ty-F.Ptr is = absurd is
    by (Ty-F.Array n element) is = absurd is
    by (Ty-F.Named n) is = absurd is

types_fit : (number : ℕ → ℕ) (defined : List Definition) → AllStructs defined → TypesFit (types_in number defined)
types_fit number [] all = tt
types_fit number (d ∷ defined) all = (renumbered_fits number d.ty all.0, types_fit number defined all.1)

-- ---- some of the definitions

all_append : (front back : List Definition) → AllStructs front → AllStructs back → AllStructs (front ++ back)
all_append [] back all more = more
all_append (d ∷ front) back all more = (all.0, all_append front back all.1 more)

one_of : (defined : List Definition) (n : ℕ) → AllStructs defined → AllStructs (as_list (slice_get defined n))
one_of [] n all = tt
one_of (d ∷ defined) zero all = (all.0, tt)
one_of (d ∷ defined) (suc n) all = one_of defined n all.1

picked_are : (defined : List Definition) (order : List ℕ) → AllStructs defined → AllStructs (picked defined order)
picked_are defined [] all = tt
picked_are defined (n ∷ order) all = all_append (as_list (slice_get defined n)) (picked defined order) (one_of defined n all) (picked_are defined order all)

-- ---- what definitions are read as

passed : (t : Ty) (x : Ty-F Ty) (u : Ty) → out-Ty t ≡ x → struct_in t x ≡ Ok u → IsStruct (out-Ty u)
passed t (Ty-F.Struct packed fields) u is e = subst (λ (v : Ty). IsStruct (out-Ty v)) (same t u e) (subst IsStruct (sym is) tt)
  where
    same : (a b : Ty) → (let r : Result Ty Flaw = Ok a in r) ≡ Ok b → a ≡ b
    same a b e = cc
passed t Ty-F.Void u is e = absurd cc
passed t (Ty-F.Int w) u is e = absurd cc
passed t Ty-F.Ptr u is e = absurd cc
passed t (Ty-F.Array n element) u is e = absurd cc
passed t (Ty-F.Named n) u is e = absurd cc

defined_is : (m : Meaning) (names between : List (List ℕ)) (tokens : List Token) (d : Definition) → (a_definition m).means names tokens d between → IsStruct (out-Ty d.ty)
unfolding a_definition
defined_is m names between tokens d k =
    let c = k.in_back.in_back.in_back.in_front in
    let e : d.ty ≡ k.in_back.in_back.in_back.first = ap (λ (x : Definition). x.ty) k.in_back.in_back.in_back.in_back.1 in
    subst (λ (t : Ty). IsStruct (out-Ty t)) (sym e) (passed c.value (out-Ty c.value) k.in_back.in_back.in_back.first refl c.passes)

pieces_are : (m : Meaning) (names : List (List ℕ)) (tokens : List Token) (pieces : List Piece) → ArePieces m names tokens pieces → AllStructs (lifting_of pieces).defined
pieces_are m names tokens [] k = tt
pieces_are m names tokens (Kept token ∷ pieces) k = pieces_are m names k.back pieces k.others
pieces_are m names tokens (Defined d ∷ pieces) k = (defined_is m names k.between k.front d k.definition, pieces_are m k.between k.back pieces k.others)

-- ---- whole texts

lifting_fits : (text : List ℕ) (tokens : List Token) (lifted : Lifted) (r : Result Lifting Stopped) → type_definitions text tokens ≡ r → Follows r (Ok lifted) → TypesFit lifted.types
lifting_fits text tokens lifted (Ok l) is k =
    let p = lift_found (in_types text tokens) [] tokens l is in
    let all : AllStructs l.defined = subst (λ (x : Lifting). AllStructs x.defined) (sym p.2) (pieces_are (in_types text tokens) [] tokens p.0 p.1) in
    let order = order_of (graph_of l.defined) in
    subst TypesFit (sym k.0.by_number) (types_fit (number_of order) (picked l.defined order) (picked_are l.defined order all))
lifting_fits text tokens lifted (Err f) is k = absurd cc

pub lifted_fit : (text : List ℕ) (tokens : List Token) (lifted : Lifted) → Lifts text tokens (Ok lifted) → TypesFit lifted.types
lifted_fit text tokens lifted k = lifting_fits text tokens lifted (type_definitions text tokens) refl k
