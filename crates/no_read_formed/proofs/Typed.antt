-- The named types of a text are formed, each refers to lower numbers alone, and each has a name of its own.
use Rattle.std.proofs.Common.{◌≡◌, ◌≤◌, ℕ, ◌+◌, true, List, [], ◌∷◌, ◌++◌, length, Result, Ok, Err, refl, sym, ap, subst, ◌∙◌, arith}
use Rattle.std.specs.List.{zip}
use Rattle.no_lex.specs.declared.token.Token.{Token}
use Rattle.no_ir.specs.declared.types.Ty.{Ty, out-Ty}
use Rattle.no_read_rules.specs.declared.fault.Stopped.{Stopped}
use Rattle.no_read_rules.specs.Scope.{Meaning}
use Rattle.no_read_symbols.specs.Scan.{symbols_in}
use Rattle.no_read_types.specs.declared.definition.Definition.{Definition}
use Rattle.no_read_types.specs.declared.definition.Lifting.{Lifting}
use Rattle.no_read_types.specs.declared.lifted.Lifted.{Lifted}
use Rattle.no_read_types.specs.Graph.{graph_of, order_of, number_of}
use Rattle.no_read_types.specs.Lifting.{Parted, Piece, lifting_of, lift_all, in_types, names_from, type_definitions}
use Rattle.no_read_types.specs.Lifted.{picked, types_in, names_with, IsNumbered, Follows, Lifts}
use Rattle.no_module.specs.Formed.{type_formed, types_formed}
use Rattle.no_read_formed.specs.Named.{IsTyped, meaning_in}
use Rattle.no_read_formed.proofs.Begins.{few_names}
use Rattle.no_read_formed.proofs.Lifted.{AllFormed, Chain, pieces_chain, formed_at, as_many, long_as, stand_same}
use Rattle.no_read_formed.proofs.Lower.{lower_from}
use Rattle.no_read_formed.proofs.Order.{order_follows}

-- what is known of named types
record AreTyped (named : List (List ℕ)) (types : List Ty) : Type 0 where
  pub long : length named ≡ length types
  pub lower : types_formed 0 (zip named types) ≡ true

by_pieces : (m : Meaning) (tokens : List Token) (l : Lifting) (named : List (List ℕ)) (types : List Ty) → m.named ≡ names_from m.text [] tokens → Parted m [] tokens l → IsNumbered l.defined named types → AreTyped named types
by_pieces m tokens l named types means parts n =
    let D : List Definition = l.defined in
    let O = order_of (graph_of l.defined) in
    let made : (lifting_of parts.0).defined ≡ l.defined = ap (λ (x : Lifting). x.defined) (sym parts.2) in
    let all = pieces_chain m parts.0 [] tokens parts.1 in
    let chain : Chain [] l.defined = subst (Chain []) made all.0 in
    let formed : AllFormed (length m.named) l.defined = subst (AllFormed (length m.named)) made all.1 in
    let few : length (names_from m.text [] tokens) ≤ 0 + length (lifting_of parts.0).defined = few_names m parts.0 [] [] tokens parts.1 in
    let e : length m.named ≡ length (names_from m.text [] tokens) = ap length means in
    let d : length (lifting_of parts.0).defined ≡ length l.defined = ap length made in
    let most : length m.named ≤ length l.defined = omega (arith, few, e, d) in
    let follows = order_follows (graph_of l.defined) in
    record {
      long = ap length n.names ∙ as_many l.defined chain O (number_of O) follows ∙ sym (ap length n.by_number);
      lower = subst (λ (ts : List Ty). types_formed 0 (zip named ts) ≡ true) (sym n.by_number) (lower_from l.defined (length m.named) (formed_at (length m.named) l.defined formed) most O [] O refl follows named);
    }

-- tokens that were lifted are what pieces of them give
abbrev pub Exact : Type 0
Exact = (m : Meaning) (names : List (List ℕ)) (tokens : List Token) (l : Lifting) → lift_all m names tokens ≡ Ok l → Parted m names tokens l

lifted_typed : Exact → (text : List ℕ) (tokens : List Token) (x : Lifted) → Lifts text tokens (Ok x) → AreTyped x.named x.types
lifted_typed exact text tokens x k = go (type_definitions text tokens) refl k
  where
    go : (r : Result Lifting Stopped) → type_definitions text tokens ≡ r → Follows r (Ok x) → AreTyped x.named x.types
    go (Ok l) e f = by_pieces (in_types text tokens) tokens l x.named x.types refl (exact (in_types text tokens) [] tokens l e) f.0
    go (Err s) e f = absurd cc

-- and so names mean in the forms of the text what they mean in its module
pub names_typed : Exact → (text : List ℕ) (tokens : List Token) (x : Lifted) → Lifts text tokens (Ok x)
    → IsTyped (meaning_in text x) (zip x.named x.types) x.rest
names_typed exact text tokens x k =
    let t = lifted_typed exact text tokens x k in
    record {
      globals = refl;
      functions = refl;
      named = long_as x.named x.types t.long;
      stand = λ u. stand_same x.named x.types u (out-Ty u) t.long;
      lower = t.lower;
    }
