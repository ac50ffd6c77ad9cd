-- What definitions give: all by number, or a circle.
use Rattle.std.proofs.Common.{◌≡◌, ℕ, ◌<◌, ◌≤◌, ◌⊎◌, inl, inr, Bool, List, [], length, Result, Ok, Err, sym, ap, subst, ◌∙◌, arith}
use Rattle.std.proofs.lemmas.Bool.{cases_lt}
use Rattle.std.proofs.lemmas.List.{length-map}
use Rattle.no_lex.specs.declared.token.Token.{Token}
use Rattle.no_ir.specs.declared.types.Ty.{Ty}
use Rattle.no_read_rules.specs.declared.fault.Flaw.TheVariants.{Circle}
use Rattle.no_read_rules.specs.declared.fault.Stopped.{Stopped}
use Rattle.no_read_rules.specs.declared.fault.Stop.{Stop}
use Rattle.no_read_rules.specs.declared.fault.Stop.TheVariants as stop
use Rattle.no_read_types.specs.declared.definition.Definition.{Definition}
use Rattle.no_read_types.specs.declared.definition.Lifting.{Lifting}
use Rattle.no_read_types.specs.declared.lifted.Lifted.{Lifted}
use Rattle.no_read_types.specs.Graph.{graph_of, order_of, number_of, references, count_set, IsNumbering, IsFirstOnCircle}
use Rattle.no_read_types.specs.Lifting.{type_definitions}
use Rattle.no_read_types.specs.Lifted.{number_in, picked, types_in, names_with, place_in, IsNumbered, IsCircle, Arranges, Follows, Lifts, Answers}

graph_long : (defined : List Definition) → length (graph_of defined) ≡ length defined
graph_long defined = length-map defined (λ d. references d.ty)

-- ---- arranging

pub all_numbered : (defined : List Definition) (graph : List (List ℕ)) (order numbers : List ℕ) (waits : List Bool) (named : List (List ℕ)) (types : List Ty)
    → graph ≡ graph_of defined → order ≡ order_of graph → IsNumbering graph order numbers waits → length graph ≤ length order
    → named ≡ names_with [] (picked defined order) → types ≡ types_in (number_in numbers) (picked defined order) → IsNumbered defined named types
all_numbered defined graph order numbers waits named types g o is long en et = record {
  all = all;
  names = en ∙ ap (λ o. names_with [] (picked defined o)) (sym is_order);
  by_number = et ∙ ap (λ (f : ℕ → ℕ). types_in f (picked defined order)) same ∙ ap (λ o. types_in (number_of o) (picked defined o)) (sym is_order);
}
  where
    is_order : order_of (graph_of defined) ≡ order
    is_order = ap order_of (sym g) ∙ sym o

    all : length (order_of (graph_of defined)) ≡ length defined
    all = let a : length (order_of (graph_of defined)) ≡ length order = ap length is_order in let b : length graph ≡ length defined = ap length g ∙ graph_long defined in let c = is.count in omega arith

    same : number_in numbers ≡ number_of order
    same = λ i n. is.numbered n i

pub is_circle : (defined : List Definition) (graph : List (List ℕ)) (order : List ℕ) (n : ℕ) (f : Stopped)
    → graph ≡ graph_of defined → order ≡ order_of graph → length order < length graph → IsFirstOnCircle graph n → f ≡ record { flaw = Circle; at = place_in defined n } → IsCircle defined f
is_circle defined graph order n f g o short first p = record {
  stuck = let a : length order ≡ length (order_of (graph_of defined)) = ap length (o ∙ ap order_of g) in let b : length graph ≡ length defined = ap length g ∙ graph_long defined in omega arith;
  circle = n;
  first = subst (λ g. IsFirstOnCircle g n) g first;
  is = p;
}

pub some_wait : (graph : List (List ℕ)) (order numbers : List ℕ) (waits : List Bool) → IsNumbering graph order numbers waits → length order < length graph → 0 < count_set waits
some_wait graph order numbers waits is short = let c = is.count in omega arith

-- ---- at most one answer

one_circle : (graph : List (List ℕ)) (n m : ℕ) → IsFirstOnCircle graph n → IsFirstOnCircle graph m → n ≡ m
one_circle graph n m a b = by (cases_lt n m) (cases_lt m n)
  where
    by : (n < m) ⊎ (m ≤ n) → (m < n) ⊎ (n ≤ m) → n ≡ m
    by (inl lt) c = absurd (b.first n lt a.on_circle)
    by (inr ge) (inl lt) = absurd (a.first m lt b.on_circle)
    by (inr ge) (inr le) = omega arith

arranges_once : (l : Lifting) (a b : Result Lifted Stopped) → Arranges l a → Arranges l b → a ≡ b
arranges_once l (Ok x) (Ok y) p q = λ i. Ok (record { named = (p.0.names ∙ sym q.0.names) i; types = (p.0.by_number ∙ sym q.0.by_number) i; rest = (p.1 ∙ sym q.1) i })
arranges_once l (Ok x) (Err f) p q = let a = p.0.all in let b = q.stuck in absurd (omega arith)
arranges_once l (Err f) (Ok y) p q = let a = q.0.all in let b = p.stuck in absurd (omega arith)
arranges_once l (Err f) (Err g) p q = ap Err (p.is ∙ ap (λ (n : ℕ). record { flaw = Circle; at = place_in l.defined n }) (one_circle (graph_of l.defined) p.circle q.circle p.first q.first) ∙ sym q.is)

follows_once : (r : Result Lifting Stopped) (a b : Result Lifted Stopped) → Follows r a → Follows r b → a ≡ b
follows_once (Ok l) a b p q = arranges_once l a b p q
follows_once (Err f) a b p q = p ∙ sym q

pub lifts_once : (text : List ℕ) (tokens : List Token) (a b : Result Lifted Stopped) → Lifts text tokens a → Lifts text tokens b → a ≡ b
lifts_once text tokens a b p q = follows_once (type_definitions text tokens) a b p q

pub only_answer : (result : Result Lifted Stop) (text : List ℕ) (tokens : List Token) (answer : Result Lifted Stopped) → Answers result (Lifts text tokens) → Lifts text tokens answer → Answers result (λ found. found ≡ answer)
only_answer (Ok x) text tokens answer p q = follows_once (type_definitions text tokens) (Ok x) answer p q
only_answer (Err (stop.Fault f)) text tokens answer p q = follows_once (type_definitions text tokens) (Err f) answer p q
only_answer (Err stop.NoMemory) text tokens answer p q = tt
