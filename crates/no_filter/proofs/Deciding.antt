-- From the parts of a judgement to the verdict.
use Rattle.std.proofs.Common.{◌≡◌, subst, ℕ, ◌+◌, ◌<◌, Bool, true, false, List, [], ◌∷◌, length, arith}
use Rattle.std.specs.Prelude.{Option, Some, bytes_eq, slice_get, if◌then◌else◌}
use Rattle.std.proofs.lemmas.Option.{none-some, same_Some}
use Rattle.no_ir.specs.declared.function.Function.{Function}
use Rattle.no_ir.specs.declared.function.Module.{Module}
use Rattle.no_layout.specs.declared.layout.Layout.{Layout}
use Rattle.no_room.specs.Accepted.{Accepted}
use Rattle.no_filter.specs.Verdicts.{Answers, IsAlone, IsOf, IsReached, IsSpared, named_from}
use Rattle.no_filter.specs.declared.rules.Rule.{Rule}
use Rattle.no_filter.specs.declared.rules.Rule.TheVariants as rule
use Rattle.no_filter.specs.declared.rules.Verdict.{Verdict}
use Rattle.no_filter.specs.declared.rules.Verdict.TheVariants.{Free, Bound}

pub answers_is : (m : Module) (f : ℕ) (lent goals : List ℕ) (o x : Option (List (List ℕ))) → lent ≡ goals → o ≡ x → Answers m f lent o → Answers m f goals x
answers_is m f lent goals o x these is h = subst (λ (y : Option (List (List ℕ))). Answers m f goals y) is (subst (λ (l : List ℕ). Answers m f l o) these h)

pub reached_is : (m : Module) (f : ℕ) (o x : Option (Rule × List (List ℕ))) → o ≡ x → IsReached m f o → IsReached m f x
reached_is m f o x is h = subst (λ (y : Option (Rule × List (List ℕ))). IsReached m f y) is h

-- a rule of what is reached is the verdict
pub bound_is : (a : Accepted) (name : List ℕ) (server : Layout) (f : ℕ) (r : Rule) (names : List (List ℕ)) → IsReached a.«module» f (Some (r, names)) → IsOf a name server f (Bound r names)
bound_is a name server f rule.Input names h = h
bound_is a name server f rule.Volatile names h = h
bound_is a name server f rule.Pinned names h = h
bound_is a name server f rule.NotDefined names h = absurd h
bound_is a name server f rule.Width names h = absurd h
bound_is a name server f rule.Argument names h = absurd h

-- else the function itself decides
pub alone_is : (a : Accepted) (name : List ℕ) (server device : Layout) (f : ℕ) (g : Function) (v : Verdict) → device ≡ a.layout → slice_get a.«module».functions f ≡ Some g → IsSpared a.«module» f → IsAlone device server name f g v → IsOf a name server f v
alone_is a name server device f g v same at spared h = decided v (subst (λ (l : Layout). IsAlone l server name f g v) same h)
  where
    decided : (v : Verdict) → IsAlone a.layout server name f g v → IsOf a name server f v
    decided (Free k) h = (spared, (g, at, h))
    decided (Bound rule.Input names) h = absurd h
    decided (Bound rule.Volatile names) h = absurd h
    decided (Bound rule.Pinned names) h = absurd h
    decided (Bound rule.NotDefined names) h = (spared, (g, at, h))
    decided (Bound rule.Width names) h = (spared, (g, at, h))
    decided (Bound rule.Argument names) h = (spared, (g, at, h))

-- a function that was found by its name is one of them
pub named_within : (name : List ℕ) (k : ℕ) (functions : List Function) (n : ℕ) → named_from name k functions ≡ Some n → n < k + length functions
named_within name k [] n e = absurd (none-some n e)
named_within name k (g ∷ more) n e = by_name (bytes_eq g.name name) e (λ (h : named_from name (k + 1) more ≡ Some n). named_within name (k + 1) more n h)
  where
    by_name : (b : Bool) → (if b then Some k else named_from name (k + 1) more) ≡ Some n → (named_from name (k + 1) more ≡ Some n → n < k + 1 + length more) → n < k + length (g ∷ more)
    by_name true e later = let same : k ≡ n = same_Some k n e in omega (arith, same)
    by_name false e later = let lt : n < k + 1 + length more = later e in omega (arith, lt)
