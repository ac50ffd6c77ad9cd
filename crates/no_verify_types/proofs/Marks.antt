-- The first unknown function by marks and by names.
use Rattle.std.proofs.Common.{arith, ◌≡◌, ◌∙◌, refl, ap, ℕ, ◌+◌, ◌<◌, Bool, false, if◌then◌else◌, List, [], ◌∷◌, length, replicate, get_or, Option, Some}
use Rattle.no_ir.specs.declared.function.Function.{Function}
use Rattle.no_ir.specs.declared.function.Role.{Role}
use Rattle.no_verify_types.specs.Named.{first_unknown, is_named, is_unknown}
use Rattle.no_verify_types.specs.Tables.{marked}
use Rattle.no_verify_types.proofs.Tables.{marked_all}

one_step : (role : Role) (a b : Bool) (f : Function) (k : ℕ) (x y : Option ℕ) → a ≡ b → x ≡ y → (if is_unknown role a f then Some k else x) ≡ (if is_unknown role b f then Some k else y)
one_step role a b f k x y same more = rw (same, more) refl

agree_from : (role : Role) (u v : ℕ → Bool) (k : ℕ) (fs : List Function) → ((j : ℕ) → j < k + length fs → u j ≡ v j) → first_unknown role u k fs ≡ first_unknown role v k fs
agree_from role u v k [] same = refl
agree_from role u v k (f ∷ fs) same =
    one_step role (u k) (v k) f k (first_unknown role u (k + 1) fs) (first_unknown role v (k + 1) fs) (same k (omega arith)) (agree_from role u v (k + 1) fs (λ j below. same j (omega arith)))

pub by_marks : (role : Role) (marks : List Bool) (names : List ℕ) (fs : List Function) → marks ≡ marked (replicate (length fs) false) names → first_unknown role (λ k. get_or marks k false) 0 fs ≡ first_unknown role (is_named names) 0 fs
by_marks role marks names fs is = agree_from role (λ k. get_or marks k false) (is_named names) 0 fs (λ j below. ap (λ (l : List Bool). get_or l j false) is ∙ marked_all (length fs) names j (omega arith))

pub unknown_found : (role : Role) (o : Option ℕ) (given marks blank : List Bool) (n : ℕ) (names all wanted : List ℕ) (fs gs : List Function) → o ≡ first_unknown role (λ k. get_or given k false) 0 gs → given ≡ marks → gs ≡ fs
    → marks ≡ marked blank names → blank ≡ replicate n false → n ≡ length fs → names ≡ all → all ≡ wanted → o ≡ first_unknown role (is_named wanted) 0 fs
unknown_found role o given marks blank n names all wanted fs gs told lent same written none long took is =
    let whole : given ≡ marked (replicate (length fs) false) wanted =
    lent ∙ written ∙ ap (λ (l : List Bool). marked l names) (none ∙ ap (λ (k : ℕ). replicate k false) long) ∙ ap (marked (replicate (length fs) false)) (took ∙ is) in
    told ∙ ap (first_unknown role (λ k. get_or given k false) 0) same ∙ by_marks role given wanted fs whole
