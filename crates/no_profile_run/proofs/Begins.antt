-- A tally begins with nothing.
use Rattle.std.proofs.Common.{◌≡◌, ℕ, zero, suc, ◌≤◌, List, [], get_or, length, replicate, slice_get, Option, Some, None, refl, sym, ap, subst, ◌∙◌, arith}
use Rattle.std.proofs.lemmas.Option.{same_Some}
use Rattle.no_profile_run.specs.Profiled.{Entry}
use Rattle.no_profile_run.specs.Tallied.{Holds, IsCounter, Tallied, nothing}
use Rattle.no_profile_run.specs.declared.tally.Counter.{Counter}
use Rattle.no_profile_run.specs.declared.tally.Tally.{Tally}

all_same : {A : Type 0} (n : ℕ) (x : A) (k : ℕ) (y : A) → slice_get (replicate n x) k ≡ Some y → x ≡ y
all_same zero x k y e = absurd cc
all_same (suc n) x zero y e = same_Some x y e
all_same (suc n) x (suc k) y e = all_same n x k y e

abbrev nought : ℕ
nought = 0

all_zero : (n p : ℕ) → get_or (replicate n nought) p nought ≡ nought
all_zero zero p = refl
all_zero (suc n) zero = refl
all_zero (suc n) (suc p) = all_zero n p

pub begins : (t : Tally) (n m : ℕ) → t.counters.items ≡ replicate n nothing → t.live.items ≡ [] → t.stamps.items ≡ replicate m 0 → t.time ≡ 0 → Tallied [] t (λ f. []) 0
begins t n m counters live stamps time = record {
  holds = record {
    many = ap length live;
    opens = λ k o is. absurd (let none = sym (ap (λ l. slice_get l k) live) ∙ is in cc);
    counters = λ f c is. subst (λ (c : Counter). IsCounter Rattle.std.proofs.Common.false c []) (same f c is) (record { calls = refl; steps = refl; pages = refl });
    stamped = λ p. omega (arith, ap (λ (l : List ℕ). get_or l p 0) stamps, all_zero m p, time);
  };
  depth = λ f c is. ap (λ (z : Counter). z.depth) (sym (same f c is));
}
  where
    same : (f : ℕ) (c : Counter) → slice_get t.counters.items f ≡ Some c → nothing ≡ c
    same f c is = all_same n nothing f c (sym (ap (λ (l : List Counter). slice_get l f) counters) ∙ is)
