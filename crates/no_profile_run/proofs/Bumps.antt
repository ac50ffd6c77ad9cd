-- Open calls in which a page is counted, one after another.
use Rattle.std.proofs.Common.{◌≡◌, ℕ, ◌+◌, ◌<◌, ◌≤◌, nat_lt, inl, inr, Bool, true, false, if◌then◌else◌, List, length, slice_get, slice_set, Option, Some, refl, sym, ap, subst, ◌∙◌, arith}
use Rattle.std.proofs.lemmas.Bool.{cases_lt, le-ltb, lt-ltb}
use Rattle.std.proofs.lemmas.Option.{same_Some, slice_get_within}
use Rattle.no_profile_run.specs.Tallied.{bumped}
use Rattle.no_profile_run.specs.declared.tally.Open.{Open}
use Rattle.no_profile_run.proofs.Sets.{equal, set_elsewhere, set_there}

-- the first i of them
abbrev pub AreBumped : ℕ → List Open → List Open → ℕ → Type 0
AreBumped stamp xs ys i = (k : ℕ) (o : Open) → slice_get xs k ≡ Some o → slice_get ys k ≡ Some (if nat_lt k i then bumped stamp o else o)

pub none_bumped : (stamp : ℕ) (xs : List Open) → AreBumped stamp xs xs 0
none_bumped stamp xs k o e = e ∙ sym (ap (λ (b : Bool). Some (if b then bumped stamp o else o)) (le-ltb k 0 (omega arith)))

pub one_bumped : (stamp : ℕ) (xs ys : List Open) (i : ℕ) (x x' : Open) → slice_get ys i ≡ Some x → x' ≡ bumped stamp x → AreBumped stamp xs ys i → AreBumped stamp xs (slice_set ys i x') (i + 1)
one_bumped stamp xs ys i x x' there is h k o e = elim (equal i k) [
  | inl same ↦
      let here : slice_get ys i ≡ Some o = ap (slice_get ys) same ∙ h k o e ∙ ap (λ (b : Bool). Some (if b then bumped stamp o else o)) (le-ltb k i (omega arith)) in
      let old : x ≡ o = same_Some x o (sym there ∙ here) in
      let new : slice_get (slice_set ys i x') i ≡ Some x' = set_there ys i x' (slice_get_within ys i x there) in
      ap (slice_get (slice_set ys i x')) (sym same) ∙ new ∙ ap Some (is ∙ ap (bumped stamp) old) ∙ sym (ap (λ (b : Bool). Some (if b then bumped stamp o else o)) (lt-ltb k (i + 1) (omega arith)))
  | inr other ↦
      set_elsewhere ys i k x' other ∙ h k o e ∙ elim (cases_lt k i) [
        | inl lt ↦ ap (λ (b : Bool). Some (if b then bumped stamp o else o)) (lt-ltb k i lt ∙ sym (lt-ltb k (i + 1) (omega arith)))
        | inr le ↦
            let above : i + 1 ≤ k = elim (cases_lt i k) [ inl more ↦ omega arith | inr less ↦ absurd (other (omega arith)) ] in
            ap (λ (b : Bool). Some (if b then bumped stamp o else o)) (le-ltb k i le ∙ sym (le-ltb k (i + 1) above))
      ]
]

pub all_bumped : (stamp : ℕ) (xs ys : List Open) (i : ℕ) → length xs ≤ i → AreBumped stamp xs ys i → (k : ℕ) (o : Open) → slice_get xs k ≡ Some o → slice_get ys k ≡ Some (bumped stamp o)
all_bumped stamp xs ys i le h k o e =
    let lt : k < i = omega (arith, le, slice_get_within xs k o e) in
    h k o e ∙ ap (λ (b : Bool). Some (if b then bumped stamp o else o)) (lt-ltb k i lt)
