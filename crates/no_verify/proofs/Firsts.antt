-- The first of several kinds, and of several functions, in which there is a fault.
use Rattle.std.proofs.Common.{◌≡◌, ◌<◌, ◌≤◌, ℕ, zero, suc, ◌+◌, List, [], ◌∷◌, length, slice_get, Option, Some, None, refl, sym, ap, subst, ◌∙◌, ◌⊎◌, inl, inr, arith}
use Rattle.std.proofs.lemmas.Option.{slice_get_within}
use Rattle.no_ir.specs.declared.function.Function.{Function}
use Rattle.no_verify_types.specs.declared.place.FaultPlace.{FaultPlace}
use Rattle.no_verify_types.specs.Places.{fault_at}
use Rattle.no_verify_paths.specs.Paths.{IsAnswer}
use Rattle.no_verify.specs.declared.fault.VerifyKind.{VerifyKind}
use Rattle.no_verify.specs.declared.fault.VerifyFault.{VerifyFault}
use Rattle.no_verify.specs.Kinds.{AreAssigned, IsUnassignedAt, IsUnassignedPlace}
use Rattle.no_verify.specs.Verdict.{AreNowhere, AreNowhereBefore, IsFirstFault, place_of}

last_or_before : (j n : ℕ) → j < n + 1 → (j < n) ⊎ (j ≡ n)
last_or_before zero zero h = inr refl
last_or_before zero (suc n) h = inl (omega arith)
last_or_before (suc j) zero h = absurd (omega (arith, h))
last_or_before (suc j) (suc n) h = elim (last_or_before j n (omega (arith, h))) [ inl lt ↦ inl (omega (arith, lt)) | inr e ↦ inr (ap suc e) ]

module _ (is : VerifyKind → Option FaultPlace → Type 0) (kinds : List VerifyKind) where
  -- one kind more has no place
  pub more_nowhere : (n : ℕ) (k : VerifyKind) → slice_get kinds n ≡ Some k → is k None → AreNowhereBefore is kinds n → AreNowhereBefore is kinds (n + 1)
  more_nowhere n k at none before j other lt got = elim (last_or_before j n lt) [
    | inl earlier ↦ before j other earlier got
    | inr e ↦ (let same : k ≡ other = (let got' : slice_get kinds n ≡ Some other = subst (λ (i : ℕ). slice_get kinds i ≡ Some other) e got in cc) in subst (λ (x : VerifyKind). is x None) same none)
  ]

  pub none_nowhere : AreNowhereBefore is kinds 0
  none_nowhere j k lt got = absurd (omega (arith, lt))

  pub all_nowhere : (n : ℕ) → length kinds ≤ n → AreNowhereBefore is kinds n → AreNowhere is kinds
  all_nowhere n long before j k got = (let within = slice_get_within kinds j k got in before j k (omega (arith, within, long)) got)

  pub first_found : (n : ℕ) (k : VerifyKind) (place : FaultPlace) (fault : VerifyFault) → slice_get kinds n ≡ Some k → fault.kind ≡ k → place_of fault ≡ place → is k (Some place)
      → AreNowhereBefore is kinds n → IsFirstFault is kinds fault
  first_found n k place fault at same here found before = record {
    number = n;
    kind = at ∙ ap Some (sym same);
    place = subst (λ (p : FaultPlace). is fault.kind (Some p)) (sym here) (subst (λ (x : VerifyKind). is x (Some place)) (sym same) found);
    before = before;
  }

  -- behind a kind that has no place
  pub later_first : (k : VerifyKind) (fault : VerifyFault) → is k None → IsFirstFault is kinds fault → IsFirstFault is (k ∷ kinds) fault
  later_first k fault none first = record {
    number = suc first.number;
    kind = first.kind;
    place = first.place;
    before = behind;
  }
    where
      behind : AreNowhereBefore is (k ∷ kinds) (suc first.number)
      behind zero other lt got = (let same : k ≡ other = cc in subst (λ (x : VerifyKind). is x None) same none)
      behind (suc j) other lt got = first.before j other (omega (arith, lt)) got

  pub later_nowhere : (k : VerifyKind) → is k None → AreNowhere is kinds → AreNowhere is (k ∷ kinds)
  later_nowhere k none nowhere zero other got = (let same : k ≡ other = cc in subst (λ (x : VerifyKind). is x None) same none)
  later_nowhere k none nowhere (suc j) other got = nowhere j other got

module _ (functions : List Function) where
  pub more_assigned : (n : ℕ) (f : Function) → slice_get functions n ≡ Some f → IsAnswer f None → AreAssigned functions n → AreAssigned functions (n + 1)
  more_assigned n f at fine before j other lt got = elim (last_or_before j n lt) [
    | inl earlier ↦ before j other earlier got
    | inr e ↦ (let same : f ≡ other = (let got' : slice_get functions n ≡ Some other = subst (λ (i : ℕ). slice_get functions i ≡ Some other) e got in cc) in subst (λ (g : Function). IsAnswer g None) same fine)
  ]

  pub all_assigned : (n : ℕ) → length functions ≤ n → AreAssigned functions n → IsUnassignedPlace functions None
  all_assigned n long before j f got = (let within = slice_get_within functions j f got in before j f (omega (arith, within, long)) got)

  pub first_unassigned : (k : ℕ) (f : Function) (b i : ℕ) (place : FaultPlace) → slice_get functions k ≡ Some f → IsAnswer f (Some (b, i)) → AreAssigned functions k → place ≡ fault_at k b i
      → IsUnassignedAt functions place
  first_unassigned k f b i place at first before e = subst (IsUnassignedAt functions) (sym e) (record { function = f; is = at; first = first; before = before })
