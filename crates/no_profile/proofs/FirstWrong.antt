-- The name that is told is the first wrong one in the order of bytes.
use Rattle.std.proofs.Common.{◌≡◌, ℕ, Bool, true, false, ◌&&◌, ◌||◌, ◌==◌, ◌⊎◌, List, [], ◌∷◌, fold, Option, Some, None, is_some, bytes_eq, if◌then◌else◌, Result, Ok, Err, Ordering, Less, Equal, Greater, refl, sym, ap, ◌∙◌, subst, inl, inr, true≢false}
use Rattle.std.proofs.lemmas.Cmp.{nat_list_cmp_total, tied_itself, upto}
use Rattle.std.specs.Cmp.Lexicographic.{slice_cmp}
use Rattle.std.specs.Ordering.{is_gt, match_ordering, nat_cmp, ordering_reverse}
use Rattle.serde_json.specs.Data.{Members, object}
use Rattle.no_ir.specs.Naming.{is_known}
use Rattle.no_profile.proofs.Numbering.{text_is, text_same}
use Rattle.no_profile.specs.Reading.{IsFirstAmiss, IsObject, TellsFirst, earlier, first_wrong, functions_in, is_amiss, is_wrong, judged, judged_members, names_asked, steps_in, unless_wrong, version_in, with_name}
use Rattle.no_profile.specs.Told.{Told}
use Rattle.no_profile.specs.declared.profile.Line.{Line}
use Rattle.no_profile.specs.declared.profile.Profile.{Profile}
use Rattle.no_profile.specs.declared.fault.ProfileError.{ProfileError}
use Rattle.no_profile.specs.declared.fault.ProfileError.TheVariants as error
use Rattle.no_profile.specs.declared.fault.ProfileFault.{ProfileFault}
use Rattle.no_profile.specs.declared.fault.ProfileFault.TheVariants as fault

-- a name does not come behind another
abbrev UpTo : List ℕ → List ℕ → Type 0
UpTo a b = is_gt (slice_cmp nat_cmp a b) ≡ false

up_to_itself : (a b : List ℕ) → a ≡ b → UpTo a b
up_to_itself a b e = ap (λ (x : List ℕ). is_gt (slice_cmp nat_cmp a x)) (sym e) ∙ ap is_gt (tied_itself nat_list_cmp_total a)

up_to_both : (a b c : List ℕ) → UpTo a b → UpTo b c → UpTo a c
up_to_both a b c h k = upto nat_list_cmp_total a b c h k

some_same : (a b : List ℕ) → Some a ≡ Some b → a ≡ b
some_same a b e = cc

-- ---- the earlier of two names

record Earlier (found : Option (List ℕ)) (name e : List ℕ) : Type 0 where
  pub is : (e ≡ name) ⊎ (found ≡ Some e)
  pub below : UpTo e name
  pub under : (f : List ℕ) → found ≡ Some f → UpTo e f

earlier_is : (found : Option (List ℕ)) (name : List ℕ) → Earlier found name (earlier found name)
earlier_is None name = record { is = inl refl; below = up_to_itself name name refl; under = λ f e. absurd cc }
earlier_is (Some found) name = by (slice_cmp nat_cmp name found) refl
  where
    back : (o : Ordering) → slice_cmp nat_cmp name found ≡ o → slice_cmp nat_cmp found name ≡ ordering_reverse o
    back o e = nat_list_cmp_total.antisymm found name ∙ ap ordering_reverse e

    by : (o : Ordering) → slice_cmp nat_cmp name found ≡ o → Earlier (Some found) name (match_ordering o name found found)
    by Less e = record { is = inl refl; below = up_to_itself name name refl; under = λ f d. subst (UpTo name) (some_same found f d) (ap is_gt e) }
    by Equal e = record { is = inr refl; below = ap is_gt (back Equal e); under = λ f d. up_to_itself found f (some_same found f d) }
    by Greater e = record { is = inr refl; below = ap is_gt (back Greater e); under = λ f d. up_to_itself found f (some_same found f d) }

-- ---- the first of many

module _ (wrong : List ℕ → Bool) where
  record Firsts (names : List (List ℕ)) (found : Option (List ℕ)) (r : List ℕ) : Type 0 where
    pub from : (found ≡ Some r) ⊎ ((is_known names r ≡ true) × (wrong r ≡ true))
    pub under : (f : List ℕ) → found ≡ Some f → UpTo r f
    pub least : (q : List ℕ) → is_known names q ≡ true → wrong q ≡ true → UpTo r q

  known_here : (names : List (List ℕ)) (n r : List ℕ) → r ≡ n → is_known (n ∷ names) r ≡ true
  known_here names n r e = ap (λ (b : Bool). b || is_known names r) (text_same r n e)

  known_later : (names : List (List ℕ)) (n r : List ℕ) → is_known names r ≡ true → is_known (n ∷ names) r ≡ true
  known_later names n r e = by (bytes_eq r n)
    where
      by : (b : Bool) → (b || is_known names r) ≡ true
      by true = refl
      by false = e

  known_either : (names : List (List ℕ)) (n q : List ℕ) → is_known (n ∷ names) q ≡ true → (q ≡ n) ⊎ (is_known names q ≡ true)
  known_either names n q e = by (bytes_eq q n) refl e
    where
      by : (b : Bool) → bytes_eq q n ≡ b → (b || is_known names q) ≡ true → (q ≡ n) ⊎ (is_known names q ≡ true)
      by true t k = inl (text_is q n t)
      by false t k = inr k

  -- a name that is not wrong changes nothing
  passes : (n : List ℕ) (names : List (List ℕ)) (found : Option (List ℕ)) (r : List ℕ) → wrong n ≡ false → Firsts names found r → Firsts (n ∷ names) found r
  passes n names found r w f = record {
    from = elim f.from [ inl e ↦ inl e | inr k ↦ inr (known_later names n r k.0, k.1) ];
    under = f.under;
    least = λ q k v. elim (known_either names n q k) [ inl e ↦ absurd (true≢false (sym v ∙ ap wrong e ∙ w)) | inr later ↦ f.least q later v ];
  }

  -- a wrong one counts
  counts : (n : List ℕ) (names : List (List ℕ)) (found : Option (List ℕ)) (r m : List ℕ) → wrong n ≡ true → Earlier found n m → Firsts names (Some m) r → Firsts (n ∷ names) found r
  counts n names found r m w e f =
      let first : UpTo r m = f.under m refl in
      record {
        from = elim f.from [ inl s ↦ here (some_same m r s) e.is | inr k ↦ inr (known_later names n r k.0, k.1) ];
        under = λ g d. up_to_both r m g first (e.under g d);
        least = λ q k v. elim (known_either names n q k) [ inl s ↦ subst (UpTo r) (sym s) (up_to_both r m n first e.below) | inr later ↦ f.least q later v ];
      }
    where
      here : m ≡ r → (m ≡ n) ⊎ (found ≡ Some m) → (found ≡ Some r) ⊎ ((is_known (n ∷ names) r ≡ true) × (wrong r ≡ true))
      here s (inl d) = inr (known_here names n r (sym s ∙ d), ap wrong (sym s ∙ d) ∙ w)
      here s (inr d) = inl (d ∙ ap Some s)

  firsts : (names : List (List ℕ)) (found : Option (List ℕ)) (r : List ℕ) → fold (with_name wrong) found names ≡ Some r → Firsts names found r
  firsts [] found r e = record { from = inl e; under = λ f d. up_to_itself r f (some_same r f (sym e ∙ d)); least = λ q k v. absurd (true≢false (sym k)) }
  firsts (n ∷ names) found r e = by (λ g k. firsts names g r k) (wrong n) refl e
    where
      by : ((g : Option (List ℕ)) → fold (with_name wrong) g names ≡ Some r → Firsts names g r) → (w : Bool) → wrong n ≡ w → fold (with_name wrong) (if w then Some (earlier found n) else found) names ≡ Some r
          → Firsts (n ∷ names) found r
      by later true w k = counts n names found r (earlier found n) w (earlier_is found n) (later (Some (earlier found n)) k)
      by later false w k = passes n names found r w (later found k)

-- ---- what is told

first_amiss : (members : Members) (name : List ℕ) → first_wrong (is_some (functions_in (object members))) (is_some (steps_in (object members))) members ≡ Some name → IsFirstAmiss members name
first_amiss members name e = record { is = both f.from; first = λ other h. let parts = split other h in f.least other parts.0 parts.1 }
  where
    f : Firsts (is_wrong (is_some (functions_in (object members))) (is_some (steps_in (object members)))) (names_asked members) None name
    f = firsts (is_wrong (is_some (functions_in (object members))) (is_some (steps_in (object members)))) (names_asked members) None name e

    both : (None ≡ Some name) ⊎ ((is_known (names_asked members) name ≡ true) × (is_wrong (is_some (functions_in (object members))) (is_some (steps_in (object members))) name ≡ true)) → is_amiss members name ≡ true
    both (inl d) = absurd cc
    both (inr k) = ap (λ (b : Bool). b && is_wrong (is_some (functions_in (object members))) (is_some (steps_in (object members))) name) k.0 ∙ k.1

    split : (other : List ℕ) → is_amiss members other ≡ true → (is_known (names_asked members) other ≡ true) × (is_wrong (is_some (functions_in (object members))) (is_some (steps_in (object members))) other ≡ true)
    split other h = by (is_known (names_asked members) other) (is_wrong (is_some (functions_in (object members))) (is_some (steps_in (object members))) other) h
      where
        by : (a b : Bool) → (a && b) ≡ true → (a ≡ true) × (b ≡ true)
        by true b k = (refl, k)
        by false b k = absurd (true≢false (sym k))

unless_first : (wrong : Option (List ℕ)) (lines : Option (List Line)) (steps : Option ℕ) (name : List ℕ) → unless_wrong wrong lines steps ≡ Err (fault.Member name) → wrong ≡ Some name
unless_first (Some found) lines steps name e = ap Some (same e)
  where
    same : (let told : Result Profile ProfileFault = Err (fault.Member found) in told ≡ Err (fault.Member name)) → found ≡ name
    same d = cc
unless_first None lines steps name e = absurd cc

judged_first : (members : Members) (name : List ℕ) → judged members ≡ Err (fault.Member name) → IsFirstAmiss members name
judged_first members name e = by (version_in (object members) == 1) e
  where
    by : (b : Bool) → (if b then judged_members (functions_in (object members)) (steps_in (object members)) members else Err (fault.Version (version_in (object members)))) ≡ Err (fault.Member name) → IsFirstAmiss members name
    by true d = first_amiss members name (unless_first (first_wrong (is_some (functions_in (object members))) (is_some (steps_in (object members))) members) (functions_in (object members)) (steps_in (object members)) name d)
    by false d = absurd cc

pub told_first : (text : List ℕ) (members : Members) (r : Result Profile ProfileError) → IsObject text members → Told (judged members) r → TellsFirst text r
told_first text ms (Err (error.Fault (fault.Member name))) is t = (ms, is, judged_first ms name t)
told_first text ms (Err (error.Fault (fault.Version n))) is t = tt
told_first text ms (Err (error.Fault fault.NotJson)) is t = tt
told_first text ms (Err (error.Fault fault.TooLong)) is t = tt
told_first text ms (Err error.NoMemory) is t = tt
told_first text ms (Ok p) is t = tt
