-- Sets that are used, each once.
use Rattle.std.proofs.Common.{◌≡◌, ◌∙◌, refl, sym, ap, subst, ℕ, ◌+◌, ◌<◌, ◌≤◌, inl, inr, Bool, true, false, List, [], ◌∷◌, length, take, get_or, set, Vec, arith, get_or-set_same, get_or-set_other, length-set}
use Rattle.std.specs.Global.{Global}
use Rattle.std.specs.List.{Contains}
use Rattle.std.proofs.lemmas.Bool.{cases_eq}
use Rattle.std.proofs.lemmas.List.{get_or_read, take_more, take_all}
use Rattle.std.proofs.lemmas.List.Elements.{Contains-append_cases, Contains-get_or}
use Rattle.no_calls.specs.Rows.{row}
use Rattle.no_calls.specs.Spreading.{AreFound, Marked, Noted, Reason, is_done}
use Rattle.no_calls.specs.declared.found.Found.{Found}
use Rattle.no_calls.proofs.Finding.{found_kept, noted_then, noted_weaker, single}

module _ (down : List (Vec ℕ Global)) where
  -- the set was used before
  pub marked_same : (f : Found) (done : List Bool) (s : ℕ) (flag : Bool) → s < length done → flag ≡ get_or done s flag → flag ≡ true → Marked (s ∷ []) down f done done
  marked_same f done s flag lt is yes' = record {
    kept = λ t h. h;
    all = λ t h. ap (λ (k : ℕ). is_done done k) (single s t h) ∙ (sym (get_or_read done s flag lt is false) ∙ yes');
    met = λ t h. inl h;
    wide = refl;
  }

  pub marked_new : (f : Found) (done : List Bool) (s : ℕ) → s < length done → AreFound (row down s) f → Marked (s ∷ []) down f done (set done s true)
  marked_new f done s lt found = record {
    kept = λ t h. elim (cases_eq t s) [ inl same ↦ ap (λ (k : ℕ). is_done (set done s true) k) same ∙ here | inr other ↦ get_or-set_other done s t true false other ∙ h ];
    all = λ t h. ap (λ (k : ℕ). is_done (set done s true) k) (single s t h) ∙ here;
    met = λ t h. elim (cases_eq t s) [
      | inl same ↦ inr (subst (λ (k : ℕ). AreFound (row down k) f) (sym same) found)
      | inr other ↦ inl (sym (get_or-set_other done s t true false other) ∙ h)
    ];
    wide = length-set done s true;
  }
    where
      here : is_done (set done s true) s ≡ true
      here = get_or-set_same done s true false lt

  pub marked_none : (f : Found) (done : List Bool) → Marked [] down f done done
  marked_none f done = record {
    kept = λ t h. h;
    all = λ t h. absurd (omega (arith, h.1));
    met = λ t h. inl h;
    wide = refl;
  }

  -- one set more
  pub marked_more : (why : ℕ → Type 0) (level : ℕ) (f g : Found) (sets : List ℕ) (i : ℕ) (a b c : List Bool) → i < length sets → Noted why level f g → Marked (take i sets) down f a b → Marked (get_or sets i 0 ∷ []) down g b c → Marked (take (i + 1) sets) down g a c
  marked_more why level f g sets i a b c lt noted first second = record {
    kept = λ t h. second.kept t (first.kept t h);
    all = λ t h. elim (Contains-append_cases (take i sets) (get_or sets i 0 ∷ []) t (subst (λ (l : List ℕ). Contains l t) (take_more sets i 0 lt) h)) [
      | inl early ↦ second.kept t (first.all t early)
      | inr late ↦ second.all t late
    ];
    met = λ t h. elim (second.met t h) [
      | inl was ↦ elim (first.met t was) [ inl early ↦ inl early | inr found ↦ inr (found_kept why level f g (row down t) noted found) ]
      | inr found ↦ inr found
    ];
    wide = second.wide ∙ first.wide;
  }

  -- what a set of the list led to, it led to
  pub reason_next : (level : ℕ) (a b c : Found) (sets : List ℕ) (i : ℕ) → i < length sets → Noted (Reason sets down) level a b → Noted (Reason (get_or sets i 0 ∷ []) down) level b c → Noted (Reason sets down) level a c
  reason_next level a b c sets i lt first second =
      noted_then (Reason sets down) level a b c first
      (noted_weaker (Reason (get_or sets i 0 ∷ []) down) (Reason sets down) level b c
      (λ k (s, there, member). (s, subst (λ (j : ℕ). Contains sets j) (sym (single (get_or sets i 0) s there)) (Contains-get_or sets i 0 lt), member)) second)

  pub marked_whole : (f : Found) (sets : List ℕ) (i : ℕ) (a b : List Bool) → length sets ≤ i → Marked (take i sets) down f a b → Marked sets down f a b
  marked_whole f sets i a b all m = subst (λ (l : List ℕ). Marked l down f a b) (take_all i sets all) m
