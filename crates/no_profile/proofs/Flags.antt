-- The flags of the functions that lines name.
use Rattle.std.proofs.Common.{◌≡◌, ℕ, zero, suc, ◌+◌, ◌<◌, ◌==◌, Bool, true, false, not, ◌&&◌, ◌||◌, List, [], ◌∷◌, ◌++◌, length, map, Option, Some, None, Ok, Err, bytes_eq, nat_lt, get_or, set, replicate, if◌then◌else◌, refl, sym, ap, ◌∙◌, arith, subst, drop, take}
use Rattle.std.proofs.lemmas.Bool.{eqb-true, eqb-false, lt-ltb}
use Rattle.std.proofs.lemmas.List.{get_or-set_same, get_or-set_other, length-set, map-append}
use Rattle.std.proofs.lemmas.List.Folds.{list_any-append}
use Rattle.std.specs.List.{list_any}
use Rattle.no_ir.specs.Naming.{is_known}
use Rattle.no_ir.specs.declared.function.Function.{Function}
use Rattle.no_profile.proofs.Numbering.{next_dropped, next_taken, number_within, one_number, some_is, text_is, text_same}
use Rattle.no_profile.specs.Choices.{chosen, first_unknown, is_chosen, is_number, is_right, is_this, moves, number_of, passing}
use Rattle.no_profile.specs.Gains.{is_worth}
use Rattle.no_profile.specs.Numbered.{AreFlags, AreNumbered, Judges, Sees, Weighs, found}
use Rattle.no_profile.specs.Ranges.{AreInRange, IsInRange}
use Rattle.no_profile.specs.declared.fault.SelectError.{SelectError}
use Rattle.no_profile.specs.declared.fault.SelectError.TheVariants as error
use Rattle.no_profile.specs.declared.profile.Line.{Line}
use Rattle.no_profile.specs.declared.profile.Rates.{Rates}

abbrev pub names : List Line → List (List ℕ)
names lines = map (λ (l : Line). l.name) lines

or_false : (b : Bool) → (b || false) ≡ b
or_false true = refl
or_false false = refl

or_true : (b : Bool) → (b || true) ≡ true
or_true true = refl
or_true false = refl

known_behind : (lines : List Line) (l : Line) (name : List ℕ) → is_known (names (lines ++ l ∷ [])) name ≡ (is_known (names lines) name || bytes_eq name l.name)
known_behind lines l name =
    ap (list_any (bytes_eq name)) (map-append (λ (x : Line). x.name) lines (l ∷ [])) ∙ list_any-append (bytes_eq name) (names lines) (l.name ∷ [])
    ∙ ap (λ (b : Bool). is_known (names lines) name || b) (or_false (bytes_eq name l.name))

moves_behind : (functions : List Function) (r : Rates) (k : ℕ) (lines : List Line) (l : Line) → list_any (moves functions r k) (lines ++ l ∷ []) ≡ (list_any (moves functions r k) lines || moves functions r k l)
moves_behind functions r k lines l =
    list_any-append (moves functions r k) lines (l ∷ []) ∙ ap (λ (b : Bool). list_any (moves functions r k) lines || b) (or_false (moves functions r k l))

-- ---- no line

flag_none : (n k : ℕ) → get_or (replicate n false) k false ≡ false
flag_none n k = go n k
  where
    go : (n k : ℕ) → get_or (replicate n false) k false ≡ false
    go zero k = refl
    go (suc n) zero = refl
    go (suc n) (suc k) = go n k

long_none : (n : ℕ) → length (replicate n false) ≡ n
long_none zero = refl
long_none (suc n) = ap suc (long_none n)

pub no_flags : (functions : List Function) (r : Rates) (n : ℕ) → n ≡ length functions → AreFlags functions r [] (replicate n false) (replicate n false)
no_flags functions r n is = record {
  wide = long_none n ∙ is;
  long = long_none n ∙ is;
  seen = λ name k e. flag_none n k;
  worth = λ k. flag_none n k;
}

-- ---- one line more

abbrev pub marked : Bool → List Bool → ℕ → List Bool
marked good flags k = if good then set flags k true else flags

long_marked : (good : Bool) (flags : List Bool) (k : ℕ) → length (marked good flags k) ≡ length flags
long_marked true flags k = length-set flags k true
long_marked false flags k = refl

flag_marked : (good : Bool) (flags : List Bool) (k j : ℕ) → k < length flags → get_or (marked good flags k) j false ≡ (get_or flags j false || ((j == k) && good))
flag_marked good flags k j h = by (j == k) good refl
  where
    by : (b good : Bool) → (j == k) ≡ b → get_or (marked good flags k) j false ≡ (get_or flags j false || (b && good))
    by true true e = ap (λ i. get_or (set flags k true) i false) (eqb-true j k e) ∙ get_or-set_same flags k true false h ∙ sym (or_true (get_or flags j false))
    by false true e = get_or-set_other flags k j true false (eqb-false j k e) ∙ sym (or_false (get_or flags j false))
    by true false e = sym (or_false (get_or flags j false))
    by false false e = sym (or_false (get_or flags j false))

module _ (functions : List Function) (r : Rates) (lines : List Line) (l : Line) (met good : List Bool) (f : AreFlags functions r lines met good) where
  -- a line that names a function which was not seen is right, and marks it
  pub seen_more : (k : ℕ) → number_of functions l.name ≡ Some k → get_or met k false ≡ false
      → (is_right functions (names lines) l ≡ true) × AreFlags functions r (lines ++ l ∷ []) (set met k true) (marked (is_worth r l) good k)
  seen_more k e new =
      let within : k < length functions = number_within l.name k functions e in
      let unknown : is_known (names lines) l.name ≡ false = sym (f.seen l.name k e) ∙ new in (
        rw (e, unknown) refl,
        record {
          wide = length-set met k true ∙ f.wide;
          long = long_marked (is_worth r l) good k ∙ f.long;
          seen = λ name j d. flag_marked true met k j (omega (arith, f.wide, within)) ∙ again name j d e ∙ sym (known_behind lines l name);
          worth = λ j.
              flag_marked (is_worth r l) good k j (omega (arith, f.long, within)) ∙ ap (λ (b : Bool). b || ((j == k) && is_worth r l)) (f.worth j)
              ∙ ap (λ (o : Option ℕ). list_any (moves functions r j) lines || (is_this j o && is_worth r l)) (sym e) ∙ sym (moves_behind functions r j lines l);
        },
      )
    where
      again : (name : List ℕ) (j : ℕ) → number_of functions name ≡ Some j → number_of functions l.name ≡ Some k → (get_or met j false || ((j == k) && true)) ≡ (is_known (names lines) name || bytes_eq name l.name)
      again name j d e = by (j == k) refl
        where
          by : (b : Bool) → (j == k) ≡ b → (get_or met j false || (b && true)) ≡ (is_known (names lines) name || bytes_eq name l.name)
          by true t =
              let same : name ≡ l.name = one_number name l.name 0 j functions d (e ∙ ap Some (sym (eqb-true j k t))) in
              or_true (get_or met j false) ∙ sym (ap (λ (b : Bool). is_known (names lines) name || b) (text_same name l.name same) ∙ or_true (is_known (names lines) name))
          by false t = or_false (get_or met j false) ∙ f.seen name j d ∙ sym (or_false (is_known (names lines) name)) ∙ ap (λ (b : Bool). is_known (names lines) name || b) (sym (other (bytes_eq name l.name) refl))
            where
              other : (b : Bool) → bytes_eq name l.name ≡ b → b ≡ false
              other false h = refl
              other true h = absurd (eqb-false j k t (some_is (sym d ∙ ap (number_of functions) (text_is name l.name h) ∙ e)))

  -- one that does not is not right
  pub not_right : ((k : ℕ) → number_of functions l.name ≡ Some k → k < length met → get_or met k false ≡ true) → is_right functions (names lines) l ≡ false
  not_right h = by (number_of functions l.name) refl
    where
      by : (o : Option ℕ) → number_of functions l.name ≡ o → (is_number o && not (is_known (names lines) l.name)) ≡ false
      by None e = refl
      by (Some k) e = ap not (sym (f.seen l.name k e) ∙ h k e (omega (arith, f.wide, number_within l.name k functions e)))

-- ---- what seeing a line does

module _ (functions : List Function) (r : Rates) (lines : List Line) (l : Line) (met good : List Bool) (table : List (List ℕ)) (numbers : List ℕ) (n : AreNumbered functions table numbers) (f : AreFlags functions r lines met good) where
  abbrev IsSeen : List Bool → List Bool → Type 0
  IsSeen seen worth = (is_right functions (names lines) l ≡ true) × AreFlags functions r (lines ++ l ∷ []) seen worth

  seen_so : (k : ℕ) → Judges (found table numbers l.name) met l (Ok k) → IsSeen (set met k true) (marked (is_worth r l) good k)
  seen_so k j = seen_more functions r lines l met good f k (sym (n.found l.name) ∙ j.0) j.2

  pub see_marked : (k : ℕ) → Judges (found table numbers l.name) met l (Ok k) → IsSeen (set met k true) (if is_worth r l && nat_lt k (length good) then set good k true else good)
  see_marked k j = subst (λ (b : Bool). IsSeen (set met k true) (if is_worth r l && b then set good k true else good)) (sym (lt-ltb k (length good) within)) (by (is_worth r l) (seen_so k j))
    where
      within : k < length good
      within = omega (arith, f.long, f.wide, j.1)

      by : (b : Bool) → IsSeen (set met k true) (marked b good k) → IsSeen (set met k true) (if b && true then set good k true else good)
      by true x = x
      by false x = x

  pub see_wrong : (name : List ℕ) → Judges (found table numbers l.name) met l (Err (error.Unknown name)) → (is_right functions (names lines) l ≡ false) × (name ≡ l.name)
  see_wrong name j = (not_right functions r lines l met good f (λ k e w. j.1 k (n.found l.name ∙ e) w), j.0)

  pub see_failed : (e : SelectError) (seen worth : List Bool) → Judges (found table numbers l.name) met l (Err e) → Sees functions r lines l (Err e) seen worth
  see_failed error.NoMemory seen worth j = tt
  see_failed (error.Unknown name) seen worth j = see_wrong name j

-- ---- all lines

pub unknown_more : (functions : List Function) (named : List (List ℕ)) (l : Line) (more : List Line) → is_right functions named l ≡ true → first_unknown functions named (l ∷ more) ≡ first_unknown functions (named ++ l.name ∷ []) more
unknown_more functions named l more e = rw e refl

pub unknown_here : (functions : List Function) (named : List (List ℕ)) (l : Line) (more : List Line) → is_right functions named l ≡ false → first_unknown functions named (l ∷ more) ≡ Some l.name
unknown_here functions named l more e = rw e refl

-- the flags of the lines so far, and what is left to be judged
abbrev pub IsSoFar : List Function → Rates → List Line → List Line → List Line → List Bool → List Bool → Type 0
IsSoFar functions r all before more met good = AreFlags functions r before met good × (first_unknown functions (names before) more ≡ first_unknown functions [] all)

pub so_far_more : (functions : List Function) (r : Rates) (all before more : List Line) (l : Line) (met good seen worth : List Bool) → IsSoFar functions r all before (l ∷ more) met good
    → (is_right functions (names before) l ≡ true) × AreFlags functions r (before ++ l ∷ []) seen worth → IsSoFar functions r all (before ++ l ∷ []) more seen worth
so_far_more functions r all before more l met good seen worth so s =
    (s.1, ap (λ (named : List (List ℕ)). first_unknown functions named more) (map-append (λ (x : Line). x.name) before (l ∷ [])) ∙ sym (unknown_more functions (names before) l more s.0) ∙ so.1)

pub so_far_wrong : (functions : List Function) (r : Rates) (all before more : List Line) (l : Line) (met good : List Bool) (name : List ℕ) → IsSoFar functions r all before (l ∷ more) met good
    → (is_right functions (names before) l ≡ false) × (name ≡ l.name) → first_unknown functions [] all ≡ Some name
so_far_wrong functions r all before more l met good name so s = sym so.1 ∙ unknown_here functions (names before) l more s.0 ∙ ap Some (sym s.1)

module _ (functions : List Function) (r : Rates) (all : List Line) (i : ℕ) (met good : List Bool) (so : AreFlags functions r (take i all) met good × (first_unknown functions (names (take i all)) (drop i all) ≡ first_unknown functions [] all)) where
  module _ (l : Line) (below : i < length all) (is : l ≡ get_or all i l) where
    ahead : IsSoFar functions r all (take i all) (l ∷ drop (i + 1) all) met good
    ahead = (so.0, ap (first_unknown functions (names (take i all))) (sym (next_dropped all i l below is)) ∙ so.1)

    pub weigh_next : (seen worth : List Bool) → (is_right functions (names (take i all)) l ≡ true) × AreFlags functions r (take i all ++ l ∷ []) seen worth
        → AreFlags functions r (take (i + 1) all) seen worth × (first_unknown functions (names (take (i + 1) all)) (drop (i + 1) all) ≡ first_unknown functions [] all)
    weigh_next seen worth s =
        subst (λ (before : List Line). IsSoFar functions r all before (drop (i + 1) all) seen worth) (sym (next_taken all i l below is))
        (so_far_more functions r all (take i all) (drop (i + 1) all) l met good seen worth ahead s)

    pub weigh_failed : (e : SelectError) (seen worth : List Bool) → Sees functions r (take i all) l (Err e) seen worth → Weighs functions r all (Err e)
    weigh_failed error.NoMemory seen worth s = tt
    weigh_failed (error.Unknown name) seen worth s = so_far_wrong functions r all (take i all) (drop (i + 1) all) l met good name ahead s

pub in_range_at : (lines : List Line) (i : ℕ) (l : Line) → i < length lines → l ≡ get_or lines i l → AreInRange lines → IsInRange l
in_range_at [] i l below is h = absurd (omega (arith, below))
in_range_at (x ∷ xs) zero l below is h = subst IsInRange (sym is) h.0
in_range_at (x ∷ xs) (suc i) l below is h = in_range_at xs i l (omega (arith, below)) is h.1

-- ---- the numbers of those that are chosen

-- two flags of each function, as the choice asks for them
pub chosen_are : (functions : List Function) (r : Rates) (lines : List Line) (free worth : List Bool) → length worth ≡ length functions → ((k : ℕ) → get_or worth k false ≡ list_any (moves functions r k) lines)
    → passing (λ k. get_or worth k false && get_or free k false) (length worth) ≡ chosen functions r lines free
chosen_are functions r lines free worth wide are = ap (passing (λ k. get_or worth k false && get_or free k false)) wide ∙ go (length functions)
  where
    go : (n : ℕ) → passing (λ k. get_or worth k false && get_or free k false) n ≡ passing (is_chosen functions r lines free) n
    go zero = refl
    go (suc n) =
        ap (λ (ks : List ℕ). ks ++ (if get_or worth n false && get_or free n false then n ∷ [] else [])) (go n)
        ∙ ap (λ (b : Bool). passing (is_chosen functions r lines free) n ++ (if b && get_or free n false then n ∷ [] else [])) (are n)
