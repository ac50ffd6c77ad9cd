-- Names that more names follow keep their places.
use Rattle.std.proofs.Common.{◌≡◌, ℕ, suc, ◌+◌, ◌<◌, Bool, true, false, not, cond, ◌||◌, List, [], ◌∷◌, ◌++◌, reverse, bytes_eq, nat_lt, ◌==◌, if◌then◌else◌, refl, sym, ap, subst, ◌∙◌, append_assoc, arith}
use Rattle.std.proofs.lemmas.List.{reverse-append}
use Rattle.std.proofs.lemmas.Bool.{ltb-true}
use Rattle.std.proofs.lemmas.Slice.Eq.{bytes_eq-Decides}
use Rattle.no_lex.specs.Spelling.{is_digits}
use Rattle.no_ir.specs.Naming.{is_known, place_of, with_name}
use Rattle.no_read_registers.specs.Counting.{next, stripped, behind_name}
use Rattle.no_print.specs.Names.{name_at}
use Rattle.no_round_trip.specs.Spells.{AreBytes}
use Rattle.no_round_trip.specs.States.{Within, AreNames}

-- ---- a name that has appeared

pub same_bytes : (bytes : List ℕ) → bytes_eq bytes bytes ≡ true
same_bytes bytes = (bytes_eq-Decides bytes bytes).1 refl

name_behind : (first name : List ℕ) (names : List (List ℕ)) (n : ℕ) → name_at names n ≡ name → name_at (first ∷ names) (1 + n) ≡ name
name_behind first name names n e = let one : 1 + n ≡ suc n = omega arith in ap (name_at (first ∷ names)) one ∙ e

known_there : (names rest : List (List ℕ)) (name : List ℕ) → is_known names name ≡ true → name_at (names ++ rest) (place_of names name) ≡ name
known_there [] rest name h = absurd cc
known_there (first ∷ names) rest name h = by (bytes_eq name first) refl (known_there names rest name)
  where
    by : (b : Bool) → bytes_eq name first ≡ b → (is_known names name ≡ true → name_at (names ++ rest) (place_of names name) ≡ name)
        → name_at (first ∷ (names ++ rest)) (cond (not (bytes_eq name first)) (1 + place_of names name) 0) ≡ name
    by true e more = rw e (sym ((bytes_eq-Decides name first).0 e))
    by false e more = rw e (name_behind first name (names ++ rest) (place_of names name) (more (sym (ap (λ b. b || is_known names name) e) ∙ h)))

new_there : (names rest : List (List ℕ)) (name : List ℕ) → is_known names name ≡ false → name_at (names ++ (name ∷ rest)) (place_of names name) ≡ name
new_there [] rest name h = refl
new_there (first ∷ names) rest name h = by (bytes_eq name first) refl (new_there names rest name)
  where
    by : (b : Bool) → bytes_eq name first ≡ b → (is_known names name ≡ false → name_at (names ++ (name ∷ rest)) (place_of names name) ≡ name)
        → name_at (first ∷ (names ++ (name ∷ rest))) (cond (not (bytes_eq name first)) (1 + place_of names name) 0) ≡ name
    by true e more = let k : true ≡ false = sym (ap (λ b. b || is_known names name) e) ∙ h in absurd cc
    by false e more = rw e (name_behind first name (names ++ (name ∷ rest)) (place_of names name) (more (sym (ap (λ b. b || is_known names name) e) ∙ h)))

pub name_placed : (names all : List (List ℕ)) (name : List ℕ) → Within (with_name names name) all → name_at all (place_of names name) ≡ name
name_placed names all name w = by (is_known names name) refl w
  where
    by : (b : Bool) → is_known names name ≡ b → Within (if b then names else names ++ name ∷ []) all → name_at all (place_of names name) ≡ name
    by true e w = ap (λ l. name_at l (place_of names name)) w.is ∙ known_there names w.rest name e
    by false e w = ap (λ l. name_at l (place_of names name)) (w.is ∙ append_assoc names (name ∷ []) w.rest) ∙ new_there names w.rest name e

-- ---- what was there before

pub grown : (names all : List (List ℕ)) (name : List ℕ) → Within (with_name names name) all → Within names all
grown names all name w = by (is_known names name) w
  where
    by : (b : Bool) → Within (if b then names else names ++ name ∷ []) all → Within names all
    by true w = w
    by false w = record { rest = name ∷ w.rest; is = w.is ∙ append_assoc names (name ∷ []) w.rest }

-- ---- bytes

names_more : (names : List (List ℕ)) (name : List ℕ) → AreNames names → AreBytes name → AreNames (names ++ name ∷ [])
names_more [] name h k = (k, tt)
names_more (first ∷ names) name h k = (h.0, names_more names name h.1 k)

pub names_with : (names : List (List ℕ)) (name : List ℕ) → AreNames names → AreBytes name → AreNames (with_name names name)
names_with names name h k = by (is_known names name)
  where
    by : (b : Bool) → AreNames (if b then names else names ++ name ∷ [])
    by true = h
    by false = names_more names name h k

bytes_more : (a : List ℕ) (b : ℕ) → AreBytes a → b < 256 → AreBytes (a ++ b ∷ [])
bytes_more [] b h k = (k, tt)
bytes_more (c ∷ a) b h k = (h.0, bytes_more a b h.1 k)

pub bytes_back : (a : List ℕ) → AreBytes a → AreBytes (reverse a)
bytes_back [] h = tt
bytes_back (b ∷ a) h = subst AreBytes (sym (reverse-append (b ∷ []) a)) (bytes_more (reverse a) b (bytes_back a h.1) h.0)

pub bytes_next : (ds : List ℕ) → AreBytes ds → AreBytes (next ds)
bytes_next [] h = (omega arith, tt)
bytes_next (d ∷ ds) h = by (nat_lt d 57) refl (bytes_next ds h.1)
  where
    by : (b : Bool) → nat_lt d 57 ≡ b → AreBytes (next ds) → AreBytes (if b then (d + 1) ∷ ds else 48 ∷ next ds)
    by true e more = let k : d < 57 = ltb-true d 57 e in (omega arith, h.1)
    by false e more = (omega arith, more)

bytes_stripped : (ds : List ℕ) → AreBytes ds → AreBytes (stripped ds)
bytes_stripped [] h = tt
bytes_stripped (d ∷ ds) h = by (d == 48) (bytes_stripped ds h.1)
  where
    by : (b : Bool) → AreBytes (stripped ds) → AreBytes (if b then stripped ds else d ∷ ds)
    by true more = more
    by false more = h

pub bytes_counter : (counter name : List ℕ) → AreBytes counter → AreBytes name → AreBytes (behind_name counter name)
bytes_counter counter name h k = by (is_digits name)
  where
    by : (b : Bool) → AreBytes (if b then next (reverse (stripped name)) else counter)
    by true = bytes_next (reverse (stripped name)) (bytes_back (stripped name) (bytes_stripped name k))
    by false = h
