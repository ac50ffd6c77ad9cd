-- A name that was found in a list of names is found there again by its number.
use Rattle.std.proofs.Common.{◌≡◌, ℕ, suc, zero, true, List, [], ◌∷◌, take, drop, get_or, position, bytes_eq, Some, refl, sym, ◌∙◌}
use Rattle.std.proofs.lemmas.List.Quantifiers.{position-Some}
use Rattle.std.proofs.lemmas.Option.{unwrap_or-slice_get}
use Rattle.std.proofs.lemmas.Slice.Eq.{bytes_eq-Decides}
use Rattle.no_print.specs.Names.{name_at}
use Rattle.no_round_trip.specs.Spells.{AreBytes}

-- ---- where a name stands

pub name_there : (names : List (List ℕ)) (name : List ℕ) (n : ℕ) → position (bytes_eq name) names ≡ Some n → name_at names n ≡ name
name_there names name n e =
    let p = position-Some (bytes_eq name) names n [] e in
    unwrap_or-slice_get names n [] ∙ sym ((bytes_eq-Decides name (get_or names n [])).0 p.1)

pub same_bytes : (bytes : List ℕ) → bytes_eq bytes bytes ≡ true
same_bytes bytes = (bytes_eq-Decides bytes bytes).1 refl

-- ---- bytes of a part

pub bytes_take : (n : ℕ) (bytes : List ℕ) → AreBytes bytes → AreBytes (take n bytes)
bytes_take zero bytes h = tt
bytes_take (suc n) [] h = tt
bytes_take (suc n) (b ∷ bytes) h = (h.0, bytes_take n bytes h.1)

pub bytes_drop : (n : ℕ) (bytes : List ℕ) → AreBytes bytes → AreBytes (drop n bytes)
bytes_drop zero bytes h = h
bytes_drop (suc n) [] h = tt
bytes_drop (suc n) (b ∷ bytes) h = bytes_drop n bytes h.1
