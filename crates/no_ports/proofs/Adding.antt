-- Bytes that are added piece by piece.
use Rattle.std.proofs.Common.{ℕ, ◌+◌, ◌≤◌, Option, Some, None, List, [], ◌++◌, take, drop, ap, ◌∙◌, sym, append_assoc}
use Rattle.std.proofs.lemmas.List.{append-nil, take-take}
use Rattle.std.proofs.Math.Seq.{take-add}
use Rattle.no_ports.specs.Meanings.{Adds}

-- these bytes, and then those
pub adds_then : (a b c : Option (List ℕ)) (xs ys : List ℕ) → Adds a b xs → Adds b c ys → Adds a c (xs ++ ys)
adds_then None b c xs ys p q = tt
adds_then (Some held) b c xs ys p q = (rw p at q) ∙ ap Some (append_assoc held xs ys)

-- nothing
pub adds_nothing : (a : Option (List ℕ)) → Adds a a []
adds_nothing None = tt
adds_nothing (Some held) = ap Some (sym (append-nil held))

-- the first bytes of the rest, after those before
pub adds_more : (a b c : Option (List ℕ)) (xs : List ℕ) (at len n : ℕ) → n ≤ len
    → Adds a b (take at xs) → Adds b c (take n (take len (drop at xs))) → Adds a c (take (at + n) xs)
adds_more a b c xs at len n h p q =
    rw (take-add at n xs) (adds_then a b c (take at xs) (take n (drop at xs)) p (rw (take-take n len (drop at xs) h) at q))

-- no byte more
pub adds_no_more : (a b c : Option (List ℕ)) (xs : List ℕ) → Adds a b xs → Adds b c [] → Adds a c xs
adds_no_more a b c xs p q = rw (append-nil xs) at (adds_then a b c xs [] p q)
