-- The words of types that are read again.
use Rattle.std.proofs.Common.{◌≡◌, ℕ, ◌<◌, ◌≤◌, Bool, true, false, List, ◌∷◌, decimal, codes, bytes_eq, Result, Ok, Err, if◌then◌else◌, refl, subst, arith}
use Rattle.std.specs.Fmt.{digits}
use Rattle.no_read_rules.specs.declared.fault.Flaw.{Flaw}
use Rattle.no_read_rules.specs.declared.fault.Flaw.TheVariants.{Syntax, LeftOut}
use Rattle.no_read_rules.specs.declared.types.TypeHead.{TypeHead}
use Rattle.no_read_rules.specs.declared.types.TypeHead.TheVariants as head
use Rattle.no_read_rules.specs.Types.{word_type}

-- an integer type of this width is read, and its name is read as it
pub record IsWidth (w : ℕ) : Type 0 where
  pub some : 0 < w
  pub most : w ≤ 64
  pub reads : word_type (105 ∷ decimal w) ≡ Ok (head.Int w)

pub one_bit : IsWidth 1
unfolding digits
one_bit = record { some = omega arith; most = omega arith; reads = refl }

pub byte : IsWidth 8
unfolding digits
byte = record { some = omega arith; most = omega arith; reads = refl }

pub short : IsWidth 16
unfolding digits
short = record { some = omega arith; most = omega arith; reads = refl }

pub half : IsWidth 32
unfolding digits
half = record { some = omega arith; most = omega arith; reads = refl }

pub full : IsWidth 64
unfolding digits
full = record { some = omega arith; most = omega arith; reads = refl }

-- ---- what a word of a type begins

abbrev pub WordHead : TypeHead → Type 0
WordHead (head.Int w) = IsWidth w
WordHead head.Ptr = Unit {0}
WordHead _ = ⊥

from_head : (a b : TypeHead) → (let x : Result TypeHead Flaw = Ok a in x) ≡ Ok b → a ≡ b
from_head a b e = cc

turn : (b : Bool) (a h : TypeHead) (rest : Result TypeHead Flaw) → WordHead a → (rest ≡ Ok h → WordHead h) → (if b then Ok a else rest) ≡ Ok h → WordHead h
turn true a h rest here else_ e = subst WordHead (from_head a h e) here
turn false a h rest here else_ e = else_ e

refused : (b : Bool) (h : TypeHead) → (if b then Err LeftOut else Err Syntax) ≡ Ok h → WordHead h
refused true h e = absurd cc
refused false h e = absurd cc

pub word_head : (word : List ℕ) (h : TypeHead) → word_type word ≡ Ok h → WordHead h
word_head word h e =
    turn (bytes_eq word (codes "i1")) (head.Int 1) h _ one_bit (λ e.
    turn (bytes_eq word (codes "i8")) (head.Int 8) h _ byte (λ e.
    turn (bytes_eq word (codes "i16")) (head.Int 16) h _ short (λ e.
    turn (bytes_eq word (codes "i32")) (head.Int 32) h _ half (λ e.
    turn (bytes_eq word (codes "i64")) (head.Int 64) h _ full (λ e.
    turn (bytes_eq word (codes "ptr")) head.Ptr h _ tt (λ e.
    refused (bytes_eq word (codes "label")) h e) e) e) e) e) e) e
