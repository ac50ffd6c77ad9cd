-- What a data layout string says, piece by piece from the front.
use Rattle.std.proofs.Common.{◌≡◌, ℕ, ◌+◌, ◌<◌, List, [], ◌∷◌, length, Result, Ok, Err, ◌==◌, refl, sym, ◌∙◌, arith}
use Rattle.std.specs.List.{slice_split}
use Rattle.no_layout.specs.Part.{part_of}
use Rattle.no_layout.specs.Text.{layout_of, ordered, unstated}
use Rattle.no_layout.specs.Stated.{left, with_part}
use Rattle.no_layout.specs.declared.part.Part.{Part}
use Rattle.no_layout.specs.declared.part.Part.TheVariants.{Order, Pointer, Integer, Other}
use Rattle.no_layout.specs.declared.draft.Draft.{Draft}
use Rattle.no_layout.specs.declared.layout.Layout.{Layout}
use Rattle.no_layout.specs.declared.fault.LayoutKind.{LayoutKind}
use Rattle.no_layout.specs.declared.fault.LayoutFault.{LayoutFault}

-- before the first piece all is left
pub left_first : (text : List ℕ) → 0 < length text → left 0 unstated (slice_split (λ c. c == 45) text) ≡ layout_of text
left_first [] h = absurd (omega arith)
left_first (b ∷ text) h = refl

-- one piece that is a part
left_one : (at : ℕ) (all : Draft) (piece : List ℕ) (more : List (List ℕ)) (r : Result Part LayoutKind) (part : Part) → part_of piece ≡ r → r ≡ Ok part → left at all (piece ∷ more) ≡ left (at + length piece + 1) (with_part part all) more
left_one at all piece more r (Order big) e f = rw (e, f) refl
left_one at all piece more r (Pointer width align) e f = rw (e, f) refl
left_one at all piece more r (Integer place align) e f = rw (e, f) refl
left_one at all piece more r Other e f = rw (e, f) refl

pub left_more : (at next : ℕ) (all new : Draft) (piece : List ℕ) (parts more : List (List ℕ)) (part : Part) (said : Result Layout LayoutFault)
    → parts ≡ piece ∷ more → Ok part ≡ part_of piece → next ≡ at + length piece + 1 → new ≡ with_part part all
    → left at all parts ≡ said → left next new more ≡ said
left_more at next all new piece parts more part said p e n w s =
    rw (n, w) (sym (left_one at all piece more (part_of piece) part refl (sym e)) ∙ rw p at s)

pub left_last : (at : ℕ) (all new : Draft) (piece : List ℕ) (parts : List (List ℕ)) (part : Part) (said : Result Layout LayoutFault)
    → parts ≡ piece ∷ [] → Ok part ≡ part_of piece → new ≡ with_part part all
    → left at all parts ≡ said → ordered new.order new ≡ said
left_last at all new piece parts part said p e w s =
    rw w (sym (left_one at all piece [] (part_of piece) part refl (sym e)) ∙ rw p at s)

-- a piece that is no part
pub left_fault : (at : ℕ) (all : Draft) (piece : List ℕ) (parts more : List (List ℕ)) (kind : LayoutKind) (said : Result Layout LayoutFault)
    → parts ≡ piece ∷ more → Err kind ≡ part_of piece → left at all parts ≡ said → Err (record { kind = kind; at = at }) ≡ said
left_fault at all piece parts more kind said p e s =
    let one : left at all (piece ∷ more) ≡ Err (record { kind = kind; at = at }) = rw (← e) refl in
    sym one ∙ rw p at s
