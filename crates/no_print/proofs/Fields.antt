-- Fields of a struct, one more at a time.
use Rattle.std.proofs.Common.{◌≡◌, ℕ, zero, suc, ◌+◌, ◌<◌, ◌≤◌, List, [], ◌∷◌, ◌++◌, map, drop, length, get_or, refl, sym, ap, ◌∙◌}
use Rattle.std.proofs.lemmas.List.{at_drop_more, drop_all}
use Rattle.no_ir.specs.declared.constant.Const.{Const}
use Rattle.no_ir.specs.declared.types.Ty.{Ty}
use Rattle.no_ir.specs.declared.types.Ty.TheVariants as ty
use Rattle.no_print.specs.Commas.{break, gap_at, items_from}
use Rattle.no_print.specs.Constants.{Spelled, const_pieces, member, typed}
use Rattle.no_print.specs.Pieces.{Piece, spaced, written}
use Rattle.no_print.specs.Wrote.{Wrote}
use Rattle.no_print.proofs.Appending.{both}
use Rattle.no_print.proofs.Lists.{after_one, after_all, items_next, items_none}

-- where all items are behind a space
pub gap_spaced : (k : ℕ) → gap_at spaced k ≡ spaced
gap_spaced zero = refl
gap_spaced (suc k) = refl

-- an item behind its blanks
pub item_at : (f : List ℕ → List Piece) (k : ℕ) (gap g o p q : List ℕ) → g ≡ gap_at gap k → Wrote o p (break k) → Wrote p q (f g) → Wrote o q (break k ++ f (gap_at gap k))
item_at f k gap g o p q e w x = both o p q (break k) (f g) (break k ++ f (gap_at gap k)) w x (ap (λ (h : List ℕ). break k ++ f h) (sym e))

module _ (s : Spelled) where
  typed_next : (m : Ty → List ℕ → List Piece) (ms : List (Ty → List ℕ → List Piece)) (types : List Ty)
      → typed s (m ∷ ms) types ≡ (λ (gap : List ℕ). member s gap (get_or types 0 ty.Void) m) ∷ typed s ms (drop 1 types)
  typed_next m ms [] = refl
  typed_next m ms (t ∷ types) = refl

  abbrev pub from : ℕ → List Const → List Ty → List Piece
  from k fields types = items_from (λ (gap : List ℕ) (field : List ℕ → List Piece). field gap) spaced k (typed s (map (const_pieces s) fields) types)

  from_next : (k : ℕ) (c : Const) (cs : List Const) (types : List Ty)
      → from k (c ∷ cs) types ≡ (break k ++ member s spaced (get_or types 0 ty.Void) (const_pieces s c)) ++ from (k + 1) cs (drop 1 types)
  from_next k c cs types =
      ap (items_from (λ (gap : List ℕ) (field : List ℕ → List Piece). field gap) spaced k) (typed_next (const_pieces s c) (map (const_pieces s) cs) types)
      ∙ items_next (λ (gap : List ℕ) (field : List ℕ → List Piece). field gap) spaced k (λ (gap : List ℕ). member s gap (get_or types 0 ty.Void) (const_pieces s c)) (typed s (map (const_pieces s) cs) (drop 1 types))
      ∙ ap (λ (g : List ℕ). (break k ++ member s g (get_or types 0 ty.Void) (const_pieces s c)) ++ from (k + 1) cs (drop 1 types)) (gap_spaced k)

  pub fields_step : (start mid new : List ℕ) (cs : List Const) (k : ℕ) (c : Const) (rest more : List Ty) → k < length cs → c ≡ get_or cs k c → more ≡ drop 1 rest
      → start ≡ mid ++ written (from k (drop k cs) rest) → Wrote mid new (break k ++ member s spaced (get_or rest 0 ty.Void) (const_pieces s c))
      → start ≡ new ++ written (from (k + 1) (drop (k + 1) cs) more)
  fields_step start mid new cs k c rest more lt is e so_far w =
      after_one start mid new (from k (drop k cs) rest) (break k ++ member s spaced (get_or rest 0 ty.Void) (const_pieces s c)) (from (k + 1) (drop (k + 1) cs) more) so_far
      (at_drop_more (λ (l : List Const). from k l rest) cs k c lt ∙ ap (λ (d : Const). from k (d ∷ drop (k + 1) cs) rest) (sym is) ∙ from_next k c (drop (k + 1) cs) rest
      ∙ ap (λ (ts : List Ty). (break k ++ member s spaced (get_or rest 0 ty.Void) (const_pieces s c)) ++ from (k + 1) (drop (k + 1) cs) ts) (sym e)) w

  pub fields_end : (start new : List ℕ) (whole : List Piece) (cs : List Const) (k : ℕ) (rest : List Ty) → length cs ≤ k → start ++ written whole ≡ new ++ written (from k (drop k cs) rest) → Wrote start new whole
  fields_end start new whole cs k rest le so_far =
      after_all start new whole (from k (drop k cs) rest) so_far
      (ap (λ (l : List Const). from k l rest) (drop_all k cs le) ∙ items_none (λ (gap : List ℕ) (field : List ℕ → List Piece). field gap) spaced k)
