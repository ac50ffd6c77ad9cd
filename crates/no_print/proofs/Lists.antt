-- Lists of a text, one item more at a time.
use Rattle.std.proofs.Common.{◌≡◌, ℕ, zero, suc, ◌+◌, ◌<◌, ◌≤◌, List, [], ◌∷◌, ◌++◌, map, drop, length, get_or, refl, sym, ap, ◌∙◌, arith, append_assoc}
use Rattle.std.proofs.lemmas.List.{append-nil, at_drop_more, drop_all}
use Rattle.no_print.specs.Commas.{break, gap_at, items_from}
use Rattle.no_print.specs.Pieces.{Piece, spaced, written}
use Rattle.no_print.specs.Wrote.{Wrote}
use Rattle.no_print.proofs.Appending.{written_append}

suc_is : (k : ℕ) → suc k ≡ k + 1
suc_is k = omega arith

-- one part of what is left is appended
pub after_one : (start mid new : List ℕ) (whole a rest : List Piece) → start ≡ mid ++ written whole → whole ≡ a ++ rest → Wrote mid new a → start ≡ new ++ written rest
after_one start mid new whole a rest s e w =
    s ∙ ap (λ (l : List Piece). mid ++ written l) e ∙ ap (λ (l : List ℕ). mid ++ l) (written_append a rest)
    ∙ sym (append_assoc mid (written a) (written rest)) ∙ ap (λ (l : List ℕ). l ++ written rest) (sym w.is)

-- nothing is left
pub after_all : (start new : List ℕ) (whole rest : List Piece) → start ++ written whole ≡ new ++ written rest → rest ≡ [] → Wrote start new whole
after_all start new whole rest s e = record { is = sym (append-nil new) ∙ sym (s ∙ ap (λ (l : List Piece). new ++ written l) e) }

-- ---- lists without commas in front

module _ {A : Type 0} (F : List A → List Piece) (one : A → List Piece) (opens : (x : A) (xs : List A) → F (x ∷ xs) ≡ one x ++ F xs) where
  pub list_step : (start mid new : List ℕ) (xs : List A) (k : ℕ) (x : A) → k < length xs → x ≡ get_or xs k x → start ≡ mid ++ written (F (drop k xs)) → Wrote mid new (one x)
      → start ≡ new ++ written (F (drop (k + 1) xs))
  list_step start mid new xs k x lt is s w =
      after_one start mid new (F (drop k xs)) (one x) (F (drop (k + 1) xs)) s
      (at_drop_more F xs k x lt ∙ ap (λ (y : A). F (y ∷ drop (k + 1) xs)) (sym is) ∙ opens x (drop (k + 1) xs)) w

-- ---- lists with commas

module _ {A : Type 0} (f : List ℕ → A → List Piece) (gap : List ℕ) where
  pub items_none : (k : ℕ) → items_from f gap k [] ≡ []
  items_none zero = refl
  items_none (suc k) = refl

  pub items_next : (k : ℕ) (a : A) (all : List A) → items_from f gap k (a ∷ all) ≡ (break k ++ f (gap_at gap k) a) ++ items_from f gap (k + 1) all
  items_next zero a all = refl
  items_next (suc k) a all =
      ap (λ (l : List Piece). break (suc k) ++ l) (ap (λ (n : ℕ). f spaced a ++ items_from f gap n all) (suc_is (suc k)))
      ∙ sym (append_assoc (break (suc k)) (f spaced a) (items_from f gap (suc k + 1) all))

  pub items_step : (start mid new : List ℕ) (xs : List A) (k : ℕ) (x : A) → k < length xs → x ≡ get_or xs k x → start ≡ mid ++ written (items_from f gap k (drop k xs))
      → Wrote mid new (break k ++ f (gap_at gap k) x) → start ≡ new ++ written (items_from f gap (k + 1) (drop (k + 1) xs))
  items_step start mid new xs k x lt is s w =
      after_one start mid new (items_from f gap k (drop k xs)) (break k ++ f (gap_at gap k) x) (items_from f gap (k + 1) (drop (k + 1) xs)) s
      (at_drop_more (items_from f gap k) xs k x lt ∙ ap (λ (y : A). items_from f gap k (y ∷ drop (k + 1) xs)) (sym is) ∙ items_next k x (drop (k + 1) xs)) w

  pub items_end : (start new : List ℕ) (whole : List Piece) (xs : List A) (k : ℕ) → length xs ≤ k → start ++ written whole ≡ new ++ written (items_from f gap k (drop k xs)) → Wrote start new whole
  items_end start new whole xs k le s =
      after_all start new whole (items_from f gap k (drop k xs)) s (ap (items_from f gap k) (drop_all k xs le) ∙ items_none k)

-- the same where each item is made from another
module _ {A B : Type 0} (f : List ℕ → B → List Piece) (gap : List ℕ) (T : A → B) where
  pub made_step : (start mid new : List ℕ) (xs : List A) (k : ℕ) (x : A) → k < length xs → x ≡ get_or xs k x → start ≡ mid ++ written (items_from f gap k (map T (drop k xs)))
      → Wrote mid new (break k ++ f (gap_at gap k) (T x)) → start ≡ new ++ written (items_from f gap (k + 1) (map T (drop (k + 1) xs)))
  made_step start mid new xs k x lt is s w =
      after_one start mid new (items_from f gap k (map T (drop k xs))) (break k ++ f (gap_at gap k) (T x)) (items_from f gap (k + 1) (map T (drop (k + 1) xs))) s
      (at_drop_more (λ (l : List A). items_from f gap k (map T l)) xs k x lt ∙ ap (λ (y : A). items_from f gap k (T y ∷ map T (drop (k + 1) xs))) (sym is)
      ∙ items_next f gap k (T x) (map T (drop (k + 1) xs))) w

  pub made_end : (start new : List ℕ) (whole : List Piece) (xs : List A) (k : ℕ) → length xs ≤ k → start ++ written whole ≡ new ++ written (items_from f gap k (map T (drop k xs))) → Wrote start new whole
  made_end start new whole xs k le s =
      after_all start new whole (items_from f gap k (map T (drop k xs))) s (ap (λ (l : List A). items_from f gap k (map T l)) (drop_all k xs le) ∙ items_none f gap k)
