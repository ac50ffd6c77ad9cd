-- What a text is after one call more.
use Rattle.std.proofs.Common.{◌≡◌, ℕ, List, [], ◌∷◌, ◌++◌, refl, sym, ap, ◌∙◌, append_assoc}
use Rattle.std.proofs.lemmas.List.{append-nil}
use Rattle.no_print.specs.Pieces.{Piece, written}
use Rattle.no_print.specs.Wrote.{Wrote, Left}

-- the bytes of pieces and then of others
pub written_append : (a b : List Piece) → written (a ++ b) ≡ written a ++ written b
written_append [] b = refl
written_append (p ∷ a) b =
    ap (λ (w : List ℕ). p.gap ++ (p.bytes ++ w)) (written_append a b)
    ∙ ap (λ (w : List ℕ). p.gap ++ w) (sym (append_assoc p.bytes (written a) (written b)))
    ∙ sym (append_assoc p.gap (p.bytes ++ written a) (written b))

-- nothing of the whole is there yet
pub left_all : (old : List ℕ) (whole : List Piece) → Left old old whole whole
left_all old whole = record { is = refl }

-- the first of what is left is appended
pub left_more : (old mid new : List ℕ) (whole a rest : List Piece) → Wrote mid new a → Left old mid whole (a ++ rest) → Left old new whole rest
left_more old mid new whole a rest w l = record {
  is = l.is ∙ ap (λ (x : List ℕ). mid ++ x) (written_append a rest) ∙ sym (append_assoc mid (written a) (written rest)) ∙ ap (λ (x : List ℕ). x ++ written rest) (sym w.is);
}

-- the last is appended
pub left_last : (old mid new : List ℕ) (whole a : List Piece) → Wrote mid new a → Left old mid whole a → Wrote old new whole
left_last old mid new whole a w l = record { is = w.is ∙ sym l.is }

-- nothing is left
pub left_none : (old new : List ℕ) (whole : List Piece) → Left old new whole [] → Wrote old new whole
left_none old new whole l = record { is = sym (append-nil new) ∙ sym l.is }

-- ---- several calls one behind the other

pub both : (o p q : List ℕ) (a b whole : List Piece) → Wrote o p a → Wrote p q b → whole ≡ a ++ b → Wrote o q whole
both o p q a b whole w x e = record {
  is = x.is ∙ ap (λ (l : List ℕ). l ++ written b) w.is ∙ append_assoc o (written a) (written b) ∙ ap (λ (l : List ℕ). o ++ l) (sym (written_append a b)) ∙ ap (λ (l : List Piece). o ++ written l) (sym e);
}

pub three : (o p q r : List ℕ) (a b c whole : List Piece) → Wrote o p a → Wrote p q b → Wrote q r c → whole ≡ a ++ (b ++ c) → Wrote o r whole
three o p q r a b c whole w x y e = both o p r a (b ++ c) whole w (both p q r b c (b ++ c) x y refl) e

pub four : (o p q r s : List ℕ) (a b c d whole : List Piece) → Wrote o p a → Wrote p q b → Wrote q r c → Wrote r s d → whole ≡ a ++ (b ++ (c ++ d)) → Wrote o s whole
four o p q r s a b c d whole w x y z e = both o p s a (b ++ (c ++ d)) whole w (three p q r s b c d (b ++ (c ++ d)) x y z refl) e

-- nothing of the whole is there yet, where the whole is said in another way
pub left_from : (old : List ℕ) (whole rest : List Piece) → whole ≡ rest → Left old old whole rest
left_from old whole rest e = record { is = ap (λ (l : List Piece). old ++ written l) e }
