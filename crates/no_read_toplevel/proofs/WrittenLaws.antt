-- What groups set is what they set with each of them written out.
use Rattle.std.proofs.Common.{◌≡◌, ℕ, suc, ◌+◌, Bool, true, false, not, ◌||◌, cond, nat_lt, if◌then◌else◌, List, [], ◌∷◌, ◌++◌, length, get_or, slice_set, position, bytes_eq, Some, None, refl, sym, ap, ◌∙◌, arith}
use Rattle.std.specs.List.{position_or_len}
use Rattle.std.proofs.lemmas.Bool.{lt-ltb, ltb-true, ltb-false, le-ltb}
use Rattle.std.proofs.lemmas.Slice.Eq.{bytes_eq-Decides}
use Rattle.no_ir.specs.Naming.{is_known, with_name, place_of}
use Rattle.no_read_rules.specs.Spelled.{spelled}
use Rattle.no_read_attributes.specs.declared.marks.Mark.{Mark}
use Rattle.no_read_attributes.specs.declared.marks.Mark.TheVariants as mark
use Rattle.no_read_toplevel.specs.declared.groups.Settings.{Settings}
use Rattle.no_read_toplevel.specs.declared.groups.Groups.{Groups}
use Rattle.no_read_toplevel.specs.declared.tops.Top.{Top}
use Rattle.no_read_toplevel.specs.declared.tops.Top.TheVariants as top
use Rattle.no_read_toplevel.specs.Grouping.{nothing_set, set_by, set_by_all, entry_at, found_in, with_entry, grouped, all_grouped, no_groups}
use Rattle.no_read_toplevel.specs.Modules.{latest, joined, with_mark, with_marks}
use Rattle.no_read_toplevel.specs.WrittenOut.{marks_named, one_written, written_out}

-- ---- what attributes set, in parts

set_parts : (s : Settings) (xs ys : List Mark) → set_by_all s (xs ++ ys) ≡ set_by_all (set_by_all s xs) ys
set_parts s [] ys = refl
set_parts s (x ∷ xs) ys = set_parts (set_by s x) xs ys

joined_by : (s g : Settings) (m : Mark) → joined s (set_by g m) ≡ set_by (joined s g) m
joined_by s g mark.Bound = ap (λ b. record { bound = b; address = latest s.address g.address }) (or_true s.bound)
  where
    or_true : (b : Bool) → (b || true) ≡ true
    or_true true = refl
    or_true false = refl
joined_by s g (mark.Address n) = refl
joined_by s g (mark.Group group) = refl

joined_all : (s g : Settings) (marks : List Mark) → joined s (set_by_all g marks) ≡ set_by_all (joined s g) marks
joined_all s g [] = refl
joined_all s g (m ∷ marks) = joined_all s (set_by g m) marks ∙ ap (λ (z : Settings). set_by_all z marks) (joined_by s g m)

joined_none : (s : Settings) → joined s nothing_set ≡ s
joined_none s = ap (λ b. record { bound = b; address = s.address }) (or_false s.bound)
  where
    or_false : (b : Bool) → (b || false) ≡ b
    or_false true = refl
    or_false false = refl

-- ---- one entry of the table

abbrev entry_of : List (List ℕ) → List Settings → List ℕ → Settings
entry_of names all name = entry_at all (position (bytes_eq name) names)

below_suc : (k n : ℕ) → nat_lt (suc k) (suc n) ≡ nat_lt k n
below_suc k n = go (nat_lt k n) refl
  where
    go : (b : Bool) → nat_lt k n ≡ b → nat_lt (suc k) (suc n) ≡ nat_lt k n
    go true e = lt-ltb (suc k) (suc n) (omega (arith, ltb-true k n e)) ∙ sym e
    go false e = le-ltb (suc k) (suc n) (omega (arith, ltb-false k n e)) ∙ sym e

one_suc : (k : ℕ) → 1 + k ≡ suc k
one_suc k = omega arith

first_below : (n : ℕ) → nat_lt 0 (suc n) ≡ true
first_below n = lt-ltb 0 (suc n) (omega arith)

entry_cons : (x : List ℕ) (names : List (List ℕ)) (s : Settings) (all : List Settings) (name : List ℕ) → entry_of (x ∷ names) (s ∷ all) name ≡ (if bytes_eq name x then s else entry_of names all name)
entry_cons x names s all name = go (bytes_eq name x) (position_or_len (bytes_eq name) names)
  where
    placed : (k : ℕ) (b : Bool) → entry_at (s ∷ all) (cond b (Some (suc k)) None) ≡ entry_at all (cond b (Some k) None)
    placed k true = refl
    placed k false = refl

    go : (b : Bool) (k : ℕ) → entry_at (s ∷ all) (cond (nat_lt (cond (not b) (1 + k) 0) (suc (length names))) (Some (cond (not b) (1 + k) 0)) None) ≡ (if b then s else entry_at all (cond (nat_lt k (length names)) (Some k) None))
    go true k = rw (first_below (length names)) refl
    go false k = rw (one_suc k, below_suc k (length names)) (placed k (nat_lt k (length names)))

equal_bytes : (a b : List ℕ) → bytes_eq a b ≡ true → a ≡ b
equal_bytes a b e = (bytes_eq-Decides a b).0 e

same_test : (name n x : List ℕ) → n ≡ x → bytes_eq name x ≡ bytes_eq name n
same_test name n x e = ap (bytes_eq name) (sym e)

-- a name equal to one that differs from the other differs from it too
other_test : (name n x : List ℕ) → bytes_eq n x ≡ false → bytes_eq name x ≡ true → bytes_eq name n ≡ false
other_test name n x differs same = go (bytes_eq name n) refl
  where
    go : (b : Bool) → bytes_eq name n ≡ b → bytes_eq name n ≡ false
    go false e = e
    go true e = absurd (clash ((bytes_eq-Decides n x).1 (sym (equal_bytes name n e) ∙ equal_bytes name x same)))
      where
        clash : bytes_eq n x ≡ true → ⊥
        clash t = cc

abbrev kept : Bool → List Mark → List Mark
kept b marks = if b then marks else []

module _ (n : List ℕ) (marks : List Mark) where
  abbrev names_after : List (List ℕ) → List (List ℕ)
  names_after names = with_name names n

  abbrev all_after : List (List ℕ) → List Settings → List Settings
  all_after names all = with_entry all (place_of names n) marks

  -- where the name is the first, its entry alone changes
  names_first : (x : List ℕ) (names : List (List ℕ)) → bytes_eq n x ≡ true → names_after (x ∷ names) ≡ x ∷ names
  names_first x names e = rw e refl

  all_first : (x : List ℕ) (names : List (List ℕ)) (s : Settings) (all : List Settings) → bytes_eq n x ≡ true → all_after (x ∷ names) (s ∷ all) ≡ set_by_all s marks ∷ all
  all_first x names s all e = rw (e, first_below (length all)) refl

  names_later : (x : List ℕ) (names : List (List ℕ)) → bytes_eq n x ≡ false → names_after (x ∷ names) ≡ x ∷ names_after names
  names_later x names e = (rw e refl) ∙ go (is_known names n)
    where
      go : (b : Bool) → (if b then x ∷ names else (x ∷ names) ++ n ∷ []) ≡ x ∷ (if b then names else names ++ n ∷ [])
      go true = refl
      go false = refl

  all_later : (x : List ℕ) (names : List (List ℕ)) (s : Settings) (all : List Settings) → bytes_eq n x ≡ false → all_after (x ∷ names) (s ∷ all) ≡ s ∷ all_after names all
  all_later x names s all e = rw (e, one_suc (place_of names n), below_suc (place_of names n) (length all)) (go (place_of names n) (nat_lt (place_of names n) (length all)))
    where
      go : (k : ℕ) (b : Bool) → (if b then slice_set (s ∷ all) (suc k) (set_by_all (get_or (s ∷ all) (suc k) nothing_set) marks) else (s ∷ all) ++ set_by_all nothing_set marks ∷ [])
          ≡ s ∷ (if b then slice_set all k (set_by_all (get_or all k nothing_set) marks) else all ++ set_by_all nothing_set marks ∷ [])
      go k true = refl
      go k false = refl

  abbrev OneMore : List ℕ → List (List ℕ) → List Settings → Type 0
  OneMore name names all = entry_of (names_after names) (all_after names all) name ≡ set_by_all (entry_of names all name) (kept (bytes_eq name n) marks)

  -- with one definition more, a name's entry has its attributes where it is the name of this definition
  one_more : (name : List ℕ) (names : List (List ℕ)) (all : List Settings) → length all ≡ length names → entry_of (names_after names) (all_after names all) name ≡ set_by_all (entry_of names all name) (kept (bytes_eq name n) marks)
  one_more name [] [] same = entry_cons n [] (set_by_all nothing_set marks) [] name ∙ go (bytes_eq name n)
    where
      go : (b : Bool) → (if b then set_by_all nothing_set marks else nothing_set) ≡ set_by_all nothing_set (kept b marks)
      go true = refl
      go false = refl
  one_more name [] (s ∷ all) same = absurd (omega (arith, same))
  one_more name (x ∷ names) [] same = absurd (omega (arith, same))
  one_more name (x ∷ names) (s ∷ all) same = go (bytes_eq n x) refl (one_more name names all (omega (arith, same)))
    where
      first : (b : Bool) (t : Settings) → (if b then set_by_all s marks else t) ≡ set_by_all (if b then s else t) (kept b marks)
      first true t = refl
      first false t = refl

      later : (b : Bool) → bytes_eq name x ≡ b → bytes_eq n x ≡ false → OneMore name names all
          → (if b then s else entry_of (names_after names) (all_after names all) name) ≡ set_by_all (if b then s else entry_of names all name) (kept (bytes_eq name n) marks)
      later true e d more = rw (other_test name n x d e) refl
      later false e d more = more

      go : (b : Bool) → bytes_eq n x ≡ b → OneMore name names all → entry_of (names_after (x ∷ names)) (all_after (x ∷ names) (s ∷ all)) name ≡ set_by_all (entry_of (x ∷ names) (s ∷ all) name) (kept (bytes_eq name n) marks)
      go true e more =
          rw (names_first x names e, all_first x names s all e, entry_cons x names (set_by_all s marks) all name, entry_cons x names s all name, same_test name n x (equal_bytes n x e))
          (first (bytes_eq name n) (entry_of names all name))
      go false e more =
          rw (names_later x names e, all_later x names s all e, entry_cons x (names_after names) s (all_after names all) name, entry_cons x names s all name) (later (bytes_eq name x) refl e more)

  as_long : (names : List (List ℕ)) (all : List Settings) → length all ≡ length names → length (all_after names all) ≡ length (names_after names)
  as_long [] [] same = refl
  as_long [] (s ∷ all) same = absurd (omega (arith, same))
  as_long (x ∷ names) [] same = absurd (omega (arith, same))
  as_long (x ∷ names) (s ∷ all) same = go (bytes_eq n x) refl (as_long names all (omega (arith, same)))
    where
      go : (b : Bool) → bytes_eq n x ≡ b → length (all_after names all) ≡ length (names_after names) → length (all_after (x ∷ names) (s ∷ all)) ≡ length (names_after (x ∷ names))
      go true e more = rw (names_first x names e, all_first x names s all e) same
      go false e more = rw (names_later x names e, all_later x names s all e) (ap suc more)

-- ---- the table of a text

module _ (text : List ℕ) where
  found_all : (name : List ℕ) (g : Groups) (all : List Top) → length g.settings ≡ length g.names → found_in (all_grouped text g all) name ≡ set_by_all (found_in g name) (marks_named text name all)
  found_all name g [] same = refl
  found_all name g (top.Nothing ∷ all) same = found_all name g all same
  found_all name g (top.Layout layout ∷ all) same = found_all name g all same
  found_all name g (top.Global v ∷ all) same = found_all name g all same
  found_all name g (top.Function w ∷ all) same = found_all name g all same
  found_all name g (top.Group token marks ∷ all) same =
      let n = spelled text token in
      found_all name (grouped g n marks) all (as_long n marks g.names g.settings same)
      ∙ ap (λ (z : Settings). set_by_all z (marks_named text name all)) (one_more n marks name g.names g.settings same)
      ∙ sym (set_parts (found_in g name) (kept (bytes_eq name n) marks) (marks_named text name all))

  one_is : (all : List Top) (s : Settings) (m : Mark) → with_mark text (found_in (all_grouped text no_groups all)) s m ≡ set_by_all s (one_written text all m)
  one_is all s mark.Bound = refl
  one_is all s (mark.Address n) = refl
  one_is all s (mark.Group group) =
      let name = spelled text group in
      ap (joined s) (found_all name no_groups all refl) ∙ joined_all s nothing_set (marks_named text name all) ∙ ap (λ (z : Settings). set_by_all z (marks_named text name all)) (joined_none s)

  all_is : (all : List Top) (s : Settings) (marks : List Mark) → with_marks text (found_in (all_grouped text no_groups all)) s marks ≡ set_by_all s (written_out text all marks)
  all_is all s [] = refl
  all_is all s (m ∷ marks) =
      ap (λ (z : Settings). with_marks text (found_in (all_grouped text no_groups all)) z marks) (one_is all s m)
      ∙ all_is all (set_by_all s (one_written text all m)) marks
      ∙ sym (set_parts s (one_written text all m) (written_out text all marks))

pub written_out_is : (text : List ℕ) (all : List Top) (marks : List Mark) → with_marks text (found_in (all_grouped text no_groups all)) nothing_set marks ≡ set_by_all nothing_set (written_out text all marks)
written_out_is text all marks = all_is text all nothing_set marks
