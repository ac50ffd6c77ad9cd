-- Bytes by pages: what is read in one page, and what a write in one page does.
use Rattle.std.proofs.Common.{◌≡◌, ◌≢◌, ℕ, zero, suc, ◌+◌, ◌-◌, ◌*◌, ◌/◌, ◌%◌, ◌<◌, ◌≤◌, inl, inr, List, ◌∷◌, length, get_or, take, drop, refl, sym, ap, ◌∙◌, arith}
use mathlib.Core.Path.{fun_ext}
use Rattle.std.proofs.lemmas.Bool.{cases_eq, cases_lt}
use Rattle.std.proofs.lemmas.List.{take_all}
use Rattle.std.proofs.Math.Seq.{drop-cons}
use Rattle.no_layout.specs.Memory.{read_bytes, splice, written}
use Rattle.no_layout.proofs.Overlay.{above, below, inside, splice_before, splice_within, splice_behind}
use Rattle.no_pages.specs.Pages.{paged}

module _ (f : ℕ → List ℕ) where
  -- the byte at a place of a page
  pub at_place : (p o a : ℕ) → a ≡ 4096 * p + o → o < 4096 → paged f a ≡ get_or (f p) o 0
  unfolding paged
  at_place p o a is lt =
      let page : a / 4096 ≡ p = omega arith in
      let place : a % 4096 ≡ o = omega arith in
      rw (page, place) refl

  pub read_from : (p o n a : ℕ) → a ≡ 4096 * p + o → o + n ≤ 4096 → length (f p) ≡ 4096 → read_bytes (paged f) a n ≡ take n (drop o (f p))
  read_from p o zero a is fits len = refl
  read_from p o (suc n) a is fits len =
      let first = at_place p o a is (omega arith) in
      let more = read_from p (suc o) n (a + 1) (omega arith) (omega arith) len in
      let here : drop o (f p) ≡ get_or (f p) o 0 ∷ drop (suc o) (f p) = drop-cons (f p) o 0 (omega arith) in
      rw (first, more, here) refl

  pub read_whole : (p : ℕ) → length (f p) ≡ 4096 → read_bytes (paged f) (4096 * p) 4096 ≡ f p
  read_whole p len = read_from p 0 4096 (4096 * p) (omega arith) (omega arith) len ∙ take_all 4096 (f p) (omega arith)

module _ (f g : ℕ → List ℕ) (p o at : ℕ) (bs : List ℕ) (is : at ≡ 4096 * p + o) (here : g p ≡ splice (f p) o bs) (others : (q : ℕ) → q ≢ p → g q ≡ f q) (fits : o + length bs ≤ 4096) (len : length (f p) ≡ 4096) where
  room : o + length bs ≤ length (f p)
  room = omega arith

  elsewhere : (a q k : ℕ) → a ≡ 4096 * q + k → k < 4096 → q ≢ p → paged g a ≡ paged f a
  elsewhere a q k e lt ne = at_place g q k a e lt ∙ ap (λ (xs : List ℕ). get_or xs k 0) (others q ne) ∙ sym (at_place f q k a e lt)

  in_page : (a k : ℕ) → a ≡ 4096 * p + k → k < 4096 → paged g a ≡ written (paged f) at bs a
  in_page a k e lt =
      let fit = room in
      let now = at_place g p k a e lt ∙ ap (λ (xs : List ℕ). get_or xs k 0) here in
      let was = at_place f p k a e lt in
      elim (cases_lt k o) [
        | inl before ↦ now ∙ splice_before (f p) o bs fit k before ∙ sym was ∙ sym (below (paged f) at bs a (omega arith))
        | inr on ↦ elim (cases_lt k (o + length bs)) [
          | inl in_it ↦
              let place : k - o ≡ a - at = omega arith in
              now ∙ splice_within (f p) o bs fit k on in_it ∙ ap (λ (n : ℕ). get_or bs n 0) place ∙ sym (inside (paged f) at bs a (omega arith) (omega arith))
          | inr behind ↦ now ∙ splice_behind (f p) o bs fit k behind ∙ sym was ∙ sym (above (paged f) at bs a (omega arith))
        ]
      ]

  each : (a : ℕ) → paged g a ≡ written (paged f) at bs a
  each a =
      let q = a / 4096 in
      let k = a % 4096 in
      let e : a ≡ 4096 * q + k = omega arith in
      let lt : k < 4096 = omega arith in
      elim (cases_lt a (4096 * p)) [
        | inl under ↦ elsewhere a q k e lt (omega arith) ∙ sym (below (paged f) at bs a (omega arith))
        | inr from ↦ elim (cases_lt a (4096 * p + 4096)) [
          | inl still ↦ in_page a k (omega arith) lt
          | inr past ↦ elsewhere a q k e lt (omega arith) ∙ sym (above (paged f) at bs a (omega arith))
        ]
      ]

  pub write_page : paged g ≡ written (paged f) at bs
  write_page = fun_ext each

-- the same lists are the same bytes
pub same_bytes : (f g : ℕ → List ℕ) → ((p : ℕ) → g p ≡ f p) → paged g ≡ paged f
same_bytes f g same = ap paged (fun_ext same)

-- a page is given other bytes, or its first ones
module _ (f g : ℕ → List ℕ) (p : ℕ) (bs : List ℕ) (here : g p ≡ bs) (others : (q : ℕ) → q ≢ p → g q ≡ f q) (len : length bs ≡ 4096) where
  given : (a q k : ℕ) → a ≡ 4096 * q + k → k < 4096 → paged g a ≡ written (paged f) (4096 * p) bs a
  given a q k e lt = elim (cases_eq q p) [
    | inl is ↦
        let place : k ≡ a - 4096 * p = omega arith in
        at_place g q k a e lt ∙ ap (λ (x : ℕ). get_or (g x) k 0) is ∙ ap (λ (xs : List ℕ). get_or xs k 0) here ∙ ap (λ (n : ℕ). get_or bs n 0) place
        ∙ sym (inside (paged f) (4096 * p) bs a (omega arith) (omega arith))
    | inr ne ↦
        at_place g q k a e lt ∙ ap (λ (xs : List ℕ). get_or xs k 0) (others q ne) ∙ sym (at_place f q k a e lt)
        ∙ sym (elim (cases_lt q p) [ inl under ↦ below (paged f) (4096 * p) bs a (omega arith) | inr over ↦ above (paged f) (4096 * p) bs a (omega arith) ])
  ]

  pub give_page : paged g ≡ written (paged f) (4096 * p) bs
  give_page = fun_ext (λ a. given a (a / 4096) (a % 4096) (omega arith) (omega arith))
