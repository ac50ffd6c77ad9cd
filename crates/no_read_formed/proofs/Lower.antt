-- Each named type refers to types of lower numbers alone.
use Rattle.std.proofs.Common.{◌≡◌, ◌<◌, ◌≤◌, ℕ, suc, zero, ◌+◌, Bool, true, false, not, ◌&&◌, ◌||◌, nat_lt, nat_eq, List, [], ◌∷◌, ◌++◌, length, get_or, slice_get, map, if◌then◌else◌, Option, Some, None, refl, sym, ap, subst, ◌∙◌, ◌⊎◌, ◌≢◌, inl, inr, arith, true≢false, append_assoc}
use Rattle.std.specs.List.{list_any, list_all, zip}
use Rattle.std.proofs.lemmas.Bool.{lt-ltb, ltb-true}
use Rattle.std.proofs.lemmas.Bool.Decides.{eqb_tells}
use Rattle.std.proofs.lemmas.List.{length-append, length-map}
use Rattle.std.proofs.lemmas.List.Folds.{list_any-append}
use Rattle.no_ir.specs.declared.types.Ty.{Ty, roll-Ty}
use Rattle.no_ir.specs.declared.types.Ty.TheOpen.{Ty-F}
use Rattle.no_ir.specs.declared.types.Ty.TheFolds.{fold-roll-Ty, ind-Ty, map-Ty}
use Rattle.no_ir.specs.declared.types.Ty.TheVariants as ty
use Rattle.no_read_types.specs.declared.definition.Definition.{Definition}
use Rattle.no_read_types.specs.Graph.{joined, reference_step, references, graph_of, is_open, order_of, number_from, number_of}
use Rattle.no_read_types.specs.Lifted.{renumber_step, renumbered, as_list, picked, types_in}
use Rattle.no_module.specs.Formed.{type_formed, type_step, types_formed}
use Rattle.no_read_formed.proofs.Order.{Ready, Follows}
use Rattle.no_read_formed.proofs.Types.{IsType, int_formed, ptr_formed, named_formed, array_formed, struct_formed}

-- ---- types with other numbers

layer : (n : ℕ) (x : Ty-F Ty) → type_formed n (roll-Ty x) ≡ type_step n (map-Ty Ty Bool (type_formed n) x)
layer n x = fold-roll-Ty Bool (type_step n) x

refers_layer : (x : Ty-F Ty) → references (roll-Ty x) ≡ reference_step (map-Ty Ty (List ℕ) references x)
refers_layer x = fold-roll-Ty (List ℕ) reference_step x

pub same_number : (r : ℕ) → nat_eq r r ≡ true
same_number r = by (eqb_tells r r)
  where
    by : ((nat_eq r r ≡ true) × (r ≡ r)) ⊎ ((nat_eq r r ≡ false) × (r ≢ r)) → nat_eq r r ≡ true
    by (inl x) = x.0
    by (inr x) = absurd (x.1 refl)

module _ (num : ℕ → ℕ) (n k : ℕ) where
  renumber_layer : (x : Ty-F Ty) → renumbered num (roll-Ty x) ≡ renumber_step num (map-Ty Ty Ty (renumbered num) x)
  renumber_layer x = fold-roll-Ty Ty (renumber_step num) x

  -- each number that a list has is a good one
  abbrev Good : List ℕ → Type 0
  Good rs = (r : ℕ) → list_any (nat_eq r) rs ≡ true → nat_lt r n ≡ true → nat_lt (num r) k ≡ true

  abbrev Moves : Ty → Type 0
  Moves t = type_formed n t ≡ true → Good (references t) → type_formed k (renumbered num t) ≡ true

  good_left : (xs ys : List ℕ) → Good (xs ++ ys) → Good xs
  good_left xs ys g r e lt = g r (list_any-append (nat_eq r) xs ys ∙ (rw e refl)) lt

  good_right : (xs ys : List ℕ) → Good (xs ++ ys) → Good ys
  good_right xs ys g r e lt = g r (list_any-append (nat_eq r) xs ys ∙ (rw e (or_true (list_any (nat_eq r) xs)))) lt
    where
      or_true : (b : Bool) → (b || true) ≡ true
      or_true true = refl
      or_true false = refl

  module _ (S : Type 0) (v : S → Ty) (h : (d : S) → Moves (v d)) where
    both : (b c : Bool) → (b && c) ≡ true → (b ≡ true) × (c ≡ true)
    both true true e = (refl, refl)
    both true false e = absurd cc
    both false c e = absurd cc

    fields_move : (ds : List S) → list_all (λ field. field) (map (type_formed n) (map v ds)) ≡ true → Good (joined (map references (map v ds))) → list_all (λ field. field) (map (type_formed k) (map (renumbered num) (map v ds))) ≡ true
    fields_move [] e g = refl
    fields_move (d ∷ ds) e g =
        let p = both (type_formed n (v d)) (list_all (λ field. field) (map (type_formed n) (map v ds))) e in
        rw (h d p.0 (good_left (references (v d)) (joined (map references (map v ds))) g), fields_move ds p.1 (good_right (references (v d)) (joined (map references (map v ds))) g)) refl

    step : (y : Ty-F S) → type_step n (map-Ty Ty Bool (type_formed n) (map-Ty S Ty v y)) ≡ true → Good (reference_step (map-Ty Ty (List ℕ) references (map-Ty S Ty v y))) → type_formed k (renumber_step num (map-Ty Ty Ty (renumbered num) (map-Ty S Ty v y))) ≡ true
    step Ty-F.Void e g = absurd (true≢false (sym e))
    step (Ty-F.Int w) e g = int_formed k w ∙ e
    step Ty-F.Ptr e g = ptr_formed k
    step (Ty-F.Array c d) e g = array_formed k c (renumbered num (v d)) ∙ h d e g
    step (Ty-F.Struct p ds) e g = struct_formed k p (map (renumbered num) (map v ds)) ∙ fields_move ds e g
    step (Ty-F.Named j) e g = named_formed k (num j) ∙ g j (rw (same_number j) refl) e

    one : (y : Ty-F S) → Moves (roll-Ty (map-Ty S Ty v y))
    one y e g =
        let x = map-Ty S Ty v y in
        ap (type_formed k) (renumber_layer x) ∙ step y (sym (layer n x) ∙ e) (subst Good (refers_layer x) g)

  pub moves : (t : Ty) → Moves t
  moves t = ind-Ty Moves (λ x y e. subst (λ (z : Ty-F Ty). Moves (roll-Ty z)) e (one _ (λ d. d.0) (λ d. d.1) y)) t

-- ---- numbers of the order

number_in_done : (k : ℕ) (done rest : List ℕ) (r : ℕ) → list_any (nat_eq r) done ≡ true → number_from k (done ++ rest) r < k + length done
number_in_done k [] rest r e = absurd (true≢false (sym e))
number_in_done k (m ∷ done) rest r e = by (nat_eq r m) e (number_in_done (suc k) done rest r)
  where
    by : (b : Bool) → (b || list_any (nat_eq r) done) ≡ true → (list_any (nat_eq r) done ≡ true → number_from (suc k) (done ++ rest) r < suc k + length done) → (if b then k else number_from (suc k) (done ++ rest) r) < k + length (m ∷ done)
    by true e more = omega arith
    by false e more = let q = more e in omega (arith, q)

none_passes : (p : ℕ → Bool) (xs : List ℕ) (r : ℕ) → list_any p xs ≡ false → list_any (nat_eq r) xs ≡ true → p r ≡ false
none_passes p [] r e f = absurd (true≢false (sym f))
none_passes p (x ∷ xs) r e f = by (eqb_tells r x) (p x) refl e f (none_passes p xs r)
  where
    by : ((nat_eq r x ≡ true) × (r ≡ x)) ⊎ ((nat_eq r x ≡ false) × (r ≢ x)) → (b : Bool) → p x ≡ b → (b || list_any p xs) ≡ false → (nat_eq r x || list_any (nat_eq r) xs) ≡ true → (list_any p xs ≡ false → list_any (nat_eq r) xs ≡ true → p r ≡ false) → p r ≡ false
    by c true q e f more = absurd (true≢false e)
    by (inl t) false q e f more = ap p t.1 ∙ q
    by (inr t) false q e f more = more e (sym (ap (λ (b : Bool). b || list_any (nat_eq r) xs) t.0) ∙ f)

-- ---- definitions in their order

pub defined_at : (D : List Definition) (n : ℕ) → n < length D → (d : Definition) × (slice_get D n ≡ Some d) × (get_or (graph_of D) n [] ≡ references d.ty)
defined_at [] n lt = absurd (omega (arith, lt))
defined_at (d ∷ D) zero lt = (d, refl, refl)
defined_at (d ∷ D) (suc n) lt = defined_at D n (omega (arith, lt))

module _ (D : List Definition) (N : ℕ) (formed : (n : ℕ) (d : Definition) → slice_get D n ≡ Some d → type_formed N d.ty ≡ true) (most : N ≤ length D) where
  abbrev G : List (List ℕ)
  G = graph_of D

  long : length G ≡ length D
  long = length-map D (λ d. references d.ty)

  good : (done rest order : List ℕ) (rs : List ℕ) → order ≡ done ++ rest → list_any (is_open G done) rs ≡ false → Good (number_of order) N (length done) rs
  good done rest order rs e none r f lt =
      let closed : is_open G done r ≡ false = none_passes (is_open G done) rs r none f in
      let known : list_any (nat_eq r) done ≡ true = in_done (nat_lt r (length G)) (list_any (nat_eq r) done) (lt-ltb r (length G) (within r (ltb-true r N lt))) closed in
      lt-ltb (number_of order r) (length done) (subst (λ (o : List ℕ). number_from 0 o r < length done) (sym e) (below (number_in_done 0 done rest r known)))
    where
      within : (r : ℕ) → r < N → r < length G
      within r p = let l = long in omega (arith, p, most, l)

      in_done : (b c : Bool) → b ≡ true → (b && not c) ≡ false → c ≡ true
      in_done true true p q = refl
      in_done true false p q = absurd (true≢false q)
      in_done false c p q = absurd (true≢false (sym p))

      below : number_from 0 (done ++ rest) r < 0 + length done → number_from 0 (done ++ rest) r < length done
      below p = omega (arith, p)

  pub lower_from : (order done rest : List ℕ) → order ≡ done ++ rest → Follows G done rest → (names : List (List ℕ)) → types_formed (length done) (zip names (types_in (number_of order) (picked D rest))) ≡ true
  lower_from order done [] e f [] = refl
  lower_from order done [] e f (name ∷ names) = refl
  lower_from order done (n ∷ rest) e f names = at (defined_at D n (inside f.0.opened)) names (λ ns. lower_from order (done ++ n ∷ []) rest (e ∙ sym (append_assoc done (n ∷ []) rest)) f.1 ns)
    where
      inside : is_open G done n ≡ true → n < length D
      inside o = let l = long in let p = ltb-true n (length G) (left (nat_lt n (length G)) (not (list_any (nat_eq n) done)) o) in omega (arith, l, p)
        where
          left : (b c : Bool) → (b && c) ≡ true → b ≡ true
          left true c q = refl
          left false c q = q

      more_long : length (done ++ n ∷ []) ≡ length done + 1
      more_long = length-append done (n ∷ [])

      at : ((d : Definition) × (slice_get D n ≡ Some d) × (get_or G n [] ≡ references d.ty)) → (names : List (List ℕ))
          → ((ns : List (List ℕ)) → types_formed (length (done ++ n ∷ [])) (zip ns (types_in (number_of order) (picked D rest))) ≡ true)
          → types_formed (length done) (zip names (types_in (number_of order) (picked D (n ∷ rest)))) ≡ true
      at x [] more = refl
      at x (name ∷ names) more =
          let here : type_formed (length done) (renumbered (number_of order) x.0.ty) ≡ true =
          moves (number_of order) N (length done) x.0.ty (formed n x.0 x.1) (good done (n ∷ rest) order (references x.0.ty) e (subst (λ (rs : List ℕ). list_any (is_open G done) rs ≡ false) x.2 f.0.refers)) in
          let later : types_formed (length done + 1) (zip names (types_in (number_of order) (picked D rest))) ≡ true = subst (λ (k : ℕ). types_formed k (zip names (types_in (number_of order) (picked D rest))) ≡ true) more_long (more names) in
          rw x.1 (rw (here, later) refl)
