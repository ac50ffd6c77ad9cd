-- What holds of each element of a list, and lists in which nothing breaks a rule.
use Rattle.std.proofs.Common.{◌≡◌, ℕ, ◌+◌, Bool, true, false, ◌&&◌, not, List, [], ◌∷◌, if◌then◌else◌, Option, Some, None, refl}
use Rattle.std.specs.List.{list_all, position_from}
use Rattle.std.proofs.lemmas.Bool.{and_parts, and_from}
use Rattle.no_ir.specs.declared.function.Block.{Block}
use Rattle.no_ir.specs.declared.function.Function.{Function}
use Rattle.no_ir.specs.declared.instruction.Instr.{Instr}
use Rattle.no_verify_types.specs.declared.place.FaultPlace.{FaultPlace}
use Rattle.no_verify_types.specs.Places.{found_or, first_found, placed, wrong_in, wrong_among}
use Rattle.no_verify_structure.specs.Finding.{block_break, first_at, first_break, first_instr, first_place, unless, unless_whole}

abbrev pub Each : {A : Type 0} → (A → Type 0) → List A → Type 0
Each P [] = Unit {0}
Each P (x ∷ xs) = P x × Each P xs

module _ {A : Type 0} where
  pub each_of : (p : A → Bool) (xs : List A) → list_all p xs ≡ true → Each (λ x. p x ≡ true) xs
  each_of p [] e = tt
  each_of p (x ∷ xs) e = let parts = and_parts (p x) (list_all p xs) e in (parts.0, each_of p xs parts.1)

  pub all_of : (p : A → Bool) (xs : List A) → Each (λ x. p x ≡ true) xs → list_all p xs ≡ true
  all_of p [] h = refl
  all_of p (x ∷ xs) h = and_from (p x) (list_all p xs) h.0 (all_of p xs h.1)

  pub each_more : (P Q : A → Type 0) (xs : List A) → ((x : A) → P x → Q x) → Each P xs → Each Q xs
  each_more P Q [] f h = tt
  each_more P Q (x ∷ xs) f h = (f x h.0, each_more P Q xs f h.1)

  pub each_both : (P Q : A → Type 0) (xs : List A) → Each P xs → Each Q xs → Each (λ x. P x × Q x) xs
  each_both P Q [] h k = tt
  each_both P Q (x ∷ xs) h k = ((h.0, k.0), each_both P Q xs h.1 k.1)

  pub all_both : (p q : A → Bool) (xs : List A) → list_all p xs ≡ true → list_all q xs ≡ true → list_all (λ x. p x && q x) xs ≡ true
  all_both p q [] e h = refl
  all_both p q (x ∷ xs) e h =
      let one = and_parts (p x) (list_all p xs) e in
      let other = and_parts (q x) (list_all q xs) h in
      and_from _ _ (and_from _ _ one.0 other.0) (all_both p q xs one.1 other.1)

  -- a test that holds of all that passes another
  pub all_more : (p q : A → Bool) (xs : List A) → ((x : A) → p x ≡ true → q x ≡ true) → list_all p xs ≡ true → list_all q xs ≡ true
  all_more p q [] f e = refl
  all_more p q (x ∷ xs) f e =
      let parts = and_parts (p x) (list_all p xs) e in
      and_from (q x) (list_all q xs) (f x parts.0) (all_more p q xs f parts.1)

-- ---- the first element in which there is something

module _ {A B : Type 0} (find : A → Option B) where
  pub none_at : (k : ℕ) (xs : List A) → first_at (λ j. find) k xs ≡ None → Each (λ x. find x ≡ None) xs
  none_at k [] e = tt
  none_at k (x ∷ xs) e = go (find x) refl (none_at (k + 1) xs) e
    where
      go : (o : Option B) → find x ≡ o → (first_at (λ j. find) (k + 1) xs ≡ None → Each (λ y. find y ≡ None) xs) → found_or k o (first_at (λ j. find) (k + 1) xs) ≡ None → (find x ≡ None) × Each (λ y. find y ≡ None) xs
      go None is more rest = (is, more rest)
      go (Some b) is more rest = absurd cc

  pub none_found : (k : ℕ) (xs : List A) → first_found find k xs ≡ None → Each (λ x. find x ≡ None) xs
  none_found k [] e = tt
  none_found k (x ∷ xs) e = go (find x) refl (none_found (k + 1) xs) e
    where
      go : (o : Option B) → find x ≡ o → (first_found find (k + 1) xs ≡ None → Each (λ y. find y ≡ None) xs) → found_or k o (first_found find (k + 1) xs) ≡ None → (find x ≡ None) × Each (λ y. find y ≡ None) xs
      go None is more rest = (is, more rest)
      go (Some b) is more rest = absurd cc

-- ---- the first element that breaks a rule

module _ {A : Type 0} (keeps : A → Bool) where
  none_breaks : (k : ℕ) (xs : List A) → first_break (λ j. keeps) k xs ≡ None → list_all keeps xs ≡ true
  none_breaks k [] e = refl
  none_breaks k (x ∷ xs) e = go (keeps x) refl (none_breaks (k + 1) xs) e
    where
      go : (b : Bool) → keeps x ≡ b → (first_break (λ j. keeps) (k + 1) xs ≡ None → list_all keeps xs ≡ true) → (if b then first_break (λ j. keeps) (k + 1) xs else Some k) ≡ None → (keeps x && list_all keeps xs) ≡ true
      go true is more rest = and_from (keeps x) (list_all keeps xs) is (more rest)
      go false is more rest = absurd cc

  none_wrong : (k : ℕ) (xs : List A) → position_from (λ x. not (keeps x)) k xs ≡ None → list_all keeps xs ≡ true
  none_wrong k [] e = refl
  none_wrong k (x ∷ xs) e = go (keeps x) refl (none_wrong (k + 1) xs) e
    where
      go : (b : Bool) → keeps x ≡ b → (position_from (λ y. not (keeps y)) (k + 1) xs ≡ None → list_all keeps xs ≡ true) → (if not b then Some k else position_from (λ y. not (keeps y)) (k + 1) xs) ≡ None → (keeps x && list_all keeps xs) ≡ true
      go true is more rest = and_from (keeps x) (list_all keeps xs) is (more rest)
      go false is more rest = absurd cc

-- ---- blocks, functions and modules

-- each instruction of these blocks keeps a rule
abbrev pub Keep : (Instr → Bool) → List Block → Type 0
Keep keeps blocks = Each (λ (b : Block). list_all keeps b.instrs ≡ true) blocks

pub blocks_keep : (keeps : Instr → Bool) (blocks : List Block) → first_instr keeps blocks ≡ None → Keep keeps blocks
blocks_keep keeps blocks e =
    each_more (λ (b : Block). block_break keeps b ≡ None) (λ (b : Block). list_all keeps b.instrs ≡ true) blocks
    (λ (b : Block). none_breaks keeps 0 b.instrs) (none_at (block_break keeps) 0 blocks e)

pub blocks_right : (keeps : Instr → Bool) (blocks : List Block) → wrong_among keeps blocks ≡ None → Keep keeps blocks
blocks_right keeps blocks e =
    each_more (λ (b : Block). wrong_in keeps b ≡ None) (λ (b : Block). list_all keeps b.instrs ≡ true) blocks
    (λ (b : Block). none_wrong keeps 0 b.instrs) (none_found (wrong_in keeps) 0 blocks e)

none_placed : (o : Option (ℕ × (ℕ × ℕ))) → placed o ≡ None → o ≡ None
none_placed None e = refl
none_placed (Some x) e = absurd cc

pub functions_keep : (find : Function → Option (ℕ × ℕ)) (functions : List Function) → first_place (λ k. find) functions ≡ None → Each (λ f. find f ≡ None) functions
functions_keep find functions e = none_at find 0 functions (none_placed (first_at (λ k. find) 0 functions) e)

pub functions_right : (find : Function → Option (ℕ × ℕ)) (functions : List Function) → placed (first_found find 0 functions) ≡ None → Each (λ f. find f ≡ None) functions
functions_right find functions e = none_found find 0 functions (none_placed (first_found find 0 functions) e)

pub whole_keeps : (b : Bool) (more : Option FaultPlace) → unless_whole b more ≡ None → (b ≡ true) × (more ≡ None)
whole_keeps true more e = (refl, e)
whole_keeps false more e = absurd cc

pub head_keeps : (b : Bool) (more : Option (ℕ × ℕ)) → unless b more ≡ None → (b ≡ true) × (more ≡ None)
head_keeps true more e = (refl, e)
head_keeps false more e = absurd cc
