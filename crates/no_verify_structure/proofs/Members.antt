-- Sets with the same members.
use Rattle.std.proofs.Common.{◌≡◌, ℕ, Bool, true, false, ◌&&◌, ◌||◌, nat_eq, eqb, List, [], ◌∷◌, ◌++◌, refl, sym, ap, ◌∙◌, inl, inr, arith, true≢false, if◌then◌else◌, subst}
use Rattle.std.proofs.lemmas.Bool.{eq-eqb, eqb-true, cases_Bool}
use Rattle.std.specs.List.{list_all, list_any}
use Rattle.std.proofs.lemmas.List.Folds.{list_any-append}
use mathlib.Core.Path.{fun_ext, ap₂}
use Rattle.no_ir.specs.declared.instruction.Instr.{Instr}
use Rattle.no_ir.specs.declared.function.Function.{Function}
use Rattle.no_ir.specs.declared.function.Module.{Module}
use Rattle.no_verify_structure.specs.Finding.{first_instr}
use Rattle.no_verify_structure.specs.Names.{is_in, with_number, registers_of, labels_defined}
use Rattle.no_module.specs.Instructions.{labels_of}
use Rattle.no_verify_structure.specs.Parts.{operands_keep}
use Rattle.no_verify_structure.specs.Unknown.{instr_known, place_known, function_unknown}

-- two tests that agree everywhere
pub both_ways : (b c : Bool) → (b ≡ true → c ≡ true) → (c ≡ true → b ≡ true) → b ≡ c
both_ways true c to from = sym (to refl)
both_ways false true to from = from refl
both_ways false false to from = refl

pub same_tests : (a b xs : List ℕ) → ((x : ℕ) → is_in a x ≡ is_in b x) → list_all (is_in a) xs ≡ list_all (is_in b) xs
same_tests a b xs h = ap (λ (p : ℕ → Bool). list_all p xs) (fun_ext h)

or_left : (b c : Bool) → b ≡ true → (b || c) ≡ true
or_left b c e = rw e refl

or_right : (b c : Bool) → c ≡ true → (b || c) ≡ true
or_right true c e = refl
or_right false c e = e

and_left : (b c : Bool) → (b && c) ≡ true → b ≡ true
and_left true c h = refl
and_left false c h = h

and_right : (b c : Bool) → (b && c) ≡ true → c ≡ true
and_right true c h = h
and_right false c h = absurd (true≢false (sym h))

or_rest : (b c : Bool) → b ≡ false → (b || c) ≡ true → c ≡ true
or_rest true c e h = absurd (true≢false e)
or_rest false c e h = h

pub or_false : (b : Bool) → b ≡ (b || false)
or_false true = refl
or_false false = refl

and_both : (b c : Bool) → b ≡ true → c ≡ true → (b && c) ≡ true
and_both b c e d = rw (e, d) refl

module _ (p : ℕ → Bool) where
  each_in : (xs : List ℕ) → ((x : ℕ) → is_in xs x ≡ true → p x ≡ true) → list_all p xs ≡ true
  each_in [] h = refl
  each_in (y ∷ ys) h = and_both (p y) (list_all p ys) (h y (or_left (nat_eq y y) (is_in ys y) (eq-eqb y y refl))) (each_in ys (λ x m. h x (or_right (nat_eq x y) (is_in ys x) m)))

  all_in : (xs : List ℕ) → list_all p xs ≡ true → (x : ℕ) → is_in xs x ≡ true → p x ≡ true
  all_in [] h x m = absurd (true≢false (sym m))
  all_in (y ∷ ys) h x m = elim (cases_Bool (nat_eq x y)) [
    | inl e ↦ subst (λ (z : ℕ). p z ≡ true) (sym (eqb-true x y e)) (and_left (p y) (list_all p ys) h)
    | inr e ↦ all_in ys (and_right (p y) (list_all p ys) h) x (or_rest (nat_eq x y) (is_in ys x) e m)
  ]

  pub same_members : (a b : List ℕ) → ((x : ℕ) → is_in a x ≡ is_in b x) → list_all p a ≡ list_all p b
  same_members a b h = both_ways (list_all p a) (list_all p b)
      (λ e. each_in b (λ x m. all_in a e x (h x ∙ m)))
      (λ e. each_in a (λ x m. all_in b e x (sym (h x) ∙ m)))

-- a number is among those with one more where it is that one, or among them
pub put_member : (xs : List ℕ) (n x : ℕ) → is_in (with_number xs n) x ≡ (is_in xs x || nat_eq x n)
put_member xs n x = by (is_in xs n) refl
  where
    there : (c : Bool) → is_in xs n ≡ true → nat_eq x n ≡ c → is_in xs x ≡ (is_in xs x || c)
    there true e d = ap (is_in xs) (eqb-true x n d) ∙ e ∙ sym (or_right (is_in xs x) true refl)
    there false e d = or_false (is_in xs x)

    by : (b : Bool) → is_in xs n ≡ b → is_in (if b then xs else xs ++ n ∷ []) x ≡ (is_in xs x || nat_eq x n)
    by true e = there (nat_eq x n) e refl
    by false e = list_any-append (nat_eq x) xs (n ∷ []) ∙ ap (λ (c : Bool). is_in xs x || c) (sym (or_false (nat_eq x n)))

-- names are known to a function by its sets
pub same_unknown : (m : Module) (f : Function) (registers labels : List ℕ)
    → ((r : ℕ) → is_in registers r ≡ is_in (registers_of f) r) → ((l : ℕ) → is_in labels l ≡ is_in (labels_defined f) l)
    → first_instr (instr_known m registers labels) f.blocks ≡ function_unknown m f
same_unknown m f registers labels h k =
    ap₂ (λ (p q : ℕ → Bool). first_instr (λ (i : Instr). operands_keep p (place_known m) i.op && list_all q (labels_of i.op)) f.blocks) (fun_ext h) (fun_ext k)
