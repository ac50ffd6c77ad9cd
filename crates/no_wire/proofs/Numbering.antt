-- The kind of a number, and the number of a kind.
use Rattle.std.proofs.Common.{◌≡◌, ℕ, Bool, true, false, ◌==◌, if◌then◌else◌, Option, Some, refl, sym, ap, ◌∙◌, eqb-true}
use Rattle.no_wire.specs.declared.kind.Kind.{Kind}
use Rattle.no_wire.specs.declared.kind.Kind.TheVariants as kind
use Rattle.no_wire.specs.Kinds.{kind_at, kind_number}

pub at_number : (k : Kind) → kind_at (kind_number k) ≡ Some k
at_number kind.Load = refl
at_number kind.LoadEnd = refl
at_number kind.Start = refl
at_number kind.Blocks = refl
at_number kind.Page = refl
at_number kind.Zero = refl
at_number kind.Bye = refl
at_number kind.Abandon = refl
at_number kind.Want = refl
at_number kind.Output = refl
at_number kind.Dirty = refl
at_number kind.Heap = refl
at_number kind.Finish = refl
at_number kind.Declined = refl

pub number_once : (j k : Kind) → kind_number j ≡ kind_number k → j ≡ k
number_once j k e = let h : Some j ≡ Some k = sym (at_number j) ∙ ap kind_at e ∙ at_number k in cc

link : (b : Bool) (m n : ℕ) (j k : Kind) (rest : Option Kind) → (b ≡ true → n ≡ m) → kind_number j ≡ m → (rest ≡ Some k → kind_number k ≡ n) → (if b then Some j else rest) ≡ Some k → kind_number k ≡ n
link true m n j k rest is number other e = let h : j ≡ k = cc in ap kind_number (sym h) ∙ number ∙ sym (is refl)
link false m n j k rest is number other e = other e

pub number_at : (n : ℕ) (k : Kind) → kind_at n ≡ Some k → kind_number k ≡ n
number_at n k =
    link (n == 1) 1 n kind.Load k _ (eqb-true n 1) refl (
    link (n == 2) 2 n kind.LoadEnd k _ (eqb-true n 2) refl (
    link (n == 3) 3 n kind.Start k _ (eqb-true n 3) refl (
    link (n == 4) 4 n kind.Blocks k _ (eqb-true n 4) refl (
    link (n == 5) 5 n kind.Page k _ (eqb-true n 5) refl (
    link (n == 6) 6 n kind.Zero k _ (eqb-true n 6) refl (
    link (n == 7) 7 n kind.Bye k _ (eqb-true n 7) refl (
    link (n == 8) 8 n kind.Abandon k _ (eqb-true n 8) refl (
    link (n == 17) 17 n kind.Want k _ (eqb-true n 17) refl (
    link (n == 18) 18 n kind.Output k _ (eqb-true n 18) refl (
    link (n == 19) 19 n kind.Dirty k _ (eqb-true n 19) refl (
    link (n == 20) 20 n kind.Heap k _ (eqb-true n 20) refl (
    link (n == 21) 21 n kind.Finish k _ (eqb-true n 21) refl (
    link (n == 22) 22 n kind.Declined k _ (eqb-true n 22) refl (
    (λ e. absurd cc)))))))))))))))
