-- What the source gives comes behind the input.
use Rattle.std.proofs.Common.{◌≡◌, ℕ, suc, ◌<◌, ◌≤◌, Bool, true, false, true≢false, List, [], ◌∷◌, ◌++◌, length, length-append, take, drop, get_or, refl, sym, ap, ◌∙◌, Option, Some, None, arith}
use Rattle.std.specs.Prelude.{IfSome, ◌&&◌, not}
use Rattle.std.proofs.lemmas.List.{take-append-drop, length-take-le}
use Rattle.no_ports.specs.Meanings.{Moves}
use Rattle.no_lib.specs.declared.env.Env.{Env}
use Rattle.no_semantics.specs.Lists.{is_empty}
use Rattle.no_app.specs.Jobs.{AreBytes, GoesOn, IsFed}

pub bytes_of : (xs : List ℕ) → ((k : ℕ) → get_or xs k 0 < 256) → AreBytes xs
bytes_of [] all = tt
bytes_of (x ∷ xs) all = (all 0, bytes_of xs (λ k. all (suc k)))

not_empty : (xs : List ℕ) → 0 < length xs → is_empty xs ≡ false
not_empty [] some = absurd (omega (arith, some))
not_empty (x ∷ xs) some = refl

took_moved : (left left' : Option (List ℕ)) (n : ℕ) (buf : List ℕ) (ended : Bool) → ended ≡ false → Moves n buf left left'
    → IfSome left (λ l. (rest : List ℕ) × (l ≡ take n buf ++ rest) × (left' ≡ Some rest) × (ended ≡ true → rest ≡ []))
took_moved None left' n buf ended open_end moves = tt
took_moved (Some l) left' n buf ended open_end moves = (
  drop n l,
  sym (ap (λ (x : List ℕ). x ++ drop n l) moves.1 ∙ take-append-drop n l),
  moves.2,
  λ e. absurd (true≢false (sym e ∙ open_end)),
)

pub took_fed : (left left' : Option (List ℕ)) (before after : Env) (n : ℕ) (buf : List ℕ) → 0 < n → n ≤ length buf → AreBytes (take n buf) → Moves n buf left left'
    → after.input ≡ before.input ++ take n buf → after.output.items ≡ before.output.items → after.ended ≡ false → IsFed left left' before after
took_fed left left' before after n buf some most all moves input output open_end = record {
  bytes = take n buf;
  are_bytes = all;
  input = input;
  output = output;
  closed = ap (λ (x : List ℕ). is_empty x && not after.ended) input ∙ ap (λ (b : Bool). b && not after.ended) full;
  moved = took_moved left left' n buf after.ended open_end moves;
}
  where
    full : is_empty (before.input ++ take n buf) ≡ false
    full = not_empty (before.input ++ take n buf) (rw (length-append, length-take-le n buf most) (omega (arith, some)))

pub took_on : (left left' : Option (List ℕ)) (n : ℕ) (buf : List ℕ) → Moves n buf left left' → GoesOn left left'
took_on None left' n buf moves = tt
took_on (Some l) left' n buf moves = (take n l, drop n l, sym (take-append-drop n l), moves.2)
