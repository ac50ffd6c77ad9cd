-- What stands between two brackets, whatever it is.
use Rattle.std.specs.Prelude.{◌≡◌, ℕ, suc, ◌-◌, Bool, true, false, List, [], ◌∷◌, ◌==◌, Result, Ok, Err, if◌then◌else◌}
use Rattle.no_lex.specs.declared.token.Token.{Token}
use Rattle.no_read_rules.specs.declared.fault.Flaw.TheVariants.{Syntax}
use Rattle.no_read_rules.specs.declared.fault.Stopped.{Stopped}
use Rattle.no_read_rules.specs.Rules.{Rule, fault, ◌>>=◌}
use Rattle.no_read_rules.specs.Spelled.{is_sign, a_sign}

-- whether no token is left
abbrev pub is_last : List Token → Bool
is_last [] = true
is_last (token ∷ tokens) = false

-- behind a bracket and so many more inside it that are open, the tokens end with the bracket that closes it
abbrev pub closes : List ℕ → List ℕ → List ℕ → ℕ → List Token → Bool
closes text opener closer n [] = false
closes text opener closer n (token ∷ tokens) =
    if is_sign text opener token then closes text opener closer (suc n) tokens
    else (if is_sign text closer token then (if n == 0 then is_last tokens else closes text opener closer (n - 1) tokens)
    else closes text opener closer n tokens)

-- the tokens behind that bracket
abbrev pub behind_close : List ℕ → List ℕ → List ℕ → ℕ → List Token → Result (List Token) Stopped
behind_close text opener closer n [] = Err (fault Syntax [])
behind_close text opener closer n (token ∷ tokens) =
    if is_sign text opener token then behind_close text opener closer (suc n) tokens
    else (if is_sign text closer token then (if n == 0 then Ok tokens else behind_close text opener closer (n - 1) tokens)
    else behind_close text opener closer n tokens)

-- the tokens that are left, with no value and the same state
abbrev pub gone : {S : Type 0} → S → Result (List Token) Stopped → Result (Unit {0} × S × List Token) Stopped
gone s (Ok rest) = Ok (tt, s, rest)
gone s (Err stopped) = Err stopped

-- behind an opening bracket, up to the bracket that closes it
abbrev pub to_close : {S : Type 0} → List ℕ → List ℕ → List ℕ → Rule S (Unit {0})
to_close text opener closer = record {
  means = λ s tokens a t. (closes text opener closer 0 tokens ≡ true) × (a ≡ tt) × (t ≡ s);
  read = λ s tokens. gone s (behind_close text opener closer 0 tokens);
}

-- an opening bracket, and whatever stands up to the bracket that closes it
unfoldable pub bracketed : {S : Type 0} → List ℕ → List ℕ → List ℕ → Rule S (Unit {0})
bracketed text opener closer = a_sign text opener >>= λ _. to_close text opener closer
