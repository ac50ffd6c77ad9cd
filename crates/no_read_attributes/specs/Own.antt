-- Rules with a state of their own.
use Rattle.std.specs.Prelude.{◌≡◌, List, Result, Ok, Err}
use Rattle.no_lex.specs.declared.token.Token.{Token}
use Rattle.no_read_rules.specs.declared.fault.Stopped.{Stopped}
use Rattle.no_read_rules.specs.Rules.{Rule}

-- what a rule with a state of its own read: its state is given with the value, and the state around it stays
abbrev pub with_state : {S T A : Type 0} → S → Result (A × T × List Token) Stopped → Result ((A × T) × S × List Token) Stopped
with_state s (Ok x) = Ok ((x.0, x.1), s, x.2)
with_state s (Err stopped) = Err stopped

-- a rule with a state of its own, which begins here and is given with the value
abbrev pub inside : {S T A : Type 0} → T → Rule T A → Rule S (A × T)
inside start p = record { means = λ s tokens x t. p.means start tokens x.0 x.1 × (t ≡ s); read = λ s tokens. with_state s (p.read start tokens) }
