-- The faults of a text that reads as no module.
use Rattle.std.specs.Prelude.{ℕ, List, [], ◌∷◌, ◌==◌, length, Option, Some, None, if◌then◌else◌}
use Rattle.no_lex.specs.declared.token.Token.{Token}
use Rattle.no_read_rules.specs.declared.fault.Flaw.{Flaw}
use Rattle.no_read_rules.specs.declared.fault.Flaw.TheVariants as flaw
use Rattle.no_read_rules.specs.declared.fault.Stopped.{Stopped}
use Rattle.no_read_rules.specs.Spelled.{spelled}
use Rattle.no_read_attributes.specs.Words.{is_left_out}
use Rattle.no_read.specs.declared.fault.ReadFault.{ReadFault}
use Rattle.no_read.specs.declared.fault.ReadFault.TheVariants as fault

-- the number of a kind of fault
abbrev pub fault_number : ReadFault → ℕ
fault_number (fault.Syntax at) = 1
fault_number (fault.LeftOut at word) = 2
fault_number (fault.Number at) = 3
fault_number (fault.Circle at) = 4

-- the token that begins at a place
abbrev pub token_at : ℕ → List Token → Option Token
token_at place [] = None
token_at place (token ∷ tokens) = if token.start == place then Some token else token_at place tokens

-- where no form goes on with a token, it may be a word that the profile leaves out
abbrev pub syntax_at : List ℕ → ℕ → Option Token → ReadFault
syntax_at text place None = fault.Syntax place
syntax_at text place (Some token) = if is_left_out text token then fault.LeftOut place (spelled text token) else fault.Syntax place

-- a token that the profile leaves out, with its spelling
abbrev pub left_out_at : List ℕ → ℕ → Option Token → ReadFault
left_out_at text place None = fault.LeftOut place []
left_out_at text place (Some token) = fault.LeftOut place (spelled text token)

-- the fault of a flaw at a place
abbrev pub flaw_at : List ℕ → List Token → Flaw → ℕ → ReadFault
flaw_at text tokens flaw.Syntax place = syntax_at text place (token_at place tokens)
flaw_at text tokens flaw.LeftOut place = left_out_at text place (token_at place tokens)
flaw_at text tokens flaw.Number place = fault.Number place
flaw_at text tokens flaw.Circle place = fault.Circle place

-- where the text ends before a form is whole, that is Syntax at the text's length
abbrev pub placed : List ℕ → List Token → Flaw → Option ℕ → ReadFault
placed text tokens flaw None = fault.Syntax (length text)
placed text tokens flaw (Some place) = flaw_at text tokens flaw place

-- the fault of a text at which reading stopped
abbrev pub read_fault : List ℕ → List Token → Stopped → ReadFault
read_fault text tokens stopped = placed text tokens stopped.flaw stopped.at
