-- What names mean, by what type definitions give.
use Rattle.std.proofs.Common.{◌≡◌, ℕ, List, Result, Ok, Err, sym, ap, ◌∙◌}
use Rattle.no_lex.specs.declared.token.Token.{Token}
use Rattle.no_read_rules.specs.declared.fault.Stop.{Stop}
use Rattle.no_read_rules.specs.declared.fault.Stop.TheVariants as stop
use Rattle.no_read_types.specs.Lifted.{Lifts}
use Rattle.no_read_types.specs.Lifted as types
use Rattle.no_read_types.specs.declared.lifted.Lifted.{Lifted}
use Rattle.no_read.specs.declared.fault.ReadError.{ReadError}
use Rattle.no_read.specs.declared.fault.ReadError.TheVariants as error
use Rattle.no_read.specs.declared.known.Known.{Known}
use Rattle.no_read.specs.declared.fault.ReadFault.{ReadFault}
use Rattle.no_read.specs.Faults.{read_fault}
use Rattle.no_read.specs.Knowing.{known_of, IsKnown, Knows, Answers, StopsAs}
use Rattle.no_read_rules.specs.declared.fault.Stopped.{Stopped}
use Rattle.no_read_types.proofs.LiftedLaws.{lifts_once}

pub is_known : (text : List ℕ) (tokens : List Token) (lifted : Lifted) (k : Known) → Lifts text tokens (Ok lifted) → k ≡ known_of text lifted → IsKnown text tokens k
is_known text tokens lifted k l e = record { lifted = lifted; lifts = l; is = e }

pub is_refused : (text : List ℕ) (tokens : List Token) (s : Stop) (e : ReadError) → types.Answers (Err s) (Lifts text tokens) → StopsAs text tokens s e → Answers {A = Known} (Err e) (Knows text tokens)
is_refused text tokens stop.NoMemory error.NoMemory l e = tt
is_refused text tokens stop.NoMemory (error.Fault f) l e = absurd cc
is_refused text tokens (stop.Fault stopped) error.NoMemory l e = tt
is_refused text tokens (stop.Fault stopped) (error.Fault f) l e = record { stopped = stopped; lifts = l; is = e }

-- ---- at most one answer

abbrev okay : Lifted → Result Lifted Stopped
okay x = Ok x

abbrev stuck : Stopped → Result Lifted Stopped
stuck f = Err f

same_okay : (x y : Lifted) → okay x ≡ okay y → x ≡ y
same_okay x y e = cc

same_stuck : (x y : Stopped) → stuck x ≡ stuck y → x ≡ y
same_stuck x y e = cc

apart : (x : Lifted) (f : Stopped) → okay x ≡ stuck f → ⊥
apart x f e = cc

pub knows_once : (text : List ℕ) (tokens : List Token) (a b : Result Known ReadFault) → Knows text tokens a → Knows text tokens b → a ≡ b
knows_once text tokens (Ok k) (Ok l) p q = ap Ok (p.is ∙ ap (known_of text) (same_okay p.lifted q.lifted (lifts_once text tokens (Ok p.lifted) (Ok q.lifted) p.lifts q.lifts)) ∙ sym q.is)
knows_once text tokens (Ok k) (Err f) p q = absurd (apart p.lifted q.stopped (lifts_once text tokens (Ok p.lifted) (Err q.stopped) p.lifts q.lifts))
knows_once text tokens (Err f) (Ok l) p q = absurd (apart q.lifted p.stopped (lifts_once text tokens (Ok q.lifted) (Err p.stopped) q.lifts p.lifts))
knows_once text tokens (Err f) (Err g) p q = ap Err (p.is ∙ ap (read_fault text tokens) (same_stuck p.stopped q.stopped (lifts_once text tokens (Err p.stopped) (Err q.stopped) p.lifts q.lifts)) ∙ sym q.is)

pub only_known : (result : Result Known ReadError) (text : List ℕ) (tokens : List Token) (answer : Result Known ReadFault) → Answers result (Knows text tokens) → Knows text tokens answer → Answers result (λ found. found ≡ answer)
only_known (Ok k) text tokens answer p q = knows_once text tokens (Ok k) answer p q
only_known (Err (error.Fault f)) text tokens answer p q = knows_once text tokens (Err f) answer p q
only_known (Err error.NoMemory) text tokens answer p q = tt
