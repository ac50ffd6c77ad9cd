-- What a call on a wire did to its sessions, by cases on its answer.
use Rattle.std.specs.Prelude.{◌≡◌, ℕ, ◌<◌, ◌≤◌, ◌↔◌, Bool, true, false, Option, Some, List, [], ◌∷◌, ◌++◌, length, take, IfSome, IsSome, IsSomeAnd}
use Rattle.no_ports.specs.Meanings.{Adds}
use Rattle.no_ports.specs.declared.wire.Opened.{Opened}
use Rattle.no_ports.specs.declared.wire.Opened.TheVariants as opened
use Rattle.no_ports.specs.declared.wire.WireGave.{WireGave}
use Rattle.no_ports.specs.declared.wire.WireGave.TheVariants as gave
use Rattle.no_ports.specs.declared.wire.WireTook.{WireTook}
use Rattle.no_ports.specs.declared.wire.WireTook.TheVariants as took

-- ---- sessions

-- the bytes of one session: those sent on it, and those got from it
pub record Session : Type 0 where
  pub sent : List ℕ
  pub got : List ℕ

-- whether a session is live after a wire that had none was to open one
abbrev pub live_opened : Opened → Bool
live_opened opened.Open = true
live_opened opened.Failed = false
live_opened opened.NoMemory = false

-- a wire on which a session began is not fresh any more
abbrev pub fresh_opened : Opened → Bool → Bool
fresh_opened opened.Open fresh = false
fresh_opened opened.Failed fresh = fresh
fresh_opened opened.NoMemory fresh = fresh

-- a session that begins has nothing sent, or nothing got; where none began, the bytes stay
abbrev pub Begins : Opened → Option (List ℕ) → Option (List ℕ) → Type 0
Begins opened.Open old new = IfSome old (λ _. new ≡ Some [])
Begins opened.Failed old new = new ≡ old
Begins opened.NoMemory old new = new ≡ old

-- the last session joins the past ones, where all are told and there was one
abbrev pub Joins : Bool → Option (List Session) → Option (List ℕ) → Option (List ℕ)
    → Option (List Session) → Type 0
Joins true past sent got new = IfSome past (λ p. new ≡ Some p)
Joins false past sent got new = IfSome past (λ p.
    IsSome new × IfSome sent (λ s. IfSome got (λ g. new ≡ Some (p ++ record { sent = s; got = g } ∷ []))))

-- the past sessions after a call that opens one on a wire that was fresh or not
abbrev pub Retires : Opened → Bool → Option (List Session) → Option (List ℕ) → Option (List ℕ)
    → Option (List Session) → Type 0
Retires opened.Open fresh past sent got new = Joins fresh past sent got new
Retires opened.Failed fresh past sent got new = new ≡ past
Retires opened.NoMemory fresh past sent got new = new ≡ past

-- whether a live session is live after a send
abbrev pub live_sent : WireGave → Bool
live_sent (gave.Gave n) = true
live_sent gave.Failed = false
live_sent gave.NoMemory = true

-- what was sent, after a send: the piece's first n bytes more, or no more
abbrev pub Sends : WireGave → List ℕ → Option (List ℕ) → Option (List ℕ) → Type 0
Sends (gave.Gave n) piece old new = (0 < n) × (n ≤ length piece) × Adds old new (take n piece)
Sends gave.Failed piece old new = new ≡ old
Sends gave.NoMemory piece old new = new ≡ old

-- whether a live session is live after a take
abbrev pub live_taken : WireTook → Bool
live_taken (took.Took n) = true
live_taken took.End = false
live_taken took.Failed = false
live_taken took.NoMemory = true

-- what was got, after a take: the buffer's first n bytes more, or no more
abbrev pub Gets : WireTook → List ℕ → Option (List ℕ) → Option (List ℕ) → Type 0
Gets (took.Took n) buf old new = (0 < n) × (n ≤ length buf) × Adds old new (take n buf)
Gets took.End buf old new = new ≡ old
Gets took.Failed buf old new = new ≡ old
Gets took.NoMemory buf old new = new ≡ old

-- on a fresh wire nothing was sent or got, and no session is past, as far as these are told
pub record IsBlank (sent got : Option (List ℕ)) (past : Option (List Session)) : Type 0 where
  pub nothing_sent : IfSome sent (λ s. s ≡ [])
  pub nothing_got : IfSome got (λ g. g ≡ [])
  pub none_past : IfSome past (λ p. p ≡ [])

-- ---- judgements on all sessions so far, which a wire may tell

-- a claim on the sessions for the module of a canonical text, where it is told
pub data Judgement : Type 1 where
  Untold : Judgement
  Told : (claim : List ℕ → Type 0) → Judgement

-- the claim is told
abbrev pub IsTold : Judgement → Type 0
IsTold Untold = ⊥
IsTold (Told claim) = Unit {0}

-- the claim is told and holds for the module of this text
abbrev pub IsYes : Judgement → List ℕ → Type 0
IsYes Untold text = ⊥
IsYes (Told claim) text = claim text

-- what is told stays told
abbrev pub StaysTold : Judgement → Judgement → Type 0
StaysTold Untold new = Unit {0}
StaysTold (Told claim) new = IsTold new

-- what is told stays told, and holds of the same modules
abbrev pub StaysSame : Judgement → Judgement → Type 0
StaysSame Untold new = Unit {0}
StaysSame (Told claim) new = IsTold new × ((text : List ℕ) → IsYes new text ↔ claim text)

-- what is told stays told, and never turns from no to yes
abbrev pub NeverMends : Judgement → Judgement → Type 0
NeverMends Untold new = Unit {0}
NeverMends (Told claim) new = IsTold new × ((text : List ℕ) → IsYes new text → claim text)

-- all is told, and a take on these bytes sent and got, after which those were got, broke the order
-- of the text's module
abbrev pub BreaksOrder : (List ℕ → List ℕ → List ℕ → List ℕ → Type 0)
    → Option (List ℕ) → Option (List ℕ) → Option (List ℕ) → List ℕ → Type 0
BreaksOrder breaks sent got after text =
    IsSomeAnd sent (λ s. IsSomeAnd got (λ g. IsSomeAnd after (λ h. breaks text s g h)))

-- what is told stays told; yes only where it was yes before and this take broke no order
abbrev pub KeepsOrder : Judgement → Judgement → (List ℕ → Type 0) → Type 0
KeepsOrder Untold new broke = Unit {0}
KeepsOrder (Told claim) new broke =
    IsTold new × ((text : List ℕ) → IsYes new text → claim text × (broke text → ⊥))
