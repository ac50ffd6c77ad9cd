-- Messages are read one behind the other.
use Rattle.std.proofs.Common.{◌≡◌, ℕ, ◌+◌, ◌≤◌, List, [], ◌∷◌, ◌++◌, length, take, drop, refl, sym, ap, ◌∙◌, arith, length-append, append_assoc, subst, Option, Some, None}
use Rattle.std.proofs.lemmas.List.{length-take-le, take-append-drop, take_all, append-nil}
use Rattle.std.proofs.lemmas.Bool.{cases_lt}
use Rattle.std.proofs.Common.{inl, inr}
use Rattle.no_wire.specs.declared.kind.Kind.{Kind}
use Rattle.no_wire.specs.declared.msg.Msg.{Msg}
use Rattle.no_wire.specs.declared.decoder.FeedAnswer.TheVariants as answer
use Rattle.no_wire.specs.declared.fault.WireFault.{WireFault}
use Rattle.no_wire.specs.declared.scan.Seen.TheVariants as seen
use Rattle.no_wire.specs.declared.scan.Tail.{Tail}
use Rattle.no_wire.specs.declared.scan.Tail.TheVariants as tail
use Rattle.no_wire.specs.Fed.{IsAbsorbed, IsFedWhole, IsFilled, IsMissing, IsRead, IsReady}
use Rattle.no_wire.specs.Fronts.{IsOpen, IsTail, IsWhole, StaysOpen, length_in}
use Rattle.no_wire.specs.Messages.{AreBytes, AreMessages, IsMessage, Spells, frame}
use Rattle.no_wire.specs.Streams.{Decoding, stream_of}
use Rattle.no_wire.proofs.Faults.{wrong_is_fault}
use Rattle.no_wire.proofs.Growing.{open_is_partial}
use Rattle.no_wire.proofs.Seeing.{covers_front, covers_less, same_length}

-- what was moved makes a frame whole, and no more
pub filled_whole : (before front after : List ℕ) (n len : ℕ) (k : Kind) → after ≡ before ++ front → length front ≤ n → IsMissing before n → 9 ≤ len → len ≤ length after → IsWhole k (take len after) → IsWhole k after
filled_whole before front after n len k e le missing long within w =
    let l : length after ≡ length before + length front = ap length e ∙ length-append before front in
    let t = length-take-le len after within in
    let n1 = same_length after (take len after) (covers_front len after within) (omega (arith, t)) in
    let w4 = w.len in
    elim (cases_lt (length before) 4) [
      | inl early ↦ let m = missing.early early in absurd (omega (arith, l, le, m, long, within))
      | inr late ↦
          let m = missing.late (omega arith) in
          let n2 : length_in after ≡ length_in before = ap length_in e ∙ same_length (before ++ front) before (covers_less before front) (omega arith) in
          let all : length after ≤ len = omega (arith, l, le, m, n1, n2, t, w4) in
          subst (IsWhole k) (take_all len after all) w
    ]

pub stream_add : (out : List Msg) (m : Msg) (rest : List ℕ) → stream_of (out ++ m ∷ []) rest ≡ stream_of out (frame m ++ rest)
stream_add [] m rest = ap (λ (f : List ℕ). f ++ rest) (append-nil (frame m))
stream_add (o ∷ out) m rest =
    append_assoc (frame o) _ rest ∙ ap (λ (s : List ℕ). frame o ++ s) (stream_add out m rest) ∙ sym (append_assoc (frame o) _ (frame m ++ rest))

pub messages_add : (out : List Msg) (m : Msg) → AreMessages out → IsMessage m → AreMessages (out ++ m ∷ [])
messages_add [] m all one = (one, tt)
messages_add (o ∷ out) m all one = (all.0, messages_add out m all.1 one)

-- a frame at the front becomes a message
pub stream_on : (out : List Msg) (m : Msg) (rest whole : List ℕ) (len : ℕ) → Spells (take len rest) m → stream_of out rest ≡ whole → stream_of (out ++ m ∷ []) (drop len rest) ≡ whole
stream_on out m rest whole len s e =
    stream_add out m (drop len rest) ∙ ap (λ (f : List ℕ). stream_of out (f ++ drop len rest)) s.spelled ∙ ap (stream_of out) (take-append-drop len rest) ∙ e

-- bytes that moved over stand where they stood
pub moved_on : (before front behind left after whole : List ℕ) → after ≡ before ++ front → left ≡ front ++ behind → before ++ left ≡ whole → after ++ behind ≡ whole
moved_on before front behind left after whole e f g = rw e (append_assoc before front behind ∙ ap (λ (t : List ℕ). before ++ t) (sym f) ∙ g)

-- ---- a piece behind a rest

pub filled_absorbed : (t : Tail) (old piece rest left : List ℕ) → rest ++ left ≡ old ++ piece → IsFilled (seen.Not t) rest left → IsAbsorbed old piece [] rest t
filled_absorbed (tail.Open until) old piece rest left e f =
    (sym (append-nil rest) ∙ ap (λ (l : List ℕ). rest ++ l) (sym f.0) ∙ e, tt, f.1, f.2)
filled_absorbed (tail.Broken fault) old piece rest left e f = (f, tt, (left, e))

pub tail_absorbed : (t : Tail) (old piece kept : List ℕ) (out : List Msg) → stream_of out kept ≡ old ++ piece → AreMessages out → IsTail t kept → IsAbsorbed old piece out kept t
tail_absorbed (tail.Open until) old piece kept out e all t = (e, all, t.0, t.1)
tail_absorbed (tail.Broken fault) old piece kept out e all t = (t, all, ([], ap (stream_of out) (append-nil kept) ∙ e))

pub read_absorbed : (t : Tail) (m : Msg) (old piece front left kept : List ℕ) (out : List Msg) → Spells front m → front ++ left ≡ old ++ piece → IsRead (m ∷ []) left out kept t → IsAbsorbed old piece out kept t
read_absorbed t m old piece front left kept out s e r =
    let stream : stream_of out kept ≡ old ++ piece = r.stream ∙ ap (λ (f : List ℕ). f ++ left) (append-nil (frame m) ∙ s.spelled) ∙ e in
    let messages = r.messages (s.message, tt) in
    tail_absorbed t old piece kept out stream messages r.tail

-- ---- what a decoder answers

pub frames_fed : (old : Decoding) (piece rest : List ℕ) (out : List Msg) (f : Option WireFault) → old.fault ≡ None → f ≡ old.fault → AreMessages out → AreBytes rest → IsOpen rest → stream_of out rest ≡ old.rest ++ piece
    → IsFedWhole old piece (answer.Frames out) (record { rest = rest; fault = f })
frames_fed old piece rest out f e g all fits o stream = (g ∙ e, all, open_is_partial rest fits o, stream)

pub fault_fed : (old : Decoding) (piece rest : List ℕ) (out : List Msg) (f : WireFault) → AreBytes rest → IsAbsorbed old.rest piece out rest (tail.Broken f)
    → IsFedWhole old piece (answer.Fault out f) (record { rest = rest; fault = Some f })
fault_fed old piece rest out f fits a = (refl, a.1, wrong_is_fault f rest fits a.0, a.2)

-- a decoder as it is seen
abbrev pub kept_as : List ℕ → Option WireFault → Decoding
kept_as rest f = record { rest = rest; fault = f }

-- what a decoder without a fault waits for
pub ready_open : (f : Option WireFault) (until : ℕ) (rest : List ℕ) → f ≡ None → IsReady f until rest → StaysOpen until rest
ready_open None until rest e r = r.1
ready_open (Some f) until rest e r = absurd cc
