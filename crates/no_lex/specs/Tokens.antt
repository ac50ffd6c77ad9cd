-- How a text parts into tokens: a statement on whole lists.
use Rattle.std.specs.Prelude.{◌≡◌, ℕ, ◌+◌, ◌<◌, ◌≤◌, Bool, true, false, ◌&&◌, ◌||◌, List, [], ◌∷◌, ◌==◌, ◌⊎◌, length, take, drop, bytes_eq, codes, Some, None, Result, Ok, Err, if◌then◌else◌}
use Rattle.no_lex.specs.declared.token.Token.{Token}
use Rattle.no_lex.specs.declared.token.TokenKind.{TokenKind}
use Rattle.no_lex.specs.declared.token.TokenKind.TheVariants.{Word, Integer, Quoted, CMark, Label}
use Rattle.no_lex.specs.declared.fault.LexFault.{LexFault}
use Rattle.no_lex.specs.declared.fault.LexError.{LexError}
use Rattle.no_lex.specs.declared.fault.LexError.TheVariants.{NoMemory, Fault}
use Rattle.no_lex.specs.declared.fault.LexKind.TheVariants.{BadByte, OpenString, TooLong}
use Rattle.no_lex.specs.Spelling.{is_blank, kind_of}

-- ---- what stands between tokens

-- how many bytes at the front are blanks and comments; a comment begins at a semicolon, and ends at a line feed or with the text
abbrev pub skipped : Bool → List ℕ → ℕ
skipped inside [] = 0
skipped false (b ∷ bytes) = if is_blank b then 1 + skipped false bytes else (if b == 59 then 1 + skipped true bytes else 0)
skipped true (b ∷ bytes) = if b == 10 then 1 + skipped false bytes else 1 + skipped true bytes

-- the first place from this one on where neither a blank nor a comment stands
abbrev pub next_place : List ℕ → ℕ → ℕ
next_place text at = at + skipped false (drop at text)

-- ---- one token

-- the first so many bytes are a token of this kind by themselves, and no more of them are one
pub record IsLongest (bytes : List ℕ) (kind : TokenKind) (size : ℕ) : Type 0 where
  pub within : size ≤ length bytes
  pub spells : kind_of (take size bytes) ≡ Some kind
  pub longest : (more : ℕ) → size < more → more ≤ length bytes → kind_of (take more bytes) ≡ None

-- no token begins here
abbrev pub NoToken : List ℕ → Type 0
NoToken bytes = (size : ℕ) → size ≤ length bytes → kind_of (take size bytes) ≡ None

-- whether this byte comes first
abbrev pub begins_with : ℕ → List ℕ → Bool
begins_with b [] = false
begins_with b (first ∷ bytes) = first == b

-- a word, an integer or a string is a label where a colon follows
abbrev pub may_label : TokenKind → Bool
may_label Word = true
may_label Integer = true
may_label Quoted = true
may_label _ = false

-- the token of this kind and size at a place, as what follows settles it: a label takes its colon, and a `c` before a quote is a mark
abbrev pub settled : ℕ → TokenKind → ℕ → List ℕ → Token
settled start kind size bytes =
    if may_label kind && begins_with 58 (drop size bytes) then record { kind = Label; start = start; end = start + size + 1 }
    else (if bytes_eq (take size bytes) (codes "c") && begins_with 34 (drop size bytes) then record { kind = CMark; start = start; end = start + size }
    else record { kind = kind; start = start; end = start + size })

-- the next token from a place on: the longest that begins where blanks and comments end
pub record IsNext (text : List ℕ) (at : ℕ) (token : Token) : Type 0 where
  pub kind : TokenKind
  pub size : ℕ
  pub some : 0 < size
  pub longest : IsLongest (drop (next_place text at) text) kind size
  pub settles : token ≡ settled (next_place text at) kind size (drop (next_place text at) text)

-- ---- a whole text

-- from this place on the text has these tokens, the last of which ends at the other place
abbrev pub Follow : List ℕ → ℕ → List Token → ℕ → Type 0
Follow text at [] end = at ≡ end
Follow text at (token ∷ tokens) end = IsNext text at token × Follow text token.end tokens end

-- a token stands behind this place and before that, and has a byte
pub record IsSpan (least most : ℕ) (token : Token) : Type 0 where
  pub begins : least ≤ token.start
  pub some : token.start < token.end
  pub ends : token.end ≤ most

-- tokens stand behind this place and before that, each behind the one before it
abbrev pub AreSpans : ℕ → ℕ → List Token → Type 0
AreSpans least most [] = Unit {0}
AreSpans least most (token ∷ tokens) = IsSpan least most token × AreSpans token.end most tokens

-- the text parts into these tokens
abbrev pub Parts : List ℕ → List Token → Type 0
Parts text tokens = (end : ℕ) × Follow text 0 tokens end × (length text ≤ next_place text end)

-- the fault where no token begins: an open string at its quote, which may stand behind the sign of a name, or else a bad byte
abbrev pub fault_at : ℕ → List ℕ → LexFault
fault_at place [] = record { kind = BadByte; at = place }
fault_at place (b ∷ bytes) =
    if b == 34 then record { kind = OpenString; at = place }
    else (if (b == 64 || b == 37) && begins_with 34 bytes then record { kind = OpenString; at = place + 1 }
    else record { kind = BadByte; at = place })

-- the text has tokens up to a place where something is left, but no token begins
pub record IsStuck (text : List ℕ) (fault : LexFault) : Type 0 where
  pub tokens : List Token
  pub end : ℕ
  pub follow : Follow text 0 tokens end
  pub left : next_place text end < length text
  pub none : NoToken (drop (next_place text end) text)
  pub is : fault ≡ fault_at (next_place text end) (drop (next_place text end) text)

-- what the text is under a limit on its length: its tokens, or its fault
abbrev pub Lexes : ℕ → List ℕ → Result (List Token) LexFault → Type 0
Lexes limit text (Ok tokens) = (length text ≤ limit) × Parts text tokens
Lexes limit text (Err fault) = ((limit < length text) × (fault ≡ record { kind = TooLong; at = limit })) ⊎ ((length text ≤ limit) × IsStuck text fault)

-- what is said of an answer, unless memory ran out
abbrev pub Answers : Result (List Token) LexError → (Result (List Token) LexFault → Type 0) → Type 0
Answers (Ok tokens) P = P (Ok tokens)
Answers (Err (Fault fault)) P = P (Err fault)
Answers (Err NoMemory) P = Unit {0}
