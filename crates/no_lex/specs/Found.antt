-- The token at the front of some bytes, found from the front: what the code does, beside what a token is.
use Rattle.std.specs.Prelude.{◌≡◌, ℕ, ◌+◌, ◌<◌, ◌≤◌, List, [], ◌∷◌, ◌==◌, length, take, drop, Option, Some, None, unwrap_or, if◌then◌else◌}
use Rattle.std.specs.Option.{option_map}
use Rattle.std.specs.List.{prefix_len}
use Rattle.no_lex.specs.declared.lexer.Seen.{Seen}
use Rattle.no_lex.specs.declared.lexer.Seen.TheVariants.{Found, End, Stuck}
use Rattle.no_lex.specs.declared.spelling.First.{First}
use Rattle.no_lex.specs.declared.spelling.First.TheVariants.{Name, Sigil, GroupMark, MetaMark, Quote, OneSign, Nothing}
use Rattle.no_lex.specs.declared.token.TokenKind.{TokenKind}
use Rattle.no_lex.specs.declared.token.TokenKind.TheVariants.{Group, Meta, Quoted, Sign}
use Rattle.no_lex.specs.Spelling.{is_name_byte, name_kind, first_of}
use Rattle.no_lex.specs.Tokens.{next_place, IsLongest, NoToken, IsNext, fault_at}

-- how many bytes a string takes behind its first quote, its last one counted
abbrev pub quote_len : List ℕ → Option ℕ
quote_len [] = None
quote_len (b ∷ bytes) = if b == 34 then Some 1 else option_map (λ n. n + 1) (quote_len bytes)

-- the length of the string that stands here
abbrev pub string_len : List ℕ → Option ℕ
string_len [] = None
string_len (b ∷ bytes) = if b == 34 then option_map (λ n. n + 1) (quote_len bytes) else None

-- the length of the name or string that stands here
abbrev pub name_or_string : List ℕ → Option ℕ
name_or_string bytes = if prefix_len is_name_byte bytes == 0 then string_len bytes else Some (prefix_len is_name_byte bytes)

-- a token of this kind, with its sign before the name
abbrev pub sized : TokenKind → Option ℕ → Option (TokenKind × ℕ)
sized kind None = None
sized kind (Some n) = Some (kind, n + 1)

-- the length of the name that stands here, without quotes and of at least one character
abbrev pub some_name : List ℕ → Option ℕ
some_name bytes = if prefix_len is_name_byte bytes == 0 then None else Some (prefix_len is_name_byte bytes)

-- name characters at the front, as many as there are
abbrev pub word_at : List ℕ → ℕ → TokenKind × ℕ
word_at bytes n = (name_kind (take (n + 1) bytes), n + 1)

-- the longest token that begins with this byte, by what the byte may begin, and how many bytes it has
abbrev pub found_behind : First → ℕ → List ℕ → Option (TokenKind × ℕ)
found_behind Name b bytes = Some (word_at (b ∷ bytes) (prefix_len is_name_byte bytes))
found_behind (Sigil kind) b bytes = sized kind (name_or_string bytes)
found_behind GroupMark b bytes = sized Group (some_name bytes)
found_behind MetaMark b bytes = sized Meta (Some (unwrap_or (name_or_string bytes) 0))
found_behind Quote b bytes = sized Quoted (quote_len bytes)
found_behind OneSign b bytes = Some (Sign, 1)
found_behind Nothing b bytes = None

-- the longest token at the front, with its kind and how many bytes it has, or none where none begins
abbrev pub found : List ℕ → Option (TokenKind × ℕ)
found [] = None
found (b ∷ bytes) = found_behind (first_of b) b bytes

-- what was found is the longest token at the front, or none begins there
abbrev pub IsFound : List ℕ → Option (TokenKind × ℕ) → Type 0
IsFound bytes (Some x) = (0 < x.1) × IsLongest bytes x.0 x.1
IsFound bytes None = NoToken bytes

-- what one look for the next token gives
abbrev pub Looks : List ℕ → ℕ → Seen → Type 0
Looks text at (Found token) = IsNext text at token
Looks text at End = length text ≤ next_place text at
Looks text at (Stuck fault) = (next_place text at < length text) × NoToken (drop (next_place text at) text) × (fault ≡ fault_at (next_place text at) (drop (next_place text at) text))
