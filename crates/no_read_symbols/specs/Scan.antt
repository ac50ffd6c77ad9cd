-- The names that a text defines, by one look at each token.
use Rattle.std.specs.Prelude.{ℕ, ◌+◌, ◌-◌, Bool, true, false, ◌&&◌, ◌||◌, List, [], ◌∷◌, ◌==◌, nat_lt, drop, bytes_eq, codes, if◌then◌else◌}
use Rattle.no_lex.specs.declared.token.Token.{Token}
use Rattle.no_lex.specs.declared.token.TokenKind.{TokenKind}
use Rattle.no_lex.specs.declared.token.TokenKind.TheVariants.{Global, Meta, Sign}
use Rattle.no_ir.specs.Naming.{with_name}
use Rattle.no_read_rules.specs.Rules.{next_is}
use Rattle.no_read_rules.specs.Spelled.{spelled, is_kind, is_word, is_sign}
use Rattle.no_read_rules.specs.Unescaped.{name_of}
use Rattle.no_read_symbols.specs.declared.standing.Bracket.{Bracket}
use Rattle.no_read_symbols.specs.declared.standing.Bracket.TheVariants.{OpenRound, CloseRound, OpenBrace, CloseBrace, OpenSquare, CloseSquare, Mark, Other}
use Rattle.no_read_symbols.specs.declared.standing.Standing.{Standing}
use Rattle.no_read_symbols.specs.declared.symbols.Symbols.{Symbols}

-- ---- brackets

-- the bracket that a sign is
abbrev pub sign_bracket : List ℕ → Bracket
sign_bracket sign =
    if bytes_eq sign (codes "(") then OpenRound
    else (if bytes_eq sign (codes ")") then CloseRound
    else (if bytes_eq sign (codes "{") then OpenBrace
    else (if bytes_eq sign (codes "}") then CloseBrace
    else (if bytes_eq sign (codes "[") then OpenSquare
    else (if bytes_eq sign (codes "]") then CloseSquare
    else Other)))))

-- the bracket that a token of this kind and spelling is, or a mark of metadata that stands alone
abbrev pub bracket_by : TokenKind → List ℕ → Bracket
bracket_by Sign spelling = sign_bracket spelling
bracket_by Meta spelling = if bytes_eq spelling (codes "!") then Mark else Other
bracket_by _ spelling = Other

-- the bracket that a token is, or a mark of metadata that stands alone
abbrev pub bracket_of : List ℕ → Token → Bracket
bracket_of text token = bracket_by token.kind (spelled text token)

-- inside parentheses these alone count
abbrev pub rounds_after : Bracket → ℕ → ℕ
rounds_after OpenRound n = n + 1
rounds_after CloseRound n = n - 1
rounds_after _ n = n

-- inside the braces of metadata these alone count
abbrev pub braces_after : Bracket → ℕ → ℕ
braces_after OpenBrace n = n + 1
braces_after CloseBrace n = n - 1
braces_after _ n = n

-- elsewhere a brace behind a mark opens metadata, and other braces and square brackets nest
abbrev pub outside_after : Bracket → Standing → Standing
outside_after OpenRound s = record s { rounds = 1; marked = false }
outside_after OpenBrace s = if s.marked then record s { braces = 1; marked = false } else record s { depth = s.depth + 1; marked = false }
outside_after OpenSquare s = record s { depth = s.depth + 1; marked = false }
outside_after CloseBrace s = record s { depth = s.depth - 1; marked = false }
outside_after CloseSquare s = record s { depth = s.depth - 1; marked = false }
outside_after Mark s = record s { marked = true }
outside_after _ s = record s { marked = false }

-- where a scan stands behind a bracket
abbrev pub moved : Bracket → Standing → Standing
moved bracket s =
    if nat_lt 0 s.rounds then record s { rounds = rounds_after bracket s.rounds }
    else (if nat_lt 0 s.braces then record s { braces = braces_after bracket s.braces }
    else outside_after bracket s)

-- ---- names

-- whether no bracket is open
abbrev pub is_outer : Standing → Bool
is_outer s = s.rounds == 0 && (s.braces == 0 && s.depth == 0)

-- whether a token is the word `define` or `declare`
abbrev pub begins_function : List ℕ → Token → Bool
begins_function text token = is_word text (codes "define") token || is_word text (codes "declare") token

-- a function's name is awaited from `define` or `declare` on, until it comes
abbrev pub awaited : List ℕ → Token → Bool → Bool
awaited text token awaits = if is_kind Global token then false else (if begins_function text token then true else awaits)

-- whether a function's name is awaited behind a token; inside brackets that does not change
abbrev pub awaits_after : List ℕ → Token → Standing → Bool
awaits_after text token s = if is_outer s then awaited text token s.awaits else s.awaits

-- where a scan stands behind a token
abbrev pub stands_after : List ℕ → Token → Standing → Standing
stands_after text token s = record (moved (bracket_of text token) s) { awaits = awaits_after text token s }

-- outside all brackets a name that is awaited is a function's, and one before an equals sign is a global's
abbrev pub with_symbol : Bool → Bool → List ℕ → Symbols → Symbols
with_symbol true equals name y = record y { functions = with_name y.functions name }
with_symbol false true name y = record y { globals = with_name y.globals name }
with_symbol false false name y = y

-- the names so far, with the one that this token defines, where it defines one
abbrev pub named_after : List ℕ → Token → List Token → Standing → Symbols → Symbols
named_after text token tokens s y =
    if is_outer s && is_kind Global token then with_symbol s.awaits (next_is (is_sign text (codes "=")) tokens) (name_of (drop 1 (spelled text token))) y else y

-- the names so far, with those that these tokens define
abbrev pub symbols_from : List ℕ → List Token → Standing → Symbols → Symbols
symbols_from text [] s y = y
symbols_from text (token ∷ tokens) s y = symbols_from text tokens (stands_after text token s) (named_after text token tokens s y)

-- where a scan stands before the first token
abbrev pub at_start : Standing
at_start = record { rounds = 0; braces = 0; depth = 0; marked = false; awaits = false }

-- the names of the globals and of the functions that a text defines or declares, each in the order of first appearance
abbrev pub symbols_in : List ℕ → List Token → Symbols
symbols_in text tokens = symbols_from text tokens at_start (record { globals = []; functions = [] })
