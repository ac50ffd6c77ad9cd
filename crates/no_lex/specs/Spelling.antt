-- What a list of bytes is as one token, by itself.
use Rattle.std.specs.Prelude.{ℕ, Bool, false, ◌&&◌, ◌||◌, List, [], ◌∷◌, ◌==◌, nat_le, bytes_eq, codes, Option, Some, None, if◌then◌else◌}
use Rattle.std.specs.List.{list_all}
use Rattle.no_lex.specs.declared.spelling.First.{First}
use Rattle.no_lex.specs.declared.spelling.First.TheVariants.{Name, Sigil, GroupMark, MetaMark, Quote, OneSign, Nothing}
use Rattle.no_lex.specs.declared.token.TokenKind.{TokenKind}
use Rattle.no_lex.specs.declared.token.TokenKind.TheVariants.{Word, Integer, Global, Local, Group, Meta, Quoted, Sign}

-- ---- bytes

-- a decimal digit
abbrev pub is_digit : ℕ → Bool
is_digit b = nat_le 48 b && nat_le b 57

-- a letter of ASCII
abbrev pub is_letter : ℕ → Bool
is_letter b = (nat_le 97 b && nat_le b 122) || (nat_le 65 b && nat_le b 90)

-- a name character: a letter, a digit, or one of - $ . _
abbrev pub is_name_byte : ℕ → Bool
is_name_byte b = is_letter b || is_digit b || b == 45 || b == 36 || b == 46 || b == 95

-- one of the signs = , ( ) { } [ ] < > * :
abbrev pub is_sign : ℕ → Bool
is_sign b = b == 61 || b == 44 || b == 40 || b == 41 || b == 123 || b == 125 || b == 91 || b == 93 || b == 60 || b == 62 || b == 42 || b == 58

-- a space, tab, carriage return or line feed
abbrev pub is_blank : ℕ → Bool
is_blank b = b == 32 || b == 9 || b == 13 || b == 10

-- ---- whole spellings

-- one or more digits
abbrev pub is_digits : List ℕ → Bool
is_digits [] = false
is_digits (b ∷ bytes) = list_all is_digit (b ∷ bytes)

-- one or more digits, behind an optional minus
abbrev pub is_integer : List ℕ → Bool
is_integer [] = false
is_integer (b ∷ bytes) = if b == 45 then is_digits bytes else is_digits (b ∷ bytes)

-- one or more name characters
abbrev pub is_name : List ℕ → Bool
is_name [] = false
is_name (b ∷ bytes) = list_all is_name_byte (b ∷ bytes)

-- a quote at the end, and none before
abbrev pub closes : List ℕ → Bool
closes [] = false
closes (b ∷ bytes) = if b == 34 then bytes_eq bytes [] else closes bytes

-- a string in double quotes, which has no quote inside
abbrev pub is_string : List ℕ → Bool
is_string [] = false
is_string (b ∷ bytes) = b == 34 && closes bytes

-- what name characters are: an integer, the sign `...`, or a word
abbrev pub name_kind : List ℕ → TokenKind
name_kind bytes = if is_integer bytes then Integer else (if bytes_eq bytes (codes "...") then Sign else Word)

-- this kind where the test holds
abbrev pub only_if : Bool → TokenKind → Option TokenKind
only_if holds kind = if holds then Some kind else None

-- ---- a whole token

-- what a byte begins
abbrev pub first_of : ℕ → First
first_of b =
    if is_name_byte b then Name
    else (if b == 64 then Sigil Global
    else (if b == 37 then Sigil Local
    else (if b == 35 then GroupMark
    else (if b == 33 then MetaMark
    else (if b == 34 then Quote
    else (if is_sign b then OneSign else Nothing))))))

-- what a byte and those behind it are as one token
abbrev pub kind_behind : First → ℕ → List ℕ → Option TokenKind
kind_behind Name b bytes = only_if (list_all is_name_byte bytes) (name_kind (b ∷ bytes))
kind_behind (Sigil kind) b bytes = only_if (is_name bytes || is_string bytes) kind
kind_behind GroupMark b bytes = only_if (is_name bytes) Group
kind_behind MetaMark b bytes = only_if (list_all is_name_byte bytes || is_string bytes) Meta
kind_behind Quote b bytes = only_if (closes bytes) Quoted
kind_behind OneSign b bytes = only_if (bytes_eq bytes []) Sign
kind_behind Nothing b bytes = None

-- what bytes are as one token, if they are one
abbrev pub kind_of : List ℕ → Option TokenKind
kind_of [] = None
kind_of (b ∷ bytes) = kind_behind (first_of b) b bytes
