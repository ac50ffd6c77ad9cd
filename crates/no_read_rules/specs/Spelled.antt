-- The bytes of a token, and tests of tokens by them.
use Rattle.std.specs.Prelude.{ℕ, ◌-◌, ◌==◌, Bool, ◌&&◌, List, take, drop, bytes_eq, Result, Ok, Err, if◌then◌else◌}
use Rattle.no_lex.specs.declared.token.Token.{Token}
use Rattle.no_lex.specs.declared.token.TokenKind.{TokenKind}
use Rattle.no_lex.specs.declared.token.TokenKind.TheVariants.{Word, Integer, Global, Local, Group, Meta, Quoted, CMark, Sign, Label}
use Rattle.no_read_rules.specs.declared.fault.Flaw.{Flaw}
use Rattle.no_read_rules.specs.declared.fault.Flaw.TheVariants.{Syntax}
use Rattle.no_read_rules.specs.Rules.{Rule, plain}

-- the bytes of a token
abbrev pub spelled : List ℕ → Token → List ℕ
spelled text token = take (token.end - token.start) (drop token.start text)

-- the place of a kind among the kinds
abbrev pub kind_number : TokenKind → ℕ
kind_number Word = 0
kind_number Integer = 1
kind_number Global = 2
kind_number Local = 3
kind_number Group = 4
kind_number Meta = 5
kind_number Quoted = 6
kind_number CMark = 7
kind_number Sign = 8
kind_number Label = 9

-- whether a token is of this kind
abbrev pub is_kind : TokenKind → Token → Bool
is_kind kind token = kind_number token.kind == kind_number kind

-- whether a token is this word
abbrev pub is_word : List ℕ → List ℕ → Token → Bool
is_word text word token = is_kind Word token && bytes_eq (spelled text token) word

-- whether a token is this sign
abbrev pub is_sign : List ℕ → List ℕ → Token → Bool
is_sign text sign token = is_kind Sign token && bytes_eq (spelled text token) sign

-- a fault of syntax, unless this holds
abbrev pub only_where : Bool → Result (Unit {0}) Flaw
only_where holds = if holds then Ok tt else Err Syntax

-- one word
abbrev pub a_word : {S : Type 0} → List ℕ → List ℕ → Rule S (Unit {0})
a_word text word = plain (λ token. only_where (is_word text word token))

-- one sign
abbrev pub a_sign : {S : Type 0} → List ℕ → List ℕ → Rule S (Unit {0})
a_sign text sign = plain (λ token. only_where (is_sign text sign token))
