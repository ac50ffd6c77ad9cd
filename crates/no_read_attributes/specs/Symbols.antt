-- Names of globals and functions where they stand.
use Rattle.std.specs.Prelude.{ℕ, List, drop, Result, Ok, Err, if◌then◌else◌}
use Rattle.no_lex.specs.declared.token.Token.{Token}
use Rattle.no_lex.specs.declared.token.TokenKind.TheVariants.{Global}
use Rattle.no_read_rules.specs.declared.fault.Flaw.{Flaw}
use Rattle.no_read_rules.specs.declared.fault.Flaw.TheVariants.{Syntax}
use Rattle.no_read_rules.specs.Spelled.{spelled, is_kind}
use Rattle.no_read_rules.specs.Unescaped.{name_of}

-- the name behind the sign of a global or a function
abbrev pub symbol_name : List ℕ → Token → Result (List ℕ) Flaw
symbol_name text token = if is_kind Global token then Ok (name_of (drop 1 (spelled text token))) else Err Syntax
