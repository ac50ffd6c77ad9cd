-- What it is that printed modules read back.
use Rattle.std.specs.Prelude.{ℕ, ◌≤◌, List, length, Ok}
use Rattle.no_ir.specs.declared.function.Module.{Module}
use Rattle.no_ir.specs.declared.function.Role.{Role}
use Rattle.no_ir.specs.declared.function.Role.TheVariants.{Source, Part}
use Rattle.no_lex.specs.declared.token.Token.{Token}
use Rattle.no_lex.specs.Tokens.{Parts, Lexes}
use Rattle.no_print.specs.Modules.{module_text}
use Rattle.no_read.specs.Reading.{IsModule}
use Rattle.no_round_trip.specs.Spells.{AreBytes}

-- the most bytes of a text in each role: 16 MiB of a source, 256 MiB of a part
abbrev pub text_limit : Role → ℕ
text_limit Source = 16777216
text_limit Part = 268435456

-- a text, within its role's limit, has tokens that read to the module
pub record ReadsTo (text : List ℕ) (role : Role) (m : Module) : Type 0 where
  pub tokens : List Token
  pub lexes : Lexes (text_limit role) text (Ok tokens)
  pub reads : IsModule text role tokens m

-- if tokens of a text of bytes read to a module, the text that the module is printed as reads to it in the same role, where it is within the limit
abbrev pub PrintedReadBack : Type 0
PrintedReadBack =
    (text : List ℕ) (role : Role) (tokens : List Token) (m : Module)
    → AreBytes text → Parts text tokens → IsModule text role tokens m → length (module_text m) ≤ text_limit role → ReadsTo (module_text m) role m
