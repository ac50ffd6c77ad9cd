-- The program that a text means, or what is wrong with the text (docs/LANGUAGE.md).
use Rattle.std.specs.Prelude.{◌≡◌, ℕ, List, Result, Ok, Err}
use Rattle.no_ir.specs.declared.function.Module.{Module}
use Rattle.no_ir.specs.declared.function.Role.TheVariants.{Source}
use Rattle.no_lex.specs.declared.fault.LexError.{LexError}
use Rattle.no_lex.specs.declared.fault.LexError.TheVariants as lexing
use Rattle.no_lex.specs.declared.fault.LexFault.{LexFault}
use Rattle.no_lex.specs.declared.token.Token.{Token}
use Rattle.no_lex.specs.Tokens.{Lexes}
use Rattle.no_read.specs.declared.fault.ReadError.{ReadError}
use Rattle.no_read.specs.declared.fault.ReadError.TheVariants as reading
use Rattle.no_read.specs.declared.fault.ReadFault.{ReadFault}
use Rattle.no_read.specs.Reading.{Reads}
use Rattle.no_semantics.specs.Accepted.{Accepted}
use Rattle.no_verify.specs.Verdict.{Accepts, Faulty, IsVerdict, Unstated, Verdict}
use Rattle.no_verify.specs.declared.fault.VerifyError.{VerifyError}
use Rattle.no_verify.specs.declared.fault.VerifyError.TheVariants as verifying
use Rattle.no_app.specs.declared.loading.Refused.{Refused}
use Rattle.no_app.specs.declared.loading.Refused.TheVariants as refused
use Rattle.no_app.specs.declared.outcome.ModuleFault.{ModuleFault}
use Rattle.no_app.specs.declared.outcome.ModuleFault.TheVariants as modules

-- ---- a module

-- by the verdict, which is one of these
abbrev pub MeansVerdict : Verdict → Result Accepted ModuleFault → Type 0
MeansVerdict (Accepts a) found = found ≡ Ok a
MeansVerdict (Unstated fault) found = found ≡ Err (modules.Layout fault)
MeansVerdict (Faulty fault) found = found ≡ Err (modules.Verify fault)

-- what a module means: the verifier judges it as a source
pub record MeansModule (m : Module) (found : Result Accepted ModuleFault) : Type 0 where
  pub verdict : Verdict
  pub judged_so : IsVerdict m Source verdict
  pub means : MeansVerdict verdict found

-- ---- a text

-- what a text means, by the module or the fault that its tokens read to
abbrev pub MeansRead : Result Module ReadFault → Result Accepted ModuleFault → Type 0
MeansRead (Err fault) found = found ≡ Err (modules.Read fault)
MeansRead (Ok m) found = MeansModule m found

-- the greatest length of a text, in bytes
abbrev pub text_limit : ℕ
text_limit = 16777216

-- its tokens read to a module, or to the first fault
abbrev pub MeansTokens : List ℕ → Result (List Token) LexFault → Result Accepted ModuleFault → Type 0
MeansTokens text (Err fault) found = found ≡ Err (modules.Lex fault)
MeansTokens text (Ok tokens) found = (m : Result Module ReadFault) × Reads text Source tokens m × MeansRead m found

-- what a text means: it parts into tokens, these read to a module, and this is accepted; or the first fault on this way
pub record Means (text : List ℕ) (found : Result Accepted ModuleFault) : Type 0 where
  pub lexed : Result (List Token) LexFault
  pub lexes : Lexes text_limit text lexed
  pub means : MeansTokens text lexed found

-- what is said of a loaded program or a fault, unless memory ran out
abbrev pub Loads : Result Accepted Refused → (Result Accepted ModuleFault → Type 0) → Type 0
Loads (Ok a) P = P (Ok a)
Loads (Err (refused.Bad fault)) P = P (Err fault)
Loads (Err refused.NoMemory) P = Unit {0}

-- why a text gives no program, by the error of the lexer
abbrev pub unlexed : LexError → Refused
unlexed lexing.NoMemory = refused.NoMemory
unlexed (lexing.Fault fault) = refused.Bad (modules.Lex fault)

-- why a text gives no program, by the error of the reader
abbrev pub unread : ReadError → Refused
unread reading.NoMemory = refused.NoMemory
unread (reading.Fault fault) = refused.Bad (modules.Read fault)

-- why a text gives no program, by the error of the verifier
abbrev pub unaccepted : VerifyError → Refused
unaccepted verifying.NoMemory = refused.NoMemory
unaccepted (verifying.Layout fault) = refused.Bad (modules.Layout fault)
unaccepted (verifying.Fault fault) = refused.Bad (modules.Verify fault)
