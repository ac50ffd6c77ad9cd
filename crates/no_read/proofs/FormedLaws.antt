-- What a text reads to is formed, and in a source nothing is marked.
use Rattle.std.proofs.Common.{◌≡◌, ℕ, List, Result, Ok, Err}
use Rattle.std.specs.Prelude.{IfOk}
use Rattle.no_ir.specs.declared.function.Module.{Module}
use Rattle.no_ir.specs.declared.function.Role.{Role}
use Rattle.no_lex.specs.declared.token.Token.{Token}
use Rattle.no_module.specs.Formed.{IsFormed}
use Rattle.no_module.specs.Marks.{MarksAllowed}
use Rattle.no_read_formed.proofs.Modules.{read_formed, read_marks}
use Rattle.no_read_formed.proofs.Typed.{Exact, names_typed}
use Rattle.no_read.specs.Knowing.{Answers, known_of, meaning_of}
use Rattle.no_read.specs.Reading.{IsModule, Reads, typed}
use Rattle.no_read.specs.declared.fault.ReadError.{ReadError}
use Rattle.no_read.specs.declared.fault.ReadError.TheVariants as error

module _ (exact : Exact) (text : List ℕ) (role : Role) (tokens : List Token) where
  pub is_formed : (m : Module) → IsModule text role tokens m → IsFormed m
  is_formed m k = read_formed (meaning_of text (known_of text k.lifted)) role (typed (known_of text k.lifted)) k.lifted.rest m k.forms (names_typed exact text tokens k.lifted k.lifts)

  pub is_unmarked : (m : Module) → IsModule text role tokens m → MarksAllowed role m
  is_unmarked m k = read_marks (meaning_of text (known_of text k.lifted)) role (typed (known_of text k.lifted)) k.lifted.rest m k.forms (names_typed exact text tokens k.lifted k.lifts)

  pub answer_formed : (r : Result Module ReadError) → Answers r (Reads text role tokens) → IfOk r (λ m. IsFormed m)
  answer_formed (Ok m) k = is_formed m k
  answer_formed (Err e) k = tt

  pub answer_unmarked : (r : Result Module ReadError) → Answers r (Reads text role tokens) → IfOk r (λ m. MarksAllowed role m)
  answer_unmarked (Ok m) k = is_unmarked m k
  answer_unmarked (Err e) k = tt
