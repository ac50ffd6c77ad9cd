-- The end behind an operation that was read.
use Rattle.std.proofs.Common.{◌≡◌, ℕ, Bool, List, Result, Ok, Err, refl}
use Rattle.no_lex.specs.declared.token.Token.{Token}
use Rattle.no_ir.specs.declared.function.Role.{Role}
use Rattle.no_ir.specs.declared.instruction.Op.{Op}
use Rattle.no_read_rules.specs.declared.fault.Stopped.{Stopped}
use Rattle.no_read_rules.specs.Rules.{after, lift_value}
use Rattle.no_read_registers.specs.declared.locals.Locals.{Locals}
use Rattle.no_read_operations.specs.Ends.{end_mark, finish, with_inserted, behind_form}

finish_is : (text : List ℕ) (role : Role) (aligns : Bool) (op : Op) (s : Locals) (tokens : List Token) → (finish text role aligns op).read s tokens ≡ after ((end_mark text role aligns).read tt tokens) (with_inserted op s)
unfolding finish
finish_is text role aligns op s tokens = by ((end_mark text role aligns).read tt tokens)
  where
    by : (r : Result (Bool × Unit {0} × List Token) Stopped) → after (lift_value s r) (λ x. Ok ((op, x.0), x.1, x.2)) ≡ after r (with_inserted op s)
    by (Ok x) = refl
    by (Err d) = refl

pub behind_is : (text : List ℕ) (role : Role) (aligns : Bool) (op : Op) (s : Locals) (tokens : List Token) (read : Result (Op × Locals × List Token) Stopped) → read ≡ Ok (op, s, tokens)
    → after read (behind_form text role aligns) ≡ after ((end_mark text role aligns).read tt tokens) (with_inserted op s)
behind_is text role aligns op s tokens read is = rw is (finish_is text role aligns op s tokens)
