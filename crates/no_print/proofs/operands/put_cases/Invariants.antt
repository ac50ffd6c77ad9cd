use Rattle.std.proofs.Common.{◌≡◌, ◌++◌, drop}
use Rattle.no_print.specs.Scopes.{spelled_by}
use Rattle.no_print.specs.Modules.{locals_of}
use Rattle.no_print.specs.Instructions.{case_pieces}
use Rattle.no_print.specs.Pieces.{written}
use Rattle.no_print.proofs.operands.put_cases.Given as goal

abbrev pub invariant-loop-case : goal.invariant-loop-case
invariant-loop-case l = l.fn.out.items ++ written (case_pieces (spelled_by l.scope) (locals_of l.f) l.w l.cases) ≡ l.out.items ++ written (case_pieces (spelled_by l.scope) (locals_of l.f) l.w (drop l.case-index l.cases))
