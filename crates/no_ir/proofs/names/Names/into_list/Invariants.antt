use Rattle.std.proofs.Common.{◌≡◌, ◌++◌, map}
use Rattle.no_ir.proofs.names.Names.into_list.Given as goal

abbrev pub invariant-loop-name : goal.invariant-loop-name
invariant-loop-name l = l.all ++ map (λ v. v.items) l.name-iterator ≡ l.fn.self
