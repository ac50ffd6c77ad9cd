use Rattle.std.proofs.Common.{◌≡◌, drop}
use Rattle.std.specs.List.{list_all}
use Rattle.no_verify_types.specs.Typing.{operand_fits}
use Rattle.no_verify_types.proofs.operands.pairs_fit.Given as goal

abbrev pub invariant-loop-pair : goal.invariant-loop-pair
invariant-loop-pair l = list_all (λ pair. operand_fits l.program l.role l.types l.scalar pair.0) l.pairs ≡ list_all (λ pair. operand_fits l.program l.role l.types l.scalar pair.0) (drop l.pair-index l.pairs)
