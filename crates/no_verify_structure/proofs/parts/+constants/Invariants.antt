use Rattle.std.proofs.Common.{Bool, drop, map, ◌≡◌}
use Rattle.std.specs.List.{list_all}
use Rattle.no_verify_structure.specs.Parts.{constant_keeps}
use Rattle.no_verify_structure.proofs.parts.+constants.Given as goal

abbrev pub invariant-constants_keep-loop-constant : goal.invariant-constants_keep-loop-constant
invariant-constants_keep-loop-constant g l = list_all (λ (keeps : Bool). keeps) (map (constant_keeps (g.T.NameRule.places l.rule)) l.constants) ≡ list_all (λ (keeps : Bool). keeps) (map (constant_keeps (g.T.NameRule.places l.rule)) (drop l.constant-index l.constants))
