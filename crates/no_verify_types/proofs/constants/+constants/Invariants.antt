use Rattle.std.proofs.Common.{◌≡◌, drop, map}
use Rattle.std.specs.List.{list_all}
use Rattle.no_module.specs.Scalars.{each_meets}
use Rattle.no_verify_types.specs.Constants.{constant_fits}
use Rattle.no_verify_types.proofs.constants.+constants.Given as goal

abbrev pub invariant-all_fit-loop-element : goal.invariant-all_fit-loop-element
invariant-all_fit-loop-element l = list_all (λ fits. fits l.t) (map (constant_fits l.program l.role) l.elements) ≡ list_all (λ fits. fits l.t) (map (constant_fits l.program l.role) (drop l.element-index l.elements))

abbrev pub invariant-each_fits-loop-field : goal.invariant-each_fits-loop-field
invariant-each_fits-loop-field l = each_meets (map (constant_fits l.program l.role) (drop l.field-index l.fields)) l.rest ≡ each_meets (map (constant_fits l.program l.role) l.fields) l.types
