use Rattle.std.proofs.Common.{◌≡◌, drop, map}
use Rattle.no_module.specs.SameTypes.{same_type, pairs}
use Rattle.no_module.proofs.same_types.+same.Given as goal

abbrev pub invariant-same_fields-loop-field : goal.invariant-same_fields-loop-field
invariant-same_fields-loop-field l = pairs (map same_type (drop l.field-index l.a)) l.rest ≡ pairs (map same_type l.a) l.b
