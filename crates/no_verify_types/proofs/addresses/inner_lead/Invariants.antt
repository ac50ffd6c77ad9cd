use Rattle.std.proofs.Common.{◌≡◌, drop, map}
use Rattle.no_verify_types.specs.Addresses.{constant_field, inner_lead}
use Rattle.no_verify_types.proofs.addresses.inner_lead.Given as goal

abbrev pub invariant-loop-index : goal.invariant-loop-index
invariant-loop-index l = inner_lead l.program.types l.base (map constant_field l.indices) ≡ inner_lead l.program.types l.at (map constant_field (drop l.index-index l.indices))
