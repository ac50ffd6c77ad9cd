use Rattle.std.proofs.Common.{◌≡◌, drop, map}
use Rattle.no_verify_types.specs.Addresses.{inner_lead}
use Rattle.no_verify_types.specs.Typing.{stated_field}
use Rattle.no_verify_types.proofs.paths.inner_leads.Given as goal

abbrev pub invariant-loop-index : goal.invariant-loop-index
invariant-loop-index l = inner_lead l.program.types l.base (map stated_field l.indices) ≡ inner_lead l.program.types l.at (map stated_field (drop l.index-index l.indices))
