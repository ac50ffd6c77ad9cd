use Rattle.no_wire.proofs.Again.{one_frame}
use Rattle.no_wire.proofs.Unique.{one_stream}
use Rattle.no_wire.proofs.laws.frames_are_exact.Goals as goal

pub returns-clause-one_spelling : goal.returns-clause-one_spelling
returns-clause-one_spelling c a b x y ha hb e = let r = one_frame a b x y ha hb e in (r.message, r.behind)

pub returns-clause-one_reading : goal.returns-clause-one_reading
returns-clause-one_reading c a b x y ha hb px py e = let r = one_stream a b x y ha hb px py e in (r.0, r.1)
