-- The whole line of an outcome is told.
use Rattle.std.proofs.Common.{ℕ, List, subst, Option, inl, inr}
use Rattle.no_ports.specs.Meanings.{Adds, AddsPrefix}
use Rattle.no_app.specs.declared.outcome.Outcome.{Outcome}
use Rattle.no_app.specs.declared.outcome.Outcome.TheVariants as outcome
use Rattle.no_app.proofs.Jobs.{adds_all}
use Rattle.no_app.specs.Outcomes.{line_of, Around, Says, Tells, Concludes, Becomes, IsRefusal}

-- a line that is given whole is that of the outcome
pub tells_whole : (o : Outcome) (a : Around) (old new : Option (List ℕ)) (errs errs' : ℕ) → Says o a → Adds old new (line_of o) → Tells o a old new errs errs'
tells_whole (outcome.Exited c) a old new errs errs' says all = all
tells_whole (outcome.Trapped t) a old new errs errs' says all = all
tells_whole outcome.Unfinished a old new errs errs' says all = all
tells_whole outcome.NoMemory a old new errs errs' says all = (outcome.NoMemory, says, adds_all old new (line_of outcome.NoMemory) all)
tells_whole outcome.Usage a old new errs errs' says all = all
tells_whole (outcome.FileFault name) a old new errs errs' says all = all
tells_whole (outcome.BadModule fault) a old new errs errs' says all = all
tells_whole outcome.ReadFault a old new errs errs' says all = all
tells_whole outcome.WriteFault a old new errs errs' says all = inl all

-- what is told of the outcome that the call reached
pub tells : (o o' : Outcome) (a : Around) (old new : Option (List ℕ)) (errs errs' : ℕ) → Says o a → Becomes o o' old new errs errs' → Tells o' a old new errs errs'
tells o o' a old new errs errs' says (inl (same, all)) = rw same (tells_whole o a old new errs errs' says all)
tells o o' a old new errs errs' says (inr (inl (fault, rose, some))) = rw fault (inr (o, says, rose, some))
tells o o' a old new errs errs' says (inr (inr (want, some))) = rw want (o, says, some)

-- the outcome that the call reached is concluded as it is
concludes_same : (o : Outcome) (a : Around) (errs errs' : ℕ) → Says o a → Concludes o a errs errs'
concludes_same (outcome.Exited c) a errs errs' says = says
concludes_same (outcome.Trapped t) a errs errs' says = says
concludes_same outcome.Unfinished a errs errs' says = says
concludes_same outcome.NoMemory a errs errs' says = says
concludes_same outcome.Usage a errs errs' says = says
concludes_same (outcome.FileFault name) a errs errs' says = says
concludes_same (outcome.BadModule fault) a errs errs' says = says
concludes_same outcome.ReadFault a errs errs' says = says
concludes_same outcome.WriteFault a errs errs' says = inl says

pub concludes : (o o' : Outcome) (a : Around) (old new : Option (List ℕ)) (errs errs' : ℕ) → Says o a → Becomes o o' old new errs errs' → Concludes o' a errs errs'
concludes o o' a old new errs errs' says (inl (same, all)) = rw same (concludes_same o a errs errs' says)
concludes o o' a old new errs errs' says (inr (inl (fault, rose, some))) = rw fault (inr rose)
concludes o o' a old new errs errs' says (inr (inr (want, some))) = rw want tt

-- a refusal is the outcome that the call reached
pub refused_so : (o o' : Outcome) (old new : Option (List ℕ)) (errs errs' : ℕ) → Becomes o o' old new errs errs' → IsRefusal o' → IsRefusal o
refused_so o o' old new errs errs' (inl (same, all)) refusal = subst IsRefusal same refusal
refused_so o o' old new errs errs' (inr (inl (fault, rose, some))) refusal = absurd (subst IsRefusal fault refusal)
refused_so o o' old new errs errs' (inr (inr (want, some))) refusal = absurd (subst IsRefusal want refusal)
