use Rattle.std.proofs.Common.{refl, inl}
use Rattle.no_app.proofs.telling.tell.Goals as goal

-- the whole line was given
pub returns-in-Done : goal.returns-in-Done
returns-in-Done g c =
    let text_is = c.in-Ok.ensures in
    let given = rw c.deref.ensures.value at (c.in-Done.ensures.done refl) in
    inl (refl, rw text_is at given)
