use Rattle.no_cases.proofs.machine.imaged.Goals as goal

pub image-requires : goal.image-requires
image-requires c = c.requires.role_is
