use Rattle.no_cases.proofs.commands.a_source_that_fails_is_a_read_fault.Given as goal

abbrev pub ghosts-told : goal.ghosts-told
ghosts-told g a = record { name = a.blank.name; parts = a.blank.parts }
