use Rattle.no_cases.proofs.commands.a_take_that_nothing_needs_may_fail.Given as goal

abbrev pub ghosts-told : goal.ghosts-told
ghosts-told g a = record { name = a.blank.name; parts = a.blank.parts }
