use Rattle.no_cases.proofs.machine.input_is_waited_for.Given as goal

abbrev pub ghosts-over_all : goal.ghosts-over_all
ghosts-over_all g a = record { name = a.blank.name; parts = a.blank.parts }
