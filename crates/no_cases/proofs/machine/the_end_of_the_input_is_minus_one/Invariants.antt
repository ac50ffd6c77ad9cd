use Rattle.no_cases.proofs.machine.the_end_of_the_input_is_minus_one.Given as goal

abbrev pub ghosts-over_all : goal.ghosts-over_all
ghosts-over_all g a = record { name = a.blank.name; parts = a.blank.parts }
