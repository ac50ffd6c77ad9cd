use Rattle.no_cases.proofs.machine.an_absent_page_is_wanted.Given as goal

abbrev pub ghosts-over_none : goal.ghosts-over_none
ghosts-over_none g a = record { name = a.blank.name; parts = a.blank.parts }
