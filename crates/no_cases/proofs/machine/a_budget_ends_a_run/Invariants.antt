use Rattle.no_cases.proofs.machine.a_budget_ends_a_run.Given as goal

abbrev pub ghosts-over_all : goal.ghosts-over_all
ghosts-over_all g a = record { name = a.blank.name; parts = a.blank.parts }
