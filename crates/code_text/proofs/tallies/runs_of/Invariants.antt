use Rattle.code_text.proofs.tallies.runs_of.Given as goal

abbrev pub ghosts-runs_from : goal.ghosts-runs_from
ghosts-runs_from a = record { name = a.blank.name; parts = a.blank.parts }
