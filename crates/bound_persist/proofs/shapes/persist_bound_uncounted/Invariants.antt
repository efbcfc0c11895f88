use Rattle.bound_persist.proofs.shapes.persist_bound_uncounted.Given as goal

abbrev pub ghosts-bound_from : goal.ghosts-bound_from
ghosts-bound_from a = record { name = a.blank.name; parts = a.blank.parts }
