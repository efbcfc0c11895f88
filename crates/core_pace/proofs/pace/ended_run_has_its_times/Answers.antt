use Rattle.patmos_model.specs.Apart.{site_of}
use Rattle.std.proofs.Common.{[]}
use Rattle.core_pace.proofs.Hanging.{ended_accesses, ended_free}
use Rattle.core_pace.proofs.pace.ended_run_has_its_times.Goals as goal

pub returns-clause-accesses : goal.returns-clause-accesses
returns-clause-accesses c = λ place image input values count cycles limit slots same still still' late within.
    ended_accesses place.cores place.core (site_of place image) input values [] [] count cycles limit slots same still
    still' late within

pub returns-clause-end : goal.returns-clause-end
returns-clause-end c = λ place image input values count limit slots same still still' late.
    ended_free place.cores place.core (site_of place image) input values [] [] count limit slots same still still' late
