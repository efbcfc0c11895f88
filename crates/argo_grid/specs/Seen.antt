-- To be believed. What contracts see of a schedule's fields.
use Rattle.argo_grid.specs.declared.job.GridJob.TheInside.{Inside}
use Rattle.argo_grid.specs.Schedule.{Schedule}

abbrev pub seen : Inside → Schedule
seen a = record { grid = a.grid; length = a.length; entries = a.entries }
