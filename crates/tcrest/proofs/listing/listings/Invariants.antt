use Rattle.std.proofs.Common.{◌≡◌, ◌++◌, drop}
use Rattle.job_tasks.specs.Coding.{all_shown}
use Rattle.tcrest.specs.Listing.{listing_on, listings}
use Rattle.job_tasks.specs.Tasks.{told_from}
use Rattle.tcrest.proofs.listing.listings.Given as goal

abbrev pub invariant-loop-core : goal.invariant-loop-core
invariant-loop-core l =
    l.text.items ++ told_from listing_on l.core (all_shown (drop l.core l.coded)) ≡ listings (all_shown l.coded)
