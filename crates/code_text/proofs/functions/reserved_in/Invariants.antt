use Rattle.std.proofs.Common.{◌≡◌, drop}
use Rattle.code_text.specs.Listing.{reserved_in}
use Rattle.code_text.proofs.functions.reserved_in.Given as goal

abbrev pub invariant-loop-bundle : goal.invariant-loop-bundle
invariant-loop-bundle l = reserved_in (drop l.bundle-index l.bundles) ≡ reserved_in l.bundles
