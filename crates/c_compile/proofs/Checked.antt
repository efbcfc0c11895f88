-- A checked program is valid on its place.
use Rattle.std.proofs.Common.{◌≡◌, subst}
use Rattle.slot_arbiter.specs.declared.place.Place.{Place}
use Rattle.c_tree.specs.declared.layout.Checked.{Checked}
use Rattle.c_tree.specs.Plain.{plain}
use Rattle.c_tree.specs.Valid.{IsValid}

pub valid_there : (p : Checked) (place : Place) → p.place ≡ place → IsValid (plain p.unit) place.cores place.core
valid_there p place is = subst (λ (q : Place). IsValid (plain p.unit) q.cores q.core) is p.valid
