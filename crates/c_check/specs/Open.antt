-- For proofs. The open names that a walk keeps, as the list of them.
use Rattle.std.specs.Prelude.{List}
use Rattle.c_tree.specs.Names.{Named}
use Rattle.c_names.specs.Open.{open_names}
use Rattle.c_check.specs.declared.names.Names.{Names}

abbrev pub names_of : Names → List Named
names_of names = open_names names.names
