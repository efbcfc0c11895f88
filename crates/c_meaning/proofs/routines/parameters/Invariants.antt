use Rattle.std.proofs.Common.{◌≡◌, ◌++◌, drop}
use Rattle.c_meaning.specs.Meaning.{parameter_variables}
use Rattle.c_meaning.specs.Open.{names_of, functions_of}
use Rattle.c_meaning.proofs.routines.parameters.Given as goal

abbrev pub invariant-loop-parameter : goal.invariant-loop-parameter
invariant-loop-parameter l = record {
  slots : (names_of l.scope).slots ≡ (names_of l.initial.scope).slots;
  variables : (names_of l.scope).variables ++ parameter_variables (drop l.parameter-index l.parameters)
      ≡ (names_of l.initial.scope).variables ++ parameter_variables l.parameters;
  functions : functions_of l.scope ≡ functions_of l.initial.scope;
}
