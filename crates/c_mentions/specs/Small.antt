-- For worked rows. Small programs to show on what is mentioned, and tasks that are alone with their data or not.
use Rattle.std.specs.Prelude.{ℕ, false, List, [], ◌∷◌, None, codes}
use Rattle.c_tree.specs.Plain.{PlainExpr, PlainItem}
use Rattle.c_tree.specs.Plain as plain
use Rattle.c_tree.specs.Small.{function_of, parameter_of, variable_of}
use Rattle.c_meaning.specs.Small.{number, variable, at_index, declared, set_to, returned, block_of, main_of}
use Rattle.c_mentions.specs.Alone.{Running, program}

-- `comm[0]` and `shared[0]`
abbrev pub comm_element : PlainExpr
comm_element = at_index (codes "comm") (number 0)

abbrev pub shared_element : PlainExpr
shared_element = at_index (codes "shared") (number 0)

-- `int main() { return VALUE; }`
abbrev pub returning : PlainExpr → List PlainItem
returning e = main_of (returned e ∷ []) ∷ []

-- `int main() { int comm = VALUE; return comm; }`
abbrev pub hiding : PlainExpr → List PlainItem
hiding e = main_of (declared (codes "comm") e ∷ returned (variable (codes "comm")) ∷ []) ∷ []

-- `int main() { int x = comm[0]; int comm = 1; return comm; }`
abbrev pub hiding_later : List PlainItem
hiding_later =
    main_of (declared (codes "x") comm_element ∷ declared (codes "comm") (number 1)
    ∷ returned (variable (codes "comm")) ∷ []) ∷ []

-- `int f(int shared) { return shared; }`, and after it `int main() { return VALUE; }`
abbrev pub with_parameter : PlainExpr → List PlainItem
with_parameter e =
    function_of (codes "f") (parameter_of (codes "shared") ∷ []) (returned (variable (codes "shared")) ∷ [])
    ∷ returning e

-- `int main() { { int comm = 1; comm = 2; } return VALUE; }`
abbrev pub with_block : PlainExpr → List PlainItem
with_block e =
    main_of (plain.inner (block_of (declared (codes "comm") (number 1) ∷ set_to (codes "comm") (number 2) ∷ []))
    ∷ returned e ∷ []) ∷ []

-- `int comm; int main() { return comm; }`, which is not valid
abbrev pub hiding_outside : List PlainItem
hiding_outside = variable_of false (codes "comm") [] ∷ returning (variable (codes "comm"))

-- `int main() { for (i = 0; CONDITION; i = STEP) { } }`
abbrev pub looping : PlainExpr → PlainExpr → List PlainItem
looping condition step =
    main_of (plain.looped None (plain.iterations_for (codes "i") (number 0) condition (codes "i") step) (block_of []) ∷ [])
    ∷ []

-- `int main() { f(VALUE); }`
abbrev pub calling : PlainExpr → List PlainItem
calling e = main_of (plain.called (codes "f") (e ∷ []) ∷ []) ∷ []

-- `int main() { NAME[INDEX] = VALUE; }`
abbrev pub assigning : List ℕ → PlainExpr → PlainExpr → List PlainItem
assigning text index e = main_of (plain.set_element text index (plain.value e) ∷ []) ∷ []

-- `int main() { if (0) { send(CORE, 0, 0, 1); } }`
abbrev pub never_sending : ℕ → List PlainItem
never_sending core =
    main_of (plain.chosen (plain.arm (number 0)
    (block_of (plain.sent core false (number 0) (number 0) (number 1) ∷ [])) plain.no_arm) plain.no_else ∷ [])
    ∷ []

-- ---- tasks

abbrev pub reads_comm : Running
reads_comm = program (returning comm_element)

abbrev pub reads_shared : Running
reads_shared = program (returning shared_element)

abbrev pub writes_shared_0 : Running
writes_shared_0 = program (assigning (codes "shared") (number 0) (number 5))

abbrev pub sends_to_core : ℕ → Running
sends_to_core core = program (never_sending core)

abbrev pub mentions_neither : Running
mentions_neither = program (returning (number 0))
