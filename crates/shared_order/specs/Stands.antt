-- To be believed. Where a core stands: its state before a stamp, and what it made until then. A core that waits for
-- the others knows no more of the machine than this.
use Rattle.std.specs.Prelude.{◌≡◌, ℕ, suc, List, ◌++◌}
use Rattle.shared_order.specs.declared.operation.Operation.{Operation}
use Rattle.shared_order.specs.Operation.{loads}
use Rattle.shared_order.specs.Program.{Prog, fed}
use Rattle.shared_order.specs.Apart.{gone_on}
use Rattle.shared_order.specs.Stamps.{run_apart}

module _ {X : Type 0} (act : ℕ → X → Prog X) (n : ℕ) where
  -- Core number `core`, that began as x and made these operations, is y before stamp s: whatever
  -- its loads give from here on, its run apart on what its loads gave so far comes here and has
  -- used no more. So y and all that it does next are determined by those values.
  abbrev pub Stands : ℕ → X → List Operation → ℕ → X → Type 0
  Stands core x made s y = (more : List ℕ) →
      run_apart act n core x (loads made ++ more) s ≡ record { core = y; left = more; made = made }

  -- within the act at its own stamp s, the core has made these operations and has the program
  -- `rest` still to do
  abbrev pub Midway : ℕ → X → List Operation → ℕ → Prog X → Type 0
  Midway core x made s rest = (more : List ℕ) →
      run_apart act n core x (loads made ++ more) (suc s) ≡ gone_on (fed s rest more) made
