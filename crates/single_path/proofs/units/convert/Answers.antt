use Rattle.std.proofs.Common.{◌≡◌, ℕ, ◌<◌, ◌≤◌, List, true, length, slice_index, slice_index_or}
use Rattle.std.specs.List.{list_any}
use Rattle.c_tree.specs.Plain.{plain}
use Rattle.sp_tree.specs.Begun.{straight}
use Rattle.sp_tree.specs.Cost.{cost}
use Rattle.sp_tree.specs.Formed.{is_formed}
use Rattle.sp_tree.specs.Statements.{no_function}
use Rattle.sp_tree.specs.Uses.{uses_of}
use Rattle.c_meaning.specs.Begun.{meaning}
use Rattle.c_mentions.specs.Mentions.{Array, mentions, assigns, sends_to}
use Rattle.single_path.specs.Meant.{IsMeant}
use Rattle.single_path.specs.Single.{weights_in, frames_in}
use Rattle.single_path.specs.Used.{reads_region, writes_region, is_send_to, memory_of}
use Rattle.single_path.proofs.Assembled.{so_of_tree}
use Rattle.single_path.proofs.TakenIn.{taken_is_formed, taken_meant, taken_costs, taken_frames, taken_reads, taken_writes, taken_sends}
use Rattle.single_path.proofs.units.convert.Goals as goal

pub returns-clause-formed : goal.returns-clause-formed
returns-clause-formed c =
    let program = c.args.program.now in
    so_of_tree c.taken_tree.result (plain program.unit) (λ u. is_formed u ≡ true) c.taken_tree.ensures
    (taken_is_formed program.place.cores program.place.core (plain program.unit) program.place.in_range.cores_most
    program.valid)

pub returns-clause-preserves : goal.returns-clause-preserves
returns-clause-preserves c =
    let program = c.args.program.now in
    so_of_tree c.taken_tree.result (plain program.unit)
    (λ u. (input : List ℕ) (shared comm : ℕ → ℕ) → IsMeant (straight u input shared comm) (meaning (plain program.unit)
    input shared comm)) c.taken_tree.ensures
    (taken_meant program.place.cores program.place.core (plain program.unit) program.place.in_range.cores_most
    program.valid)

pub returns-clause-cost : goal.returns-clause-cost
returns-clause-cost c =
    let program = c.args.program.now in
    so_of_tree c.taken_tree.result (plain program.unit)
    (λ u. (k : ℕ) → k < length u.functions → cost (slice_index_or u.functions k no_function)
    ≤ slice_index (weights_in (plain program.unit)) k) c.taken_tree.ensures
    (taken_costs program.place.cores program.place.core (plain program.unit) program.place.in_range.cores_most
    program.valid)

pub returns-clause-frame : goal.returns-clause-frame
returns-clause-frame c =
    let program = c.args.program.now in
    so_of_tree c.taken_tree.result (plain program.unit)
    (λ u. (k : ℕ) → k < length u.functions → (slice_index_or u.functions k no_function).frame
    ≤ slice_index (frames_in (plain program.unit)) k) c.taken_tree.ensures
    (taken_frames program.place.cores program.place.core (plain program.unit) program.place.in_range.cores_most
    program.valid)

pub returns-clause-reads : goal.returns-clause-reads
returns-clause-reads c =
    let items = plain c.args.program.now.unit in
    so_of_tree c.taken_tree.result items (λ u. (a : Array) → list_any (reads_region (memory_of a)) (uses_of u) ≡ true
    → mentions a items ≡ true) c.taken_tree.ensures
    (λ a. taken_reads a items)

pub returns-clause-writes : goal.returns-clause-writes
returns-clause-writes c =
    let items = plain c.args.program.now.unit in
    so_of_tree c.taken_tree.result items (λ u. (a : Array) → list_any (writes_region (memory_of a)) (uses_of u) ≡ true
    → assigns a items ≡ true) c.taken_tree.ensures
    (λ a. taken_writes a items)

pub returns-clause-sends : goal.returns-clause-sends
returns-clause-sends c =
    let items = plain c.args.program.now.unit in
    so_of_tree c.taken_tree.result items (λ u. (core : ℕ) → list_any (is_send_to core) (uses_of u) ≡ true
    → sends_to core items ≡ true) c.taken_tree.ensures
    (λ core. taken_sends core items)
