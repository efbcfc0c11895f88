-- The events of the cores, made in the order of their stamps, make the machine's list.
use Rattle.std.proofs.Common.{◌≡◌, ◌≢◌, ℕ, zero, suc, ◌+◌, ◌-◌, ◌*◌, ◌%◌, ◌<◌, ◌≤◌, true, false, true≢false, List, [], ◌∷◌, ◌++◌, None, Some, Option, IsSome, IsNone, IfSome, option_map, is_some, slice_get, slice_set, slice_index, length, get_or, map, take, drop, refl, sym, ap, subst, subst₂, ◌∙◌, append_assoc, append-nil, arith}
use Rattle.std.specs.List.{AllByRecursion as Each}
use Rattle.std.proofs.lemmas.List.{length-take, append_cancel_left}
use Rattle.std.proofs.lemmas.Option.{none-some, same_Some, slice_get-map}
use Rattle.slot_arbiter.specs.declared.event.WordOp.{WordOp}
use Rattle.slot_arbiter.specs.declared.event.Event.{Event}
use Rattle.shared_order.specs.declared.operation.Operation.{Operation}
use Rattle.shared_order.specs.Operation.{load, store, loads, operations_of, asking}
use Rattle.shared_order.specs.Order.{GoesOn}
use Rattle.shared_order.specs.Words.{put, after, zeros, Reads}
use Rattle.shared_order.specs.Program.{Prog, get, set, played, first, others}
use Rattle.shared_order.specs.Event.{filled, asks_of, asked_by}
use Rattle.shared_order.specs.Machine.{cycled}
use Rattle.shared_order.specs.Apart.{apart}
use Rattle.shared_order.specs.Merge.{IsMerging, IsMerge}
use Rattle.shared_order.proofs.Lists.{loads-append}
use Rattle.shared_order.proofs.Words.{after-append}
use Rattle.shared_order.proofs.Events.{filled_again, first_at}
use Rattle.shared_order.proofs.Merging.{begins, next, played_reads, operations_grow, operations_stay}
use Rattle.shared_order.proofs.ByCycles.{merge_is_all, merge_words}
use Rattle.patmos_model.specs.State.{Core}
use Rattle.patmos_model.specs.Cycle.{turn}
use Rattle.patmos_model.specs.Apart.{apart_from}
use Rattle.patmos_core.specs.declared.cpu.Core.{Core as Cpu}
use Rattle.patmos_core.specs.Position.{StandsFor, waiting_of, place_of, phases_of, IsThrough, IsNextOf, HasMadeAll, EventFits, stamp_of}
use Rattle.global_step.specs.PlainEvent.{accesses, made_on}
use Rattle.global_step.specs.PlainRun.{Every, IsSeated, IsReady, HasNext, Precedes}
use Rattle.patmos_core.proofs.Sites.{sited}
use Rattle.global_step.proofs.PlainEvery.{every_at, every_core, every_from, every_set, any}

-- ---- the next event of a core is not before its last one

asks_made : (s : ℕ) (acts : List WordOp) (words : ℕ → ℕ) → map asking (played s (accesses acts) words).ops
    ≡ asks_of s acts
asks_made s [] words = refl
asks_made s (a ∷ acts) words =
    elim a.write as (λ b. map asking
    (played s (elim b as (λ _. Prog (Unit {0})) [
      | true ↦ set a.word a.value (accesses acts)
      | false ↦ get a.word
          (λ value. accesses acts)
    ]) words).ops
    ≡ asking (record { stamp = s; act = record { word = a.word; write = b; value = a.value } }) ∷ asks_of s acts) [
      | true ↦ ap (λ l. store s a.word a.value ∷ l) (asks_made s acts (put a.word a.value words))
      | false ↦ ap (λ l. load s a.word 0 ∷ l) (asks_made s acts words)
    ]

-- both are told of one run
later_stamp : (run : List ℕ → List Operation) (made ops : List Operation) (e f : Event) → map asking ops
    ≡ asks_of e.stamp (take e.count e.ops)
    → ((more : List ℕ) → GoesOn e.stamp (made ++ asked_by e more) (run (loads made ++ more)))
    → ((more : List ℕ) → GoesOn f.stamp ((made ++ ops) ++ asked_by f more) (run (loads (made ++ ops) ++ more)))
    → 0 < length (take f.count f.ops) → e.stamp ≤ f.stamp
later_stamp run made ops e f asks one two some =
    let values : List ℕ = loads ops ++ [] in
    let first_one : GoesOn e.stamp (made ++ asked_by e values) (run (loads made ++ values)) = one values in
    let second_one : GoesOn f.stamp ((made ++ ops) ++ asked_by f []) (run (loads (made ++ ops) ++ [])) = two [] in
    let again : asked_by e values ≡ ops = filled_again e.stamp (take e.count e.ops) ops [] asks in
    let same : loads (made ++ ops) ++ [] ≡ loads made ++ values =
    ap (λ l. l ++ []) (loads-append made ops) ∙ append_assoc (loads made) (loads ops) [] in
    let both : (made ++ ops) ++ (asked_by f [] ++ second_one.later) ≡ (made ++ ops) ++ first_one.later =
    sym (append_assoc (made ++ ops) (asked_by f []) second_one.later) ∙ sym second_one.whole ∙ ap run same
    ∙ first_one.whole ∙ ap (λ l. (made ++ l) ++ first_one.later) again in
    first_at e.stamp f.stamp (take f.count f.ops) [] second_one.later some
    (subst (Each (λ o. e.stamp ≤ o.stamp)) (sym (append_cancel_left (made ++ ops) (asked_by f [] ++ second_one.later)
    first_one.later both)) first_one.from)

pub not_before : (x : Core) (made : List Operation) (most : ℕ) (e f : Event) (words : ℕ → ℕ) → IsNextOf x made most e
    → IsNextOf x (made ++ made_on e words) most f → 0 < length (take f.count f.ops) → e.stamp ≤ f.stamp
not_before x made most e f words one two some =
    later_stamp (λ values. (apart_from x values most).made) made (made_on e words) e f
    (asks_made e.stamp (take e.count e.ops) words) one two some

-- ---- the list that comes about

-- the core was asked for its next event, which is not before stamp `last`
pub record IsDue (x : Core) (made : List Operation) (last most : ℕ) (c : Cpu) : Type 0 where
  pub has : HasNext x made most c
  pub later : IfSome (waiting_of c) (λ e. 0 < length (take e.count e.ops) → last ≤ e.stamp)

-- the cores of a machine that begins as x, up to some stamp: all that they made reads right, and the words
-- are those after it
pub record Followed (n most : ℕ) (x : ℕ → Core) (cores : List Cpu) (words : ℕ → ℕ) : Type 0 where
  pub made : List Operation
  pub last : ℕ
  pub merging : IsMerging made last
  pub left : words ≡ after made zeros
  pub due : Every (λ k. IsDue (x k) (operations_of n k made) last most) cores

each_some : (P Q : Cpu → Type 0) → ((c : Cpu) → P c → Q c) → (r : Option Cpu) → IfSome r P → IfSome r Q
each_some P Q f None h = tt
each_some P Q f (Some c) h = f c h

never_before_zero : (r : Option Event) → IfSome r (λ e. 0 < length (take e.count e.ops) → 0 ≤ e.stamp)
never_before_zero None = tt
never_before_zero (Some e) = λ some. omega arith

pub followed_first : (n most : ℕ) (x : ℕ → Core) (cores : List Cpu) (words : List ℕ) → ((w : ℕ) → slice_index words w
    ≡ 0) → Every (λ k. HasNext (x k) [] most) cores → Followed n most x cores (slice_index words)
followed_first n most x cores words nought h = record {
  made = [];
  last = 0;
  merging = begins;
  left = λ i w. nought w i;
  due = λ k. each_some (HasNext (x k) [] most) (IsDue (x k) [] 0 most)
      (λ c has. record { has = has; later = never_before_zero (waiting_of c) }) (slice_get cores k) (h k);
}

-- what follows of the event that is made
later_of : (x : Core) (made : List Operation) (most : ℕ) (e : Event) (words : ℕ → ℕ) → IsNextOf x made most e
    → (r : Option Event) → IfSome r (IsNextOf x (made ++ made_on e words) most)
    → IfSome r (λ f. 0 < length (take f.count f.ops) → e.stamp ≤ f.stamp)
later_of x made most e words one None h = tt
later_of x made most e words one (Some f) h = not_before x made most e f words one h

after_first : (s : ℕ) (r : Option Event) → Precedes (Some s) (option_map (λ f. f.stamp) r)
    → IfSome r (λ f. 0 < length (take f.count f.ops) → s ≤ f.stamp)
after_first s None h = tt
after_first s (Some f) h = λ some. h

module _ (n most : ℕ) (x : ℕ → Core) (cores : List Cpu) (k : ℕ) (c c' : Cpu) (words words' : ℕ → ℕ) where
  followed_more : (e : Event) → k < length cores → waiting_of (get_or cores k c) ≡ Some e → e.stamp % n ≡ k
      → 0 < length (take e.count e.ops)
      → ((x : Core) (made : List Operation) → StandsFor (get_or cores k c) x made
      → HasNext x (made ++ made_on e words) most c')
      → ((w : ℕ) → words' w ≡ after (made_on e words) words w)
      → ((j : ℕ) (d : Cpu) → j < length cores → Precedes (stamp_of (get_or cores k d)) (stamp_of (get_or cores j d)))
      → Followed n most x cores words → Followed n most x (slice_set cores k c') words'
  followed_more e below waits own some next_of words_are least h = record {
    made = h.made ++ ops;
    last = e.stamp;
    merging = next h.made ops h.last e.stamp h.merging not_earlier at reads;
    left = (λ i w. words_are w i) ∙ ap (after ops) h.left ∙ sym (after-append h.made ops zeros);
    due = every_set (λ j. IsDue (x j) (operations_of n j h.made) h.last most)
        (λ j. IsDue (x j) (operations_of n j (h.made ++ ops)) e.stamp most) cores k c' below h.due here others;
  }
    where
      ops : List Operation
      ops = made_on e words

      both : Reads h.made ops × Each (λ o. o.stamp ≡ e.stamp) ops
      both = subst (λ f. Reads h.made (made_on e f) × Each (λ o. o.stamp ≡ e.stamp) (made_on e f)) (sym h.left)
          (played_reads h.made e.stamp (accesses (take e.count e.ops)))

      reads : Reads h.made ops
      reads = both.0

      at : Each (λ o. o.stamp ≡ e.stamp) ops
      at = both.1

      mine : IsDue (x k) (operations_of n k h.made) h.last most (get_or cores k c)
      mine = every_at (λ j. IsDue (x j) (operations_of n j h.made) h.last most) cores k c h.due below

      one : IsNextOf (x k) (operations_of n k h.made) most e
      one = subst (λ r. IfSome r (IsNextOf (x k) (operations_of n k h.made) most)) waits mine.has.next

      not_earlier : h.last ≤ e.stamp
      not_earlier = let late : IfSome (Some e) (λ f. 0 < length (take f.count f.ops) → h.last ≤ f.stamp) =
          subst (λ r. IfSome r (λ f. 0 < length (take f.count f.ops) → h.last ≤ f.stamp)) waits mine.later in late some

      grown : operations_of n k (h.made ++ ops) ≡ operations_of n k h.made ++ ops
      grown = subst (λ j. operations_of n j (h.made ++ ops) ≡ operations_of n j h.made ++ ops) own
          (operations_grow n h.made ops e.stamp at)

      here : IsDue (x k) (operations_of n k (h.made ++ ops)) e.stamp most c'
      here =
          let has : HasNext (x k) (operations_of n k h.made ++ ops) most c' =
          next_of (x k) (operations_of n k h.made) mine.has.stands in
          subst (λ l. IsDue (x k) l e.stamp most c') (sym grown)
          (record {
            has = has;
            later = later_of (x k) (operations_of n k h.made) most e words one
                (waiting_of c') has.next;
          })

      others : (j : ℕ) (o : Cpu) → j < length cores → o ≡ get_or cores j o → j ≢ k
          → IsDue (x j) (operations_of n j h.made) h.last most o
          → IsDue (x j) (operations_of n j (h.made ++ ops)) e.stamp most o
      others j o low is other due =
          let same : operations_of n j (h.made ++ ops) ≡ operations_of n j h.made =
          operations_stay n j h.made ops e.stamp (λ q. other (sym q ∙ own)) at in
          let before : Precedes (stamp_of (get_or cores k c)) (stamp_of o) =
          subst₂ (λ a b. Precedes (stamp_of a) (stamp_of b)) (any cores k o c below) (sym is) (least j o low) in
          subst (λ l. IsDue (x j) l e.stamp most o) (sym same) (record {
            has = due.has;
            later = after_first e.stamp (waiting_of o)
                (subst (λ r. Precedes (option_map (λ f. f.stamp) r) (stamp_of o)) waits before);
          })

  -- the core waits for its event, and makes it
  pub followed_made : (r : Option Event) → waiting_of (get_or cores k c) ≡ r → IsSome r → k < length cores
      → IsSeated n k (get_or cores k c)
      → IfSome r (EventFits (place_of (get_or cores k c)) most) → IfSome r (λ e. length e.ops ≡ 8)
      → IfSome r (λ e. (x : Core) (made : List Operation) → StandsFor (get_or cores k c) x made
      → HasNext x (made ++ made_on e words) most c')
      → IfSome r (λ e. (w : ℕ) → words' w ≡ after (made_on e words) words w)
      → ((j : ℕ) (d : Cpu) → j < length cores → Precedes (stamp_of (get_or cores k d)) (stamp_of (get_or cores j d)))
      → Followed n most x cores words → Followed n most x (slice_set cores k c') words'
  followed_made None waits some below seat fits sized next_of words_are least h = absurd (true≢false (sym some))
  followed_made (Some e) waits some below seat fits sized next_of words_are least h =
      let first_some : 0 < length (take e.count e.ops) = omega (arith, length-take e.count e.ops, sized, fits.some) in
      followed_more e below waits (subst₂ (λ m j. e.stamp % m ≡ j) seat.cores seat.core fits.core) first_some next_of
      words_are least h

-- ---- the end

core_at : (cores : List Cpu) (k : ℕ) → k < length cores → (c : Cpu) × (c ≡ get_or cores k c)
core_at [] k below = absurd (omega (arith, below))
core_at (c ∷ cs) zero below = (c, refl)
core_at (c ∷ cs) (suc k) below = core_at cs k (omega (arith, below))

module _ (n most : ℕ) (x : ℕ → Core) (cores : List Cpu) (words : ℕ → ℕ) (some : 0 < n) (count : length cores ≡ n)
    (seated : Every (IsSeated n) cores) (none : Every (λ k c. waiting_of c ≡ None) cores)
    (h : Followed n most x cores words) where
  made_all : (k : ℕ) (c : Cpu) → IsSeated n k c → waiting_of c ≡ None
      → IsDue (x k) (operations_of n k h.made) h.last most c → (apart turn n k (x k) (loads (operations_of n k h.made))
      most).made ≡ operations_of n k h.made
  made_all k c seat free due =
      let site : (((x k).plain.site.cores ≡ (place_of c).cores) × ((x k).plain.site.core ≡ (place_of c).core)) =
      sited c (x k) (operations_of n k h.made) due.has.stands in
      let all : HasMadeAll (x k) (operations_of n k h.made) most = due.has.all (ap is_some free) in
      subst₂ (λ m core. (apart turn m core (x k) (loads (operations_of n k h.made)) most).made
      ≡ operations_of n k h.made) (site.0 ∙ seat.cores) (site.1 ∙ seat.core)
      (ap (λ l. (apart_from (x k) l most).made) (sym (append-nil (loads (operations_of n k h.made))))
      ∙ ap (λ a. a.made) (all []))

  merge : IsMerge turn n x most h.made
  merge = record {
    rising = h.merging.rising;
    reads = h.merging.reads;
    parts = λ k among.
        let below : k < length cores = omega (arith, among, count) in
        let there = core_at cores k below in
        made_all k there.0 (every_core (IsSeated n) cores k there.0 seated below there.1)
        (every_core (λ k c. waiting_of c ≡ None) cores k there.0 none below there.1)
        (every_core (λ k. IsDue (x k) (operations_of n k h.made) h.last most) cores k there.0 h.due below there.1);
  }

  pub followed_words : (w : ℕ) → words w ≡ (cycled turn n x most).words w
  followed_words w = ap (λ f. f w) (h.left ∙ sym (merge_words turn n x most h.made some merge))

  pub followed_cores : Every (λ k c. StandsFor c (x k) (operations_of n k (cycled turn n x most).made)) cores
  followed_cores k = each_some (IsDue (x k) (operations_of n k h.made) h.last most)
      (λ c. StandsFor c (x k) (operations_of n k (cycled turn n x most).made))
      (λ c due. subst (λ l. StandsFor c (x k) (operations_of n k l)) (merge_is_all turn n x most h.made some merge)
      due.has.stands) (slice_get cores k) (h.due k)

-- ---- places, and how far the cores have come

seat_of : (n k : ℕ) (r' r : Option Cpu) → option_map place_of r' ≡ option_map place_of r → IfSome r (IsSeated n k)
    → IfSome r' (IsSeated n k)
seat_of n k None r e h = tt
seat_of n k (Some c') None e h = absurd (none-some (place_of c') (sym e))
seat_of n k (Some c') (Some c) e h =
    let same : place_of c' ≡ place_of c = same_Some (place_of c') (place_of c) e in
    record { cores = ap (λ p. p.cores) same ∙ h.cores; core = ap (λ p. p.core) same ∙ h.core }

pub seated_still : (n : ℕ) (cores' cores : List Cpu) → map place_of cores' ≡ map place_of cores
    → Every (IsSeated n) cores → Every (IsSeated n) cores'
seated_still n cores' cores same h k =
    seat_of n k (slice_get cores' k) (slice_get cores k) (sym (slice_get-map place_of cores' k)
    ∙ ap (λ l. slice_get l k) same ∙ slice_get-map place_of cores k) (h k)

-- how many parts of cycles all cores have before them at most
abbrev pub parts_left : ℕ → List Cpu → ℕ
parts_left most [] = 0
parts_left most (c ∷ cs) = (3 * most - phases_of c) + parts_left most cs

pub fewer_left : (most : ℕ) (cores : List Cpu) (k : ℕ) (c c' : Cpu) → k < length cores → phases_of (get_or cores k c)
    < phases_of c' → phases_of (get_or cores k c) < 3 * most → parts_left most (slice_set cores k c')
    < parts_left most cores
fewer_left most [] k c c' below further before = absurd (omega (arith, below))
fewer_left most (o ∷ os) zero c c' below further before = omega (arith, further, before)
fewer_left most (o ∷ os) (suc k) c c' below further before =
    omega (arith, fewer_left most os k c c' (omega (arith, below)) further before)

-- ---- what the cores that wait for nothing are

no_event : (r : Option Event) → IsNone r → r ≡ None
no_event None none = refl
no_event (Some e) none = absurd (true≢false none)

pub none_wait : (cores : List Cpu) → ((k : ℕ) (d : Cpu) → k < length cores → IsNone (waiting_of (get_or cores k d)))
    → Every (λ k c. waiting_of c ≡ None) cores
none_wait cores none = every_from (λ k c. waiting_of c ≡ None) cores
    (λ k d below. no_event (waiting_of (get_or cores k d)) (none k d below))

pub all_through : (most : ℕ) (cores : List Cpu) → Every (λ k. IsReady most) cores
    → ((k : ℕ) (d : Cpu) → k < length cores → IsNone (waiting_of (get_or cores k d))) → Every (λ k. IsThrough) cores
all_through most cores ready none = every_from (λ k. IsThrough) cores
    (λ k d below. (every_at (λ k. IsReady most) cores k d ready below).through (none k d below))
