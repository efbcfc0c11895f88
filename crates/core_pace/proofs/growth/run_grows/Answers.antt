use Rattle.std.proofs.Common.{◌≡◌, ℕ, ◌+◌, List, refl, sym, ap, subst, ◌∙◌}
use Rattle.shared_order.specs.Apart.{Alone, apart}
use Rattle.patmos_model.specs.State.{Core, Sending, is_running}
use Rattle.patmos_model.specs.Begin.{begun}
use Rattle.patmos_model.specs.Cycle.{turn}
use Rattle.patmos_model.specs.Apart.{Followed, followed, site_of}
use Rattle.patmos_model.proofs.Parts.{followed-run}
use Rattle.core_pace.specs.Growth.{below, BeginsWith, IsSameTask}
use Rattle.core_pace.specs.Moment.{core_in, before}
use Rattle.core_pace.proofs.Growing.{told_before, run_before, accesses_cut, stays_still}
use Rattle.core_pace.proofs.Heard.{heard_alone}
use Rattle.core_pace.proofs.Owned.{own_stays}
use Rattle.core_pace.proofs.SentGrows.{own_grows, sendings_grow}
use Rattle.core_pace.proofs.growth.run_grows.Goals as goal

-- the core of the run apart is that of the run with its bundles
core_before : (n core : ℕ) (x : Core) (values : List ℕ) (t : ℕ) → core_in (before n core x values t)
    ≡ (apart turn n core x values t).core
core_before n core x values t = ap (λ (a : Alone Core). a.core) (run_before n core x values t)

pub returns-clause-accesses : goal.returns-clause-accesses
returns-clause-accesses c = λ place image input values cycles more.
    let x : Core = begun (site_of place image) input in
    ap (λ (y : Core). below cycles y.seen.accesses) (sym (core_before place.cores place.core x values (cycles + more)))
    ∙ accesses_cut place.cores place.core x values refl cycles more
    ∙ ap (λ (y : Core). y.seen.accesses) (core_before place.cores place.core x values cycles)

pub returns-clause-stays : goal.returns-clause-stays
returns-clause-stays c = λ place image input values cycles more still.
    let x : Core = begun (site_of place image) input in
    let here : core_in (before place.cores place.core x values cycles)
    ≡ (apart turn place.cores place.core x values cycles).core =
    core_before place.cores place.core x values cycles in
    let there : core_in (before place.cores place.core x values (cycles + more))
    ≡ (apart turn place.cores place.core x values (cycles + more)).core =
    core_before place.cores place.core x values (cycles + more) in
    let kept : IsSameTask (core_in (before place.cores place.core x values cycles))
    (core_in (before place.cores place.core x values (cycles + more))) =
    stays_still place.cores place.core x values cycles more (ap (λ (y : Core). is_running y.plain) here ∙ still) in
    subst (λ d. IsSameTask (apart turn place.cores place.core x values cycles).core d) there
    (subst (λ y. IsSameTask y (core_in (before place.cores place.core x values (cycles + more)))) here kept)

pub returns-clause-own : goal.returns-clause-own
returns-clause-own c = λ place image input values cycles more.
    own_grows place.cores place.core (begun (site_of place image) input) values cycles more

pub returns-clause-sendings : goal.returns-clause-sendings
returns-clause-sendings c = λ place image input values cycles more.
    let x : Core = begun (site_of place image) input in
    let sendings : Alone Core → List Sending = λ a. a.core.seen.sendings in
    subst (λ a. BeginsWith (sendings a) (sendings (apart turn place.cores place.core x values cycles)))
    (followed-run place.cores place.core x values (cycles + more))
    (subst (λ a. BeginsWith (sendings (followed place.cores place.core x values (cycles + more)).run) (sendings a))
    (followed-run place.cores place.core x values cycles)
    (sendings_grow place.cores place.core x values cycles more))

pub returns-clause-no_more : goal.returns-clause-no_more
returns-clause-no_more c = λ place image input values cycles more still.
    let x : Core = begun (site_of place image) input in
    let here : core_in (before place.cores place.core x values cycles)
    ≡ (apart turn place.cores place.core x values cycles).core =
    core_before place.cores place.core x values cycles in
    ap (λ (f : Followed). f.own) (sym (told_before place.cores place.core x values (cycles + more)))
    ∙ own_stays place.cores place.core x values cycles more (ap (λ (y : Core). is_running y.plain) here ∙ still)
    ∙ ap (λ (f : Followed). f.own) (told_before place.cores place.core x values cycles)

pub returns-clause-values : goal.returns-clause-values
returns-clause-values c = λ place image input values more cycles among.
    heard_alone place.cores place.core (begun (site_of place image) input) values cycles among more
