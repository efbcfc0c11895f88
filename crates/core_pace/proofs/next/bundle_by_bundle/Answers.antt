use Rattle.core_pace.proofs.Listed.{next_bundles}
use Rattle.core_pace.proofs.Onward.{goes_onward}
use Rattle.core_pace.proofs.next.bundle_by_bundle.Goals as goal

pub returns-clause-passes : goal.returns-clause-passes
returns-clause-passes c = λ n core x values m at. (goes_onward n core x values m at).passes

pub returns-clause-comes : goal.returns-clause-comes
returns-clause-comes c = λ n core x values m at. (goes_onward n core x values m at).comes

pub returns-clause-free : goal.returns-clause-free
returns-clause-free c = λ n core x values m at. (goes_onward n core x values m at).free

pub returns-clause-site : goal.returns-clause-site
returns-clause-site c = λ n core x values m at. (goes_onward n core x values m at).site_is

pub returns-clause-pace : goal.returns-clause-pace
returns-clause-pace c = λ n core x values m at. (goes_onward n core x values m at).pace

pub returns-clause-bundles : goal.returns-clause-bundles
returns-clause-bundles c = λ n core x values m at. next_bundles n core m at.about
