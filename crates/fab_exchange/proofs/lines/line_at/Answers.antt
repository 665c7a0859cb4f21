use Rattle.std.proofs.Common.{◌==◌, rules, tests}
use Rattle.std.proofs.lemmas.Iterator.{YieldsList-from_slice}
use Rattle.std.proofs.lemmas.Iterator.Consumers.{YieldsList-from_filter, nth_from_yields_List}
use Rattle.fab_tree.specs.declared.resolved.Crash.{Crash}
use Rattle.fab_exchange.proofs.lines.line_at.Goals as goal

pub returns : goal.returns
returns c =
    nth_from_yields_List c.nth.result _ _ c.nth.ensures.ran
    (YieldsList-from_filter _ (λ (x : Crash). x.node == c.args.node) (YieldsList-from_slice c.args.program.now.crashes cc) c.filter.ensures.closure (λ x b q k. search (rules, tests)))
