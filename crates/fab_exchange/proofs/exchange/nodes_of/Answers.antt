use Rattle.std.proofs.Common.{rules, refl, tests}
use Rattle.std.proofs.lemmas.Iterator.{YieldsList-from_range, items_from_collect}
use Rattle.std.proofs.lemmas.Iterator.Consumers.{YieldsList-from_filter}
use Rattle.fab_rights.specs.Computed.{is_node}
use Rattle.fab_exchange.proofs.exchange.nodes_of.Goals as goal

pub returns : goal.returns
returns c =
    items_from_collect _ c.collect.ensures.ran
    (YieldsList-from_filter _ (is_node c.args.rights.now) (YieldsList-from_range 0 64 64 c.filter.ensures.source refl) c.filter.ensures.closure (λ x b q k. search (rules, tests)))
