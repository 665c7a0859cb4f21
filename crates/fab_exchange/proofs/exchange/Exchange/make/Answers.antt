use Rattle.std.proofs.Common.{ap, ◌∙◌}
use Rattle.fab_rights.specs.Computed.{nodes_in}
use Rattle.fab_exchange.proofs.Starts.{start_is}
use Rattle.fab_exchange.proofs.exchange.Exchange.make.Goals as goal

pub invariant_of-result : goal.invariant_of-result
invariant_of-result g c =
    start_is c.args.core c.in-Ok.nodes.items c.in-Ok-counts_at_start.counts.items c.requires.start c.requires.unfailed (c.in-Ok.ensures ∙ ap nodes_in c.rights.ensures) c.in-Ok-counts_at_start.ensures
