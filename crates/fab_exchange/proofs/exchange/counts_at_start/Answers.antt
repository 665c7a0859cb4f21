use Rattle.std.proofs.Common.{[], sym, subst}
use Rattle.fab_exchange.specs.Exchanges.{AreCounts}
use Rattle.fab_exchange.proofs.Starts.{start_counts}
use Rattle.fab_exchange.proofs.exchange.counts_at_start.Goals as goal

pub returns : goal.returns
returns c = subst (AreCounts []) (sym c.in_ok-counts.ensures.items) start_counts
