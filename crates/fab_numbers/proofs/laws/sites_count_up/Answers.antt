use Rattle.fab_numbers.proofs.SitesInOrder.{methods_orders}
use Rattle.fab_numbers.proofs.laws.sites_count_up.Goals as goal

pub returns : goal.returns
returns c s = (methods_orders s s.program.methods).order 0
