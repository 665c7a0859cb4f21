use Rattle.fab_numbers.proofs.SitedInOrder.{as_many_as_places, sites_enumerated}
use Rattle.fab_numbers.proofs.laws.labels_stand_at_their_sites.Goals as goal

pub returns : goal.returns
returns c = record { order = sites_enumerated; all = as_many_as_places }
