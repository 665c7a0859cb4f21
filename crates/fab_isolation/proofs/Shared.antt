-- What a set of nodes sees of a bundle, by its public part alone.
use Rattle.std.proofs.Common.{refl}
use Rattle.fab_isolation.specs.Law.{RightsArePublic, SightsArePublic}

pub sights_are_public : SightsArePublic
sights_are_public r sees shows has = refl

pub rights_are_public : RightsArePublic
rights_are_public r sees shows rights are = record {
  workers = are.workers;
  stores = are.stores;
  classes = are.classes;
  shapes = are.shapes;
  fetched = are.fetched;
  written = are.written;
  held = are.held;
  formed = are.formed;
}
