use Rattle.fab_protocol.specs.Stores.{shelf_at_start}
use Rattle.fab_store.proofs.Recovered.{all_kept, recovered}
use Rattle.fab_store.proofs.laws.recovery_gives_the_store.Goals as goal

pub returns : goal.returns
returns c = record {
  kept = λ rights s roots heard readable. all_kept rights s heard (shelf_at_start roots s) readable;
  shelf = λ rights s roots heard. recovered rights s roots heard;
}
