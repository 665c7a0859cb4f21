use Rattle.fab_worker.proofs.Keeping.{boot_of}
use Rattle.fab_worker.proofs.Rows.{in_a_row}
use Rattle.fab_worker.proofs.laws.kept_in_a_row.Goals as goal

pub returns : goal.returns
returns c = record {
  kept = in_a_row;
  boot = boot_of;
}
