use Rattle.std.proofs.Common.{refl}
use Rattle.fab_protocol.proofs.Records.{last_at}
use Rattle.fab_protocol.proofs.Refusals.{new_is_refused, old_is_told, others_stay, as_many_stay}
use Rattle.fab_protocol.proofs.Senders.{boot_stays}
use Rattle.fab_protocol.proofs.laws.a_no_leaves_all_but_the_last_tid.Goals as goal

pub returns : goal.returns
returns c = record {
  recorded = λ rights s t items shelf. new_is_refused rights s shelf t items;
  rows = λ t shelf. refl;
  prepared = λ t shelf. refl;
  senders = λ t shelf. others_stay shelf t;
  as_many = λ t shelf. as_many_stay shelf t;
  boots = λ t shelf. boot_stays shelf.senders t;
  last = λ t shelf. last_at shelf.senders t;
  old = λ rights s t items shelf. old_is_told rights s shelf t items;
}
