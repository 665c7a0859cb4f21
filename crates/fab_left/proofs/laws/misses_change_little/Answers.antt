use Rattle.fab_base.specs.declared.object.Tid.{Tid}
use Rattle.fab_left.proofs.Lacking as lacking
use Rattle.fab_left.proofs.ErasedLacking as erased_lacking
use Rattle.fab_left.proofs.laws.misses_change_little.Goals as goal

pub returns : goal.returns
returns c = record {
  acts = lacking.act_misses;
  results = lacking.returned_misses;
  erased_acts = erased_lacking.act_misses;
  erased_results = λ sees shows classes locals returns r.
      let tid : Tid = record { worker = 0; boot = 0; number = 0 } in
      erased_lacking.returned_misses sees shows classes locals tid returns r;
  back = lacking.put_back;
}
