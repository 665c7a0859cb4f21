use Rattle.fab_base.specs.FieldSpelling.{create_bytes, IsCreate, sent_version}
use Rattle.fab_wire.proofs.Pushes.{more_bytes, more_fits}
use Rattle.fab_wire.proofs.list_writing.put_creates.Goals as goal

pub loop-create-preserved : goal.loop-create-preserved
loop-create-preserved c = record {
  bytes = more_bytes create_bytes c.args.out.now c.args.creates.now c.loop-create.create-index c.create-item.result c.create-item.result c.loop-create-test.true c.create-item.is c.loop-create.invariant.bytes c.in_ok-put_create.ensures.bytes;
  fits = more_fits (IsCreate sent_version) c.args.creates.now c.loop-create.create-index c.create-item.result c.create-item.result c.loop-create-test.true c.create-item.is c.loop-create.invariant.fits c.in_ok-put_create.ensures.fits;
}
