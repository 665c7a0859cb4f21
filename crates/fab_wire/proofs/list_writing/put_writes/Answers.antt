use Rattle.fab_base.specs.FieldSpelling.{write_bytes, IsWrite, sent_version}
use Rattle.fab_wire.proofs.Pushes.{more_bytes, more_fits}
use Rattle.fab_wire.proofs.list_writing.put_writes.Goals as goal

pub loop-write-preserved : goal.loop-write-preserved
loop-write-preserved c = record {
  bytes = more_bytes write_bytes c.args.out.now c.args.writes.now c.loop-write.write-index c.write-item.result c.write-item.result c.loop-write-test.true c.write-item.is c.loop-write.invariant.bytes c.in_ok-put_write.ensures.bytes;
  fits = more_fits (IsWrite sent_version) c.args.writes.now c.loop-write.write-index c.write-item.result c.write-item.result c.loop-write-test.true c.write-item.is c.loop-write.invariant.fits c.in_ok-put_write.ensures.fits;
}
