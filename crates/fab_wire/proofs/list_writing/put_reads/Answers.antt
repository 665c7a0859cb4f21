use Rattle.std.proofs.Common.{ℕ, get_or, refl}
use Rattle.fab_base.specs.declared.object.Oid.{Oid}
use Rattle.fab_base.specs.FieldSpelling.{read_bytes, IsRead}
use Rattle.fab_wire.proofs.Pushes.{more_bytes, more_fits}
use Rattle.fab_wire.proofs.list_writing.put_reads.Goals as goal

pub loop-read-preserved : goal.loop-read-preserved
loop-read-preserved c =
    let d : Oid × ℕ = (record { store = 0; class = 0; worker = 0; boot = 0; number = 0; site = 0; index = 0 }, 0) in
    let i = c.loop-read.read-index in
    let x = get_or c.args.reads.now i d in
    record {
      bytes = more_bytes read_bytes c.args.out.now c.args.reads.now i d x c.loop-read-test.true refl c.loop-read.invariant.bytes c.in_ok-put_read.ensures.bytes;
      fits = more_fits IsRead c.args.reads.now i d x c.loop-read-test.true refl c.loop-read.invariant.fits c.in_ok-put_read.ensures.fits;
    }
