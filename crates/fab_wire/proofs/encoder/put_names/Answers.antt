use Rattle.std.proofs.Common.{◌∷◌}
use Rattle.fab_base.specs.FieldSpelling.{oid_bytes, tid_bytes}
use Rattle.fab_wire.proofs.Pushes.{pushed}
use Rattle.fab_wire.proofs.encoder.put_names.Goals as goal

pub returns-clause-bytes : goal.returns-clause-bytes
returns-clause-bytes c = pushed c.args.out.now (c.args.tag ∷ tid_bytes c.args.tid) (oid_bytes c.args.oid) c.in_ok-put_tagged_tid.ensures.bytes c.in_ok-put_oid.ensures.bytes
