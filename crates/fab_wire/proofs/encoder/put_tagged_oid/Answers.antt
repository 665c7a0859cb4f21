use Rattle.std.proofs.Common.{◌∷◌, []}
use Rattle.fab_base.specs.FieldSpelling.{oid_bytes}
use Rattle.fab_wire.proofs.Pushes.{pushed}
use Rattle.fab_wire.proofs.encoder.put_tagged_oid.Goals as goal

pub returns-clause-bytes : goal.returns-clause-bytes
returns-clause-bytes c = pushed c.args.out.now (c.args.tag ∷ []) (oid_bytes c.args.oid) c.in_ok-put_u8.ensures c.in_ok-put_oid.ensures.bytes
