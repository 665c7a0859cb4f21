use Rattle.std.proofs.Common.{◌∷◌, []}
use Rattle.fab_base.specs.FieldSpelling.{oid_bytes}
use Rattle.fab_wire.proofs.Pushes.{pushed}
use Rattle.fab_wire.proofs.writing.put_value.Goals as goal

pub returns-in_ok-put_oid-in-Ref-clause-bytes : goal.returns-in_ok-put_oid-in-Ref-clause-bytes
returns-in_ok-put_oid-in-Ref-clause-bytes c = rw c.in-Ref.is (pushed c.args.out.now (2 ∷ []) (oid_bytes c.in-Ref.oid) c.in_ok-put_u8-in-Ref.ensures c.in_ok-put_oid-in-Ref.ensures.bytes)
