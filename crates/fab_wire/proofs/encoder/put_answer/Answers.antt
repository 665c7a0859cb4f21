use Rattle.std.proofs.Common.{◌∷◌}
use Rattle.fab_base.specs.FieldSpelling.{four_bytes, oid_bytes}
use Rattle.fab_wire.proofs.Pushes.{pushed}
use Rattle.fab_wire.proofs.encoder.put_answer.Goals as goal

pub returns-in_ok-put_u32-in-Stale-clause-bytes : goal.returns-in_ok-put_u32-in-Stale-clause-bytes
returns-in_ok-put_u32-in-Stale-clause-bytes c =
    rw c.in-Stale.is (pushed c.args.out.now (1 ∷ oid_bytes c.in-Stale.oid) (four_bytes c.in-Stale.version) c.in_ok-put_tagged_oid-in-Stale.ensures.bytes c.in_ok-put_u32-in-Stale.ensures)
