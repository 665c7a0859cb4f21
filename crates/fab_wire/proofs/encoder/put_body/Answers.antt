use Rattle.std.proofs.Common.{◌∷◌, ◌++◌}
use Rattle.fab_base.specs.FieldSpelling.{four_bytes, oid_bytes, tid_bytes, object_bytes}
use Rattle.fab_base.specs.MessageSpelling.{why_bytes}
use Rattle.fab_wire.proofs.Pushes.{pushed}
use Rattle.fab_wire.proofs.encoder.put_body.Goals as goal

pub returns-in_ok-put_object-in-Object-clause-bytes : goal.returns-in_ok-put_object-in-Object-clause-bytes
returns-in_ok-put_object-in-Object-clause-bytes c =
    let out = c.args.out.now in
    let s2 = 2 ∷ (tid_bytes c.in-Object.tid ++ oid_bytes c.in-Object.oid) in
    let s3 = s2 ++ four_bytes c.in-Object.version in
    let e3 = pushed out s2 (four_bytes c.in-Object.version) c.in_ok-put_names-in-Object.ensures.bytes c.in_ok-put_u32-in-Object.ensures in
    rw c.in-Object.is (pushed out s3 (object_bytes c.in-Object.object) e3 c.in_ok-put_object-in-Object.ensures.bytes)

pub returns-in_ok-put_why-in-Deny-clause-bytes : goal.returns-in_ok-put_why-in-Deny-clause-bytes
returns-in_ok-put_why-in-Deny-clause-bytes c =
    let out = c.args.out.now in
    let s2 = 3 ∷ (tid_bytes c.in-Deny.tid ++ oid_bytes c.in-Deny.oid) in
    rw c.in-Deny.is (pushed out s2 (why_bytes c.in-Deny.why) c.in_ok-put_names-in-Deny.ensures.bytes c.in_ok-put_why-in-Deny.ensures)
