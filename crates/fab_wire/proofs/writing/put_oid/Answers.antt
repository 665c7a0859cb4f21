use Rattle.std.proofs.Common.{◌++◌}
use Rattle.fab_base.specs.FieldSpelling.{two_bytes, four_bytes}
use Rattle.fab_wire.proofs.Pushes.{pushed}
use Rattle.fab_wire.proofs.writing.put_oid.Goals as goal

pub returns-clause-bytes : goal.returns-clause-bytes
returns-clause-bytes c =
    let out = c.args.out.now in
    let o = c.args.oid in
    let s1 = two_bytes o.store in
    let s2 = s1 ++ two_bytes o.class in
    let s3 = s2 ++ two_bytes o.worker in
    let s4 = s3 ++ four_bytes o.boot in
    let s5 = s4 ++ four_bytes o.number in
    let s6 = s5 ++ two_bytes o.site in
    let e2 = pushed out s1 (two_bytes o.class) c.in_ok-put_u16.ensures c.in_ok-put_u16-2.ensures in
    let e3 = pushed out s2 (two_bytes o.worker) e2 c.in_ok-put_u16-3.ensures in
    let e4 = pushed out s3 (four_bytes o.boot) e3 c.in_ok-put_u32.ensures in
    let e5 = pushed out s4 (four_bytes o.number) e4 c.in_ok-put_u32-2.ensures in
    let e6 = pushed out s5 (two_bytes o.site) e5 c.in_ok-put_u16-4.ensures in
    pushed out s6 (two_bytes o.index) e6 c.in_ok-put_u16-5.ensures
