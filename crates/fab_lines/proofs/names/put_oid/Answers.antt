use Rattle.std.proofs.Common.{◌++◌}
use Rattle.fab_base.specs.FieldSpelling.{two_bytes, four_bytes}
use Rattle.fab_lines.proofs.Texts.{hex_then}
use Rattle.fab_lines.proofs.names.put_oid.Goals as goal

pub returns : goal.returns
returns c =
    let e5 = hex_then c.put_four-2.new.out c.put_two-4.new.out c.put_two-5.new.out (two_bytes c.args.oid.site) (two_bytes c.args.oid.index) c.in_ok-put_two-4.ensures c.in_ok-put_two-5.ensures in
    let e4 = hex_then c.put_four.new.out c.put_four-2.new.out c.put_two-5.new.out (four_bytes c.args.oid.number) (two_bytes c.args.oid.site ++ (two_bytes c.args.oid.index)) c.in_ok-put_four-2.ensures e5 in
    let e3 = hex_then c.put_two-3.new.out c.put_four.new.out c.put_two-5.new.out (four_bytes c.args.oid.boot) (four_bytes c.args.oid.number ++ (two_bytes c.args.oid.site ++ (two_bytes c.args.oid.index))) c.in_ok-put_four.ensures e4 in
    let e2 = hex_then c.put_two-2.new.out c.put_two-3.new.out c.put_two-5.new.out (two_bytes c.args.oid.worker) (four_bytes c.args.oid.boot ++ (four_bytes c.args.oid.number ++ (two_bytes c.args.oid.site ++ (two_bytes c.args.oid.index)))) c.in_ok-put_two-3.ensures e3 in
    let e1 = hex_then c.put_two.new.out c.put_two-2.new.out c.put_two-5.new.out (two_bytes c.args.oid.class) (two_bytes c.args.oid.worker ++ (four_bytes c.args.oid.boot ++ (four_bytes c.args.oid.number ++ (two_bytes c.args.oid.site ++ (two_bytes c.args.oid.index))))) c.in_ok-put_two-2.ensures e2 in
    let e0 = hex_then c.args.out.now c.put_two.new.out c.put_two-5.new.out (two_bytes c.args.oid.store) (two_bytes c.args.oid.class ++ (two_bytes c.args.oid.worker ++ (four_bytes c.args.oid.boot ++ (four_bytes c.args.oid.number ++ (two_bytes c.args.oid.site ++ (two_bytes c.args.oid.index)))))) c.in_ok-put_two.ensures e1 in
    e0
