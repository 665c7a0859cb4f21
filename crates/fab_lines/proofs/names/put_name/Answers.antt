use Rattle.fab_lines.proofs.Texts.{unnamed}
use Rattle.fab_lines.proofs.names.put_name.Goals as goal

pub returns-in_ok-put_oid-in-None : goal.returns-in_ok-put_oid-in-None
returns-in_ok-put_oid-in-None c =
    let n = rw c.as_slice.ensures at c.in-None.ensures in
    unnamed c.args.out.now c.push.new.self c.put_oid.new.out c.args.start.now c.args.oid n c.in_ok-push-in-None.ensures.ok c.in_ok-put_oid-in-None.ensures
