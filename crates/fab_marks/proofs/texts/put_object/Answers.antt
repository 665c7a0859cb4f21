use Rattle.std.proofs.Common.{◌∙◌}
use Rattle.std.proofs.lemmas.Result.{on_ok_weaker}
use Rattle.fab_marks.proofs.Joined.{named}
use Rattle.fab_marks.proofs.texts.put_object.Goals as goal

pub returns-in-Some : goal.returns-in-Some
returns-in-Some c =
    let found = rw c.as_slice.ensures at c.in-Some.ensures in
    let put = rw (c.as_bytes.ensures.value ∙ c.as_str.ensures) at c.put_short.ensures in
    on_ok_weaker c.put_short.result (named c.args.start.now c.args.oid c.in-Some.root.now c.args.out.now c.put_short.new.out found) put
