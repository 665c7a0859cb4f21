use Rattle.std.proofs.Common.{codes, length}
use Rattle.std.proofs.lemmas.Result.{on_ok_weaker}
use Rattle.std.specs.Fmt.{decimal}
use Rattle.fab_marks.proofs.Joined.{three}
use Rattle.fab_marks.proofs.texts.put_read.Goals as goal

pub returns-in_ok-put_number-in-None : goal.returns-in_ok-put_number-in-None
returns-in_ok-put_number-in-None c =
    rw c.in-None.is
    (on_ok_weaker c.extend-in-None.result
    (three c.args.out.now c.extend.new.self c.put_number.new.out c.extend-in-None.new.self
    (codes "no message, ") (decimal (length c.args.bytes.now)) (codes " bytes") c.in_ok-extend-in-None.ensures.ok
    c.in_ok-put_number-in-None.ensures)
    c.extend-in-None.ensures.ok)
