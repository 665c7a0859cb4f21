use Rattle.std.proofs.Common.{codes}
use Rattle.std.proofs.lemmas.Result.{on_ok_weaker}
use Rattle.fab_marks.specs.Labels.{object_text}
use Rattle.fab_marks.proofs.Joined.{two}
use Rattle.fab_marks.proofs.texts.put_answer.Goals as goal

pub returns-in_ok-extend-in-IllFormed : goal.returns-in_ok-extend-in-IllFormed
returns-in_ok-extend-in-IllFormed c =
    let text = object_text c.args.start.now c.in-IllFormed.oid in
    rw c.in-IllFormed.is
    (on_ok_weaker c.put_object-in-IllFormed.result (two c.args.out.now c.extend-in-IllFormed.new.self c.put_object-in-IllFormed.new.out
    (codes "ill-formed ") text c.in_ok-extend-in-IllFormed.ensures.ok)
    c.put_object-in-IllFormed.ensures)
