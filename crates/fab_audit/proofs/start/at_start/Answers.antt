use Rattle.std.proofs.Common.{◌∙◌, ap, Err, length}
use Rattle.fab_core.specs.Starts.{given_by}
use Rattle.fab_core.proofs.Honest.{honest_long}
use Rattle.fab_audit.proofs.Sureness.{none_may_fail, sure_at_start}
use Rattle.fab_audit.proofs.start.at_start.Goals as goal

pub make-requires-clause-content : goal.make-requires-clause-content
make-requires-clause-content c = c.in_ok-journals.ensures.empty

pub make-requires-clause-many : goal.make-requires-clause-many
make-requires-clause-many c = c.in_ok-journals.ensures.long ∙ ap length c.requires.nodes ∙ honest_long (given_by c.args.program.value c.args.rights) 64

pub returns-in-Ok-clause-sure : goal.returns-in-Ok-clause-sure
returns-in-Ok-clause-sure c = sure_at_start c.in-Ok.core.journals c.in_ok-journals.journals c.in-Ok.ensures.journals

pub unreachable-requires : goal.unreachable-requires
unreachable-requires c =
    let back = c.in-Err-Journal.ensures.back c.in-Err-Journal.field-0-0 c.in-Err-Journal.field-0-1 (ap Err c.in-Err-Journal.field-0-is) in
    none_may_fail c.in_ok-journals.journals back.before back.behind back.was back.old_is
