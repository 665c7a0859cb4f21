use Rattle.std.proofs.Common.{subst}
use Rattle.fab_replay.specs.Running.{AreBehind, ComesBy, fails_by}
use Rattle.fab_audit.proofs.Sureness.{never_cut, still_sure}
use Rattle.fab_audit.proofs.Telling.{barred_told, whole_told}
use Rattle.fab_audit.proofs.retelling.comes_whole.Goals as goal

pub returns-in-Whole-clause-came : goal.returns-in-Whole-clause-came
returns-in-Whole-clause-came c =
    whole_told c.args.core.now.given c.args.core.now.moves c.come_next.new.core.moves c.args.event
    (subst (λ x. ComesBy c.args.core.now.given c.args.event c.args.core.now.moves c.come_next.new.core.moves x) c.in-Whole.is c.in_ok-come_next.ensures.came)

pub returns-in-Barred-clause-came : goal.returns-in-Barred-clause-came
returns-in-Barred-clause-came c =
    barred_told c.args.core.now.given c.args.core.now.moves c.come_next.new.core.moves c.args.event
    (subst (λ x. ComesBy c.args.core.now.given c.args.event c.args.core.now.moves c.come_next.new.core.moves x) c.in-Barred.is c.in_ok-come_next.ensures.came)

pub returns-in-Whole-clause-sure : goal.returns-in-Whole-clause-sure
returns-in-Whole-clause-sure c =
    still_sure (fails_by c.args.event c.in_ok-come_next.field-0) c.args.core.now.journals c.come_next.new.core.journals c.in_ok-come_next.ensures.journals c.requires.sure

pub returns-in-Barred-clause-sure : goal.returns-in-Barred-clause-sure
returns-in-Barred-clause-sure c =
    still_sure (fails_by c.args.event c.in_ok-come_next.field-0) c.args.core.now.journals c.come_next.new.core.journals c.in_ok-come_next.ensures.journals c.requires.sure

pub unreachable-requires : goal.unreachable-requires
unreachable-requires c =
    never_cut c.args.event c.args.core.now.journals c.come_next.new.core.journals
    (subst (λ x. AreBehind (fails_by c.args.event x) c.args.core.now.journals c.come_next.new.core.journals) c.in-Cut.is c.in_ok-come_next.ensures.journals) c.requires.sure
