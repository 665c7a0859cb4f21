use Rattle.std.specs.Prelude.{IfOk, Some, None}
use Rattle.std.proofs.Common.{sym, subst}
use Rattle.fab_replay.specs.Replays.{IsTold}
use Rattle.fab_replay.specs.Running.{seen_by}
use Rattle.fab_replay.proofs.Ends.{cut_off, ended, first_possible, is_possible, untold}
use Rattle.fab_replay.proofs.Marks.{first_of_log}
use Rattle.fab_replay.proofs.ending.finished.Goals as goal

pub returns-clause-answer : goal.returns-clause-answer
returns-clause-answer g c =
    let J = g.M.Item.Journal in
    let M = g.M.Journals in
    let told = subst (λ r. IfOk r (IsTold c.args.core.given c.args.wanted.now c.args.core.moves)) c.in-Ok.is c.requires.answer in
    ended (seen_by J.content J.synced J.room J.faults J.sure) c.args.core c.args.program.now c.args.nodes.now c.into_journals.result c.is_a_run.ensures.given c.journals_are.ensures c.requires.marked
    c.requires.program c.requires.nodes c.into_journals.ensures c.args.wanted.now (M.seen c.args.journals.now) (M.seen c.keep_all-kept.new.journals) c.is_a_run.ensures.run
    c.requires.sure c.is_integral.ensures c.is_isolated.ensures c.is_trusted.ensures c.keep_all-kept.result c.keep_all-kept.ensures.back (sym c.if-is_ok.ensures.value) c.in-Ok.answer told.told

pub returns-clause-possible : goal.returns-clause-possible
returns-clause-possible g c =
    let M = g.M.Journals in
    let told = subst (λ r. IfOk r (IsTold c.args.core.given c.args.wanted.now c.args.core.moves)) c.in-Ok.is c.requires.answer in
    is_possible c.args.core.given c.args.core.moves c.args.core.journals c.requires.marked (M.seen c.args.journals.now).may_fail c.requires.sure c.args.wanted.now c.in-Ok.answer told.told

pub returns-in-Some-clause-answer : goal.returns-in-Some-clause-answer
returns-in-Some-clause-answer g c =
    let J = g.M.Item.Journal in
    let M = g.M.Journals in
    untold (seen_by J.content J.synced J.room J.faults J.sure) c.args.core c.args.program.now c.args.nodes.now c.into_journals.result c.is_a_run.ensures.given c.journals_are.ensures c.requires.marked
    c.requires.program c.requires.nodes c.into_journals.ensures c.args.wanted.now (M.seen c.args.journals.now) (M.seen c.keep_all-kept.new.journals) c.is_a_run.ensures.run
    c.keep_all-kept.ensures.back c.requires.on_way c.in-Some.node
    (first_of_log c.args.core.given c.args.core.moves c.log.result.now c.first_mark-mark.result (Some c.in-Some.node) c.log.ensures c.first_mark-mark.ensures c.in-Some.is)

pub returns-in-Some-clause-possible : goal.returns-in-Some-clause-possible
returns-in-Some-clause-possible g c =
    let M = g.M.Journals in
    first_possible c.args.core.given c.args.core.moves c.args.core.journals c.requires.marked (M.seen c.args.journals.now).may_fail c.requires.sure c.in-Some.node
    (first_of_log c.args.core.given c.args.core.moves c.log.result.now c.first_mark-mark.result (Some c.in-Some.node) c.log.ensures c.first_mark-mark.ensures c.in-Some.is)

pub returns-2-clause-memory : goal.returns-2-clause-memory
returns-2-clause-memory g c =
    let J = g.M.Item.Journal in
    let M = g.M.Journals in
    cut_off (seen_by J.content J.synced J.room J.faults J.sure) c.args.core c.args.program.now c.args.nodes.now c.into_journals.result c.is_a_run.ensures.given c.journals_are.ensures c.requires.marked
    c.requires.program c.requires.nodes c.into_journals.ensures c.args.wanted.now (M.seen c.args.journals.now) (M.seen c.keep_all-kept.new.journals) c.is_a_run.ensures.run
    c.keep_all-kept.ensures.back c.requires.on_way None
    (first_of_log c.args.core.given c.args.core.moves c.log.result.now c.first_mark-mark.result None c.log.ensures c.first_mark-mark.ensures c.in-None.is)
