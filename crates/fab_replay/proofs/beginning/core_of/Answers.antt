use Rattle.std.proofs.Common.{Err, map, ap, sym, ◌∙◌, subst, refl}
use Rattle.std.specs.Prelude.{Ok}
use Rattle.fab_core.specs.Starts.{AreBack, given_by}
use Rattle.fab_node.specs.Standing.{IsGiven}
use Rattle.fab_replay.specs.Making.{HasNoCore}
use Rattle.fab_replay.specs.Running.{AreNew, seen_by}
use Rattle.fab_replay.specs.declared.journals.Unstarted.TheVariants as u
use Rattle.fab_replay.proofs.Starting.{many, no_memory, taken, unwritten}
use Rattle.fab_replay.proofs.Keeping.{new_empty}
use Rattle.fab_replay.proofs.Viewing.{err_as}
use Rattle.fab_replay.proofs.beginning.core_of.Goals as goal

pub make-requires-clause-content : goal.make-requires-clause-content
make-requires-clause-content g c =
    let J = g.M.Item.Journal in
    let M = g.M.Journals in
    new_empty (seen_by J.content J.synced J.room J.faults J.sure) (M.seen c.args.journals.now).may_fail c.args.bundle.now c.args.nodes.now c.args.made c.requires.new

pub make-requires-clause-many : goal.make-requires-clause-many
make-requires-clause-many g c =
    let J = g.M.Item.Journal in
    let M = g.M.Journals in
    many (seen_by J.content J.synced J.room J.faults J.sure) (M.seen c.args.journals.now).may_fail (given_by c.args.program.value c.args.rights) c.args.bundle.now c.args.nodes.now
    c.args.made c.requires.bundle c.requires.nodes c.requires.new

pub returns-in-Ok-clause-unfailed : goal.returns-in-Ok-clause-unfailed
returns-in-Ok-clause-unfailed g c =
    let J = g.M.Item.Journal in
    let M = g.M.Journals in
    taken (seen_by J.content J.synced J.room J.faults J.sure) (M.seen c.args.journals.now).may_fail (given_by c.args.program.value c.args.rights) c.args.bundle.now c.args.nodes.now
    c.args.made c.requires.bundle c.requires.nodes c.requires.new
    c.in-Ok.core c.in-Ok.ensures.given c.in-Ok.ensures.journals c.is_a_run.ensures.given c.journals_are.ensures

pub returns-in_ok-keep_all-in-Err-Memory-clause-failed : goal.returns-in_ok-keep_all-in-Err-Memory-clause-failed
returns-in_ok-keep_all-in-Err-Memory-clause-failed g c =
    let J = g.M.Item.Journal in
    let M = g.M.Journals in
    let made = c.in-Err-Memory.ensures in
    no_memory (seen_by J.content J.synced J.room J.faults J.sure) (M.seen c.args.journals.now).may_fail (given_by c.args.program.value c.args.rights) c.args.bundle.now c.args.nodes.now c.args.made
    c.requires.bundle c.requires.nodes c.requires.new c.in-Err-Memory.back (M.seen c.args.journals.now) (M.seen c.keep_all.new.journals)
    (made.fresh c.in-Err-Memory.back (ap Err c.in-Err-Memory.field-0-is)) (made.unfailed c.in-Err-Memory.back (ap Err c.in-Err-Memory.field-0-is)) c.in_ok-keep_all-in-Err-Memory.ensures.back

pub returns-in_err-keep_all-in-Err-Memory-clause-failed : goal.returns-in_err-keep_all-in-Err-Memory-clause-failed
returns-in_err-keep_all-in-Err-Memory-clause-failed g c =
    let J = g.M.Item.Journal in
    let M = g.M.Journals in
    let made = c.in-Err-Memory.ensures in
    err_as (HasNoCore (given_by c.args.program.value c.args.rights) (M.seen c.args.journals.now) (M.seen c.keep_all.new.journals)) u.Memory c.from_residual.result c.from_residual.ensures.1
    (no_memory (seen_by J.content J.synced J.room J.faults J.sure) (M.seen c.args.journals.now).may_fail (given_by c.args.program.value c.args.rights) c.args.bundle.now c.args.nodes.now c.args.made
    c.requires.bundle c.requires.nodes c.requires.new c.in-Err-Memory.back (M.seen c.args.journals.now) (M.seen c.keep_all.new.journals)
    (made.fresh c.in-Err-Memory.back (ap Err c.in-Err-Memory.field-0-is)) (made.unfailed c.in-Err-Memory.back (ap Err c.in-Err-Memory.field-0-is)) c.in_err-keep_all-in-Err-Memory.ensures.back)

pub returns-in-Err-Journal-clause-failed : goal.returns-in-Err-Journal-clause-failed
returns-in-Err-Journal-clause-failed g c =
    let J = g.M.Item.Journal in
    let M = g.M.Journals in
    let made = c.in-Err-Journal.ensures in
    let given = given_by c.args.program.value c.args.rights in
    let back : AreBack given c.in-Err-Journal.node (map (λ j. (J.faults j, J.sure j)) c.args.made) (map (λ j. (J.faults j, J.sure j)) c.in-Err-Journal.back) =
    made.back c.in-Err-Journal.node c.in-Err-Journal.back (ap Err c.in-Err-Journal.field-0-is) in
    unwritten (seen_by J.content J.synced J.room J.faults J.sure) (M.seen c.args.journals.now).may_fail given c.args.bundle.now c.args.nodes.now c.args.made
    c.requires.bundle c.requires.nodes c.requires.new
    (record { start = c.requires.accepted.0; program = c.requires.accepted.1; accepted = c.requires.accepted.2; roots = refl }) c.in-Err-Journal.node c.in-Err-Journal.back back
    (made.left c.in-Err-Journal.node c.in-Err-Journal.back (ap Err c.in-Err-Journal.field-0-is)) (M.seen c.args.journals.now) (M.seen c.keep_all-kept.new.journals) refl
    c.keep_all-kept.ensures.back
