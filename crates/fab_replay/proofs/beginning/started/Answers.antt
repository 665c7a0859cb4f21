use Rattle.std.specs.Prelude.{Ok, Err}
use Rattle.std.proofs.Common.{map, sym, ◌∙◌, subst, refl}
use Rattle.fab_core.specs.Starts.{given_by}
use Rattle.fab_replay.specs.Making.{HasFailedAt, HasMadeSome, HasNoJournal, HaveMade, IsUnstarted}
use Rattle.fab_replay.specs.Running.{GivesBack, entries_of, seen_by}
use Rattle.fab_replay.specs.declared.journals.Unstarted.TheVariants as u
use Rattle.fab_replay.proofs.Starting.{all_unstarted, names_of, no_journal, none_made, some_short, still_made}
use Rattle.fab_replay.proofs.Viewing.{err_as}
use Rattle.fab_replay.proofs.beginning.started.Goals as goal

pub returns-in_err-reserve-clause-failed : goal.returns-in_err-reserve-clause-failed
returns-in_err-reserve-clause-failed g c =
    let M = g.M.Journals in
    err_as (IsUnstarted (given_by c.args.program.value c.args.rights) (M.seen c.args.journals.now) (M.seen c.args.journals.now)) u.Memory c.from_residual.result c.from_residual.ensures.1 (none_made (given_by c.args.program.value c.args.rights) (M.seen c.args.journals.now))

pub returns-in-Ok-clause-made : goal.returns-in-Ok-clause-made
returns-in-Ok-clause-made g c =
    let M = g.M.Journals in
    let made = c.in-Ok.ensures in
    still_made c.core_of.result (given_by c.args.program.value c.args.rights) (M.seen c.args.journals.now) (M.seen c.make_journals.new.journals) (M.seen c.core_of.new.journals)
    (record {
      told = made.told;
      made = made.all ∙ names_of (given_by c.args.program.value c.args.rights) (M.seen c.args.journals.now).made c.args.bundle.now c.args.nodes.now c.requires.bundle c.requires.nodes;
      kept = made.kept;
      faults = made.same;
      lost = made.lost;
    }) c.core_of.ensures.same

pub returns-in-Ok-clause-failed : goal.returns-in-Ok-clause-failed
returns-in-Ok-clause-failed g c =
    let M = g.M.Journals in
    let made = c.in-Ok.ensures in
    all_unstarted (given_by c.args.program.value c.args.rights) (M.seen c.args.journals.now) (M.seen c.make_journals.new.journals) (M.seen c.core_of.new.journals)
    (record {
      told = made.told;
      made = made.all ∙ names_of (given_by c.args.program.value c.args.rights) (M.seen c.args.journals.now).made c.args.bundle.now c.args.nodes.now c.requires.bundle c.requires.nodes;
      kept = made.kept;
      faults = made.same;
      lost = made.lost;
    }) c.core_of.ensures.made c.core_of.ensures.faults c.core_of.result c.core_of.ensures.failed

pub returns-in-Err-Failed-clause-failed : goal.returns-in-Err-Failed-clause-failed
returns-in-Err-Failed-clause-failed g c =
    let J = g.M.Item.Journal in
    let M = g.M.Journals in
    let new = M.seen c.keep_all-kept.new.journals in
    let h : HasFailedAt c.args.bundle.now c.args.nodes.now (M.seen c.args.journals.now) (M.seen c.make_journals.new.journals) (map (seen_by J.content J.synced J.room J.faults J.sure) c.make_journals.new.made.items) c.in-Err-Failed.node =
    rw c.in-Err-Failed.field-0-is at c.in-Err-Failed.ensures.failed in
    subst (HasNoJournal (given_by c.args.program.value c.args.rights) (M.seen c.args.journals.now) new) (sym c.in-Err-Failed.node-is)
    (no_journal (seen_by J.content J.synced J.room J.faults J.sure) (given_by c.args.program.value c.args.rights) c.args.bundle.now c.args.nodes.now c.requires.bundle c.requires.nodes (M.seen c.args.journals.now) (M.seen c.make_journals.new.journals) new c.make_journals.new.made.items
    c.in-Err-Failed.ensures.kept c.in-Err-Failed.ensures.lost c.keep_all-kept.ensures.made c.keep_all-kept.ensures.faults
    (subst (λ js. GivesBack c.keep_all-kept.result (entries_of c.args.bundle.now c.args.nodes.now (map (seen_by J.content J.synced J.room J.faults J.sure) js)) (M.seen c.make_journals.new.journals) new) c.from_vec-in-Err-Failed.ensures c.keep_all-kept.ensures.back)
    (record { start = c.requires.accepted.0; program = c.requires.accepted.1; accepted = c.requires.accepted.2; roots = refl }) c.in-Err-Failed.node h)

pub returns-in_err-keep_all-in-Err-Memory-clause-failed : goal.returns-in_err-keep_all-in-Err-Memory-clause-failed
returns-in_err-keep_all-in-Err-Memory-clause-failed g c =
    let J = g.M.Item.Journal in
    let M = g.M.Journals in
    let h : HasMadeSome c.args.bundle.now c.args.nodes.now (M.seen c.args.journals.now) (M.seen c.make_journals.new.journals) (map (seen_by J.content J.synced J.room J.faults J.sure) c.make_journals.new.made.items) =
    rw c.in-Err-Memory.field-0-is at c.in-Err-Memory.ensures.failed in
    err_as (IsUnstarted (given_by c.args.program.value c.args.rights) (M.seen c.args.journals.now) (M.seen c.keep_all.new.journals)) u.Memory c.from_residual-in_err-keep_all-in-Err-Memory.result c.from_residual-in_err-keep_all-in-Err-Memory.ensures.1
    (some_short (seen_by J.content J.synced J.room J.faults J.sure) (given_by c.args.program.value c.args.rights) c.args.bundle.now c.args.nodes.now c.requires.bundle c.requires.nodes (M.seen c.args.journals.now) (M.seen c.make_journals.new.journals) (M.seen c.keep_all.new.journals) c.make_journals.new.made.items
    c.in-Err-Memory.ensures.kept c.in-Err-Memory.ensures.lost c.in_err-keep_all-in-Err-Memory.ensures.made c.in_err-keep_all-in-Err-Memory.ensures.faults
    (subst (λ js. GivesBack (Err c.in_err-keep_all-in-Err-Memory.field-0.0) (entries_of c.args.bundle.now c.args.nodes.now (map (seen_by J.content J.synced J.room J.faults J.sure) js)) (M.seen c.make_journals.new.journals) (M.seen c.keep_all.new.journals)) c.from_vec-in-Err-Memory.ensures
    c.in_err-keep_all-in-Err-Memory.ensures.back) h)

pub returns-clause-failed : goal.returns-clause-failed
returns-clause-failed g c =
    let J = g.M.Item.Journal in
    let M = g.M.Journals in
    let h : HasMadeSome c.args.bundle.now c.args.nodes.now (M.seen c.args.journals.now) (M.seen c.make_journals.new.journals) (map (seen_by J.content J.synced J.room J.faults J.sure) c.make_journals.new.made.items) =
    rw c.in-Err-Memory.field-0-is at c.in-Err-Memory.ensures.failed in
    some_short (seen_by J.content J.synced J.room J.faults J.sure) (given_by c.args.program.value c.args.rights) c.args.bundle.now c.args.nodes.now c.requires.bundle c.requires.nodes (M.seen c.args.journals.now) (M.seen c.make_journals.new.journals) (M.seen c.keep_all.new.journals) c.make_journals.new.made.items
    c.in-Err-Memory.ensures.kept c.in-Err-Memory.ensures.lost c.in_ok-keep_all-in-Err-Memory.ensures.made c.in_ok-keep_all-in-Err-Memory.ensures.faults
    (subst (λ js. GivesBack (Ok c.in_ok-keep_all-in-Err-Memory.field-0) (entries_of c.args.bundle.now c.args.nodes.now (map (seen_by J.content J.synced J.room J.faults J.sure) js)) (M.seen c.make_journals.new.journals) (M.seen c.keep_all.new.journals)) c.from_vec-in-Err-Memory.ensures
    c.in_ok-keep_all-in-Err-Memory.ensures.back) h
