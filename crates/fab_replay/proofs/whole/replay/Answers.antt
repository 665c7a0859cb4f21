use Rattle.std.proofs.Common.{None, sym, subst, inl}
use Rattle.fab_device.specs.Kept.{CannotFail}
use Rattle.fab_language.specs.Words.{node_text}
use Rattle.fab_core.specs.Starts.{given_by}
use Rattle.fab_replay.specs.Kept.{IsReplayed, IsStartShort}
use Rattle.fab_replay.specs.Making.{HasNoJournal}
use Rattle.fab_replay.specs.Running.{AreUnfailed}
use Rattle.fab_replay.specs.declared.replayed.Replayed.TheVariants as r
use Rattle.fab_replay.proofs.Ends.{ran_short, ran_to}
use Rattle.fab_replay.proofs.Starting.{no_start}
use Rattle.fab_replay.proofs.whole.replay.Goals as goal

pub returns-in-Err-Failed-clause-answer : goal.returns-in-Err-Failed-clause-answer
returns-in-Err-Failed-clause-answer g c =
    let M = g.M.Journals in
    let given = given_by c.args.program.value c.args.rights in
    let old = M.seen c.args.journals.now in
    let new = M.seen c.started.new.journals in
    let h : HasNoJournal given old new c.in-Err-Failed.node = rw c.in-Err-Failed.field-0-is at c.in-Err-Failed.ensures.failed in
    subst (λ n. IsReplayed given c.args.wanted.now (r.JournalFault n None) old new) (sym c.in-Err-Failed.node-is)
    (no_start given old new c.in-Err-Failed.node c.args.wanted.now h)

pub returns-in-Err-Failed-clause-possible : goal.returns-in-Err-Failed-clause-possible
returns-in-Err-Failed-clause-possible g c =
    let M = g.M.Journals in
    let given = given_by c.args.program.value c.args.rights in
    let old = M.seen c.args.journals.now in
    let new = M.seen c.started.new.journals in
    let h : HasNoJournal given old new c.in-Err-Failed.node = rw c.in-Err-Failed.field-0-is at c.in-Err-Failed.ensures.failed in
    subst (λ n. CannotFail old.may_fail (node_text c.args.program.value n) → ⊥) (sym c.in-Err-Failed.node-is) h.possible

pub returns-in-Err-Memory-clause-memory : goal.returns-in-Err-Memory-clause-memory
returns-in-Err-Memory-clause-memory g c =
    let M = g.M.Journals in
    let given = given_by c.args.program.value c.args.rights in
    let h : IsStartShort given (M.seen c.args.journals.now) (M.seen c.started.new.journals) = rw c.in-Err-Memory.field-0-is at c.in-Err-Memory.ensures.failed in
    inl h

pub over-requires-clause-unfailed : goal.over-requires-clause-unfailed
over-requires-clause-unfailed g c κs within =
    subst (λ told. AreUnfailed told c.in-Ok.core.given c.in-Ok.core.journals) (sym c.in-Ok.ensures.told) c.in-Ok.ensures.unfailed

pub returns-in-Ok-clause-answer : goal.returns-in-Ok-clause-answer
returns-in-Ok-clause-answer g c =
    let M = g.M.Journals in
    ran_to (given_by c.args.program.value c.args.rights) c.in-Ok.core.given c.in-Ok.ensures.given c.args.wanted.now (M.seen c.args.journals.now) (M.seen c.started.new.journals)
    (M.seen c.over.new.journals) c.in-Ok.ensures.made c.over.ensures.made c.over.ensures.faults c.over.result c.over.ensures.answer

pub returns-in-Ok-clause-memory : goal.returns-in-Ok-clause-memory
returns-in-Ok-clause-memory g c =
    let M = g.M.Journals in
    ran_short (given_by c.args.program.value c.args.rights) c.in-Ok.core.given c.in-Ok.ensures.given c.args.wanted.now (M.seen c.args.journals.now) (M.seen c.started.new.journals)
    (M.seen c.over.new.journals) c.in-Ok.ensures.made c.over.ensures.made c.over.ensures.faults c.over.result c.over.ensures.memory
