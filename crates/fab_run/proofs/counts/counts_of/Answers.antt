use Rattle.std.proofs.Common.{◌≡◌, ℕ, List, Result, Ok, Err, IfOk, sym, subst}
use Rattle.fab_base.specs.declared.object.Value.{Value}
use Rattle.fab_net.specs.declared.note.Commit.{Commit}
use Rattle.fab_rights.specs.Computed.{has_bit}
use Rattle.fab_settings.specs.Settings.{setting_of}
use Rattle.fab_reads.specs.Reads.{AreCounts, values_after}
use Rattle.fab_run.specs.Counts.{Sight, counts_beside}
use Rattle.fab_run.proofs.Agreeing.{are_counts, nobody, taken, thrown}
use Rattle.fab_run.proofs.Counting.{behind}
use Rattle.fab_run.proofs.counts.counts_of.Goals as goal

pub returns-then-branch-clause-exact : goal.returns-then-branch-clause-exact
returns-then-branch-clause-exact c = λ rights.
    taken c.args.reading.times c.in-Ok.all c.args.commits.now (values_after (setting_of c.args.program.now rights) (has_bit c.args.reading.classes) c.args.commits.now c.args.reading.oid)
    c.args.seen.now c.in_ok-counts.counts c.in_ok-agree.field-0 c.if-branch.true (c.in_ok-agree.ensures rights) c.in_ok-counts.ensures c.in-Ok.ensures.1

-- for each result that is Ok
each_ok : {A E : Type 0} {P Q : A → Type 0} (result : Result A E) → ((a : A) → P a → Q a) → IfOk result P → IfOk result Q
each_ok (Ok a) f h = f a h
each_ok (Err e) f h = tt

pub returns-clause-exact : goal.returns-clause-exact
returns-clause-exact c = each_ok c.all_behind.result (λ counts made rights.
    thrown c.args.reading.times c.in-Ok.all c.args.commits.now (values_after (setting_of c.args.program.now rights) (has_bit c.args.reading.classes) c.args.commits.now c.args.reading.oid)
    c.args.seen.now counts c.in_ok-agree.field-0 c.if-branch.false (c.in_ok-agree.ensures rights) made c.in-Ok.ensures.1) c.all_behind.ensures

counts_from : (times : ℕ) (commits : List Commit) (values : ℕ → List Value) (seen : List Sight) (counts : List ℕ) → counts ≡ counts_beside times commits values seen → AreCounts times commits counts
counts_from times commits values seen counts is = subst (AreCounts times commits) (sym is) (are_counts times commits values seen)

pub returns-then-branch-clause-counts : goal.returns-then-branch-clause-counts
returns-then-branch-clause-counts c =
    counts_from c.args.reading.times c.args.commits.now (values_after (setting_of c.args.program.now nobody) (has_bit c.args.reading.classes) c.args.commits.now c.args.reading.oid)
    c.args.seen.now c.in_ok-counts.counts (returns-then-branch-clause-exact c nobody)

pub returns-clause-counts : goal.returns-clause-counts
returns-clause-counts c = behind c.all_behind.result c.args.reading.times c.in-Ok.all c.args.commits.now c.in-Ok.ensures.1 c.all_behind.ensures
