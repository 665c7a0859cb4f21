use Rattle.std.proofs.Common.{◌≡◌, ◌++◌, length}
use Rattle.fab_trace.specs.Report.{commits_in, commits_text}
use Rattle.fab_trace.proofs.commits.put_commits.Given as goal

abbrev pub invariant-events : goal.invariant-events
invariant-events l = l.out ++ commits_text l.start l.number (commits_in l.rest) ≡ l.fn.out ++ commits_text l.start 0 (commits_in l.log)

abbrev pub decreases-events : goal.decreases-events
decreases-events l = length l.rest
