use Rattle.std.proofs.Common.{◌≡◌, ◌+◌, ◌++◌, length, flat_map}
use Rattle.fab_trace.specs.Report.{commit_of, commits_text}
use Rattle.fab_trace.proofs.commits.put_notes.Given as goal

abbrev pub invariant-notes : goal.invariant-notes
invariant-notes l = record {
  text : l.out ++ commits_text l.start l.number (flat_map commit_of l.rest) ≡ l.fn.out ++ commits_text l.start l.others (flat_map commit_of l.notes);
  count : l.number + length (flat_map commit_of l.rest) ≡ l.others + length (flat_map commit_of l.notes);
}

abbrev pub decreases-notes : goal.decreases-notes
decreases-notes l = length l.rest
