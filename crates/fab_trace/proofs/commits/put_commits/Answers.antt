use Rattle.std.proofs.Common.{◌++◌, flat_map, sym, ap, ◌∙◌}
use Rattle.fab_trace.specs.Report.{commit_of, commits_in, commits_text}
use Rattle.fab_trace.proofs.Lines.{lines_on}
use Rattle.fab_trace.proofs.commits.put_commits.Goals as goal

pub events-preserved : goal.events-preserved
events-preserved c =
    let r = c.args.start.now in
    let count = rw c.as_slice.ensures at c.in_ok-number.ensures.count in
    let text = rw c.as_slice.ensures at c.in_ok-number.ensures.text in
    let split = c.in-Some.ensures.cases.0 in
    lines_on r c.events.number c.in_ok-number.number (flat_map commit_of c.in-Some.logged.now.notes) (commits_in c.in-Some.after.now)
    c.events.out c.put_notes.new.out count text
    ∙ ap (λ log. c.events.out ++ commits_text r c.events.number (commits_in log)) (sym split)
    ∙ c.events.invariant
