use Rattle.std.proofs.Common.{◌++◌, ap, ◌∙◌, fold}
use Rattle.std.specs.List.{flat_map}
use Rattle.fab_language.specs.Roles as rule
use Rattle.fab_rules.specs.First.{first_from}
use Rattle.fab_faults.proofs.Parts.{begun, behind}
use Rattle.fab_faults.proofs.bundle.misplaced_behind.Goals as goal

pub returns : goal.returns
returns c =
    let s = c.args.tables.now in
    let x = c.args.start.now in
    let part1 =
    begun (rule.in_root s) x.roots c.args.first c.misplaced_in_roots-first.result
    (c.misplaced_in_roots-first.ensures ∙ ap (fold (λ a y. first_from a (rule.in_root s y)) c.args.first) c.as_slice.ensures) in
    let front1 = flat_map (rule.in_root s) x.roots in
    let part2 =
    behind (rule.in_session s) x.sessions c.args.first c.misplaced_in_roots-first.result c.misplaced_in_sessions-first.result front1
    (c.misplaced_in_sessions-first.ensures ∙ ap (fold (λ a y. first_from a (rule.in_session s y)) c.misplaced_in_roots-first.result) c.as_slice-2.ensures) part1 in
    let front2 = front1 ++ flat_map (rule.in_session s) x.sessions in
    let part3 =
    behind (rule.in_post s) x.posts c.args.first c.misplaced_in_sessions-first.result c.misplaced_in_posts-first.result front2
    (c.misplaced_in_posts-first.ensures ∙ ap (fold (λ a y. first_from a (rule.in_post s y)) c.misplaced_in_sessions-first.result) c.as_slice-3.ensures) part2 in
    let front3 = front2 ++ flat_map (rule.in_post s) x.posts in
    let part4 =
    behind (rule.in_crash s) x.crashes c.args.first c.misplaced_in_posts-first.result c.misplaced_in_crashes-first.result front3
    (c.misplaced_in_crashes-first.ensures ∙ ap (fold (λ a y. first_from a (rule.in_crash s y)) c.misplaced_in_posts-first.result) c.as_slice-4.ensures) part3 in
    let front4 = front3 ++ flat_map (rule.in_crash s) x.crashes in
    behind (rule.in_event s) x.schedule c.args.first c.misplaced_in_crashes-first.result c.misplaced_in_events.result front4
    (c.misplaced_in_events.ensures ∙ ap (fold (λ a y. first_from a (rule.in_event s y)) c.misplaced_in_crashes-first.result) c.as_slice-5.ensures) part4
