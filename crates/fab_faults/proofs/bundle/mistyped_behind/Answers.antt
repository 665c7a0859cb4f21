use Rattle.std.proofs.Common.{◌++◌, ap, ◌∙◌, fold}
use Rattle.std.specs.List.{flat_map}
use Rattle.fab_language.specs.Types as rule
use Rattle.fab_rules.specs.First.{first_from}
use Rattle.fab_faults.proofs.Parts.{begun, behind}
use Rattle.fab_faults.proofs.bundle.mistyped_behind.Goals as goal

pub returns : goal.returns
returns c =
    let s = c.args.tables.now in
    let x = c.args.start.now in
    let part1 =
    begun (rule.in_root s) x.roots c.args.first c.mistyped_in_roots-first.result
    (c.mistyped_in_roots-first.ensures ∙ ap (fold (λ a y. first_from a (rule.in_root s y)) c.args.first) c.as_slice.ensures) in
    let front1 = flat_map (rule.in_root s) x.roots in
    behind (rule.in_session s) x.sessions c.args.first c.mistyped_in_roots-first.result c.mistyped_in_sessions.result front1
    (c.mistyped_in_sessions.ensures ∙ ap (fold (λ a y. first_from a (rule.in_session s y)) c.mistyped_in_roots-first.result) c.as_slice-2.ensures) part1
