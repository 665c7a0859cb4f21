use Rattle.std.proofs.Common.{◌-◌, length, take, drop, sym, ap, ◌∙◌, arith}
use Rattle.std.specs.List.{fold}
use Rattle.fab_language.specs.Evaluation.{map_at_start}
use Rattle.fab_rights.specs.Computed.{has_bit}
use Rattle.fab_world.specs.Serial.{within}
use Rattle.fab_serial.specs.Replays.{behind}
use Rattle.fab_reads.proofs.Walking.{reached, take_all}
use Rattle.fab_reads.proofs.walk.go_to.Goals as goal

pub returns-then-count-commits-clause-here : goal.returns-then-count-commits-clause-here
returns-then-count-commits-clause-here c =
    let ex = has_bit c.args.classes in
    let step = behind c.args.program.now ex in
    let start = within ex (map_at_start c.args.program.now) in
    let commits = c.args.commits.now in
    let more = c.if-count-commits.true in
    let there = c.requires.there in
    c.in_ok-go_on.ensures
    ∙ ap (λ m. fold step m (take (length commits - c.args.gone) (drop c.args.gone commits))) c.requires.here
    ∙ reached step start commits c.args.gone (length commits) there
    ∙ ap (λ l. fold step start l) (take_all commits (length commits) (omega arith) ∙ sym (take_all commits c.args.count (omega (arith, more))))

pub returns-then-count-commits-clause-same : goal.returns-then-count-commits-clause-same
returns-then-count-commits-clause-same c =
    let ex = has_bit c.args.classes in
    let commits = c.args.commits.now in
    let more = c.if-count-commits.true in
    ap (λ l. fold (behind c.args.program.now ex) (within ex (map_at_start c.args.program.now)) l)
    (take_all commits (length commits) (omega arith) ∙ sym (take_all commits c.args.count (omega (arith, more))))

pub returns-clause-here : goal.returns-clause-here
returns-clause-here c =
    let ex = has_bit c.args.classes in
    let step = behind c.args.program.now ex in
    let commits = c.args.commits.now in
    c.in_ok-go_on-2.ensures
    ∙ ap (λ m. fold step m (take (c.args.count - c.args.gone) (drop c.args.gone commits))) c.requires.here
    ∙ reached step (within ex (map_at_start c.args.program.now)) commits c.args.gone c.args.count c.requires.later
