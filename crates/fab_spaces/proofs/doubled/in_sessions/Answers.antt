use Rattle.std.proofs.Common.{◌+◌, sym, ◌∙◌, take, drop, filter}
use Rattle.fab_language.specs.Doubled.{repeats, is_workers}
use Rattle.fab_language.specs.Names.{session_name}
use Rattle.fab_rules.specs.First.{first_from}
use Rattle.fab_spaces.proofs.Noting.{chosen, next_kept, next_left_out}
use Rattle.fab_spaces.proofs.doubled.in_sessions.Goals as goal
use Rattle.fab_spaces.proofs.doubled.in_sessions.Goals.{then-is_workers+in_ok-first, else-is_workers}

pub loop-session-preserved : goal.loop-session-preserved
loop-session-preserved c =
    let p = is_workers c.args.tables.now in
    let xs = c.as_slice-session-items.result.now in
    let i = c.loop-session.session-index in
    let x = c.session-item.result in
    let front = filter p (take (i + 1) xs) in
    let rest = filter p (drop (i + 1) xs) in
    let whole = first_from c.args.first (repeats session_name (filter p xs)) in
    elim c.if-is_workers.branch [
      | then-is_workers+in_ok-first w ↦
          chosen session_name w.noted_once.new.seen c.if-is_workers.seen front rest w.in_ok-first.first c.if-is_workers.first whole w.seen-is w.first-is
          (next_kept session_name xs i x c.loop-session-test.true c.session-item.is p c.loop-session.seen w.noted_once.new.seen c.loop-session.first w.in_ok-first.first whole
          (sym c.is_workers.ensures ∙ w.if-is_workers.true) c.loop-session.invariant w.in_ok-first.ensures.fault w.in_ok-first.ensures.noted)
      | else-is_workers w ↦
          chosen session_name c.loop-session.seen c.if-is_workers.seen front rest c.loop-session.first c.if-is_workers.first whole w.seen-is w.first-is
          (next_left_out session_name xs i x c.loop-session-test.true c.session-item.is p c.loop-session.seen c.loop-session.first whole
          (sym c.is_workers.ensures ∙ w.if-is_workers.false) c.loop-session.invariant)
    ]
