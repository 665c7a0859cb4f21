use Rattle.std.proofs.Common.{take, drop, filter}
use Rattle.fab_language.specs.Doubled.{repeats, is_workers}
use Rattle.fab_language.specs.Names.{session_name}
use Rattle.fab_rules.specs.First.{first_from}
use Rattle.fab_spaces.proofs.Noting.{Goes}
use Rattle.fab_spaces.proofs.doubled.in_sessions.Given as goal

abbrev pub invariant-loop-session : goal.invariant-loop-session
invariant-loop-session l =
    Goes session_name l.seen (filter (is_workers l.tables) (take l.session-index l.session-items)) (filter (is_workers l.tables) (drop l.session-index l.session-items)) l.first
    (first_from l.initial.first (repeats session_name (filter (is_workers l.tables) l.session-items)))
