use Rattle.std.proofs.Common.{◌≡◌, map, take}
use Rattle.fab_language.specs.Numbers.{session_of}
use Rattle.fab_numbers.proofs.sessions.numbered_sessions.Given as goal

abbrev pub invariant-loop-session : goal.invariant-loop-session
invariant-loop-session l = l.made ≡ map (session_of l.tables) (take l.session-index l.sessions)
