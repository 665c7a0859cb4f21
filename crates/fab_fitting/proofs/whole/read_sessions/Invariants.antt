use Rattle.std.proofs.Common.{take}
use Rattle.std.specs.List.{flat_map}
use Rattle.fab_settings.specs.Numbers.{AllFit, in_session}
use Rattle.fab_fitting.proofs.whole.read_sessions.Given as goal

abbrev pub invariant-loop-session : goal.invariant-loop-session
invariant-loop-session l = AllFit (flat_map in_session (take l.session-index l.sessions))
