use Rattle.std.proofs.Common.{◌≡◌, map}
use Rattle.fab_release.specs.Bundles.{public_session}
use Rattle.fab_rights.specs.Computed.{has_bit}
use Rattle.fab_record.proofs.part.all_sessions.Given as goal

abbrev pub invariant-loop-session : goal.invariant-loop-session
invariant-loop-session l = l.shown ≡ map (public_session (has_bit l.seen.labels) (has_bit l.seen.classes) l.methods) l.yielded
