use Rattle.std.proofs.Common.{◌≡◌, take}
use Rattle.fab_commit.specs.Coordinators.{commits_of, spelled_sends}
use Rattle.fab_commit.proofs.sends.resend.Given as goal

abbrev pub invariant-loop-decision : goal.invariant-loop-decision
invariant-loop-decision l = l.sends ≡ spelled_sends (commits_of (take l.decision-index l.decided))
