use Rattle.std.proofs.Common.{◌≡◌, ◌+◌, length, sum_by, drop}
use Rattle.fab_bundle.proofs.limits.has_more_requests.Given as goal

abbrev pub invariant-loop-session : goal.invariant-loop-session
invariant-loop-session l =
    l.left + sum_by (λ y. length y.requests) l.sessions ≡ l.initial.left + sum_by (λ y. length y.requests) (drop l.session-index l.sessions)
