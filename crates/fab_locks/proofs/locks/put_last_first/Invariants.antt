use Rattle.std.proofs.Common.{◌≡◌, ◌≤◌, ◌-◌, ◌++◌, reverse, vec_len, vec_capacity}
use Rattle.fab_locks.proofs.locks.put_last_first.Given as goal

-- those in the indexes and those that are left are all, and there is no less room
abbrev pub invariant-each : goal.invariant-each
invariant-each l =
    (l.indexed ++ reverse l.list.items ≡ l.fn.indexed ++ reverse l.fn.list.items) × (vec_capacity l.fn.list - vec_len l.fn.list ≤ vec_capacity l.list - vec_len l.list)

abbrev pub decreases-each : goal.decreases-each
decreases-each l = vec_len l.list
