-- A worker's session as contracts see it, and what its numbers say.
use Rattle.std.specs.Prelude.{ℕ, suc, ◌-◌, ◌≤◌, ◌==◌, nat_lt, if◌then◌else◌, List, length, Option, Some, None, slice_get}
use Rattle.fab_base.specs.declared.object.Tid.{Tid}
use Rattle.fab_net.specs.declared.outcome.ReqOutcome.{ReqOutcome}

-- The worker, its boot, the number of the last attempt in this boot, the tries at the request that is open, how many
-- requests there are, and how the first of them ended, in order.
pub record Sitting : Type 0 where
  pub worker : ℕ
  pub boot : ℕ
  pub number : ℕ
  pub tries : ℕ
  pub requests : ℕ
  pub outcomes : List ReqOutcome

-- so many requests, so many of which ended, and room for so many outcomes
pub record HasRoom (requests ended capacity : ℕ) : Type 0 where
  pub few : ended ≤ requests
  pub room : requests ≤ capacity

-- the first request, from 1, that has no outcome
abbrev pub next_request : Sitting → Option ℕ
next_request s = if nat_lt (length s.outcomes) s.requests then Some (suc (length s.outcomes)) else None

-- the attempt that was begun last
abbrev pub tid_of : Sitting → Tid
tid_of s = record { worker = s.worker; boot = s.boot; number = s.number }

-- how a request, from 1, ended
abbrev pub outcome_of : List ReqOutcome → ℕ → Option ReqOutcome
outcome_of outcomes request = if request == 0 then None else slice_get outcomes (request - 1)
