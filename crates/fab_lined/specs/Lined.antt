-- How few attempts and recoveries there are in runs, of each node and in all.
use Rattle.std.specs.Prelude.{ℕ, ◌+◌, ◌*◌, ◌≤◌, Bool, false, ◌==◌, IsTrue, List, length, count_by}
use Rattle.std.specs.List.{range_with_len, sum_by}
use Rattle.fab_net.specs.declared.event.Inner.{Inner}
use Rattle.fab_net.specs.declared.event.Inner.TheVariants as i
use Rattle.fab_world.specs.Machine.{Setting, Move, Form, Does, Cuts, Fails, form_of, at_start, are_enabled}
use Rattle.fab_world.specs.Serial.{attempts}
use Rattle.fab_world.specs.Crashing.{CrashLine, KeepsLines, crashes_of}

-- an attempt of node n begins in it
abbrev pub begins_in : ℕ → Inner → Bool
begins_in n (i.Begin m) = m == n
begins_in n _ = false

-- node n comes back in it
abbrev pub recovers_in : ℕ → Inner → Bool
recovers_in n (i.Recover m) = m == n
recovers_in n _ = false

-- the event of a form, done, cut or failed
abbrev pub is_of : (Inner → Bool) → Form → Bool
is_of f (Does e) = f e
is_of f (Cuts keep e) = f e
is_of f (Fails keep e) = f e
is_of f _ = false

abbrev pub begins_of : ℕ → List Move → ℕ
begins_of n moves = count_by (λ move. is_of (begins_in n) (form_of move)) moves

abbrev pub recoveries_of : ℕ → List Move → ℕ
recoveries_of n moves = count_by (λ move. is_of (recovers_in n) (form_of move)) moves

-- at most eight attempts for each request, and eight for each crash that no fault of a journal made; and one recovery for each such crash
abbrev pub AreFew : Setting → Type 0
AreFew S = (n : ℕ) (moves : List Move) → IsTrue (are_enabled S (at_start S) moves)
    → (begins_of n moves ≤ 8 * S.requests n + 8 * crashes_of n moves) × (recoveries_of n moves ≤ crashes_of n moves)

-- where lines are kept, there are no more such crashes than lines
abbrev pub CrashByLines : Setting → Type 0
CrashByLines S = (lines : ℕ → List CrashLine) (n : ℕ) (moves : List Move) → KeepsLines S lines moves → crashes_of n moves ≤ length (lines n)

-- a run has no more of both than its nodes have together, whose numbers are below 64
abbrev pub SumOverNodes : Setting → Type 0
SumOverNodes S = (moves : List Move) → IsTrue (are_enabled S (at_start S) moves)
    → attempts moves ≤ sum_by (λ n. begins_of n moves + recoveries_of n moves) (range_with_len 0 64)
