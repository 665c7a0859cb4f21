-- A worker that calls drive keeps count of its attempts.
use Rattle.std.proofs.Common.{◌≡◌, ℕ, Result, Ok, Err, OnOk, OnErr, ap, ◌∙◌}
use Rattle.fab_world.specs.Workers.{Act, Attempt}
use Rattle.fab_worker.specs.Models.{OnlyGainsRoom, WorkerModel}
use Rattle.fab_worker.specs.Plans.{IsBehind}

behind_keeps : (old new : WorkerModel) (act : Act) → act.attempt.number ≡ old.attempt.number → IsBehind act old new → new.attempt.number ≡ old.attempt.number
behind_keeps old new act e h = ap (λ (a : Attempt). a.number) h.attempt ∙ e

room_keeps : (old new : WorkerModel) → OnlyGainsRoom old new → new.attempt.number ≡ old.attempt.number
room_keeps old new h = ap (λ (a : Attempt). a.number) h.attempt

-- behind a call that keeps the number of the attempt, or fails, the number is what it was
pub either_keeps : {V E : Type 0} (r : Result V E) (old new : WorkerModel) (act : Act) (n : ℕ) → act.attempt.number ≡ old.attempt.number
    → OnOk r (IsBehind act old new) → OnErr r (OnlyGainsRoom old new) → old.attempt.number ≡ n → new.attempt.number ≡ n
either_keeps (Ok v) old new act n e ok err h = behind_keeps old new act e ok ∙ h
either_keeps (Err v) old new act n e ok err h = room_keeps old new err ∙ h
