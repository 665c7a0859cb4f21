-- Records that may be kept, in two parts.
use Rattle.std.proofs.Common.{ℕ, List, [], ◌∷◌, ◌++◌}
use Rattle.std.specs.Prelude.{◌↔◌}
use Rattle.fab_base.specs.declared.entry.Entry.{Entry}
use Rattle.fab_world.specs.Workers.{Kept, worker_keeps}
use Rattle.fab_worker.specs.Plans.{AreKept}
use Rattle.fab_worker.specs.Records.{kept_behind_all}

pub in_a_row : (requests : ℕ) (first second : List Entry) (kept : Kept)
    → AreKept requests (first ++ second) kept ↔ (AreKept requests first kept × AreKept requests second (kept_behind_all first kept))
in_a_row requests [] second kept = (λ h. (tt, h), λ h. h.1)
in_a_row requests (entry ∷ first) second kept =
    let rest = in_a_row requests first second (worker_keeps entry kept) in
    (λ h. ((h.0, (rest.0 h.1).0), (rest.0 h.1).1), λ h. (h.0.0, rest.1 (h.0.1, h.1)))
