-- That what the nodes outside a set have sent into it is the public replay of what the run released.
use Rattle.std.specs.Prelude.{◌≡◌, ℕ, ◌+◌, ◌≤◌, true, false, IsTrue, List, ◌++◌, fold}
use Rattle.fab_rights.specs.Computed.{may_fetch, may_hold}
use Rattle.fab_world.specs.Machine.{Setting, Move, Form, Posts, form_of, at_start, logs}
use Rattle.fab_world.specs.Serial.{IsRun, world_of}
use Rattle.fab_release.specs.declared.release.Released.{Released}
use Rattle.fab_release.specs.Sights.{Sight, Public}
use Rattle.fab_release.specs.Record.{released}
use Rattle.fab_release.specs.Replay.{public}

-- the hostile nodes are in the set; and it sees each class that one of its stores may hold, or of which one of its workers may fetch objects
pub record IsSightOf (S : Setting) (sight : Sight) : Type 0 where
  pub hostile : (n : ℕ) → S.hostile n ≡ true → sight.has n ≡ true
  pub holds : (n class : ℕ) → sight.has n ≡ true → IsTrue (may_hold S.rights n class) → sight.shows class ≡ true
  pub fetches : (n class : ℕ) → sight.has n ≡ true → IsTrue (may_fetch S.rights n class) → sight.shows class ≡ true

abbrev pub posts_at : Form → ℕ
posts_at (Posts h) = 1
posts_at _ = 0

abbrev pub posts_in : List Move → ℕ
posts_in moves = fold (λ n move. n + posts_at (form_of move)) 0 moves

-- what a run releases to a set
abbrev pub released_in : Sight → Setting → List Move → List Released
released_in sight S moves = released sight (logs S (at_start S) moves)

-- Whatever a run of at most 10,000 posts does, each node outside the set has sent each node of it the public replay of what was released.
abbrev pub IsIsolated : Setting → Sight → Public → Type 0
IsIsolated S sight P =
    (moves : List Move) (n d : ℕ) → IsRun S moves → posts_in moves ≤ 10000 → sight.has n ≡ false → sight.has d ≡ true
    → (world_of S moves).sent n d ≡ public sight P (released_in sight S moves) n d

-- Of two runs of which everybody may know the same: where the record of the one goes on from that of the other, so do the messages.
abbrev pub IsAlike : Setting → Setting → Sight → Public → Type 0
IsAlike S T sight P =
    (first second : List Move) (more : List Released) (n d : ℕ) → IsRun S first → IsRun T second → posts_in first ≤ 10000 → posts_in second ≤ 10000
    → sight.has n ≡ false → sight.has d ≡ true → released_in sight T second ≡ released_in sight S first ++ more
    → (rest : List (List ℕ)) × ((world_of T second).sent n d ≡ (world_of S first).sent n d ++ rest)
