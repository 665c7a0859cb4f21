-- Two calls over bundles of which everybody may know the same.
use Rattle.std.specs.Prelude.{◌≡◌, ◌++◌, ℕ, Bool, true, false, List}
use Rattle.fab_tree.specs.declared.start.Start.{Start}
use Rattle.fab_language.specs.Numbers.{resolved}
use Rattle.fab_rights.specs.declared.rights.Rights.{Rights}
use Rattle.fab_rights.specs.Computed.{has_bit}
use Rattle.fab_release.specs.Bundles.{public_part, sight_of}
use Rattle.fab_release.specs.Isolation.{released_in}
use Rattle.fab_release.specs.declared.release.Released.{Released}
use Rattle.fab_world.specs.Machine.{Move}
use Rattle.fab_settings.specs.Settings.{IsAcceptedWith}
use Rattle.fab_core.specs.Cores.{setting, world_by}
use Rattle.fab_replay.specs.Isolated.{IsIsolated, IsSeeing}
use Rattle.fab_reply.specs.Replays.{given_of}

-- what a run of the bundle releases to the nodes of a mask, which see these labels and classes
abbrev pub released_of : Start → Rights → ℕ → (ℕ → Bool) → (ℕ → Bool) → List Move → List Released
released_of s rights nodes sees shows moves = released_in (sight_of sees shows (has_bit nodes) (resolved s)) (setting (given_of s rights)) moves

-- Of two isolated runs of accepted bundles with one public part, where the record of the one goes on from that of the other, so do the messages
-- of each node outside the set to each node of it.
abbrev pub AreCallsAlike : Type 0
AreCallsAlike =
    (s t : Start) (p q : Rights) (first second : List Move) (nodes : ℕ) (sees shows : ℕ → Bool) (more : List Released) (n d : ℕ)
    → IsAcceptedWith s p → IsAcceptedWith t q → IsIsolated (given_of s p) first → IsIsolated (given_of t q) second
    → IsSeeing (given_of s p) nodes sees shows → IsSeeing (given_of t q) nodes sees shows
    → public_part sees shows (resolved s) ≡ public_part sees shows (resolved t)
    → released_of t q nodes sees shows second ≡ released_of s p nodes sees shows first ++ more
    → has_bit nodes n ≡ false → has_bit nodes d ≡ true
    → (rest : List (List ℕ)) × ((world_by (given_of t q) second).sent n d ≡ (world_by (given_of s p) first).sent n d ++ rest)
