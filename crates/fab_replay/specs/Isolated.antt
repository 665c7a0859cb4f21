-- What a set of nodes is sent by the others in a run, whichever set it is.
use Rattle.std.specs.Prelude.{◌≡◌, ℕ, Bool, true, false, List}
use Rattle.fab_rights.specs.Computed.{has_bit}
use Rattle.fab_release.specs.Bundles.{public_of, public_part, sight_of}
use Rattle.fab_release.specs.Isolation.{released_in}
use Rattle.fab_release.specs.Replay.{public}
use Rattle.fab_views.specs.Views.{IsSeenBy}
use Rattle.fab_world.specs.Machine.{Move}
use Rattle.fab_node.specs.Standing.{GivenModel}
use Rattle.fab_core.specs.Cores.{setting, world_by}

-- The hostile nodes are in the mask, whose nodes see these labels, those that one of them may read, and the classes under them.
pub record IsSeeing (g : GivenModel) (nodes : ℕ) (sees shows : ℕ → Bool) : Type 0 where
  pub hostile : (n : ℕ) → (setting g).hostile n ≡ true → has_bit nodes n ≡ true
  pub seen : IsSeenBy g.program nodes sees shows

-- What the public replay gives of a run: it knows what everybody may know of the bundle, its public part and its rights, and what the run
-- released to the set, and nothing else.
abbrev pub public_in : GivenModel → ℕ → (ℕ → Bool) → (ℕ → Bool) → List Move → ℕ → ℕ → List (List ℕ)
public_in g nodes sees shows moves n d =
    let part = public_part sees shows g.program in
    public (sight_of sees shows (has_bit nodes) part) (public_of sees shows g.rights part)
    (released_in (sight_of sees shows (has_bit nodes) g.program) (setting g) moves) n d

-- Each node outside such a set has sent each node of it exactly that.
abbrev pub IsIsolated : GivenModel → List Move → Type 0
IsIsolated g moves = (nodes : ℕ) (sees shows : ℕ → Bool) (n d : ℕ) → IsSeeing g nodes sees shows → has_bit nodes n ≡ false → has_bit nodes d ≡ true
    → (world_by g moves).sent n d ≡ public_in g nodes sees shows moves n d
