-- Trusted replay of a run, whichever set of nodes is distrusted.
use Rattle.std.specs.Prelude.{◌≡◌, ℕ, Bool, true, List}
use Rattle.fab_base.specs.FlatMap.{FlatMap}
use Rattle.fab_tree.specs.declared.resolved.Resolved.{Resolved}
use Rattle.fab_rights.specs.Computed.{has_bit}
use Rattle.fab_settings.specs.Settings.{is_hostile_node}
use Rattle.fab_places.specs.declared.masks.Seen.{Seen}
use Rattle.fab_world.specs.Machine.{Move}
use Rattle.fab_world.specs.Serial.{commits_in, held_map, within}
use Rattle.fab_trusted.specs.Agreement.{AreFollowed, commits_at}
use Rattle.fab_trusted.specs.Robust.{IsGuarded, IsRobust}
use Rattle.fab_trusted.specs.Trusted.{endorsed, trusted_replay}
use Rattle.fab_trusted.specs.Trusts.{IsTrustedBy}
use Rattle.fab_node.specs.Standing.{GivenModel}
use Rattle.fab_core.specs.Cores.{setting, world_by}
use Rattle.fab_replay.specs.declared.replayed.Wanted.{Wanted}
use Rattle.fab_replay.specs.declared.replayed.Wanted.TheVariants.{Report, Run, Trust, View}

-- The hostile nodes are in the mask, and these are the labels and the classes that exclude it.
pub record IsTrusting (g : GivenModel) (nodes : ℕ) (trusts keeps : ℕ → Bool) : Type 0 where
  pub hostile : (n : ℕ) → is_hostile_node g.program n ≡ true → has_bit nodes n ≡ true
  pub trusted : IsTrustedBy g.program nodes trusts keeps

-- what trusted replay gives of a run: it knows the bundle, and of the commits the worker, the request, the tid and the endorsed values
abbrev pub trusted_in : GivenModel → (ℕ → Bool) → (ℕ → Bool) → List Move → FlatMap
trusted_in g trusts keeps moves =
    trusted_replay trusts keeps g.program (commits_at (setting g) moves) (endorsed trusts keeps g.program (commits_at (setting g) moves))

-- What the others hold of these classes is that, and it is the same without the commits of the mask's own workers. Each commit ends in it; where the
-- program is robust, it downgrades at the sites that declassify with the authority of a principal for whom no node of the mask acts what its attempt did.
pub record AreTrusted (g : GivenModel) (moves : List Move) (nodes : ℕ) (trusts keeps : ℕ → Bool) : Type 0 where
  pub held : held_map (setting g) (has_bit nodes) keeps (world_by g moves) ≡ trusted_in g trusts keeps moves
  pub outside : held_map (setting g) (has_bit nodes) keeps (world_by g moves)
      ≡ trusted_replay trusts keeps g.program (commits_in (setting g) (has_bit nodes) moves)
      (endorsed trusts keeps g.program (commits_in (setting g) (has_bit nodes) moves))
  pub followed : AreFollowed trusts keeps g.program (λ site. IsRobust g.program × IsGuarded g.program nodes site)
      (within keeps (setting g).roots) (commits_at (setting g) moves)

abbrev pub IsTrusted : GivenModel → List Move → Type 0
IsTrusted g moves = (nodes : ℕ) (trusts keeps : ℕ → Bool) → IsTrusting g nodes trusts keeps → AreTrusted g moves nodes trusts keeps

-- trusted replay is wanted with the labels and classes of the program that exclude these nodes
pub record IsTrustOf (r : Resolved) (nodes mask : ℕ) (part : Seen) : Type 0 where
  pub nodes_are : mask ≡ nodes
  pub trusts : IsTrustedBy r nodes (has_bit part.labels) (has_bit part.classes)

abbrev pub IsTrustIn : Resolved → ℕ → Wanted → Type 0
IsTrustIn r nodes Report = ⊥
IsTrustIn r nodes (Run x) = ⊥
IsTrustIn r nodes (View mask seen part) = ⊥
IsTrustIn r nodes (Trust mask part) = IsTrustOf r nodes mask part
