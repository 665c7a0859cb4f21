-- What holds of what a run leaves, whichever nodes are distrusted.
use Rattle.std.specs.Prelude.{◌≡◌, ℕ, Bool, true, List}
use Rattle.fab_language.specs.Flows.{delegations_of}
use Rattle.fab_places.specs.Places.{ClassExcludes}
use Rattle.fab_rights.specs.Computed.{has_bit}
use Rattle.fab_settings.specs.Settings.{is_hostile_node}
use Rattle.fab_world.specs.Machine.{Move}
use Rattle.fab_world.specs.Serial.{AllEnd, Rise, commits_in, held_map, serial_replay, within}
use Rattle.fab_node.specs.Standing.{GivenModel}
use Rattle.fab_core.specs.Cores.{setting, world_by}

-- The hostile nodes are in the mask of distrusted ones, and under the label of each of these classes none of the mask may have influenced
-- objects.
pub record IsExcluded (g : GivenModel) (nodes : ℕ) (ex : ℕ → Bool) : Type 0 where
  pub hostile : (n : ℕ) → is_hostile_node g.program n ≡ true → has_bit nodes n ≡ true
  pub classes : (c : ℕ) → ex c ≡ true → ClassExcludes g.program (delegations_of g.program) nodes c

-- What the nodes outside D hold of the classes in ex is what their commits give, each evaluated in one whole, one after the other. Each of
-- these evaluations ends, a request is committed once at most, and the commits of nodes in D that aren't hostile may be left out.
pub record IsIntegral (g : GivenModel) (moves : List Move) (D ex : ℕ → Bool) : Type 0 where
  pub held : held_map (setting g) D ex (world_by g moves) ≡ serial_replay (setting g) ex (commits_in (setting g) D moves)
  pub ends : AllEnd (setting g) ex (within ex (setting g).roots) (commits_in (setting g) D moves)
  pub once : Rise (commits_in (setting g) D moves)
  pub left_out : serial_replay (setting g) ex (commits_in (setting g) (setting g).hostile moves) ≡ serial_replay (setting g) ex (commits_in (setting g) D moves)
