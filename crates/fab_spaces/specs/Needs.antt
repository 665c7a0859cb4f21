-- What the places of principals need.
use Rattle.std.specs.Prelude.{Bool}
use Rattle.fab_tree.specs.declared.declaration.Role.{Role}
use Rattle.fab_tree.specs.Limits.{is_node}
use Rattle.fab_language.specs.Names.{is_store, is_hostile, is_honest, is_honest_worker}
use Rattle.fab_spaces.specs.declared.roles.Need.{Need}
use Rattle.fab_spaces.specs.declared.roles.Need.TheVariants as needs

-- what a principal is will do
abbrev pub needed : Need → Role → Bool
needed needs.Store = is_store
needed needs.Node = is_node
needed needs.Hostile = is_hostile
needed needs.Honest = is_honest
needed needs.HonestWorker = is_honest_worker
