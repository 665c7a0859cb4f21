-- What a core is behind a crash.
use Rattle.std.specs.Prelude.{◌≡◌, ◌<◌, ℕ, true, false, IsTrue, List, [], ◌∷◌, ◌++◌, map, Option}
use Rattle.std.proofs.Common.{refl, sym, subst}
use Rattle.fab_net.specs.declared.event.Event.TheVariants as events
use Rattle.fab_net.specs.declared.note.Logged.{Logged}
use Rattle.fab_queues.specs.Channels.{Network}
use Rattle.fab_world.specs.Machine.{Setting, World, Node, Crashes, enabled, logged, steps}
use Rattle.fab_world.specs.Serial.{attempts}
use Rattle.fab_node.specs.Standing.{GivenModel, NodeModel, Stands}
use Rattle.fab_node.proofs.Acts.{crashes_own, crashes_other}
use Rattle.fab_core.specs.Cores.{IsCore, move_of, setting, unmarked, world_by}
use Rattle.fab_core.specs.Places.{AreOthers, HasNode, IsDownAt}
use Rattle.fab_core.proofs.Allowed.{honest_runs}
use Rattle.fab_core.proofs.Fallen.{IsDropped, crash_falls, fallen}
use Rattle.fab_core.proofs.Filled.{stands_at}
use Rattle.fab_core.proofs.Grown.{grown}
use Rattle.fab_core.proofs.Wholly.{honest_below, there}

module _ (g : GivenModel) (nodes : List (Option NodeModel)) (queues : Network) (places : List ℕ) (log : List Logged) (core : IsCore g nodes queues places log)
    (n : ℕ) (allowed : IsTrue (enabled (setting g) (world_by g (map move_of log)) (Crashes n))) where
  abbrev S : Setting
  S = setting g

  abbrev w : World
  w = world_by g (map move_of log)

  pub crash_below : n < 64
  crash_below = honest_below g nodes queues places log core n (honest_runs g w n allowed)

  pub has_node : HasNode n nodes
  has_node = let t = there g nodes queues places log core n (honest_runs g w n allowed) in (t.node, t.at)

  abbrev entry : Logged
  entry = record { event = events.Crash n; bytes = []; notes = []; whole = true; marked = false }

  pub crashed : (new : List (Option NodeModel)) → AreOthers n nodes new → IsDownAt n nodes new → (last : Network) → IsDropped n queues last
      → attempts (map move_of log) < 4000000000 → IsCore g new last places (log ++ entry ∷ [])
  crashed new others down last dropped few =
      grown g nodes new queues last places places log core (unmarked (events.Crash n)) entry allowed few refl
      (fallen g w (steps S w (Crashes n)) n nodes new down.before down.after queues last places core.stands down.there down.here others
      (subst (λ (y : Node). Stands g y down.after) (sym (crashes_own S w n)) (down.stands g (w.node n) (stands_at g w n nodes down.before core.stands.standing down.there)))
      (crash_falls S w n (crashes_other S w n)) dropped)
