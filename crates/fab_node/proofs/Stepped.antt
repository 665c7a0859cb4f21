-- What a node stands for behind a step of the machine.
use Rattle.std.proofs.Common.{ℕ, List, sym, ◌∙◌, subst}
use Rattle.fab_net.specs.declared.event.Inner.{Inner}
use Rattle.fab_world.specs.Machine.{World, Node, Does, Cuts, Fails, Crashes, node_of, bytes_in, steps}
use Rattle.fab_settings.specs.Settings.{setting_of}
use Rattle.fab_node.specs.declared.plan.NodePlan.{NodePlan}
use Rattle.fab_node.specs.Standing.{GivenModel, NodeModel, Stands}
use Rattle.fab_node.specs.Deeds.{IsPlanAt, cut_at, deed, done_by, down, failed, readied_for}
use Rattle.fab_node.proofs.Acts.{crashes_own, cuts_own, does_own, fails_own, is_deed}

module _ (g : GivenModel) (w : World) (e : Inner) (node : NodeModel) where
  abbrev bytes : List ℕ
  bytes = bytes_in (setting_of g.program g.rights) w e

  abbrev before : Node
  before = w.node (node_of e)

  -- the event is done
  pub does_stands : (planned : NodeModel) (plan : NodePlan) → IsPlanAt g before e bytes planned plan
      → Stands g (done_by (deed g before e bytes) (readied_for plan before)) node
      → Stands g ((steps (setting_of g.program g.rights) w (Does e)).node (node_of e)) node
  does_stands planned plan p s =
      subst (λ (y : Node). Stands g y node)
      ((λ j. done_by (sym (is_deed g w e) j) (p.ready j)) ∙ sym (does_own (setting_of g.program g.rights) w e)) s

  -- it is cut
  pub cuts_stands : (keep : ℕ) (planned : NodeModel) (plan : NodePlan) → IsPlanAt g before e bytes planned plan
      → Stands g (cut_at g keep (deed g before e bytes) (readied_for plan before)) node
      → Stands g ((steps (setting_of g.program g.rights) w (Cuts keep e)).node (node_of e)) node
  cuts_stands keep planned plan p s =
      subst (λ (y : Node). Stands g y node)
      ((λ j. cut_at g keep (sym (is_deed g w e) j) (p.ready j)) ∙ sym (cuts_own g w keep e)) s

  -- its journal failed
  pub fails_stands : (keep : ℕ) → Stands g (failed before) node → Stands g ((steps (setting_of g.program g.rights) w (Fails keep e)).node (node_of e)) node
  fails_stands keep s = subst (λ (y : Node). Stands g y node) (sym (fails_own (setting_of g.program g.rights) w keep e)) s

-- a node crashes
pub crashes_stands : (g : GivenModel) (w : World) (n : ℕ) (node : NodeModel) → Stands g (down (w.node n)) node
    → Stands g ((steps (setting_of g.program g.rights) w (Crashes n)).node n) node
crashes_stands g w n node s = subst (λ (y : Node). Stands g y node) (sym (crashes_own (setting_of g.program g.rights) w n)) s
