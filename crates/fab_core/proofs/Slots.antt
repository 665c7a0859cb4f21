-- The node at a number: what its slot says of the node of the machine.
use Rattle.std.proofs.Common.{◌≡◌, ℕ, Bool, true, false, not, ◌&&◌, IsTrue, List, Option, Some, None, refl, sym, ap, ◌∙◌, subst}
use Rattle.std.specs.Bool.{IsFalse}
use Rattle.std.proofs.lemmas.Bool.{both_ways}
use Rattle.fab_language.specs.Numbers.{resolved}
use Rattle.fab_rights.specs.Computed.{is_node, is_store, is_worker}
use Rattle.fab_tree.specs.declared.resolved.Resolved.{Resolved}
use Rattle.fab_world.specs.Machine.{World, Node, is_running}
use Rattle.fab_world.specs.Serial.{ArePosts, IsSetting, IsEvaluation}
use Rattle.fab_settings.specs.Settings.{setting_of}
use Rattle.fab_settings.proofs.Gives.{gives_setting}
use Rattle.fab_settings.proofs.Meanings.{evaluates}
use Rattle.fab_settings.proofs.Posts.{hostile_post}
use Rattle.fab_store.specs.Stock.{Stock}
use Rattle.fab_worker.specs.Models.{WorkerModel}
use Rattle.fab_node.specs.declared.role.Role.{Role}
use Rattle.fab_node.specs.declared.role.Role.TheVariants as roles
use Rattle.fab_node.specs.Standing.{GivenModel, IsGiven, NodeModel, RoleStands, StoreStands, WorkerStands}
use Rattle.fab_core.specs.Cores.{NodesStand, SlotStands, is_honest, setting, slot}

-- ---- what was given

module _ (g : GivenModel) (given : IsGiven g) where
  pub is_setting : IsSetting (setting g)
  is_setting = subst (λ (r : Resolved). IsSetting (setting_of r g.rights)) given.program (gives_setting given.start g.rights given.accepted)

  pub is_evaluation : IsEvaluation (setting g)
  is_evaluation = subst (λ (r : Resolved). IsEvaluation (setting_of r g.rights)) given.program (evaluates given.start g.rights given.accepted)

  pub are_posts : ArePosts (setting g)
  are_posts = subst (λ (r : Resolved). ArePosts (setting_of r g.rights)) given.program (hostile_post given.start g.rights given.accepted)

  -- a worker is no store
  pub no_store : (n : ℕ) → IsTrue (is_worker g.rights n) → IsFalse (is_store g.rights n)
  no_store n h = is_setting.apart n h

-- ---- one slot

module _ (g : GivenModel) (w : World) (n : ℕ) where
  pub running_in : (x : NodeModel) → SlotStands g w n (Some x) → is_running (setting g) w n ≡ x.up
  running_in x s = ap (λ b. b && (w.node n).up) s.0 ∙ sym s.2.up

  pub running_out : SlotStands g w n None → is_running (setting g) w n ≡ false
  running_out s = ap (λ b. b && (w.node n).up) s

  pub role_here : (x : NodeModel) → SlotStands g w n (Some x) → RoleStands g n (w.node n) x.role
  role_here x s = subst (λ m. RoleStands g m (w.node n) x.role) s.1 s.2.role

  pub failed_in : (x : NodeModel) → SlotStands g w n (Some x) → (w.node n).failed ≡ x.failed
  failed_in x s = sym s.2.failed

-- ---- slots of nodes

module _ (g : GivenModel) (w : World) (nodes : List (Option NodeModel)) (stand : NodesStand g w nodes) where
  -- where there is no slot there is no honest node
  pub empty_slot : (n : ℕ) → slot nodes n ≡ None → IsFalse (is_honest g n)
  empty_slot n e = subst (SlotStands g w n) e (stand n)

  pub full_slot : (n : ℕ) (x : NodeModel) → slot nodes n ≡ Some x → SlotStands g w n (Some x)
  full_slot n x e = subst (SlotStands g w n) e (stand n)

  honest_by : (n : ℕ) (o : Option NodeModel) → slot nodes n ≡ o → IsTrue (is_honest g n) → (x : NodeModel) × (slot nodes n ≡ Some x) × SlotStands g w n (Some x)
  honest_by n None e h = absurd (both_ways (is_honest g n) (empty_slot n e) h)
  honest_by n (Some x) e h = (x, e, full_slot n x e)

  -- an honest node has one
  pub honest_slot : (n : ℕ) → IsTrue (is_honest g n) → (x : NodeModel) × (slot nodes n ≡ Some x) × SlotStands g w n (Some x)
  honest_slot n h = honest_by n (slot nodes n) refl h
