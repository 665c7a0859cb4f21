-- What a core is behind an event in which a call of a journal counts as having failed.
use Rattle.std.specs.Prelude.{◌≡◌, ◌<◌, ℕ, zero, suc, true, false, IsTrue, List, [], ◌∷◌, ◌++◌, map, slice_set, Option, Some, None, Ok, Err}
use Rattle.std.proofs.Common.{refl, sym, ap, subst, ◌∙◌}
use Rattle.std.proofs.lemmas.Bool.{and_parts}
use Rattle.fab_net.specs.declared.event.Event.TheVariants as events
use Rattle.fab_net.specs.declared.event.Inner.{Inner}
use Rattle.fab_net.specs.declared.note.Logged.{Logged}
use Rattle.fab_queues.specs.Channels.{Network}
use Rattle.fab_world.specs.Machine.{Setting, World, Fails, enabled, may, node_of}
use Rattle.fab_world.specs.Serial.{attempts}
use Rattle.fab_node.specs.Standing.{GivenModel, JournalModel, NodeModel}
use Rattle.fab_nodes.specs.Acts.{AreAmong, bytes_through}
use Rattle.fab_core.specs.Cores.{CoreModel, IsCore, failure, move_of, setting, slot, world_by}
use Rattle.fab_core.specs.Moved.{HasFailed}
use Rattle.fab_core.specs.Places.{AreOthers, HasFailedAt, HasNode, journals_of}
use Rattle.fab_core.proofs.Fallen.{IsDropped}
use Rattle.fab_core.proofs.Filled.{stands_at}
use Rattle.fab_core.proofs.Moving.{seen}
use Rattle.fab_core.proofs.Wholly.{among_by, lost_by, own, own_below}

module _ (g : GivenModel) (nodes : List (Option NodeModel)) (queues : Network) (places : List ℕ) (log : List Logged) (core : IsCore g nodes queues places log)
    (e : Inner) (allowed : IsTrue (enabled (setting g) (world_by g (map move_of log)) (Fails 0 e))) where
  abbrev S : Setting
  S = setting g

  abbrev w : World
  w = world_by g (map move_of log)

  can : IsTrue (may S w e)
  can = (and_parts _ _ (and_parts _ _ allowed).0).0

  pub failing_below : node_of e < 64
  failing_below = own_below g nodes queues places log core e can

  pub failing_node : HasNode (node_of e) nodes
  failing_node = let t = own g nodes queues places log core e can in (t.node, t.at)

  pub failing_among : AreAmong queues.nodes e
  failing_among = among_by g nodes queues places log core e can queues core.stands.lanes

  abbrev entry : List ℕ → Logged
  entry bytes = record { event = events.CrashIn 0 e; bytes = bytes; notes = []; whole = false; marked = true }

  pub failing : attempts (map move_of log) < 4000000000 → (bytes : List ℕ) → bytes ≡ bytes_through queues e
      → (new : List (Option NodeModel)) → AreOthers (node_of e) nodes new → HasFailedAt (node_of e) nodes new → (last : Network) → IsDropped (node_of e) queues last
      → IsCore g new last places (log ++ entry bytes ∷ [])
  failing few bytes delivered new others failed last dropped =
      lost_by g nodes queues places log core e can few bytes delivered new others queues last
      (record { lanes = refl; sent = λ a b. refl; queue = λ a b. refl }) dropped failed.before failed.after failed.there failed.here
      (failed.stands g (w.node (node_of e)) (stands_at g w (node_of e) nodes failed.before core.stands.standing failed.there))
      (and_parts _ _ (and_parts _ _ allowed).0).1

-- ---- what contracts see of it

-- a node in the place of another one with its journal
pub journals_set : (nodes : List (Option NodeModel)) (n : ℕ) (x y : NodeModel) → slot nodes n ≡ Some x → y.journal ≡ x.journal
    → journals_of (slice_set nodes n (Some y)) ≡ journals_of nodes
journals_set [] n x y h same = refl
journals_set (None ∷ xs) zero x y h same = absurd cc
journals_set (Some z ∷ xs) zero x y h same =
    let one : z ≡ x = cc in
    ap (λ (j : JournalModel). Some j ∷ journals_of xs) (same ∙ ap (λ (k : NodeModel). k.journal) (sym one))
journals_set (None ∷ xs) (suc n) x y h same = ap (λ (js : List (Option JournalModel)). None ∷ js) (journals_set xs n x y h same)
journals_set (Some z ∷ xs) (suc n) x y h same = ap (λ (js : List (Option JournalModel)). Some z.journal ∷ js) (journals_set xs n x y h same)

module _ (old : CoreModel) (g : GivenModel) (log : List Logged) (nodes : List (Option NodeModel)) (view : seen g log nodes ≡ old) (e : Inner) where
  pub failed_on : {X E : Type 0} (x : X) (new_log : List Logged) (new : List (Option NodeModel)) → map move_of new_log ≡ map move_of log ++ failure e ∷ []
      → journals_of new ≡ journals_of nodes → HasFailed {X = X} {E = E} e (Ok x) old (seen g new_log new)
  failed_on {X} {E} x new_log new moves journals =
      subst (λ (m : CoreModel). HasFailed {X = X} {E = E} e (Ok x) m (seen g new_log new)) view (record { given = refl; moves = moves; memory = tt; journals = journals })

  pub fails_not : {X E : Type 0} (problem : E) (new_log : List Logged) → new_log ≡ log → HasFailed {X = X} {E = E} e (Err problem) old (seen g new_log nodes)
  fails_not {X} {E} problem new_log same =
      subst (λ (m : CoreModel). HasFailed {X = X} {E = E} e (Err problem) m (seen g new_log nodes)) view
      (record { given = refl; moves = tt; memory = ap (map move_of) same; journals = refl })
