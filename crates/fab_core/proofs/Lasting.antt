-- What lasts of nodes is what the machine says of it: outcomes, decisions, and what is held.
use Rattle.std.proofs.Common.{◌≡◌, ℕ, ◌+◌, ◌-◌, Bool, true, false, not, cond, ◌&&◌, ◌==◌, IsTrue, List, [], ◌∷◌, map, length, Option, Some, None}
use Rattle.std.proofs.Common.{refl, sym, ap, ◌∙◌, subst}
use Rattle.std.specs.Prelude.{fold, slice_get, if◌then◌else◌}
use Rattle.std.specs.Bool.{IsFalse}
use Rattle.std.specs.List.{filter, list_any, range_with_len}
use Rattle.std.proofs.lemmas.Bool.{cond-true, cond-false}
use Rattle.fab_base.specs.declared.entry.Entry.{Entry}
use Rattle.fab_base.specs.declared.entry.Entry.TheVariants as e
use Rattle.fab_base.specs.declared.object.Oid.{Oid}
use Rattle.fab_base.specs.declared.object.Tid.{Tid}
use Rattle.fab_net.specs.declared.outcome.ReqOutcome.{ReqOutcome}
use Rattle.fab_rights.specs.declared.rights.Rights.{Rights}
use Rattle.fab_rights.specs.Computed.{is_node, is_store, is_worker}
use Rattle.fab_protocol.specs.Stores.{Prepared, Shelf, behind, keeps, shelf_of}
use Rattle.fab_protocol.specs.Versions.{Rows, is_tid}
use Rattle.fab_session.specs.Sittings as sittings
use Rattle.fab_store.specs.Stock as stores
use Rattle.fab_attempts.specs.Sessions.{requests_of}
use Rattle.fab_world.specs.Machine as machine
use Rattle.fab_world.specs.Machine.{Setting, World, Node, held_at, is_decided, kept, outcome, shelf}
use Rattle.fab_world.specs.Workers.{Kept, kept_of, worker_keeps}
use Rattle.fab_node.specs.declared.role.Role.{Role}
use Rattle.fab_node.specs.declared.role.Role.TheVariants as roles
use Rattle.fab_node.specs.Standing.{GivenModel, IsGiven, NodeModel, RoleStands}
use Rattle.fab_core.specs.Cores.{NodesStand, SlotStands, is_honest, setting, slot}
use Rattle.fab_nodes.specs.Seen.{decided_as, decided_by, decided_in, ended_as, held_by, held_in, only_decided, outcome_by, outcome_in, outcomes_in, stock_as, stock_of}
use Rattle.fab_core.specs.Telling.{node_count, all_held, all_outcomes, held_here, outcomes_at}
use Rattle.fab_core.proofs.Reached.{IsReached}
use Rattle.fab_core.proofs.Slots.{no_store, role_here}

-- ---- a store's records say nothing of requests

store_keeps_none : (rights : Rights) (s : ℕ) (entries : List Entry) (shelf : Shelf) (k : Kept) → stores.AreKept rights s entries shelf
    → fold (λ kept entry. worker_keeps entry kept) k entries ≡ k
store_keeps_none rights s [] shelf k h = refl
store_keeps_none rights s (e.Prepared t items ∷ entries) shelf k h = store_keeps_none rights s entries (keeps (e.Prepared t items) shelf) k h.1
store_keeps_none rights s (e.Refused t ∷ entries) shelf k h = store_keeps_none rights s entries (keeps (e.Refused t) shelf) k h.1
store_keeps_none rights s (e.Applied t ∷ entries) shelf k h = store_keeps_none rights s entries (keeps (e.Applied t) shelf) k h.1
store_keeps_none rights s (e.Released t ∷ entries) shelf k h = store_keeps_none rights s entries (keeps (e.Released t) shelf) k h.1
store_keeps_none rights s (e.BootSeen w b ∷ entries) shelf k h = store_keeps_none rights s entries (keeps (e.BootSeen w b) shelf) k h.1
store_keeps_none rights s (e.Decided t request value participants ∷ entries) shelf k h = absurd h.0
store_keeps_none rights s (e.Closed request code node ∷ entries) shelf k h = absurd h.0
store_keeps_none rights s (e.Boot b ∷ entries) shelf k h = absurd h.0

store_kept : (rights : Rights) (s : ℕ) (entries : List Entry) (shelf : Shelf) → stores.AreKept rights s entries shelf → kept_of entries ≡ kept_of []
unfolding kept_of
store_kept rights s entries shelf h = store_keeps_none rights s entries shelf (record { boot = 1; decided = []; outcomes = [] }) h

no_outcomes : (kept_of []).outcomes ≡ []
unfolding kept_of
no_outcomes = refl

none_decided : (kept_of []).decided ≡ []
unfolding kept_of
none_decided = refl

-- ---- outcomes

none_in : (request : ℕ) (os : List ReqOutcome) → os ≡ [] → sittings.outcome_of os request ≡ None
none_in request os h = ap (λ xs. sittings.outcome_of xs request) h ∙ both (request == 0)
  where
    both : (b : Bool) → cond b None None ≡ let none : Option ReqOutcome = None in none
    both true = refl
    both false = refl

module _ (g : GivenModel) (given : IsGiven g) (w : World) (reached : IsReached (setting g) w) where
  abbrev S : Setting
  S = setting g

  as_by : (o : Option ReqOutcome) (failed : Bool) → outcome_by o failed ≡ machine.outcome_of S o failed
  as_by (Some o) failed = refl
  as_by None true = refl
  as_by None false = refl

  ended_role : (n : ℕ) (request : ℕ) (role : Role) → RoleStands g n (w.node n) role → ended_as role request ≡ sittings.outcome_of (kept S w n).outcomes request
  ended_role n request (roles.Worker wk) s = ap (λ (k : Kept). sittings.outcome_of k.outcomes request) s.lasts
  ended_role n request (roles.Store st) s =
      sym (none_in request (kept S w n).outcomes (ap (λ (k : Kept). k.outcomes) (store_kept g.rights n (w.node n).entries _ s.kept) ∙ no_outcomes))

  outcome_at_slot : (n request : ℕ) (o : Option NodeModel) → SlotStands g w n o → outcome_in o request ≡ outcome S w n request
  outcome_at_slot n request (Some x) s =
      ap (λ o. outcome_by o x.failed) (ended_role n request x.role (role_here g w n x s))
      ∙ ap (λ f. outcome_by (sittings.outcome_of (kept S w n).outcomes request) f) s.2.failed
      ∙ as_by (sittings.outcome_of (kept S w n).outcomes request) (w.node n).failed
  outcome_at_slot n request None s =
      let rest = reached.strangers n s in
      let none = none_in request (kept S w n).outcomes (ap (λ (x : Node). (kept_of x.entries).outcomes) rest ∙ no_outcomes) in
      sym (ap (λ o. machine.outcome_of S o (w.node n).failed) none ∙ ap (λ (x : Node). machine.outcome_of S None x.failed) rest)

  -- ---- decisions

  decided_role : (n : ℕ) (t : Tid) (role : Role) → RoleStands g n (w.node n) role → decided_as role t ≡ list_any (λ d. is_tid d.tid t) (kept S w n).decided
  decided_role n t (roles.Worker wk) s = ap (λ (k : Kept). list_any (λ d. is_tid d.tid t) k.decided) s.lasts
  decided_role n t (roles.Store st) s =
      sym (ap (λ (k : Kept). list_any (λ d. is_tid d.tid t) k.decided) (store_kept g.rights n (w.node n).entries _ s.kept)
      ∙ ap (λ ds. list_any (λ d. is_tid d.tid t) ds) none_decided)

  decided_at_slot : (n : ℕ) (t : Tid) (o : Option NodeModel) → SlotStands g w n o → decided_by o t ≡ list_any (λ d. is_tid d.tid t) (kept S w n).decided
  decided_at_slot n t (Some x) s = decided_role n t x.role (role_here g w n x s)
  decided_at_slot n t None s =
      sym (ap (λ (x : Node). list_any (λ d. is_tid d.tid t) (kept_of x.entries).decided) (reached.strangers n s)
      ∙ ap (λ ds. list_any (λ d. is_tid d.tid t) ds) none_decided)

  module _ (nodes : List (Option NodeModel)) (stand : NodesStand g w nodes) where
    pub outcome_is : (n request : ℕ) → outcome_in (slot nodes n) request ≡ outcome S w n request
    outcome_is n request = outcome_at_slot n request (slot nodes n) (stand n)

    pub outcomes_are : (n : ℕ) → outcomes_in (slot nodes n) (length (requests_of g.program n)) ≡ outcomes_at g w n
    outcomes_are n = λ i. map (λ k. outcome_is n (k + 1) i) (range_with_len 0 (length (requests_of g.program n)))

    pub all_outcomes_are : map (λ n. outcomes_in (slot nodes n) (length (requests_of g.program n))) (range_with_len 0 (node_count g.program)) ≡ all_outcomes g w
    all_outcomes_are = λ i. map (λ n. outcomes_are n i) (range_with_len 0 (node_count g.program))

    decided_is : (t : Tid) → decided_in nodes t ≡ is_decided S w t
    decided_is t = decided_at_slot t.worker t (slot nodes t.worker) (stand t.worker)

    -- ---- what is held

    only_decided_are : (ps : List Prepared) → only_decided nodes ps ≡ filter (λ p. is_decided S w p.0) ps
    only_decided_are ps = λ i. filter (λ p. decided_is p.0 i) ps

    held_role : (n : ℕ) (role : Role) → IsTrue (is_honest g n) → RoleStands g n (w.node n) role → held_by nodes (stock_as role) ≡ held_here g w n
    held_role n (roles.Worker wk) honest s =
        sym (ap (λ b. cond b (held_at S w n) []) (ap (λ b. is_honest g n && b) (no_store g given n s.kind) ∙ ap (λ b. b && false) honest))
    held_role n (roles.Store st) honest s =
        ap (λ ps. behind ps st.shelf.rows) (only_decided_are st.shelf.prepared)
        ∙ ap (λ (x : Shelf). behind (filter (λ p. is_decided S w p.0) x.prepared) x.rows) s.shelf
        ∙ sym (ap (λ b. cond b (held_at S w n) []) (ap (λ b. is_honest g n && b) s.kind ∙ ap (λ b. b && true) honest))

    held_at_slot : (n : ℕ) (o : Option NodeModel) → SlotStands g w n o → held_by nodes (stock_of o) ≡ held_here g w n
    held_at_slot n None s = sym (ap (λ b. cond (b && is_store g.rights n) (held_at S w n) []) s)
    held_at_slot n (Some x) s = held_role n x.role s.0 (role_here g w n x s)

    pub held_is : (n : ℕ) → held_in nodes n ≡ held_here g w n
    held_is n = held_at_slot n (slot nodes n) (stand n)

    pub all_held_are : map (held_in nodes) (range_with_len 0 (node_count g.program)) ≡ all_held g w
    all_held_are = λ i. map (λ n. held_is n i) (range_with_len 0 (node_count g.program))
