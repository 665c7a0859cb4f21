-- What a core is behind an event of a node: done whole, failed, or refused for memory.
use Rattle.std.specs.Prelude.{◌≡◌, ◌⊎◌, ◌<◌, ◌≤◌, ◌==◌, ◌&&◌, ℕ, suc, Bool, true, false, not, IsTrue, List, [], ◌∷◌, ◌++◌, map, length, Option, Some, None, is_some}
use Rattle.std.proofs.Common.{refl, sym, ap, ◌∙◌, subst, arith}
use Rattle.std.proofs.lemmas.Bool.{and_from, and_parts}
use Rattle.fab_eval.specs.declared.done.Done.{Done}
use Rattle.fab_net.specs.declared.event.Inner.{Inner}
use Rattle.fab_net.specs.declared.event.Inner.TheVariants as i
use Rattle.fab_net.specs.declared.event.Event.TheVariants as events
use Rattle.fab_net.specs.declared.note.Logged.{Logged}
use Rattle.fab_net.specs.declared.note.Step.{Step}
use Rattle.fab_rights.specs.Computed.{is_node}
use Rattle.fab_queues.specs.Channels.{Network, queue_of, sent_of}
use Rattle.fab_world.specs.Machine.{Setting, World, Node, Move, Does, Cuts, Fails, Crashes, form_of, node_of, act, is_empty, is_running, may, enabled, calls_journal, logged, bytes_in, step, steps}
use Rattle.fab_world.specs.Serial.{attempts}
use Rattle.fab_world.specs.Workers.{Act}
use Rattle.fab_worker.specs.Records.{boots_in}
use Rattle.fab_node.specs.Standing.{GivenModel, NodeModel, Stands}
use Rattle.fab_node.specs.Deeds.{deed, failed}
use Rattle.fab_node.proofs.Acts.{fails_own, fails_other, is_deed}
use Rattle.fab_nodes.specs.Acts.{AreAmong, IsFailed, IsWaiting, StandsStill, bytes_through, calls, taken}
use Rattle.fab_core.specs.Cores.{InnerHasDone, IsCore, StandsFor, is_honest, marked, move_of, setting, unmarked, world_by}
use Rattle.fab_net.specs.Events.{uncut}
use Rattle.fab_core.specs.Places.{AreOthers, IsAt, IsDoneAt, IsFailedAt, IsStillAt, MayPlanAt}
use Rattle.fab_nodes.specs.Transit.{AreSentOut, OnlyGainsLanes, bytes_to, is_up_at}
use Rattle.fab_core.proofs.Allowed.{allowed, honest_does}
use Rattle.fab_core.proofs.Bounds.{boots_few, number_few}
use Rattle.fab_core.proofs.Fallen.{IsDropped, drop_same, fail_falls, fallen}
use Rattle.fab_core.proofs.Filled.{IsThere, is_there, nodes_after, slot_within, stands_at}
use Rattle.fab_core.proofs.Grown.{grown}
use Rattle.fab_core.proofs.Steady.{all_steady}
use Rattle.fab_core.proofs.Stepped.{entry_is, is_about, none_waits, stepped}
use Rattle.fab_core.proofs.Tables.{bytes_same, form_is, node_below}
use Rattle.fab_core.proofs.Waiting.{nobody_waits}

-- ---- an event whose journal failed, as a move

failed_form : (e : Inner) → form_of (marked (uncut e)) ≡ Fails 0 e
failed_form (i.Begin n) = refl
failed_form (i.Resume n) = refl
failed_form (i.Deliver a b) = refl
failed_form (i.Idle n s) = refl
failed_form (i.Recover n) = refl

failed_logged : (S : Setting) (w : World) (e : Inner)
    → logged S w (marked (uncut e)) ≡ record { event = events.CrashIn 0 e; bytes = bytes_in S w e; notes = []; whole = false; marked = true }
failed_logged S w (i.Begin n) = refl
failed_logged S w (i.Resume n) = refl
failed_logged S w (i.Deliver a b) = refl
failed_logged S w (i.Idle n s) = refl
failed_logged S w (i.Recover n) = refl

calls_same : (S : Setting) (w : World) (e : Inner) → calls e (act S w e) ≡ calls_journal S w e
calls_same S w (i.Begin n) = refl
calls_same S w (i.Resume n) = refl
calls_same S w (i.Deliver a b) = refl
calls_same S w (i.Idle n s) = refl
calls_same S w (i.Recover n) = refl

-- what writes a record calls its journal
pub calls_by : (S : Setting) (w : World) (e : Inner) → is_some (act S w e).entry ≡ true → calls_journal S w e ≡ true
calls_by S w (i.Begin n) h = h
calls_by S w (i.Resume n) h = h
calls_by S w (i.Deliver a b) h = h
calls_by S w (i.Idle n s) h = h
calls_by S w (i.Recover n) h = refl

some_waits : (q : List (List ℕ)) → not (is_empty q) ≡ true → 0 < length q
some_waits [] h = absurd (cc)
some_waits (x ∷ xs) h = omega arith

module _ (g : GivenModel) (nodes : List (Option NodeModel)) (queues : Network) (places : List ℕ) (log : List Logged) (core : IsCore g nodes queues places log) where
  abbrev S : Setting
  S = setting g

  abbrev moves : List Move
  moves = map move_of log

  abbrev w : World
  w = world_by g moves

  -- ---- who is there

  pub below : (n : ℕ) → is_node g.rights n ≡ true → n < 64
  below n h = node_below g.rights n core.given.accepted.workers core.given.accepted.stores h

  pub there : (n : ℕ) → is_honest g n ≡ true → IsThere g w n nodes
  there n h = is_there g w n nodes core.stands.standing h

  pub honest_below : (n : ℕ) → is_honest g n ≡ true → n < 64
  honest_below n h = below n (and_parts _ _ h).0

  -- but for room nothing has changed
  pub lanes_grown : (last : Network) → OnlyGainsLanes queues last → IsCore g nodes last places log
  lanes_grown last gains = record {
    given = core.given;
    logged = core.logged;
    run = core.run;
    few = core.few;
    stands = record {
      slots = core.stands.slots;
      lanes = gains.lanes ∙ core.stands.lanes;
      senders = core.stands.senders;
      standing = core.stands.standing;
      queue = λ a b. gains.queue a b ∙ core.stands.queue a b;
      sent = λ a b. gains.sent a b ∙ core.stands.sent a b;
      posts = core.stands.posts;
    };
  }

  -- ---- an event that may come

  module _ (e : Inner) (can : IsTrue (may S w e)) where
    pub own : IsThere g w (node_of e) nodes
    own = there (node_of e) (honest_does g w e can)

    pub own_below : node_of e < 64
    own_below = honest_below (node_of e) (honest_does g w e can)

    pub among_by : (q : Network) → q.nodes ≡ 64 → AreAmong q.nodes e
    among_by q lanes = among_in e can q lanes
      where
        among_in : (e : Inner) → IsTrue (may S w e) → (q : Network) → q.nodes ≡ 64 → AreAmong q.nodes e
        among_in (i.Begin n) can q lanes = tt
        among_in (i.Resume n) can q lanes = tt
        among_in (i.Idle n s) can q lanes = tt
        among_in (i.Recover n) can q lanes = tt
        among_in (i.Deliver a b) can q lanes = (
          subst (λ k. a < k) (sym lanes) (below a (and_parts _ _ (and_parts _ _ can).0).1),
          subst (λ k. b < k) (sym lanes) (honest_below b (honest_does g w (i.Deliver a b) can)),
        )

    pub waiting_by : (q : Network) → ((a b : ℕ) → queue_of q a b ≡ queue_of queues a b) → IsWaiting q e
    waiting_by q same = waiting_in e can q same
      where
        waiting_in : (e : Inner) → IsTrue (may S w e) → (q : Network) → ((a b : ℕ) → queue_of q a b ≡ queue_of queues a b) → IsWaiting q e
        waiting_in (i.Begin n) can q same = tt
        waiting_in (i.Resume n) can q same = tt
        waiting_in (i.Idle n s) can q same = tt
        waiting_in (i.Recover n) can q same = tt
        waiting_in (i.Deliver a b) can q same =
            subst (λ z. 0 < length z) (sym (same a b ∙ core.stands.queue a b)) (some_waits (w.queue a b) (and_parts _ _ can).1)

    pub may_at : (done : Option Done) → InnerHasDone g w e done → attempts moves < 4000000000 → MayPlanAt g e done nodes
    may_at done has few =
        let numbers : (n : ℕ) → (w.node n).attempt.number < 4294967295 = λ n. let k = number_few S moves n core.run in omega (arith, k, few) in
        let boots : (n : ℕ) → boots_in (w.node n).entries < 4000000000 = λ n. let k = boots_few S moves n core.run in omega (arith, k, few) in
        (own.node, own.at, allowed g w (all_steady S moves core.run) numbers boots e done own.node own.at.number own.stands can has, (w.node (node_of e), own.stands, is_about S w e can))

    -- ---- refused for memory

    pub still : (new : List (Option NodeModel)) → AreOthers (node_of e) nodes new → IsStillAt g e nodes new → (last : Network) → OnlyGainsLanes queues last
        → IsCore g new last places log
    still new others h last gains = record {
      given = core.given;
      logged = core.logged;
      run = core.run;
      few = core.few;
      stands = record {
        slots = others.long ∙ core.stands.slots;
        lanes = gains.lanes ∙ core.stands.lanes;
        senders = core.stands.senders;
        standing = nodes_after g w w (node_of e) nodes new h.before h.after core.stands.standing h.there h.here others
            (h.still (w.node (node_of e)) (stands_at g w (node_of e) nodes h.before core.stands.standing h.there)) (λ m p. refl);
        queue = λ a b. gains.queue a b ∙ core.stands.queue a b;
        sent = λ a b. gains.sent a b ∙ core.stands.sent a b;
        posts = core.stands.posts;
      };
    }

    module _ (few : attempts moves < 4000000000) (bytes : List ℕ) (delivered : bytes ≡ bytes_through queues e) (new : List (Option NodeModel)) (others : AreOthers (node_of e) nodes new) where
      -- ---- done whole

      module _ (step_is : Step) (done : IsDoneAt g e bytes nodes new step_is) (grew took : Network) (gains : OnlyGainsLanes queues grew)
          (sent : (a b : ℕ) → sent_of took a b ≡ sent_of grew a b) (queue : (a b : ℕ) → queue_of took a b ≡ taken (queue_of grew) e a b) where
        pub idle_by : (b : ℕ) → is_up_at new b ≡ false → queue_of took (node_of e) b ≡ []
        idle_by = none_waits g w nodes queues places core.stands e can bytes delivered new others step_is done grew took gains sent queue (nobody_waits S moves)

        abbrev entry : Logged
        entry = record { event = uncut e; bytes = bytes; notes = step_is.notes; whole = true; marked = false }

        pub entry_whole : entry ≡ logged S w (unmarked (uncut e))
        entry_whole = entry_is g w nodes queues places core.stands e can bytes delivered new others step_is done

        pub whole : (last : Network) → took.nodes ≡ grew.nodes → AreSentOut g.rights (is_up_at new) (node_of e) step_is.sends took last
            → IsCore g new last places (log ++ entry ∷ [])
        whole last lanes sends =
            grown g nodes new queues last places places log core (unmarked (uncut e)) entry
            (subst (λ f. IsTrue (enabled S w f)) (sym (form_is e)) can) few entry_whole
            (subst (λ f. StandsFor g (steps S w f) new last places) (sym (form_is e))
            (stepped g w nodes queues places core.stands e can bytes delivered new others step_is done grew took gains sent queue last lanes sends))

      -- ---- failed

      abbrev entry_failed : Logged
      entry_failed = record { event = events.CrashIn 0 e; bytes = bytes; notes = []; whole = false; marked = true }

      pub entry_lost : entry_failed ≡ logged S w (marked (uncut e))
      entry_lost =
          ap (λ (z : List ℕ). record { event = events.CrashIn 0 e; bytes = z; notes = []; whole = false; marked = true })
          (delivered ∙ sym (bytes_same S w queues e core.stands.queue)) ∙ sym (failed_logged S w e)

      module _ (grew last : Network) (gains : OnlyGainsLanes queues grew) (dropped : IsDropped (node_of e) grew last) where
        -- the queues were made greater before
        dropped_all : IsDropped (node_of e) queues last
        dropped_all = record {
          lanes = dropped.lanes ∙ gains.lanes;
          sent = λ a b. dropped.sent a b ∙ gains.sent a b;
          queue = λ a b. dropped.queue a b ∙ drop_same (queue_of grew a) (queue_of queues a) (node_of e) (gains.queue a) b;
        }

        pub lost_by : (before after : NodeModel) → IsAt (node_of e) nodes before → IsAt (node_of e) new after → Stands g (failed (w.node (node_of e))) after
            → calls_journal S w e ≡ true → IsCore g new last places (log ++ entry_failed ∷ [])
        lost_by before after was is stands called =
            grown g nodes new queues last places places log core (marked (uncut e)) entry_failed
            (subst (λ f. IsTrue (enabled S w f)) (sym (failed_form e)) (and_from _ _ (and_from _ _ can called) refl)) few entry_lost
            (subst (λ f. StandsFor g (steps S w f) new last places) (sym (failed_form e))
            (fallen g w (steps S w (Fails 0 e)) (node_of e) nodes new before after queues last places core.stands was is others
            (subst (λ (y : Node). Stands g y after) (sym (fails_own S w 0 e)) stands)
            (fail_falls S w 0 e (fails_other S w 0 e)) dropped_all))

        pub lost : IsFailedAt g e bytes nodes new → IsCore g new last places (log ++ entry_failed ∷ [])
        lost h =
            let f : IsFailed g e bytes (w.node (node_of e)) h.after =
            h.failed (w.node (node_of e)) (stands_at g w (node_of e) nodes h.before core.stands.standing h.there) (is_about S w e can) in
            lost_by h.before h.after h.there h.here f.stands
            (sym (calls_same S w e)
            ∙ ap (calls e) (is_deed g w e ∙ ap (deed g (w.node (node_of e)) e) (bytes_same S w queues e core.stands.queue ∙ sym delivered)) ∙ f.called)
