-- What the nodes outside the set send is for nodes.
use Rattle.std.proofs.Common.{◌≡◌, inl, inr, ℕ, suc, false, IsTrue, List, [], ◌∷◌, map, refl, sym, ap, ◌∙◌, subst, true≢false}
use Rattle.std.specs.List.{flat_map, range_with_len, AllByRecursion}
use Rattle.std.proofs.lemmas.Bool.{and_parts, both_ways, or_cases, or_left, or_right}
use Rattle.fab_base.specs.declared.message.Message.{Message}
use Rattle.fab_base.specs.declared.message.Message.TheVariants as m
use Rattle.fab_base.specs.declared.object.Oid.{Oid}
use Rattle.fab_base.specs.declared.object.Tid.{Tid}
use Rattle.fab_base.specs.FlatMap.{map_of}
use Rattle.fab_base.proofs.Lists.{all_append}
use Rattle.fab_language.specs.declared.ending.Ending.TheVariants as endings
use Rattle.fab_language.specs.Meaning.{Meant}
use Rattle.fab_net.specs.declared.event.Inner.{Inner}
use Rattle.fab_net.specs.declared.event.Inner.TheVariants as i
use Rattle.fab_net.specs.declared.note.Commit.{Commit}
use Rattle.fab_net.specs.declared.note.Logged.{Logged}
use Rattle.fab_net.specs.declared.outcome.ReqOutcome.TheVariants.{Conflict, Silent}
use Rattle.fab_protocol.specs.declared.parts.Decision.{Decision}
use Rattle.fab_protocol.specs.declared.parts.Parts.{Parts}
use Rattle.fab_protocol.specs.Parts.{stores_of, items_at}
use Rattle.fab_protocol.specs.Stores as stores
use Rattle.fab_protocol.specs.Stores.{Shelf, Prepared, asks}
use Rattle.fab_protocol.specs.Versions.{objects_of}
use Rattle.fab_protocol.proofs.StoreActs.{answered}
use Rattle.fab_rights.specs.declared.rights.Rights.{Rights}
use Rattle.fab_rights.specs.Computed.{is_node, is_store, is_worker, stores_in}
use Rattle.fab_world.specs.Attempts.{parts_of}
use Rattle.fab_world.specs.Machine.{Setting, World, node_of, act, front_of, kept, may, meant, parts, shelf, is_evaluating}
use Rattle.fab_world.specs.Workers as workers
use Rattle.fab_world.specs.Workers.{Act, Attempt, Kept, request_of, resumes, takes, tid_of, to_all, wakes}
use Rattle.fab_world.proofs.WorkerActs.{again, heard, resumed, silenced, taken, woken}
use Rattle.fab_release.specs.Sights.{Sight, Public}
use Rattle.fab_release.specs.Replay.{Rebuilt}
use Rattle.fab_isolation.specs.Law.{IsShared}
use Rattle.fab_integrity.proofs.Invariant.{In, IsStore, IsWorker, parts_by, standing, tid_at}
use Rattle.fab_integrity.proofs.Awaited.{AllStores, all_stores, named_store}
use Rattle.fab_integrity.proofs.Deals.{dealt}
use Rattle.fab_integrity.proofs.Lists.{all_of, each_of, in_filter, in_flat, in_map}
use Rattle.fab_integrity.proofs.Steps.{lacks_none, may_node}
use Rattle.fab_shadow.proofs.Shadow.{never, Stands}
use Rattle.fab_shadow.proofs.Here.{named, over_fit, shadows, worker_ok}

-- ---- a worker, whose attempt only stores take part in

module _ (rights : Rights) where
  abbrev AreReached : List (ℕ × Message) → Type 0
  AreReached sends = AllByRecursion (λ y. IsTrue (is_node rights y.0)) sends

  abbrev Reaches : Act → Type 0
  Reaches act = AreReached act.sends

  store_node : (s : ℕ) → IsTrue (is_store rights s) → IsTrue (is_node rights s)
  store_node s h = or_right (is_worker rights s) (is_store rights s) h

  worker_node : (n : ℕ) → IsTrue (is_worker rights n) → IsTrue (is_node rights n)
  worker_node n h = or_left (is_worker rights n) (is_store rights n) h

  all_told : (ss : List ℕ) (message : Message) → AllStores rights ss → AreReached (to_all ss message)
  all_told ss message h =
      all_of (λ y. IsTrue (is_node rights y.0)) (to_all ss message) (λ y j.
      let r = in_map (λ (s : ℕ). (s, message)) y ss j in subst (λ (z : ℕ × Message). IsTrue (is_node rights z.0)) (sym r.2) (store_node r.0 (h r.0 r.1)))

  all_asked : (t : Tid) (whole : Parts) (ss : List ℕ) → AllStores rights ss → AreReached (map (λ s. (s, m.Prepare t (items_at whole s))) ss)
  all_asked t whole ss h =
      all_of (λ y. IsTrue (is_node rights y.0)) (map (λ s. (s, m.Prepare t (items_at whole s))) ss) (λ y j.
      let r = in_map (λ (s : ℕ). (s, m.Prepare t (items_at whole s))) y ss j in subst (λ (z : ℕ × Message). IsTrue (is_node rights z.0)) (sym r.2) (store_node r.0 (h r.0 r.1)))

  module _ (k n : ℕ) (kept : Kept) (a : Attempt) where
    reach_resumes : (full : Meant) → AllStores rights (stores_of (parts_of a.answers full))
        → ((site : ℕ) (o : Oid) → full.ending ≡ endings.Missing site o → IsTrue (is_store rights o.store)) → Reaches (resumes rights k n kept a full)
    reach_resumes full part missing =
        let whole : Parts = parts_of a.answers full in
        resumed rights k n kept a full Reaches (record {
          finds = λ site o row is there. tt;
          fetches = λ site o is none. (store_node o.store (missing site o is), tt);
          decides = λ value is none. all_told (stores_of whole) (m.Commit (tid_of n kept a)) part;
          asks = λ value s ss is at.
              all_append (λ y. IsTrue (is_node rights y.0)) (map (λ s. (s, m.Prepare (tid_of n kept a) (items_at whole s))) (s ∷ ss)) []
              (all_asked (tid_of n kept a) whole (s ∷ ss) (subst (AllStores rights) at part)) tt;
          fails = λ is. tt;
          stops = λ limit is. tt;
        })

    -- those that take part are stores
    module _ (whole : Parts) (part : AllStores rights (stores_of whole)) where
      aborted : (act : Act) → act.sends ≡ [] → Reaches (workers.sending (workers.aborts rights k n kept a whole) act)
      aborted act none =
          all_append (λ y. IsTrue (is_node rights y.0)) (workers.aborts rights k n kept a whole) act.sends
          (all_told (stores_of whole) (m.Abort (tid_of n kept a)) part) (subst AreReached (sym none) tt)

      reach_takes : (s : ℕ) (message : Message) → Reaches (takes rights k n kept s message a whole)
      reach_takes s message = taken rights k n kept s a whole message Reaches (record {
        rests = λ h. tt;
        learns = λ x h. tt;
        denied = λ reason x. tt;
        tires = λ x h. tt;
        tries = λ x h. tt;
        gives_up = λ x h. aborted (workers.gives rights k n kept Conflict a) refl;
        aborts = λ x h. aborted (again rights k n kept a) refl;
        decides = λ x h. all_told (stores_of whole) (m.Commit (tid_of n kept a)) part;
        waits = λ x l ls h. tt;
        commits = λ x h. (store_node s x.store, tt);
        forgets = λ x h g. (store_node s x.store, tt);
      })

      reach_silence : (s : ℕ) → Reaches (workers.gives_up rights k n kept s a whole)
      reach_silence s = silenced rights k n kept s a whole Reaches tt (λ ls is. aborted (workers.gives rights k n kept (Silent s) a) refl)

  -- ---- a store, that answers a node

  reach_says : (s n : ℕ) → IsTrue (is_node rights n) → (message : Message) (x : Shelf) → AreReached (stores.says rights s n message x).sends
  reach_says s n from message x = answered rights s n x (λ said. AreReached said.sends) message (record {
    rests = λ h. tt;
    lacks = λ t o h. (from, tt);
    bars = λ t o h. (from, tt);
    shows = λ t o row h there. (from, tt);
    too_late = λ t items h. (from, tt);
    votes_on = λ t items h above. (from, tt);
    applies = λ t h there. tt;
    releases = λ t h there. tt;
    boots = λ b h later. tt;
  })

-- ---- an event

module _ (S : Setting) (sight : Sight) (P : Public) (shared : IsShared S sight P) (w : World) (log : List Logged) (cs : List Commit) (k : Rebuilt)
    (stands : Stands S sight P w log cs k) where
  abbrev AllReached : Act → Type 0
  AllReached act = AllByRecursion (λ y. IsTrue (is_node S.rights y.0)) act.sends

  -- of a worker

  module _ (n : ℕ) (me : IsWorker S sight.has never n) where
    those_that_take_part : AllStores S.rights (stores_of (parts S w n))
    those_that_take_part =
        all_stores S sight.has never shared.setting shared.evaluates w cs stands.holds.state n me (worker_ok S sight P shared w log cs k stands n me)

    missing_store : (site : ℕ) (o : Oid) → (meant S w n).ending ≡ endings.Missing site o → IsTrue (is_store S.rights o.store)
    missing_store site o e =
        named_store S shared.setting o
        (shared.evaluates.missing n (request_of (kept S w n)) (tid_at n (standing S sight.has never w cs n)) (map_of (objects_of (w.node n).attempt.answers)) site o
        (named S sight P shared w log cs k stands n me) (over_fit S sight P shared w log cs k stands n me) e)

    decided_stores : (d : Decision) → In d (kept S w n).decided → AllStores S.rights d.stores
    decided_stores d j l at =
        let r = dealt S (standing S sight.has never w cs n).deals (kept S w n).decided (worker_ok S sight P shared w log cs k stands n me).listed d j in
        each_of (λ s. IsTrue (is_store S.rights s)) (stores_of (parts_by S r.commit)) l
        ((shadows S sight P shared w log cs k stands n me).keeps.parties r.commit r.listed) (subst (λ (x : Decision). In l x.stores) r.same at)

    woken_reached : AllReached (wakes S.rights S.cache n (kept S w n))
    woken_reached =
        all_append (λ y. IsTrue (is_node S.rights y.0)) (flat_map (λ d. to_all d.stores (m.Commit d.tid)) (kept S w n).decided)
        (to_all (stores_in S.rights) (m.Boot (suc (kept S w n).boot)))
        (all_of (λ y. IsTrue (is_node S.rights y.0)) (flat_map (λ d. to_all d.stores (m.Commit d.tid)) (kept S w n).decided) (λ y j.
        let r = in_flat (λ (d : Decision). to_all d.stores (m.Commit d.tid)) y (kept S w n).decided j in
        each_of (λ y. IsTrue (is_node S.rights y.0)) (to_all (r.0).stores (m.Commit (r.0).tid)) y
        (all_told S.rights (r.0).stores (m.Commit (r.0).tid) (decided_stores r.0 r.1)) r.2))
        (all_told S.rights (stores_in S.rights) (m.Boot (suc (kept S w n).boot)) (λ l j. (in_filter (is_store S.rights) l (range_with_len 0 64) j).1))

  worker_reached : (e : Inner) → IsWorker S sight.has never (node_of e) → AllReached (act S w e)
  worker_reached (i.Begin n) me = tt
  worker_reached (i.Resume n) me =
      reach_resumes S.rights S.cache n (kept S w n) (w.node n).attempt (meant S w n) (those_that_take_part n me) (missing_store n me)
  worker_reached (i.Deliver a n) me =
      heard S w AllReached a n tt
      (λ message worker. reach_takes S.rights S.cache n (kept S w n) (w.node n).attempt (parts S w n) (those_that_take_part n me) a message)
      (λ message other. absurd (both_ways (is_worker S.rights n) other me.kind)) (S.read (front_of (w.queue a n)))
  worker_reached (i.Idle n s) me = reach_silence S.rights S.cache n (kept S w n) (w.node n).attempt (parts S w n) (those_that_take_part n me) s
  worker_reached (i.Recover n) me =
      woken S w AllReached n (λ worker. woken_reached n me) (λ other. absurd (both_ways (is_worker S.rights n) other me.kind))

  -- of a store

  asks_reached : (s : ℕ) → IsStore S sight.has never s → AllByRecursion (λ y. IsTrue (is_node S.rights y.0)) (asks (shelf S w s)).sends
  asks_reached s me =
      all_of (λ y. IsTrue (is_node S.rights y.0)) (asks (shelf S w s)).sends (λ y j.
      let r = in_map (λ (p : Prepared). (p.0.worker, m.Inquire p.0)) y (shelf S w s).prepared j in
      subst (λ (z : ℕ × Message). IsTrue (is_node S.rights z.0)) (sym r.2)
      (worker_node S.rights r.0.0.worker
      (each_of (λ (p : Prepared). IsTrue (is_worker S.rights p.0.worker)) (shelf S w s).prepared r.0 (stands.holds.inv.store s me).senders r.1)))

  store_reached : (e : Inner) → IsStore S sight.has never (node_of e) → IsTrue (may S w e) → AllReached (act S w e)
  store_reached (i.Begin n) me can = tt
  store_reached (i.Idle n s) me can = absurd (lacks_none s (w.node n).attempt.phase (stands.holds.idle n me) (and_parts _ _ (and_parts _ _ can).0).1)
  store_reached (i.Resume n) me can = absurd (true≢false (sym (and_parts _ _ can).1 ∙ ap is_evaluating (stands.holds.idle n me)))
  store_reached (i.Deliver a n) me can =
      heard S w AllReached a n tt (λ message worker. absurd (both_ways (is_store S.rights n) (shared.setting.apart n worker) me.kind))
      (λ message other. reach_says S.rights n a (and_parts _ _ (and_parts _ _ can).0).1 message (shelf S w n)) (S.read (front_of (w.queue a n)))
  store_reached (i.Recover n) me can =
      woken S w AllReached n (λ worker. absurd (both_ways (is_store S.rights n) (shared.setting.apart n worker) me.kind)) (λ other. asks_reached n me)

pub sent_to_nodes : (S : Setting) (sight : Sight) (P : Public) → IsShared S sight P → (w : World) (log : List Logged) (cs : List Commit) (k : Rebuilt)
    → Stands S sight P w log cs k → (e : Inner) → IsTrue (may S w e) → sight.has (node_of e) ≡ false
    → AllByRecursion (λ y. IsTrue (is_node S.rights y.0)) (act S w e).sends
sent_to_nodes S sight P shared w log cs k stands e can outside =
    elim (or_cases (is_worker S.rights (node_of e)) (is_store S.rights (node_of e)) (may_node S w e can)) [
      | inl worker ↦ worker_reached S sight P shared w log cs k stands e (record { kind = worker; outside = outside })
      | inr store ↦ store_reached S sight P shared w log cs k stands e (record { kind = store; outside = outside }) can
    ]
