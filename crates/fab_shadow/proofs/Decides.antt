-- A worker outside the set decides: what enters the table, and what the replay has of the worker.
use Rattle.std.proofs.Common.{◌≡◌, ◌⊎◌, inl, inr, ℕ, ◌≤◌, true, IsTrue, List, [], ◌∷◌, ◌++◌, map, length, Some, refl, sym, ap, ◌∙◌, subst, arith}
use Rattle.std.specs.Prelude.{◌==◌}
use Rattle.std.specs.List.{AllByRecursion}
use Rattle.std.proofs.lemmas.Bool.{cases_eq, eqb-true}
use Rattle.std.proofs.lemmas.List.{map-append}
use Rattle.fab_base.specs.declared.object.Object.{Object}
use Rattle.fab_base.specs.declared.object.Oid.{Oid}
use Rattle.fab_base.specs.declared.object.Tid.{Tid}
use Rattle.fab_base.specs.declared.message.Items.{Items}
use Rattle.fab_base.specs.declared.message.Message.TheVariants as m
use Rattle.fab_net.specs.declared.note.Commit.{Commit}
use Rattle.fab_net.specs.declared.note.Logged.{Logged}
use Rattle.fab_protocol.specs.declared.parts.Parts.{Parts}
use Rattle.fab_protocol.specs.Caches.{at_store, cached}
use Rattle.fab_protocol.specs.Parts.{items_at, puts_of, stores_of}
use Rattle.fab_protocol.specs.Stores.{Prepared, Shelf, all_in, item_name}
use Rattle.fab_protocol.specs.Tables.{row_of}
use Rattle.fab_protocol.specs.Versions.{Row, Rows, begun, left_by, name_of, raised, version_of}
use Rattle.fab_protocol.proofs.VersionLaws.{version_of_row}
use Rattle.fab_protocol.proofs.Caches.{cached_as_many}
use Rattle.fab_rights.specs.Computed.{is_store}
use Rattle.fab_world.specs.Machine.{Setting, World, kept, shelf}
use Rattle.fab_world.specs.Workers.{Act, Attempt, Kept, decides}
use Rattle.fab_release.specs.Sights.{Sight, Public}
use Rattle.fab_release.specs.Replay.{Rebuilt, WorkerSeen, Votes, committed, is_shown, leaves, puts, row_at}
use Rattle.fab_isolation.specs.Law.{IsShared}
use Rattle.fab_integrity.proofs.Invariant.{In, Settled, Standing, IsWorker, IsStore, IsEnded, Open, Has, TakesPart, current, deals, limit, meant_by, parts_by, rank_of, standing, tid_at}
use Rattle.fab_integrity.proofs.Awaited.{all_stores}
use Rattle.fab_integrity.proofs.Deals.{deals_more}
use Rattle.fab_integrity.proofs.Frames.{store_is_other}
use Rattle.fab_integrity.proofs.Items.{left_here}
use Rattle.fab_integrity.proofs.Lists.{all_of, each_of, filter_in, filter_twice, in_append, in_filter, in_left, in_one, in_right, map_in}
use Rattle.fab_integrity.proofs.Replays.{in_cached, put_from}
use Rattle.fab_integrity.proofs.Worlds.{Lands}
use Rattle.fab_shadow.proofs.Shadow.{never, Stands, Dated, Keeps, IsShade, Tabled, cache_of, commitment}
use Rattle.fab_shadow.proofs.Frames.{dated_moves, stands_after, stores_stay}
use Rattle.fab_shadow.proofs.Here.{answer_dated, same_tid, worker_ok}
use Rattle.fab_shadow.proofs.Rows.{row_at_here, row_at_past}
use Rattle.fab_shadow.proofs.PutCaches.{cached_alike}
use Rattle.fab_shadow.proofs.Entered.{is_left, left_by_none, left_in_all, left_next, left_once, left_whole, prepared_items, prepared_there}

module _ (S : Setting) (sight : Sight) (P : Public) (shared : IsShared S sight P) (w : World) (log : List Logged) (cs : List Commit) (k : Rebuilt)
    (stands : Stands S sight P w log cs k) (n : ℕ) (me : IsWorker S sight.has never n) where
  abbrev kept_now : Kept
  kept_now = kept S w n

  abbrev attempt : Attempt
  attempt = (w.node n).attempt

  abbrev st : Standing
  st = standing S sight.has never w cs n

  abbrev c : Commit
  c = current S n st

  abbrev whole : Parts
  whole = parts_by S c

  abbrev ds : List Commit
  ds = cs ++ c ∷ []

  abbrev table : Rows
  table = leaves sight P whole ++ k.table

  settled_on : (p : Prepared) → Settled S sight.has never cs p → Settled S sight.has never ds p
  settled_on p h = record { outside = h.outside; commit = h.commit; listed = in_left h.commit cs (c ∷ []) h.listed; tid = h.tid }

  -- it is prepared by all that take part, or nobody takes part
  module _ (up : (w.node n).up ≡ true)
      (ready : (Open n st (tid_at n st)) ⊎ ((limit st ≤ rank_of (tid_at n st)) × (stores_of (parts_by S c) ≡ [])))
      (ended : IsEnded (meant_by S c).ending)
      (all : (s : ℕ) → IsStore S sight.has never s → TakesPart S s c → Has S (shelf S w s) (tid_at n st))
      (b : Attempt) (number : b.number ≡ attempt.number) (answers : b.answers ≡ attempt.answers) (caches : b.caches ≡ attempt.caches) where
    abbrev act : Act
    act = decides S.rights S.cache n kept_now b (parts_by S c)

    -- ---- the table

    -- what enters it is found there
    new_known : (r : Row) → In r (left_in_all S sight P shared w log cs k stands n me) → is_shown sight P r.0 ≡ true → IsStore S sight.has never r.0.store
        → row_at table r.0 r.1 ≡ r ∷ []
    new_known r i shown hs =
        row_at_here (leaves sight P whole) k.table r (filter_in (λ (x : Row). is_shown sight P x.0) r (map raised whole.writes ++ map begun whole.creates) i shown)
        (λ q j e g. left_once S sight P shared w log cs k stands n me ready all r i hs q
        (in_filter (λ (x : Row). is_shown sight P x.0) q (map raised whole.writes ++ map begun whole.creates) j).0 e)

    -- and what was known stays known, where nothing of its name enters at its version
    old_known : (o : Oid) (version : ℕ) (r : Row)
        → ((q : Row) → In q (left_in_all S sight P shared w log cs k stands n me) → q.0 ≡ o → q.1 ≡ version → ⊥)
        → row_at k.table o version ≡ r ∷ [] → row_at table o version ≡ r ∷ []
    old_known o version r apart known =
        row_at_past (leaves sight P whole) k.table o version
        (λ q j e g. apart q (in_filter (λ (x : Row). is_shown sight P x.0) q (map raised whole.writes ++ map begun whole.creates) j).0 e g) ∙ known

    -- nothing enters at a version that isn't past the current one
    enters_past : (o : Oid) (version : ℕ) → IsStore S sight.has never o.store → version ≤ version_of (shelf S w o.store).rows o
        → (q : Row) → In q (left_in_all S sight P shared w log cs k stands n me) → q.0 ≡ o → q.1 ≡ version → ⊥
    enters_past o version hs low q i e g =
        let next = left_next S sight P shared w log cs k stands n me ready all q i (subst (λ (p : Oid). IsStore S sight.has never p.store) (sym e) hs) in
        let there : version_of (shelf S w q.0.store).rows q.0 ≡ version_of (shelf S w o.store).rows o = ap (λ (p : Oid). version_of (shelf S w p.store).rows p) e in
        omega (arith, next, there, low, g)

    dated_known : (r : Row) → IsStore S sight.has never r.0.store → Dated S sight P k.table cs (shelf S w r.0.store) r → row_at table r.0 r.1 ≡ r ∷ []
    dated_known r hs d = elim d.dated [
      | inl low ↦ old_known r.0 r.1 r (enters_past r.0 r.1 hs low) d.known
      | inr a ↦ old_known r.0 r.1 r
          (λ q i e g. left_by_none S sight P shared w log cs k stands n me ready all q i (subst (λ (p : Oid). IsStore S sight.has never p.store) (sym e) hs) a.the
          (subst (λ (p : Oid). In a.the (shelf S w p.store).prepared) (sym e) a.listed) a.settled a.row a.left (a.name ∙ sym e)) d.known
    ]

    -- so what is dated stays dated
    dated_on : (r : Row) → IsStore S sight.has never r.0.store → Dated S sight P k.table cs (shelf S w r.0.store) r → Dated S sight P table ds (shelf S w r.0.store) r
    dated_on r hs d = dated_moves S sight P table cs ds (shelf S w r.0.store) r settled_on (record { known = dated_known r hs d; dated = d.dated })

    -- what enters is ahead
    new_dated : (r : Row) → In r (left_in_all S sight P shared w log cs k stands n me) → is_shown sight P r.0 ≡ true → IsStore S sight.has never r.0.store
        → Dated S sight P table ds (shelf S w r.0.store) r
    new_dated r i shown hs = record {
      known = new_known r i shown hs;
      dated = inr (record {
        the = (tid_at n st, items_at whole r.0.store);
        listed = prepared_there S sight P shared w log cs k stands n me ready all r.0.store hs (is_left S sight P shared w log cs k stands n me r i).part;
        settled = record { outside = me.outside; commit = c; listed = in_right c cs (c ∷ []) (inl refl); tid = refl };
        row = r;
        left = (is_left S sight P shared w log cs k stands n me r i).left;
        name = refl;
        version = refl;
      });
    }

    module _ (v : World) (lands : Lands n act w v) where
      same_shelf : (s : ℕ) → IsStore S sight.has never s → shelf S v s ≡ shelf S w s
      same_shelf s hs = stores_stay S sight P shared w v log cs ds k n me act lands stands.shadow s hs

      now_known : (o : Oid) (r : Row) → is_shown sight P o ≡ true → IsStore S sight.has never o.store → row_of name_of (shelf S w o.store).rows o ≡ Some r
          → row_at table o r.1 ≡ r ∷ []
      now_known o r shown hs found =
          let version = version_of_row (shelf S w o.store).rows o r found in
          old_known o r.1 r (enters_past o r.1 hs (omega (arith, version))) (stands.shadow.tabled.now o r shown hs found)

      pending_known : (s : ℕ) → IsStore S sight.has never s → (p : Prepared) → In p (shelf S w s).prepared → Settled S sight.has never ds p
          → (r : Row) → In r (left_by p.1) → is_shown sight P r.0 ≡ true → row_at table r.0 r.1 ≡ r ∷ []
      pending_known s hs p i settled r left shown =
          let here : r.0.store ≡ s =
          each_of (λ (x : Row). x.0.store ≡ s) (left_by p.1) r
          (left_here s p (each_of (λ (q : Prepared). AllByRecursion (λ j. (item_name j).store ≡ s) (all_in q.1)) (shelf S w s).prepared p (stands.holds.inv.store s hs).items_here i)) left in
          let at : IsStore S sight.has never r.0.store = subst (IsStore S sight.has never) (sym here) hs in
          elim (in_append settled.commit cs (c ∷ []) settled.listed) [
            | inl old ↦
                let before : Settled S sight.has never cs p = record { outside = settled.outside; commit = settled.commit; listed = old; tid = settled.tid } in
                old_known r.0 r.1 r
                (λ q j e g. left_by_none S sight P shared w log cs k stands n me ready all q j (subst (λ (o : Oid). IsStore S sight.has never o.store) (sym e) at) p
                (subst (λ z. In p (shelf S w z).prepared) (sym (ap (λ (o : Oid). o.store) e ∙ here)) i) before r left (sym e))
                (stands.shadow.tabled.pending s hs p i before r left shown)
            | inr one ↦
                let own : p.0 ≡ tid_at n st = sym settled.tid ∙ ap (λ (d : Commit). d.tid) (in_one settled.commit c one) in
                let items = prepared_items S sight P shared w log cs k stands n me ready all s hs p i own in
                new_known r (left_whole S sight P shared w log cs k stands n me s r (subst (λ (z : Items). In r (left_by z)) items left)) shown at
          ]

      answers_known : (z : ℕ) → IsWorker S sight.has never z → (z ≡ n) ⊎ (z ≡ n → ⊥) → (r : Row) → In r (v.node z).attempt.answers → is_shown sight P r.0 ≡ true
          → IsStore S sight.has never r.0.store → Dated S sight P table ds (shelf S w r.0.store) r
      answers_known z him (inl e) r i shown hs =
          absurd (subst (λ (a : Attempt). In r a.answers) lands.attempt (subst (λ x. In r (v.node x).attempt.answers) e i))
      answers_known z him (inr ne) r i shown hs =
          dated_on r hs (stands.shadow.tabled.answers z him r (subst (λ (a : Attempt). In r a.answers) (lands.follows.others z ne).attempt i) shown hs)

      -- in its own caches stands what stood there, what it wrote, or what was answered
      own_cached : (rows : Rows) → In rows (cached S.cache (puts_of b.answers whole) 0 b.caches) → (r : Row) → In r rows → is_shown sight P r.0 ≡ true
          → IsStore S sight.has never r.0.store → Dated S sight P table ds (shelf S w r.0.store) r
      own_cached rows i r j shown hs = elim (in_cached S.cache (puts_of b.answers whole) 0 b.caches rows r i j) [
        | inl old ↦ dated_on r hs (stands.shadow.tabled.cached n me old.0 (subst (In old.0) caches old.1) r old.2 shown hs)
        | inr put ↦ elim (put_from b.answers whole r put) [
          | inl written ↦
              new_dated r (subst (λ x. In x (map raised whole.writes ++ map begun whole.creates)) (sym written.2)
              (in_left (raised written.0) (map raised whole.writes) (map begun whole.creates) (map_in raised written.0 whole.writes written.1))) shown hs
          | inr answered ↦ dated_on r hs (answer_dated S sight P shared w log cs k stands n me r (subst (In r) answers answered) shown)
        ]
      ]

      cached_known : (z : ℕ) → IsWorker S sight.has never z → (z ≡ n) ⊎ (z ≡ n → ⊥) → (rows : Rows) → In rows (v.node z).attempt.caches → (r : Row) → In r rows
          → is_shown sight P r.0 ≡ true → IsStore S sight.has never r.0.store → Dated S sight P table ds (shelf S w r.0.store) r
      cached_known z him (inl e) rows i r j shown hs =
          own_cached rows (subst (λ (a : Attempt). In rows a.caches) lands.attempt (subst (λ x. In rows (v.node x).attempt.caches) e i)) r j shown hs
      cached_known z him (inr ne) rows i r j shown hs =
          dated_on r hs (stands.shadow.tabled.cached z him rows (subst (λ (a : Attempt). In rows a.caches) (lands.follows.others z ne).attempt i) r j shown hs)

      objects_known : (z s : ℕ) → IsWorker S sight.has never z → IsStore S sight.has never s → (bytes : List ℕ) → In bytes (v.queue s z)
          → (t : Tid) (o : Oid) (version : ℕ) (x : Object) → S.read bytes ≡ Some (m.Object t o version x) → is_shown sight P o ≡ true → o.store ≡ s
          → Dated S sight P table ds (shelf S w s) (o, version, x)
      objects_known z s him from bytes i t o version x read shown at = elim (lands.follows.queues s z bytes i) [
        | inr sent ↦ absurd (store_is_other S sight.has never shared.setting n s me from sent.0)
        | inl old ↦
            subst (λ y. Dated S sight P table ds (shelf S w y) (o, version, x)) at
            (dated_on (o, version, x) (subst (IsStore S sight.has never) (sym at) from)
            (subst (λ y. Dated S sight P k.table cs (shelf S w y) (o, version, x)) (sym at) (stands.shadow.tabled.objects z s him from bytes old t o version x read shown at)))
      ]

    -- the table has what it leaves, and of each worker's caches and answers what it had
    pub decided_tabled : (v : World) → Lands n (decides S.rights S.cache n kept_now b (parts_by S c)) w v
        → Tabled S sight P v (cs ++ c ∷ []) (leaves sight P (parts_by S c) ++ k.table)
    decided_tabled v lands = record {
      now = λ o r shown hs found. now_known v lands o r shown hs (subst (λ (x : Shelf). row_of name_of x.rows o ≡ Some r) (same_shelf v lands o.store hs) found);
      pending = λ s hs p i settled r left shown. pending_known v lands s hs p (subst (λ (x : Shelf). In p x.prepared) (same_shelf v lands s hs) i) settled r left shown;
      answers = λ z him r i shown hs. subst (λ x. Dated S sight P table ds x r) (sym (same_shelf v lands r.0.store hs)) (answers_known v lands z him (cases_eq z n) r i shown hs);
      cached = λ z him rows i r j shown hs. subst (λ x. Dated S sight P table ds x r) (sym (same_shelf v lands r.0.store hs))
          (cached_known v lands z him (cases_eq z n) rows i r j shown hs);
      objects = λ z s him from bytes i t o version x read shown at. subst (λ y. Dated S sight P table ds y (o, version, x)) (sym (same_shelf v lands s from))
          (objects_known v lands z s him from bytes i t o version x read shown at);
    }

    -- ---- the worker

    -- what the replay has of the worker, from an attempt that votes
    pub decided_keeps : (y : WorkerSeen) (part : Parts) → Keeps S sight P st y → y.stage ≡ Votes part
        → IsShade S sight P attempt.answers y.known (parts_by S c) part
        → Keeps S sight P (stands_after S sight P st (deals (cs ++ c ∷ []) n) (decides S.rights S.cache n kept_now b (parts_by S c))) (committed sight P n y.stage y)
    decided_keeps y part keeps stage shade =
        subst (λ q. Keeps S sight P (stands_after S sight P st (deals ds n) act) (committed sight P n q y)) (sym stage)
        (record {
          boot = keeps.boot;
          number = λ _. keeps.number up ∙ sym number;
          commits =
              (λ i. keeps.commits i ++ record { tid = same_tid S sight P shared w log cs k stands n me y keeps up i; stores = shade.stores i; leaves = shade.left i } ∷ [])
              ∙ sym (ap (map (commitment S sight P)) (deals_more cs c) ∙ map-append (commitment S sight P) (deals cs n) (c ∷ []));
          parties = λ d i. elim (in_append d (deals cs n) (c ∷ []) (subst (In d) (deals_more cs c) i)) [
            | inl before ↦ keeps.parties d before
            | inr new ↦ subst (λ (z : Commit). AllByRecursion (λ s. IsTrue (is_store S.rights s)) (stores_of (parts_by S z))) (sym (in_one d c new))
                (all_of (λ s. IsTrue (is_store S.rights s)) (stores_of whole)
                (all_stores S sight.has never shared.setting shared.evaluates w cs stands.holds.state n me (worker_ok S sight P shared w log cs k stands n me)))
          ];
          wide = cached_as_many S.cache (puts_of b.answers whole) 0 b.caches ∙ ap length caches ∙ keeps.wide;
          wide_too = cached_as_many P.cache (puts sight P y part) 0 y.caches ∙ keeps.wide_too;
          cached = same_cached;
        })
      where
        -- to a store in the set the same is put
        same_puts : (d : ℕ) → sight.has d ≡ true → at_store d (puts sight P y part) ≡ at_store d (puts_of attempt.answers whole)
        same_puts d inside =
            ap (at_store d) shade.puts
            ∙ filter_twice (λ (row : Row). row.0.store == d) (λ (row : Row). sight.has row.0.store) (λ row e. ap sight.has (eqb-true row.0.store d e) ∙ inside) (puts_of attempt.answers whole)

        same_cached : (s : ℕ) → sight.has s ≡ true → cache_of (cached P.cache (puts sight P y part) 0 y.caches) s ≡ cache_of (cached S.cache (puts_of b.answers whole) 0 b.caches) s
        same_cached s inside =
            ap (λ size. cache_of (cached size (puts sight P y part) 0 y.caches) s) shared.public_is.cache
            ∙ cached_alike S.cache (puts sight P y part) (puts_of attempt.answers whole) 0 y.caches attempt.caches s (keeps.wide_too ∙ sym keeps.wide) (keeps.cached s inside)
            (λ d e. same_puts d (let here : d ≡ s = omega (arith, e) in ap sight.has here ∙ inside))
            ∙ sym (λ i. cache_of (cached S.cache (puts_of (answers i) whole) 0 (caches i)) s)
