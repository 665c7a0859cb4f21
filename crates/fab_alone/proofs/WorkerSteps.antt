-- What becomes of a worker that is alone at each of its acts, and at each of a store.
use Rattle.std.proofs.Common.{◌≡◌, ◌⊎◌, inl, inr, ℕ, zero, suc, ◌<◌, ◌≤◌, List, [], ◌∷◌, ◌++◌, map, length, not, ◌==◌, IsTrue, if◌then◌else◌}
use Rattle.std.proofs.Common.{Option, Some, option_map, refl, sym, ap, ◌∙◌, subst, arith, append-nil, length-append}
use Rattle.std.specs.List.{filter}
use Rattle.std.proofs.lemmas.Bool.{both_ways, cases_Bool, cases_eq, eq-eqb, ne_eqb, not_from_false, not-true}
use Rattle.fab_base.specs.declared.message.Message.{Message}
use Rattle.fab_base.specs.declared.message.Message.TheVariants as m
use Rattle.fab_base.specs.declared.object.Oid.{Oid}
use Rattle.fab_base.specs.declared.object.Value.{Value}
use Rattle.fab_base.specs.FieldSpelling.{IsTid}
use Rattle.fab_base.specs.FlatMap.{get}
use Rattle.fab_base.specs.MessageSpelling.{spelled}
use Rattle.fab_language.specs.declared.ending.Ending.{Ending}
use Rattle.fab_language.specs.declared.ending.Ending.TheVariants as endings
use Rattle.fab_language.specs.Meaning.{Meant}
use Rattle.fab_net.specs.declared.outcome.ReqOutcome.TheVariants.{Committed}
use Rattle.fab_rights.specs.Computed.{is_store, may_fetch}
use Rattle.fab_protocol.specs.declared.parts.Parts.{Parts}
use Rattle.fab_protocol.specs.Parts.{items_at, stores_of}
use Rattle.fab_protocol.specs.Stores.{Shelf, behind}
use Rattle.fab_protocol.specs.Tables.{row_of}
use Rattle.fab_protocol.specs.Versions.{Row, Rows, name_of}
use Rattle.fab_protocol.proofs.TableLaws.{row_of_name}
use Rattle.fab_world.specs.Machine.{Setting}
use Rattle.fab_world.specs.Workers as workers
use Rattle.fab_world.specs.Workers.{Attempt, Kept, Phase, dropped, is_in, next, over, telling, to_all}
use Rattle.fab_integrity.proofs.Invariant.{In}
use Rattle.fab_integrity.proofs.Lists.{filter_in, in_append, in_filter, in_numbers, in_one, number_in}
use Rattle.fab_integrity.proofs.Transport.{bytes_for}
use Rattle.fab_alone.specs.Alone.{map_behind, meant_behind, outcome_by}
use Rattle.fab_alone.proofs.Caches.{Cached, cached_blank}
use Rattle.fab_alone.proofs.Links.{Alone, Answers, Awaits, HasRow, IsThere, Left, Link, Prepares, Queue, Rests, number_by, outcomes_to, parts_now, tid_next, yes_bytes}
use Rattle.fab_alone.proofs.Sends.{none_each, one_each}

-- ---- what is sent to one node

pub bytes_here : (x y : ℕ) (message : Message) → y ≡ x → bytes_for x ((y, message) ∷ []) ≡ spelled message ∷ []
bytes_here x y message e = ap (λ b. map (λ (z : ℕ × Message). spelled z.1) (if b then (y, message) ∷ [] else [])) (eq-eqb y x e)

pub bytes_there : (x y : ℕ) (message : Message) → (y ≡ x → ⊥) → bytes_for x ((y, message) ∷ []) ≡ []
bytes_there x y message ne = ap (λ b. map (λ (z : ℕ × Message). spelled z.1) (if b then (y, message) ∷ [] else [])) (ne_eqb y x ne)

-- a store that rests does so behind more requests, with the same queues
rests_on : (n j k : ℕ) (table new : Rows) (to back to_new back_new : Queue) (shelf : Shelf) → j ≤ k → new ≡ table → to_new ≡ to → back_new ≡ back
    → Rests n j table to back shelf → Rests n k new to_new back_new shelf
rests_on n j k table new to back to_new back_new shelf le same to_same back_same r =
    let o = r.owes in
    record {
      owes = record {
        due = o.due;
        own = o.own;
        waits = to_same ∙ o.waits;
        prepared = o.prepared;
        rows = o.rows ∙ sym same;
        low = omega (arith, o.low, le);
      };
      none = back_same ∙ r.none;
    }

module _ (S : Setting) (n : ℕ) where
  pub length_outcomes : (k : ℕ) → length (outcomes_to S n k) ≡ k
  length_outcomes zero = refl
  length_outcomes (suc k) =
      let rest = length_outcomes k in
      let all = length-append (outcomes_to S n k) (outcome_by (tid_next n k) (meant_behind S n k).ending ∷ []) in
      omega (arith, rest, all)

  -- ---- the same, seen otherwise

  pub same_view : (kn kept : Kept) (a b : Attempt) (to back to_new back_new : ℕ → Queue) (shelf shelf_new : ℕ → Shelf) → kn ≡ kept → a ≡ b
      → ((s : ℕ) → IsTrue (is_store S.rights s) → to s ≡ to_new s) → ((s : ℕ) → IsTrue (is_store S.rights s) → back s ≡ back_new s)
      → ((s : ℕ) → IsTrue (is_store S.rights s) → shelf s ≡ shelf_new s) → Alone S n kn a to back shelf → Alone S n kept b to_new back_new shelf_new
  same_view kn kept a b to back to_new back_new shelf shelf_new same_kept same_attempt to_same back_same shelf_same alone =
      subst (λ x. Alone S n x b to_new back_new shelf_new) same_kept (subst (λ x. Alone S n kn x to_new back_new shelf_new) same_attempt (record {
        count = alone.count;
        table = alone.table;
        boot = alone.boot;
        outcomes = alone.outcomes;
        tries = alone.tries;
        number = alone.number;
        left = alone.left;
        awaits = alone.awaits;
        content = alone.content;
        cached = alone.cached;
        answered = alone.answered;
        links = λ s is.
            subst (λ q. Link S n alone.count (parts_now S n alone.count a.answers) s (alone.table s) q (back_new s) (shelf_new s) a.phase) (to_same s is)
            (subst (λ q. Link S n alone.count (parts_now S n alone.count a.answers) s (alone.table s) (to s) q (shelf_new s) a.phase) (back_same s is)
            (subst (λ q. Link S n alone.count (parts_now S n alone.count a.answers) s (alone.table s) (to s) (back s) q a.phase) (shelf_same s is)
            (alone.links s is)));
      }))

  module _ (kn : Kept) (a : Attempt) (to back : ℕ → Queue) (shelf : ℕ → Shelf) (alone : Alone S n kn a to back shelf) where
    abbrev k : ℕ
    k = alone.count

    abbrev table : ℕ → Rows
    table = alone.table

    abbrev parts : Parts
    parts = parts_now S n k a.answers

    -- ---- links alone change

    pub with_links : (to_new back_new : ℕ → Queue) (shelf_new : ℕ → Shelf)
        → ((s : ℕ) → IsTrue (is_store S.rights s) → Link S n k parts s (table s) (to_new s) (back_new s) (shelf_new s) a.phase)
        → Alone S n kn a to_new back_new shelf_new
    with_links to_new back_new shelf_new links = record {
      count = k;
      table = table;
      boot = alone.boot;
      outcomes = alone.outcomes;
      tries = alone.tries;
      number = alone.number;
      left = alone.left;
      awaits = alone.awaits;
      content = alone.content;
      cached = alone.cached;
      answered = alone.answered;
      links = links;
    }

    -- ---- a request begins

    pub begins_alone : a.phase ≡ workers.Idle → length kn.outcomes < S.requests n → Alone S n kn (next a) to back shelf
    begins_alone idle more = record {
      count = k;
      table = table;
      boot = alone.boot;
      outcomes = alone.outcomes;
      tries = alone.tries;
      number = ap suc (alone.number ∙ ap (λ p. number_of p) idle);
      left = omega (arith, more, ap length alone.outcomes, length_outcomes k);
      awaits = tt;
      content = alone.content;
      cached = alone.cached;
      answered = λ r h. absurd h;
      links = λ s is. subst (λ p. Link S n k parts s (table s) (to s) (back s) (shelf s) p) idle (alone.links s is);
    }
      where
        number_of : Phase → ℕ
        number_of p = number_by S n p k

    -- ---- it evaluates

    module _ (at : a.phase ≡ workers.Evaluating) where
      rests_at : (s : ℕ) → IsTrue (is_store S.rights s) → Rests n k (table s) (to s) (back s) (shelf s)
      rests_at s is = subst (λ p. Link S n k parts s (table s) (to s) (back s) (shelf s) p) at (alone.links s is)

      pub opened : k < S.requests n
      opened = subst (λ p. Left S n p k) at alone.left

      pub numbered : a.number ≡ suc k
      numbered = alone.number ∙ ap (λ p. number_by S n p k) at

      -- an object that is cached
      pub found_alone : (meant : Meant) (row : Row) → HasRow S n table row × IsTrue (may_fetch S.rights n row.0.class)
          → Alone S n kn (record (telling a meant) { answers = a.answers ++ row ∷ [] }) to back shelf
      found_alone meant row has = record {
        count = k;
        table = table;
        boot = alone.boot;
        outcomes = alone.outcomes;
        tries = alone.tries;
        number = alone.number;
        left = alone.left;
        awaits = alone.awaits;
        content = alone.content;
        cached = alone.cached;
        answered = λ r h. elim (in_append r a.answers (row ∷ []) h) [
          | inl old ↦ alone.answered r old
          | inr new ↦ subst (λ q. HasRow S n table q × IsTrue (may_fetch S.rights n q.0.class)) (sym (in_one r row new)) has
        ];
        links = λ s is.
            subst (λ p. Link S n k (parts_now S n k (a.answers ++ row ∷ [])) s (table s) (to s) (back s) (shelf s) p) (sym at) (rests_at s is);
      }

      -- one that is fetched
      pub fetch_alone : (meant : Meant) (o : Oid) → IsThere S n table o → S.read (spelled (m.Fetch (tid_next n k) o)) ≡ Some (m.Fetch (tid_next n k) o)
          → (to_new : ℕ → Queue) → ((s : ℕ) → IsTrue (is_store S.rights s) → to_new s ≡ to s ++ bytes_for s ((o.store, m.Fetch (tid_next n k) o) ∷ []))
          → Alone S n kn (record (telling a meant) { phase = workers.Fetching o }) to_new back shelf
      fetch_alone meant o there read to_new sent = record {
        count = k;
        table = table;
        boot = alone.boot;
        outcomes = alone.outcomes;
        tries = alone.tries;
        number = numbered;
        left = opened;
        awaits = there;
        content = alone.content;
        cached = alone.cached;
        answered = alone.answered;
        links = λ s is.
            let r = rests_at s is in
            elim (cases_eq o.store s) [
              | inl e ↦ inl (
                e,
                inl (record {
                  pre = to s;
                  owes = r.owes;
                  waits = sent s is ∙ ap (λ q. to s ++ q) (bytes_here s o.store (m.Fetch (tid_next n k) o) e);
                  read = read;
                  none = r.none;
                }),
              )
              | inr ne ↦
                  let same = sent s is ∙ ap (λ q. to s ++ q) (bytes_there s o.store (m.Fetch (tid_next n k) o) ne) ∙ append-nil (to s) in
                  inr (ne, rests_on n k k (table s) (table s) (to s) (back s) (to_new s) (back s) (shelf s) (omega arith) refl same refl r)
            ];
      }

      -- it fails, or is stopped
      pub closes_alone : (kept : Kept) (ending : Ending) → kept.boot ≡ kn.boot → kept.outcomes ≡ kn.outcomes ++ outcome_by (tid_next n k) ending ∷ []
          → (meant_behind S n k).ending ≡ ending → map_behind S n (suc k) ≡ map_behind S n k → Alone S n kept (record (dropped a) { tries = 0 }) to back shelf
      closes_alone kept ending boots outs is stays = record {
        count = suc k;
        table = table;
        boot = boots ∙ alone.boot;
        outcomes = outs ∙ ap (λ os. os ++ outcome_by (tid_next n k) ending ∷ []) alone.outcomes
            ∙ ap (λ e. outcomes_to S n k ++ outcome_by (tid_next n k) e ∷ []) (sym is);
        tries = refl;
        number = numbered;
        left = omega (arith, opened);
        awaits = tt;
        content = λ o. alone.content o ∙ ap (λ x. get x o) (sym stays);
        cached = cached_blank (HasRow S n table) 0 a.caches;
        answered = λ r h. absurd h;
        links = λ s at_store.
            rests_on n k (suc k) (table s) (table s) (to s) (back s) (to s) (back s) (shelf s) (omega arith) refl refl refl (rests_at s at_store);
      }

      -- it asks its participants
      pub asks_alone : (meant : Meant) (ss : List ℕ) → stores_of parts ≡ ss
          → ((s : ℕ) → In s (stores_of parts)
          → S.read (spelled (m.Prepare (tid_next n k) (items_at parts s))) ≡ Some (m.Prepare (tid_next n k) (items_at parts s)))
          → (to_new : ℕ → Queue)
          → ((s : ℕ) → IsTrue (is_store S.rights s) → to_new s ≡ to s ++ bytes_for s (map (λ x. (x, m.Prepare (tid_next n k) (items_at parts x))) ss))
          → Alone S n kn (record (telling a meant) { phase = workers.Preparing ss }) to_new back shelf
      asks_alone meant ss is read to_new sent = record {
        count = k;
        table = table;
        boot = alone.boot;
        outcomes = alone.outcomes;
        tries = alone.tries;
        number = numbered;
        left = opened;
        awaits = tt;
        content = alone.content;
        cached = alone.cached;
        answered = alone.answered;
        links = λ s store.
            let r = rests_at s store in
            let asked : ℕ → Message = λ x. m.Prepare (tid_next n k) (items_at parts x) in
            elim (cases_Bool (is_in s (stores_of parts))) [
              | inl e ↦
                  let i = in_numbers s (stores_of parts) e in
                  let one = one_each asked parts s i in
                  inl (
                    subst (In s) is i,
                    i,
                    inl (record {
                      pre = to s;
                      owes = r.owes;
                      waits = sent s store ∙ ap (λ q. to s ++ q) (ap (λ xs. bytes_for s (map (λ x. (x, asked x)) xs)) (sym is) ∙ one);
                      read = read s i;
                      none = r.none;
                    }),
                  )
              | inr e ↦
                  let out : In s (stores_of parts) → ⊥ = λ i. both_ways (is_in s (stores_of parts)) e (number_in s (stores_of parts) i) in
                  let off : In s ss → ⊥ = subst (λ xs. In s xs → ⊥) is out in
                  let same = sent s store ∙ ap (λ q. to s ++ q) (none_each asked ss s off) ∙ append-nil (to s) in
                  inr (inr (off, out, rests_on n k k (table s) (table s) (to s) (back s) (to_new s) (back s) (shelf s) (omega arith) refl same refl r))
            ];
      }

    -- ---- an object comes

    pub got_alone : (o : Oid) → a.phase ≡ workers.Fetching o → (answers : Answers S n k o (table o.store) (to o.store) (back o.store) (shelf o.store))
        → (back_new : ℕ → Queue) → back_new o.store ≡ [] → ((s : ℕ) → IsTrue (is_store S.rights s) → (o.store ≡ s → ⊥) → back_new s ≡ back s)
        → Alone S n kn (record a { phase = workers.Evaluating; answers = a.answers ++ (o, answers.row.1, answers.row.2) ∷ [] }) to back_new shelf
    got_alone o at answers back_new here others =
        let there : IsThere S n table o = subst (λ p. Awaits S n table p) at alone.awaits in
        let row : Row = answers.row in
        let name : row.0 ≡ o = row_of_name name_of (table o.store) o row answers.found in
        let found : row_of name_of (table o.store) o ≡ Some (o, row.1, row.2) = answers.found ∙ (λ i. Some (name i, row.1, row.2)) in
        record {
          count = k;
          table = table;
          boot = alone.boot;
          outcomes = alone.outcomes;
          tries = alone.tries;
          number = alone.number ∙ ap (λ p. number_by S n p k) at;
          left = subst (λ p. Left S n p k) at alone.left;
          awaits = tt;
          content = alone.content;
          cached = alone.cached;
          answered = λ r h. elim (in_append r a.answers ((o, row.1, row.2) ∷ []) h) [
            | inl old ↦ alone.answered r old
            | inr new ↦ subst (λ (q : Row). HasRow S n table q × IsTrue (may_fetch S.rights n q.0.class)) (sym (in_one r (o, row.1, row.2) new)) (found, there.allowed)
          ];
          links = λ s store.
              let old : Link S n k parts s (table s) (to s) (back s) (shelf s) (workers.Fetching o) =
              subst (λ p. Link S n k parts s (table s) (to s) (back s) (shelf s) p) at (alone.links s store) in
              elim old [
                | inr link ↦
                    rests_on n k k (table s) (table s) (to s) (back s) (to s) (back_new s) (shelf s) (omega arith) refl refl (others s store link.0) link.1
                | inl link ↦
                    subst (λ z. Rests n k (table z) (to z) (back_new z) (shelf z)) link.0 (record { owes = answers.owes; none = here })
              ];
        }

    -- ---- a vote comes

    module _ (ls : List ℕ) (at : a.phase ≡ workers.Preparing ls) (s : ℕ) (part : In s (stores_of parts))
        (prepares : Prepares n k (items_at parts s) (yes_bytes S n k) (table s) (to s) (back s) (shelf s))
        (back_new : ℕ → Queue) (here : back_new s ≡ []) (others : (x : ℕ) → IsTrue (is_store S.rights x) → (s ≡ x → ⊥) → back_new x ≡ back x) where
      abbrev pub fewer : List ℕ
      fewer = filter (λ l. not (l == s)) ls

      fewer_in : (x : ℕ) → In x fewer → In x ls × (x ≡ s → ⊥)
      fewer_in x i =
          let f = in_filter (λ l. not (l == s)) x ls i in
          (f.0, λ e. both_ways (x == s) (not-true (x == s) f.1) (eq-eqb x s e))

      pub voted_links : (x : ℕ) → IsTrue (is_store S.rights x) → Link S n k parts x (table x) (to x) (back_new x) (shelf x) (workers.Preparing fewer)
      voted_links x store = elim (cases_eq s x) [
        | inl same ↦
            subst (λ z. Link S n k parts z (table z) (to z) (back_new z) (shelf z) (workers.Preparing fewer)) same
            (inr (inl (
              (λ i. (fewer_in s i).1 refl),
              part,
              record {
                none = prepares.none;
                reply = here;
                prepared = prepares.prepared;
                rows = prepares.rows;
                low = prepares.low;
              },
            )))
        | inr ne ↦
            let old : Link S n k parts x (table x) (to x) (back x) (shelf x) (workers.Preparing ls) =
            subst (λ p. Link S n k parts x (table x) (to x) (back x) (shelf x) p) at (alone.links x store) in
            subst (λ q. Link S n k parts x (table x) (to x) q (shelf x) (workers.Preparing fewer)) (sym (others x store ne))
            (elim old [
              | inl link ↦ inl (filter_in (λ l. not (l == s)) x ls link.0 (not_from_false (x == s) (ne_eqb x s (λ e. ne (sym e)))), link.1, link.2)
              | inr rest ↦ elim rest [
                | inl link ↦ inr (inl ((λ i. link.0 (fewer_in x i).0), link.1, link.2))
                | inr link ↦ inr (inr ((λ i. link.0 (fewer_in x i).0), link.1, link.2))
              ]
            ])
      ]

      pub voted_alone : (more : List ℕ) → fewer ≡ more → Alone S n kn (record a { phase = workers.Preparing more }) to back_new shelf
      voted_alone more is = record {
        count = k;
        table = table;
        boot = alone.boot;
        outcomes = alone.outcomes;
        tries = alone.tries;
        number = alone.number ∙ ap (λ p. number_by S n p k) at;
        left = subst (λ p. Left S n p k) at alone.left;
        awaits = tt;
        content = alone.content;
        cached = alone.cached;
        answered = alone.answered;
        links = λ x store. subst (λ z. Link S n k parts x (table x) (to x) (back_new x) (shelf x) (workers.Preparing z)) is (voted_links x store);
      }

    -- ---- the request is decided

    -- each participant has prepared, and the others rest
    abbrev pub Stands : (ℕ → Queue) → ℕ → Type 0
    Stands back_new s =
        (In s (stores_of parts) × Prepares n k (items_at parts s) [] (table s) (to s) (back_new s) (shelf s))
        ⊎ ((In s (stores_of parts) → ⊥) × Rests n k (table s) (to s) (back_new s) (shelf s))

    pub stands_so : (back_new : ℕ → Queue) (s : ℕ) → Link S n k parts s (table s) (to s) (back_new s) (shelf s) (workers.Preparing []) → Stands back_new s
    stands_so back_new s (inl link) = absurd link.0
    stands_so back_new s (inr (inl link)) = inl (link.1, link.2)
    stands_so back_new s (inr (inr link)) = inr (link.1, link.2)

    pub decides_alone : (kept : Kept) (value : Option Value) → kept.boot ≡ kn.boot → kept.outcomes ≡ kn.outcomes ++ Committed (tid_next n k) value ∷ []
        → (meant_behind S n k).ending ≡ endings.Ended value → IsTid (tid_next n k) → k < S.requests n → a.number ≡ suc k
        → (new : ℕ → Rows) → ((s : ℕ) → new s ≡ behind ((tid_next n k, items_at parts s) ∷ []) (table s)) → ((s : ℕ) → (In s (stores_of parts) → ⊥) → new s ≡ table s)
        → ((o : Oid) → option_map (λ (r : Row). r.2) (row_of name_of (new o.store) o) ≡ get (map_behind S n (suc k)) o)
        → (caches : List Rows) → Cached (HasRow S n new) 0 caches
        → (to_new back_new : ℕ → Queue) → ((s : ℕ) → IsTrue (is_store S.rights s) → Stands back_new s)
        → ((s : ℕ) → IsTrue (is_store S.rights s) → to_new s ≡ to s ++ bytes_for s (to_all (stores_of parts) (m.Commit (tid_next n k))))
        → Alone S n kept (record (over caches a) { tries = 0 }) to_new back_new shelf
    decides_alone kept value boots outs ended tid opened number new new_is stays content caches cached to_new back_new stands sent = record {
      count = suc k;
      table = new;
      boot = boots ∙ alone.boot;
      outcomes = outs ∙ ap (λ os. os ++ Committed (tid_next n k) value ∷ []) alone.outcomes
          ∙ ap (λ e. outcomes_to S n k ++ outcome_by (tid_next n k) e ∷ []) (sym ended);
      tries = refl;
      number = number;
      left = omega (arith, opened);
      awaits = tt;
      content = content;
      cached = cached;
      answered = λ r h. absurd h;
      links = λ s store. elim (stands s store) [
        | inl link ↦
            let p = link.1 in
            record {
              owes = record {
                due = Some (tid_next n k, items_at parts s);
                own = (tid, refl);
                waits = sent s store ∙ ap (λ q. q ++ bytes_for s (to_all (stores_of parts) (m.Commit (tid_next n k)))) p.none
                    ∙ one_each (λ x. m.Commit (tid_next n k)) parts s link.0;
                prepared = p.prepared;
                rows = ap (behind ((tid_next n k, items_at parts s) ∷ [])) p.rows ∙ sym (new_is s);
                low = p.low;
              };
              none = p.reply;
            }
        | inr link ↦
            let same = sent s store ∙ ap (λ q. to s ++ q) (none_each (λ x. m.Commit (tid_next n k)) (stores_of parts) s link.0) ∙ append-nil (to s) in
            rests_on n k (suc k) (table s) (new s) (to s) (back_new s) (to_new s) (back_new s) (shelf s) (omega arith) (stays s link.0) same refl link.1
      ];
    }
