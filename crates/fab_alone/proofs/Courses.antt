-- The requests of an accepted bundle with one worker are those of its session, and what they come to in turn is the bundle's evaluation.
use Rattle.std.proofs.Common.{◌≡◌, inl, inr, ℕ, zero, suc, ◌+◌, ◌-◌, ◌<◌, List, [], ◌∷◌, ◌++◌, map, length, true, false, cond, ◌==◌, IsTrue, if◌then◌else◌}
use Rattle.std.proofs.Common.{Option, Some, None, option_map, refl, sym, ap, ◌∙◌, subst, arith, append-nil, true≢false, IsSomeAnd}
use Rattle.std.specs.Prelude.{slice_get, find, ◌≢◌}
use Rattle.std.specs.List.{AllByRecursion, cons_option, filter_map, flat_map}
use Rattle.std.proofs.lemmas.Bool.{eqb-true, ne_eqb}
use Rattle.std.proofs.lemmas.List.Concat.{flat_map-cons}
use Rattle.std.proofs.lemmas.Option.{none-some, same_Some, slice_get_within}
use Rattle.fab_base.specs.declared.object.Object.{Object}
use Rattle.fab_base.specs.declared.object.Oid.{Oid}
use Rattle.fab_base.specs.declared.object.Tid.{Tid}
use Rattle.fab_base.specs.FlatMap.{FlatMap, ascends, is_among, put_all}
use Rattle.fab_base.proofs.Lists.{all_along, all_always, at_index}
use Rattle.fab_tree.specs.declared.resolved.Principal.{Principal}
use Rattle.fab_tree.specs.declared.resolved.Request.{Request}
use Rattle.fab_tree.specs.declared.resolved.Resolved.{Resolved}
use Rattle.fab_tree.specs.declared.start.RequestText.{RequestText}
use Rattle.fab_tree.specs.declared.start.Session.{Session}
use Rattle.fab_tree.specs.declared.start.Start.{Start}
use Rattle.fab_language.specs.Evaluation.{Course, course_of, if_ended, in_turn, map_at_start, tid_of}
use Rattle.fab_language.specs.Evaluation as evaluation
use Rattle.fab_language.specs.Meaning.{Meant, meaning}
use Rattle.fab_language.specs.Names.{is_worker as is_worker_role}
use Rattle.fab_language.specs.Numbers.{asked_from, resolved, session_of}
use Rattle.fab_labelling.specs.Placement.{role_of}
use Rattle.fab_labelling.specs.Readers.{is_numbered, place_from}
use Rattle.fab_laws.specs.Closed.{IsFound}
use Rattle.fab_laws.specs.Locality.{IsPart, IsSameOver, LacksToo, rows_among, with_changes}
use Rattle.fab_laws.proofs.Carried.{carried}
use Rattle.fab_laws.proofs.Locality.{over_more, part_agrees}
use Rattle.fab_rights.specs.declared.rights.Rights.{Rights}
use Rattle.fab_rights.proofs.Bits.{has_bit_exact}
use Rattle.fab_attempts.specs.Sessions.{requests_in, requests_of}
use Rattle.fab_shapes.proofs.Courses.{at_end}
use Rattle.fab_world.specs.Machine.{Setting}
use Rattle.fab_integrity.proofs.Invariant.{In}
use Rattle.fab_integrity.proofs.Lists.{each_of, filter_none}
use Rattle.fab_settings.specs.Settings.{IsAcceptedWith, meant_of, request_at, setting_of}
use Rattle.fab_ended.proofs.Sessions.{sessions_are_honest}
use Rattle.fab_alone.proofs.Sessions as sessions
use Rattle.fab_alone.specs.Alone.{IsAlone, IsSameOverMore, NoneLacks, first_tid, map_behind, meant_behind}

-- ---- the numbers of nodes

first_numbered : (n : ℕ) (o : Option ℕ) (rest : List ℕ) → is_numbered n o ≡ true → In n (cons_option o rest)
first_numbered n None rest e = absurd (true≢false (sym e))
first_numbered n (Some m) rest e = inl (eqb-true n m e)

later_numbered : (n : ℕ) (o : Option ℕ) (rest : List ℕ) → In n rest → In n (cons_option o rest)
later_numbered n None rest i = i
later_numbered n (Some m) rest i = inr i

-- a number that has a place among principals is one of them
numbered_in : (ps : List Principal) (n place : ℕ) → place_from place n ps < place + length ps → In n (filter_map (λ (x : Principal). x.node) ps)
numbered_in [] n place h = absurd (omega (arith, h))
numbered_in (x ∷ xs) n place h =
    elim (is_numbered n x.node) as (λ b. is_numbered n x.node ≡ b → (if b then place else place_from (suc place) n xs) < place + suc (length xs)
    → In n (cons_option x.node (filter_map (λ (y : Principal). y.node) xs))) [
      | true ↦ λ e g. first_numbered n x.node (filter_map (λ (y : Principal). y.node) xs) e
      | false ↦ λ e g. later_numbered n x.node (filter_map (λ (y : Principal). y.node) xs) (numbered_in xs n (suc place) (omega (arith, g)))
    ] refl h

-- ---- of lists that are joined only one isn't empty

none_of_all : (f : ℕ → List Request) (ns : List ℕ) → AllByRecursion (λ m. f m ≡ []) ns → flat_map f ns ≡ []
none_of_all f [] h = refl
none_of_all f (m ∷ ms) h = flat_map-cons f m ms ∙ ap (λ xs. xs ++ flat_map f ms) h.0 ∙ none_of_all f ms h.1

module _ (s : Start) where
  only_one : (f : ℕ → List Request) (n : ℕ) → ((m : ℕ) → (m ≡ n → ⊥) → f m ≡ []) → (ns : List ℕ) → sessions.Different s ns → In n ns → flat_map f ns ≡ f n
  only_one f n others [] d i = absurd i
  only_one f n others (m ∷ ms) d (inl e) =
      flat_map-cons f m ms
      ∙ ap (λ xs. f m ++ xs) (none_of_all f ms (each_other ms d.0)) ∙ append-nil (f m) ∙ ap f (sym e)
    where
      each_other : (ks : List ℕ) → AllByRecursion (λ k. m ≢ k) ks → AllByRecursion (λ k. f k ≡ []) ks
      each_other ks h = all_along (λ k. m ≢ k) (λ k. f k ≡ []) (λ k g. others k (λ same. g (sym e ∙ sym same))) ks h
  only_one f n others (m ∷ ms) d (inr i) =
      flat_map-cons f m ms
      ∙ ap (λ xs. xs ++ flat_map f ms) (others m (λ e. each_of (λ k. m ≢ k) ms n d.0 i e))
      ∙ only_one f n others ms d.1 i

  -- ---- the requests of a node

  at_found : (node : ℕ) (xs : List Session) → sessions.Alone (sessions.number s) xs
      → sessions.at_node s node xs ≡ requests_in (find (λ x. x.worker.number == node) (map (session_of s) xs))
  at_found node [] h = refl
  at_found node (x ∷ xs) h =
      flat_map-cons (evaluation.asked_at node) (session_of s x) (map (session_of s) xs)
      ∙ elim (sessions.number s x == node) as (λ b. (sessions.number s x == node) ≡ b
      → (if b then requests_in (Some (session_of s x)) else []) ++ sessions.at_node s node xs
      ≡ requests_in (cond b (Some (session_of s x)) (find (λ y. y.worker.number == node) (map (session_of s) xs)))) [
        | true ↦ λ e.
            ap (λ ys. requests_in (Some (session_of s x)) ++ ys) (sessions.none_at s node xs
            (subst (λ w. AllByRecursion (λ y. w ≢ sessions.number s y) xs) (eqb-true (sessions.number s x) node e) h.0))
            ∙ append-nil (requests_in (Some (session_of s x)))
        | false ↦ λ e. at_found node xs h.1
      ] refl

  -- the requests of a session are numbered in their order
  asked_slot : (w k : ℕ) (xs : List RequestText) (j : ℕ) (q : Request) → slice_get (map (λ a. a.request) (asked_from s w k xs)) j ≡ Some q
      → (q.worker ≡ w) × (q.number ≡ k + j)
  asked_slot w k [] j q h = absurd (none-some q h)
  asked_slot w k (x ∷ xs) zero q h =
      let same = same_Some _ q h in
      (ap (λ (r : Request). r.worker) (sym same), ap (λ (r : Request). r.number) (sym same) ∙ omega arith)
  asked_slot w k (x ∷ xs) (suc j) q h = let g = asked_slot w (suc k) xs j q h in (g.0, omega (arith, g.1))

  found_slot : (n : ℕ) (xs : List Session) (j : ℕ) (q : Request)
      → slice_get (requests_in (find (λ x. x.worker.number == n) (map (session_of s) xs))) j ≡ Some q → tid_of q ≡ first_tid n (suc j)
  found_slot n [] j q h = absurd (none-some q h)
  found_slot n (x ∷ xs) j q h =
      elim (sessions.number s x == n) as (λ b. (sessions.number s x == n) ≡ b
      → slice_get (requests_in (cond b (Some (session_of s x)) (find (λ y. y.worker.number == n) (map (session_of s) xs)))) j ≡ Some q → tid_of q ≡ first_tid n (suc j)) [
        | true ↦ λ e g.
            let a = asked_slot (sessions.number s x) 1 x.requests j q g in
            let number : q.number ≡ suc j = omega (arith, a.1) in
            λ i. record { worker = (a.0 ∙ eqb-true (sessions.number s x) n e) i; boot = 1; number = number i }
        | false ↦ λ e g. found_slot n xs j q g
      ] refl h

-- ---- requests in turn

module _ (r : Resolved) (rights : Rights) (n : ℕ) where
  abbrev S : Setting
  S = setting_of r rights

  -- the request behind k others is this one, in its own attempt
  abbrev pub IsAsked : ℕ → Request → Type 0
  IsAsked k q = (request_at r n (suc k) ≡ Some q) × (tid_of q ≡ first_tid n (suc k))

  meant_same : (k : ℕ) (q : Request) → IsAsked k q → meant_behind S n k ≡ evaluation.meant r (map_behind S n k) q
  meant_same k q h = λ i. meant_of r (h.0 i) (sym h.1 i) (map_behind S n k)

  pub record IsCourse (k : ℕ) (xs : List Request) (c : Course) : Type 0 where
    pub all : length c.endings ≡ length xs
    pub each : (j : ℕ) → j < length xs → slice_get c.endings j ≡ Some (meant_behind S n (k + j)).ending
    pub map : c.map ≡ map_behind S n (k + length xs)

  course_is : (xs : List Request) (k : ℕ) → ((j : ℕ) (q : Request) → slice_get xs j ≡ Some q → IsAsked (k + j) q) → IsCourse k xs (in_turn r (map_behind S n k) xs)
  course_is [] k asked = record { all = refl; each = λ j h. absurd (omega (arith, h)); map = ap (map_behind S n) (plus_none k) }
    where
      plus_none : (m : ℕ) → m ≡ m + 0
      plus_none m = omega arith
  course_is (x ∷ xs) k asked =
      let first : IsAsked k x = subst (λ z. IsAsked z x) (plus_none k) (asked 0 x refl) in
      let same = meant_same k x first in
      let behind : evaluation.map_behind r (map_behind S n k) x ≡ map_behind S n (suc k) =
      ap (λ (z : Meant). if_ended z.ending z.map (map_behind S n k)) (sym same) in
      let rest = course_is xs (suc k) (λ j q h. subst (λ z. IsAsked z q) (one_on j) (asked (suc j) q h)) in
      subst (λ m. IsCourse k (x ∷ xs) (evaluation.preceded (evaluation.meant r (map_behind S n k) x).ending (in_turn r m xs))) (sym behind)
      (record {
        all = ap suc rest.all;
        each = λ j h. by j h same rest.each;
        map = rest.map ∙ ap (map_behind S n) (sym (one_on (length xs)));
      })
    where
      plus_none : (m : ℕ) → m + 0 ≡ m
      plus_none m = omega arith

      one_on : (j : ℕ) → k + suc j ≡ suc k + j
      one_on j = omega arith

      by : (j : ℕ) → j < suc (length xs) → meant_behind S n k ≡ evaluation.meant r (map_behind S n k) x
          → ((i : ℕ) → i < length xs → slice_get (in_turn r (map_behind S n (suc k)) xs).endings i ≡ Some (meant_behind S n (suc k + i)).ending)
          → slice_get ((evaluation.meant r (map_behind S n k) x).ending ∷ (in_turn r (map_behind S n (suc k)) xs).endings) j ≡ Some (meant_behind S n (k + j)).ending
      by zero h same rest = ap (λ (z : Meant). Some z.ending) (sym same) ∙ ap (λ z. Some (meant_behind S n z).ending) (sym (plus_none k))
      by (suc j) h same rest = rest j (omega (arith, h)) ∙ ap (λ z. Some (meant_behind S n z).ending) (sym (one_on j))

  -- ---- over more objects

  none_among : (rows : FlatMap) → rows_among [] rows ≡ []
  none_among rows = filter_none (λ (row : Oid × Object). is_among row.0 []) rows (all_always (λ (row : Oid × Object). is_among row.0 [] ≡ false) (λ row. refl) rows)

  more_same : (q : Option Request) (t : Tid) (few many : FlatMap) → IsPart few many → LacksToo many (meant_of r q t few)
      → IsSameOver many (meant_of r q t few) (meant_of r q t many)
  more_same None t few many part lacks =
      record { ending = refl; touches = refl; downs = refl; written = refl; made = refl; map = λ o. refl }
  more_same (Some x) t few many part lacks = over_more few many r x t 1000000 (part_agrees few many (meaning r few x t 1000000) part lacks)

  more_carried : (q : Option Request) (t : Tid) (few many : FlatMap) → IsPart few many → LacksToo many (meant_of r q t few) → IsTrue (ascends few)
      → IsTrue (ascends many) → (meant_of r q t many).map ≡ with_changes (meant_of r q t few) many
  more_carried None t few many part lacks few_up many_up = sym (ap (λ xs. put_all xs (put_all xs many)) (none_among few))
  more_carried (Some x) t few many part lacks few_up many_up =
      carried few many r x t 1000000 (part_agrees few many (meaning r few x t 1000000) part lacks) few_up many_up

  pub same_over_more : IsSameOverMore S n
  same_over_more = record {
    same = λ number t few many. more_same (request_at r n number) t few many;
    carried = λ number t few many. more_carried (request_at r n number) t few many;
  }

-- ---- bundles

module _ (s : Start) (rights : Rights) (accepted : IsAcceptedWith s rights) (n : ℕ) (one : IsAlone (setting_of (resolved s) rights) n) where
  worker_listed : In n (evaluation.nodes_of (resolved s))
  worker_listed =
      let are = accepted.rights_are in
      let there : IsSomeAnd (role_of (resolved s) n) (λ x. IsTrue (is_worker_role x)) = (are.workers n).0 ((has_bit_exact rights.workers n).0 one.worker) in
      by (slice_get (resolved s).nodes (place_from 0 n (resolved s).nodes)) refl there
    where
      by : (x : Option Principal) → slice_get (resolved s).nodes (place_from 0 n (resolved s).nodes) ≡ x
          → IsSomeAnd (option_map (λ (y : Principal). y.role) x) (λ z. IsTrue (is_worker_role z)) → In n (evaluation.nodes_of (resolved s))
      by None e h = absurd h
      by (Some x) e h =
          let low = slice_get_within (resolved s).nodes (place_from 0 n (resolved s).nodes) x e in numbered_in (resolved s).nodes n 0 (omega (arith, low))

  others_ask_nothing : (m : ℕ) → (m ≡ n → ⊥) → requests_of (resolved s) m ≡ []
  others_ask_nothing m ne = elim (sessions_are_honest s rights accepted.rights_are accepted.named m) [
    | inl none ↦ empty (requests_of (resolved s) m) none
    | inr h ↦ absurd (ne (one.only m h.0))
  ]
    where
      empty : (xs : List Request) → length xs ≡ 0 → xs ≡ []
      empty [] e = refl
      empty (x ∷ xs) e = absurd (omega (arith, e))

  at_each : (m : ℕ) → sessions.at_node s m s.sessions ≡ requests_of (resolved s) m
  at_each m = at_found s m s.sessions (sessions.alone s accepted.named)

  -- all requests are those of the worker
  requests_are : evaluation.requests_of (resolved s) ≡ requests_of (resolved s) n
  requests_are =
      only_one s (λ m. sessions.at_node s m s.sessions) n (λ m ne. at_each m ∙ others_ask_nothing m ne) (evaluation.nodes_of (resolved s))
      (sessions.different_from s 0 s.program.nodes) worker_listed
      ∙ at_each n

  request_slot : (k : ℕ) (q : Request) → slice_get (requests_of (resolved s) n) k ≡ Some q → IsAsked (resolved s) rights n k q
  request_slot k q h = (
    ap (λ b. if b then None else slice_get (requests_of (resolved s) n) (suc k - 1)) (ne_eqb (suc k) 0 (λ e. omega (arith, e)))
        ∙ ap (slice_get (requests_of (resolved s) n)) (less_one k) ∙ h,
    found_slot s n s.sessions k q h,
  )
    where
      less_one : (j : ℕ) → suc j - 1 ≡ j
      less_one j = omega arith

  from_none : (j : ℕ) → 0 + j ≡ j
  from_none j = omega arith

  course_all : IsCourse (resolved s) rights n 0 (requests_of (resolved s) n) (course_of (resolved s))
  course_all =
      subst (λ xs. IsCourse (resolved s) rights n 0 (requests_of (resolved s) n) (in_turn (resolved s) (map_at_start (resolved s)) xs)) (sym requests_are)
      (course_is (resolved s) rights n (requests_of (resolved s) n) 0
      (λ j q h. subst (λ z. IsAsked (resolved s) rights n z q) (sym (from_none j)) (request_slot j q h)))

  -- the evaluation has an ending for each request of the worker, what it comes to in turn; and its map is the one behind the last
  pub course_length : length (course_of (resolved s)).endings ≡ length (requests_of (resolved s) n)
  course_length = course_all.all

  pub course_ending : (k : ℕ) → k < length (requests_of (resolved s) n)
      → slice_get (course_of (resolved s)).endings k ≡ Some (meant_behind (setting_of (resolved s) rights) n k).ending
  course_ending k h = course_all.each k h ∙ ap (λ z. Some (meant_behind (setting_of (resolved s) rights) n z).ending) (from_none k)

  pub course_map : (course_of (resolved s)).map ≡ map_behind (setting_of (resolved s) rights) n (length (requests_of (resolved s) n))
  course_map = course_all.map ∙ ap (map_behind (setting_of (resolved s) rights) n) (from_none (length (requests_of (resolved s) n)))

  pub none_lacks : NoneLacks (setting_of (resolved s) rights) n
  none_lacks k h =
      at_index IsFound (course_of (resolved s)).endings k (meant_behind (setting_of (resolved s) rights) n k).ending (at_end s).0 (course_ending k h)
