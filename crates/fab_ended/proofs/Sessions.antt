-- The sessions of an accepted bundle are of honest workers; and where no node is declared hostile none is.
use Rattle.std.proofs.Common.{◌≡◌, ◌⊎◌, inl, inr, ℕ, suc, ◌+◌, List, [], ◌∷◌, ◌++◌, map, length, true, false, not, cond, ◌==◌, if◌then◌else◌}
use Rattle.std.proofs.Common.{Option, Some, None, option_map, unwrap_or, refl, sym, ap, ◌∙◌, subst, arith, IsSomeAnd, IsTrue}
use Rattle.std.specs.Prelude.{IsFalse, slice_get, find}
use Rattle.std.specs.List.{AllByRecursion, flat_map}
use Rattle.std.proofs.lemmas.Bool.{and_parts, eqb-true, not-true}
use Rattle.fab_base.proofs.Lists.{left_nil, right_nil, each_nil, at_index, true_if_empty, all_two}
use Rattle.fab_tree.specs.declared.declaration.Node.{Node}
use Rattle.fab_tree.specs.declared.declaration.Role.{Role}
use Rattle.fab_tree.specs.declared.resolved.Principal.{Principal}
use Rattle.fab_tree.specs.declared.start.Session.{Session}
use Rattle.fab_tree.specs.declared.start.Start.{Start}
use Rattle.fab_tree.specs.Limits.{is_node}
use Rattle.fab_language.specs.Arity.{miscounted}
use Rattle.fab_language.specs.Doubled.{doubled}
use Rattle.fab_language.specs.Faults.{faults}
use Rattle.fab_language.specs.Types.{mistyped}
use Rattle.fab_language.specs.Names.{named, node_name, is_hostile, is_honest_worker}
use Rattle.fab_language.specs.Names as names
use Rattle.fab_language.specs.Numbers.{principals_from, resolved, session_of}
use Rattle.fab_language.specs.Roles as roles
use Rattle.fab_language.specs.Unknown as unknown
use Rattle.fab_language.specs.Uses.{node_number}
use Rattle.fab_language.proofs.Named.{honest_worker_node}
use Rattle.fab_labelling.specs.Placement.{role_of}
use Rattle.fab_labelling.specs.Readers.{place_from}
use Rattle.fab_places.specs.Places.{AreRights}
use Rattle.fab_rights.specs.declared.rights.Rights.{Rights}
use Rattle.fab_rights.specs.Computed.{is_worker}
use Rattle.fab_rights.proofs.Bits.{has_bit_exact}
use Rattle.fab_attempts.specs.Sessions.{requests_in, requests_of}
use Rattle.fab_shapes.proofs.Named.{found}
use Rattle.fab_settings.specs.Settings.{is_hostile_node}
use Rattle.fab_settings.proofs.Posts.{role_at}
use Rattle.fab_ended.specs.Bundles.{HasNoHostile}

module _ (s : Start) where
  -- the node of this number was declared an honest worker
  record IsHonestAt (n : ℕ) : Type 0 where
    role : Role
    declared : role_of (resolved s) n ≡ Some role
    honest : is_honest_worker role ≡ true

  -- ---- sessions

  abbrev IsHonest : Session → Type 0
  IsHonest x = IsHonestAt (node_number s x.worker)

  is_honest : (x : Session) → unknown.in_session s x ≡ [] → roles.in_session s x ≡ [] → IsHonest x
  is_honest x e f =
      let y = found (named node_name s.program.nodes x.worker) x.worker (left_nil (unknown.in_principal s x.worker) (flat_map (unknown.in_request s) x.requests) e) in
      let fits = true_if_empty (is_honest_worker y.0.role) _ (subst (λ o. roles.if_of_kind is_honest_worker o x.worker ≡ []) y.1 f) in
      let number : node_number s x.worker ≡ 0 + node_number s x.worker = omega arith in
      record {
        role = y.0.role;
        declared = ap (role_of (resolved s)) number ∙ role_at 0 s.program.nodes x.worker y.0 y.1 (honest_worker_node y.0.role fits);
        honest = fits;
      }

  are_honest : faults s ≡ [] → AllByRecursion IsHonest s.sessions
  are_honest e =
      let two = unknown.unknown s ++ doubled s in
      let three : two ++ roles.misplaced s ≡ [] = left_nil _ (miscounted s) (left_nil _ (mistyped s) e) in
      let declared : unknown.unknown s ≡ [] = left_nil (unknown.unknown s) (doubled s) (left_nil two (roles.misplaced s) three) in
      let placed : roles.misplaced s ≡ [] = right_nil two (roles.misplaced s) three in
      all_two (λ x. unknown.in_session s x ≡ []) (λ x. roles.in_session s x ≡ []) IsHonest is_honest s.sessions
      (each_nil (unknown.in_session s) s.sessions (right_nil _ _ (left_nil _ _ (left_nil _ _ (left_nil _ _ declared)))))
      (each_nil (roles.in_session s) s.sessions (right_nil _ _ (left_nil _ _ (left_nil _ _ (left_nil _ _ placed)))))

  -- a number has no requests, or is an honest worker's
  asked_of : (n : ℕ) (xs : List Session) → AllByRecursion IsHonest xs
      → (length (requests_in (find (λ x. x.worker.number == n) (map (session_of s) xs))) ≡ 0) ⊎ IsHonestAt n
  asked_of n [] h = inl refl
  asked_of n (x ∷ xs) h =
      elim (node_number s x.worker == n) as (λ b. (node_number s x.worker == n) ≡ b
      → (length (requests_in (cond b (Some (session_of s x)) (find (λ y. y.worker.number == n) (map (session_of s) xs)))) ≡ 0) ⊎ IsHonestAt n) [
        | true ↦ λ e. inr (subst IsHonestAt (eqb-true (node_number s x.worker) n e) h.0)
        | false ↦ λ e. asked_of n xs h.1
      ] refl

  some_and : (o : Option Role) (role : Role) → o ≡ Some role → names.is_worker role ≡ true → IsSomeAnd o (λ x. IsTrue (names.is_worker x))
  some_and o role is h = subst (λ p. IsSomeAnd p (λ x. IsTrue (names.is_worker x))) (sym is) h

  pub sessions_are_honest : (rights : Rights) → AreRights (resolved s) rights → faults s ≡ [] → (n : ℕ)
      → (length (requests_of (resolved s) n) ≡ 0) ⊎ ((is_worker rights n ≡ true) × (is_hostile_node (resolved s) n ≡ false))
  sessions_are_honest rights are e n = elim (asked_of n s.sessions (are_honest e)) [
    | inl none ↦ inl none
    | inr h ↦
        let p = and_parts (names.is_worker h.role) (not (is_hostile h.role)) h.honest in
        inr (
          (has_bit_exact rights.workers n).1 ((are.workers n).1 (some_and (role_of (resolved s) n) h.role h.declared p.0)),
          ap (λ o. unwrap_or (option_map is_hostile o) false) h.declared ∙ not-true (is_hostile h.role) p.1,
        )
  ]

  -- ---- nodes

  none_declared : (k : ℕ) (xs : List Node) → AllByRecursion (λ x. IsFalse (is_hostile x.role)) xs
      → AllByRecursion (λ (x : Principal). is_hostile x.role ≡ false) (principals_from k xs)
  none_declared k [] h = tt
  none_declared k (x ∷ xs) h = (h.0, none_declared (if is_node x.role then suc k else k) xs h.1)

  pub none_hostile : HasNoHostile s → (n : ℕ) → is_hostile_node (resolved s) n ≡ false
  none_hostile h n = by (slice_get (principals_from 0 s.program.nodes) (place_from 0 n (principals_from 0 s.program.nodes))) refl
    where
      by : (x : Option Principal) → slice_get (principals_from 0 s.program.nodes) (place_from 0 n (principals_from 0 s.program.nodes)) ≡ x
          → unwrap_or (option_map is_hostile (option_map (λ (y : Principal). y.role) x)) false ≡ false
      by None is = refl
      by (Some x) is =
          at_index (λ (y : Principal). is_hostile y.role ≡ false) (principals_from 0 s.program.nodes) (place_from 0 n (principals_from 0 s.program.nodes)) x
          (none_declared 0 s.program.nodes h) is
