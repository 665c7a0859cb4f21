-- What a bundle within the limits that keeps the rules gives is a program of each of its workers.
use Rattle.std.proofs.Common.{◌≡◌, ℕ, zero, suc, ◌+◌, ◌≤◌, Bool, true, false, ◌==◌, cond, List, [], ◌∷◌, ◌++◌, map, length, Some, None, refl, sym, ap, ◌∙◌, subst, arith}
use Rattle.std.specs.Prelude.{slice_get, sum_by, find, filter_map}
use Rattle.std.specs.List.{AllByRecursion, flat_map, cons_option}
use Rattle.std.proofs.Math.Nat.{le-max_left, le-max_right}
use Rattle.std.proofs.lemmas.Bool.{false≢true, eq-eqb}
use Rattle.std.proofs.lemmas.List.{length-map}
use Rattle.std.proofs.lemmas.List.Sums.{sum_by-cons}
use Rattle.fab_base.proofs.Lists.{left_nil, right_nil, each_nil, at_index, all_two}
use Rattle.fab_tree.specs.declared.name.Name.{Name}
use Rattle.fab_tree.specs.declared.declaration.Class.{Class}
use Rattle.fab_tree.specs.declared.declaration.Node.{Node}
use Rattle.fab_tree.specs.declared.start.RequestText.{RequestText}
use Rattle.fab_tree.specs.declared.start.Session.{Session}
use Rattle.fab_tree.specs.declared.start.Start.{Start}
use Rattle.fab_tree.specs.declared.resolved.Asked.{Asked}
use Rattle.fab_tree.specs.declared.resolved.Request.{Request}
use Rattle.fab_tree.specs.Limits.{is_node, greatest, first_passed}
use Rattle.fab_tree.proofs.Within.{is_within}
use Rattle.fab_language.specs.Arity.{miscounted}
use Rattle.fab_language.specs.declared.rule.Fault.{Fault}
use Rattle.fab_language.specs.Doubled.{doubled}
use Rattle.fab_language.specs.Evaluation as evaluation
use Rattle.fab_language.specs.Faults.{faults}
use Rattle.fab_language.specs.Names.{named, number_of, is_same_name, node_name, is_honest_worker}
use Rattle.fab_language.specs.Numbers.{principals_from, field_of, class_of, asked_from, session_of, resolved}
use Rattle.fab_language.specs.Roles as roles
use Rattle.fab_language.specs.Types.{mistyped}
use Rattle.fab_language.specs.Unknown as unknown
use Rattle.fab_language.specs.Uses.{nodes_before, node_number}
use Rattle.fab_language.proofs.Named.{before_cons, honest_worker_node}
use Rattle.fab_laws.specs.Shapes.{IsFitting}
use Rattle.fab_places.specs.Places.{AreRights}
use Rattle.fab_rights.specs.declared.rights.Rights.{Rights}
use Rattle.fab_shapes.proofs.Lists.{in_each}
use Rattle.fab_shapes.proofs.Named.{found}
use Rattle.fab_shapes.proofs.Objects.{requests_have_kinds}
use Rattle.fab_shapes.proofs.Programs.{program_fits}
use Rattle.fab_attempts.specs.Sessions.{IsProgramOf, requests_in, requests_of}

-- ---- counts

fields_within : (s : Start) (cs : List Class) → greatest (map (λ c. length c.fields) cs) ≤ 16 → AllByRecursion (λ c. length c.fields ≤ 16) (map (class_of s) cs)
fields_within s [] h = tt
fields_within s (c ∷ cs) h =
    let here = le-max_left (length c.fields) (greatest (map (λ d. length d.fields) cs)) in
    let others = le-max_right (length c.fields) (greatest (map (λ d. length d.fields) cs)) in
    let same = length-map c.fields (field_of s) in
    (omega (arith, h, here, same), fields_within s cs (omega (arith, h, others)))

as_many_asked : (s : Start) (worker k : ℕ) (xs : List RequestText) → length (map (λ (a : Asked). a.request) (asked_from s worker k xs)) ≡ length xs
as_many_asked s worker k [] = refl
as_many_asked s worker k (x ∷ xs) = ap suc (as_many_asked s worker (suc k) xs)

-- a worker is asked no more than all are
pub asked_within : (s : Start) (n : ℕ) (xs : List Session) → length (requests_in (find (λ x. x.worker.number == n) (map (session_of s) xs))) ≤ sum_by (λ (x : Session). length x.requests) xs
asked_within s n [] = omega arith
asked_within s n (x ∷ xs) =
    let all = sum_by-cons (λ (y : Session). length y.requests) x xs in
    let here = as_many_asked s (node_number s x.worker) 1 x.requests in
    let others = asked_within s n xs in
    elim (node_number s x.worker == n) as (λ b. length (requests_in (cond b (Some (session_of s x)) (find (λ y. y.worker.number == n) (map (session_of s) xs)))) ≤ sum_by (λ (y : Session). length y.requests) (x ∷ xs)) [
      | true ↦ omega (arith, all, here)
      | false ↦ omega (arith, all, others)
    ]

-- ---- the workers of sessions are among the nodes

abbrev numbers_from : ℕ → List Node → List ℕ
numbers_from k nodes = filter_map (λ x. x.node) (principals_from k nodes)

-- where a name stands for a worker or store, its number stands at itself
at_itself : (k : ℕ) (nodes : List Node) (x : Name) (y : Node) → named node_name nodes x ≡ Some y → is_node y.role ≡ true
    → let i = nodes_before (number_of node_name nodes x) nodes in slice_get (numbers_from k nodes) i ≡ Some (k + i)
at_itself k [] x y e of = absurd (cc)
at_itself k (z ∷ zs) x y e of = by (is_same_name z.name x) e (λ j h. at_itself j zs x y h of)
  where
    here : (b : Bool) → b ≡ true → slice_get (cons_option (cond b (Some k) None) (numbers_from (cond b (suc k) k) zs)) 0 ≡ Some (k + 0)
    here true g = let number : k ≡ k + 0 = omega arith in ap Some number
    here false g = absurd (false≢true g)

    behind : (b : Bool) (i : ℕ) → ((j : ℕ) → slice_get (numbers_from j zs) i ≡ Some (j + i))
        → slice_get (cons_option (cond b (Some k) None) (numbers_from (cond b (suc k) k) zs)) (cond b (suc i) i) ≡ Some (k + cond b (suc i) i)
    behind true i later = let number : suc k + i ≡ k + suc i = omega arith in later (suc k) ∙ ap Some number
    behind false i later = later k

    by : (b : Bool) → cond b (Some z) (named node_name zs x) ≡ Some y
        → ((j : ℕ) → named node_name zs x ≡ Some y → let i = nodes_before (number_of node_name zs x) zs in slice_get (numbers_from j zs) i ≡ Some (j + i))
        → let i = nodes_before (cond b zero (suc (number_of node_name zs x))) (z ∷ zs) in slice_get (numbers_from k (z ∷ zs)) i ≡ Some (k + i)
    by true h later = let same : z ≡ y = cc in here (is_node z.role) (ap (λ (w : Node). is_node w.role) same ∙ of)
    by false h later =
        let i = number_of node_name zs x in
        subst (λ j. slice_get (numbers_from k (z ∷ zs)) j ≡ Some (k + j)) (sym (before_cons i z zs))
        (behind (is_node z.role) (nodes_before i zs) (λ j. later j h))

allowed : (b : Bool) (fault : Fault) → cond b [] (fault ∷ []) ≡ [] → b ≡ true
allowed true fault e = refl
allowed false fault e = absurd (omega (arith, ap length e))

module _ (s : Start) where
  -- a session's worker has the number of a node
  abbrev HasNode : Session → Type 0
  HasNode x = let i = node_number s x.worker in slice_get (evaluation.nodes_of (resolved s)) i ≡ Some i

  has_node : (x : Session) → unknown.in_session s x ≡ [] → roles.in_session s x ≡ [] → HasNode x
  has_node x e f =
      let y = found (named node_name s.program.nodes x.worker) x.worker (left_nil (unknown.in_principal s x.worker) (flat_map (unknown.in_request s) x.requests) e) in
      let honest = allowed (is_honest_worker y.0.role) _ (subst (λ o. roles.if_of_kind is_honest_worker o x.worker ≡ []) y.1 f) in
      let number : 0 + node_number s x.worker ≡ node_number s x.worker = omega arith in
      at_itself 0 s.program.nodes x.worker y.0 y.1 (honest_worker_node y.0.role honest) ∙ ap Some number

  sessions_declared : unknown.unknown s ≡ [] → flat_map (unknown.in_session s) s.sessions ≡ []
  sessions_declared e =
      let p = s.program in
      let five = flat_map (unknown.in_delegation s) p.delegations ++ flat_map (unknown.in_label_text s) p.labels ++ flat_map (unknown.in_class s) p.classes ++ flat_map (unknown.in_method s) p.methods ++ flat_map (unknown.in_root s) s.roots in
      let sessions = flat_map (unknown.in_session s) s.sessions in
      let posts = flat_map (unknown.in_post s) s.posts in
      let crashes = flat_map (unknown.in_crash s) s.crashes in
      let events = flat_map (unknown.in_event s) s.schedule in
      right_nil five sessions (left_nil (five ++ sessions) posts (left_nil (five ++ sessions ++ posts) crashes (left_nil (five ++ sessions ++ posts ++ crashes) events e)))

  sessions_placed : roles.misplaced s ≡ [] → flat_map (roles.in_session s) s.sessions ≡ []
  sessions_placed e =
      let two = flat_map (roles.in_method s) s.program.methods ++ flat_map (roles.in_root s) s.roots in
      let sessions = flat_map (roles.in_session s) s.sessions in
      let posts = flat_map (roles.in_post s) s.posts in
      let crashes = flat_map (roles.in_crash s) s.crashes in
      let events = flat_map (roles.in_event s) s.schedule in
      right_nil two sessions (left_nil (two ++ sessions) posts (left_nil (two ++ sessions ++ posts) crashes (left_nil (two ++ sessions ++ posts ++ crashes) events e)))

  have_nodes : faults s ≡ [] → AllByRecursion HasNode s.sessions
  have_nodes e =
      let two = unknown.unknown s ++ doubled s in
      let three = two ++ roles.misplaced s in
      let front = left_nil three (miscounted s) (left_nil (three ++ miscounted s) (mistyped s) e) in
      all_two (λ x. unknown.in_session s x ≡ []) (λ x. roles.in_session s x ≡ []) HasNode has_node s.sessions
      (each_nil (unknown.in_session s) s.sessions (sessions_declared (left_nil (unknown.unknown s) (doubled s) (left_nil two (roles.misplaced s) front))))
      (each_nil (roles.in_session s) s.sessions (sessions_placed (right_nil two (roles.misplaced s) front)))

  -- ---- the requests of one session are among all

  module _ (P : Request → Type 0) where
    abbrev AtNode : List Session → ℕ → Type 0
    AtNode xs node = AllByRecursion (λ x. AllByRecursion P (evaluation.asked_at node x)) (map (session_of s) xs)

    of_session : (n : ℕ) (xs : List Session) → AllByRecursion HasNode xs → ((x : Session) → HasNode x → AtNode xs (node_number s x.worker))
        → AllByRecursion P (requests_in (find (λ x. x.worker.number == n) (map (session_of s) xs)))
    of_session n [] nodes h = tt
    of_session n (x ∷ xs) nodes h =
        let number = node_number s x.worker in
        let own = requests_in (Some (session_of s x)) in
        let here : AllByRecursion P own = subst (λ b. AllByRecursion P (cond b own [])) (eq-eqb number number refl) (h x nodes.0).0 in
        let others = of_session n xs nodes.1 (λ y g. (h y g).1) in
        elim (number == n) as (λ b. AllByRecursion P (requests_in (cond b (Some (session_of s x)) (find (λ y. y.worker.number == n) (map (session_of s) xs))))) [
          | true ↦ here
          | false ↦ others
        ]

    at_node : AllByRecursion P (evaluation.requests_of (resolved s)) → (x : Session) → HasNode x → AtNode s.sessions (node_number s x.worker)
    at_node all x there =
        let node = node_number s x.worker in
        let nodes = evaluation.nodes_of (resolved s) in
        let sessions = map (session_of s) s.sessions in
        let of_node = λ (w : ℕ). flat_map (evaluation.asked_at w) sessions in
        in_each P (evaluation.asked_at node) sessions (at_index (λ w. AllByRecursion P (of_node w)) nodes node node (in_each P of_node nodes all) there)

    of_worker : faults s ≡ [] → AllByRecursion P (evaluation.requests_of (resolved s)) → (n : ℕ) → AllByRecursion P (requests_of (resolved s) n)
    of_worker e all n = of_session n s.sessions (have_nodes e) (at_node all)

-- ---- together

pub program_of : (s : Start) (n : ℕ) (rights : Rights) → first_passed s ≡ None → faults s ≡ [] → AreRights (resolved s) rights → IsProgramOf (resolved s) n rights
program_of s n rights limits right are =
    let within = is_within s limits in
    let fields : greatest (map (λ (c : Class). length c.fields) s.program.classes) ≤ 16 = within.fields in
    let requests : sum_by (λ (x : Session). length x.requests) s.sessions ≤ 100000 = within.requests in
    let few = asked_within s n s.sessions in
    record {
      fitting = program_fits s right;
      requests = of_worker s (IsFitting (resolved s)) right (requests_have_kinds s right) n;
      few = omega (arith, few, requests);
      fields = fields_within s s.program.classes fields;
      shapes = are.shapes;
    }
