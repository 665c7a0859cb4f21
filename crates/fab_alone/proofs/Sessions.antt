-- The requests of the sessions at a node; sessions are of workers of different numbers.
use Rattle.std.proofs.Common.{◌≡◌, ◌≢◌, ◌+◌, ◌<◌, ◌==◌, ℕ, zero, suc, Bool, true, false, ◌&&◌, ◌||◌, if◌then◌else◌, List, [], ◌∷◌, ◌++◌, map, take, filter, count_by, Option, Some, None, refl, sym, ap, ◌∙◌, subst, arith}
use Rattle.std.specs.Prelude.{flat_map, filter_map}
use Rattle.std.specs.List.{AllByRecursion, list_any, cons_option}
use Rattle.std.proofs.lemmas.Bool.{true≢false}
use Rattle.std.proofs.lemmas.Bool.Decides.{nat_tests}
use Rattle.std.proofs.lemmas.List.Concat.{flat_map-cons}
use Rattle.std.proofs.lemmas.List.Sums.{sum_by-cons}
use Rattle.std.proofs.lemmas.Slice.Eq.{bytes_eq-Decides}
use Rattle.fab_base.proofs.Lists.{left_nil, right_nil, each_nil}
use Rattle.fab_tree.specs.declared.name.Name.{Name}
use Rattle.fab_tree.specs.declared.declaration.Role.{Role}
use Rattle.fab_tree.specs.declared.declaration.Role.TheVariants as r
use Rattle.fab_tree.specs.declared.declaration.Node.{Node}
use Rattle.fab_tree.specs.declared.start.Session.{Session}
use Rattle.fab_tree.specs.declared.start.Start.{Start}
use Rattle.fab_tree.specs.declared.resolved.Request.{Request}
use Rattle.fab_tree.specs.declared.resolved.Session.{Session as NumberedSession}
use Rattle.fab_tree.specs.Limits.{is_node}
use Rattle.fab_language.specs.declared.rule.Fault.{Fault}
use Rattle.fab_language.specs.declared.rule.NameRule.TheVariants as rule
use Rattle.fab_language.specs.Names.{named, number_of, is_same_name, node_name, label_name, class_name, method_name, root_name, session_name, is_worker, is_honest_worker}
use Rattle.fab_language.specs.Uses.{node_number}
use Rattle.fab_language.specs.Unknown as unknown
use Rattle.fab_language.specs.Doubled as doubled
use Rattle.fab_language.specs.Doubled.{repeats_behind, repeats, is_workers}
use Rattle.fab_language.specs.Roles as roles
use Rattle.fab_language.specs.Arity as arity
use Rattle.fab_language.specs.Types as types
use Rattle.fab_language.specs.Faults.{faults}
use Rattle.fab_language.specs.Numbers.{principals_from, session_of}
use Rattle.fab_language.specs.Evaluation.{asked_at}

-- ---- lists

-- lists one behind the other
abbrev joined : {A : Type 0} → List A → List (List A) → List A
joined xs [] = xs
joined xs (ys ∷ rest) = joined (xs ++ ys) rest

parts_empty : {A : Type 0} (xs : List A) (rest : List (List A)) → joined xs rest ≡ [] → AllByRecursion (λ ys. ys ≡ []) (xs ∷ rest)
parts_empty xs [] h = (h, tt)
parts_empty xs (ys ∷ rest) h = let g = parts_empty (xs ++ ys) rest h in (left_nil xs ys g.0, (right_nil xs ys g.0, g.1))

-- ---- the requests of one session

abbrev own : NumberedSession → List Request
own x = map (λ a. a.request) x.requests

-- ---- the requests of one node

-- the sessions are of workers of different numbers
abbrev pub Alone : (Session → ℕ) → List Session → Type 0
Alone number [] = Unit {0}
Alone number (x ∷ xs) = AllByRecursion (λ y. number x ≢ number y) xs × Alone number xs

module _ (s : Start) where
  abbrev pub number : Session → ℕ
  number x = node_number s x.worker

  abbrev pub at_node : ℕ → List Session → List Request
  at_node node xs = flat_map (asked_at node) (map (session_of s) xs)

  not_number : (n m : ℕ) → n ≢ m → (m == n) ≡ false
  not_number n m h = grind (arith, nat_tests)

  -- a session of another worker has nothing for this node
  pub none_at : (node : ℕ) (xs : List Session) → AllByRecursion (λ y. node ≢ number y) xs → at_node node xs ≡ []
  none_at node [] h = refl
  none_at node (x ∷ xs) h =
      flat_map-cons (asked_at node) (session_of s x) (map (session_of s) xs)
      ∙ ap (λ b. (if b then own (session_of s x) else []) ++ at_node node xs) (not_number node (number x) h.0)
      ∙ none_at node xs h.1

  -- ---- the numbers of all nodes

  abbrev pub Different : List ℕ → Type 0
  Different [] = Unit {0}
  Different (n ∷ ns) = AllByRecursion (λ m. n ≢ m) ns × Different ns

  abbrev pub numbers_from : ℕ → List Node → List ℕ
  numbers_from n xs = filter_map (λ x. x.node) (principals_from n xs)

  from_on : (n k : ℕ) (xs : List Node) → k < n → AllByRecursion (λ m. k ≢ m) (numbers_from n xs)
  from_on n k [] l = tt
  from_on n k (x ∷ xs) l =
      elim (is_node x.role) as (λ b. AllByRecursion (λ m. k ≢ m) (cons_option (if b then Some n else None) (numbers_from (if b then suc n else n) xs))) [
        | true ↦ (λ e. absurd (omega (arith, e, l)), from_on (suc n) k xs (omega (arith, l)))
        | false ↦ from_on n k xs l
      ]

  pub different_from : (n : ℕ) (xs : List Node) → Different (numbers_from n xs)
  different_from n [] = tt
  different_from n (x ∷ xs) =
      elim (is_node x.role) as (λ b. Different (cons_option (if b then Some n else None) (numbers_from (if b then suc n else n) xs))) [
        | true ↦ (from_on (suc n) n xs (omega arith), different_from (suc n) xs)
        | false ↦ different_from n xs
      ]

  -- ---- sessions are of workers of different numbers

  is_node_worker : (role : Role) → is_worker role ≡ true → is_node role ≡ true
  is_node_worker r.Principal h = absurd (true≢false (sym h))
  is_node_worker (r.Worker hostile) h = refl
  is_node_worker (r.Store hostile) h = refl

  same_texts : (x y z : Name) → is_same_name z x ≡ true → is_same_name z y ≡ true → is_same_name x y ≡ true
  same_texts x y z e f = (bytes_eq-Decides x.text y.text).1 (sym ((bytes_eq-Decides z.text x.text).0 e) ∙ (bytes_eq-Decides z.text y.text).0 f)

  -- how many nodes there are before one
  abbrev before : List Node → Name → ℕ
  before nodes x = count_by (λ z. is_node z.role) (take (number_of node_name nodes x) nodes)

  more : (z : Node) (zs : List Node) → count_by (λ (y : Node). is_node y.role) (z ∷ zs) ≡ (if is_node z.role then 1 else 0) + count_by (λ (y : Node). is_node y.role) zs
  more z zs = sum_by-cons (λ (y : Node). if is_node y.role then 1 else 0) z zs

  some_one : (a b : Node) → Some a ≡ Some b → a ≡ b
  some_one a b t = cc

  no_less : (b : Bool) (n : ℕ) → b ≡ true → 0 ≡ (if b then 1 else 0) + n → ⊥
  no_less true n e h = omega arith
  no_less false n e h = true≢false (sym e)

  same_rest : (b : Bool) (n m : ℕ) → (if b then 1 else 0) + n ≡ (if b then 1 else 0) + m → n ≡ m
  same_rest true n m h = omega arith
  same_rest false n m h = omega arith

  -- names of nodes that have as many before them are the same
  one_node : (nodes : List Node) (x y : Name) (n m : Node) → named node_name nodes x ≡ Some n → named node_name nodes y ≡ Some m → is_node n.role ≡ true → is_node m.role ≡ true → before nodes x ≡ before nodes y → is_same_name x y ≡ true
  one_node [] x y n m e f g h k = let no : None ≡ Some n = e in absurd (cc)
  one_node (z ∷ zs) x y n m e f g h k = by (is_same_name z.name x) (is_same_name z.name y) refl refl e f k (λ p q c. one_node zs x y n m p q g h c)
    where
      by : (a b : Bool) → is_same_name z.name x ≡ a → is_same_name z.name y ≡ b
          → (if a then Some z else named node_name zs x) ≡ Some n → (if b then Some z else named node_name zs y) ≡ Some m
          → count_by (λ w. is_node w.role) (take (if a then zero else suc (number_of node_name zs x)) (z ∷ zs)) ≡ count_by (λ w. is_node w.role) (take (if b then zero else suc (number_of node_name zs y)) (z ∷ zs))
          → (named node_name zs x ≡ Some n → named node_name zs y ≡ Some m → before zs x ≡ before zs y → is_same_name x y ≡ true)
          → is_same_name x y ≡ true
      by true true i j p q c rest = same_texts x y z.name i j
      by true false i j p q c rest =
          let first : z ≡ n = some_one z n p in
          let sum = more z (take (number_of node_name zs y) zs) in
          absurd (no_less (is_node z.role) _ (ap (λ (w : Node). is_node w.role) first ∙ g) (c ∙ sum))
      by false true i j p q c rest =
          let first : z ≡ m = some_one z m q in
          let sum = more z (take (number_of node_name zs x) zs) in
          absurd (no_less (is_node z.role) _ (ap (λ (w : Node). is_node w.role) first ∙ h) (sym c ∙ sum))
      by false false i j p q c rest =
          rest p q (same_rest (is_node z.role) (before zs x) (before zs y) (sym (more z (take (number_of node_name zs x) zs)) ∙ c ∙ more z (take (number_of node_name zs y) zs)))

  -- what its session's worker is
  record IsAt (x : Session) : Type 0 where
    node : Node
    found : named node_name s.program.nodes x.worker ≡ Some node
    worker : is_worker node.role ≡ true

  abbrev at_fault : (x : Session) (b : Bool) → List Fault
  at_fault x b = if b then [] else record { rule = rule.Node; at = x.worker.at } ∷ []

  honest : (x : Session) (role : Role) (b : Bool) → is_honest_worker role ≡ b → at_fault x b ≡ [] → is_worker role ≡ true
  honest x role true q t = both (is_worker role) _ q
    where
      both : (a b : Bool) → (a && b) ≡ true → a ≡ true
      both true b q = refl
      both false b q = absurd (true≢false (sym q))
  honest x role false q t = absurd (cc)

  is_at : (x : Session) → unknown.in_session s x ≡ [] → roles.in_session s x ≡ [] → IsAt x
  is_at x h k = step (named node_name s.program.nodes x.worker) refl (left_nil (unknown.in_principal s x.worker) (flat_map (unknown.in_request s) x.requests) h) k
    where
      step : (o : Option Node) → named node_name s.program.nodes x.worker ≡ o → unknown.if_found o x.worker ≡ [] → roles.if_of_kind is_honest_worker o x.worker ≡ [] → IsAt x
      step None e g j = absurd (cc)
      step (Some n) e g j = record { node = n; found = e; worker = honest x n.role (is_honest_worker n.role) refl j }

  all_at : (xs : List Session) → AllByRecursion (λ x. unknown.in_session s x ≡ []) xs → AllByRecursion (λ x. roles.in_session s x ≡ []) xs → AllByRecursion IsAt xs
  all_at [] h k = tt
  all_at (x ∷ xs) h k = (is_at x h.0 k.0, all_at xs h.1 k.1)

  kept : (xs : List Session) → AllByRecursion IsAt xs → filter (is_workers s) xs ≡ xs
  kept [] h = refl
  kept (x ∷ xs) h =
      ap (λ b. if b then x ∷ filter (is_workers s) xs else filter (is_workers s) xs) (ap doubled.is_a_worker h.0.found ∙ h.0.worker)
      ∙ ap (λ l. x ∷ l) (kept xs h.1)

  -- an item in front, by any test that none there passes
  abbrev Among : Session → List Session → Type 0
  Among x front = (p : Session → Bool) → list_any p front ≡ false → p x ≡ false

  or_parts : (a b : Bool) → (a || b) ≡ false → (a ≡ false) × (b ≡ false)
  or_parts true b e = absurd (true≢false e)
  or_parts false b e = (refl, e)

  front_none : (p : Session → Bool) (front : List Session) (y : Session) → list_any p (front ++ y ∷ []) ≡ false → (list_any p front ≡ false) × (p y ≡ false)
  front_none p [] y h = (refl, (or_parts (p y) false h).0)
  front_none p (x ∷ front) y h =
      let g = or_parts (p x) (list_any p (front ++ y ∷ [])) h in
      let k = front_none p front y g.1 in
      (ap (λ b. b || list_any p front) g.0 ∙ k.0, k.1)

  abbrev Unlike : Session → List Session → Type 0
  Unlike x ys = AllByRecursion (λ y. is_same_name x.worker y.worker ≡ false) ys

  no_repeat : (b : Bool) (x : Name) (rest : List Fault) → (if b then record { rule = rule.Doubled; at = x.at } ∷ [] else []) ++ rest ≡ [] → b ≡ false
  no_repeat true x rest h = absurd (cc)
  no_repeat false x rest h = refl

  unlike_behind : (x : Session) (front ys : List Session) → Among x front → repeats_behind session_name front ys ≡ [] → Unlike x ys
  unlike_behind x front [] a h = tt
  unlike_behind x front (y ∷ ys) a h =
      (a (λ z. is_same_name z.worker y.worker) (no_repeat _ y.worker _ h), unlike_behind x (front ++ y ∷ []) ys (λ p k. a p (front_none p front y k).0) (right_nil _ _ h))

  abbrev AllUnlike : List Session → Type 0
  AllUnlike [] = Unit {0}
  AllUnlike (x ∷ xs) = Unlike x xs × AllUnlike xs

  all_unlike : (front xs : List Session) → repeats_behind session_name front xs ≡ [] → AllUnlike xs
  all_unlike front [] h = tt
  all_unlike front (x ∷ xs) h =
      let rest = right_nil _ _ h in
      (unlike_behind x (front ++ x ∷ []) xs (λ p k. (front_none p front x k).1) rest, all_unlike (front ++ x ∷ []) xs rest)

  numbers_differ : (x : Session) (ys : List Session) → IsAt x → AllByRecursion IsAt ys → Unlike x ys → AllByRecursion (λ y. number x ≢ number y) ys
  numbers_differ x [] at ats u = tt
  numbers_differ x (y ∷ ys) at ats u =
      (λ e. absurd (true≢false (sym (one_node s.program.nodes x.worker y.worker at.node ats.0.node at.found ats.0.found (is_node_worker at.node.role at.worker) (is_node_worker ats.0.node.role ats.0.worker) e) ∙ u.0)), numbers_differ x ys at ats.1 u.1)

  alone_from : (xs : List Session) → AllByRecursion IsAt xs → AllUnlike xs → Alone number xs
  alone_from [] ats u = tt
  alone_from (x ∷ xs) ats u = (numbers_differ x xs ats.0 ats.1 u.0, alone_from xs ats.1 u.1)

  -- ---- together

  known_sessions : faults s ≡ [] → AllByRecursion (λ x. unknown.in_session s x ≡ []) s.sessions
  known_sessions h =
      let all = parts_empty (unknown.unknown s) (doubled.doubled s ∷ roles.misplaced s ∷ arity.miscounted s ∷ types.mistyped s ∷ []) h in
      let p = s.program in
      let parts =
      parts_empty (flat_map (unknown.in_delegation s) p.delegations)
      (flat_map (unknown.in_label_text s) p.labels ∷ flat_map (unknown.in_class s) p.classes ∷ flat_map (unknown.in_method s) p.methods
      ∷ flat_map (unknown.in_root s) s.roots ∷ flat_map (unknown.in_session s) s.sessions ∷ flat_map (unknown.in_post s) s.posts ∷ flat_map (unknown.in_crash s) s.crashes ∷ flat_map (unknown.in_event s) s.schedule ∷ []) all.0 in
      each_nil (unknown.in_session s) s.sessions parts.1.1.1.1.1.0

  placed_sessions : faults s ≡ [] → AllByRecursion (λ x. roles.in_session s x ≡ []) s.sessions
  placed_sessions h =
      let all = parts_empty (unknown.unknown s) (doubled.doubled s ∷ roles.misplaced s ∷ arity.miscounted s ∷ types.mistyped s ∷ []) h in
      let parts = parts_empty (flat_map (roles.in_method s) s.program.methods) (flat_map (roles.in_root s) s.roots ∷ flat_map (roles.in_session s) s.sessions ∷ flat_map (roles.in_post s) s.posts ∷ flat_map (roles.in_crash s) s.crashes ∷ flat_map (roles.in_event s) s.schedule ∷ []) all.1.1.0 in
      each_nil (roles.in_session s) s.sessions parts.1.1.0

  single_sessions : faults s ≡ [] → repeats session_name (filter (is_workers s) s.sessions) ≡ []
  single_sessions h =
      let all = parts_empty (unknown.unknown s) (doubled.doubled s ∷ roles.misplaced s ∷ arity.miscounted s ∷ types.mistyped s ∷ []) h in
      let p = s.program in
      let parts = parts_empty (repeats node_name p.nodes) (repeats label_name p.labels ∷ repeats class_name p.classes ∷ flat_map doubled.in_class p.classes ∷ repeats method_name p.methods ∷ flat_map doubled.in_method p.methods ∷ repeats root_name s.roots ∷ repeats session_name (filter (is_workers s) s.sessions) ∷ []) all.1.0 in
      parts.1.1.1.1.1.1.1.0

  pub alone : faults s ≡ [] → Alone number s.sessions
  alone h =
      let ats = all_at s.sessions (known_sessions h) (placed_sessions h) in
      alone_from s.sessions ats (all_unlike [] s.sessions (subst (λ l. repeats session_name l ≡ []) (kept s.sessions ats) (single_sessions h)))
