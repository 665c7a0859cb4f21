-- Who isn't declared hostile has nothing to post.
use Rattle.std.proofs.Common.{◌≡◌, ℕ, zero, suc, ◌+◌, ◌==◌, Bool, true, false, cond, List, [], ◌∷◌, ◌++◌, map, Option, Some, None, option_map, unwrap_or, refl, sym, ap, ◌∙◌, subst, arith}
use Rattle.std.specs.Prelude.{slice_get}
use Rattle.std.specs.List.{AllByRecursion, filter, flat_map}
use Rattle.std.proofs.lemmas.Bool.{true≢false, false≢true, eq-eqb, ne_eqb, eqb-true}
use Rattle.fab_base.proofs.Lists.{left_nil, right_nil, each_nil, true_if_empty, all_two}
use Rattle.fab_tree.specs.declared.name.Name.{Name}
use Rattle.fab_tree.specs.declared.declaration.Node.{Node}
use Rattle.fab_tree.specs.declared.declaration.Role.{Role}
use Rattle.fab_tree.specs.declared.event.PostLine.{PostLine}
use Rattle.fab_tree.specs.declared.start.Start.{Start}
use Rattle.fab_tree.specs.declared.resolved.Post.{Post}
use Rattle.fab_tree.specs.declared.resolved.Principal.{Principal}
use Rattle.fab_tree.specs.Limits.{is_node}
use Rattle.fab_language.specs.Arity.{miscounted}
use Rattle.fab_language.specs.Doubled.{doubled}
use Rattle.fab_language.specs.Faults.{faults}
use Rattle.fab_language.specs.Names.{named, number_of, is_same_name, node_name, is_hostile, is_honest}
use Rattle.fab_language.specs.Numbers.{principals_from, post_of, resolved}
use Rattle.fab_language.specs.Roles as roles
use Rattle.fab_language.specs.Types.{mistyped}
use Rattle.fab_language.specs.Unknown as unknown
use Rattle.fab_language.specs.Uses.{nodes_before, node_number}
use Rattle.fab_language.proofs.Named.{before_cons, hostile_node}
use Rattle.fab_labelling.specs.Readers.{is_numbered, place_from}
use Rattle.fab_rights.specs.declared.rights.Rights.{Rights}
use Rattle.fab_shapes.proofs.Named.{found}
use Rattle.fab_world.specs.Serial.{ArePosts}
use Rattle.fab_settings.specs.Settings.{IsAcceptedWith, is_hostile_node, setting_of}

-- ---- what a node is, by its number

-- behind one principal more, each place is one further
pub place_further : (p n : ℕ) (xs : List Principal) → place_from (suc p) n xs ≡ suc (place_from p n xs)
place_further p n [] = refl
place_further p n (x ∷ xs) =
    elim (is_numbered n x.node) as (λ b. cond b (suc p) (place_from (suc (suc p)) n xs) ≡ suc (cond b p (place_from (suc p) n xs))) [
      | true ↦ refl
      | false ↦ place_further (suc p) n xs
    ]

-- what the worker or store of this number is, among these
abbrev role_in : ℕ → List Principal → Option Role
role_in n xs = option_map (λ x. x.role) (slice_get xs (place_from 0 n xs))

-- the first principal's role, if the number is its own, or else what the others say
role_step : (n : ℕ) (x : Principal) (xs : List Principal) → role_in n (x ∷ xs) ≡ cond (is_numbered n x.node) (Some x.role) (role_in n xs)
role_step n x xs = by (is_numbered n x.node)
  where
    at : ℕ → Option Role
    at j = option_map (λ (y : Principal). y.role) (slice_get (x ∷ xs) j)

    by : (b : Bool) → at (cond b 0 (place_from 1 n xs)) ≡ cond b (Some x.role) (role_in n xs)
    by true = refl
    by false = ap at (place_further 0 n xs)

-- where a name stands for a worker or store, the node of its number is what was declared of it
pub role_at : (k : ℕ) (nodes : List Node) (x : Name) (y : Node) → named node_name nodes x ≡ Some y → is_node y.role ≡ true
    → role_in (k + nodes_before (number_of node_name nodes x) nodes) (principals_from k nodes) ≡ Some y.role
role_at k [] x y e of = absurd (cc)
role_at k (z ∷ zs) x y e of = by (is_same_name z.name x) e (λ j h. role_at j zs x y h of)
  where
    others : Bool → List Principal
    others b = principals_from (cond b (suc k) k) zs

    from : Bool → ℕ → Option Role
    from b n = cond (is_numbered n (cond b (Some k) None)) (Some z.role) (role_in n (others b))

    here : (b : Bool) → b ≡ true → from b (k + 0) ≡ Some z.role
    here true g = ap (λ c. cond c (Some z.role) (role_in (k + 0) (others true))) (eq-eqb (k + 0) k (omega arith))
    here false g = absurd (false≢true g)

    behind : (b : Bool) (i : ℕ) → ((j : ℕ) → role_in (j + i) (principals_from j zs) ≡ Some y.role) → from b (k + cond b (suc i) i) ≡ Some y.role
    behind true i later =
        let number : k + suc i ≡ suc k + i = omega arith in
        ap (λ c. cond c (Some z.role) (role_in (k + suc i) (others true))) (ne_eqb (k + suc i) k (λ g. absurd (omega (arith, g))))
        ∙ ap (λ m. role_in m (others true)) number ∙ later (suc k)
    behind false i later = later k

    by : (b : Bool) → cond b (Some z) (named node_name zs x) ≡ Some y
        → ((j : ℕ) → named node_name zs x ≡ Some y → role_in (j + nodes_before (number_of node_name zs x) zs) (principals_from j zs) ≡ Some y.role)
        → role_in (k + nodes_before (cond b zero (suc (number_of node_name zs x))) (z ∷ zs)) (principals_from k (z ∷ zs)) ≡ Some y.role
    by true h later =
        let same : z ≡ y = cc in
        role_step (k + 0) _ (others (is_node z.role)) ∙ here (is_node z.role) (ap (λ (w : Node). is_node w.role) same ∙ of)
        ∙ ap (λ (w : Node). Some w.role) same
    by false h later =
        let i = number_of node_name zs x in
        ap (λ m. role_in (k + m) (principals_from k (z ∷ zs))) (before_cons i z zs)
        ∙ role_step (k + cond (is_node z.role) (suc (nodes_before i zs)) (nodes_before i zs)) _ (others (is_node z.role))
        ∙ behind (is_node z.role) (nodes_before i zs) (λ j. later j h)

-- ---- who posts

module _ (s : Start) where
  -- its sender has the number of a hostile node
  abbrev IsHostilePost : PostLine → Type 0
  IsHostilePost x = is_hostile_node (resolved s) (node_number s x.sender) ≡ true

  is_hostile_post : (x : PostLine) → unknown.in_post s x ≡ [] → roles.in_post s x ≡ [] → IsHostilePost x
  is_hostile_post x e f =
      let nodes = s.program.nodes in
      let y = found (named node_name nodes x.sender) x.sender (left_nil (unknown.in_principal s x.sender) (unknown.in_principal s x.receiver) e) in
      let placed = left_nil (roles.need s is_hostile x.sender) (roles.need s is_honest x.receiver) f in
      let hostile = true_if_empty (is_hostile y.0.role) _ (subst (λ o. roles.if_of_kind is_hostile o x.sender ≡ []) y.1 placed) in
      let number : node_number s x.sender ≡ 0 + node_number s x.sender = omega arith in
      ap (is_hostile_node (resolved s)) number
      ∙ ap (λ o. unwrap_or (option_map is_hostile o) false) (role_at 0 nodes x.sender y.0 y.1 (hostile_node y.0.role hostile))
      ∙ hostile

  posts_declared : unknown.unknown s ≡ [] → flat_map (unknown.in_post s) s.posts ≡ []
  posts_declared e =
      let p = s.program in
      let five = flat_map (unknown.in_delegation s) p.delegations ++ flat_map (unknown.in_label_text s) p.labels
      ++ flat_map (unknown.in_class s) p.classes ++ flat_map (unknown.in_method s) p.methods ++ flat_map (unknown.in_root s) s.roots in
      let six = five ++ flat_map (unknown.in_session s) s.sessions in
      let posts = flat_map (unknown.in_post s) s.posts in
      let crashes = flat_map (unknown.in_crash s) s.crashes in
      let events = flat_map (unknown.in_event s) s.schedule in
      right_nil six posts (left_nil (six ++ posts) crashes (left_nil (six ++ posts ++ crashes) events e))

  posts_placed : roles.misplaced s ≡ [] → flat_map (roles.in_post s) s.posts ≡ []
  posts_placed e =
      let three = flat_map (roles.in_method s) s.program.methods ++ flat_map (roles.in_root s) s.roots ++ flat_map (roles.in_session s) s.sessions in
      let posts = flat_map (roles.in_post s) s.posts in
      let crashes = flat_map (roles.in_crash s) s.crashes in
      let events = flat_map (roles.in_event s) s.schedule in
      right_nil three posts (left_nil (three ++ posts) crashes (left_nil (three ++ posts ++ crashes) events e))

  are_hostile_posts : faults s ≡ [] → AllByRecursion IsHostilePost s.posts
  are_hostile_posts e =
      let two = unknown.unknown s ++ doubled s in
      let three = two ++ roles.misplaced s in
      let front = left_nil three (miscounted s) (left_nil (three ++ miscounted s) (mistyped s) e) in
      all_two (λ x. unknown.in_post s x ≡ []) (λ x. roles.in_post s x ≡ []) IsHostilePost is_hostile_post s.posts
      (each_nil (unknown.in_post s) s.posts (posts_declared (left_nil (unknown.unknown s) (doubled s) (left_nil two (roles.misplaced s) front))))
      (each_nil (roles.in_post s) s.posts (posts_placed (right_nil two (roles.misplaced s) front)))

  -- of hostile senders' posts, none is from a node that isn't hostile
  none_of : (h : ℕ) → is_hostile_node (resolved s) h ≡ false → (xs : List PostLine) → AllByRecursion IsHostilePost xs → filter (λ p. p.sender == h) (map (post_of s) xs) ≡ []
  none_of h honest [] all = refl
  none_of h honest (x ∷ xs) all = by (node_number s x.sender == h) refl (none_of h honest xs all.1)
    where
      behind : List Post
      behind = filter (λ p. p.sender == h) (map (post_of s) xs)

      by : (b : Bool) → (node_number s x.sender == h) ≡ b → behind ≡ [] → cond b (post_of s x ∷ behind) behind ≡ []
      by true g later =
          let same = eqb-true (node_number s x.sender) h g in
          absurd (true≢false (sym all.0 ∙ ap (is_hostile_node (resolved s)) same ∙ honest))
      by false g later = later

-- who isn't declared hostile has nothing to post
pub hostile_post : (s : Start) (rights : Rights) → IsAcceptedWith s rights → ArePosts (setting_of (resolved s) rights)
hostile_post s rights a h honest = ap (map (λ p. (p.receiver, p.bytes))) (none_of s h honest s.posts (are_hostile_posts s a.named))
