-- What is read of nodes, queues and posts is what holds of the machine.
use Rattle.std.proofs.Common.{◌≡◌, ℕ, suc, ◌-◌, Bool, true, false, not, cond, ◌&&◌, ◌||◌, ◌==◌, nat_lt, IsTrue, List, [], ◌∷◌, map, length, Option, Some, None}
use Rattle.std.proofs.Common.{refl, sym, ap, ◌∙◌, subst, inl, inr}
use Rattle.std.specs.Prelude.{slice_get, drop, if◌then◌else◌, is_some}
use Rattle.std.specs.Bool.{IsFalse}
use Rattle.std.specs.List.{filter, list_any, list_all, range_with_len}
use Rattle.std.proofs.lemmas.Bool.{and_parts, both_ways, cases_Bool, cond-true, cond-false, not-true}
use Rattle.fab_net.specs.declared.event.Inner.{Inner}
use Rattle.fab_net.specs.declared.event.Inner.TheVariants as i
use Rattle.fab_rights.specs.Computed.{is_node, is_store, is_worker, nodes_in}
use Rattle.fab_tree.specs.declared.resolved.Post.{Post}
use Rattle.fab_queues.specs.Channels.{Network, queue_of}
use Rattle.fab_attempts.specs.Sessions.{requests_of}
use Rattle.fab_world.specs.Workers.{Attempt, Kept}
use Rattle.fab_world.specs.Machine.{World, Node, Posts, enabled, is_empty, is_evaluating, is_idle, is_running, is_settled, kept, lacks, may}
use Rattle.fab_node.specs.declared.role.Role.{Role}
use Rattle.fab_node.specs.declared.role.Role.TheVariants as roles
use Rattle.fab_node.specs.Standing.{GivenModel, IsGiven, NodeModel, RoleStands}
use Rattle.fab_core.specs.Cores.{NodesStand, SlotStands, StandsFor, is_honest, posts_from, setting, slot}
use Rattle.fab_nodes.specs.Seen.{all_settled_in, begins_as, evaluates_as, has_post, is_up_and, lacks_as, may_in, may_post_in, none_wait_in, place_of}
use Rattle.fab_nodes.specs.Seen.{recovers_in, settles_in, waits_in}
use Rattle.fab_nodes.specs.Transit.{is_up_in}
use Rattle.fab_core.proofs.Filled.{up_is}
use Rattle.fab_core.proofs.Reached.{IsReached}
use Rattle.fab_core.proofs.Slots.{are_posts, empty_slot, failed_in, full_slot, role_here, running_in, running_out}

-- ---- lists

-- tests that answer alike where another answers true
all_alike : {A : Type 0} (p f h : A → Bool) (xs : List A) → ((x : A) → p x ≡ true → f x ≡ h x) → list_all f (filter p xs) ≡ list_all h (filter p xs)
all_alike p f h [] same = refl
all_alike p f h (x ∷ xs) same =
    elim (p x) as (λ b. p x ≡ b → list_all f (cond b (x ∷ filter p xs) (filter p xs)) ≡ list_all h (cond b (x ∷ filter p xs) (filter p xs))) [
      | true ↦ λ e. ap (λ b. b && list_all f (filter p xs)) (same x e) ∙ ap (λ b. h x && b) (all_alike p f h xs same)
      | false ↦ λ e. all_alike p f h xs same
    ] refl

-- none is left exactly where none passes
none_left : {A B : Type 0} (f : A → B) (p : A → Bool) (xs : List A) → is_empty (map f (filter p xs)) ≡ not (list_any p xs)
none_left f p [] = refl
none_left f p (x ∷ xs) =
    elim (p x) as (λ b. is_empty (map f (cond b (x ∷ filter p xs) (filter p xs))) ≡ not (b || list_any p xs)) [
      | true ↦ refl
      | false ↦ none_left f p xs
    ]

-- ---- truth values

twice_not : (b : Bool) → not (not b) ≡ b
twice_not true = refl
twice_not false = refl

and_true : (b : Bool) → b && true ≡ b
and_true true = refl
and_true false = refl

turned : (a b c : Bool) → (a && b) && c ≡ (a && c) && b
turned false b c = refl
turned true true true = refl
turned true true false = refl
turned true false true = refl
turned true false false = refl

-- a node that isn't honest is hostile, if it is one
hostile_where : (node hostile : Bool) → IsFalse (node && not hostile) → node && true ≡ node && hostile
hostile_where true true h = refl
hostile_where true false h = absurd (cc)
hostile_where false hostile h = refl

hostile_there : (node hostile : Bool) → IsFalse (node && not hostile) → node ≡ true → hostile ≡ true
hostile_there true true h e = refl
hostile_there true false h e = absurd (cc)
hostile_there false hostile h e = absurd (cc)

honest_not : (node hostile : Bool) → IsTrue (node && not hostile) → hostile ≡ false
honest_not node hostile h = not-true hostile (and_parts node (not hostile) h).1

module _ (g : GivenModel) (given : IsGiven g) (w : World) (reached : IsReached (setting g) w) where
  -- ---- one slot

  -- a test of a node that is up, as the machine has it
  by_up : (n : ℕ) (o : Option NodeModel) → SlotStands g w n o → (test : Role → Bool) (f : Bool → Bool) → f false ≡ false
      → ((role : Role) → RoleStands g n (w.node n) role → (w.node n).up ≡ true → test role ≡ f true) → is_up_and test o ≡ f (is_running (setting g) w n)
  by_up n None s test f off h = sym off ∙ ap f (sym (running_out g w n s))
  by_up n (Some x) s test f off h = elim (cases_Bool x.up) [
    | inl e ↦ ap (λ u. u && test x.role) e ∙ h x.role (role_here g w n x s) (sym s.2.up ∙ e) ∙ ap f (sym (running_in g w n x s ∙ e))
    | inr e ↦ ap (λ u. u && test x.role) e ∙ sym off ∙ ap f (sym (running_in g w n x s ∙ e))
  ]

  begins_role : (n : ℕ) (role : Role) → RoleStands g n (w.node n) role → (w.node n).up ≡ true
      → begins_as role ≡ is_worker g.rights n && is_idle (w.node n).attempt.phase && nat_lt (length (kept (setting g) w n).outcomes) ((setting g).requests n)
  begins_role n (roles.Store st) s up =
      sym (ap (λ b. b && is_idle (w.node n).attempt.phase && nat_lt (length (kept (setting g) w n).outcomes) ((setting g).requests n)) s.no_worker)
  begins_role n (roles.Worker wk) s up =
      ap (λ (a : Attempt). is_idle a.phase && nat_lt (length wk.kept.outcomes) (length (requests_of wk.program wk.node))) (s.attempt up)
      ∙ ap (λ (k : Kept). is_idle (w.node n).attempt.phase && nat_lt (length k.outcomes) (length (requests_of wk.program wk.node))) s.lasts
      ∙ ap (λ r. is_idle (w.node n).attempt.phase && nat_lt (length (kept (setting g) w n).outcomes) (length (requests_of r wk.node))) s.program
      ∙ ap (λ m. is_idle (w.node n).attempt.phase && nat_lt (length (kept (setting g) w n).outcomes) (length (requests_of g.program m))) s.node
      ∙ ap (λ b. b && is_idle (w.node n).attempt.phase && nat_lt (length (kept (setting g) w n).outcomes) ((setting g).requests n)) (sym s.kind)

  pub evaluates_role : (n : ℕ) (role : Role) → RoleStands g n (w.node n) role → (w.node n).up ≡ true → evaluates_as role ≡ is_evaluating (w.node n).attempt.phase
  evaluates_role n (roles.Store st) s up = sym (ap is_evaluating s.idle)
  evaluates_role n (roles.Worker wk) s up = ap (λ (a : Attempt). is_evaluating a.phase) (s.attempt up)

  lacks_role : (n t : ℕ) (role : Role) → RoleStands g n (w.node n) role → (w.node n).up ≡ true → lacks_as t role ≡ lacks t (w.node n).attempt.phase
  lacks_role n t (roles.Store st) s up = sym (ap (lacks t) s.idle)
  lacks_role n t (roles.Worker wk) s up = ap (λ (a : Attempt). lacks t a.phase) (s.attempt up)

  recovers_by : (n : ℕ) (o : Option NodeModel) → SlotStands g w n o → recovers_in o ≡ may (setting g) w (i.Recover n)
  recovers_by n None s = sym (ap (λ b. b && not (w.node n).up && not (w.node n).failed) s)
  recovers_by n (Some x) s =
      ap (λ u. not u && not x.failed) s.2.up ∙ ap (λ f. not (w.node n).up && not f) s.2.failed
      ∙ sym (ap (λ b. b && not (w.node n).up && not (w.node n).failed) s.0)

  -- ---- all slots

  module _ (nodes : List (Option NodeModel)) (queues : Network) (places : List ℕ) (stands : StandsFor g w nodes queues places) where
    pub waits_is : (a b : ℕ) → waits_in queues a b ≡ not (is_empty (w.queue a b))
    waits_is a b = ap (λ q. not (is_empty q)) (stands.queue a b)

    post_is : (h : ℕ) → has_post g.program places h ≡ not (is_empty (w.posts h))
    post_is h =
        sym (ap not (ap (λ ps. is_empty ps) (sym (stands.posts h)) ∙ none_left (λ (p : Post). (p.receiver, p.bytes)) (λ p. p.sender == h) (drop (place_of places h) g.program.posts))
        ∙ twice_not (has_post g.program places h))

    none_wait_is : (n : ℕ) → none_wait_in g queues n ≡ list_all (λ a. is_empty (w.queue a n)) (nodes_in g.rights)
    none_wait_is n =
        all_alike (is_node g.rights) (λ a. is_empty (queue_of queues a n)) (λ a. is_empty (w.queue a n)) (range_with_len 0 64)
        (λ a is. ap (λ q. is_empty q) (stands.queue a n))

    calm_by : (n : ℕ) (x : NodeModel) → SlotStands g w n (Some x) → x.up && not (evaluates_as x.role) ≡ (w.node n).up && not (is_evaluating (w.node n).attempt.phase)
    calm_by n x s = elim (cases_Bool x.up) [
      | inl e ↦ ap (λ u. u && not (evaluates_as x.role)) e ∙ ap not (evaluates_role n x.role (role_here g w n x s) (sym s.2.up ∙ e))
          ∙ sym (ap (λ u. u && not (is_evaluating (w.node n).attempt.phase)) (sym s.2.up ∙ e))
      | inr e ↦ ap (λ u. u && not (evaluates_as x.role)) e ∙ sym (ap (λ u. u && not (is_evaluating (w.node n).attempt.phase)) (sym s.2.up ∙ e))
    ]

    settles_by : (n : ℕ) (o : Option NodeModel) → is_node g.rights n ≡ true → SlotStands g w n o → settles_in g queues places n o ≡ is_settled (setting g) w n
    settles_by n None is s =
        let hostile : (setting g).hostile n ≡ true = hostile_there (is_node g.rights n) ((setting g).hostile n) s is in
        ap not (post_is n) ∙ twice_not (is_empty (w.posts n)) ∙ sym (and_true (is_empty (w.posts n)))
        ∙ sym (ap (λ h. is_empty (w.posts n) && (h || (w.node n).failed
        || ((w.node n).up && not (is_evaluating (w.node n).attempt.phase) && list_all (λ a. is_empty (w.queue a n)) (nodes_in g.rights)))) hostile)
    settles_by n (Some x) is s =
        let honest : (setting g).hostile n ≡ false = honest_not (is_node g.rights n) ((setting g).hostile n) s.0 in
        let none : is_empty (w.posts n) ≡ true = ap (λ ps. is_empty ps) (reached.posts n honest ∙ are_posts g given n honest) in
        let rest : Bool = list_all (λ a. is_empty (w.queue a n)) (nodes_in g.rights) in
        ap (λ f. f || (x.up && not (evaluates_as x.role) && none_wait_in g queues n)) s.2.failed
        ∙ ap (λ c. (w.node n).failed || (c && none_wait_in g queues n)) (calm_by n x s)
        ∙ ap (λ c. (w.node n).failed || ((w.node n).up && not (is_evaluating (w.node n).attempt.phase) && c)) (none_wait_is n)
        ∙ sym (ap (λ b. b && ((setting g).hostile n || (w.node n).failed || ((w.node n).up && not (is_evaluating (w.node n).attempt.phase) && rest))) none
        ∙ ap (λ h. h || (w.node n).failed || ((w.node n).up && not (is_evaluating (w.node n).attempt.phase) && rest)) honest)

    pub all_settled_is : all_settled_in g nodes queues places ≡ list_all (is_settled (setting g) w) (nodes_in g.rights)
    all_settled_is =
        all_alike (is_node g.rights) (λ n. settles_in g queues places n (slot nodes n)) (is_settled (setting g) w) (range_with_len 0 64)
        (λ n is. settles_by n (slot nodes n) is (stands.standing n))

    -- an event that may be cut may come exactly where it may in the machine
    pub may_is : (e : Inner) → may_in g nodes queues places e ≡ may (setting g) w e
    may_is (i.Begin n) =
        by_up n (slot nodes n) (stands.standing n) begins_as
        (λ r. r && is_worker g.rights n && is_idle (w.node n).attempt.phase && nat_lt (length (kept (setting g) w n).outcomes) ((setting g).requests n)) refl
        (begins_role n)
    may_is (i.Resume n) = by_up n (slot nodes n) (stands.standing n) evaluates_as (λ r. r && is_evaluating (w.node n).attempt.phase) refl (evaluates_role n)
    may_is (i.Deliver a b) = ap (λ u. u && is_node g.rights a && waits_in queues a b) (up_is g w nodes stands.standing b)
        ∙ ap (λ q. is_running (setting g) w b && is_node g.rights a && q) (waits_is a b)
    may_is (i.Idle n t) =
        ap (λ u. u && is_node g.rights t && all_settled_in g nodes queues places)
        (by_up n (slot nodes n) (stands.standing n) (lacks_as t) (λ r. r && lacks t (w.node n).attempt.phase) refl (lacks_role n t))
        ∙ ap (λ u. u && all_settled_in g nodes queues places) (turned (is_running (setting g) w n) (lacks t (w.node n).attempt.phase) (is_node g.rights t))
        ∙ ap (λ a. is_running (setting g) w n && is_node g.rights t && lacks t (w.node n).attempt.phase && a) all_settled_is
    may_is (i.Recover n) = recovers_by n (slot nodes n) (stands.standing n)

    posts_by : (h : ℕ) (o : Option NodeModel) → SlotStands g w h o → is_node g.rights h && not (is_some o) ≡ is_node g.rights h && (setting g).hostile h
    posts_by h None s = hostile_where (is_node g.rights h) ((setting g).hostile h) s
    posts_by h (Some x) s = ap (λ b. is_node g.rights h && b) (sym (honest_not (is_node g.rights h) ((setting g).hostile h) s.0))

    pub may_post_is : (h : ℕ) → may_post_in g nodes places h ≡ enabled (setting g) w (Posts h)
    may_post_is h =
        ap (λ b. b && has_post g.program places h) (posts_by h (slot nodes h) (stands.standing h))
        ∙ ap (λ b. is_node g.rights h && (setting g).hostile h && b) (post_is h)
