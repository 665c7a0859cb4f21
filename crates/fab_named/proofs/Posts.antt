-- Posts, crashes and scheduled events of a bundle without faults are of its workers and stores.
use Rattle.std.proofs.Common.{◌≡◌, ℕ, Bool, true, not, [], ◌++◌, length, Option, Some, None, refl, ap, subst, arith}
use Rattle.std.specs.List.{AllByRecursion, flat_map}
use Rattle.std.proofs.lemmas.Bool.{and_parts}
use Rattle.fab_base.proofs.Lists.{left_nil, right_nil, each_nil, all_map, true_if_empty, all_two}
use Rattle.fab_tree.specs.declared.name.Name.{Name}
use Rattle.fab_tree.specs.declared.declaration.Role.{Role}
use Rattle.fab_tree.specs.declared.event.PostLine.{PostLine}
use Rattle.fab_tree.specs.declared.event.CrashLine.{CrashLine}
use Rattle.fab_tree.specs.declared.event.Step.{Step}
use Rattle.fab_tree.specs.declared.event.Step.TheVariants as steps
use Rattle.fab_tree.specs.declared.event.Event.{Event}
use Rattle.fab_tree.specs.declared.event.Event.TheVariants as events
use Rattle.fab_tree.specs.declared.start.Start.{Start}
use Rattle.fab_tree.specs.declared.resolved.Post.{Post}
use Rattle.fab_tree.specs.declared.resolved.Crash.{Crash}
use Rattle.fab_tree.specs.Limits.{is_node}
use Rattle.fab_language.specs.Arity.{miscounted}
use Rattle.fab_language.specs.Doubled.{doubled}
use Rattle.fab_language.specs.Faults.{faults}
use Rattle.fab_language.specs.Names.{named, node_name, is_hostile, is_honest, is_honest_worker}
use Rattle.fab_language.specs.Numbers.{post_of, crash_of, step_of, event_of, resolved}
use Rattle.fab_language.specs.Roles as roles
use Rattle.fab_language.specs.Types.{mistyped}
use Rattle.fab_language.specs.Unknown as unknown
use Rattle.fab_language.specs.Uses.{node_number}
use Rattle.fab_language.proofs.Named.{honest_worker_node, hostile_node}
use Rattle.fab_reports.specs.Showable.{IsNode}
use Rattle.fab_named.specs.Events.{IsStepOf, IsEventOf}
use Rattle.fab_named.proofs.Numbered.{name_among}

-- a name that isn't unknown stands for something
found : {A : Type 0} (o : Option A) (x : Name) → unknown.if_found o x ≡ [] → (y : A) × (o ≡ Some y)
found None x e = absurd (omega (arith, ap length e))
found (Some y) x e = (y, refl)

honest_node : (role : Role) → is_honest role ≡ true → is_node role ≡ true
honest_node role h = (and_parts (is_node role) (not (is_hostile role)) h).0

module _ (s : Start) where
  -- a worker or store of the bundle has this number
  abbrev HasNumber : ℕ → Type 0
  HasNumber n = IsNode (resolved s) n

  -- a name that is declared, of a kind of workers and stores
  name_has_number : (kind : Role → Bool) → ((role : Role) → kind role ≡ true → is_node role ≡ true) → (x : Name)
      → unknown.in_principal s x ≡ [] → roles.need s kind x ≡ [] → HasNumber (node_number s x)
  name_has_number kind only x e f =
      let nodes = s.program.nodes in
      let y = found (named node_name nodes x) x e in
      name_among nodes x y.0 y.1 (only y.0.role (true_if_empty (kind y.0.role) _ (subst (λ o. roles.if_of_kind kind o x ≡ []) y.1 f)))

  post_has_numbers : (x : PostLine) → unknown.in_post s x ≡ [] → roles.in_post s x ≡ [] → HasNumber (node_number s x.receiver) × HasNumber (node_number s x.sender)
  post_has_numbers x e f =
      let sender = unknown.in_principal s x.sender in
      let receiver = unknown.in_principal s x.receiver in
      let from = roles.need s is_hostile x.sender in
      let to = roles.need s is_honest x.receiver in (
        name_has_number is_honest honest_node x.receiver (right_nil sender receiver e) (right_nil from to f),
        name_has_number is_hostile hostile_node x.sender (left_nil sender receiver e) (left_nil from to f),
      )

  crash_has_number : (x : CrashLine) → unknown.in_crash s x ≡ [] → roles.in_crash s x ≡ [] → HasNumber (node_number s x.node)
  crash_has_number x e f = name_has_number is_honest honest_node x.node e f

  step_has_numbers : (x : Step) → unknown.in_step s x ≡ [] → roles.in_step s x ≡ [] → IsStepOf (resolved s) (step_of s x)
  step_has_numbers (steps.Begin x) e f = name_has_number is_honest_worker honest_worker_node x e f
  step_has_numbers (steps.Resume x) e f = name_has_number is_honest_worker honest_worker_node x e f
  step_has_numbers (steps.Deliver x y) e f =
      let one = unknown.in_principal s x in
      let two = unknown.in_principal s y in
      let from = roles.need s is_node x in
      let to = roles.need s is_honest y in
      (name_has_number is_node (λ role h. h) x (left_nil one two e) (left_nil from to f), name_has_number is_honest honest_node y (right_nil one two e) (right_nil from to f))
  step_has_numbers (steps.Idle x y) e f =
      let one = unknown.in_principal s x in
      let two = unknown.in_principal s y in
      let from = roles.need s is_honest_worker x in
      let to = roles.need s is_node y in
      (name_has_number is_honest_worker honest_worker_node x (left_nil one two e) (left_nil from to f), name_has_number is_node (λ role h. h) y (right_nil one two e) (right_nil from to f))
  step_has_numbers (steps.Recover x) e f = name_has_number is_honest honest_node x e f

  event_has_numbers : (x : Event) → unknown.in_event s x ≡ [] → roles.in_event s x ≡ [] → IsEventOf (resolved s) (event_of s x)
  event_has_numbers (events.Step x) e f = step_has_numbers x e f
  event_has_numbers (events.CrashIn keep x) e f = step_has_numbers x e f
  event_has_numbers (events.Post x) e f = name_has_number is_hostile hostile_node x e f
  event_has_numbers (events.Crash x) e f = name_has_number is_honest honest_node x e f

  -- ---- no name in them is a fault

  record AreDeclared : Type 0 where
    posts : flat_map (unknown.in_post s) s.posts ≡ []
    crashes : flat_map (unknown.in_crash s) s.crashes ≡ []
    events : flat_map (unknown.in_event s) s.schedule ≡ []

  are_declared : unknown.unknown s ≡ [] → AreDeclared
  are_declared e =
      let p = s.program in
      let five = flat_map (unknown.in_delegation s) p.delegations ++ flat_map (unknown.in_label_text s) p.labels
      ++ flat_map (unknown.in_class s) p.classes ++ flat_map (unknown.in_method s) p.methods ++ flat_map (unknown.in_root s) s.roots in
      let six = five ++ flat_map (unknown.in_session s) s.sessions in
      let posts = flat_map (unknown.in_post s) s.posts in
      let crashes = flat_map (unknown.in_crash s) s.crashes in
      let events = flat_map (unknown.in_event s) s.schedule in
      let front = left_nil (six ++ posts ++ crashes) events e in
      record {
        posts = right_nil six posts (left_nil (six ++ posts) crashes front);
        crashes = right_nil (six ++ posts) crashes front;
        events = right_nil (six ++ posts ++ crashes) events e;
      }

  record ArePlaced : Type 0 where
    posts : flat_map (roles.in_post s) s.posts ≡ []
    crashes : flat_map (roles.in_crash s) s.crashes ≡ []
    events : flat_map (roles.in_event s) s.schedule ≡ []

  are_placed : roles.misplaced s ≡ [] → ArePlaced
  are_placed e =
      let three = flat_map (roles.in_method s) s.program.methods ++ flat_map (roles.in_root s) s.roots ++ flat_map (roles.in_session s) s.sessions in
      let posts = flat_map (roles.in_post s) s.posts in
      let crashes = flat_map (roles.in_crash s) s.crashes in
      let events = flat_map (roles.in_event s) s.schedule in
      let front = left_nil (three ++ posts ++ crashes) events e in
      record {
        posts = right_nil three posts (left_nil (three ++ posts) crashes front);
        crashes = right_nil (three ++ posts) crashes front;
        events = right_nil (three ++ posts ++ crashes) events e;
      }

  both : faults s ≡ [] → AreDeclared × ArePlaced
  both e =
      let two = unknown.unknown s ++ doubled s in
      let three = two ++ roles.misplaced s in
      let front = left_nil three (miscounted s) (left_nil (three ++ miscounted s) (mistyped s) e) in
      (are_declared (left_nil (unknown.unknown s) (doubled s) (left_nil two (roles.misplaced s) front)), are_placed (right_nil two (roles.misplaced s) front))

  -- ---- all of them

  pub posts_have_numbers : faults s ≡ [] → AllByRecursion (λ p. HasNumber p.receiver × HasNumber p.sender) (resolved s).posts
  posts_have_numbers e =
      all_map (λ (p : Post). HasNumber p.receiver × HasNumber p.sender) (post_of s) s.posts
      (all_two (λ x. unknown.in_post s x ≡ []) (λ x. roles.in_post s x ≡ []) (λ x. HasNumber (node_number s x.receiver) × HasNumber (node_number s x.sender)) post_has_numbers
      s.posts (each_nil (unknown.in_post s) s.posts (both e).0.posts) (each_nil (roles.in_post s) s.posts (both e).1.posts))

  pub crashes_have_numbers : faults s ≡ [] → AllByRecursion (λ c. HasNumber c.node) (resolved s).crashes
  crashes_have_numbers e =
      all_map (λ (c : Crash). HasNumber c.node) (crash_of s) s.crashes
      (all_two (λ x. unknown.in_crash s x ≡ []) (λ x. roles.in_crash s x ≡ []) (λ x. HasNumber (node_number s x.node)) crash_has_number
      s.crashes (each_nil (unknown.in_crash s) s.crashes (both e).0.crashes) (each_nil (roles.in_crash s) s.crashes (both e).1.crashes))

  pub events_have_numbers : faults s ≡ [] → AllByRecursion (IsEventOf (resolved s)) (resolved s).schedule
  events_have_numbers e =
      all_map (IsEventOf (resolved s)) (event_of s) s.schedule
      (all_two (λ x. unknown.in_event s x ≡ []) (λ x. roles.in_event s x ≡ []) (λ x. IsEventOf (resolved s) (event_of s x)) event_has_numbers
      s.schedule (each_nil (unknown.in_event s) s.schedule (both e).0.events) (each_nil (roles.in_event s) s.schedule (both e).1.events))
