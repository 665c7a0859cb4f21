use Rattle.std.proofs.Common.{◌≡◌, ◌<◌, ◌∷◌, [], ℕ, List, Bool, true, ◌&&◌, ◌==◌, length, map, sym, ap, subst, ◌∙◌}
use Rattle.std.specs.Prelude.{slice_index_or}
use Rattle.fab_world.specs.Crashing.{target_in}
use Rattle.fab_world.specs.Machine.{World, Posts, enabled}
use Rattle.fab_core.specs.Cores.{CoreModel, move_of, setting, world, world_by}
use Rattle.fab_core.specs.Posts.{left_in}
use Rattle.fab_core.proofs.Posted.{one_left, poster_below}
use Rattle.fab_core.proofs.core_state.Core.may_post_to.Goals as goal

-- where it may post, the next post tells its target
told : (can : Bool) (posts rest : List (ℕ × List ℕ)) (to receiver : ℕ) (bytes : List ℕ) → can ≡ true → posts ≡ (to, bytes) ∷ rest
    → (to == receiver) ≡ can && (target_in posts == receiver)
told can posts rest to receiver bytes may is =
    ap (λ (ps : List (ℕ × List ℕ)). target_in ps == receiver) (sym is) ∙ sym (ap (λ b. b && (target_in posts == receiver)) may)

pub next_of-requires-clause-here : goal.next_of-requires-clause-here
next_of-requires-clause-here g c =
    let x = c.self.inside in
    let Can : CoreModel → Type 0 = λ m. enabled (setting m.given) (world m) (Posts c.args.sender) ≡ true in
    subst (λ (ps : List ℕ). c.args.sender < length ps) (sym c.as_slice.ensures.value) (subst (λ k. c.args.sender < k) (sym c.self.invariant.0.stands.senders)
    (poster_below x.given x.nodes.items x.queues x.places.items x.log.items c.self.invariant.0 c.args.sender
    (subst Can (sym c.self.view_is) (sym c.may_whole.ensures ∙ c.if-not-may_whole.false))))

pub next_of-requires-clause-left : goal.next_of-requires-clause-left
next_of-requires-clause-left g c e =
    let x = c.self.inside in
    let Can : CoreModel → Type 0 = λ m. enabled (setting m.given) (world m) (Posts c.args.sender) ≡ true in
    one_left x.given x.nodes.items x.queues x.places.items x.log.items c.self.invariant.0 c.args.sender
    (subst Can (sym c.self.view_is) (sym c.may_whole.ensures ∙ c.if-not-may_whole.false))
    (subst (λ (ps : List ℕ). left_in x.given.program.posts (slice_index_or ps c.args.sender 0) c.args.sender ≡ []) c.as_slice.ensures.value e)

pub returns : goal.returns
returns g c =
    let x = c.self.inside in
    let to = c.next_of.result.0.now.receiver in
    let bytes = c.next_of.result.0.now.bytes in
    let rest = left_in x.given.program.posts c.next_of.result.1 c.args.sender in
    let Can : CoreModel → Type 0 = λ m. enabled (setting m.given) (world m) (Posts c.args.sender) ≡ true in
    let Told : CoreModel → Type 0 =
    λ m. (to == c.args.receiver) ≡ enabled (setting m.given) (world m) (Posts c.args.sender) && (target_in ((world m).posts c.args.sender) == c.args.receiver) in
    let left : left_in x.given.program.posts (slice_index_or x.places.items c.args.sender 0) c.args.sender ≡ (to, bytes) ∷ rest =
    subst (λ (ps : List ℕ). left_in x.given.program.posts (slice_index_or ps c.args.sender 0) c.args.sender ≡ (to, bytes) ∷ rest) c.as_slice.ensures.value c.next_of.ensures in
    let w : World = world_by x.given (map move_of x.log.items) in
    subst Told c.self.view_is
    (told (enabled (setting x.given) w (Posts c.args.sender)) (w.posts c.args.sender) rest to c.args.receiver bytes
    (subst Can (sym c.self.view_is) (sym c.may_whole.ensures ∙ c.if-not-may_whole.false)) (sym (c.self.invariant.0.stands.posts c.args.sender) ∙ left))
