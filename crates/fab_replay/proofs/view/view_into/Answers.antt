use Rattle.std.proofs.Common.{◌≡◌, ◌↔◌, ◌<◌, ℕ, IsBitSet, length, refl, rules, subst}
use Rattle.fab_base.specs.Principals.{Delegations}
use Rattle.fab_language.specs.Flows.{delegations_of}
use Rattle.fab_labelling.specs.Readers.{IsVisible, label_at}
use Rattle.fab_places.specs.Places.{ClassIsVisible}
use Rattle.fab_replay.proofs.Viewing.{is_seen_by}
use Rattle.fab_replay.proofs.view.view_into.Goals as goal

pub returns : goal.returns
returns c =
    let r = c.args.program in
    let seen = c.seen-seen.result in
    let e : c.in_ok-acts.acts ≡ delegations_of r = search rules in
    record {
      nodes_are = refl;
      sees = is_seen_by r c.args.nodes seen c.requires
          (subst (λ (d : Delegations). (l : ℕ) → IsBitSet seen.labels l ↔ ((l < length r.labels) × IsVisible r d c.args.nodes (label_at r l))) e c.seen-seen.ensures.labels)
          (subst (λ (d : Delegations). (k : ℕ) → IsBitSet seen.classes k ↔ ClassIsVisible r d c.args.nodes k) e c.seen-seen.ensures.classes);
      part_is = c.in_ok-part.ensures.exact;
    }
