use Rattle.std.proofs.Common.{◌≡◌, ◌↔◌, ◌<◌, ℕ, IsBitSet, length, refl, rules, subst}
use Rattle.fab_base.specs.Principals.{Delegations}
use Rattle.fab_language.specs.Flows.{delegations_of}
use Rattle.fab_labelling.specs.Readers.{Excludes, label_at}
use Rattle.fab_places.specs.Places.{ClassExcludes}
use Rattle.fab_replay.proofs.Trusting.{is_trusted_by}
use Rattle.fab_replay.proofs.trust.trust_in.Goals as goal

pub returns : goal.returns
returns c =
    let r = c.args.program.now in
    let part = c.trusted-part.result in
    let e : c.in_ok-acts.acts ≡ delegations_of r = search rules in
    record {
      nodes_are = refl;
      trusts = is_trusted_by r c.args.nodes part c.requires
          (subst (λ (d : Delegations). (l : ℕ) → IsBitSet part.labels l ↔ ((l < length r.labels) × Excludes r d c.args.nodes (label_at r l))) e c.trusted-part.ensures.labels)
          (subst (λ (d : Delegations). (k : ℕ) → IsBitSet part.classes k ↔ ClassExcludes r d c.args.nodes k) e c.trusted-part.ensures.classes);
    }
