use Rattle.std.proofs.Common.{inl, inr}
use Rattle.std.proofs.lemmas.Bool.{iff_false}
use Rattle.fab_base.specs.Principals.{ActsFor}
use Rattle.fab_labels.proofs.Searches.{Any-tail, Any-cases}
use Rattle.fab_places.proofs.policies.is_within.Goals as goal

pub returns-else-acts : goal.returns-else-acts
returns-else-acts c =
    let among = rw c.as_slice.ensures at c.acts_for_one.ensures in (
      λ t. Any-tail (λ q. ActsFor c.args.acts.now c.args.p q) c.args.policy.now.owner c.args.policy.now.others (among.0 t),
      λ any. elim (Any-cases (λ q. ActsFor c.args.acts.now c.args.p q) c.args.policy.now.owner c.args.policy.now.others any) [ inl acts ↦ absurd (iff_false c.acts.ensures.exact c.if-acts.false acts) | inr acts ↦ among.1 acts ],
    )
