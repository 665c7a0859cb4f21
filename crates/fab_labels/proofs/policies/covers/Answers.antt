use Rattle.fab_labels.proofs.policies.covers.Goals as goal

pub returns-then-acts : goal.returns-then-acts
returns-then-acts c =
    let all = rw c.as_slice.ensures at c.all_within.ensures in
    (λ t. record { owner = c.acts.ensures.exact.0 c.if-acts.true; members = all.0 t }, λ covers. all.1 covers.members)
