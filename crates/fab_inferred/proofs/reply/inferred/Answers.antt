use Rattle.std.proofs.Common.{◌≡◌, ℕ, All, List, ◌<◌, ◌≤◌, length, sym, ap, ◌∙◌, subst, arith}
use Rattle.fab_tree.specs.declared.resolved.Resolved.{Resolved}
use Rattle.fab_language.specs.Numbers.{resolved}
use Rattle.fab_authority.specs.Authority.{HasFew}
use Rattle.fab_flows.specs.Numbers.{HasPrincipals}
use Rattle.fab_holes.specs.Holes.{IsNamed}
use Rattle.fab_infer.specs.Small.{IsSmall}
use Rattle.fab_front.specs.Lines.{name_line}
use Rattle.fab_front.specs.declared.status.Status.TheVariants as status
use Rattle.fab_front.proofs.Accepting.{if_told, within}
use Rattle.fab_inferred.specs.Infers.{IsInferred}
use Rattle.fab_inferred.proofs.Holed.{first_few, holed_principals}
use Rattle.fab_inferred.proofs.Inferring.{misnamed_inferred}
use Rattle.fab_inferred.proofs.reply.inferred.Goals as goal

pub returns-in-Some : goal.returns-in-Some
returns-in-Some c =
    let x = c.in-Some.fault in
    let p = rw c.in-Some.is at c.in_ok-fault.ensures in
    if_told (IsInferred c.args.text.now) (status.Name x.rule x.at) (name_line x.rule x.at) c.refused.result c.refused.ensures (misnamed_inferred c.requires p)

pub numbers-requires : goal.numbers-requires
numbers-requires c = within c.requires.is

pub overflow_cast-count : goal.overflow_cast-count
overflow_cast-count c =
    let right = rw c.in_default.is at c.in_ok-fault.ensures in
    let p = subst HasPrincipals (sym c.in_ok-resolved.ensures) (holed_principals c.filled_bundles_keep_the_rules_of_names.ensures.limits c.args.start (within c.requires.is) right) in
    let few = p.few in
    omega (arith, c.len-count.ensures, few)

pub close-requires-clause-few : goal.close-requires-clause-few
close-requires-clause-few c =
    let right = rw c.in_default.is at c.in_ok-fault.ensures in
    let p = subst HasPrincipals (sym c.in_ok-resolved.ensures) (holed_principals c.filled_bundles_keep_the_rules_of_names.ensures.limits c.args.start (within c.requires.is) right) in
    let few = p.few in
    omega (arith, c.len-count.ensures, few)

pub close-requires-clause-declared : goal.close-requires-clause-declared
close-requires-clause-declared c =
    let right = rw c.in_default.is at c.in_ok-fault.ensures in
    let p = subst HasPrincipals (sym c.in_ok-resolved.ensures) (holed_principals c.filled_bundles_keep_the_rules_of_names.ensures.limits c.args.start (within c.requires.is) right) in
    subst (λ n. All (λ (d : ℕ × ℕ). (d.0 < n) × (d.1 < n)) c.as_slice.result.now) (sym c.len-count.ensures)
    (subst (λ (ps : List (ℕ × ℕ)). All (λ d. (d.0 < length c.in_ok-resolved.resolved.nodes) × (d.1 < length c.in_ok-resolved.resolved.nodes)) ps) (sym c.as_slice.ensures) p.delegations)

pub least-requires-clause-few : goal.least-requires-clause-few
least-requires-clause-few c =
    let right = rw c.in_default.is at c.in_ok-fault.ensures in
    let few = first_few c.filled_bundles_keep_the_rules_of_names.ensures.limits c.args.start (within c.requires.is) right in
    subst HasFew (sym c.in_ok-resolved.ensures) (c.numbered_bundles_are_taken.ensures.few c.args.start _ few)

pub least-requires-clause-small : goal.least-requires-clause-small
least-requires-clause-small c = subst IsSmall (sym c.in_ok-resolved.ensures) (c.numbered_bundles_are_taken.ensures.small c.args.start (within c.requires.is))
