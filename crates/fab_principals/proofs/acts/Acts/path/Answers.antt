use Rattle.std.proofs.Common.{length, refl, ◌∙◌, subst}
use Rattle.std.proofs.lemmas.Bool.{true≢false}
use Rattle.fab_base.specs.Principals.{Delegations, ActsFor, IsBestChain}
use Rattle.fab_principals.specs.Views.{delegations}
use Rattle.fab_principals.proofs.RingLemmas.{walk-best, no_chain, rows_fit}
use Rattle.fab_principals.proofs.acts.Acts.path.Goals as goal

pub returns-in-None-clause-none : goal.returns-in-None-clause-none
returns-in-None-clause-none c =
    let direct = c.self.inside.direct.items in
    let none = rw (c.in-None.is, c.as_slice-rows.ensures.value) at c.in_ok-rings.ensures.none in
    let unreached : ActsFor c.args.self.now c.args.p c.args.q → ⊥ =
    subst (λ (d : Delegations). ActsFor d c.args.p c.args.q → ⊥) c.self.view_is
    (no_chain direct (delegations c.self.inside) c.self.invariant.direct c.self.invariant.declared c.args.p c.args.q none) in
    (λ _. unreached, λ _. refl)

pub returns-in_ok-chain-in-Some-clause-some : goal.returns-in_ok-chain-in-Some-clause-some
returns-in_ok-chain-in-Some-clause-some c =
    let direct = c.self.inside.direct.items in
    let rings = rw (c.in-Some.is, c.as_slice-rows.ensures.value) at c.in_ok-rings.ensures.some in
    let walked = rw (c.as_slice-rows.ensures.value, c.as_slice.ensures.value) at c.in_ok-chain-in-Some.ensures in
    subst (λ (d : Delegations). IsBestChain d c.args.p c.args.q c.from_vec.result) c.self.view_is
    (walk-best direct (delegations c.self.inside) c.in-Some.rings.items (rows_fit direct c.self.invariant.fits) c.self.invariant.direct c.self.invariant.declared (length c.in-Some.rings.items) c.args.p c.args.q rings
    c.from_vec.result (c.from_vec.ensures ∙ walked))

pub returns-in_ok-chain-in-Some-clause-none : goal.returns-in_ok-chain-in-Some-clause-none
returns-in_ok-chain-in-Some-clause-none c =
    let best : IsBestChain c.args.self.now c.args.p c.args.q c.from_vec.result = returns-in_ok-chain-in-Some-clause-some c in
    (λ e. absurd (true≢false e), λ none. absurd (none (c.from_vec.result, best.is_chain)))
