use Rattle.std.proofs.Common.{◌≡◌, ◌<◌, ◌↔◌, IsTrue, ◌==◌, [], length, slice_index, inl, inr, sym, ap, ◌∙◌, subst, arith}
use Rattle.std.proofs.lemmas.Bool.{eqb-true, eq-eqb}
use Rattle.std.proofs.lemmas.List.{get_or_default}
use Rattle.fab_base.specs.Principals.{Delegations, ActsFor}
use Rattle.fab_principals.specs.Sets.{in_set}
use Rattle.fab_principals.specs.Views.{delegations}
use Rattle.fab_principals.proofs.ChainLemmas.{ActsFor-reaches, Leads-ends}
use Rattle.fab_principals.proofs.acts.Acts.acts.Goals as goal
use Rattle.fab_principals.proofs.acts.Acts.acts.Goals.{else-p-self-via-then-p-self+else-q-self, else-p-self-via-else-p-self}

pub returns-then-q-self : goal.returns-then-q-self
returns-then-q-self c =
    let d = delegations c.self.inside in
    let within : c.args.p < length c.self.inside.closed.items = omega (arith, c.self.invariant.closed.size) in
    let read : c.contains.result ≡ in_set (slice_index c.self.inside.closed.items c.args.p) c.args.q =
    c.contains.ensures ∙ ap (λ r. in_set r c.args.q) (c.index.ensures ∙ get_or_default c.self.inside.closed.items c.args.p c.index.result.now 0 within) in
    let bit = c.self.invariant.closed.bits c.args.p c.args.q c.if-p-self.true in
    let acts = ActsFor-reaches d c.args.p c.args.q in
    record {
      exact = subst (λ (v : Delegations). IsTrue c.contains.result ↔ ActsFor v c.args.p c.args.q) c.self.view_is
          (λ t. acts.0 (bit.0 (sym read ∙ t)), λ h. read ∙ bit.1 (acts.1 h));
    }

pub returns-else-p-self : goal.returns-else-p-self
returns-else-p-self c =
    let d = delegations c.self.inside in
    let outside : ((c.args.p < c.self.inside.count) × (c.args.q < c.self.inside.count)) → ⊥ = λ both. elim c.else-p-self.branch [
      | else-p-self-via-then-p-self+else-q-self w ↦ omega (arith, both.1, w.if-q-self.false)
      | else-p-self-via-else-p-self w ↦ omega (arith, both.0, w.if-p-self.false)
    ] in
    record {
      exact = subst (λ (v : Delegations). IsTrue (c.args.p == c.args.q) ↔ ActsFor v c.args.p c.args.q) c.self.view_is (
        λ t. (ActsFor-reaches d c.args.p c.args.q).0 ([], eqb-true c.args.p c.args.q t),
        λ acts. let way = (ActsFor-reaches d c.args.p c.args.q).1 acts in
            elim (Leads-ends c.self.inside.pairs c.self.inside.count c.self.invariant.declared c.args.p way.0 c.args.q way.1) [ inl same ↦ eq-eqb c.args.p c.args.q same | inr ends ↦ absurd (outside ends) ],
      );
    }
