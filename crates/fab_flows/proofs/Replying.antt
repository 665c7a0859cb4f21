-- What two searches found is the reply.
use Rattle.std.proofs.Common.{◌≡◌, ℕ, ◌<◌, List, ◌++◌, length, get_or, Some, sym, ap, ◌∙◌, subst, codes}
use Rattle.fab_base.specs.declared.label.Policy.{Policy}
use Rattle.fab_base.specs.declared.label.Label.{Label}
use Rattle.fab_base.specs.Labels.{Flows}
use Rattle.fab_tree.specs.declared.resolved.Resolved.{Resolved}
use Rattle.fab_language.specs.Words.{line}
use Rattle.fab_language.specs.Flows.{AreCoverLines, IsFirstUncovered, FlowReply, IsFlowReply, yes, no_confidentiality, no_integrity, policy_text, delegations_of}
use Rattle.fab_labels.proofs.FlowLemmas.{covered_by_denial, deny_covered}
use Rattle.fab_flows.specs.Lines.{GrowsByLines, IsFirstUncoveredAt}
use Rattle.fab_flows.proofs.CoverLemmas.{lines_cover, read_at}
use Rattle.fab_flows.proofs.OneReply.{one_reply, uncovered_not_all}

only_reply : (r : Resolved) (a b : Label) (text : List ℕ) → FlowReply r a b text → IsFlowReply r a b text
only_reply r a b text is = record { is = is; only = λ other o. one_reply is o }

-- ---- yes

flows_by_lines : (r : Resolved) (a b : Label) (conf integ : List ℕ) → AreCoverLines r (codes "->") b.conf a.conf conf → AreCoverLines r (codes "<-") a.integ b.integ integ → Flows (delegations_of r) a b
flows_by_lines r a b conf integ c i = record {
  conf = deny_covered (delegations_of r) a.conf b.conf (lines_cover r (codes "->") b.conf a.conf conf c);
  integ = deny_covered (delegations_of r) b.integ a.integ (lines_cover r (codes "<-") a.integ b.integ integ i);
}

yes_by_lines : (r : Resolved) (a b : Label) (first second third : List ℕ) → first ≡ line (codes "yes")
    → GrowsByLines r (codes "->") b.conf a.conf first second → GrowsByLines r (codes "<-") a.integ b.integ second third → IsFlowReply r a b third
yes_by_lines r a b first second third e c i =
    let whole : third ≡ line (codes "yes") ++ c.added ++ i.added = i.whole ∙ ap (λ x. x ++ i.added) (c.whole ∙ ap (λ x. x ++ c.added) e) in
    subst (IsFlowReply r a b) (sym whole) (only_reply r a b (line (codes "yes") ++ c.added ++ i.added) (yes (flows_by_lines r a b c.added i.added c.lines i.lines) c.lines i.lines))

pub granted : (r : Resolved) (a b : Label) (conf conf_by integ integ_by : List Policy) (first second third : List ℕ)
    → conf ≡ a.conf → conf_by ≡ b.conf → integ ≡ b.integ → integ_by ≡ a.integ → first ≡ line (codes "yes")
    → GrowsByLines r (codes "->") conf_by conf first second → GrowsByLines r (codes "<-") integ_by integ second third → IsFlowReply r a b third
granted r a b conf conf_by integ integ_by first second third p q s t e c i =
    yes_by_lines r a b first second third e
    (subst (λ x. GrowsByLines r (codes "->") x a.conf first second) q (subst (λ x. GrowsByLines r (codes "->") conf_by x first second) p c))
    (subst (λ x. GrowsByLines r (codes "<-") x b.integ second third) t (subst (λ x. GrowsByLines r (codes "<-") integ_by x second third) s i))

-- ---- no

same_option : (x y : Policy) → Some x ≡ Some y → x ≡ y
same_option x y e = cc

-- the policy that is read at the place that was found
found_there : (r : Resolved) (by policies : List Policy) (at : ℕ) (i : Policy) → at < length policies → i ≡ get_or policies at i → IsFirstUncoveredAt r by policies at → IsFirstUncovered r by policies i
found_there r by policies at i within is x = subst (IsFirstUncovered r by policies) (same_option x.policy i (sym x.is ∙ read_at policies at i within is)) x.first

no_by_conf : (r : Resolved) (a b : Label) (i : Policy) → IsFirstUncovered r b.conf a.conf i → ¬ Flows (delegations_of r) a b
no_by_conf r a b i x f = uncovered_not_all r b.conf a.conf i x (covered_by_denial (delegations_of r) a.conf b.conf f.conf)

no_by_integ : (r : Resolved) (a b : Label) (j : Policy) → IsFirstUncovered r a.integ b.integ j → ¬ Flows (delegations_of r) a b
no_by_integ r a b j x f = uncovered_not_all r a.integ b.integ j x (covered_by_denial (delegations_of r) b.integ a.integ f.integ)

pub refused_conf : (r : Resolved) (a b : Label) (conf by : List Policy) (at : ℕ) (i : Policy) (text : List ℕ) → conf ≡ a.conf → by ≡ b.conf
    → at < length conf → i ≡ get_or conf at i → IsFirstUncoveredAt r by conf at → text ≡ line (codes "no") ++ line (policy_text r (codes "->") i) → IsFlowReply r a b text
refused_conf r a b conf by at i text p q within is x e =
    let first : IsFirstUncovered r b.conf a.conf i = subst (λ y. IsFirstUncovered r y a.conf i) q (subst (λ y. IsFirstUncovered r by y i) p (found_there r by conf at i within is x)) in
    subst (IsFlowReply r a b) (sym e) (only_reply r a b (line (codes "no") ++ line (policy_text r (codes "->") i)) (no_confidentiality (no_by_conf r a b i first) first))

pub refused_integ : (r : Resolved) (a b : Label) (conf conf_by integ by : List Policy) (at : ℕ) (j : Policy) (old new text : List ℕ)
    → conf ≡ a.conf → conf_by ≡ b.conf → integ ≡ b.integ → by ≡ a.integ → GrowsByLines r (codes "->") conf_by conf old new
    → at < length integ → j ≡ get_or integ at j → IsFirstUncoveredAt r by integ at → text ≡ line (codes "no") ++ line (policy_text r (codes "<-") j) → IsFlowReply r a b text
refused_integ r a b conf conf_by integ by at j old new text p q s t c within is x e =
    let first : IsFirstUncovered r a.integ b.integ j = subst (λ y. IsFirstUncovered r y b.integ j) t (subst (λ y. IsFirstUncovered r by y j) s (found_there r by integ at j within is x)) in
    let lines : AreCoverLines r (codes "->") b.conf a.conf c.added =
    subst (λ y. AreCoverLines r (codes "->") y a.conf c.added) q (subst (λ y. AreCoverLines r (codes "->") conf_by y c.added) p c.lines) in
    subst (IsFlowReply r a b) (sym e)
    (only_reply r a b (line (codes "no") ++ line (policy_text r (codes "<-") j)) (no_integrity (no_by_integ r a b j first) (lines_cover r (codes "->") b.conf a.conf c.added lines) first))
