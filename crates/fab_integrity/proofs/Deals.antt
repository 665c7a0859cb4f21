-- Which commits are of a worker, and which decisions it knows.
use Rattle.std.specs.Prelude.{◌≡◌, ℕ, false, ◌==◌, List, [], ◌∷◌, ◌++◌, map}
use Rattle.std.specs.List.{AllByRecursion}
use Rattle.std.proofs.Common.{refl, sym, ap, ◌∙◌, subst, cond}
use Rattle.std.proofs.lemmas.Bool.{eq-eqb, ne_eqb, eqb-true}
use Rattle.std.proofs.lemmas.List.{append-nil, map-append}
use Rattle.std.proofs.lemmas.List.Elements.{filter-append}
use Rattle.fab_base.proofs.Lists.{all_along}
use Rattle.fab_net.specs.declared.note.Commit.{Commit}
use Rattle.fab_protocol.specs.declared.parts.Decision.{Decision}
use Rattle.fab_world.specs.Machine.{Setting}
use Rattle.fab_integrity.proofs.Invariant.{In, deals, decision_of}
use Rattle.fab_integrity.proofs.Lists.{in_filter, filter_in, in_map, filter_none}

-- ---- which deals are of a worker

-- they are those of its number
pub deal_of : (cs : List Commit) (n : ℕ) (c : Commit) → In c (deals cs n) → In c cs × (c.worker ≡ n)
deal_of cs n c h = let r = in_filter (λ (d : Commit). d.worker == n) c cs h in (r.0, eqb-true c.worker n r.1)

pub in_deals : (cs : List Commit) (n : ℕ) (c : Commit) → In c cs → c.worker ≡ n → In c (deals cs n)
in_deals cs n c h own = filter_in (λ (d : Commit). d.worker == n) c cs h (eq-eqb c.worker n own)

-- ---- commits behind others

-- those of one worker are none of another's
pub deals_apart : (cs es : List Commit) (n : ℕ) → AllByRecursion (λ (c : Commit). c.worker ≡ n) es → (x : ℕ) → (x ≡ n → ⊥) → deals (cs ++ es) x ≡ deals cs x
deals_apart cs es n own x apart =
    filter-append (λ (c : Commit). c.worker == x) cs es
    ∙ ap (λ xs. deals cs x ++ xs) (filter_none (λ (c : Commit). c.worker == x) es (all_along (λ (c : Commit). c.worker ≡ n)
    (λ (c : Commit). (c.worker == x) ≡ false) (λ c b. ne_eqb c.worker x (λ f. apart (sym f ∙ b))) es own))
    ∙ append-nil (deals cs x)

-- one commit more is none of another worker's
pub deals_others : (cs : List Commit) (c : Commit) (x : ℕ) → (x ≡ c.worker → ⊥) → deals (cs ++ c ∷ []) x ≡ deals cs x
deals_others cs c x other = deals_apart cs (c ∷ []) c.worker (refl, tt) x other

-- and the last of its own
pub deals_more : (cs : List Commit) (c : Commit) → deals (cs ++ c ∷ []) c.worker ≡ deals cs c.worker ++ c ∷ []
deals_more cs c =
    filter-append (λ (d : Commit). d.worker == c.worker) cs (c ∷ [])
    ∙ ap (λ b. deals cs c.worker ++ cond b (c ∷ []) []) (eq-eqb c.worker c.worker refl)

-- so its decision is the last
pub decisions_more : (S : Setting) (cs : List Commit) (c : Commit) → map (decision_of S) (cs ++ c ∷ []) ≡ map (decision_of S) cs ++ decision_of S c ∷ []
decisions_more S cs c = map-append (decision_of S) cs (c ∷ [])

-- ---- decisions

-- a decision that a worker knows is one of its commits
pub record IsDealt (S : Setting) (ds : List Commit) (d : Decision) : Type 0 where
  pub commit : Commit
  pub listed : In commit ds
  pub same : d ≡ decision_of S commit

-- so it is, where the decisions are those of the commits
pub dealt : (S : Setting) (ds : List Commit) (known : List Decision) → known ≡ map (decision_of S) ds → (d : Decision) → In d known → IsDealt S ds d
dealt S ds known e d h =
    let r = in_map (decision_of S) d ds (subst (In d) e h) in
    record { commit = r.0; listed = r.1; same = r.2 }
