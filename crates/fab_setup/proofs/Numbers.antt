-- Numbers of workers and stores, and what a bundle gives.
use Rattle.std.proofs.Common.{◌≡◌, ℕ, suc, ◌+◌, ◌^◌, ◌<◌, ◌≤◌, Bool, true, false, cond, List, [], ◌∷◌, Option, Some, None, All, IfSome, refl, sym, subst, arith}
use Rattle.std.specs.Prelude.{count_by}
use Rattle.std.proofs.lemmas.List.Elements.{All-nil, All-cons}
use Rattle.std.proofs.lemmas.List.Sums.{sum_by-cons}
use Rattle.fab_tree.specs.declared.declaration.Node.{Node}
use Rattle.fab_tree.specs.declared.resolved.Principal.{Principal}
use Rattle.fab_tree.specs.declared.resolved.Resolved.{Resolved}
use Rattle.fab_tree.specs.declared.start.Start.{Start}
use Rattle.fab_tree.specs.Limits.{is_node, first_passed}
use Rattle.fab_tree.proofs.Within.{is_within}
use Rattle.fab_language.specs.Faults.{faults}
use Rattle.fab_language.specs.Numbers.{principal_of, principals_from, resolved}
use Rattle.fab_flows.specs.Numbers.{HasPrincipals}
use Rattle.fab_flows.proofs.Declared.{has_principals}
use Rattle.fab_places.specs.Places.{AreRights, HasNumbers}
use Rattle.fab_rights.specs.declared.rights.Rights.{Rights}
use Rattle.fab_attempts.specs.Sessions.{IsProgramOf}
use Rattle.fab_attempts.proofs.Programs.{program_of}
use Rattle.fab_setup.specs.declared.setup.Setup.{Setup}
use Rattle.fab_settings.specs.Numbers.{AllFit, values_of}
use Rattle.fab_settings.specs.Settings.{IsAcceptedWith}
use Rattle.fab_setup.specs.Setups.{IsSetupOf, KeepsRules}

-- ---- the numbers of nodes

-- a principal has no number as a node that a mask can't hold
abbrev IsNumbered : Principal → Type 0
IsNumbered x = IfSome x.node (λ n. n < 64)

one_more : (b : Bool) (n count : ℕ) (x : Principal) (P : ℕ → Type 0) → x.node ≡ cond b (Some n) None → n + (cond b 1 0 + count) ≤ 64
    → ((k : ℕ) → k + count ≤ 64 → P k) → IsNumbered x × P (cond b (suc n) n)
one_more true n count x P e h later =
    let below : n < 64 = omega (arith, h) in
    (subst (λ (o : Option ℕ). IfSome o (λ k. k < 64)) (sym e) below, later (suc n) (omega (arith, h)))
one_more false n count x P e h later = (subst (λ (o : Option ℕ). IfSome o (λ k. k < 64)) (sym e) tt, later n (omega (arith, h)))

all_numbered : (n : ℕ) (xs : List Node) → n + count_by (λ x. is_node x.role) xs ≤ 64 → All IsNumbered (principals_from n xs)
all_numbered n [] h = All-nil IsNumbered
all_numbered n (x ∷ xs) h =
    let count = count_by (λ (y : Node). is_node y.role) xs in
    let grows = sum_by-cons (λ (y : Node). cond (is_node y.role) 1 0) x xs in
    let both = one_more (is_node x.role) n count (principal_of n x) (λ k. All IsNumbered (principals_from k xs)) refl (omega (arith, h, grows)) (λ k g. all_numbered k xs g) in
    All-cons IsNumbered (principal_of n x) (principals_from (cond (is_node x.role) (suc n) n) xs) both.0 both.1

few_nodes : (s : Start) → first_passed s ≡ None → count_by (λ (x : Node). is_node x.role) s.program.nodes ≤ 32
few_nodes s limits = (is_within s limits).nodes

pub numbered : (s : Start) → first_passed s ≡ None → HasNumbers (resolved s)
numbered s limits = let few = few_nodes s limits in all_numbered 0 s.program.nodes (omega (arith, few))

-- ---- what a bundle gives

pub has_owners : (s : Start) (r : Resolved) → first_passed s ≡ None → faults s ≡ [] → r ≡ resolved s → HasPrincipals r
has_owners s r limits right is = subst HasPrincipals (sym is) (has_principals s limits right)

pub has_numbers : (s : Start) (r : Resolved) → first_passed s ≡ None → r ≡ resolved s → HasNumbers r
has_numbers s r limits is = subst HasNumbers (sym is) (numbered s limits)

pub programs : (s : Start) (x : Setup) → first_passed s ≡ None → IsSetupOf s x → (n : ℕ) → IsProgramOf x.program.value n x.rights
programs s x limits is n = subst (λ (p : Resolved). IsProgramOf p n x.rights) (sym is.program) (program_of s n x.rights limits is.right is.rights)

-- the rights of a bundle that keeps all rules, in masks of 64 bits, where its numbers fit
pub accepts : (r : Resolved) (x : Rights) → AreRights r x → x.workers < 2 ^ 64 → x.stores < 2 ^ 64 → AllFit (values_of r)
    → (s : Start) → resolved s ≡ r → KeepsRules s → IsAcceptedWith s x
accepts r x exact workers stores fit s is keeps = record {
  within = keeps.within;
  named = keeps.named;
  labelled = keeps.labelled;
  rights_are = subst (λ (o : Resolved). AreRights o x) (sym is) exact;
  workers = workers;
  stores = stores;
  numbers = subst (λ (o : Resolved). AllFit (values_of o)) (sym is) fit;
}
