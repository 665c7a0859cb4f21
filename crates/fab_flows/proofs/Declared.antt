-- A bundle within the limits whose names are all declared has principals behind all its numbers.
use Rattle.std.proofs.Common.{◌≡◌, ℕ, suc, ◌<◌, ◌≤◌, Bool, true, false, not, cond, List, [], ◌∷◌, ◌++◌, length, map, Option, Some, None, All, Contains, slice_get, refl, sym, ap, ◌∙◌, subst, arith}
use Rattle.std.specs.List.{flat_map, filter, find, position_or_len}
use Rattle.std.specs.Option.{is_none}
use Rattle.std.proofs.lemmas.Bool.{ltb-false, false≢true}
use Rattle.std.proofs.lemmas.List.Elements.{All-nil, All-cons, All-map, All-filter, All-weaker, All-contains}
use Rattle.std.proofs.lemmas.List.Folds.{find_at}
use Rattle.std.proofs.lemmas.Option.{slice_get_within, get_or_from_slice_get}
use Rattle.fab_base.specs.declared.limit.What.TheVariants.{Principals}
use Rattle.fab_base.proofs.Lists.{left_nil, right_nil}
use Rattle.fab_tree.specs.declared.declaration.Node.{Node}
use Rattle.fab_tree.specs.declared.declaration.Delegation.{Delegation}
use Rattle.fab_tree.specs.declared.declaration.PolicyText.{PolicyText}
use Rattle.fab_tree.specs.declared.declaration.LabelText.{LabelText}
use Rattle.fab_tree.specs.declared.start.Start.{Start}
use Rattle.fab_tree.specs.declared.resolved.NamedLabel.{NamedLabel}
use Rattle.fab_tree.specs.declared.resolved.Resolved.{Resolved}
use Rattle.fab_tree.specs.Limits.{is_node, passes, first_passed}
use Rattle.fab_language.specs.Names.{node_name}
use Rattle.fab_language.specs.Uses.{principal_number}
use Rattle.fab_language.specs.Unknown.{in_principal, in_delegation, in_policy, in_label_text, in_class, in_method, in_root, in_session, in_post, in_crash, in_event, unknown}
use Rattle.fab_language.specs.Doubled.{doubled}
use Rattle.fab_language.specs.Roles.{misplaced}
use Rattle.fab_language.specs.Arity.{miscounted}
use Rattle.fab_language.specs.Types.{mistyped}
use Rattle.fab_language.specs.Faults.{faults}
use Rattle.fab_language.specs.Numbers.{principals_from, pair_of, policy_of, is_of_readers, said_by, label_of, resolved}
use Rattle.fab_language.proofs.Named.{number_below}
use Rattle.fab_flows.specs.Numbers.{AreOwned, HasOwners, HasPrincipals}

-- ---- empty lists

-- lists made of each element that are empty together are empty each
pub each_nil : {X A : Type 0} (f : X → List A) (xs : List X) → flat_map f xs ≡ [] → All (λ x. f x ≡ []) xs
each_nil f [] e = All-nil (λ x. f x ≡ [])
each_nil f (x ∷ xs) e = All-cons (λ y. f y ≡ []) x xs (left_nil (f x) (flat_map f xs) e) (each_nil f xs (right_nil (f x) (flat_map f xs) e))

-- ---- a name that is found

-- ---- the principals

principals_length : (n : ℕ) (xs : List Node) → length (principals_from n xs) ≡ length xs
principals_length n [] = refl
principals_length n (x ∷ xs) = ap suc (principals_length (cond (is_node x.role) (suc n) n) xs)

first_fails : {A : Type 0} (b : Bool) (x : A) (rest : Option A) → cond b (Some x) rest ≡ None → b ≡ false
first_fails true x rest e = absurd (false≢true (ap is_none e))
first_fails false x rest e = refl

pub few_principals : (s : Start) → first_passed s ≡ None → length s.program.nodes ≤ 64
few_principals s e = ltb-false 64 (length s.program.nodes) (first_fails (passes s Principals) Principals _ e)

-- ---- what is declared

module _ (s : Start) where
  -- the number of a principal
  abbrev IsNumber : ℕ → Type 0
  IsNumber n = n < length s.program.nodes

  pair_below : (d : Delegation) → in_delegation s d ≡ [] → IsNumber (principal_number s d.actor) × IsNumber (principal_number s d.principal)
  pair_below d e = (
    number_below node_name s.program.nodes d.actor (left_nil (in_principal s d.actor) (in_principal s d.principal) e),
    number_below node_name s.program.nodes d.principal (right_nil (in_principal s d.actor) (in_principal s d.principal) e),
  )

  owner_below : (x : PolicyText) → in_policy s x ≡ [] → IsNumber (principal_number s x.owner)
  owner_below x e = number_below node_name s.program.nodes x.owner (left_nil (in_principal s x.owner) (flat_map (in_principal s) x.others) e)

  owned : (test : PolicyText → Bool) (xs : List PolicyText) → flat_map (in_policy s) xs ≡ [] → AreOwned (length s.program.nodes) (map (policy_of s) (filter test xs))
  owned test xs e =
      All-map (λ x. IsNumber x.owner) (policy_of s) (filter test xs)
      (All-filter test (λ x. IsNumber (principal_number s x.owner)) xs
      (All-weaker (λ x. in_policy s x ≡ []) (λ x. IsNumber (principal_number s x.owner)) owner_below xs (each_nil (in_policy s) xs e)))

  label_owned : (x : LabelText) → in_label_text s x ≡ [] → HasOwners (length s.program.nodes) (said_by s x.policies)
  label_owned x e = record {
    conf = owned (λ y. is_of_readers y.aspect) x.policies e;
    integ = owned (λ y. not (is_of_readers y.aspect)) x.policies e;
  }

  pairs_below : flat_map (in_delegation s) s.program.delegations ≡ [] → All (λ d. IsNumber d.0 × IsNumber d.1) (map (pair_of s) s.program.delegations)
  pairs_below e =
      All-map (λ d. IsNumber d.0 × IsNumber d.1) (pair_of s) s.program.delegations
      (All-weaker (λ d. in_delegation s d ≡ []) (λ d. IsNumber (principal_number s d.actor) × IsNumber (principal_number s d.principal)) pair_below s.program.delegations
      (each_nil (in_delegation s) s.program.delegations e))

  labels_owned : flat_map (in_label_text s) s.program.labels ≡ [] → All (λ x. HasOwners (length s.program.nodes) x.label) (map (label_of s) s.program.labels)
  labels_owned e =
      All-map (λ x. HasOwners (length s.program.nodes) x.label) (label_of s) s.program.labels
      (All-weaker (λ x. in_label_text s x ≡ []) (λ x. HasOwners (length s.program.nodes) (said_by s x.policies)) label_owned s.program.labels
      (each_nil (in_label_text s) s.program.labels e))

-- the first two of nine lists that are empty together
first_two : {A : Type 0} (a b c d e f g h i : List A) → a ++ b ++ c ++ d ++ e ++ f ++ g ++ h ++ i ≡ [] → a ++ b ≡ []
first_two a b c d e f g h i all =
    left_nil (a ++ b) c (left_nil (a ++ b ++ c) d (left_nil (a ++ b ++ c ++ d) e (left_nil (a ++ b ++ c ++ d ++ e) f
    (left_nil (a ++ b ++ c ++ d ++ e ++ f) g (left_nil (a ++ b ++ c ++ d ++ e ++ f ++ g) h (left_nil (a ++ b ++ c ++ d ++ e ++ f ++ g ++ h) i all))))))

-- the first of five
pub first_of : {A : Type 0} (a b c d e : List A) → a ++ b ++ c ++ d ++ e ≡ [] → a ≡ []
first_of a b c d e all = left_nil a b (left_nil (a ++ b) c (left_nil (a ++ b ++ c) d (left_nil (a ++ b ++ c ++ d) e all)))

program_declared : (s : Start) → faults s ≡ [] → flat_map (in_delegation s) s.program.delegations ++ flat_map (in_label_text s) s.program.labels ≡ []
program_declared s e =
    first_two (flat_map (in_delegation s) s.program.delegations) (flat_map (in_label_text s) s.program.labels) (flat_map (in_class s) s.program.classes) (flat_map (in_method s) s.program.methods)
    (flat_map (in_root s) s.roots) (flat_map (in_session s) s.sessions) (flat_map (in_post s) s.posts) (flat_map (in_crash s) s.crashes) (flat_map (in_event s) s.schedule)
    (first_of (unknown s) (doubled s) (misplaced s) (miscounted s) (mistyped s) e)

pub has_principals : (s : Start) → first_passed s ≡ None → faults s ≡ [] → HasPrincipals (resolved s)
has_principals s limits right =
    let both = program_declared s right in
    let delegations = left_nil (flat_map (in_delegation s) s.program.delegations) (flat_map (in_label_text s) s.program.labels) both in
    let labels = right_nil (flat_map (in_delegation s) s.program.delegations) (flat_map (in_label_text s) s.program.labels) both in
    let same : length s.program.nodes ≡ length (principals_from 0 s.program.nodes) = sym (principals_length 0 s.program.nodes) in
    record {
      few = subst (λ n. n ≤ 64) same (few_principals s limits);
      delegations = subst (λ n. All (λ d. (d.0 < n) × (d.1 < n)) (resolved s).pairs) same (pairs_below s delegations);
      labels = subst (λ n. All (λ x. HasOwners n x.label) (resolved s).labels) same (labels_owned s labels);
    }

-- ---- the owners of a label's policies

pub owners_of : (r : Resolved) (x : NamedLabel) → HasPrincipals r → Contains r.labels x → HasOwners (length r.nodes) x.label
owners_of r x has there = All-contains (λ y. HasOwners (length r.nodes) y.label) r.labels x has.labels there

-- what a search finds is in the list
Contains-found : {A : Type 0} (test : A → Bool) (xs : List A) (x : A) → find test xs ≡ Some x → Contains xs x
Contains-found test xs x e =
    let there : slice_get xs (position_or_len test xs) ≡ Some x = sym (find_at test xs) ∙ e in
    (position_or_len test xs, slice_get_within xs (position_or_len test xs) x there, get_or_from_slice_get xs (position_or_len test xs) x x there)

pub owners_of_found : (test : NamedLabel → Bool) (r : Resolved) (x : NamedLabel) → HasPrincipals r → find test r.labels ≡ Some x → HasOwners (length r.nodes) x.label
owners_of_found test r x has e = owners_of r x has (Contains-found test r.labels x e)
