-- Worked examples of who may read and write what has a label, and of which store may hold a class.
--
-- The principals are A, the worker w, the store t, the hostile store h, the worker v and B; w and t act for A.
use Rattle.std.proofs.Common.{◌≡◌, ◌∙◌, ◌<◌, ℕ, zero, suc, true, false, List, [], ◌∷◌, Option, Some, None, refl, sym, ap, arith, lit<, codes}
use Rattle.std.proofs.lemmas.Bool.{false≢true, ne_eqb}
use Rattle.std.proofs.lemmas.List.Elements.{All-from_recursion}
use Rattle.std.specs.Prelude.{Contains}
use Rattle.fab_base.specs.declared.label.Policy.{Policy}
use Rattle.fab_base.specs.Principals.{Delegations, ActsFor}
use Rattle.fab_base.specs.Labels.{ActsForOne}
use Rattle.fab_tree.specs.declared.declaration.Role.{Role}
use Rattle.fab_tree.specs.declared.declaration.Role.TheVariants as roles
use Rattle.fab_tree.specs.declared.name.Name.{Name}
use Rattle.fab_tree.specs.declared.resolved.Principal.{Principal}
use Rattle.fab_tree.specs.declared.resolved.NamedLabel.{NamedLabel}
use Rattle.fab_tree.specs.declared.resolved.Class.{Class}
use Rattle.fab_tree.specs.declared.resolved.Method.{Method}
use Rattle.fab_tree.specs.declared.resolved.Resolved.{Resolved}
use Rattle.fab_language.specs.Flows.{delegations_of}
use Rattle.fab_labelling.specs.Readers.{IsReader, IsWriter, label_at, principal_of, IsNode, IsVisible, Excludes}
use Rattle.fab_labelling.specs.Placement.{MayHoldNumber, MayFetchNumber, MayWriteNumber}

abbrev pub name : Name
name = record { text = codes "x"; at = 0 }

abbrev principal : Role → Option ℕ → Principal
principal role node = record { role = role; name = name; node = node }

-- `o -> others` or `o <- others`
abbrev pub policy : ℕ → List ℕ → Policy
policy o others = record { owner = o; others = others }

abbrev label : List Policy → List Policy → NamedLabel
label conf integ = record { name = name; label = record { conf = conf; integ = integ } }

abbrev pub class : ℕ → ℕ → Class
class of access = record { name = name; label = record { number = of; at = 0 }; access = record { number = access; at = 0 }; fields = [] }

-- label S = {A ->}; label P = {}; label T = {A <-}; label R = {A -> h}; label Q = {A -> h; B -> w};
-- class 0 has S and is asked for under S, class 1 has P and S, class 2 has T and P, class 3 has R and P
abbrev pub bundle : List Method → Resolved
bundle methods = record {
  nodes = principal roles.Principal None ∷ principal (roles.Worker false) (Some 0) ∷ principal (roles.Store false) (Some 1) ∷ principal (roles.Store true) (Some 2) ∷ principal (roles.Worker false) (Some 3) ∷ principal roles.Principal None ∷ [];
  pairs = (1, 0) ∷ (2, 0) ∷ [];
  labels = label (policy 0 [] ∷ []) [] ∷ label [] [] ∷ label [] (policy 0 [] ∷ []) ∷ label (policy 0 (3 ∷ []) ∷ []) [] ∷ label (policy 0 (3 ∷ []) ∷ policy 5 (1 ∷ []) ∷ []) [] ∷ [];
  classes = class 0 0 ∷ class 1 0 ∷ class 2 1 ∷ class 3 1 ∷ [];
  methods = methods;
  roots = [];
  sessions = [];
  posts = [];
  crashes = [];
  cache = 0;
  schedule = [];
}

abbrev pub r : Resolved
r = bundle []

abbrev pub d : Delegations
d = delegations_of r

-- ---- acting for

pub itself : (p : ℕ) → ActsFor d p p
itself p = (p ∷ [], (refl, refl))

pub w_for_a : ActsFor d 1 0
w_for_a = (1 ∷ 0 ∷ [], (refl, ((0, lit< tt, refl), refl)))

pub t_for_a : ActsFor d 2 0
t_for_a = (2 ∷ 0 ∷ [], (refl, ((1, lit< tt, refl), refl)))

declared_is : (p q : ℕ) → Contains d.pairs (p, q) → p < 3
declared_is p q (zero, within, e) = let first : (ℕ × ℕ) → ℕ = λ w. w.0 in let is : 1 ≡ p = ap first e in omega (arith, is)
declared_is p q (suc zero, within, e) = let first : (ℕ × ℕ) → ℕ = λ w. w.0 in let is : 2 ≡ p = ap first e in omega (arith, is)
declared_is p q (suc (suc k), within, e) = absurd (omega (arith, within))

-- those behind t act for nobody else
pub others_alone : (p q : ℕ) → 2 < p → ActsFor d p q → p ≡ q
others_alone p q behind ([], h) = absurd h
others_alone p q behind (x ∷ [], h) = h.1
others_alone p q behind (x ∷ y ∷ rest, h) = absurd (let few : p < 3 = declared_is p y h.1.0 in omega (arith, few, behind))

-- so they act for none of these
abbrev IsNone : ℕ → List ℕ → Type 0
IsNone p [] = Unit {0}
IsNone p (q ∷ qs) = (¬ (p ≡ q)) × IsNone p qs

pub for_none : (p : ℕ) (qs : List ℕ) → 2 < p → IsNone p qs → ¬ ActsForOne d p qs
for_none p [] behind none (k, q, within, is, acts) = omega (arith, within)
for_none p (x ∷ xs) behind none (zero, q, within, is, acts) = none.0 (others_alone p q behind acts ∙ sym is)
for_none p (x ∷ xs) behind none (suc k, q, within, is, acts) = for_none p xs behind none.1 (k, q, omega (arith, within), is, acts)

-- ---- readers and writers

anybody_reads : (p : ℕ) → IsReader d (label_at r 1) p
anybody_reads p k x within = absurd (omega (arith, within))

anybody_writes : (p : ℕ) → IsWriter d (label_at r 1) p
anybody_writes p k x within = absurd (omega (arith, within))

-- for one policy
abbrev Passes : ℕ → Policy → Type 0
Passes p x = ActsForOne d p (x.owner ∷ x.others)

-- `A ->`
w_reads_s : IsReader d (label_at r 0) 1
w_reads_s = All-from_recursion (Passes 1) (label_at r 0).conf ((0, 0, lit< tt, refl, w_for_a), tt)

t_reads_s : IsReader d (label_at r 0) 2
t_reads_s = All-from_recursion (Passes 2) (label_at r 0).conf ((0, 0, lit< tt, refl, t_for_a), tt)

h_reads_not_s : ¬ IsReader d (label_at r 0) 3
h_reads_not_s reads = for_none 3 (0 ∷ []) (lit< tt) ((λ e. omega (arith, e)), tt) (reads 0 (policy 0 []) (lit< tt))

-- `A -> h`
h_reads_r : IsReader d (label_at r 3) 3
h_reads_r = All-from_recursion (Passes 3) (label_at r 3).conf ((1, 3, lit< tt, refl, itself 3), tt)

-- `A -> h; B -> w`: w acts for the one owner and reads for the other, h reads for the first alone
w_reads_both : IsReader d (label_at r 4) 1
w_reads_both = All-from_recursion (Passes 1) (label_at r 4).conf ((0, 0, lit< tt, refl, w_for_a), ((1, 1, lit< tt, refl, itself 1), tt))

h_reads_not_both : ¬ IsReader d (label_at r 4) 3
h_reads_not_both reads = for_none 3 (5 ∷ 1 ∷ []) (lit< tt) ((λ e. omega (arith, e)), ((λ e. omega (arith, e)), tt)) (reads 1 (policy 0 []) (lit< tt))

-- `A <-`, which all may read
t_writes_t : IsWriter d (label_at r 2) 2
t_writes_t = All-from_recursion (Passes 2) (label_at r 2).integ ((0, 0, lit< tt, refl, t_for_a), tt)

h_writes_not_t : ¬ IsWriter d (label_at r 2) 3
h_writes_not_t writes = for_none 3 (0 ∷ []) (lit< tt) ((λ e. omega (arith, e)), tt) (writes 0 (policy 0 []) (lit< tt))

h_reads_t : IsReader d (label_at r 2) 3
h_reads_t k x within = absurd (omega (arith, within))

-- a label that isn't there says nothing
no_label : label_at r 9 ≡ label_at r 1
no_label = refl

-- ---- workers and stores are numbered among themselves

of_h : principal_of r 2 ≡ 3
of_h = refl

behind_the_last : (n : ℕ) → 3 < n → principal_of r n ≡ 6
behind_the_last n behind = rw (ne_eqb n 0 (λ e. omega (arith, e, behind)), ne_eqb n 1 (λ e. omega (arith, e, behind)), ne_eqb n 2 (λ e. omega (arith, e, behind)), ne_eqb n 3 (λ e. omega (arith, e, behind))) refl

no_such_node : (n : ℕ) → 3 < n → ¬ IsNode r n
no_such_node n behind within = omega (arith, within, behind_the_last n behind)

-- of w and h, who are 0 and 2, w reads `A ->`; h alone doesn't, and excludes `A <-`
visible_to_w : IsVisible r d 5 (label_at r 0)
visible_to_w = (0, (λ e. omega (arith, e)), lit< tt, w_reads_s)

not_to_h : ¬ IsVisible r d 4 (label_at r 0)
not_to_h (zero, bit, within, reads) = bit refl
not_to_h (suc zero, bit, within, reads) = bit refl
not_to_h (suc (suc zero), bit, within, reads) = h_reads_not_s reads
not_to_h (suc (suc (suc zero)), bit, within, reads) = bit refl
not_to_h (suc (suc (suc (suc n))), bit, within, reads) = no_such_node (suc (suc (suc (suc n)))) (omega arith) within

excludes_h : Excludes r d 4 (label_at r 2)
excludes_h zero bit within = absurd (bit refl)
excludes_h (suc zero) bit within = absurd (bit refl)
excludes_h (suc (suc zero)) bit within = h_writes_not_t
excludes_h (suc (suc (suc zero))) bit within = absurd (bit refl)
excludes_h (suc (suc (suc (suc n)))) bit within = absurd (no_such_node (suc (suc (suc (suc n)))) (omega arith) within)

excludes_not_t : ¬ Excludes r d 6 (label_at r 2)
excludes_not_t excludes = excludes 1 (λ e. omega (arith, e)) (lit< tt) t_writes_t

-- ---- what stores may hold, and workers fetch and write; t is the store 1 and h the store 2, w and v are the workers 0 and 3

pub t_holds : MayHoldNumber r d 1 0
t_holds = (refl, record { reads = t_reads_s; learns = t_reads_s; writes = λ k x within. absurd (omega (arith, within)) })

pub h_reads_it_not : ¬ MayHoldNumber r d 2 0
h_reads_it_not holds = h_reads_not_s holds.1.reads

-- h may read class 1, and not what is asked for; it may read class 2, and not write it
h_learns_it_not : ¬ MayHoldNumber r d 2 1
h_learns_it_not holds = h_reads_not_s holds.1.learns

h_writes_it_not : ¬ MayHoldNumber r d 2 2
h_writes_it_not holds = h_writes_not_t holds.1.writes

h_holds : MayHoldNumber r d 2 3
h_holds = (refl, record { reads = h_reads_r; learns = λ k x within. absurd (omega (arith, within)); writes = λ k x within. absurd (omega (arith, within)) })

-- the worker w is no store, and there are four classes and four nodes
no_store : (class : ℕ) → ¬ MayHoldNumber r d 0 class
no_store class holds = false≢true holds.0

no_class : ¬ MayHoldNumber r d 1 4
no_class holds = holds.1

no_node : ¬ MayHoldNumber r d 4 3
no_node holds = holds.0

w_writes : MayWriteNumber r d 0 2
w_writes = (refl, ((λ k x within. absurd (omega (arith, within))), All-from_recursion (Passes 1) (label_at r 2).integ ((0, 0, lit< tt, refl, w_for_a), tt)))

-- v may fetch class 2 and not write it, and may not fetch class 0; what class 1 is asked for under doesn't count
v_fetches : MayFetchNumber r d 3 2
v_fetches = (refl, λ k x within. absurd (omega (arith, within)))

v_writes_not : ¬ MayWriteNumber r d 3 2
v_writes_not may = for_none 4 (0 ∷ []) (lit< tt) ((λ e. omega (arith, e)), tt) (may.1.1 0 (policy 0 []) (lit< tt))

v_fetches_not : ¬ MayFetchNumber r d 3 0
v_fetches_not may = for_none 4 (0 ∷ []) (lit< tt) ((λ e. omega (arith, e)), tt) (may.1 0 (policy 0 []) (lit< tt))

v_fetches_unasked : MayFetchNumber r d 3 1
v_fetches_unasked = (refl, λ k x within. absurd (omega (arith, within)))

-- t is a store, and fetches nothing
no_worker : (class : ℕ) → ¬ MayFetchNumber r d 1 class
no_worker class may = false≢true may.0
