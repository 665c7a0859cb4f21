-- The orders of tids and of names with numbers: which keys are alike, and which lie in a walk from a key on.
use Rattle.std.proofs.Common.{◌≡◌, ℕ, ◌≤◌, ◌==◌, true, false, ◌&&◌, refl, sym, subst, ap, ◌∙◌, arith}
use Rattle.std.specs.declared.cmp.Ordering.{Ordering}
use Rattle.std.specs.declared.cmp.Ordering.TheVariants.{Less, Equal, Greater}
use Rattle.std.specs.Ordering.{nat_cmp, is_eq, is_gt, ordering_then, ordering_reverse}
use Rattle.std.specs.BTreeMap.{is_at}
use Rattle.std.proofs.lemmas.Bool.{true≢false}
use Rattle.std.proofs.lemmas.Bool.Decides.{nat_tests}
use Rattle.std.proofs.lemmas.Map.Keys.{le_from_not_gt}
use Rattle.fab_base.specs.declared.object.Oid.{Oid}
use Rattle.fab_base.specs.declared.object.Tid.{Tid}
use Rattle.fab_base.specs.FlatMap.{is_same}
use Rattle.fab_base.proofs.Names.{same_flips}
use Rattle.fab_base.proofs.NameOrder.{name_cmp_total, same_is, one_name, derived_is, derived_itself}
use Rattle.fab_protocol.specs.Versions.{is_tid}
use Rattle.fab_locks.specs.Indexes.{key_cmp, oid_cmp, tid_cmp}

-- ---- keys that are alike

pub num_at : (n m : ℕ) → is_at (nat_cmp n) m ≡ (n == m)
num_at n m = grind (arith, nat_tests)

then_is : (a b : Ordering) → is_eq (ordering_then a b) ≡ (is_eq a && is_eq b)
then_is Less b = refl
then_is Equal b = refl
then_is Greater b = refl

pub tid_at : (t u : Tid) → is_at (tid_cmp t) u ≡ is_tid t u
tid_at t u =
    let rest : is_eq (ordering_then (nat_cmp t.boot u.boot) (nat_cmp t.number u.number)) ≡ ((t.boot == u.boot) && (t.number == u.number)) =
    then_is (nat_cmp t.boot u.boot) (nat_cmp t.number u.number) ∙ (λ i. num_at t.boot u.boot i && num_at t.number u.number i) in
    then_is (nat_cmp t.worker u.worker) (ordering_then (nat_cmp t.boot u.boot) (nat_cmp t.number u.number))
    ∙ (λ i. num_at t.worker u.worker i && rest i)

pub oid_at : (o p : Oid) → is_eq (oid_cmp o p) ≡ is_same o p
oid_at o p = ap is_eq (derived_is o p) ∙ sym (same_is o p)

pub key_at : (o : Oid) (n : ℕ) (p : Oid) (m : ℕ) → is_at (key_cmp (o, n)) (p, m) ≡ (is_same o p && (n == m))
key_at o n p m = then_is (oid_cmp o p) (nat_cmp n m) ∙ (λ i. oid_at o p i && num_at n m i)

-- ---- keys that aren't above others

pub not_above : (n m : ℕ) → n ≤ m → is_gt (nat_cmp n m) ≡ false
not_above n m h = grind (arith, nat_tests)

-- by the first part, and by both
first_not_above : (a b : Ordering) → is_gt (ordering_then a b) ≡ false → is_gt a ≡ false
first_not_above Less b h = refl
first_not_above Equal b h = refl
first_not_above Greater b h = h

both_not_above : (a b : Ordering) → is_gt a ≡ false → is_gt b ≡ false → is_gt (ordering_then a b) ≡ false
both_not_above Less b h k = refl
both_not_above Equal b h k = k
both_not_above Greater b h k = h

-- of two names of which neither is above the other
oid_flips : (o p : Oid) → oid_cmp p o ≡ ordering_reverse (oid_cmp o p)
oid_flips o p = derived_is p o ∙ name_cmp_total.antisymm p o ∙ ap ordering_reverse (sym (derived_is o p))

neither_above : (r : Ordering) → is_gt r ≡ false → is_gt (ordering_reverse r) ≡ false → is_eq r ≡ true
neither_above Less h k = absurd (true≢false k)
neither_above Equal h k = refl
neither_above Greater h k = absurd (true≢false h)

-- ---- walks from a key on

-- a name with any number isn't below the name with 0
pub name_in_walk : (o : Oid) (m : ℕ) → is_gt (key_cmp (o, 0) (o, m)) ≡ false
name_in_walk o m =
    both_not_above (oid_cmp o o) (nat_cmp 0 m) (ap is_gt (derived_itself o)) (not_above 0 m (omega arith))

-- what stands between two keys of a name is of that name
pub name_between : (o p : Oid) (n m i j : ℕ) → is_gt (key_cmp (o, n) (p, m)) ≡ false → is_gt (key_cmp (p, i) (o, j)) ≡ false → is_same p o ≡ true
name_between o p n m i j h k =
    let below = first_not_above (oid_cmp o p) (nat_cmp n m) h in
    let above = subst (λ r. is_gt r ≡ false) (oid_flips o p) (first_not_above (oid_cmp p o) (nat_cmp i j) k) in
    same_flips p o ∙ sym (oid_at o p) ∙ neither_above (oid_cmp o p) below above

-- of one name the numbers are in order
pub name_in_order : (o p : Oid) (n m : ℕ) → is_same p o ≡ true → is_gt (key_cmp (p, n) (o, m)) ≡ false → n ≤ m
name_in_order o p n m e h =
    let same : p ≡ o = one_name p o e in
    let alike : key_cmp (p, n) (o, m) ≡ nat_cmp n m = ap (λ q. key_cmp (q, n) (o, m)) same ∙ ap (λ r. ordering_then r (nat_cmp n m)) (derived_itself o) in
    le_from_not_gt n m (sym (ap is_gt alike) ∙ h)

-- the least tid of a worker
abbrev pub least_of : ℕ → Tid
least_of w = record { worker = w; boot = 0; number = 0 }

-- tids of one worker
abbrev inner_cmp : Tid → Tid → Ordering
inner_cmp t u = ordering_then (nat_cmp t.boot u.boot) (nat_cmp t.number u.number)

pub tid_in_walk : (w : ℕ) (t : Tid) → t.worker ≡ w → is_gt (tid_cmp (least_of w) t) ≡ false
tid_in_walk w t e =
    both_not_above (nat_cmp w t.worker) (inner_cmp (least_of w) t) (not_above w t.worker (omega (arith, e)))
    (both_not_above (nat_cmp 0 t.boot) (nat_cmp 0 t.number) (not_above 0 t.boot (omega arith)) (not_above 0 t.number (omega arith)))

pub tid_between : (w : ℕ) (t u : Tid) → is_gt (tid_cmp (least_of w) t) ≡ false → is_gt (tid_cmp t u) ≡ false → u.worker ≡ w → t.worker ≡ w
tid_between w t u h k e =
    let below = le_from_not_gt w t.worker (first_not_above (nat_cmp w t.worker) (inner_cmp (least_of w) t) h) in
    let above = le_from_not_gt t.worker u.worker (first_not_above (nat_cmp t.worker u.worker) (inner_cmp t u) k) in
    omega (arith, below, above, e)
