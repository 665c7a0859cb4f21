-- What an accepted bundle says of its nodes and counts.
use Rattle.std.proofs.Common.{◌≡◌, ℕ, zero, suc, ◌^◌, ◌<◌, ◌≤◌, Bool, true, false, IsTrue, IsFalse, List, [], ◌∷◌, length, Option, Some, None, refl, sym, arith, IsBitSet, IsSomeAnd}
use Rattle.std.specs.Prelude.{slice_get}
use Rattle.std.proofs.lemmas.Bool.{true≢false}
use Rattle.std.proofs.lemmas.List.{length-map}
use Rattle.fab_base.specs.declared.limit.What.TheVariants as w
use Rattle.fab_tree.specs.declared.declaration.Role.{Role}
use Rattle.fab_tree.specs.declared.declaration.Role.TheVariants as r
use Rattle.fab_tree.specs.declared.resolved.Resolved.{Resolved}
use Rattle.fab_tree.specs.declared.start.Start.{Start}
use Rattle.fab_tree.specs.Limits.{IsWithin, limit_of, first_passed}
use Rattle.fab_tree.specs.Sites.{site_places}
use Rattle.fab_tree.proofs.Within.{is_within}
use Rattle.fab_language.specs.Flows.{delegations_of}
use Rattle.fab_language.specs.Names as names
use Rattle.fab_language.specs.Numbers.{class_of, resolved}
use Rattle.fab_labelling.specs.Placement.{role_of, MayHoldNumber, MayWriteNumber}
use Rattle.fab_places.specs.Places.{AreRights}
use Rattle.fab_rights.specs.Computed as computed
use Rattle.fab_rights.specs.Computed.{is_worker, is_store, may_hold, may_write}
use Rattle.fab_rights.specs.declared.rights.ClassRights.{ClassRights}
use Rattle.fab_rights.specs.declared.rights.Rights.{Rights}
use Rattle.fab_rights.proofs.Bits.{has_bit_exact, bit_below}
use Rattle.fab_settings.proofs.Fitting.{HasFew}

-- ---- the limits

module _ (s : Start) (limits : first_passed s ≡ None) where
  within : IsWithin s
  within = is_within s limits

  pub few_classes : length s.program.classes ≤ limit_of w.Classes
  few_classes = within.classes

  pub few_sites : length (site_places s.program) ≤ limit_of w.Sites
  few_sites = within.sites

  pub few_roots : length s.roots ≤ limit_of w.Roots
  few_roots = within.roots

-- ---- rights

not_true : (b : Bool) → (IsTrue b → ⊥) → IsFalse b
not_true true h = absurd (h refl)
not_true false h = refl

-- nobody is a worker and a store
role_apart : (o : Option Role) → IsSomeAnd o (λ x. IsTrue (names.is_worker x)) → IsSomeAnd o (λ x. IsTrue (names.is_store x)) → ⊥
role_apart None w t = w
role_apart (Some r.Principal) w t = true≢false (sym w)
role_apart (Some (r.Worker hostile)) w t = true≢false (sym t)
role_apart (Some (r.Store hostile)) w t = true≢false (sym w)

held_bit : (o : Option ClassRights) (n : ℕ) → IsTrue (computed.holds o n) → IsSomeAnd o (λ c. IsBitSet c.holders n)
held_bit None n h = absurd (true≢false (sym h))
held_bit (Some c) n h = (has_bit_exact c.holders n).0 h

bit_held : (o : Option ClassRights) (n : ℕ) → IsSomeAnd o (λ c. IsBitSet c.holders n) → IsTrue (computed.holds o n)
bit_held None n h = absurd h
bit_held (Some c) n h = (has_bit_exact c.holders n).1 h

written_bit : (o : Option ClassRights) (n : ℕ) → IsTrue (computed.writes o n) → IsSomeAnd o (λ c. IsBitSet c.writers n)
written_bit None n h = absurd (true≢false (sym h))
written_bit (Some c) n h = (has_bit_exact c.writers n).0 h

pub some_below : {A : Type 0} (P : A → Type 0) (xs : List A) (i : ℕ) → IsSomeAnd (slice_get xs i) P → i < length xs
some_below P [] i h = absurd h
some_below P (x ∷ xs) zero h = omega arith
some_below P (x ∷ xs) (suc i) h = let k = some_below P xs i h in omega (arith, k)

module _ (b : Resolved) (rights : Rights) (are : AreRights b rights) where
  pub holds_number : (n class : ℕ) → IsTrue (may_hold rights n class) → MayHoldNumber b (delegations_of b) n class
  holds_number n class h = (are.held n class).0 (held_bit (slice_get rights.classes class) n h)

  pub number_holds : (n class : ℕ) → MayHoldNumber b (delegations_of b) n class → IsTrue (may_hold rights n class)
  number_holds n class h = bit_held (slice_get rights.classes class) n ((are.held n class).1 h)

  writes_number : (n class : ℕ) → IsTrue (may_write rights n class) → MayWriteNumber b (delegations_of b) n class
  writes_number n class h = (are.written n class).0 (written_bit (slice_get rights.classes class) n h)

  pub apart : (n : ℕ) → IsTrue (is_worker rights n) → IsFalse (is_store rights n)
  apart n w = not_true (is_store rights n) (λ t.
      role_apart (role_of b n) ((are.workers n).0 ((has_bit_exact rights.workers n).0 w)) ((are.stores n).0 ((has_bit_exact rights.stores n).0 t)))

  pub writers : (n class : ℕ) → IsTrue (may_write rights n class) → IsTrue (is_worker rights n)
  writers n class h = (has_bit_exact rights.workers n).1 ((are.workers n).1 (writes_number n class h).0)

  pub holders : (n class : ℕ) → IsTrue (may_hold rights n class) → IsTrue (is_store rights n)
  holders n class h = (has_bit_exact rights.stores n).1 ((are.stores n).1 (holds_number n class h).0)

pub has_few : (s : Start) (rights : Rights) → first_passed s ≡ None → AreRights (resolved s) rights → rights.stores < 2 ^ 64 → HasFew rights
has_few s rights limits are fits store class h =
    let b = resolved s in
    let number = holds_number b rights are store class h in
    let known = some_below _ b.classes class number.1 in
    let long = length-map s.program.classes (class_of s) in
    let few = few_classes s limits in
    (bit_below rights.stores store fits ((has_bit_exact rights.stores store).0 (holders b rights are store class h)), omega (arith, known, long, few))
