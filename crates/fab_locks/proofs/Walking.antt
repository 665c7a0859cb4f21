-- What a walk from a key on begins with: the least number of a name, and a tid of a worker.
use Rattle.std.proofs.Common.{◌≡◌, ℕ, Bool, true, false, List, [], ◌∷◌, Option, Some, None, IsSome, is_some, IfSome, slice_get, refl, sym, subst, ap, ◌∙◌}
use Rattle.std.specs.declared.ops.Bound.TheVariants.{Included, Unbounded}
use Rattle.std.specs.BTreeMap.{BTreeMap, get}
use Rattle.std.specs.BTreeMap.Range.{IsEntryInRange, IsLeBy, IsRangeOf}
use Rattle.std.specs.BTreeSet.{BTreeSet, IsKeyInRange, IsKeyRangeOf, contains}
use Rattle.std.proofs.lemmas.Bool.{true≢false}
use Rattle.fab_base.specs.declared.object.Oid.{Oid}
use Rattle.fab_base.specs.declared.object.Tid.{Tid}
use Rattle.fab_base.specs.FlatMap.{is_same}
use Rattle.fab_base.proofs.NameOrder.{one_name}
use Rattle.fab_locks.specs.Indexes.{IsLeast, Key, has, key_cmp, tid_cmp}
use Rattle.fab_locks.proofs.Keys.{least_of, name_between, name_in_order, name_in_walk, tid_between, tid_in_walk}

-- ---- names

module _ (o : Oid) (names : BTreeSet Key) (walk : List Key) (range : IsKeyRangeOf key_cmp (Included (o, 0)) Unbounded names walk) where
  pub no_names : walk ≡ [] → (n : ℕ) → has names o n ≡ false
  no_names none n = range.5 none (o, n) (name_in_walk o n, tt)

  module _ (k : Key) (rest : List Key) (split : walk ≡ k ∷ rest) where
    first : IsKeyInRange key_cmp (Included (o, 0)) Unbounded names k
    first = subst (λ l. IfSome (slice_get l 0) (IsKeyInRange key_cmp (Included (o, 0)) Unbounded names)) split range.1

    not_below : (n : ℕ) → has names o n ≡ true → IsLeBy key_cmp k (o, n)
    not_below n h = subst (λ l. IfSome (slice_get l 0) (λ e. IsLeBy key_cmp e (o, n))) split (range.2 (o, n) (name_in_walk o n, tt) h)

    -- the walk begins at the name
    pub least_number : is_same k.0 o ≡ true → IsLeast (has names o) k.1
    least_number same = record {
      holds = ap (λ p. contains key_cmp names (p, k.1)) (sym (one_name k.0 o same)) ∙ first.1;
      least = λ m h. name_in_order o k.0 k.1 m same (not_below m h);
    }

    -- or behind it
    pub no_number : is_same k.0 o ≡ false → (n : ℕ) → has names o n ≡ false
    no_number apart n = step (has names o n) refl
      where
        step : (b : Bool) → has names o n ≡ b → has names o n ≡ false
        step true h = absurd (true≢false (sym (name_between o k.0 0 k.1 k.1 n first.0.0 (not_below n h)) ∙ apart))
        step false h = h

-- ---- tids

module _ (w : ℕ) (places : BTreeMap Tid ℕ) (walk : List (Tid × ℕ)) (range : IsRangeOf tid_cmp (Included (least_of w)) Unbounded places walk) where
  pub no_tids : walk ≡ [] → (t : Tid) → t.worker ≡ w → get tid_cmp places t ≡ None
  no_tids none t is = range.5 none t (tid_in_walk w t is, tt)

  module _ (e : Tid × ℕ) (rest : List (Tid × ℕ)) (split : walk ≡ e ∷ rest) where
    begins : IsEntryInRange tid_cmp (Included (least_of w)) Unbounded places e
    begins = subst (λ l. IfSome (slice_get l 0) (IsEntryInRange tid_cmp (Included (least_of w)) Unbounded places)) split range.1

    pub tid_there : IsSome (get tid_cmp places e.0)
    tid_there = ap is_some begins.1

    pub no_tid : (e.0.worker ≡ w → ⊥) → (t : Tid) → t.worker ≡ w → get tid_cmp places t ≡ None
    no_tid apart t is = step (get tid_cmp places t) refl
      where
        step : (r : Option ℕ) → get tid_cmp places t ≡ r → get tid_cmp places t ≡ None
        step None h = h
        step (Some n) h =
            let above : IsLeBy tid_cmp e.0 t =
            subst (λ l. IfSome (slice_get l 0) (λ x. IsLeBy tid_cmp x.0 t)) split (range.2 t (tid_in_walk w t is, tt) (ap is_some h)) in
            absurd (apart (tid_between w e.0 t begins.0.0 above is))
