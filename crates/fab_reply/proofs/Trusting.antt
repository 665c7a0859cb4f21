-- What `trust` wants is one text, and which guard is told.
use Rattle.std.proofs.Common.{◌≡◌, ◌⊎◌, inl, inr, ℕ, zero, suc, ◌<◌, ◌≤◌, Bool, List, [], ◌∷◌, length, Option, Some, None, slice_get, refl, sym, ap, subst, ◌∙◌, arith}
use Rattle.std.specs.List.{AllByRecursion}
use Rattle.std.proofs.Math.Path.{fun_ext}
use Rattle.fab_tree.specs.declared.start.Start.{Start}
use Rattle.fab_tree.specs.declared.resolved.Class.{Class}
use Rattle.fab_tree.specs.declared.resolved.Resolved.{Resolved}
use Rattle.fab_language.specs.Flows.{delegations_of}
use Rattle.fab_language.specs.Numbers.{resolved}
use Rattle.fab_labelling.specs.Readers.{Excludes, IsNode, label_at}
use Rattle.fab_places.specs.declared.masks.Seen.{Seen}
use Rattle.fab_places.proofs.NodeLemmas.{numbered as within_masks}
use Rattle.fab_setup.proofs.Numbers.{numbered}
use Rattle.fab_rights.specs.Computed.{has_bit}
use Rattle.fab_rights.specs.declared.rights.Rights.{Rights}
use Rattle.fab_rights.proofs.Bits.{has_bit_exact, same_truth}
use Rattle.fab_settings.specs.Settings.{IsAcceptedWith}
use Rattle.fab_trusted.specs.declared.rows.Guard.{Guard}
use Rattle.fab_trusted.specs.Robust.{IsFirstUnkept, Keeps}
use Rattle.fab_trusted.specs.Trusts.{IsTrustedBy}
use Rattle.fab_world.specs.Machine.{Move}
use Rattle.fab_replay.specs.Replays.{trust_of}
use Rattle.fab_reply.specs.Replays.{AreDistrusted, given_of}

-- ---- two masks of one set exclude alike

module _ (r : Resolved) (m n : ℕ) (alike : (k : ℕ) → IsNode r k → has_bit m k ≡ has_bit n k) where
  excluded_alike : (l : ℕ) → Excludes r (delegations_of r) m (label_at r l) → Excludes r (delegations_of r) n (label_at r l)
  excluded_alike l none k set node = none k ((has_bit_exact m k).0 (alike k node ∙ (has_bit_exact n k).1 set)) node

module _ (r : Resolved) (m n : ℕ) (alike : (k : ℕ) → IsNode r k → has_bit m k ≡ has_bit n k) (trusts keeps others those : ℕ → Bool)
    (one : IsTrustedBy r m trusts keeps) (other : IsTrustedBy r n others those) where
  same_labels : (l : ℕ) → trusts l ≡ others l
  same_labels l =
      same_truth (trusts l) (others l) {P = (l < length r.labels) × Excludes r (delegations_of r) m (label_at r l)} (one.labels l) (
        λ t. let h = (other.labels l).0 t in (h.0, excluded_alike r n m (λ k node. sym (alike k node)) l h.1),
        λ h. (other.labels l).1 (h.0, excluded_alike r m n alike l h.1),
      )

  same_classes : (c : ℕ) → keeps c ≡ those c
  same_classes c = by (slice_get r.classes c) refl
    where
      by : (o : Option Class) → slice_get r.classes c ≡ o → keeps c ≡ those c
      by None e = one.absent c e ∙ sym (other.absent c e)
      by (Some class) e = one.classes c class e ∙ same_labels class.label.number ∙ sym (other.classes c class e)

  pub trusts_alike : trusts ≡ others
  trusts_alike = fun_ext same_labels

  pub keeps_alike : keeps ≡ those
  keeps_alike = fun_ext same_classes

pub one_trust : (s : Start) (rights : Rights) (names : List (List ℕ)) (m n : ℕ) (part other : Seen) → IsAcceptedWith s rights → AreDistrusted s names m part → AreDistrusted s names n other
    → (moves : List Move) → trust_of (given_of s rights) (has_bit part.labels) (has_bit part.classes) moves ≡ trust_of (given_of s rights) (has_bit other.labels) (has_bit other.classes) moves
one_trust s rights names m n part other accepted h k moves =
    let r = resolved s in
    let alike : (i : ℕ) → IsNode r i → has_bit m i ≡ has_bit n i = λ i node. (let low = within_masks (resolved s) i (numbered s accepted.within) node in h.named.nodes_are i low ∙ sym (k.named.nodes_are i low)) in
    ap (λ t. trust_of (given_of s rights) t (has_bit part.classes) moves)
    (trusts_alike r m n alike (has_bit part.labels) (has_bit part.classes) (has_bit other.labels) (has_bit other.classes) h.trusts k.trusts)
    ∙ ap (λ c. trust_of (given_of s rights) (has_bit other.labels) c moves)
    (keeps_alike r m n alike (has_bit part.labels) (has_bit part.classes) (has_bit other.labels) (has_bit other.classes) h.trusts k.trusts)

-- ---- the first guard that isn't kept is one

pub one_unkept : (r : Resolved) (gs : List Guard) (x y : Guard) → IsFirstUnkept r gs x → IsFirstUnkept r gs y → x ≡ y
one_unkept r gs x y h k = by (h.first y k.i k.is k.broken) (k.first x h.i h.is h.broken)
  where
    same : h.i ≡ k.i → x ≡ y
    same e = let there : Some x ≡ Some y = sym h.is ∙ ap (slice_get gs) e ∙ k.is in cc

    by : (x.at < y.at) ⊎ ((x.at ≡ y.at) × (h.i ≤ k.i)) → (y.at < x.at) ⊎ ((y.at ≡ x.at) × (k.i ≤ h.i)) → x ≡ y
    by (inl p) (inl q) = absurd (omega (arith, p, q))
    by (inl p) (inr q) = let e = q.0 in absurd (omega (arith, p, e))
    by (inr p) (inl q) = let e = p.0 in absurd (omega (arith, e, q))
    by (inr p) (inr q) = let a = p.1 in let b = q.1 in same (omega (arith, a, b))

same_guard : (x y : Guard) → Some x ≡ Some y → x ≡ y
same_guard x y e = cc

-- and where all are kept there is none
pub robust_is_kept : {A : Type 0} (r : Resolved) (gs : List Guard) (x : Guard) → AllByRecursion (Keeps r) gs → IsFirstUnkept r gs x → A
robust_is_kept r gs x all h = absurd (h.broken (kept_at gs h.i h.is all))
  where
    kept_at : (gs : List Guard) (i : ℕ) → slice_get gs i ≡ Some x → AllByRecursion (Keeps r) gs → Keeps r x
    kept_at [] i e all = absurd (cc)
    kept_at (g ∷ gs) zero e all = subst (Keeps r) (same_guard g x e) all.0
    kept_at (g ∷ gs) (suc i) e all = kept_at gs i e all.1
