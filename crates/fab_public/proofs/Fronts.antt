-- The public replay goes through the record in order.
use Rattle.std.proofs.Common.{◌≡◌, ℕ, ◌+◌, ◌<◌, List, [], ◌∷◌, ◌++◌, drop, length, get_or, refl, sym, ap, ◌∙◌, append_assoc}
use Rattle.fab_authority.proofs.Walks.{front}
use Rattle.fab_release.specs.declared.release.Released.{Released}
use Rattle.fab_release.specs.Sights.{Sight, Public}
use Rattle.fab_release.specs.Replay.{Rebuilt, next, sent_at, sent_behind}

module _ (sight : Sight) (P : Public) (n d : ℕ) where
  pub goes_on : (kept : Rebuilt) (xs ys : List Released) → (rest : List (List ℕ)) × (sent_behind sight P kept (xs ++ ys) n d ≡ sent_behind sight P kept xs n d ++ rest)
  goes_on kept [] ys = (sent_behind sight P kept ys n d, refl)
  goes_on kept (x ∷ xs) ys =
      let later = goes_on (next sight P x.release kept) xs ys in (
        later.0,
        ap (λ sent. sent_at sight P x kept n d ++ sent) later.1 ∙ sym (append_assoc (sent_at sight P x kept n d) (sent_behind sight P (next sight P x.release kept) xs n d) later.0),
      )

  -- one entry more of a record, of which the rest is still to come
  pub one_entry : (k : Rebuilt) (released : List Released) (i : ℕ) (x : Released) (old new whole : List (List ℕ)) → i < length released → x ≡ get_or released i x
      → new ≡ old ++ sent_at sight P x k n d → old ++ sent_behind sight P k (drop i released) n d ≡ whole
      → new ++ sent_behind sight P (next sight P x.release k) (drop (i + 1) released) n d ≡ whole
  one_entry k released i x old new whole within is more so_far =
      ap (λ sent. sent ++ sent_behind sight P (next sight P x.release k) (drop (i + 1) released) n d) more
      ∙ append_assoc old (sent_at sight P x k n d) (sent_behind sight P (next sight P x.release k) (drop (i + 1) released) n d)
      ∙ ap (λ (l : List Released). old ++ sent_behind sight P k l n d) (sym (front released i x within is))
      ∙ so_far

-- one entry more, whatever is kept of what is rebuilt
pub step_on : (sight : Sight) (P : Public) (released : List Released) (i : ℕ) (x : Released) (k : Rebuilt) (Kept : Rebuilt → Type 0) (old new whole : ℕ → ℕ → List (List ℕ))
    → i < length released → x ≡ get_or released i x
    → Kept (next sight P x.release k) × ((n d : ℕ) → n < 64 → d < 64 → new n d ≡ old n d ++ sent_at sight P x k n d)
    → ((n d : ℕ) → n < 64 → d < 64 → old n d ++ sent_behind sight P k (drop i released) n d ≡ whole n d)
    → (l : Rebuilt) × Kept l × ((n d : ℕ) → n < 64 → d < 64 → new n d ++ sent_behind sight P l (drop (i + 1) released) n d ≡ whole n d)
step_on sight P released i x k Kept old new whole within is done so_far = (
  next sight P x.release k,
  done.0,
  λ n d few fewer. one_entry sight P n d k released i x (old n d) (new n d) (whole n d) within is (done.1 n d few fewer) (so_far n d few fewer),
)
