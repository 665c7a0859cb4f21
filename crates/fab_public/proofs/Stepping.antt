-- What an entry does, whatever it is called.
use Rattle.std.proofs.Common.{◌≡◌, ◌⊎◌, inl, inr, ℕ, List, Result, IfOk, OnOk, sym, subst}
use Rattle.std.specs.declared.alloc.AllocError.{AllocError}
use Rattle.fab_release.specs.declared.release.Release.{Release}
use Rattle.fab_release.specs.Replay.{Rebuilt, next, sends}
use Rattle.fab_release.specs.Sights.{Public, Sight}
use Rattle.fab_sent.specs.Messages.{all_spelled}
use Rattle.fab_public.specs.declared.states.Kept.{Kept}
use Rattle.fab_public.specs.States.{IsKept}

module _ (sight : Sight) (P : Public) (old new : Kept) (r : Result (List (ℕ × List ℕ)) AllocError) (x y : Release) (is : x ≡ y) where
  pub kept_as : OnOk r ((k : Rebuilt) → IsKept sight P old k → IsKept sight P new (next sight P x k)) → OnOk r ((k : Rebuilt) → IsKept sight P old k → IsKept sight P new (next sight P y k))
  kept_as h = subst (λ (z : Release). OnOk r ((k : Rebuilt) → IsKept sight P old k → IsKept sight P new (next sight P z k))) is h

  pub sent_as : IfOk r (λ sent. (k : Rebuilt) → IsKept sight P old k → sent ≡ all_spelled (sends sight P x k)) → IfOk r (λ sent. (k : Rebuilt) → IsKept sight P old k → sent ≡ all_spelled (sends sight P y k))
  sent_as h = subst (λ (z : Release). IfOk r (λ sent. (k : Rebuilt) → IsKept sight P old k → sent ≡ all_spelled (sends sight P z k))) is h

-- an entry is one of two
module _ (sight : Sight) (P : Public) (old new : Kept) (r : Result (List (ℕ × List ℕ)) AllocError) (y a b : Release) where
  abbrev KeptBy : Release → Type 0
  KeptBy x = OnOk r ((k : Rebuilt) → IsKept sight P old k → IsKept sight P new (next sight P x k))

  abbrev SentBy : Release → Type 0
  SentBy x = IfOk r (λ sent. (k : Rebuilt) → IsKept sight P old k → sent ≡ all_spelled (sends sight P x k))

  pub kept_either : (y ≡ a) ⊎ (y ≡ b) → KeptBy a → KeptBy b → KeptBy y
  kept_either (inl e) h k = kept_as sight P old new r a y (sym e) h
  kept_either (inr e) h k = kept_as sight P old new r b y (sym e) k

  pub sent_either : (y ≡ a) ⊎ (y ≡ b) → SentBy a → SentBy b → SentBy y
  sent_either (inl e) h k = sent_as sight P old new r a y (sym e) h
  sent_either (inr e) h k = sent_as sight P old new r b y (sym e) k
