-- Examples of what a journal does behind a failure, and of what makers tell.
use Rattle.std.specs.Prelude.{ℕ, zero, suc, List, [], ◌∷◌, Some, None, Result, Ok, Err}
use Rattle.std.proofs.Common.{◌≡◌, refl, inl, inr, arith}
use Rattle.std.proofs.lemmas.Bool.{false≢true}
use Rattle.fab_base.specs.Faults.{Calls}
use Rattle.fab_device.specs.Devices.{FailsNext, StaysStopped}
use Rattle.fab_device.specs.Kept.{with_name}
use Rattle.fab_device.specs.declared.traits.JournalError.{JournalError}
use Rattle.fab_device.specs.declared.traits.JournalError.TheVariants.{Failed}

abbrev worked : Result ℕ JournalError
worked = Ok 0

abbrev failed : Result ℕ JournalError
failed = Err Failed

-- ---- behind a failure

fails_again : StaysStopped 1 (5 ∷ []) (5 ∷ []) failed
fails_again = record { fails = λ h. refl; same = λ h. refl }

nothing_works : StaysStopped 1 (5 ∷ []) (5 ∷ []) worked → ⊥
nothing_works h = false≢true (h.fails (omega arith))

nothing_is_added : StaysStopped 1 (5 ∷ []) (5 ∷ 6 ∷ []) failed → ⊥
nothing_is_added h = let e : ◌≡◌ {A = List ℕ} (5 ∷ 6 ∷ []) (5 ∷ []) = h.same (omega arith) in cc

before_one_it_works : StaysStopped 0 (5 ∷ []) (5 ∷ 6 ∷ []) worked
before_one_it_works = record { fails = λ h. absurd (omega (arith, h)); same = λ h. absurd (omega (arith, h)) }

-- ---- calls that are listed

abbrev calls : ℕ → ℕ → Calls
calls made faults = record { made = made; fails = 2 ∷ []; faults = faults }

first_works : FailsNext (calls 0 0) → ⊥
first_works (inl h) = omega (arith, h)
first_works (inr (zero, within, is)) = omega (arith, is)
first_works (inr (suc k, within, is)) = omega (arith, within)

second_fails : FailsNext (calls 1 0)
second_fails = inr (0, omega arith, refl)

third_fails_behind_it : FailsNext (calls 2 1)
third_fails_behind_it = inl (omega arith)

-- ---- what was made

behind_the_others : with_name (Some ((1 ∷ []) ∷ [])) (2 ∷ []) ≡ Some ((1 ∷ []) ∷ (2 ∷ []) ∷ [])
behind_the_others = refl

untold_stays_untold : with_name None (2 ∷ []) ≡ None
untold_stays_untold = refl
