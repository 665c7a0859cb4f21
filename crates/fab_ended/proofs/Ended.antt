-- Behind a run that is over no request of an honest worker is open, and none is down but of a worker whose journal failed.
use Rattle.std.proofs.Common.{◌≡◌, inl, inr, ℕ, zero, suc, ◌+◌, ◌-◌, ◌<◌, ◌≤◌, List, [], ◌∷◌, length, false, ◌||◌, IsTrue, if◌then◌else◌}
use Rattle.std.proofs.Common.{None, refl, sym, ap, ◌∙◌, subst, arith, get_or}
use Rattle.std.specs.Prelude.{slice_get}
use Rattle.std.specs.List.{AllByRecursion, range_with_len}
use Rattle.std.proofs.lemmas.Bool.{both_ways, cases_lt, ne_eqb}
use Rattle.std.proofs.lemmas.Option.{slice_get-get_or}
use Rattle.fab_base.proofs.Lists.{all_along, all_map}
use Rattle.fab_net.specs.declared.event.Event.{Event}
use Rattle.fab_net.specs.declared.event.Event.TheVariants as event
use Rattle.fab_net.specs.declared.outcome.Denial.TheVariants.{Rights as NoRights, IllFormed}
use Rattle.fab_net.specs.declared.outcome.ReqOutcome.{ReqOutcome}
use Rattle.fab_net.specs.declared.outcome.ReqOutcome.TheVariants.{Committed, Failed, Conflict, Silent, Denied, Stopped, NodeDown, Unfinished}
use Rattle.fab_rights.specs.Computed.{is_worker}
use Rattle.fab_world.specs.Crashing.{CrashLine, IsOver}
use Rattle.fab_world.specs.Machine.{Setting, World, Move, at_start, form_by, kept, outcome}
use Rattle.fab_world.specs.Serial.{ArePosts, IsEvaluation, IsRun, IsSetting, world_of}
use Rattle.fab_integrity.proofs.Over.{over_is_done}
use Rattle.fab_outcomes.specs.Causes.{fails, has_failed, is_final, IsCaused}
use Rattle.fab_outcomes.proofs.Having.{have_causes}
use Rattle.fab_outcomes.proofs.Outcomes.{slot, slot_given}
use Rattle.fab_outcomes.proofs.Tries.{failed_runs}
use Rattle.fab_ended.specs.Ended.{AreEnded, AreFinal, AreUnmarked, IsEnded, outcomes_of}

-- what holds of each number of a range
all_range : (P : ℕ → Type 0) (a n : ℕ) → ((k : ℕ) → k < a + n → P k) → AllByRecursion P (range_with_len a n)
all_range P a zero h = tt
all_range P a (suc n) h = (h a (omega arith), all_range P (a + 1) n (λ k low. h k (omega (arith, low))))

-- ---- marks

unmarked_event : (n : ℕ) (e : Event) → fails n (form_by false e) ≡ false
unmarked_event n (event.Begin x) = refl
unmarked_event n (event.Resume x) = refl
unmarked_event n (event.Deliver a b) = refl
unmarked_event n (event.Post x) = refl
unmarked_event n (event.Idle x s) = refl
unmarked_event n (event.Crash x) = refl
unmarked_event n (event.CrashIn keep x) = refl
unmarked_event n (event.Recover x) = refl

-- without a mark no node has failed
pub none_failed : (n : ℕ) (moves : List Move) → AreUnmarked moves → has_failed n moves ≡ false
none_failed n [] h = refl
none_failed n (move ∷ moves) h =
    ap (λ b. b || has_failed n moves) (subst (λ b. fails n (form_by b move.event) ≡ false) (sym h.0) (unmarked_event n move.event)) ∙ none_failed n moves h.1

-- an outcome that is neither open nor down is final
final_of : (moves : List Move) (n : ℕ) → has_failed n moves ≡ false → (o : ReqOutcome) → IsEnded moves n o → IsTrue (is_final o)
final_of moves n none (Committed t value) h = refl
final_of moves n none Failed h = refl
final_of moves n none Conflict h = refl
final_of moves n none (Silent s) h = refl
final_of moves n none (Denied s denial) h = refl
final_of moves n none (Stopped limit) h = refl
final_of moves n none NodeDown h = absurd (both_ways (has_failed n moves) none h)
final_of moves n none Unfinished h = absurd h

-- ---- behind a run that is over

module _ (S : Setting) (given : IsSetting S) (law : IsEvaluation S) (own : ArePosts S) where
  module _ (lines : ℕ → List CrashLine) (moves : List Move) (n : ℕ) (run : IsRun S moves) (over : IsOver S lines moves) (me : IsTrue (is_worker S.rights n))
      (honest : S.hostile n ≡ false) where
    abbrev w : World
    w = world_of S moves

    abbrev done : List ReqOutcome
    done = (kept S w n).outcomes

    -- of the request behind k others
    abbrev outcome_at : ℕ → ReqOutcome
    outcome_at k = outcome S w n (k + 1)

    slot_at : (k : ℕ) → slot S n (k + 1) w ≡ slice_get done k
    slot_at k =
        ap (λ b. if b then None else slice_get done (k + 1 - 1)) (ne_eqb (k + 1) 0 (λ e. absurd (omega (arith, e))))
        ∙ ap (slice_get done) (omega arith)

    -- a request of a worker that hasn't failed has a record that ends it
    all_done : has_failed n moves ≡ false → S.requests n ≤ length done
    all_done none = elim (cases_lt (length done) (S.requests n)) [
      | inr all ↦ all
      | inl left ↦ absurd (over_is_done S given law own lines moves run over n
          (record { kind = me; honest = honest; sound = failed_runs S n (at_start S) moves ∙ none; left = left }))
    ]

    none_open : (k : ℕ) → k < S.requests n → IsCaused S moves n (k + 1) Unfinished → ⊥
    none_open k low c =
        let all = all_done c.0 in
        let there = slot_at k ∙ slice_get-get_or done k Failed (omega (arith, low, all)) in
        c.1 (get_or done k Failed) (slot_given S n (k + 1) me moves (get_or done k Failed) run there)

    by_cause : (k : ℕ) → k < S.requests n → (o : ReqOutcome) → IsCaused S moves n (k + 1) o → IsEnded moves n o
    by_cause k low NodeDown c = c.0
    by_cause k low Unfinished c = absurd (none_open k low c)
    by_cause k low (Committed t value) c = tt
    by_cause k low Failed c = tt
    by_cause k low Conflict c = tt
    by_cause k low (Silent s) c = tt
    by_cause k low (Denied s NoRights) c = tt
    by_cause k low (Denied s IllFormed) c = tt
    by_cause k low (Stopped limit) c = tt

    ended : AllByRecursion (IsEnded moves n) (outcomes_of S w n)
    ended =
        all_map (IsEnded moves n) outcome_at (range_with_len 0 (S.requests n))
        (all_range (λ k. IsEnded moves n (outcome_at k)) 0 (S.requests n)
        (λ k low. by_cause k (omega (arith, low)) (outcome_at k) ((have_causes S moves n (k + 1) (outcome_at k) run me).0 refl)))

  pub are_ended : AreEnded S
  are_ended lines moves n run over me honest = ended lines moves n run over me honest

  pub are_final : AreFinal S
  are_final lines moves n run over unmarked me honest =
      all_along (IsEnded moves n) (λ o. IsTrue (is_final o)) (final_of moves n (none_failed n moves unmarked)) (outcomes_of S (world_of S moves) n)
      (ended lines moves n run over me honest)
