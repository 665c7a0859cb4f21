-- The laws of outcomes: they have their causes, they stay, and the counter of tries is what it is called.
use Rattle.std.proofs.Common.{◌≡◌, ℕ, List, ◌++◌, Bool, true, false, IsTrue}
use Rattle.std.proofs.Common.{Option, Some, None, refl, sym, ap, ◌∙◌, subst}
use Rattle.std.proofs.lemmas.Bool.{both_ways}
use Rattle.fab_net.specs.declared.outcome.Denial.TheVariants.{Rights as NoRights, IllFormed}
use Rattle.fab_net.specs.declared.outcome.ReqOutcome.{ReqOutcome}
use Rattle.fab_net.specs.declared.outcome.ReqOutcome.TheVariants.{Committed, Failed, Conflict, Silent, Denied, Stopped, NodeDown, Unfinished}
use Rattle.fab_rights.specs.Computed.{is_worker}
use Rattle.fab_world.specs.Machine.{Setting, World, Move, at_start, outcome, outcome_of}
use Rattle.fab_world.specs.Serial.{IsRun, world_of}
use Rattle.fab_outcomes.specs.Causes.{has_failed, is_final, IsGiven, NoneIsGiven, IsCaused, HaveCauses, AreOne, Stay, CountTries}
use Rattle.fab_outcomes.proofs.Outcomes.{slot, slot_stays, given_slot, slot_given, run_append}
use Rattle.fab_outcomes.proofs.Tries.{counted_runs, failed_runs}

module _ (S : Setting) where
  -- ---- causes

  -- an event that gives an outcome is its cause
  given_caused : (moves : List Move) (n r : ℕ) (o : ReqOutcome) → IsGiven S moves n r o → IsCaused S moves n r o
  given_caused moves n r (Committed t value) g = g
  given_caused moves n r Failed g = g
  given_caused moves n r Conflict g = g
  given_caused moves n r (Silent s) g = g
  given_caused moves n r (Denied s NoRights) g = g
  given_caused moves n r (Denied s IllFormed) g = g
  given_caused moves n r (Stopped limit) g = g
  given_caused moves n r NodeDown g = absurd g.gives
  given_caused moves n r Unfinished g = absurd g.gives

  module _ (moves : List Move) (n r : ℕ) (run : IsRun S moves) (me : is_worker S.rights n ≡ true) where
    abbrev w : World
    w = world_of S moves

    abbrev failed : Bool
    failed = (w.node n).failed

    marked : failed ≡ has_failed n moves
    marked = failed_runs S n (at_start S) moves

    none_given : slot S n r w ≡ None → NoneIsGiven S moves n r
    none_given none o g = let no : None ≡ Some o = sym none ∙ given_slot S n r me moves o run g in cc

    none_there : NoneIsGiven S moves n r → (x : Option ReqOutcome) → slot S n r w ≡ x → x ≡ None
    none_there none None is = refl
    none_there none (Some o) is = absurd (none o (slot_given S n r me moves o run is))

    -- without an outcome, by whether the worker has failed
    caused_by_mark : (b : Bool) → failed ≡ b → slot S n r w ≡ None → IsCaused S moves n r (outcome_of S None b)
    caused_by_mark true is none = (sym marked ∙ is, none_given none)
    caused_by_mark false is none = (sym marked ∙ is, none_given none)

    caused_by_slot : (x : Option ReqOutcome) → slot S n r w ≡ x → IsCaused S moves n r (outcome_of S x failed)
    caused_by_slot (Some o) is = given_caused moves n r o (slot_given S n r me moves o run is)
    caused_by_slot None is = caused_by_mark failed refl is

    pub outcome_caused : (o : ReqOutcome) → outcome S w n r ≡ o → IsCaused S moves n r o
    outcome_caused o h = subst (IsCaused S moves n r) h (caused_by_slot (slot S n r w) refl)

    given_outcome : (o : ReqOutcome) → IsGiven S moves n r o → outcome S w n r ≡ o
    given_outcome o g = ap (λ x. outcome_of S x failed) (given_slot S n r me moves o run g)

    unless_given : NoneIsGiven S moves n r → (b : Bool) → has_failed n moves ≡ b → outcome S w n r ≡ outcome_of S None b
    unless_given none b is =
        ap (λ x. outcome_of S x failed) (none_there none (slot S n r w) refl) ∙ ap (outcome_of S None) (marked ∙ is)

    pub caused_outcome : (o : ReqOutcome) → IsCaused S moves n r o → outcome S w n r ≡ o
    caused_outcome (Committed t value) g = given_outcome (Committed t value) g
    caused_outcome Failed g = given_outcome Failed g
    caused_outcome Conflict g = given_outcome Conflict g
    caused_outcome (Silent s) g = given_outcome (Silent s) g
    caused_outcome (Denied s NoRights) g = given_outcome (Denied s NoRights) g
    caused_outcome (Denied s IllFormed) g = given_outcome (Denied s IllFormed) g
    caused_outcome (Stopped limit) g = given_outcome (Stopped limit) g
    caused_outcome NodeDown c = unless_given c.1 true c.0
    caused_outcome Unfinished c = unless_given c.1 false c.0

  pub have_causes : HaveCauses S
  have_causes moves n r o run me = (outcome_caused moves n r run me o, caused_outcome moves n r run me o)

  pub are_one : AreOne S
  are_one moves n r o p run me c d = sym (caused_outcome moves n r run me o c) ∙ caused_outcome moves n r run me p d

  -- ---- outcomes stay

  pub not_final : (b : Bool) → is_final (outcome_of S None b) ≡ false
  not_final true = refl
  not_final false = refl

  stays_by : (moves more : List Move) (n r : ℕ) (x : Option ReqOutcome) → slot S n r (world_of S moves) ≡ x
      → IsTrue (is_final (outcome_of S x ((world_of S moves).node n).failed))
      → outcome S (world_of S (moves ++ more)) n r ≡ outcome_of S x ((world_of S moves).node n).failed
  stays_by moves more n r None is h = absurd (both_ways (is_final (outcome_of S None ((world_of S moves).node n).failed)) (not_final ((world_of S moves).node n).failed) h)
  stays_by moves more n r (Some o) is h =
      ap (λ x. outcome_of S x ((world_of S (moves ++ more)).node n).failed)
      (ap (slot S n r) (run_append S (at_start S) moves more) ∙ slot_stays S n r (world_of S moves) more o is)

  pub stay : Stay S
  stay moves more n r h = stays_by moves more n r (slot S n r (world_of S moves)) refl h

  -- ---- the counter

  pub count_tries : CountTries S
  count_tries moves n run me up = counted_runs S n me (at_start S) 0 moves run.enabled (λ _. refl) up
