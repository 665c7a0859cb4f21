-- Whether one event that is told comes.
use Rattle.std.specs.Prelude.{◌≡◌, ◌==◌, Bool, true, false, ◌&&◌, if◌then◌else◌, List, Option, Some, None, Result, Ok, Err, IfOk}
use Rattle.std.proofs.Common.{refl, sym, ap, ◌∙◌, subst}
use Rattle.std.proofs.lemmas.Bool.{eqb-true}
use Rattle.fab_net.specs.declared.event.Event.{Event}
use Rattle.fab_net.specs.declared.event.Event.TheVariants as ne
use Rattle.fab_net.specs.declared.event.Inner.{Inner}
use Rattle.fab_world.specs.Machine.{Move, Setting, World, calls_journal, enabled, form_by, may}
use Rattle.fab_node.specs.Standing.{GivenModel, JournalModel}
use Rattle.fab_core.specs.Cores.{setting, unmarked, world_by}
use Rattle.fab_replay.specs.Running.{AreBehind, FailsNext, HasCome, IsBarred}
use Rattle.fab_audit.specs.Steps.{AreSure, ComesAsTold, cut_at_first}
use Rattle.fab_audit.proofs.Sureness.{still_sure}

-- ---- with a mark

is_cut : (event : Event) (inner : Inner) → cut_at_first event ≡ Some inner → event ≡ ne.CrashIn 0 inner
is_cut (ne.CrashIn keep e) inner h = by (keep == 0) refl h
  where
    by : (b : Bool) → (keep == 0) ≡ b → (if b then Some e else None) ≡ Some inner → ne.CrashIn keep e ≡ ne.CrashIn 0 inner
    by true k h = let same : e ≡ inner = cc in ap (λ n. ne.CrashIn n e) (eqb-true keep 0 k) ∙ ap (ne.CrashIn 0) same
    by false k h = absurd (cc)
is_cut (ne.Begin n) inner h = absurd (cc)
is_cut (ne.Resume n) inner h = absurd (cc)
is_cut (ne.Deliver a b) inner h = absurd (cc)
is_cut (ne.Idle n s) inner h = absurd (cc)
is_cut (ne.Recover n) inner h = absurd (cc)
is_cut (ne.Post x) inner h = absurd (cc)
is_cut (ne.Crash n) inner h = absurd (cc)

told_by : {E : Type 0} (g : GivenModel) (old new : List Move) (inner : Inner) (result : Result Bool E) → IfOk result (FailsNext g inner old new)
    → IfOk result (ComesAsTold g old new (ne.CrashIn 0 inner) true)
told_by g old new inner (Ok true) h = h
told_by g old new inner (Ok false) h = h
told_by g old new inner (Err problem) h = h

pub failed_told : {E : Type 0} (g : GivenModel) (old new : List Move) (event : Event) (inner : Inner) (result : Result Bool E) → cut_at_first event ≡ Some inner
    → IfOk result (FailsNext g inner old new) → IfOk result (ComesAsTold g old new event true)
failed_told g old new event inner result is h = subst (λ (e : Event). IfOk result (ComesAsTold g old new e true)) (sym (is_cut event inner is)) (told_by g old new inner result h)

-- no other may have one
never_may : (S : Setting) (w : World) (event : Event) → cut_at_first event ≡ None → enabled S w (form_by true event) ≡ false
never_may S w (ne.CrashIn keep e) h = by (keep == 0) refl h (may S w e) (calls_journal S w e)
  where
    none : (m c : Bool) → (m && c && false) ≡ false
    none true true = refl
    none true false = refl
    none false c = refl

    by : (b : Bool) → (keep == 0) ≡ b → (if b then Some e else None) ≡ None → (m c : Bool) → (m && c && (keep == 0)) ≡ false
    by true k h m c = absurd (cc)
    by false k h m c = ap (λ b. m && c && b) k ∙ none m c
never_may S w (ne.Begin n) h = refl
never_may S w (ne.Resume n) h = refl
never_may S w (ne.Deliver a b) h = refl
never_may S w (ne.Idle n s) h = refl
never_may S w (ne.Recover n) h = refl
never_may S w (ne.Post x) h = refl
never_may S w (ne.Crash n) h = refl

pub never_told : (g : GivenModel) (moves : List Move) (event : Event) → cut_at_first event ≡ None → ComesAsTold g moves moves event true false
never_told g moves event h = (never_may (setting g) (world_by g moves) event h, refl)

-- ---- without one

pub whole_told : (g : GivenModel) (old new : List Move) (event : Event) → HasCome g event (unmarked event) old new → ComesAsTold g old new event false true
whole_told g old new event h = (h.may.may, h.moves)

pub barred_told : (g : GivenModel) (old new : List Move) (event : Event) → IsBarred g event old new → ComesAsTold g old new event false false
barred_told g old new event h = (h.barred, h.moves)

-- ---- journals

pub stays_sure : (old new : List (Option JournalModel)) → AreBehind (λ n. false) old new → AreSure old → AreSure new
stays_sure old new h sure = still_sure (λ n. false) old new h sure
