-- What became of the journals in some steps of a replay.
use Rattle.std.specs.Prelude.{◌≡◌, ℕ, ◌==◌, Bool, true, false, List, Option, Some, None, Result, Ok, Err, IfOk, OnErr}
use Rattle.std.proofs.Common.{refl, sym, ◌∙◌, subst, inl, inr, true≢false}
use Rattle.std.proofs.lemmas.Bool.{cases_eq, eq-eqb, ne_eqb, false≢true, false_from_ne_true}
use Rattle.fab_base.specs.Faults.{Rose}
use Rattle.fab_net.specs.declared.event.Event.{Event}
use Rattle.fab_node.specs.Standing.{JournalModel}
use Rattle.fab_core.specs.declared.applied.Applied.{Applied}
use Rattle.fab_core.specs.declared.applied.Applied.TheVariants as a
use Rattle.fab_core.specs.Cores.{slot}
use Rattle.fab_net.specs.Events.{node_at}
use Rattle.fab_core.specs.Moved.{IsCaused, IsCut, faults_in}
use Rattle.fab_core.specs.Telling.{JournalsGain, OnlyGainRoom}
use Rattle.fab_replay.specs.Running.{AreBehind, IsBehind, fails_by}
use Rattle.fab_replay.specs.declared.running.Came.{Came}

pub still : (x : Option JournalModel) → IsBehind false x x
still x = record { sure = refl; same = λ h. refl; rose = λ h. absurd (false≢true h); never = λ h. absurd (false≢true h) }

-- first nothing fails, and then this
pub then_behind : (failed : Bool) (old mid new : Option JournalModel) → IsBehind false old mid → IsBehind failed mid new → IsBehind failed old new
then_behind failed old mid new h k =
    let F : faults_in mid ≡ faults_in old = h.same refl in
    record {
      sure = k.sure ∙ h.sure;
      same = λ e. k.same e ∙ F;
      rose = λ e. let P : ℕ → Type 0 = λ n. Rose n (faults_in new) in subst P F (k.rose e);
      never = λ e. sym h.sure ∙ k.never e;
    }

-- more room is no failure
gained : (old new : Option JournalModel) → JournalsGain old new → IsBehind false old new
gained None None h = still None
gained (Some old) (Some new) h = record { sure = h.sure; same = λ e. h.faults; rose = λ e. absurd (false≢true e); never = λ e. absurd (false≢true e) }
gained None (Some new) h = absurd h
gained (Some old) None h = absurd h

pub all_gained : (old new : List (Option JournalModel)) → OnlyGainRoom old new → AreBehind (λ n. false) old new
all_gained old new h n = gained (slot old n) (slot new n) (h n)

at_node : (Cuts : Type 0) (failed : Bool) (n : ℕ) (old new : List (Option JournalModel)) → (failed ≡ true → Cuts) → (failed ≡ false → Cuts → ⊥)
    → IsCaused n Cuts old new → IsBehind failed (slot old n) (slot new n)
at_node Cuts failed n old new yes_cuts no_cuts h = record {
  sure = h.sure;
  same = λ e. h.same (no_cuts e);
  rose = λ e. h.risen (yes_cuts e);
  never = λ e. false_from_ne_true _ (λ s. h.never s (yes_cuts e));
}

elsewhere : (n m : ℕ) (Cuts : Type 0) (old new : List (Option JournalModel)) → (m ≡ n → ⊥) → IsCaused n Cuts old new → IsBehind false (slot old m) (slot new m)
elsewhere n m Cuts old new apart h = subst (IsBehind false (slot old m)) (sym (h.others m apart)) (still (slot old m))

-- an event that came whole
pub whole_behind : (n : ℕ) (old new : List (Option JournalModel)) → IsCaused n ⊥ old new → AreBehind (λ m. false) old new
whole_behind n old new h m = elim (cases_eq m n) [
  | inl p ↦ subst (λ k. IsBehind false (slot old k) (slot new k)) (sym p) (at_node ⊥ false n old new (λ e. absurd (false≢true e)) (λ e c. c) h)
  | inr p ↦ elsewhere n m ⊥ old new p h
]

-- one that was cut
pub cut_behind : (n : ℕ) (old new : List (Option JournalModel)) → IsCaused n (Unit {0}) old new → AreBehind (λ m. n == m) old new
cut_behind n old new h m = elim (cases_eq m n) [
  | inl p ↦
      let here : IsBehind true (slot old n) (slot new n) = at_node (Unit {0}) true n old new (λ e. tt) (λ e c. absurd (true≢false e)) h in
      subst (λ b. IsBehind b (slot old m) (slot new m)) (sym (eq-eqb n m (sym p))) (subst (λ k. IsBehind true (slot old k) (slot new k)) (sym p) here)
  | inr p ↦
      subst (λ b. IsBehind b (slot old m) (slot new m)) (sym (ne_eqb n m (λ e. p (sym e)))) (elsewhere n m (Unit {0}) old new p h)
]

-- ---- an event, behind its test

pub came_whole : (E : Type 0) (event : Event) (old new : List (Option JournalModel)) (applied : Applied) → applied ≡ a.Whole
    → IsCaused (node_at event) (IsCut {E = E} (Ok applied)) old new → AreBehind (λ n. false) old new
came_whole E event old new applied e h = whole_behind (node_at event) old new (subst (λ x. IsCaused (node_at event) (IsCut {E = E} (Ok x)) old new) e h)

pub came_cut : (E : Type 0) (event : Event) (old new : List (Option JournalModel)) (applied : Applied) → applied ≡ a.Cut
    → IsCaused (node_at event) (IsCut {E = E} (Ok applied)) old new → AreBehind (λ n. node_at event == n) old new
came_cut E event old new applied e h = cut_behind (node_at event) old new (subst (λ x. IsCaused (node_at event) (IsCut {E = E} (Ok x)) old new) e h)

-- the journals behind a test, and behind the event
then_all : (failed : ℕ → Bool) (old mid new : List (Option JournalModel)) → OnlyGainRoom old mid → AreBehind failed mid new → AreBehind failed old new
then_all failed old mid new gain h n = then_behind (failed n) (slot old n) (slot mid n) (slot new n) (all_gained old mid gain n) (h n)

pub then_event : {E : Type 0} (event : Event) (result : Result Came E) (old mid new : List (Option JournalModel)) → OnlyGainRoom old mid
    → IfOk result (λ came. AreBehind (fails_by event came) mid new) → IfOk result (λ came. AreBehind (fails_by event came) old new)
then_event event (Ok came) old mid new gain h = then_all (fails_by event came) old mid new gain h
then_event event (Err problem) old mid new gain h = h

-- where nothing came of it
pub none_behind : (js : List (Option JournalModel)) → AreBehind (λ n. false) js js
none_behind js n = still (slot js n)

pub none_cut : {E : Type 0} (event : Event) (problem : E) (old new : List (Option JournalModel)) → IsCaused (node_at event) (IsCut {E = E} (Err problem)) old new
    → AreBehind (λ n. false) old new
none_cut event problem old new h = whole_behind (node_at event) old new h

pub then_none : {E : Type 0} (result : Result Came E) (old mid new : List (Option JournalModel)) → OnlyGainRoom old mid → OnErr result (AreBehind (λ n. false) mid new)
    → OnErr result (AreBehind (λ n. false) old new)
then_none (Ok came) old mid new gain h = tt
then_none (Err problem) old mid new gain h = then_all (λ n. false) old mid new gain h
