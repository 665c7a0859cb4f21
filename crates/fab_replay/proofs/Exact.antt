-- That no two answers without a fault differ.
use Rattle.std.specs.Prelude.{◌≡◌, ℕ, suc, IsTrue, List, [], ◌∷◌, ◌++◌, length}
use Rattle.std.proofs.Common.{refl, sym, ap, ◌∙◌, subst, true≢false}
use Rattle.std.proofs.lemmas.List.{map-append}
use Rattle.fab_net.specs.declared.event.Event.{Event}
use Rattle.fab_world.specs.Machine.{Move, at_start, are_enabled, enabled, form_of}
use Rattle.fab_world.specs.Serial.{IsRun}
use Rattle.fab_node.specs.Standing.{GivenModel}
use Rattle.fab_core.specs.Cores.{setting, unmarked, world_by}
use Rattle.fab_replay.specs.Replays.{HasNoFault, IsStopped, StopsBefore, Tells, events_of, is_scheduled, moves_of, text_of}
use Rattle.fab_replay.specs.declared.replayed.Replayed.{Replayed}
use Rattle.fab_replay.specs.declared.replayed.Replayed.TheVariants as r
use Rattle.fab_replay.specs.declared.replayed.Wanted.{Wanted}
use Rattle.fab_replay.proofs.Moves.{enabled_parts}
use Rattle.fab_replay.proofs.Answered.{stopped_of, whole_of}

-- an event that may not come behind those before it is in no run that has it there
never_runs : (g : GivenModel) (moves : List Move) (number : ℕ) (h : StopsBefore g moves number) (events more : List Event) → events ≡ h.before ++ h.event ∷ more
    → IsTrue (are_enabled (setting g) (at_start (setting g)) (moves_of events)) → ⊥
never_runs g moves number h events more e run =
    let S = setting g in
    let split : moves_of events ≡ moves_of h.before ++ unmarked h.event ∷ moves_of more = ap moves_of e ∙ map-append unmarked h.before (h.event ∷ more) in
    let p = enabled_parts S (at_start S) (moves_of h.before) (unmarked h.event) (moves_of more) (subst (λ ms. IsTrue (are_enabled S (at_start S) ms)) split run) in
    true≢false (sym p.1 ∙ ap (λ ms. enabled S (world_by g ms) (form_of (unmarked h.event))) (sym h.moves_are) ∙ h.barred)

barred_runs : (g : GivenModel) (moves : List Move) (number : ℕ) → StopsBefore g moves number → IsRun (setting g) (moves_of (events_of g.program)) → ⊥
barred_runs g moves number h run = never_runs g moves number h (events_of g.program) h.more h.events run.enabled

-- of two fronts of a list, each with what comes next, one is as long as the other, or has it in it
data Fronts (xs ys : List Event) (x y : Event) : Type 0 where
  Alike : length xs ≡ length ys → Fronts xs ys x y
  Longer : (rest : List Event) → ys ≡ xs ++ x ∷ rest → Fronts xs ys x y
  Shorter : (rest : List Event) → xs ≡ ys ++ y ∷ rest → Fronts xs ys x y

fronts : (xs ys more others : List Event) (x y : Event) → xs ++ x ∷ more ≡ ys ++ y ∷ others → Fronts xs ys x y
fronts [] [] more others x y e = Alike refl
fronts [] (b ∷ ys) more others x y e = Longer ys (let h : x ≡ b = cc in ap (λ z. z ∷ ys) (sym h))
fronts (a ∷ xs) [] more others x y e = Shorter xs (let h : a ≡ y = cc in ap (λ z. z ∷ xs) h)
fronts (a ∷ xs) (b ∷ ys) more others x y e =
    let h : a ≡ b = cc in
    elim (fronts xs ys more others x y (cc)) [
      | Alike l ↦ Alike (ap suc l)
      | Longer rest p ↦ Longer rest (ap (λ zs. b ∷ zs) p ∙ ap (λ z. z ∷ (xs ++ x ∷ rest)) (sym h))
      | Shorter rest p ↦ Shorter rest (ap (λ zs. a ∷ zs) p ∙ ap (λ z. z ∷ (ys ++ y ∷ rest)) h)
    ]

same_number : (g : GivenModel) (moves others : List Move) (m n : ℕ) (h : StopsBefore g moves m) (k : StopsBefore g others n) → IsRun (setting g) moves → IsRun (setting g) others → m ≡ n
same_number g moves others m n h k run other =
    let S = setting g in
    elim (fronts h.before k.before h.more k.more h.event k.event (sym h.events ∙ k.events)) [
      | Alike l ↦ h.number_is ∙ ap suc l ∙ sym k.number_is
      | Longer rest p ↦ absurd (never_runs g moves m h k.before rest p (subst (λ ms. IsTrue (are_enabled S (at_start S) ms)) k.moves_are other.enabled))
      | Shorter rest p ↦ absurd (never_runs g others n k h.before rest p (subst (λ ms. IsTrue (are_enabled S (at_start S) ms)) h.moves_are run.enabled))
    ]

-- an event that may not come bars the whole schedule
pub barred : (g : GivenModel) (wanted : Wanted) (moves : List Move) (number : ℕ) → IsStopped g wanted moves number → IsRun (setting g) (moves_of (events_of g.program)) → ⊥
barred g wanted moves number h run = barred_runs g moves number (stopped_of g moves wanted number h) run

module _ (g : GivenModel) (wanted : Wanted) (moves others : List Move) where
  pub one_answer : (x y : Replayed) → IsTrue (is_scheduled wanted) → IsRun (setting g) moves → IsRun (setting g) others → Tells g wanted moves x → Tells g wanted others y
      → HasNoFault x → HasNoFault y → x ≡ y
  one_answer (r.Done a) (r.Done b) is run other h k p q =
      ap r.Done (h.1 ∙ ap (text_of g wanted) (whole_of g moves wanted is h.0 ∙ sym (whole_of g others wanted is k.0)) ∙ sym k.1)
  one_answer (r.Done a) (r.NotEnabled n) is run other h k p q =
      absurd (barred g wanted others n k (subst (IsRun (setting g)) (whole_of g moves wanted is h.0) run))
  one_answer (r.NotEnabled m) (r.Done b) is run other h k p q =
      absurd (barred g wanted moves m h (subst (IsRun (setting g)) (whole_of g others wanted is k.0) other))
  one_answer (r.NotEnabled m) (r.NotEnabled n) is run other h k p q =
      ap r.NotEnabled (same_number g moves others m n (stopped_of g moves wanted m h) (stopped_of g others wanted n k) run other)
  one_answer (r.JournalFault node report) y is run other h k p q = absurd p
  one_answer (r.Done a) (r.JournalFault node report) is run other h k p q = absurd q
  one_answer (r.NotEnabled m) (r.JournalFault node report) is run other h k p q = absurd q
