-- An event is told by what is shown of it, where names tell numbers.
use Rattle.std.proofs.Common.{◌≡◌, ℕ, List, [], ◌∷◌, ◌++◌, map, Some, option_map, refl, ap}
use Rattle.fab_tree.specs.declared.resolved.Resolved.{Resolved}
use Rattle.fab_language.specs.Words.{node_text}
use Rattle.fab_net.specs.declared.event.Event.{Event}
use Rattle.fab_net.specs.declared.event.Event.TheVariants as ne
use Rattle.fab_net.specs.declared.event.Inner.{Inner}
use Rattle.fab_net.specs.declared.event.Inner.TheVariants as ni
use Rattle.fab_net.specs.declared.note.Logged.{Logged}
use Rattle.fab_net.specs.Events.{uncut}
use Rattle.fab_trace.specs.Report.{target_behind}
use Rattle.fab_reports.specs.Printed.{event_of, events_of, inner_of}
use Rattle.fab_reports.specs.Showable.{IsEventIn, IsInnerIn, IsLogIn, IsNode}
use Rattle.fab_evidence.specs.Named.{named_event, named_inner, node_named, with_both}

module _ (r : Resolved) (tells : (n : ℕ) → IsNode r n → node_named r (node_text r n) ≡ Some n) where
  both_told : {A : Type 0} (f : ℕ → ℕ → A) (m n : ℕ) → IsNode r m → IsNode r n
      → with_both f (node_named r (node_text r m)) (node_named r (node_text r n)) ≡ Some (f m n)
  both_told f m n h k = λ j. with_both f (tells m h j) (tells n k j)

  inner_told : (event : Inner) (bytes : List ℕ) → IsInnerIn r event → named_inner r (inner_of r event bytes) ≡ Some event
  inner_told (ni.Begin n) bytes h = ap (option_map (λ k. ni.Begin k)) (tells n h)
  inner_told (ni.Resume n) bytes h = ap (option_map (λ k. ni.Resume k)) (tells n h)
  inner_told (ni.Deliver a b) bytes h = both_told (λ m n. ni.Deliver m n) a b h.0 h.1
  inner_told (ni.Idle n x) bytes h = both_told (λ m n. ni.Idle m n) n x h.0 h.1
  inner_told (ni.Recover n) bytes h = ap (option_map (λ k. ni.Recover k)) (tells n h)

  pub event_told : (event : Event) (target : ℕ) (bytes : List ℕ) → IsEventIn r event target → named_event r (event_of r event target bytes) ≡ Some event
  event_told (ne.Begin n) target bytes h = ap (option_map uncut) (inner_told (ni.Begin n) bytes h)
  event_told (ne.Resume n) target bytes h = ap (option_map uncut) (inner_told (ni.Resume n) bytes h)
  event_told (ne.Deliver a b) target bytes h = ap (option_map uncut) (inner_told (ni.Deliver a b) bytes h)
  event_told (ne.Idle n x) target bytes h = ap (option_map uncut) (inner_told (ni.Idle n x) bytes h)
  event_told (ne.Recover n) target bytes h = ap (option_map uncut) (inner_told (ni.Recover n) bytes h)
  event_told (ne.Post n) target bytes h = ap (option_map (λ k. ne.Post k)) (tells n h.0)
  event_told (ne.Crash n) target bytes h = ap (option_map (λ k. ne.Crash k)) (tells n h)
  event_told (ne.CrashIn keep event) target bytes h = ap (option_map (λ inner. ne.CrashIn keep inner)) (inner_told event bytes h.1)

  -- so what is shown of a log tells its events
  pub log_told : (before log : List Logged) → IsLogIn r before log → map (named_event r) (events_of r before log) ≡ map (λ x. Some x.event) log
  log_told before [] h = refl
  log_told before (x ∷ log) h =
      λ j. event_told x.event (target_behind r before x.event) x.bytes h.0.0 j ∷ log_told (before ++ x ∷ []) log h.1 j
