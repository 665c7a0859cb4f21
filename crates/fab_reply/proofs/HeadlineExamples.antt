-- Examples of which run a text tells of, and of what isn't refused.
use Rattle.std.proofs.Common.{◌≡◌, ℕ, List, [], ◌∷◌, ◌++◌, Option, Some, None, refl, sym, ap, ◌∙◌}
use Rattle.fab_rights.specs.declared.rights.Rights.{Rights}
use Rattle.fab_tree.specs.declared.start.Start.{Start}
use Rattle.fab_net.specs.declared.event.Event.{Event}
use Rattle.fab_net.specs.declared.event.Event.TheVariants as e
use Rattle.fab_world.specs.Machine.{Move}
use Rattle.fab_world.specs.Serial.{IsRun}
use Rattle.fab_settings.specs.Settings.{IsAcceptedWith}
use Rattle.fab_node.specs.Standing.{GivenModel}
use Rattle.fab_core.specs.Cores.{marked, setting, unmarked}
use Rattle.fab_command.specs.declared.command.Command.TheVariants.{Check, Replay, Run}
use Rattle.fab_command.specs.declared.command.Telling.{Telling}
use Rattle.fab_command.specs.declared.command.Telling.TheVariants as telling
use Rattle.fab_language.specs.declared.rule.NameRule.TheVariants.{Unknown}
use Rattle.fab_front.specs.Refused.{HasReadable}
use Rattle.fab_replay.specs.declared.replayed.Told.TheVariants as told
use Rattle.fab_replay.specs.Replays.{IsRunOver, events_of, moves_of, summary_of_run}
use Rattle.fab_replay.specs.declared.replayed.Replayed.TheVariants as replays
use Rattle.fab_front.specs.declared.texts.Outcome.TheVariants as outcome
use Rattle.fab_front.specs.declared.status.Status.TheVariants as status
use Rattle.fab_front.specs.Front.{Front}
use Rattle.fab_reply.specs.Headline.{IsPartFor, IsWholeFor}
use Rattle.fab_reply.specs.Replays.{RunsTo, given_of}
use Rattle.fab_reply.specs.Reply.{IsComplete}

-- a store's journal failed as it heard a worker, and then the worker's
abbrev two_faults : List Move
two_faults = unmarked (e.Begin 0) ∷ marked (e.Deliver 0 1) ∷ marked (e.Resume 0) ∷ []

-- ---- whole runs

no_requests : (g : GivenModel) → events_of g.program ≡ [] → IsWholeFor (Some Replay) g []
no_requests g none = sym (ap moves_of none)

no_event_more : (g : GivenModel) → events_of g.program ≡ [] → IsWholeFor (Some Replay) g two_faults → ⊥
no_event_more g none h = let no : two_faults ≡ [] = h ∙ ap moves_of none in cc

over_at_once : (g : GivenModel) (x : Telling) → IsRunOver g [] → IsWholeFor (Some (Run x)) g []
over_at_once g x over = (over, refl)

-- the schedule's run isn't meant, whatever it is
not_over : (g : GivenModel) (x : Telling) → (IsRunOver g [] → ⊥) → IsWholeFor (Some (Run x)) g [] → ⊥
not_over g x left h = left h.0

not_with_faults : (g : GivenModel) (x : Telling) → IsWholeFor (Some (Run x)) g two_faults → ⊥
not_with_faults g x h = let none : ◌≡◌ {A = Option ℕ} (Some 1) None = h.1 in cc

-- ---- runs with a fault

first_fault : (g : GivenModel) (x : Telling) → IsRunOver g two_faults → IsPartFor (Some (Run x)) 1 g two_faults
first_fault g x over = (over, refl)

not_the_second : (g : GivenModel) (x : Telling) → IsPartFor (Some (Run x)) 0 g two_faults → ⊥
not_the_second g x h = let other : ◌≡◌ {A = Option ℕ} (Some 1) (Some 0) = h.1 in cc

-- a schedule's run ends at its fault
two_in_no_schedule : (g : GivenModel) → events_of g.program ≡ [] → IsPartFor (Some Replay) 1 g two_faults → ⊥
two_in_no_schedule g none h = no_event h.before h.event h.more (sym none ∙ h.events)
  where
    no_event : (before : List Event) (event : Event) (more : List Event) → [] ≡ before ++ event ∷ more → ⊥
    no_event [] event more e = cc
    no_event (x ∷ xs) event more e = cc

-- ---- what is told of a run

its_summary : (s : Start) (rights : Rights) → IsRun (setting (given_of s rights)) [] → IsRunOver (given_of s rights) []
    → RunsTo s rights telling.Summary (replays.Done (summary_of_run (given_of s rights) []))
its_summary s rights run over = record { wanted = told.Summary; asked = tt; moves = []; run = run; told = ((over, refl), refl, tt) }

not_for_its_report : (s : Start) (rights : Rights) (x : Telling) (bytes : List ℕ) → RunsTo s rights x (replays.JournalFault 1 None) → ⊥
not_for_its_report s rights x bytes h = h.told

none_is_barred : (s : Start) (rights : Rights) (x : Telling) → RunsTo s rights x (replays.NotEnabled 1) → ⊥
none_is_barred s rights x h = h.told

-- ---- what isn't refused

done_or_not : (text : List ℕ) (x : Telling) → IsComplete (Some (Run x)) status.Memory text
done_or_not text x s rights y is front accepted asks = tt

not_refused : (text : List ℕ) (s : Start) (rights : Rights) → Front text (outcome.Bundle s) → IsAcceptedWith s rights
    → IsComplete (Some (Run telling.Report)) (status.Syntax 0) text → ⊥
not_refused text s rights front accepted h = h s rights telling.Report refl front accepted tt

-- nor is `watch`, where the root may be read
not_unknown : (text : List ℕ) (s : Start) (rights : Rights) (root : List ℕ) → Front text (outcome.Bundle s) → IsAcceptedWith s rights → HasReadable s root
    → IsComplete (Some (Run (telling.Reads root 3))) (status.Name Unknown 9) text → ⊥
not_unknown text s rights root front accepted has h = h s rights (telling.Reads root 3) refl front accepted has

not_barred : (text : List ℕ) (s : Start) (rights : Rights) → Front text (outcome.Bundle s) → IsAcceptedWith s rights
    → IsComplete (Some (Run telling.Summary)) (status.NotEnabled 1) text → ⊥
not_barred text s rights front accepted h = h s rights telling.Summary refl front accepted tt

-- of other commands it says nothing
of_check : (text : List ℕ) → IsComplete (Some Check) (status.Syntax 0) text
of_check text s rights x is front accepted asks = cc
