-- A run of which the whole text is told is over, and no move of it has a mark.
use Rattle.std.proofs.Common.{◌≡◌, ℕ, Bool, true, false, if◌then◌else◌, List, [], ◌∷◌, find, Option, Some, None, option_map, refl}
use Rattle.fab_command.specs.declared.command.Command.TheVariants.{Run}
use Rattle.fab_command.specs.declared.command.Telling.{Telling}
use Rattle.fab_world.specs.Machine.{Move}
use Rattle.fab_replay.specs.Replays.{first_mark}
use Rattle.fab_reply.specs.Headline.{Headline, IsWholeFor}
use Rattle.fab_ended.specs.Bundles.{IsOverRun}
use Rattle.fab_ended.specs.Ended.{AreUnmarked}
use Rattle.fab_ended.proofs.Reports.{reports_are_answered, reports_are_final, requests_are_final, runs_are_calm}
use Rattle.fab_alone.proofs.Bundles.{runs_are_evaluated}
use Rattle.fab_net.specs.Events.{node_at}
use Rattle.fab_complete.specs.Complete.{IsComplete}

-- where no move is the first with a mark, none has one
unmarked : (moves : List Move) → first_mark moves ≡ None → AreUnmarked moves
unmarked [] none = tt
unmarked (m ∷ moves) none = by (λ rest. unmarked moves rest) m.marked refl none
  where
    first : Bool → Option ℕ
    first b = option_map (λ (move : Move). node_at move.event) (if b then Some m else find (λ (move : Move). move.marked) moves)

    by : (first_mark moves ≡ None → AreUnmarked moves) → (b : Bool) → m.marked ≡ b → first b ≡ None → AreUnmarked (m ∷ moves)
    by later true is some = let no : Some (node_at m.event) ≡ None = some in absurd (cc)
    by later false is rest = (is, later rest)

module _ (x : Telling) (left left' written written' : Option (List ℕ)) (h : Headline (Some (Run x)) (IsWholeFor (Some (Run x))) left left' written written') where
  quiet : AreUnmarked h.moves
  quiet = unmarked h.moves h.events.1

  over : IsOverRun h.start h.rights h.moves
  over = (h.run, h.events.0.over)

  pub is_complete : IsComplete h.start h.rights h.moves
  is_complete = record {
    final = λ n. requests_are_final h.start h.rights h.accepted h.moves n over quiet;
    told = reports_are_final h.start h.rights h.accepted h.moves over quiet;
    answered = λ none calm. reports_are_answered h.start h.rights h.accepted none h.moves h.run (runs_are_calm h.start h.rights h.accepted h.moves calm h.events.0.lined quiet);
    evaluated = λ n alone none calm has. runs_are_evaluated h.start h.rights n h.accepted h.moves alone none calm has h.run h.events.0.lined quiet h.events.0.over;
  }
