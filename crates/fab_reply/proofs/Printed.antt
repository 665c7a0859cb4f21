-- The report that was written is read back.
use Rattle.std.proofs.Common.{◌≡◌, ℕ, List, Some, refl, subst}
use Rattle.std.specs.Io.KnownBytes.{Appends}
use Rattle.fab_base.specs.declared.token.Token.{Token}
use Rattle.fab_base.specs.Tokens.{Lexes}
use Rattle.fab_tree.specs.declared.start.Start.{Start}
use Rattle.fab_tree.specs.Syntax.{IsText}
use Rattle.fab_language.specs.Numbers.{resolved}
use Rattle.fab_rights.specs.declared.rights.Rights.{Rights}
use Rattle.fab_world.specs.Machine.{Move}
use Rattle.fab_node.specs.Standing.{GivenModel}
use Rattle.fab_command.specs.declared.command.Command.{Command}
use Rattle.fab_command.specs.declared.command.Telling.TheVariants as telling
use Rattle.fab_command.specs.declared.command.Command.TheVariants.{Replay, Run}
use Rattle.fab_replay.specs.Reading.{IsReadingOf}
use Rattle.fab_replay.specs.Replays.{HasCounts, commits_of_run, text_of}
use Rattle.fab_replay.specs.declared.replayed.Told.TheVariants as told
use Rattle.fab_replay.specs.declared.replayed.Wanted.{Wanted}
use Rattle.fab_replay.specs.declared.replayed.Wanted.TheVariants.{Report, Run as ByNodes, Trust as Trusted, View as Viewed}
use Rattle.fab_reads.specs.Reads.{AreCounts}
use Rattle.fab_shown.specs.Shown.{report_of}
use Rattle.fab_shown.proofs.Shown.{read_back}
use Rattle.fab_front.specs.declared.texts.Outcome.TheVariants as outcome
use Rattle.fab_front.specs.Front.{Front, whole}
use Rattle.fab_reply.specs.Headline.{IsOfFault, IsOfSchedule, IsPartFor, IsWholeFor}
use Rattle.fab_reply.specs.Printed.{AreReadBack, AreReadBackOf, AreWatched, IsWatched}
use Rattle.fab_reply.specs.Replays.{Wants, given_of}

-- the tokens of a text that comes to a bundle
record Cut (text : List ℕ) (s : Start) : Type 0 where
  tokens : List Token
  cut : Lexes 0 text tokens
  is : IsText tokens s

cut_of : {text : List ℕ} {s : Start} → Front text (outcome.Bundle s) → Cut text s
cut_of (whole l x k t p) = record { tokens = _; cut = x; is = t }

-- the text that a command wants of every run is its report
abbrev WantsReport : Command → Type 0
WantsReport c =
    (s : Start) (rights : Rights) (moves : List Move) (wanted : Wanted) → Wants s c wanted → text_of (given_of s rights) wanted moves ≡ report_of (resolved s) rights moves

of_replay : WantsReport Replay
of_replay s rights moves Report h = refl
of_replay s rights moves (ByNodes x) h = absurd h
of_replay s rights moves (Viewed nodes seen part) h = absurd h
of_replay s rights moves (Trusted nodes part) h = absurd h

of_run : WantsReport (Run telling.Report)
of_run s rights moves (ByNodes told.Report) h = refl
of_run s rights moves (ByNodes told.Summary) h = absurd h
of_run s rights moves (ByNodes (told.Reads reading counts)) h = absurd h
of_run s rights moves Report h = absurd h
of_run s rights moves (Viewed nodes seen part) h = absurd h
of_run s rights moves (Trusted nodes part) h = absurd h

same_command : (a b : Command) → Some a ≡ Some b → b ≡ a
same_command a b e = cc

are_read_back_of : (c : Command) (P : GivenModel → List Move → Type 0) → WantsReport c → AreReadBackOf c P
are_read_back_of c P wanted_text left left' written written' h =
    let front = cut_of h.spelled in
    let wants = subst (λ x. Wants h.start x h.wanted) (same_command c h.asked h.command_is) h.wants in (
      subst (λ bs. Appends written written' bs) (wanted_text h.start h.rights h.moves h.wanted wants) h.reported,
      read_back h.text front.tokens h.start h.rights h.moves front.cut front.is h.accepted h.run,
    )

-- what was read beside a run
are_watched : (P : List ℕ → ℕ → GivenModel → List Move → Type 0) → AreWatched P
are_watched P root times left left' written written' h =
    by h.wanted (subst (λ x. Wants h.start x h.wanted) (same_command (Run (telling.Reads root times)) h.asked h.command_is) h.wants) h.reported h.counted
  where
    by : (w : Wanted) → Wants h.start (Run (telling.Reads root times)) w → Appends written written' (text_of (given_of h.start h.rights) w h.moves) → HasCounts (given_of h.start h.rights) w h.moves
        → IsWatched root times (P root times) left left' written written' h
    by (ByNodes (told.Reads reading counts)) wants all counted =
        let front = cut_of h.spelled in
        let asked : IsReadingOf (resolved h.start) root times reading = wants in
        record {
          reading = reading;
          asked = asked;
          counts = counts;
          counted = subst (λ n. AreCounts n (commits_of_run (given_of h.start h.rights) h.moves) counts) asked.times_are counted;
          shown = all;
          readable = read_back h.text front.tokens h.start h.rights h.moves front.cut front.is h.accepted h.run;
        }
    by (ByNodes told.Report) wants all counted = absurd wants
    by (ByNodes told.Summary) wants all counted = absurd wants
    by Report wants all counted = absurd wants
    by (Viewed nodes seen part) wants all counted = absurd wants
    by (Trusted nodes part) wants all counted = absurd wants

pub are_read_back : AreReadBack
are_read_back = record {
  whole = are_read_back_of Replay IsOfSchedule of_replay;
  in_part = λ node. are_read_back_of Replay (IsOfFault node) of_replay;
  ran = are_read_back_of (Run telling.Report) (IsWholeFor (Some (Run telling.Report))) of_run;
  ran_on = λ node. are_read_back_of (Run telling.Report) (IsPartFor (Some (Run telling.Report)) node) of_run;
  watched = are_watched (λ root times. IsWholeFor (Some (Run (telling.Reads root times))));
  watched_on = λ node. are_watched (λ root times. IsPartFor (Some (Run (telling.Reads root times))) node);
}
