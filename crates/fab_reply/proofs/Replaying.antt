-- What a run comes to, as a reply to a text, and that the headline holds of its report.
use Rattle.std.proofs.Common.{◌≡◌, ◌≢◌, ◌⊎◌, inl, inr, ℕ, IsTrue, List, [], Option, Some, None, Result, Ok as Fine, Err, OnErr, refl, sym, ◌∙◌, subst, append-nil, arith}
use Rattle.std.specs.Io.KnownBytes.{Appends, Keeps}
use Rattle.fab_command.specs.declared.command.Command.{Command}
use Rattle.fab_command.specs.declared.command.Telling.{Telling}
use Rattle.fab_command.specs.declared.command.Command.TheVariants.{Replay, Run, Trust, View}
use Rattle.fab_tree.specs.declared.start.Start.{Start}
use Rattle.fab_language.specs.Numbers.{resolved}
use Rattle.fab_language.specs.Words.{node_text}
use Rattle.fab_device.specs.Kept.{CannotFail, Makers}
use Rattle.fab_rights.specs.declared.rights.Rights.{Rights}
use Rattle.fab_settings.specs.Settings.{IsAcceptedWith}
use Rattle.fab_replay.specs.declared.replayed.Replayed.{Replayed}
use Rattle.fab_replay.specs.declared.replayed.Replayed.TheVariants as replays
use Rattle.fab_replay.specs.declared.replayed.Told.{Told}
use Rattle.fab_replay.specs.declared.replayed.Wanted.{Wanted}
use Rattle.fab_replay.specs.declared.replayed.Wanted.TheVariants.{Report, Run as ByNodes, Trust as Trusted, View as Viewed}
use Rattle.fab_replay.specs.Kept.{IsCutShort, IsOfRun, IsPossible, IsReplayed}
use Rattle.fab_front.specs.declared.texts.Outcome.TheVariants as outcome
use Rattle.fab_front.specs.declared.status.Status.{Status}
use Rattle.fab_front.specs.declared.status.Status.TheVariants.{Ok, JournalFault}
use Rattle.fab_front.specs.Front.{Front, IsFront}
use Rattle.fab_world.specs.Machine.{Move}
use Rattle.fab_node.specs.Standing.{GivenModel}
use Rattle.fab_replay.specs.Replays.{HasCounts, IsFaulty, is_scheduled, text_of as text_by}
use Rattle.fab_reply.specs.Headline.{Headline, IsPartFor, IsWholeFor}
use Rattle.fab_front.specs.Reading.{ReadsText}
use Rattle.fab_reply.specs.Replays.{IsToldOf, Wants, given_of}
use Rattle.fab_reply.specs.Reply.{Answers, one_reply, interrupted, ran, in_run, without_text, sound, faulty, AreCut, cut_short, untouched, AreLeft, IsCut, cut, unmade, IsInput, read, IsJournalFault, IsNotEnabled, IsReplay, status_of, text_of}
use Rattle.fab_replay.proofs.Ends.{stopped_short}
use Rattle.fab_reply.proofs.Replying.{barred_reply, replay_reply}
use Rattle.fab_reply.proofs.Wishes.{part_for, whole_for, wished}

-- where nothing was told, that has a cause
pub unless_told : {A E P Q R : Type 0} (o : Result A E) → (P → R → Q) → OnErr o P → R → OnErr o Q
unless_told (Fine r) f h k = tt
unless_told (Err e) f h k = f h k

module _ {text : List ℕ} {start : Start} (f : IsFront text (outcome.Bundle start)) (rights : Rights) (accepted : IsAcceptedWith start rights) where
  -- a run of the schedule answers the text
  replay_answered : (command : Command) (wanted : Wanted) → Wants start command wanted → IsTrue (is_scheduled wanted) → (answer : Replayed) (old new : Makers)
      → IsReplayed (given_of start rights) wanted answer old new → Answers (Some command) text (status_of answer) (text_of answer)
  replay_answered command wanted wants s (replays.Done reply) old new (h, made, e) =
      one_reply (replay_reply f rights accepted command wanted wants reply (record { moves = h.moves; run = h.run; told = h.told; scheduled = s }))
  replay_answered command wanted wants s (replays.NotEnabled event) old new (h, made, e) =
      one_reply (barred_reply f rights accepted command wanted wants event (record { moves = h.moves; run = h.run; told = h.told; scheduled = s }))
  replay_answered command wanted wants s (replays.JournalFault node (Some reply)) old new (h, made, e) =
      interrupted (in_run wants f.is accepted (record { moves = h.moves; run = h.run; told = h.told; scheduled = s }))
  replay_answered command wanted wants s (replays.JournalFault node None) old new h = interrupted (without_text wanted wants f.is accepted h.0)

  -- so does one that the nodes make by themselves
  run_answered : (x : Telling) (y : Told) → IsToldOf start x y → (answer : Replayed) (old new : Makers) → IsReplayed (given_of start rights) (ByNodes y) answer old new
      → Answers (Some (Run x)) text (status_of answer) (text_of answer)
  run_answered x y asked (replays.Done reply) old new (h, made, e) = ran (sound f accepted (record { wanted = y; asked = asked; moves = h.moves; run = h.run; told = h.told }))
  run_answered x y asked (replays.NotEnabled event) old new (h, made, e) = absurd h.told
  run_answered x y asked (replays.JournalFault node (Some reply)) old new (h, made, e) =
      ran (faulty f accepted (record { wanted = y; asked = asked; moves = h.moves; run = h.run; told = h.told }))
  run_answered x y asked (replays.JournalFault node None) old new h = interrupted (without_text (ByNodes y) asked f.is accepted h.0)

  pub answered : (command : Command) (wanted : Wanted) → Wants start command wanted → (answer : Replayed) (old new : Makers)
      → IsReplayed (given_of start rights) wanted answer old new → Answers (Some command) text (status_of answer) (text_of answer)
  answered command wanted wants =
      wished
      (λ c u. (answer : Replayed) (old new : Makers) → IsReplayed (given_of start rights) u answer old new
      → Answers (Some c) text (status_of answer) (text_of answer))
      (replay_answered Replay Report tt refl) run_answered (λ names nodes seen part named. replay_answered (View names) (Viewed nodes seen part) named refl)
      (λ names nodes part trusted. replay_answered (Trust names) (Trusted nodes part) trusted refl) command wanted wants

module _ {text : List ℕ} {start : Start} (f : IsFront text (outcome.Bundle start)) (rights : Rights) (accepted : IsAcceptedWith start rights)
    (command : Command) (wanted : Wanted) (wants : Wants start command wanted) where
  -- and the journals are as it left them
  is_replay : (answer : Replayed) (old new : Makers) → IsReplayed (given_of start rights) wanted answer old new
      → IsPossible old.may_fail (resolved start) answer → IsReplay command text old new (status_of answer) (text_of answer)
  is_replay answer old new h p = record {
    start = start;
    rights = rights;
    wanted = wanted;
    answer = answer;
    asked = wants;
    front = f.is;
    accepted = accepted;
    is = h;
    possible = p;
    status_is = refl;
    reply_is = refl;
  }

  pub left_behind : (answer : Replayed) (old new : Makers) → IsReplayed (given_of start rights) wanted answer old new
      → IsPossible old.may_fail (resolved start) answer → AreLeft command text old new (status_of answer) (text_of answer)
  left_behind (replays.Done reply) old new h p = is_replay (replays.Done reply) old new h p
  left_behind (replays.NotEnabled event) old new h p = is_replay (replays.NotEnabled event) old new h p
  left_behind (replays.JournalFault node report) old new h p = is_replay (replays.JournalFault node report) old new h p

  -- where memory ran out in it, or behind it
  pub cut_replay : (old new : Makers) → IsCutShort (given_of start rights) wanted old new → new.may_fail ≡ old.may_fail
      → IsCut command text old new
  cut_replay old new h same = cut (record {
    start = start;
    rights = rights;
    wanted = wanted;
    asked = wants;
    front = f.is;
    accepted = accepted;
    is = h;
    same = same;
  })

  pub cut_answer : (answer : Replayed) (old new : Makers) → IsReplayed (given_of start rights) wanted answer old new
      → IsNotEnabled answer → new.may_fail ≡ old.may_fail → IsCut command text old new
  cut_answer (replays.NotEnabled event) old new (h, made, e) is same =
      cut_replay old new (inr (stopped_short (given_of start rights) wanted event old new h, made, e)) same
  cut_answer (replays.Done reply) old new h is same = absurd is
  cut_answer (replays.JournalFault node report) old new h is same = absurd is

-- ---- the headline

nothing_more : (w w' : Option (List ℕ)) → Appends w w' [] → Keeps w w'
nothing_more None w' h = tt
nothing_more (Some xs) None h = absurd h
nothing_more (Some xs) (Some ys) h = h ∙ append-nil xs

pub text_read : {l l' : Option (List ℕ)} {c : Command} {text : List ℕ} → IsInput (Some c) l l' text → ReadsText l l' text
text_read (read t) = t

module _ (l l' w w' : Option (List ℕ)) (old new : Makers) (command : Command) where
  headlined : (P : GivenModel → List Move → Type 0) (start : Start) (rights : Rights) (wanted : Wanted) (answer : Replayed) (text reply report : List ℕ)
      (h : IsOfRun (given_of start rights) wanted answer old new) → Wants start command wanted
      → ReadsText l l' text → Front text (outcome.Bundle start) → IsAcceptedWith start rights → P (given_of start rights) h.moves
      → (report ≡ text_by (given_of start rights) wanted h.moves) × HasCounts (given_of start rights) wanted h.moves → reply ≡ report → Appends w w' reply
      → Headline (Some command) P l l' w w'
  headlined P start rights wanted answer text reply report h wants input front accepted events of is all = record {
    text = text;
    start = start;
    rights = rights;
    asked = command;
    wanted = wanted;
    moves = h.moves;
    read = input;
    spelled = front;
    accepted = accepted;
    command_is = refl;
    wants = wants;
    run = h.run;
    events = events;
    reported = subst (Appends w w') (is ∙ of.0) all;
    counted = of.1;
    integral = h.integral;
    isolated = h.isolated;
    trusted = h.trusted;
  }

  done_headlined : (start : Start) (rights : Rights) (wanted : Wanted) (answer : Replayed) (text reply : List ℕ) → Wants start command wanted → ReadsText l l' text
      → Front text (outcome.Bundle start) → IsAcceptedWith start rights
      → IsReplayed (given_of start rights) wanted answer old new → Ok ≡ status_of answer
      → reply ≡ text_of answer → Appends w w' reply → Headline (Some command) (IsWholeFor (Some command)) l l' w w'
  done_headlined start rights wanted (replays.Done report) text reply wants input front accepted (h, made, n) e is all =
      headlined (IsWholeFor (Some command)) start rights wanted (replays.Done report) text reply report h wants input front accepted
      (whole_for start (given_of start rights) h.moves command wanted wants h.told.0) (h.told.1, h.told.2) is all
  done_headlined start rights wanted (replays.NotEnabled event) text reply wants input front accepted h e is all = absurd (cc)
  done_headlined start rights wanted (replays.JournalFault node report) text reply wants input front accepted h e is all = absurd (cc)

  -- the text and the journals of a run that ended
  pub done_headline : (text reply : List ℕ) → IsInput (Some command) l l' text → IsReplay command text old new Ok reply → Appends w w' reply
      → Headline (Some command) (IsWholeFor (Some command)) l l' w w'
  done_headline text reply input x all =
      done_headlined x.start x.rights x.wanted x.answer text reply x.asked (text_read input) x.front x.accepted x.is x.status_is x.reply_is all

  fault_headlined : (start : Start) (rights : Rights) (wanted : Wanted) (answer : Replayed) (node : ℕ) (text reply : List ℕ) → Wants start command wanted
      → ReadsText l l' text → Front text (outcome.Bundle start) → IsAcceptedWith start rights
      → IsReplayed (given_of start rights) wanted answer old new → JournalFault node ≡ status_of answer
      → reply ≡ text_of answer → Appends w w' reply → Keeps w w' ⊎ Headline (Some command) (IsPartFor (Some command) node) l l' w w'
  fault_headlined start rights wanted (replays.Done report) node text reply wants input front accepted h e is all = absurd (cc)
  fault_headlined start rights wanted (replays.NotEnabled event) node text reply wants input front accepted h e is all = absurd (cc)
  fault_headlined start rights wanted (replays.JournalFault n (Some report)) node text reply wants input front accepted (h, made, k) e is all =
      let same : n ≡ node = cc in
      inr (headlined (IsPartFor (Some command) node) start rights wanted (replays.JournalFault n (Some report)) text reply report h wants input front accepted
      (part_for start (given_of start rights) h.moves node command wanted wants (subst (λ m. IsFaulty (given_of start rights) wanted h.moves m) same h.told.0)) (h.told.1, h.told.2) is all)
  fault_headlined start rights wanted (replays.JournalFault n None) node text reply wants input front accepted h e is all =
      inl (nothing_more w w' (subst (Appends w w') is all))

  -- where it is told that no journal may fail, there is no fault
  nobody_fails : (told : Option (List (List ℕ))) (name : List ℕ) → told ≡ Some [] → CannotFail told name
  nobody_fails told name e =
      let there : CannotFail (Some []) name = λ h. (let l = h.1 in absurd (omega (arith, l))) in
      subst (λ t. CannotFail t name) (sym e) there

  fault_possible : (start : Start) (answer : Replayed) (node : ℕ) → IsPossible old.may_fail (resolved start) answer → JournalFault node ≡ status_of answer
      → old.may_fail ≡ Some [] → ⊥
  fault_possible start (replays.Done report) node p e none = absurd (cc)
  fault_possible start (replays.NotEnabled event) node p e none = absurd (cc)
  fault_possible start (replays.JournalFault n report) node p e none = p (nobody_fails old.may_fail (node_text (resolved start) n) none)

  pub no_fault : (node : ℕ) (text reply : List ℕ) → IsReplay command text old new (JournalFault node) reply → old.may_fail ≡ Some [] → ⊥
  no_fault node text reply x none = fault_possible x.start x.answer node x.possible x.status_is none

  pub fault_headline : (node : ℕ) (text reply : List ℕ) → IsInput (Some command) l l' text → IsReplay command text old new (JournalFault node) reply → Appends w w' reply
      → Keeps w w' ⊎ Headline (Some command) (IsPartFor (Some command) node) l l' w w'
  fault_headline node text reply input x all =
      fault_headlined x.start x.rights x.wanted x.answer node text reply x.asked (text_read input) x.front x.accepted x.is x.status_is x.reply_is all

-- ---- the makers of journals

-- with an answer that has bytes, or no journal's fault, they have failed no more often
unfailed_by : (g : GivenModel) (wanted : Wanted) (answer : Replayed) (old new : Makers) → IsReplayed g wanted answer old new
    → (text_of answer ≢ []) ⊎ (IsJournalFault (status_of answer) → ⊥) → new.faults ≡ old.faults
unfailed_by g wanted (replays.Done report) old new h k = h.2
unfailed_by g wanted (replays.NotEnabled event) old new h k = h.2
unfailed_by g wanted (replays.JournalFault node (Some report)) old new h k = h.2
unfailed_by g wanted (replays.JournalFault node None) old new h (inl k) = absurd (k refl)
unfailed_by g wanted (replays.JournalFault node None) old new h (inr k) = absurd (k tt)

pub replay_unfailed : (command : Command) (text reply : List ℕ) (status : Status) (old new : Makers) → IsReplay command text old new status reply
    → (reply ≢ []) ⊎ (IsJournalFault status → ⊥) → new.faults ≡ old.faults
replay_unfailed command text reply status old new x (inl some) =
    unfailed_by (given_of x.start x.rights) x.wanted x.answer old new x.is (inl (λ e. some (x.reply_is ∙ e)))
replay_unfailed command text reply status old new x (inr none) =
    unfailed_by (given_of x.start x.rights) x.wanted x.answer old new x.is (inr (subst (λ s. IsJournalFault s → ⊥) x.status_is none))

-- where memory ran out, what came of the journals is told of what was read
pub cut_left : {l l' : Option (List ℕ)} {asked : Option Command} {c : Command} {text : List ℕ} {old new : Makers} → asked ≡ Some c → ReadsText l l' text → IsCut c text old new
    → AreCut asked l l' old new
cut_left is input (unmade same) = untouched same
cut_left {l = l} {l' = l'} {c = c} {text = text} is input (cut x) = cut_short is (subst (λ a. IsInput a l l' text) (sym is) (read {command = c} input)) x
