-- What is logged of an event, a cut and a mark; that what is cut sends nothing; and what may never come.
use Rattle.std.proofs.Common.{◌≡◌, ℕ, Bool, List, [], ◌∷◌, ◌++◌, map, pos, None, refl, true, false}
use Rattle.fab_base.specs.declared.object.Tid.{Tid}
use Rattle.fab_base.specs.declared.message.Message.{Message}
use Rattle.fab_base.specs.declared.message.Message.TheVariants.{Fetch, Object, Vote}
use Rattle.fab_base.specs.declared.message.Answer.TheVariants.{Yes}
use Rattle.fab_base.specs.declared.entry.Entry.TheVariants as e
use Rattle.fab_base.specs.MessageSpelling.{spelled}
use Rattle.fab_net.specs.declared.event.Event.{Event}
use Rattle.fab_net.specs.declared.event.Event.TheVariants.{Deliver, Post, Crash, CrashIn}
use Rattle.fab_net.specs.declared.event.Inner.{Inner}
use Rattle.fab_net.specs.declared.event.Inner.TheVariants as i
use Rattle.fab_net.specs.declared.outcome.ReqOutcome.TheVariants.{Committed}
use Rattle.fab_net.specs.declared.note.Note.{Note}
use Rattle.fab_net.specs.declared.note.Note.TheVariants as note
use Rattle.fab_protocol.specs.Stores.{shelf_of}
use Rattle.fab_protocol.proofs.Toy.{account, holding, attempt}
use Rattle.fab_world.specs.Machine.{Setting, Move, Form, Does, Cuts, Crashes, Posts, World, form_of, enabled, logged, at_start, failure}
use Rattle.fab_world.specs.Serial.{world_of}
use Rattle.fab_world.specs.Workers.{kept_of}
use Rattle.fab_world.proofs.Toy.{setting, posts_of, plain, is_run, both_written, transfers, until_prepare}

abbrev first : Tid
first = attempt 0 1 1

-- node 4 has something to send
abbrev unasked : Message
unasked = Object first (account 0) 1 (holding (pos 3))

abbrev S : Setting
S = setting 0 1 0 (posts_of 4 0 (unasked ∷ [])) (transfers first)

abbrev prepared : List Move
prepared = map plain (until_prepare 0)

abbrev voted : List Move
voted = prepared ++ plain (Deliver 0 1) ∷ []

-- ---- the worker's decision: its record has 24 bytes

abbrev decides : Inner
decides = i.Deliver 1 0

abbrev decided : List Note
decided =
    note.Decided first 1 true ((account 0, 1, holding (pos 100)) ∷ (account 1, 1, holding (pos 0)) ∷ [])
    ∷ note.Closed 1 (Committed first None) ∷ []

-- the event done, and cut with this many bytes kept
abbrev done : Move
done = plain (Deliver 1 0)

abbrev cut : ℕ → Move
cut keep = plain (CrashIn keep decides)

log_of_event : logged S (world_of S voted) done
    ≡ record { event = Deliver 1 0; bytes = spelled (Vote first Yes); notes = decided; whole = true; marked = false }
unfolding kept_of shelf_of
log_of_event = refl

log_of_whole_cut : logged S (world_of S voted) (cut 24)
    ≡ record { event = CrashIn 24 decides; bytes = spelled (Vote first Yes); notes = decided; whole = true; marked = false }
unfolding kept_of shelf_of
log_of_whole_cut = refl

log_of_torn_cut : logged S (world_of S voted) (cut 23)
    ≡ record { event = CrashIn 23 decides; bytes = spelled (Vote first Yes); notes = []; whole = false; marked = false }
unfolding kept_of shelf_of
log_of_torn_cut = refl

log_of_mark : logged S (world_of S voted) (failure decides)
    ≡ record { event = CrashIn 0 decides; bytes = spelled (Vote first Yes); notes = []; whole = false; marked = true }
unfolding kept_of shelf_of
log_of_mark = refl

log_of_crash : logged S (world_of S voted) (plain (Crash 0)) ≡ record { event = Crash 0; bytes = []; notes = []; whole = true; marked = false }
unfolding kept_of shelf_of
log_of_crash = refl

log_of_post : logged S (world_of S voted) (plain (Post 4)) ≡ record { event = Post 4; bytes = spelled unasked; notes = []; whole = true; marked = false }
unfolding kept_of shelf_of
log_of_post = refl

-- a store's recovery writes no record, and yet its journal may fail
log_of_lost : logged S (world_of S (voted ++ plain (Crash 1) ∷ [])) (failure (i.Recover 1))
    ≡ record { event = CrashIn 0 (i.Recover 1); bytes = []; notes = []; whole = false; marked = true }
unfolding kept_of shelf_of
log_of_lost = refl

-- ---- the store's vote: its record has 81 bytes

abbrev votes : Inner
votes = i.Deliver 0 1

log_of_vote : logged S (world_of S prepared) (plain (CrashIn 81 votes)) ≡ record {
  event = CrashIn 81 votes;
  bytes = spelled (both_written first 1 (pos 95) (pos 5));
  notes = note.Voted first 0 Yes ∷ [];
  whole = true;
  marked = false;
}
unfolding kept_of shelf_of
log_of_vote = refl

-- ---- what is cut sends nothing, though its record stands

abbrev decision_cut : List Move
decision_cut = voted ++ cut 24 ∷ []

decision_cut_is_run : is_run S decision_cut ≡ true
unfolding kept_of shelf_of
decision_cut_is_run = refl

decision_stands : ((world_of S decision_cut).node 0).entries ≡ e.Decided first 1 None (1 ∷ []) ∷ []
unfolding kept_of shelf_of
decision_stands = refl

no_commit_waits : (world_of S decision_cut).queue 0 1 ≡ []
unfolding kept_of shelf_of
no_commit_waits = refl

no_commit_sent : (world_of S decision_cut).sent 0 1
    ≡ map spelled (Fetch first (account 0) ∷ Fetch first (account 1) ∷ both_written first 1 (pos 95) (pos 5) ∷ [])
unfolding kept_of shelf_of
no_commit_sent = refl

abbrev vote_cut : List Move
vote_cut = prepared ++ plain (CrashIn 81 votes) ∷ []

vote_cut_is_run : is_run S vote_cut ≡ true
unfolding kept_of shelf_of
vote_cut_is_run = refl

no_vote_waits : (world_of S vote_cut).queue 1 0 ≡ []
unfolding kept_of shelf_of
no_vote_waits = refl

no_vote_sent : (world_of S vote_cut).sent 1 0
    ≡ map spelled (Object first (account 0) 1 (holding (pos 100)) ∷ Object first (account 1) 1 (holding (pos 0)) ∷ [])
unfolding kept_of shelf_of
no_vote_sent = refl

-- ---- what may never come

abbrev comes : World → Form → Bool
comes w form = enabled S w form

abbrev marked : Event → Form
marked event = form_of (record { event = event; marked = true })

-- attempts are begun by workers that aren't hostile
begins_honest : comes (at_start S) (Does (i.Begin 0)) ≡ true
unfolding kept_of shelf_of
begins_honest = refl

begins_hostile : comes (at_start S) (Does (i.Begin 2)) ≡ false
unfolding kept_of shelf_of
begins_hostile = refl

begins_store : comes (at_start S) (Does (i.Begin 1)) ≡ false
unfolding kept_of shelf_of
begins_store = refl

begins_nobody : comes (at_start S) (Does (i.Begin 7)) ≡ false
unfolding kept_of shelf_of
begins_nobody = refl

-- crashes are of nodes that aren't hostile, posts of those that are
crashes_honest : comes (at_start S) (Crashes 1) ≡ true
crashes_honest = refl

crashes_hostile_worker : comes (at_start S) (Crashes 2) ≡ false
crashes_hostile_worker = refl

crashes_hostile_store : comes (at_start S) (Crashes 4) ≡ false
crashes_hostile_store = refl

crashes_nobody : comes (at_start S) (Crashes 7) ≡ false
crashes_nobody = refl

posts_hostile : comes (at_start S) (Posts 4) ≡ true
posts_hostile = refl

posts_nothing : comes (at_start S) (Posts 2) ≡ false
posts_nothing = refl

-- a mark keeps no bytes, where a cut may
cuts_one : comes (world_of S voted) (Cuts 1 decides) ≡ true
unfolding kept_of shelf_of
cuts_one = refl

marks_none_kept : comes (world_of S voted) (marked (CrashIn 0 decides)) ≡ true
unfolding kept_of shelf_of
marks_none_kept = refl

marks_one_kept : comes (world_of S voted) (marked (CrashIn 1 decides)) ≡ false
unfolding kept_of shelf_of
marks_one_kept = refl

-- where no record is written, no journal call fails
marks_no_record : comes (at_start S) (marked (CrashIn 0 (i.Begin 0))) ≡ false
unfolding kept_of shelf_of
marks_no_record = refl

-- a mark stands on nothing but a cut
marks_event : comes (world_of S voted) (marked (Deliver 1 0)) ≡ false
marks_event = refl

marks_crash : comes (world_of S voted) (marked (Crash 0)) ≡ false
marks_crash = refl

marks_post : comes (world_of S voted) (marked (Post 4)) ≡ false
marks_post = refl
