-- Runs that commit: event by event; across a crash inside the decision; over a cached object; with an object that is made.
use Rattle.std.proofs.Common.{◌≡◌, ℕ, List, [], ◌∷◌, ◌++◌, map, pos, Some, None, refl, true, false, take, ◌==◌}
use Rattle.fab_base.specs.declared.object.Oid.{Oid}
use Rattle.fab_base.specs.declared.object.Object.{Object as Thing}
use Rattle.fab_base.specs.declared.object.Tid.{Tid}
use Rattle.fab_base.specs.declared.object.Value.TheVariants.{Ref}
use Rattle.fab_base.specs.declared.message.Message.TheVariants.{Fetch, Object, Prepare, Vote, Commit as Commits, Boot, Inquire}
use Rattle.fab_base.specs.declared.message.Answer.TheVariants.{Yes}
use Rattle.fab_base.specs.declared.entry.Entry.TheVariants as e
use Rattle.fab_base.specs.JournalSpelling.{journal_bytes, record_bytes, journal_version}
use Rattle.fab_net.specs.declared.event.Event.TheVariants.{Begin, Resume, Deliver, Crash, CrashIn, Recover}
use Rattle.fab_net.specs.declared.event.Inner.TheVariants as i
use Rattle.fab_net.specs.declared.outcome.ReqOutcome.TheVariants.{Committed, Unfinished}
use Rattle.fab_net.specs.declared.note.Commit.{Commit}
use Rattle.fab_net.specs.declared.note.Note.TheVariants as note
use Rattle.fab_protocol.specs.Stores.{shelf_of}
use Rattle.fab_world.specs.Workers.{kept_of, fresh, Evaluating}
use Rattle.fab_world.specs.Machine.{Setting, Move, Does, Cuts, enabled, at_start, held_at, outcome, content, shelf, logs, logged}
use Rattle.fab_base.specs.MessageSpelling.{spelled}
use Rattle.fab_world.specs.Serial.{held_map, serial_replay, commits_in, world_of}
use Rattle.fab_protocol.proofs.Toy.{account, holding, accounts, attempt, made}
use Rattle.fab_world.proofs.Toy.{is_hostile, setting, no_posts}
use Rattle.fab_world.proofs.Toy.{plain, is_run, is_account, fetches, both_written, commits, transfers, until_prepare, until_applied}

-- the first attempt, and the first of the second boot
abbrev first : Tid
first = attempt 0 1 1

abbrev second : Tid
second = attempt 0 1 2

-- ---- a transfer

abbrev S : Setting
S = setting 0 1 0 no_posts (Boot 2 ∷ Inquire first ∷ transfers first)

abbrev transferring : List Move
transferring = map plain (until_applied 0)

abbrev voted : List Move
voted = map plain (until_prepare 0 ++ Deliver 0 1 ∷ [])

transfer_is_run : is_run S transferring ≡ true
unfolding kept_of shelf_of
transfer_is_run = refl

transfer_commits : outcome S (world_of S transferring) 0 1 ≡ Committed first None
unfolding kept_of shelf_of
transfer_commits = refl

transfer_is_held : held_at S (world_of S transferring) 1 ≡ (account 0, 2, holding (pos 95)) ∷ (account 1, 2, holding (pos 5)) ∷ []
unfolding kept_of shelf_of
transfer_is_held = refl

transfer_held_map : held_map S is_hostile is_account (world_of S transferring) ≡ accounts (pos 95) (pos 5)
unfolding kept_of shelf_of
transfer_held_map = refl

transfer_replay : serial_replay S is_account (commits_in S is_hostile transferring) ≡ accounts (pos 95) (pos 5)
unfolding kept_of shelf_of
transfer_replay = refl

-- a replay takes these objects from the commits before, whatever was answered
abbrev answered_wrongly : Commit
answered_wrongly = record { worker = 0; request = 1; tid = first; answers = (account 0, 1, holding (pos 500)) ∷ (account 1, 1, holding (pos 500)) ∷ [] }

not_from_answers : serial_replay S is_account (answered_wrongly ∷ []) ≡ accounts (pos 95) (pos 5)
not_from_answers = refl

-- the last Resume tells the touch that the one before hadn't
abbrev both_there : List Move
both_there = map plain (Begin 0 ∷ Resume 0 ∷ Deliver 0 1 ∷ Deliver 1 0 ∷ Resume 0 ∷ Deliver 0 1 ∷ Deliver 1 0 ∷ [])

abbrev written : List (Oid × ℕ × Thing)
written = (account 0, 1, holding (pos 95)) ∷ (account 1, 1, holding (pos 5)) ∷ []

last_resume : (logged S (world_of S both_there) (plain (Resume 0))).notes ≡ note.Ended first None ((1, account 1, 1) ∷ []) [] written [] ∷ []
unfolding kept_of shelf_of
last_resume = refl

-- what is delivered, in bytes, and what happens at the decision
transfer_bytes : map (λ l. l.bytes) (logs S (at_start S) transferring)
    ≡ [] ∷ [] ∷ spelled (Fetch first (account 0)) ∷ spelled (Object first (account 0) 1 (holding (pos 100)))
    ∷ [] ∷ spelled (Fetch first (account 1)) ∷ spelled (Object first (account 1) 1 (holding (pos 0)))
    ∷ [] ∷ spelled (both_written first 1 (pos 95) (pos 5)) ∷ spelled (Vote first Yes) ∷ spelled (Commits first) ∷ []
unfolding kept_of shelf_of
transfer_bytes = refl

transfer_decision : (logged S (world_of S voted) (plain (Deliver 1 0))).notes
    ≡ note.Decided first 1 true ((account 0, 1, holding (pos 100)) ∷ (account 1, 1, holding (pos 0)) ∷ []) ∷ note.Closed 1 (Committed first None) ∷ []
unfolding kept_of shelf_of
transfer_decision = refl

no_request_left : enabled S (world_of S transferring) (Does (i.Begin 0)) ≡ false
unfolding kept_of shelf_of
no_request_left = refl

-- where the store itself is distrusted, nothing is held
held_nowhere : held_map S (λ n. n == 1) is_account (world_of S transferring) ≡ []
unfolding kept_of shelf_of
held_nowhere = refl

-- what is decided is held before the store applies it
abbrev deciding : List Move
deciding = voted ++ plain (Deliver 1 0) ∷ []

decided_is_held : held_map S is_hostile is_account (world_of S deciding) ≡ accounts (pos 95) (pos 5)
unfolding kept_of shelf_of
decided_is_held = refl

decided_not_applied : (shelf S (world_of S deciding) 1).rows ≡ (account 0, 1, holding (pos 100)) ∷ (account 1, 1, holding (pos 0)) ∷ []
unfolding kept_of shelf_of
decided_not_applied = refl

-- ---- a commit whose worker crashes with the record whole, and whose store crashes before the Commit comes

abbrev across : List Move
across = voted ++ map plain (CrashIn 24 (i.Deliver 1 0) ∷ Crash 1 ∷ Recover 1 ∷ Recover 0 ∷ Deliver 0 1 ∷ Deliver 0 1 ∷ [])

across_is_run : is_run S across ≡ true
unfolding kept_of shelf_of
across_is_run = refl

across_commits : outcome S (world_of S across) 0 1 ≡ Committed first None
unfolding kept_of shelf_of
across_commits = refl

across_is_held : held_map S is_hostile is_account (world_of S across) ≡ accounts (pos 95) (pos 5)
unfolding kept_of shelf_of
across_is_held = refl

across_replay : serial_replay S is_account (commits_in S is_hostile across) ≡ accounts (pos 95) (pos 5)
unfolding kept_of shelf_of
across_replay = refl

across_journal : content S (world_of S across) 0 ≡ journal_bytes journal_version 0 (e.Decided first 1 None (1 ∷ []) ∷ e.Boot 2 ∷ [])
unfolding kept_of shelf_of
across_journal = refl

-- a crash leaves nothing of the attempt
crash_drops_attempt : ((world_of S (voted ++ plain (Crash 0) ∷ [])).node 0).attempt ≡ fresh
unfolding kept_of shelf_of
crash_drops_attempt = refl

-- ---- one byte less: the record is torn, the decision is none, and the new boot frees the objects

abbrev torn : List Move
torn = voted ++ plain (CrashIn 23 (i.Deliver 1 0)) ∷ []

torn_content : content S (world_of S torn) 0 ≡ journal_bytes journal_version 0 [] ++ take 23 (record_bytes journal_version (e.Decided first 1 None (1 ∷ [])))
unfolding kept_of shelf_of
torn_content = refl

torn_commits_nothing : commits_in S is_hostile torn ≡ []
unfolding kept_of shelf_of
torn_commits_nothing = refl

-- a record can't keep more bytes than it has
no_longer_cut : enabled S (world_of S voted) (Cuts 25 (i.Deliver 1 0)) ≡ false
unfolding kept_of shelf_of
no_longer_cut = refl

-- and an event without a record isn't cut
no_record_to_cut : enabled S (world_of S []) (Cuts 0 (i.Begin 0)) ≡ false
unfolding kept_of shelf_of
no_record_to_cut = refl

abbrev freed : List Move
freed = torn ++ map plain (Recover 0 ∷ Deliver 0 1 ∷ [])

freed_is_run : is_run S freed ≡ true
unfolding kept_of shelf_of
freed_is_run = refl

freed_journal : content S (world_of S freed) 0 ≡ journal_bytes journal_version 0 (e.Boot 2 ∷ [])
unfolding kept_of shelf_of
freed_journal = refl

torn_leaves_open : outcome S (world_of S freed) 0 1 ≡ Unfinished
unfolding kept_of shelf_of
torn_leaves_open = refl

boot_frees : (shelf S (world_of S freed) 1).prepared ≡ []
unfolding kept_of shelf_of
boot_frees = refl

no_longer_prepared : held_map S is_hostile is_account (world_of S freed) ≡ accounts (pos 100) (pos 0)
unfolding kept_of shelf_of
no_longer_prepared = refl

-- ---- a store that comes back asks, and what was decided is committed

abbrev asked : List Move
asked = voted ++ map plain (Crash 1 ∷ Deliver 1 0 ∷ Recover 1 ∷ Deliver 1 0 ∷ Deliver 0 1 ∷ [])

asked_is_run : is_run S asked ≡ true
unfolding kept_of shelf_of
asked_is_run = refl

-- the Commit was sent while the store was down, and lost
abbrev unheard : List Move
unheard = voted ++ map plain (Crash 1 ∷ Deliver 1 0 ∷ [])

lost_commit : (world_of S unheard).queue 0 1 ≡ []
unfolding kept_of shelf_of
lost_commit = refl

sent_commit : (world_of S unheard).sent 0 1
    ≡ map spelled (Fetch first (account 0) ∷ Fetch first (account 1) ∷ both_written first 1 (pos 95) (pos 5) ∷ Commits first ∷ [])
unfolding kept_of shelf_of
sent_commit = refl

-- a crash drops what waits
dropped_prepare : (world_of S (map plain (until_prepare 0 ++ Crash 1 ∷ []))).queue 0 1 ≡ []
unfolding kept_of shelf_of
dropped_prepare = refl

asked_is_applied : (shelf S (world_of S asked) 1).rows ≡ (account 0, 2, holding (pos 95)) ∷ (account 1, 2, holding (pos 5)) ∷ []
unfolding kept_of shelf_of
asked_is_applied = refl

asked_frees : (shelf S (world_of S asked) 1).prepared ≡ []
unfolding kept_of shelf_of
asked_frees = refl

-- ---- there and back, over a cache of one object, which is the account that was touched last

abbrev C : Setting
C = setting 0 2 1 no_posts (transfers first ++ fetches second (account 0) 2 (pos 95) ++ both_written second 2 (pos 100) (pos 0) ∷ commits second)

-- the first Resume of the second attempt finds account 1, and the attempt goes on evaluating
abbrev found : List Move
found = map plain (until_applied 0 ++ Begin 0 ∷ Resume 0 ∷ [])

abbrev back : List Move
back = found ++ map plain (Resume 0 ∷ Deliver 0 1 ∷ Deliver 1 0 ∷ Resume 0 ∷ Deliver 0 1 ∷ Deliver 1 0 ∷ Deliver 0 1 ∷ [])

back_is_run : is_run C back ≡ true
unfolding kept_of shelf_of
back_is_run = refl

back_is_held : held_at C (world_of C back) 1 ≡ (account 0, 3, holding (pos 100)) ∷ (account 1, 3, holding (pos 0)) ∷ []
unfolding kept_of shelf_of
back_is_held = refl

back_held_map : held_map C is_hostile is_account (world_of C back) ≡ accounts (pos 100) (pos 0)
unfolding kept_of shelf_of
back_held_map = refl

back_replay : serial_replay C is_account (commits_in C is_hostile back) ≡ accounts (pos 100) (pos 0)
unfolding kept_of shelf_of
back_replay = refl

found_evaluating : ((world_of C found).node 0).attempt.phase ≡ Evaluating
unfolding kept_of shelf_of
found_evaluating = refl

found_answers : ((world_of C found).node 0).attempt.answers ≡ (account 1, 2, holding (pos 5)) ∷ []
unfolding kept_of shelf_of
found_answers = refl

-- ---- an object that is made, committed and held

abbrev M : Setting
M = setting 2 1 0 no_posts (Prepare first (record { reads = []; writes = []; creates = (made first, holding (pos 1)) ∷ [] }) ∷ commits first)

abbrev making : List Move
making = map plain (Begin 0 ∷ Resume 0 ∷ Deliver 0 1 ∷ Deliver 1 0 ∷ Deliver 0 1 ∷ [])

making_is_run : is_run M making ≡ true
unfolding kept_of shelf_of
making_is_run = refl

making_commits : outcome M (world_of M making) 0 1 ≡ Committed first (Some (Ref (made first)))
unfolding kept_of shelf_of
making_commits = refl

made_is_held : held_map M is_hostile is_account (world_of M making) ≡ (made first, holding (pos 1)) ∷ accounts (pos 100) (pos 0)
unfolding kept_of shelf_of
made_is_held = refl

made_replay : serial_replay M is_account (commits_in M is_hostile making) ≡ (made first, holding (pos 1)) ∷ accounts (pos 100) (pos 0)
unfolding kept_of shelf_of
made_replay = refl
