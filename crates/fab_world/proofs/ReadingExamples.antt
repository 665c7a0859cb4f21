-- A reading that gives no Commit is none of a setting's, and a run under it holds something else than its replay.
use Rattle.std.proofs.Common.{◌≡◌, Bool, List, [], ◌∷◌, ◌++◌, map, pos, Option, Some, None, refl, sym, ap, ◌∙◌, true, false, true≢false, lit<, lit≤}
use Rattle.fab_base.specs.declared.object.Tid.{Tid}
use Rattle.fab_base.specs.declared.message.Message.{Message}
use Rattle.fab_base.specs.declared.message.Message.TheVariants.{Fetch, Object, Deny, Prepare, Vote, Commit, Abort, Boot, Inquire}
use Rattle.fab_base.specs.MessageSpelling.{IsReadAs, spelled}
use Rattle.fab_net.specs.declared.event.Event.TheVariants.{Deliver, Crash, Recover}
use Rattle.fab_protocol.specs.Stores.{shelf_of}
use Rattle.fab_protocol.proofs.Toy.{accounts, attempt}
use Rattle.fab_world.specs.Machine.{Setting, Move}
use Rattle.fab_world.specs.Serial.{IsSetting, held_map, serial_replay, commits_in, world_of}
use Rattle.fab_world.specs.Workers.{kept_of}
use Rattle.fab_world.proofs.Toy.{setting, no_posts, plain, is_run, is_hostile, is_account, transfers, until_prepare}

abbrev first : Tid
first = attempt 0 1 1

abbrev without_commits : Option Message → Option Message
without_commits (Some (Commit t)) = None
without_commits other = other

abbrev dropping : Setting → Setting
dropping S = record S { read = λ bytes. without_commits (S.read bytes) }

abbrev is_commit : Option Message → Bool
is_commit (Some (Commit t)) = true
is_commit other = false

no_commit : (message : Option Message) → is_commit (without_commits message) ≡ false
no_commit None = refl
no_commit (Some (Fetch t o)) = refl
no_commit (Some (Object t o version x)) = refl
no_commit (Some (Deny t o reason)) = refl
no_commit (Some (Prepare t items)) = refl
no_commit (Some (Vote t answer)) = refl
no_commit (Some (Commit t)) = refl
no_commit (Some (Abort t)) = refl
no_commit (Some (Boot b)) = refl
no_commit (Some (Inquire t)) = refl

commit_is_spelled : IsReadAs (spelled (Commit first)) (Commit first)
commit_is_spelled = record {
  short = lit≤ tt;
  spelled = (1, record { known = refl; body = record { worker = lit< tt; boot = lit< tt; number = lit< tt } }, refl);
}

-- whatever else is read
dropping_is_no_setting : (S : Setting) → IsSetting (dropping S) → ⊥
dropping_is_no_setting S h =
    let read : (dropping S).read (spelled (Commit first)) ≡ Some (Commit first) = (h.read (spelled (Commit first)) (Commit first)).1 commit_is_spelled in
    true≢false (sym (ap is_commit read) ∙ no_commit (S.read (spelled (Commit first))))

-- ---- the worker decides, crashes, and sends its Commit again and its Boot

abbrev S : Setting
S = setting 0 1 0 no_posts (Boot 2 ∷ transfers first)

abbrev twice_sent : List Move
twice_sent = map plain (until_prepare 0 ++ Deliver 0 1 ∷ Deliver 1 0 ∷ Crash 0 ∷ Recover 0 ∷ Deliver 0 1 ∷ Deliver 0 1 ∷ Deliver 0 1 ∷ [])

read_is_run : is_run S twice_sent ≡ true
unfolding kept_of shelf_of
read_is_run = refl

read_is_held : held_map S is_hostile is_account (world_of S twice_sent) ≡ accounts (pos 95) (pos 5)
unfolding kept_of shelf_of
read_is_held = refl

dropped_is_run : is_run (dropping S) twice_sent ≡ true
unfolding kept_of shelf_of
dropped_is_run = refl

-- neither Commit is heard, and the Boot releases what was decided
dropped_is_lost : held_map (dropping S) is_hostile is_account (world_of (dropping S) twice_sent) ≡ accounts (pos 100) (pos 0)
unfolding kept_of shelf_of
dropped_is_lost = refl

dropped_is_replayed : serial_replay (dropping S) is_account (commits_in (dropping S) is_hostile twice_sent) ≡ accounts (pos 95) (pos 5)
unfolding kept_of shelf_of
dropped_is_replayed = refl
