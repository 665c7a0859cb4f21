-- Causes of outcomes on runs of a small setting: a commit, a silent store, tries in a row, and a node that failed for good.
use Rattle.std.proofs.Common.{◌≡◌, ℕ, pos, inl, true, List, [], ◌∷◌, ◌++◌, map, None, refl, true≢false, sym}
use Rattle.std.specs.List.{flat_map, range_with_len}
use Rattle.fab_base.specs.declared.object.Tid.{Tid}
use Rattle.fab_base.specs.declared.message.Message.{Message}
use Rattle.fab_base.specs.declared.message.Message.TheVariants.{Fetch, Object, Deny, Boot}
use Rattle.fab_base.specs.declared.message.Why.TheVariants as why
use Rattle.fab_net.specs.declared.event.Event.{Event}
use Rattle.fab_net.specs.declared.event.Event.TheVariants.{Begin, Resume, Deliver, Post, Idle, Crash, CrashIn, Recover}
use Rattle.fab_net.specs.declared.event.Inner.TheVariants as i
use Rattle.fab_net.specs.declared.outcome.Denial.TheVariants.{IllFormed}
use Rattle.fab_net.specs.declared.outcome.ReqOutcome.TheVariants.{Committed, Conflict, Silent, Denied, NodeDown}
use Rattle.fab_protocol.specs.Stores.{shelf_of}
use Rattle.fab_protocol.proofs.Toy.{account, attempt, box, holding}
use Rattle.fab_world.specs.Machine.{Setting, Move, outcome}
use Rattle.fab_world.specs.Serial.{world_of}
use Rattle.fab_world.specs.Workers.{kept_of}
use Rattle.fab_world.proofs.Toy.{setting, no_posts, posts_of, plain, failing, transfers, until_prepare}
use Rattle.fab_outcomes.specs.Causes.{IsGiven, IsCaused, has_failed, lost_tries}

abbrev first : Tid
first = attempt 0 1 1

-- ---- a transfer commits: the store's vote is the event

abbrev S : Setting
S = setting 0 1 0 no_posts (transfers first)

abbrev voted : List Event
voted = until_prepare 0 ++ Deliver 0 1 ∷ []

abbrev transferring : List Move
transferring = map plain (voted ++ Deliver 1 0 ∷ Deliver 0 1 ∷ [])

vote_is_cause : IsGiven S transferring 0 1 (Committed first None)
unfolding kept_of shelf_of
vote_is_cause = record {
  before = map plain voted;
  move = plain (Deliver 1 0);
  more = plain (Deliver 0 1) ∷ [];
  event = i.Deliver 1 0;
  is = refl;
  whole = refl;
  node = refl;
  request = refl;
  gives = record { stores = 1 ∷ []; record_is = refl };
}

-- cut behind its whole record it is the cause as well
abbrev cutting : List Move
cutting = map plain (voted ++ CrashIn 24 (i.Deliver 1 0) ∷ [])

cut_is_cause : IsGiven S cutting 0 1 (Committed first None)
unfolding kept_of shelf_of
cut_is_cause = record {
  before = map plain voted;
  move = plain (CrashIn 24 (i.Deliver 1 0));
  more = [];
  event = i.Deliver 1 0;
  is = refl;
  whole = refl;
  node = refl;
  request = refl;
  gives = record { stores = 1 ∷ []; record_is = refl };
}

-- ---- a store that is hostile and silent

abbrev Q : Setting
Q = setting 3 1 0 no_posts (Boot 2 ∷ [])

abbrev waiting : List Event
waiting = Begin 0 ∷ Resume 0 ∷ []

silence_is_cause : IsCaused Q (map plain (waiting ++ Idle 0 4 ∷ [])) 0 1 (Silent 4)
unfolding kept_of shelf_of
silence_is_cause = record {
  before = map plain waiting;
  move = plain (Idle 0 4);
  more = [];
  event = i.Idle 0 4;
  is = refl;
  whole = refl;
  node = refl;
  request = refl;
  gives = refl;
}

-- ---- tries in a row that miss an object

abbrev tries : ℕ → ℕ → List Message
tries boot n = flat_map (λ k. Fetch (attempt 0 boot k) (account 9) ∷ Deny (attempt 0 boot k) (account 9) why.Missing ∷ []) (range_with_len 1 n)

abbrev N : Setting
N = setting 4 1 0 no_posts (Boot 2 ∷ tries 1 2 ++ tries 2 1)

abbrev trying : List Event
trying = Begin 0 ∷ Resume 0 ∷ Deliver 0 1 ∷ Deliver 1 0 ∷ []

abbrev restarted : List Event
restarted = trying ++ trying ++ Crash 0 ∷ Recover 0 ∷ []

two_are_lost : lost_tries N 0 (map plain (trying ++ trying)) ≡ 2
unfolding kept_of shelf_of
two_are_lost = refl

-- a worker that comes back begins anew
none_is_lost : lost_tries N 0 (map plain restarted) ≡ 0
unfolding kept_of shelf_of
none_is_lost = refl

one_more_is_lost : lost_tries N 0 (map plain (restarted ++ Deliver 0 1 ∷ trying)) ≡ 1
unfolding kept_of shelf_of
one_more_is_lost = refl

-- the eighth in a row ends the request
abbrev N8 : Setting
N8 = setting 4 1 0 no_posts (tries 1 8)

abbrev eighth : List Move
eighth = map plain (flat_map (λ k. trying) (range_with_len 1 7) ++ Begin 0 ∷ Resume 0 ∷ Deliver 0 1 ∷ [])

eight_are_cause : IsCaused N8 (eighth ++ plain (Deliver 1 0) ∷ []) 0 1 Conflict
unfolding kept_of shelf_of
eight_are_cause = record {
  before = eighth;
  move = plain (Deliver 1 0);
  more = [];
  event = i.Deliver 1 0;
  is = refl;
  whole = refl;
  node = refl;
  request = refl;
  gives = (refl, refl);
}

-- ---- a hostile store that answers an ill-formed object

abbrev wrong : Message
wrong = Object first box 1 (holding (pos 3))

abbrev B : Setting
B = setting 3 1 0 (posts_of 4 0 (wrong ∷ [])) (wrong ∷ [])

abbrev misleading : List Event
misleading = waiting ++ Post 4 ∷ []

wrong_is_cause : IsCaused B (map plain (misleading ++ Deliver 4 0 ∷ [])) 0 1 (Denied 4 IllFormed)
unfolding kept_of shelf_of
wrong_is_cause = record {
  before = map plain misleading;
  move = plain (Deliver 4 0);
  more = [];
  event = i.Deliver 4 0;
  is = refl;
  whole = refl;
  node = refl;
  request = refl;
  gives = record {
    tid = first;
    name = box;
    version = 1;
    object = holding (pos 3);
    heard = record { is = refl; store = refl; read = refl };
    current = refl;
    ill = inl refl;
  };
}

-- ---- a node whose journal fails

abbrev failed : List Move
failed = map plain (waiting ++ Crash 0 ∷ []) ++ failing (i.Recover 0) ∷ []

node_has_failed : has_failed 0 failed ≡ true
node_has_failed = refl

it_is_down : outcome Q (world_of Q failed) 0 1 ≡ NodeDown
unfolding kept_of shelf_of
it_is_down = refl

-- no other node is, nor is one that only crashed
other_is_not_down : IsCaused Q failed 3 1 NodeDown → ⊥
other_is_not_down h = true≢false (sym h.0)

crash_alone : IsCaused Q (map plain (waiting ++ Crash 0 ∷ [])) 0 1 NodeDown → ⊥
crash_alone h = true≢false (sym h.0)
