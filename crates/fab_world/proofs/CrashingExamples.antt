-- What crash lines make of runs: a crash, a cut, one line behind the other, what may follow while a crash is due, and when a run
-- isn't over.
use Rattle.std.proofs.Common.{◌≡◌, ℕ, ◌==◌, if◌then◌else◌, Bool, List, [], ◌∷◌, ◌++◌, map, pos, Some, None, refl, true, false, true≢false}
use Rattle.std.specs.List.{filter}
use Rattle.fab_base.specs.declared.object.Tid.{Tid}
use Rattle.fab_base.specs.declared.message.Message.{Message}
use Rattle.fab_base.specs.declared.message.Message.TheVariants.{Boot, Object}
use Rattle.fab_net.specs.declared.event.Event.{Event}
use Rattle.fab_net.specs.declared.event.Event.TheVariants.{Begin, Resume, Deliver, Crash, CrashIn, Recover}
use Rattle.fab_net.specs.declared.event.Inner.TheVariants as i
use Rattle.fab_rights.specs.Computed.{nodes_in}
use Rattle.fab_protocol.specs.Stores.{shelf_of}
use Rattle.fab_protocol.proofs.Toy.{account, holding, attempt}
use Rattle.fab_world.specs.Machine.{Setting, Form, Does, Cuts, Fails, Posts, Crashes, enabled, at_start}
use Rattle.fab_world.specs.Serial.{world_of}
use Rattle.fab_world.specs.Workers.{kept_of}
use Rattle.fab_world.specs.Crashing.{CrashLine, IsOver, must_crash, is_due, may_follow, keeps_lines}
use Rattle.fab_world.proofs.LiveExamples.{forms_of, only_first}
use Rattle.fab_world.proofs.Toy.{setting, no_posts, posts_of, plain, transfers, until_prepare}

abbrev first : Tid
first = attempt 0 1 1

-- worker 0 has one request, a transfer, and no other node has one
abbrev S : Setting
S = only_first (setting 0 1 0 no_posts (Boot 2 ∷ transfers first))

-- nobody has a request
abbrev quiet : Setting
quiet = record S { requests = λ n. 0 }

-- ---- lines

abbrev Lines : Type 0
Lines = ℕ → List CrashLine

abbrev none : Lines
none n = []

-- those of one node
abbrev of_node : ℕ → List CrashLine → Lines
of_node n lines m = if m == n then lines else []

abbrev after : ℕ → CrashLine
after count = record { after = count; keep = None }

abbrev cutting : ℕ → ℕ → CrashLine
cutting count bytes = record { after = count; keep = Some bytes }

module _ (T : Setting) (lines : Lines) (events : List Event) where
  -- behind these events, none of them marked: is the crash of this node due, is this due, and may it follow
  abbrev crash_is_due : ℕ → Bool
  crash_is_due n = must_crash T lines (world_of T (map plain events)) (map plain events) n

  abbrev due : Form → Bool
  due form = is_due T lines (world_of T (map plain events)) (map plain events) form

  abbrev follows : Form → Bool
  follows form = may_follow T lines (world_of T (map plain events)) (map plain events) form

  -- what is due of the whole events, posts and crashes
  abbrev all_due : List Form
  all_due = filter due (forms_of (nodes_in T.rights) ++ map Crashes (nodes_in T.rights))

  abbrev are_kept : Bool
  are_kept = keeps_lines T lines (at_start T) [] (map plain events)

-- ---- a store that has no other event: a crash at once, and then it recovers

abbrev at_once : Lines
at_once = of_node 1 (after 0 ∷ [])

crash_at_start : all_due quiet at_once [] ≡ Crashes 1 ∷ []
unfolding kept_of shelf_of
crash_at_start = refl

recovery_behind : all_due quiet at_once (Crash 1 ∷ []) ≡ Does (i.Recover 1) ∷ []
unfolding kept_of shelf_of
recovery_behind = refl

nothing_behind : all_due quiet at_once (Crash 1 ∷ Recover 1 ∷ []) ≡ []
unfolding kept_of shelf_of
nothing_behind = refl

crash_is_kept : are_kept quiet at_once (Crash 1 ∷ Recover 1 ∷ []) ≡ true
unfolding kept_of shelf_of
crash_is_kept = refl

-- no crash comes without a line, or twice by one
crash_without_line : are_kept quiet none (Crash 1 ∷ []) ≡ false
unfolding kept_of shelf_of
crash_without_line = refl

crash_of_another : are_kept quiet at_once (Crash 0 ∷ []) ≡ false
unfolding kept_of shelf_of
crash_of_another = refl

crash_twice : are_kept quiet at_once (Crash 1 ∷ Recover 1 ∷ Crash 1 ∷ []) ≡ false
unfolding kept_of shelf_of
crash_twice = refl

-- other nodes go on while the crash is due, and this one doesn't
others_go_on : are_kept S at_once (Begin 0 ∷ Resume 0 ∷ Crash 1 ∷ []) ≡ true
unfolding kept_of shelf_of
others_go_on = refl

this_one_waits : are_kept S at_once (Begin 0 ∷ Resume 0 ∷ Deliver 0 1 ∷ []) ≡ false
unfolding kept_of shelf_of
this_one_waits = refl

-- the line of a hostile node is used by nobody
abbrev of_hostile : Lines
of_hostile = of_node 4 (after 0 ∷ [])

none_of_hostile : all_due quiet of_hostile [] ≡ []
unfolding kept_of shelf_of
none_of_hostile = refl

-- ---- a cut: the next event of the store that writes a record, of which the lesser number of bytes stays

abbrev fetching : List Event
fetching = Begin 0 ∷ Resume 0 ∷ []

abbrev prepared : List Event
prepared = until_prepare 0

abbrev five : Lines
five = of_node 1 (cutting 0 5 ∷ [])

abbrev many : Lines
many = of_node 1 (cutting 0 200 ∷ [])

-- where no record is written, nothing is cut
fetch_is_done : due S five fetching (Does (i.Deliver 0 1)) ≡ true
unfolding kept_of shelf_of
fetch_is_done = refl

fetch_is_not_cut : due S five fetching (Cuts 0 (i.Deliver 0 1)) ≡ false
unfolding kept_of shelf_of
fetch_is_not_cut = refl

vote_is_not_done : due S five prepared (Does (i.Deliver 0 1)) ≡ false
unfolding kept_of shelf_of
vote_is_not_done = refl

vote_is_not_done_later : follows S five prepared (Does (i.Deliver 0 1)) ≡ false
unfolding kept_of shelf_of
vote_is_not_done_later = refl

vote_is_cut : due S five prepared (Cuts 5 (i.Deliver 0 1)) ≡ true
unfolding kept_of shelf_of
vote_is_cut = refl

not_to_fewer : due S five prepared (Cuts 4 (i.Deliver 0 1)) ≡ false
unfolding kept_of shelf_of
not_to_fewer = refl

not_to_more : due S five prepared (Cuts 6 (i.Deliver 0 1)) ≡ false
unfolding kept_of shelf_of
not_to_more = refl

-- the record has 81 bytes
whole_is_kept : due S many prepared (Cuts 81 (i.Deliver 0 1)) ≡ true
unfolding kept_of shelf_of
whole_is_kept = refl

no_more_than_there_are : due S many prepared (Cuts 200 (i.Deliver 0 1)) ≡ false
unfolding kept_of shelf_of
no_more_than_there_are = refl

no_cut_without_line : due S none prepared (Cuts 5 (i.Deliver 0 1)) ≡ false
unfolding kept_of shelf_of
no_cut_without_line = refl

cut_is_kept : are_kept S five (prepared ++ CrashIn 5 (i.Deliver 0 1) ∷ Recover 1 ∷ []) ≡ true
unfolding kept_of shelf_of
cut_is_kept = refl

-- the cut stands for no crash that a line without a number of bytes makes, nor the other way round
no_crash_for_a_cut : follows S five prepared (Crashes 1) ≡ false
unfolding kept_of shelf_of
no_crash_for_a_cut = refl

no_cut_for_a_crash : follows S at_once prepared (Cuts 0 (i.Deliver 0 1)) ≡ false
unfolding kept_of shelf_of
no_cut_for_a_crash = refl

-- a recovery is cut by no line, though it writes the boot: the node isn't up
abbrev then_three : Lines
then_three = of_node 0 (after 1 ∷ cutting 1 3 ∷ [])

boot_is_not_cut : all_due S then_three (Begin 0 ∷ Crash 0 ∷ []) ≡ Does (i.Recover 0) ∷ []
unfolding kept_of shelf_of
boot_is_not_cut = refl

-- ---- one line behind the other: the second waits until the store has had three events, and no recovery counts

abbrev two_lines : Lines
two_lines = of_node 1 (after 0 ∷ after 3 ∷ [])

abbrev two_events : List Event
two_events = Crash 1 ∷ Recover 1 ∷ Begin 0 ∷ Resume 0 ∷ Deliver 0 1 ∷ Deliver 1 0 ∷ Resume 0 ∷ Deliver 0 1 ∷ Deliver 1 0 ∷ Resume 0 ∷ []

second_waits : crash_is_due S two_lines two_events 1 ≡ false
unfolding kept_of shelf_of
second_waits = refl

second_is_due : crash_is_due S two_lines (two_events ++ Deliver 0 1 ∷ []) 1 ≡ true
unfolding kept_of shelf_of
second_is_due = refl

both_are_kept : are_kept S two_lines (two_events ++ Deliver 0 1 ∷ Crash 1 ∷ Recover 1 ∷ []) ≡ true
unfolding kept_of shelf_of
both_are_kept = refl

no_third : crash_is_due S two_lines (two_events ++ Deliver 0 1 ∷ Crash 1 ∷ Recover 1 ∷ []) 1 ≡ false
unfolding kept_of shelf_of
no_third = refl

-- the second line waits for the first one's crash, though its own count is less
abbrev first_the_greater : Lines
first_the_greater = of_node 1 (after 2 ∷ cutting 0 5 ∷ [])

greater_comes_first : due S first_the_greater fetching (Does (i.Deliver 0 1)) ≡ true
unfolding kept_of shelf_of
greater_comes_first = refl

not_cut_before : due S first_the_greater prepared (Cuts 5 (i.Deliver 0 1)) ≡ false
unfolding kept_of shelf_of
not_cut_before = refl

crash_before : due S first_the_greater prepared (Crashes 1) ≡ true
unfolding kept_of shelf_of
crash_before = refl

-- a cut counts as the crash of its line, and as an event
abbrev cut_then_crash : Lines
cut_then_crash = of_node 1 (cutting 0 5 ∷ after 3 ∷ [])

cut_counts : crash_is_due S cut_then_crash (prepared ++ CrashIn 5 (i.Deliver 0 1) ∷ Recover 1 ∷ []) 1 ≡ true
unfolding kept_of shelf_of
cut_counts = refl

-- ---- while its crash is due, a node has no other event; an evaluation that was under way is taken all the same

abbrev behind_begin : Lines
behind_begin = of_node 0 (after 1 ∷ [])

crash_alone : all_due S behind_begin (Begin 0 ∷ []) ≡ Crashes 0 ∷ []
unfolding kept_of shelf_of
crash_alone = refl

resume_may_follow : follows S behind_begin (Begin 0 ∷ []) (Does (i.Resume 0)) ≡ true
unfolding kept_of shelf_of
resume_may_follow = refl

then_the_crash : are_kept S behind_begin (Begin 0 ∷ Resume 0 ∷ Crash 0 ∷ Recover 0 ∷ []) ≡ true
unfolding kept_of shelf_of
then_the_crash = refl

-- an object that waits isn't taken
abbrev behind_resume : Lines
behind_resume = of_node 0 (after 2 ∷ [])

object_waits : enabled S (world_of S (map plain (fetching ++ Deliver 0 1 ∷ []))) (Does (i.Deliver 1 0)) ≡ true
unfolding kept_of shelf_of
object_waits = refl

object_may_not_follow : follows S behind_resume (fetching ++ Deliver 0 1 ∷ []) (Does (i.Deliver 1 0)) ≡ false
unfolding kept_of shelf_of
object_may_not_follow = refl

crash_may_follow : follows S behind_resume (fetching ++ Deliver 0 1 ∷ []) (Crashes 0) ≡ true
unfolding kept_of shelf_of
crash_may_follow = refl

-- nor may its journal fail at such an event
fails_without_line : follows S none prepared (Fails 0 (i.Deliver 0 1)) ≡ true
unfolding kept_of shelf_of
fails_without_line = refl

fails_at_a_cut : follows S five prepared (Fails 0 (i.Deliver 0 1)) ≡ true
unfolding kept_of shelf_of
fails_at_a_cut = refl

fails_no_more : follows S at_once prepared (Fails 0 (i.Deliver 0 1)) ≡ false
unfolding kept_of shelf_of
fails_no_more = refl

-- it is never due
fails_is_not_due : due S none prepared (Fails 0 (i.Deliver 0 1)) ≡ false
unfolding kept_of shelf_of
fails_is_not_due = refl

-- a post is an event of the node that it goes to
abbrev unasked : Message
unasked = Object first (account 0) 1 (holding (pos 3))

abbrev P : Setting
P = only_first (setting 0 1 0 (posts_of 4 0 (unasked ∷ [])) (unasked ∷ transfers first))

post_is_due : due P none (Begin 0 ∷ []) (Posts 4) ≡ true
unfolding kept_of shelf_of
post_is_due = refl

post_waits : due P behind_begin (Begin 0 ∷ []) (Posts 4) ≡ false
unfolding kept_of shelf_of
post_waits = refl

post_to_one_that_is_down : due P behind_begin (Begin 0 ∷ Crash 0 ∷ []) (Posts 4) ≡ true
unfolding kept_of shelf_of
post_to_one_that_is_down = refl

-- ---- runs that aren't over: a request is left, or a crash

request_left : IsOver S none [] → ⊥
unfolding kept_of shelf_of
request_left over = true≢false (over (Does (i.Begin 0)))

crash_left : IsOver quiet at_once [] → ⊥
unfolding kept_of shelf_of
crash_left over = true≢false (over (Crashes 1))

cut_left : IsOver S five (map plain prepared) → ⊥
unfolding kept_of shelf_of
cut_left over = true≢false (over (Cuts 5 (i.Deliver 0 1)))
