-- How long runs of a small setting can be, beside runs of it; a run that keeps no lines and is longer; and an evaluation that
-- lacks the same object for ever.
use Rattle.std.proofs.Common.{◌≡◌, ℕ, ◌==◌, ◌<◌, if◌then◌else◌, Bool, true, false, List, [], ◌∷◌, length, map, pos, None, Some, refl, arith}
use Rattle.std.specs.Prelude.{nat_le}
use Rattle.fab_base.specs.declared.object.Tid.{Tid}
use Rattle.fab_base.specs.declared.message.Message.TheVariants.{Boot, Object}
use Rattle.fab_language.specs.Heaps.{touched}
use Rattle.fab_net.specs.declared.event.Event.TheVariants.{Begin, Resume, Deliver, Crash, CrashIn, Recover}
use Rattle.fab_net.specs.declared.event.Inner.TheVariants as i
use Rattle.fab_protocol.specs.Stores.{shelf_of}
use Rattle.fab_protocol.proofs.Toy.{account, attempt, box, holding, rights}
use Rattle.fab_world.specs.Machine.{Setting, Move, at_start}
use Rattle.fab_world.specs.Serial.{attempts}
use Rattle.fab_world.specs.Workers.{kept_of}
use Rattle.fab_world.specs.Crashing.{CrashLine, keeps_lines}
use Rattle.fab_world.proofs.Toy.{setting, no_posts, posts_of, plain, is_run, transfers, transfer, until_applied}
use Rattle.fab_finite.specs.Finite.{TouchesWhatWasMissing, of_prepare, of_node, of_start, most, most_moves, most_starts}

abbrev first : Tid
first = attempt 0 1 1

-- one request of worker 0, and none of another node
abbrev only_first : Setting → Setting
only_first T = record T { requests = λ n. if n == 0 then 1 else 0 }

-- five nodes, of which worker 0 has one request, a transfer
abbrev S : Setting
S = only_first (setting 0 1 0 no_posts (Boot 2 ∷ transfers first))

abbrev Lines : Type 0
Lines = ℕ → List CrashLine

abbrev none : Lines
none n = []

-- a crash of the store at once, and a cut of its first record behind that
abbrev two_lines : Lines
two_lines n = if n == 1 then record { after = 0; keep = None } ∷ record { after = 0; keep = Some 5 } ∷ [] else []

abbrev are_kept : Setting → Lines → List Move → Bool
are_kept T lines moves = keeps_lines T lines (at_start T) [] moves

abbrev is_within : ℕ → List Move → Bool
is_within count moves = nat_le (length moves) count

-- ---- the parts

eight_tries : most_starts S none ≡ 8
eight_tries = refl

nine_a_line : most_starts S two_lines ≡ 26
nine_a_line = refl

-- a Prepare and its vote; and four more where the store comes back twice
heard_once : of_prepare 0 ≡ 2
heard_once = refl

heard_again : of_prepare 2 ≡ 6
heard_again = refl

-- without a start a node may crash and fail, and that is all
two_of_a_node : of_node S 8 1 ≡ 2
two_of_a_node = refl

start_of_eight : of_start 8 ≡ 3105
start_of_eight = refl

most_of_one_request : most S none ≡ 124250
most_of_one_request = refl

most_with_lines : most S two_lines ≡ 410720
most_with_lines = refl

-- ---- runs of the one request, as it is, and across the crash and the cut

abbrev transferring : List Move
transferring = map plain (until_applied 0)

transfer_is_kept : are_kept S none transferring ≡ true
unfolding kept_of shelf_of
transfer_is_kept = refl

transfer_is_within : is_within (most S none) transferring ≡ true
transfer_is_within = refl

-- by its one attempt it is within less
one_attempt : most_moves S (attempts transferring) ≡ 15470
one_attempt = refl

abbrev crossing : List Move
crossing =
    map plain
    (Crash 1 ∷ Recover 1 ∷ Begin 0 ∷ Resume 0 ∷ Deliver 0 1 ∷ Deliver 1 0 ∷ Resume 0 ∷ Deliver 0 1 ∷ Deliver 1 0 ∷ Resume 0 ∷ CrashIn 5 (i.Deliver 0 1) ∷ Recover 1 ∷ [])

crossing_is_kept : are_kept S two_lines crossing ≡ true
unfolding kept_of shelf_of
crossing_is_kept = refl

crossing_is_within : is_within (most S two_lines) crossing ≡ true
crossing_is_within = refl

-- ---- a post: it comes, is heard, and may be a Prepare

abbrev P : Setting
P = only_first (setting 0 1 0 (posts_of 4 0 (Object first (account 0) 1 (holding (pos 3)) ∷ [])) (transfers first))

five_with_a_post : of_node P 0 4 ≡ 5
five_with_a_post = refl

others_post_nothing : of_node P 0 2 ≡ 2
others_post_nothing = refl

-- ---- a store alone, without requests: what keeps no lines may be longer

abbrev lone : Setting
lone = record S { rights = record rights { workers = 0; stores = 2 }; requests = λ n. 0 }

abbrev once_more : List Move
once_more = map plain (Crash 1 ∷ Recover 1 ∷ Crash 1 ∷ [])

no_start_without_lines : most_starts lone none ≡ 0
no_start_without_lines = refl

two_at_most : most lone none ≡ 2
two_at_most = refl

crashes_come : is_run lone once_more ≡ true
unfolding kept_of shelf_of
crashes_come = refl

crashes_are_longer : is_within (most lone none) once_more ≡ false
crashes_are_longer = refl

no_line_kept : are_kept lone none once_more ≡ false
unfolding kept_of shelf_of
no_line_kept = refl

-- but not longer than its one recovery gives
recovery_counts : attempts once_more ≡ 1
recovery_counts = refl

within_one_start : is_within (most_moves lone 1) once_more ≡ true
within_one_start = refl

-- ---- what is missing is touched once it is there

touched_none : length (touched (transfer (account 0) (account 1) []).touches) ≡ 0
touched_none = refl

touched_first : length (touched (transfer (account 0) (account 1) ((account 0, holding (pos 100)) ∷ [])).touches) ≡ 1
touched_first = refl

-- an evaluation that lacks the box even where it is there goes on for ever
lacks_for_ever : TouchesWhatWasMissing (setting 3 1 0 no_posts []) → ⊥
lacks_for_ever grows = let less : 0 < 0 = grows 0 1 first [] 0 0 box box (holding (pos 1)) refl refl in omega (arith, less)
