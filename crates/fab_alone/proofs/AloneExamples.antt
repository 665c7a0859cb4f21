-- A worker that is alone, on small runs: a transfer, which comes to what it comes to by itself; and a worker that may not fetch.
use Rattle.std.proofs.Common.{◌≡◌, ℕ, true, false, ◌==◌, if◌then◌else◌, List, [], ◌∷◌, map, pos, Some, None, refl, sym, ◌∙◌, lit<, true≢false}
use Rattle.fab_base.specs.declared.object.Stop.TheVariants as stop
use Rattle.fab_base.specs.declared.object.Tid.{Tid}
use Rattle.fab_base.specs.declared.message.Message.TheVariants.{Deny, Fetch}
use Rattle.fab_base.specs.declared.message.Why.TheVariants as why
use Rattle.fab_base.specs.declared.object.Width.TheVariants as widths
use Rattle.fab_language.specs.declared.ending.Ending.TheVariants as endings
use Rattle.fab_net.specs.declared.event.Event.TheVariants.{Begin, Deliver, Resume}
use Rattle.fab_net.specs.declared.outcome.Denial.TheVariants.{Rights as NoRights}
use Rattle.fab_net.specs.declared.outcome.ReqOutcome.TheVariants.{Committed, Denied, Failed, Stopped}
use Rattle.fab_rights.specs.declared.rights.Rights.{Rights}
use Rattle.fab_rights.specs.declared.rights.Shape.TheVariants as shapes
use Rattle.fab_protocol.specs.Stores.{shelf_of}
use Rattle.fab_protocol.proofs.Toy.{account, accounts, attempt}
use Rattle.fab_world.specs.Machine.{Setting, Move, outcome}
use Rattle.fab_world.specs.Serial.{held_map, world_of}
use Rattle.fab_world.specs.Workers.{kept_of}
use Rattle.fab_world.proofs.Toy.{is_run, no_posts, plain, setting, transfers, until_applied}
use Rattle.fab_alone.specs.Alone.{HasRights, IsInTurn, NoneLacks, first_tid, map_behind, meant_behind, outcome_by}

abbrev first : Tid
first = attempt 0 1 1

-- worker 0 and store 1, which alone there are; who may fetch and write accounts is given
abbrev rights_of : ℕ → ℕ → Rights
rights_of fetchers writers = record { workers = 1; stores = 2; classes = record { fetchers = fetchers; writers = writers; holders = 2; fields = shapes.Number widths.Int ∷ [] } ∷ [] }

-- ---- it may: its one request is a transfer

abbrev S : Setting
S = record (setting 0 1 0 no_posts (transfers first)) { rights = rights_of 1 1; hostile = λ n. false; requests = λ n. if n == 0 then 1 else 0 }

comes_to_transfer : map_behind S 0 1 ≡ accounts (pos 95) (pos 5)
comes_to_transfer = refl

it_ends : (meant_behind S 0 0).ending ≡ endings.Ended None
it_ends = refl

abbrev transferring : List Move
transferring = map plain (until_applied 0)

transfer_is_run : is_run S transferring ≡ true
unfolding kept_of shelf_of
transfer_is_run = refl

it_commits : outcome S (world_of S transferring) 0 1 ≡ Committed first None
unfolding kept_of shelf_of
it_commits = refl

as_it_ends : outcome S (world_of S transferring) 0 1 ≡ outcome_by (first_tid 0 1) (meant_behind S 0 0).ending
unfolding kept_of shelf_of
as_it_ends = refl

it_is_held : held_map S (λ n. false) (λ class. true) (world_of S transferring) ≡ map_behind S 0 1
unfolding kept_of shelf_of
it_is_held = refl

-- and before, what there was
not_before : held_map S (λ n. false) (λ class. true) (world_of S []) ≡ accounts (pos 100) (pos 0)
unfolding kept_of shelf_of
not_before = refl

-- ---- it may not

abbrev F : Setting
F = record S { rights = rights_of 0 0; read = (setting 0 1 0 no_posts (Fetch first (account 0) ∷ Deny first (account 0) why.Rights ∷ [])).read }

abbrev denied : List Move
denied = map plain (Begin 0 ∷ Resume 0 ∷ Deliver 0 1 ∷ Deliver 1 0 ∷ [])

denied_is_run : is_run F denied ≡ true
unfolding kept_of shelf_of
denied_is_run = refl

it_is_denied : outcome F (world_of F denied) 0 1 ≡ Denied 1 NoRights
unfolding kept_of shelf_of
it_is_denied = refl

-- by itself it would have ended
would_end : outcome_by (first_tid 0 1) (meant_behind F 0 0).ending ≡ Committed first None
would_end = refl

not_in_turn : IsInTurn F 0 denied → ⊥
not_in_turn h =
    let no : Denied 1 NoRights ≡ Committed first None = sym it_is_denied ∙ h.outcomes 0 (lit< tt) in absurd (cc)

-- so it lacks a right: nothing is a part of the objects, and over nothing the first account is missing
lacks_right : HasRights F 0 → ⊥
lacks_right h = true≢false (sym (h.fetches 0 0 [] (account 0) (lit< tt) (λ o x e. absurd (let no : None ≡ Some x = e in cc)) refl))

-- ---- other ends

fails_so : outcome_by first endings.Failed ≡ Failed
fails_so = refl

stops_so : outcome_by first (endings.Stopped stop.Reads) ≡ Stopped stop.Reads
stops_so = refl

-- a request that wants an object that isn't there lacks it, and changes nothing
abbrev L : Setting
L = record S { means = λ w r t N. (setting 4 1 0 no_posts []).means w r t N }

stays_so : map_behind L 0 1 ≡ accounts (pos 100) (pos 0)
stays_so = refl

one_lacks : NoneLacks L 0 → ⊥
one_lacks h = h 0 (lit< tt)
