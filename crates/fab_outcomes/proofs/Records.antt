-- The outcome that a worker's record gives to a request, if it gives one.
use Rattle.std.proofs.Common.{◌≡◌, ℕ, List, ◌++◌, Option, Some, None, refl, sym, ap, ◌∙◌}
use Rattle.std.specs.Prelude.{slice_get, unwrap_or}
use Rattle.std.proofs.lemmas.List.{append-nil}
use Rattle.fab_base.specs.declared.entry.Entry.{Entry}
use Rattle.fab_base.specs.declared.entry.Entry.TheVariants as e
use Rattle.fab_base.specs.declared.object.Stop.{Stop}
use Rattle.fab_base.specs.declared.object.Stop.TheVariants as stop
use Rattle.fab_net.specs.declared.outcome.ReqOutcome.{ReqOutcome}
use Rattle.fab_net.specs.declared.outcome.ReqOutcome.TheVariants.{Committed, Stopped, Unfinished}
use Rattle.fab_world.specs.Machine.{option_list}
use Rattle.fab_world.specs.Workers.{Kept, closed, closings, kept_of}
use Rattle.fab_integrity.proofs.Lasting.{kept_behind, keeps_behind}

-- of the record itself
abbrev pub outcome_in : Entry → Option ReqOutcome
outcome_in (e.Decided t request value stores) = Some (Committed t value)
outcome_in (e.Closed request code node) = Some (unwrap_or (slice_get (closings node) code) Unfinished)
outcome_in _ = None

-- and of an act's record, if it has one
abbrev pub outcome_by : Option Entry → Option ReqOutcome
outcome_by None = None
outcome_by (Some entry) = outcome_in entry

-- a request that is stopped says at which limit
pub stopped_is : (request : ℕ) (limit : Stop) → outcome_in (closed request (Stopped limit)) ≡ Some (Stopped limit)
stopped_is request stop.Fuel = refl
stopped_is request stop.Depth = refl
stopped_is request stop.Reads = refl
stopped_is request stop.Writes = refl

outcomes_with : (entry : Option Entry) (k : Kept) → (kept_behind entry k).outcomes ≡ k.outcomes ++ option_list (outcome_by entry)
outcomes_with None k = sym (append-nil k.outcomes)
outcomes_with (Some (e.Decided t request value stores)) k = refl
outcomes_with (Some (e.Closed request code node)) k = refl
outcomes_with (Some (e.Boot b)) k = sym (append-nil k.outcomes)
outcomes_with (Some (e.Prepared t items)) k = sym (append-nil k.outcomes)
outcomes_with (Some (e.Refused t)) k = sym (append-nil k.outcomes)
outcomes_with (Some (e.Applied t)) k = sym (append-nil k.outcomes)
outcomes_with (Some (e.Released t)) k = sym (append-nil k.outcomes)
outcomes_with (Some (e.BootSeen w b)) k = sym (append-nil k.outcomes)

-- behind a record, or none, a worker has the outcome of that record more
pub outcomes_more : (entries : List Entry) (entry : Option Entry)
    → (kept_of (entries ++ option_list entry)).outcomes ≡ (kept_of entries).outcomes ++ option_list (outcome_by entry)
outcomes_more entries entry = ap (λ (k : Kept). k.outcomes) (keeps_behind entries entry) ∙ outcomes_with entry (kept_of entries)
