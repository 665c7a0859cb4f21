-- Where something is let in, by the labels of sites at hand.
use Rattle.std.specs.Prelude.{ℕ, Bool, not, ◌&&◌, if◌then◌else◌, List, [], ◌∷◌, map, slice_get, unwrap_or}
use Rattle.std.specs.List.{filter, flat_map, list_all}
use Rattle.fab_base.specs.declared.object.Value.{Value}
use Rattle.fab_rights.specs.Computed.{has_bit}
use Rattle.fab_sets.specs.Numbers.{is_listed}
use Rattle.fab_downgrades.specs.declared.rows.Downgraded.{Downgraded}
use Rattle.fab_downgrades.specs.Downgraded.{endorses}
use Rattle.fab_trust.specs.declared.endorsing.Doors.{Doors}

-- what isn't trusted is endorsed to what is
abbrev pub is_let_in : (ℕ → Bool) → Downgraded → Bool
is_let_in trusts d = endorses d.downgrade && (not (trusts d.from) && trusts d.to)

abbrev pub sites_let_in : (ℕ → Bool) → List Downgraded → List ℕ
sites_let_in trusts ds = flat_map (λ d. if is_let_in trusts d then d.site ∷ [] else []) ds

abbrev pub opens_at : Doors → ℕ → Bool
opens_at doors site = list_all (has_bit doors.labels) (unwrap_or (slice_get doors.pcs.now site) []) && is_listed site doors.sites.keys

abbrev pub values_let_in : Doors → List (ℕ × Value) → List Value
values_let_in doors downs = map (λ d. d.1) (filter (λ d. opens_at doors d.0) downs)
