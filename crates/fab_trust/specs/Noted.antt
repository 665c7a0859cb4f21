-- The first guard that isn't kept so far, as the guards of a program are gone through, with the labels of its sites at hand.
use Rattle.std.specs.Prelude.{ℕ, Bool, nat_lt, if◌then◌else◌, List, [], ◌∷◌, ◌++◌, map, Option, Some, None, slice_get, unwrap_or}
use Rattle.std.specs.List.{flat_map, list_any}
use Rattle.fab_base.specs.Labels.{alone}
use Rattle.fab_tree.specs.declared.resolved.Method.{Method}
use Rattle.fab_tree.specs.declared.resolved.Resolved.{Resolved}
use Rattle.fab_tree.specs.declared.resolved.Use.{Use}
use Rattle.fab_labelling.specs.Readers.{label_at}
use Rattle.fab_authority.specs.Decided.{covers}
use Rattle.fab_downgrades.specs.declared.rows.Downgraded.{Downgraded}
use Rattle.fab_trusted.specs.declared.rows.Guard.{Guard}
use Rattle.fab_downgrades.specs.Downgraded.{declassifies, downgraded_by}

-- some policy of integrity covers that of the principal alone
abbrev pub is_kept : Resolved → Guard → Bool
is_kept r g = list_any (λ j. covers r.pairs j (alone g.principal)) (label_at r g.source).integ

-- the first by its place of the guard so far and this one; of two at one place the one so far
abbrev pub sooner : Option Guard → Guard → Option Guard
sooner None g = Some g
sooner (Some f) g = if nat_lt g.at f.at then Some g else Some f

-- the first of the guard so far and of those that aren't kept
abbrev pub noted : Resolved → Option Guard → List Guard → Option Guard
noted r first [] = first
noted r first (g ∷ gs) = noted r (if is_kept r g then first else sooner first g) gs

-- ---- the guards, over the labels of sites

abbrev pub guards_at : ℕ → ℕ → List Use → List Guard
guards_at at source authority = map (λ p. record { at = at; source = source; principal = p.number }) authority

abbrev pub row_guards : List (List ℕ) → List Use → Downgraded → List Guard
row_guards pcs authority d = flat_map (λ l. guards_at d.at l authority) (unwrap_or (slice_get pcs d.site) []) ++ guards_at d.at d.from authority

-- none, unless it declassifies
abbrev pub kind_guards : List (List ℕ) → List Use → Downgraded → List Guard
kind_guards pcs authority d = if declassifies d.downgrade then row_guards pcs authority d else []

abbrev pub method_guards : List (List ℕ) → Method → List Guard
method_guards pcs m = flat_map (kind_guards pcs m.authority) (downgraded_by m)
