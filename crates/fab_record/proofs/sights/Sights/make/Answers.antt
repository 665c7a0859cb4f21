use Rattle.std.proofs.Common.{◌≡◌, ℕ, not, ◌&&◌, ◌==◌, map, ap, ◌∙◌}
use Rattle.std.specs.List.{flat_map, list_any}
use Rattle.fab_downgrades.specs.Downgraded.{downgraded_by, plain}
use Rattle.fab_downgrades.proofs.Plain.{methods_are_plain}
use Rattle.fab_erasure.specs.Agreement.{Downgrading, downgrades_of, in_view}
use Rattle.fab_rights.specs.Computed.{has_bit}
use Rattle.fab_sets.specs.Numbers.{is_listed}
use Rattle.fab_record.specs.Views.{crossing_sites}
use Rattle.fab_record.proofs.Hiding.{crossing_are, hidden_are}
use Rattle.fab_record.proofs.sights.Sights.make.Goals as goal

pub returns : goal.returns
returns c =
    let sees = has_bit c.args.seen.now.labels in
    let hidden : (n : ℕ) → not (is_listed n c.in_ok-set_of.field-0.keys) ≡ in_view sees (has_bit c.args.seen.now.classes) c.args.start.now n =
    λ n. ap not (c.in_ok-set_of.ensures n ∙ ap (is_listed n) (c.as_slice-3.ensures ∙ c.in_ok-hidden.ensures)) ∙ (hidden_are sees c.args.start.now).by n in
    let downgrades : map plain c.as_slice-2.result.now ≡ downgrades_of c.args.start.now =
    ap (map plain) (c.as_slice-2.ensures ∙ c.in_ok-downgrades.ensures ∙ ap (flat_map downgraded_by) c.as_slice.ensures) ∙ methods_are_plain c.args.start.now.methods in
    let crossing : (n : ℕ) → is_listed n c.in_ok-set_of-2.field-0.keys ≡ list_any (λ (d : Downgrading). (d.0 == n) && (not (sees d.1.0) && sees d.1.1)) _ =
    λ n. c.in_ok-set_of-2.ensures n
    ∙ ap (is_listed n) (c.as_slice-4.ensures ∙ c.in_ok-crossing.ensures ∙ ap (crossing_sites sees) downgrades)
    ∙ crossing_are sees _ n in
    λ i. record {
      has = has_bit c.args.nodes;
      shows = has_bit c.args.seen.now.classes;
      in_view = λ n. hidden n i;
      into_view = λ n. hidden n i && crossing n i;
    }
