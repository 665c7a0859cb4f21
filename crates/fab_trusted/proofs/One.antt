-- One commit more: trusted replay keeps what serial replay keeps, and downgrades the same values of what is trusted.
use Rattle.std.proofs.Common.{◌≡◌, ℕ, Bool, true, false, not, List, Option, Some, None, if◌then◌else◌, map, refl, sym, ap, ◌∙◌, subst, true≢false}
use Rattle.std.specs.Prelude.{slice_get}
use Rattle.std.specs.List.{filter}
use Rattle.fab_base.specs.declared.object.Value.{Value}
use Rattle.fab_base.specs.FlatMap.{FlatMap, ascends, map_of, put_all}
use Rattle.fab_tree.specs.declared.start.Start.{Start}
use Rattle.fab_tree.specs.declared.resolved.Method.{Method}
use Rattle.fab_tree.specs.declared.resolved.Request.{Request}
use Rattle.fab_tree.specs.declared.resolved.Resolved.{Resolved}
use Rattle.fab_language.specs.declared.ending.Ending.TheVariants.{Ended, Failed}
use Rattle.fab_language.specs.Meaning.{State, Meant, M, gives, meant_by}
use Rattle.fab_language.specs.Numbers.{resolved}
use Rattle.fab_net.specs.declared.note.Commit.{Commit}
use Rattle.fab_protocol.specs.Versions.{objects_of}
use Rattle.fab_rights.specs.declared.rights.Rights.{Rights}
use Rattle.fab_laws.specs.Shapes.{AreShaped, IsFitting}
use Rattle.fab_erasure.specs.Agreement.{IsView, IsSettled, Agrees, begins_in_view, downs_seen, given_by, goes_into_view, result_seen}
use Rattle.fab_erasure.specs.Erased.{erased, blank_result, skips, unless_skipped}
use Rattle.fab_erasure.proofs.Agrees.{erasure_agrees}
use Rattle.fab_settings.specs.Settings.{IsAcceptedWith, meant_of, request_at, setting_of}
use Rattle.fab_settings.proofs.Fitting.{sound_of}
use Rattle.fab_settings.proofs.Given.{asked_sound, few, fits}
use Rattle.fab_settings.proofs.Meanings.{found_row}
use Rattle.fab_world.specs.Machine.{Setting}
use Rattle.fab_world.specs.Serial.{AreAlike, AreFit, IsFit, outside, replay_one, within}
use Rattle.fab_integrity.specs.Redone.{IsRedone}
use Rattle.fab_integrity.specs.Changed.{changed}
use Rattle.fab_integrity.proofs.Replays.{changed_by}
use Rattle.fab_trusted.specs.Trusted.{done_by, endorsed_by, endorses_at, trusted_meaning, trusted_one}
use Rattle.fab_trusted.proofs.Maps.{changed_alike, kept_beside}

module _ (s : Start) (rights : Rights) (a : IsAcceptedWith s rights) (trusts keeps : ℕ → Bool) (view : IsView trusts keeps (resolved s))
    (endorsing : (site : ℕ) → endorses_at trusts keeps (resolved s) site ≡ goes_into_view trusts keeps (resolved s) site) where
  abbrev r : Resolved
  r = resolved s

  abbrev S : Setting
  S = setting_of (resolved s) rights

  shaped : (N : FlatMap) → AreFit S N → AreShaped r.classes N
  shaped N h o x e = (sound_of S r 0 (fits s rights a 0) (few s rights a) o x (found_row (IsFit S) N h o x e)).shape

  -- a request whose begin label isn't trusted comes to a blank
  skipped : (m : Option Method) (run : M (Option Value)) (t : State) → not (skips trusts keeps m) ≡ false
      → (meant_by (unless_skipped trusts keeps m run t)).ending ≡ Ended (blank_result trusts keeps m)
  skipped m run t e =
      elim (skips trusts keeps m) as (λ b. not b ≡ false
      → (meant_by ((if b then gives (blank_result trusts keeps m) else run) t)).ending ≡ Ended (blank_result trusts keeps m)) [
        | true ↦ λ i. refl
        | false ↦ λ i. absurd (true≢false i)
      ] e

  module _ (N : FlatMap) (c : Commit) where
    abbrev known : FlatMap
    known = put_all (outside keeps (objects_of c.answers)) N

    abbrev full : Option Request → Meant
    full m = meant_of r m c.tid known

    abbrev done : Option Request → Meant
    done m = meant_of r m c.tid (map_of (objects_of c.answers))

    abbrev part : Option Request → List Value → Meant
    part m g = trusted_meaning trusts keeps r m c.tid N g

    abbrev kept_downs : Meant → List (ℕ × Value)
    kept_downs m = filter (λ (d : ℕ × Value). downs_seen trusts keeps r d.0) m.downs

    pub record Step (m : Option Request) (g : List Value) : Type 0 where
      pub value : Option Value
      pub ended : (part m g).ending ≡ Ended value
      pub next : changed keeps (part m g).written (part m g).made (part m g).map N ≡ changed keeps (full m).written (full m).made (full m).map N
      pub alike : kept_downs (part m g) ≡ kept_downs (done m)

    not_ended : (v : Option Value) → Failed ≡ Ended v → ⊥
    not_ended v e = cc

    same_given : (m : Option Request) → (done m).downs ≡ (full m).downs → endorsed_by trusts keeps r (done m) ≡ given_by trusts keeps r (full m)
    same_given m e = λ i. map (λ (d : ℕ × Value). d.1) (filter (λ (d : ℕ × Value). endorsing d.0 i) (e i))

    stepped : (q : Request) → IsFitting r q → AreAlike (done (Some q)) (full (Some q)) → (v : Option Value) → (full (Some q)).ending ≡ Ended v
        → ascends known ≡ true → AreFit S known → within keeps known ≡ N → Step (Some q) (given_by trusts keeps r (full (Some q)))
    stepped q fit alike v e up fits_known own =
        let g = given_by trusts keeps r (full (Some q)) in
        let agrees : Agrees trusts keeps r q (full (Some q)) (erased trusts keeps r N q c.tid 1000000 g) =
        subst (λ K. Agrees trusts keeps r q (full (Some q)) (erased trusts keeps r K q c.tid 1000000 g)) own
        (erasure_agrees trusts keeps r known q c.tid 1000000 view up (shaped known fits_known) fit) in
        let settled : IsSettled trusts keeps r (full (Some q)).ending = subst (IsSettled trusts keeps r) (sym e) tt in
        let ends = ends_by (begins_in_view trusts keeps r q) refl agrees in
        record {
          value = ends.0;
          ended = ends.1;
          next = changed_alike keeps (part (Some q) g).written (full (Some q)).written (part (Some q) g).made (full (Some q)).made (part (Some q) g).map (full (Some q)).map N
              (sym (agrees.written settled)) (sym (agrees.made settled)) (sym (agrees.rows settled));
          alike = sym (agrees.kept settled) ∙ ap (filter (λ (d : ℕ × Value). downs_seen trusts keeps r d.0)) (sym alike.downs);
        }
      where
        ends_by : (b : Bool) → begins_in_view trusts keeps r q ≡ b
            → Agrees trusts keeps r q (full (Some q)) (erased trusts keeps r N q c.tid 1000000 (given_by trusts keeps r (full (Some q))))
            → (w : Option Value) × ((part (Some q) (given_by trusts keeps r (full (Some q)))).ending ≡ Ended w)
        ends_by true i agrees = (result_seen trusts keeps r (slice_get r.methods q.method) v, agrees.ended v i e)
        ends_by false i agrees = (blank_result trusts keeps (slice_get r.methods q.method), skipped (slice_get r.methods q.method) _ _ i)

    by : (m : Option Request) → ((q : Request) → m ≡ Some q → IsFitting r q) → AreAlike (done m) (full m) → (v : Option Value) → (full m).ending ≡ Ended v
        → ascends known ≡ true → AreFit S known → within keeps known ≡ N → Step m (endorsed_by trusts keeps r (done m))
    by None fit alike v e up fits_known own = absurd (not_ended v e)
    by (Some q) fit alike v e up fits_known own =
        subst (Step (Some q)) (sym (same_given (Some q) alike.downs)) (stepped q (fit q refl) alike v e up fits_known own)

    -- what trusted replay makes of a commit that serial replay does again
    pub one : IsRedone S keeps N c → Step (request_at r c.worker c.request) (endorsed_by trusts keeps r (done (request_at r c.worker c.request)))
    one h =
        by (request_at r c.worker c.request) (λ q e. (asked_sound s rights a c.worker c.request q e).fitting) h.alike h.value h.ended h.both h.fits
        (kept_beside keeps (objects_of c.answers) N h.up h.both h.inside)

    pub one_more : IsRedone S keeps N c → trusted_one trusts keeps r N c (endorsed_by trusts keeps r (done_by trusts keeps r c)) ≡ replay_one S keeps N c
    one_more h = (one h).next ∙ changed_by keeps c.answers (full (request_at r c.worker c.request)) N
