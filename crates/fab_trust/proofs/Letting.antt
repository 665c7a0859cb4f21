-- Where something is let in, by the labels of sites and by a set of sites.
use Rattle.std.proofs.Common.{◌≡◌, ℕ, zero, suc, ◌+◌, ◌<◌, Bool, true, false, not, ◌&&◌, ◌||◌, ◌==◌, if◌then◌else◌, List, [], ◌∷◌, map, refl, sym, ap, ◌∙◌, subst, arith}
use Rattle.std.specs.Prelude.{slice_get, unwrap_or}
use Rattle.std.specs.List.{enumerate_from, filter, flat_map, list_all, list_any}
use Rattle.std.proofs.lemmas.Bool.{eq-eqb, ne_eqb}
use Rattle.std.proofs.lemmas.List.Folds.{list_any-append}
use Rattle.fab_base.specs.declared.object.Value.{Value}
use Rattle.fab_base.specs.FlatMap.{map_of}
use Rattle.fab_tree.specs.declared.resolved.Method.{Method}
use Rattle.fab_tree.specs.declared.resolved.Resolved.{Resolved}
use Rattle.fab_labelling.specs.Sites.{pcs_of, sites_of}
use Rattle.fab_places.specs.declared.masks.Seen.{Seen}
use Rattle.fab_rights.specs.Computed.{has_bit}
use Rattle.fab_net.specs.declared.note.Commit.{Commit}
use Rattle.fab_protocol.specs.Versions.{objects_of}
use Rattle.fab_settings.specs.Settings.{meant_of, request_at}
use Rattle.fab_erasure.specs.Agreement.{in_view}
use Rattle.fab_sets.specs.Numbers.{is_listed}
use Rattle.fab_downgrades.specs.declared.rows.Downgraded.{Downgraded}
use Rattle.fab_downgrades.specs.Downgraded.{downgraded_by, endorses}
use Rattle.fab_trusted.specs.Trusted.{done_by, endorsed, endorses_at, lets_in}
use Rattle.fab_trust.specs.declared.endorsing.Doors.{Doors}
use Rattle.fab_trust.specs.Endorsing.{is_let_in, opens_at, sites_let_in, values_let_in}

-- ---- sites, numbered in order

module _ (trusts : ℕ → Bool) where
  abbrev passes : ℕ → ℕ × List ℕ → Bool
  passes site x = not (x.0 == site) || list_all trusts x.1

  -- none of those from k on has a number before it
  past : (k site : ℕ) (ps : List (List ℕ)) → site < k → list_all (passes site) (enumerate_from k ps) ≡ true
  past k site [] less = refl
  past k site (p ∷ ps) less =
      ap (λ b. (not b || list_all trusts p) && list_all (passes site) (enumerate_from (k + 1) ps)) (ne_eqb k site (λ e. omega (arith, e, less)))
      ∙ past (k + 1) site ps (omega (arith, less))

  and_true : (b : Bool) → (b && true) ≡ b
  and_true true = refl
  and_true false = refl

  at_place : (k j : ℕ) (ps : List (List ℕ)) → list_all (passes (k + j)) (enumerate_from k ps) ≡ list_all trusts (unwrap_or (slice_get ps j) [])
  at_place k j [] = refl
  at_place k zero (p ∷ ps) =
      ap (λ b. (not b || list_all trusts p) && list_all (passes (k + 0)) (enumerate_from (k + 1) ps)) (eq-eqb k (k + 0) (omega arith))
      ∙ ap (λ b. list_all trusts p && b) (past (k + 1) (k + 0) ps (omega arith)) ∙ and_true (list_all trusts p)
  at_place k (suc j) (p ∷ ps) =
      ap (λ b. (not b || list_all trusts p) && list_all (passes (k + suc j)) (enumerate_from (k + 1) ps)) (ne_eqb k (k + suc j) (λ e. omega (arith, e)))
      ∙ subst (λ n. list_all (passes n) (enumerate_from (k + 1) ps) ≡ list_all trusts (unwrap_or (slice_get ps j) [])) (omega arith) (at_place (k + 1) j ps)

  pub viewed : (keeps : ℕ → Bool) (r : Resolved) (site : ℕ) → sites_of r ≡ enumerate_from 0 (pcs_of r)
      → list_all trusts (unwrap_or (slice_get (pcs_of r) site) []) ≡ in_view trusts keeps r site
  viewed keeps r site ordered =
      sym (at_place 0 site (pcs_of r)) ∙ ap (λ n. list_all (passes n) (enumerate_from 0 (pcs_of r))) (omega arith) ∙ sym (ap (list_all (passes site)) ordered)

  -- ---- the sites at which something is let in

  or_false : (b : Bool) → (b || false) ≡ b
  or_false true = refl
  or_false false = refl

  one : (n : ℕ) (d : Downgraded) (b c : Bool) → is_listed n (if b && c then d.site ∷ [] else []) ≡ (b && ((d.site == n) && c))
  one n d true true = or_false (d.site == n) ∙ sym (and_true (d.site == n))
  one n d true false = sym (and_false (d.site == n))
    where
      and_false : (b : Bool) → (b && false) ≡ false
      and_false true = refl
      and_false false = refl
  one n d false c = refl

  listed_in : (keeps : ℕ → Bool) (r : Resolved) (n : ℕ) (ds : List Downgraded) → is_listed n (sites_let_in trusts ds) ≡ list_any (lets_in trusts keeps r n) ds
  listed_in keeps r n [] = refl
  listed_in keeps r n (d ∷ ds) =
      list_any-append (λ m. m == n) (if is_let_in trusts d then d.site ∷ [] else []) (sites_let_in trusts ds)
      ∙ (λ i. one n d (endorses d.downgrade) (not (trusts d.from) && trusts d.to) i || listed_in keeps r n ds i)

  pub all_listed : (keeps : ℕ → Bool) (r : Resolved) (n : ℕ) (ms : List Method)
      → is_listed n (flat_map (λ (m : Method). sites_let_in trusts (downgraded_by m)) ms) ≡ list_any (lets_in trusts keeps r n) (flat_map downgraded_by ms)
  all_listed keeps r n [] = refl
  all_listed keeps r n (m ∷ ms) =
      list_any-append (λ k. k == n) (sites_let_in trusts (downgraded_by m)) (flat_map (λ (m : Method). sites_let_in trusts (downgraded_by m)) ms)
      ∙ (λ i. listed_in keeps r n (downgraded_by m) i || all_listed keeps r n ms i)
      ∙ sym (list_any-append (lets_in trusts keeps r n) (downgraded_by m) (flat_map downgraded_by ms))

  -- ---- the values of commits

  pub all_endorsed : (keeps : ℕ → Bool) (r : Resolved) (doors : Doors) (commits : List Commit) → ((n : ℕ) → opens_at doors n ≡ endorses_at trusts keeps r n)
      → map (λ (c : Commit). values_let_in doors (meant_of r (request_at r c.worker c.request) c.tid (map_of (objects_of c.answers))).downs) commits ≡ endorsed trusts keeps r commits
  all_endorsed keeps r doors commits h =
      λ i. map (λ (c : Commit). map (λ (d : ℕ × Value). d.1) (filter (λ (d : ℕ × Value). h d.0 i) (done_by trusts keeps r c).downs)) commits

-- what is told of a site by the labels of sites and by the set of those at which something is let in
pub opened : (part : Seen) (r : Resolved) (pcs : List (List ℕ)) (ms : List Method) (sites keys : List ℕ) → pcs ≡ pcs_of r → sites_of r ≡ enumerate_from 0 (pcs_of r)
    → ms ≡ r.methods → sites ≡ flat_map (λ (m : Method). sites_let_in (has_bit part.labels) (downgraded_by m)) ms → ((n : ℕ) → is_listed n keys ≡ is_listed n sites)
    → (n : ℕ) → (list_all (has_bit part.labels) (unwrap_or (slice_get pcs n) []) && is_listed n keys) ≡ endorses_at (has_bit part.labels) (has_bit part.classes) r n
opened part r pcs ms sites keys pcs_are ordered methods_are sites_are set n = λ i. trusted i && listed i
  where
    trusted : list_all (has_bit part.labels) (unwrap_or (slice_get pcs n) []) ≡ in_view (has_bit part.labels) (has_bit part.classes) r n
    trusted = ap (λ (p : List (List ℕ)). list_all (has_bit part.labels) (unwrap_or (slice_get p n) [])) pcs_are ∙ viewed (has_bit part.labels) (has_bit part.classes) r n ordered

    listed : is_listed n keys ≡ list_any (lets_in (has_bit part.labels) (has_bit part.classes) r n) (flat_map downgraded_by r.methods)
    listed =
        set n ∙ ap (is_listed n) (sites_are ∙ ap (λ (xs : List Method). flat_map (λ (m : Method). sites_let_in (has_bit part.labels) (downgraded_by m)) xs) methods_are)
        ∙ all_listed (has_bit part.labels) (has_bit part.classes) r n r.methods
