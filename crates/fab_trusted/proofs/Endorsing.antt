-- In a well labelled program nothing is downgraded into what some nodes can't have influenced but by endorsing it.
use Rattle.std.proofs.Common.{◌≡◌, ℕ, Bool, false, not, ◌&&◌, ◌||◌, ◌==◌, ◌<◌, List, [], ◌∷◌, ◌++◌, map, Option, Some, refl, sym, ap, ◌∙◌, subst, true≢false}
use Rattle.std.specs.Prelude.{length}
use Rattle.std.specs.List.{flat_map, list_any, AllByRecursion}
use Rattle.std.proofs.lemmas.Bool.{and_parts, false_from_ne_true, not-true}
use Rattle.std.proofs.lemmas.List.Elements.{recursion_from_All}
use Rattle.std.proofs.lemmas.List.Folds.{list_any-append}
use Rattle.fab_tree.specs.declared.statement.Downgrade.TheVariants as downgrades
use Rattle.fab_tree.specs.declared.resolved.Class.{Class}
use Rattle.fab_tree.specs.declared.resolved.Method.{Method}
use Rattle.fab_tree.specs.declared.resolved.Resolved.{Resolved}
use Rattle.fab_tree.specs.declared.resolved.Right.{Right}
use Rattle.fab_tree.specs.declared.resolved.Right.TheVariants as rights
use Rattle.fab_tree.specs.declared.resolved.Statement.{Statement, ind-Statement, roll-Statement, fold-roll-Statement, map-Statement}
use Rattle.fab_tree.specs.declared.resolved.Statement.TheOpen as s
use Rattle.fab_labelling.specs.Claims.{Holds, IsWellLabelled}
use Rattle.fab_labelling.specs.Obligations.{declassifies, Owed, owed, all_flow, to_each, label_of_local, under}
use Rattle.fab_labelling.specs.Obligations as ob
use Rattle.fab_labelling.specs.Readers.{label_at}
use Rattle.fab_labelling.specs.declared.rule.LabelRule.TheVariants.{Write, Atomic}
use Rattle.fab_erasure.specs.Agreement.{Downgrading, all_of, downgrade_step, downgrades_in, downgrades_in_right, downgrades_of, goes_into_view, in_view}
use Rattle.fab_erasure.proofs.Views.{split_left, split_right}
use Rattle.fab_views.proofs.Labels.{AreBelow, HasLabels, IsLabelledMethod, labels_in, labels_in_block, labels_step, named_by_right}
use Rattle.std.specs.Prelude.{slice_get}
use Rattle.fab_base.proofs.Lists.{all_split}
use Rattle.fab_trusted.specs.Trusts.{IsTrustedBy}
use Rattle.fab_downgrades.specs.declared.rows.Downgraded.{Downgraded}
use Rattle.fab_downgrades.specs.Downgraded.{all_in, downgraded_by, downgraded_by_right, downgraded_in, downgraded_step, endorses as is_endorsed}
use Rattle.fab_trusted.specs.Trusted.{endorses_at}
use Rattle.fab_trusted.proofs.Trusting.{excluded_back}

-- a test that no declassification passes
module _ (r : Resolved) (q : Downgrading → Bool) (never : (site a b : ℕ) (ps : List ℕ) → a < length r.labels → Holds r (declassifies a b ps) → q (site, (a, b)) ≡ false) where
  abbrev Below : List ℕ → Type 0
  Below ls = AreBelow (length r.labels) ls

  abbrev Kept : List Owed → Type 0
  Kept xs = AllByRecursion (λ (x : Owed). Holds r x.claim) xs

  -- the same of rows with their kinds: it is endorsed, and passes
  abbrev lets : Downgraded → Bool
  lets d = is_endorsed d.downgrade && q (d.site, (d.from, d.to))

  abbrev Alike : List Downgrading → List Downgraded → Type 0
  Alike ds es = list_any q ds ≡ list_any lets es

  both_alike : (ds : List Downgrading) (es : List Downgraded) (fs : List Downgrading) (gs : List Downgraded) → Alike ds es → Alike fs gs → Alike (ds ++ fs) (es ++ gs)
  both_alike ds es fs gs h k = list_any-append q ds fs ∙ ap (λ b. b || list_any q fs) h ∙ ap (λ b. list_any lets es || b) k ∙ sym (list_any-append lets es gs)

  module _ (classes : List Class) (methods : List Method) (m : Method) where
    abbrev authority : List ℕ
    authority = ob.authority_of m

    abbrev owes_of : Statement → ob.Owes classes methods m.locals authority
    owes_of = ob.statement_owes classes methods m.locals authority

    of_right : (pc : List ℕ) (failure : Option ℕ) (x : Right) → Below (named_by_right x) → Kept (ob.right_owes classes methods m.locals authority pc failure x)
        → Alike (downgrades_in_right x) (downgraded_by_right x)
    of_right pc failure (rights.Plain e) g h = refl
    of_right pc failure (rights.Call x es) g h = refl
    of_right pc failure (rights.New x store es site at) g h = refl
    of_right pc failure (rights.Downgrade downgrades.Endorse e from to site at) g h = refl
    of_right pc failure (rights.Downgrade downgrades.Declassify e from to site at) g h =
        let p = ob.part classes m.locals e in
        let last = split_right _ (p.owes pc failure ++ all_flow Write at p.labels from.number)
        (ob.downgrading classes methods m.locals authority downgrades.Declassify at from.number to.number ∷ []) h in
        ap (λ b. b || false) (never site from.number to.number authority g.0 last.0)

    record Stands (ls : List ℕ) (ds : List Downgrading) (es : List Downgraded) (owes : ob.Owes classes methods m.locals authority) : Type 0 where
      by : Below ls → (pc : List ℕ) (failure : Option ℕ) → Kept (owes pc failure) → Alike ds es

    abbrev OfStatement : Statement → Type 0
    OfStatement x = Stands (labels_in x) (downgrades_in x) (downgraded_in x) (owes_of x)

    abbrev Known : Type 0
    Known = (x : Statement) × OfStatement x

    abbrev bare : List Known → List Statement
    bare ks = map (λ (k : Known). k.0) ks

    abbrev in_row : List Statement → ob.Owes classes methods m.locals authority
    in_row xs = ob.in_order classes methods m.locals authority (map owes_of xs)

    rows : (ks : List Known) → Below (labels_in_block (bare ks)) → (pc : List ℕ) (failure : Option ℕ) → Kept (in_row (bare ks) pc failure)
        → Alike (all_of (map downgrades_in (bare ks))) (all_in (map downgraded_in (bare ks)))
    rows [] g pc failure h = refl
    rows (k ∷ ks) g pc failure h =
        let t = all_split (λ l. l < length r.labels) (labels_in k.0) (labels_in_block (bare ks)) g in
        both_alike (downgrades_in k.0) (downgraded_in k.0) (all_of (map downgrades_in (bare ks))) (all_in (map downgraded_in (bare ks)))
        (k.1.by t.0 pc failure (split_left _ (owes_of k.0 pc failure) (in_row (bare ks) pc failure) h))
        (rows ks t.1 pc failure (split_right _ (owes_of k.0 pc failure) (in_row (bare ks) pc failure) h))

    abbrev pieces : s.Statement-F Known → s.Statement-F Statement
    pieces y = map-Statement Known Statement (λ k. k.0) y

    layer : (y : s.Statement-F Known) → Stands (labels_step (map-Statement Statement (List ℕ) labels_in (pieces y))) (downgrade_step (map-Statement Statement (List Downgrading) downgrades_in (pieces y)))
        (downgraded_step (map-Statement Statement (List Downgraded) downgraded_in (pieces y)))
        (ob.statement_step classes methods m.locals authority (map-Statement Statement (ob.Owes classes methods m.locals authority) owes_of (pieces y)))
    layer (s.Assign x w at) = record {
      by = λ g pc failure h. of_right pc failure w g (split_left _ (ob.right_owes classes methods m.locals authority pc failure w)
          (to_each (all_flow Write at (pc ++ ob.right_labels classes methods m.locals authority w)) (label_of_local (slice_get m.locals x))) h);
    }
    layer (s.Write x field e site) = record { by = λ g pc failure h. refl }
    layer (s.Call x es) = record { by = λ g pc failure h. refl }
    layer (s.If e a b) = record {
      by = λ g pc failure h.
          let t = all_split (λ l. l < length r.labels) (labels_in_block (bare a)) (labels_in_block (bare b)) g in
          let p = ob.part classes m.locals e in
          let inside = under pc p.labels in
          let front = split_left _ (p.owes pc failure ++ in_row (bare a) inside failure) (in_row (bare b) inside failure) h in
          both_alike (all_of (map downgrades_in (bare a))) (all_in (map downgraded_in (bare a))) (all_of (map downgrades_in (bare b))) (all_in (map downgraded_in (bare b)))
          (rows a t.0 inside failure (split_right _ (p.owes pc failure) (in_row (bare a) inside failure) front))
          (rows b t.1 inside failure (split_right _ (p.owes pc failure ++ in_row (bare a) inside failure) (in_row (bare b) inside failure) h));
    }
    layer (s.While e a) = record {
      by = λ g pc failure h.
          let p = ob.part classes m.locals e in
          let inside = under pc p.labels in
          rows a g inside failure (split_right _ (p.owes pc failure) (in_row (bare a) inside failure) h);
    }
    layer (s.Atomic x a b at) = record {
      by = λ g pc failure h.
          let t = all_split (λ l. l < length r.labels) (labels_in_block (bare a)) (labels_in_block (bare b)) g.1 in
          let inside = under pc (x.number ∷ []) in
          let begins = all_flow Atomic at pc x.number in
          let front = split_left _ (begins ++ in_row (bare a) inside (Some x.number)) (in_row (bare b) inside failure) h in
          both_alike (all_of (map downgrades_in (bare a))) (all_in (map downgraded_in (bare a))) (all_of (map downgrades_in (bare b))) (all_in (map downgraded_in (bare b)))
          (rows a t.0 inside (Some x.number) (split_right _ begins (in_row (bare a) inside (Some x.number)) front))
          (rows b t.1 inside failure (split_right _ (begins ++ in_row (bare a) inside (Some x.number)) (in_row (bare b) inside failure) h));
    }
    layer (s.Fail at) = record { by = λ g pc failure h. refl }

    statements : (x : Statement) → OfStatement x
    statements = ind-Statement OfStatement (λ x y is. subst (λ z. OfStatement (roll-Statement z)) is
        (rw (
          fold-roll-Statement (List ℕ) labels_step (pieces y),
          fold-roll-Statement (List Downgrading) downgrade_step (pieces y),
          fold-roll-Statement (List Downgraded) downgraded_step (pieces y),
          fold-roll-Statement (ob.Owes classes methods m.locals authority) (ob.statement_step classes methods m.locals authority) (pieces y),
        ) (layer y)))

    blocks : (xs : List Statement) → Below (labels_in_block xs) → (pc : List ℕ) (failure : Option ℕ) → Kept (ob.block_owes classes methods m.locals authority xs pc failure)
        → Alike (flat_map downgrades_in xs) (flat_map downgraded_in xs)
    blocks [] g pc failure h = refl
    blocks (x ∷ xs) g pc failure h =
        let t = all_split (λ l. l < length r.labels) (labels_in x) (labels_in_block xs) g in
        let rest = ob.block_owes classes methods m.locals authority xs pc failure in
        both_alike (downgrades_in x) (downgraded_in x) (flat_map downgrades_in xs) (flat_map downgraded_in xs)
        ((statements x).by t.0 pc failure (split_left _ (owes_of x pc failure) rest h)) (blocks xs t.1 pc failure (split_right _ (owes_of x pc failure) rest h))

  all_methods : (classes : List Class) (methods ms : List Method) → AllByRecursion (IsLabelledMethod (length r.labels)) ms → Kept (flat_map (ob.method_owes classes methods) ms)
      → Alike (flat_map (λ (m : Method). flat_map downgrades_in m.body) ms) (flat_map downgraded_by ms)
  all_methods classes methods [] g h = refl
  all_methods classes methods (m ∷ ms) g h =
      let own = split_left _ (ob.method_owes classes methods m) (flat_map (ob.method_owes classes methods) ms) h in
      let pc = m.begin.number ∷ [] in
      let body = ob.block_owes classes methods m.locals (ob.authority_of m) m.body pc (ob.failure_of m) in
      both_alike (flat_map downgrades_in m.body) (flat_map downgraded_in m.body) (flat_map (λ (m : Method). flat_map downgrades_in m.body) ms)
      (flat_map downgraded_by ms)
      (blocks classes methods m m.body g.0.body pc (ob.failure_of m)
      (split_left _ body (ob.return_owes classes methods m.locals (ob.authority_of m) m.returns m.result pc (ob.failure_of m)) own))
      (all_methods classes methods ms g.1 (split_right _ (ob.method_owes classes methods m) (flat_map (ob.method_owes classes methods) ms) h))

  pub all_alike : HasLabels r → IsWellLabelled r → Alike (downgrades_of r) (flat_map downgraded_by r.methods)
  all_alike declared labelled =
      let kept = recursion_from_All (λ (x : Owed). Holds r x.claim) (owed r) labelled in
      let methods = flat_map (ob.method_owes r.classes r.methods) r.methods in
      all_methods r.classes r.methods r.methods declared.methods
      (split_left _ methods (map ob.root_owes r.roots)
      (split_left _ (methods ++ map ob.root_owes r.roots) (flat_map (ob.session_owes (length r.nodes)) r.sessions) kept))

-- what is downgraded into the trusted is endorsed
module _ (r : Resolved) (nodes : ℕ) (trusts keeps : ℕ → Bool) (given : IsTrustedBy r nodes trusts keeps) (declared : HasLabels r) (labelled : IsWellLabelled r) where
  abbrev turns : ℕ → Downgrading → Bool
  turns site d = (d.0 == site) && (not (trusts d.1.0) && trusts d.1.1)

  never : (site n a b : ℕ) (ps : List ℕ) → a < length r.labels → Holds r (declassifies a b ps) → turns site (n, (a, b)) ≡ false
  never site n a b ps below h = false_from_ne_true (turns site (n, (a, b))) (λ e.
      let q = and_parts (not (trusts a)) (trusts b) (and_parts (n == site) (not (trusts a) && trusts b) e).1 in
      let back = (given.labels a).1 (below, excluded_back r nodes (label_at r a) (label_at r b) h.2.integ ((given.labels b).0 q.1).1) in
      true≢false (sym back ∙ not-true (trusts a) q.0))

  pub endorses_is : (site : ℕ) → endorses_at trusts keeps r site ≡ goes_into_view trusts keeps r site
  endorses_is site = ap (λ b. in_view trusts keeps r site && b) (sym (all_alike r (turns site) (λ n a b ps below h. never site n a b ps below h) declared labelled))
