-- The sites that are gathered as hidden are those that aren't in view, and the crossing ones those of downgrades into view.
use Rattle.std.proofs.Common.{◌≡◌, ℕ, Bool, true, false, not, ◌&&◌, ◌||◌, ◌==◌, if◌then◌else◌, List, [], ◌∷◌, ◌++◌, map, refl, sym, ap, ◌∙◌, subst}
use Rattle.std.specs.List.{flat_map, list_all, list_any}
use Rattle.std.proofs.lemmas.List.Folds.{list_all-append, list_any-append}
use Rattle.fab_tree.specs.declared.resolved.Class.{Class}
use Rattle.fab_tree.specs.declared.resolved.Expression.{Expression}
use Rattle.fab_tree.specs.declared.resolved.Local.{Local}
use Rattle.fab_tree.specs.declared.resolved.Method.{Method}
use Rattle.fab_tree.specs.declared.resolved.Resolved.{Resolved}
use Rattle.fab_tree.specs.declared.resolved.Statement.{Statement, ind-Statement, roll-Statement, fold-roll-Statement, map-Statement}
use Rattle.fab_tree.specs.declared.resolved.Statement.TheOpen as s
use Rattle.fab_labelling.specs.Obligations.{part, under}
use Rattle.fab_labelling.specs.Sites as sites
use Rattle.fab_labelling.specs.Sites.{Sited, all_under, block_sites, method_sites, return_sites, right_sites, sited, sites_in, sites_of, statement_sites}
use Rattle.fab_erasure.specs.Agreement.{Downgrading}
use Rattle.fab_erasure.proofs.Views as views
use Rattle.fab_record.specs.Hidden.{each_hidden, hidden_block, hidden_in, hidden_method, hidden_sites, hidden_step, reads_seen, unless_seen}
use Rattle.fab_sets.specs.Numbers.{is_listed}
use Rattle.fab_record.specs.Views.{crosses, crossing_sites}

module _ (sees : ℕ → Bool) where
  abbrev passes : ℕ → ℕ × List ℕ → Bool
  passes n x = not (x.0 == n) || list_all sees x.1

  -- a site isn't among these exactly where it passes all of those
  pub record Tells (hidden : List ℕ) (xs : Sited) : Type 0 where
    pub by : (n : ℕ) → not (is_listed n hidden) ≡ list_all (passes n) xs

  nothing : Tells [] []
  nothing = record { by = λ n. refl }

  none_or : (a b : Bool) → not (a || b) ≡ (not a && not b)
  none_or true b = refl
  none_or false b = refl

  joined : (hs gs : List ℕ) (xs ys : Sited) → Tells hs xs → Tells gs ys → Tells (hs ++ gs) (xs ++ ys)
  joined hs gs xs ys h g = record {
    by = λ n.
        ap not (list_any-append (λ m. m == n) hs gs)
        ∙ none_or (is_listed n hs) (is_listed n gs)
        ∙ ap (λ b. b && not (is_listed n gs)) (h.by n)
        ∙ ap (λ b. list_all (passes n) xs && b) (g.by n)
        ∙ sym (list_all-append (passes n) xs ys);
  }

  under_one : (pc : List ℕ) (b : Bool) → list_all sees pc ≡ b → (ns : List ℕ) → Tells (unless_seen b ns) (all_under pc ns)
  under_one pc true e ns = record { by = λ n. sym (all_pass n ns) }
    where
      or_true : (c : Bool) → (c || true) ≡ true
      or_true true = refl
      or_true false = refl

      all_pass : (n : ℕ) (ms : List ℕ) → list_all (passes n) (all_under pc ms) ≡ true
      all_pass n [] = refl
      all_pass n (m ∷ ms) = ap (λ c. (not (m == n) || c) && list_all (passes n) (all_under pc ms)) e ∙ ap (λ c. c && list_all (passes n) (all_under pc ms)) (or_true (not (m == n))) ∙ all_pass n ms
  under_one pc false e ns = record { by = λ n. none_pass n ns }
    where
      or_false : (c : Bool) → (c || false) ≡ c
      or_false true = refl
      or_false false = refl

      none_pass : (n : ℕ) (ms : List ℕ) → not (is_listed n ms) ≡ list_all (passes n) (all_under pc ms)
      none_pass n [] = refl
      none_pass n (m ∷ ms) =
          none_or (m == n) (is_listed n ms)
          ∙ ap (λ c. not (m == n) && c) (none_pass n ms)
          ∙ ap (λ c. c && list_all (passes n) (all_under pc ms)) (sym (or_false (not (m == n))))
          ∙ ap (λ c. (not (m == n) || c) && list_all (passes n) (all_under pc ms)) (sym e)

  told_under : (pc ns : List ℕ) → Tells (unless_seen (list_all sees pc) ns) (all_under pc ns)
  told_under pc ns = under_one pc (list_all sees pc) refl ns

  -- ---- along statements

  module _ (classes : List Class) (locals : List Local) where
    pub record OfStatement (x : Statement) : Type 0 where
      pub by : (pc : List ℕ) → Tells (hidden_in sees classes locals x (list_all sees pc)) (sited classes locals x pc)

    abbrev Known : Type 0
    Known = (x : Statement) × OfStatement x

    abbrev bare : List Known → List Statement
    bare ks = map (λ (k : Known). k.0) ks

    abbrev pieces : s.Statement-F Known → s.Statement-F Statement
    pieces y = map-Statement Known Statement (λ k. k.0) y

    in_order : (ks : List Known) (pc : List ℕ) (b : Bool) → list_all sees pc ≡ b
        → Tells (each_hidden (map (hidden_in sees classes locals) (bare ks)) b) (sites.in_order classes locals (map (sited classes locals) (bare ks)) pc)
    in_order [] pc b e = nothing
    in_order (k ∷ ks) pc b e = joined _ _ _ _ (subst (λ c. Tells (hidden_in sees classes locals k.0 c) (sited classes locals k.0 pc)) e (k.1.by pc)) (in_order ks pc b e)

    inside : (pc : List ℕ) (e : Expression) → list_all sees (under pc (part classes locals e).labels) ≡ (list_all sees pc && reads_seen sees classes locals e)
    inside pc e = views.all_under sees pc (part classes locals e).labels

    and_true : (b : Bool) → (b && true) ≡ b
    and_true true = refl
    and_true false = refl

    beneath : (pc : List ℕ) (l : ℕ) → list_all sees (under pc (l ∷ [])) ≡ (list_all sees pc && sees l)
    beneath pc l = views.all_under sees pc (l ∷ []) ∙ ap (λ b. list_all sees pc && b) (and_true (sees l))

    pub record Layered (hide : Bool → List ℕ) (at : List ℕ → Sited) : Type 0 where
      pub by : (pc : List ℕ) → Tells (hide (list_all sees pc)) (at pc)

    layer : (y : s.Statement-F Known) → Layered (hidden_step sees classes locals (map-Statement Statement (Bool → List ℕ) (hidden_in sees classes locals) (pieces y)))
        (statement_sites classes locals (map-Statement Statement (List ℕ → Sited) (sited classes locals) (pieces y)))
    layer (s.Assign x r at) = record { by = λ pc. told_under pc (right_sites r) }
    layer (s.Write x field e site) = record { by = λ pc. told_under pc (site ∷ sites_in e) }
    layer (s.Call x es) = record { by = λ pc. told_under pc (flat_map sites_in es) }
    layer (s.If e a b) = record {
      by = λ pc.
          joined _ _ _ _ (joined _ _ _ _ (told_under pc (sites_in e)) (in_order a (under pc (part classes locals e).labels) _ (inside pc e)))
          (in_order b (under pc (part classes locals e).labels) _ (inside pc e));
    }
    layer (s.While e a) = record { by = λ pc. joined _ _ _ _ (told_under pc (sites_in e)) (in_order a (under pc (part classes locals e).labels) _ (inside pc e)) }
    layer (s.Atomic label a b at) = record {
      by = λ pc.
          joined _ _ _ _ (in_order a (under pc (label.number ∷ [])) _ (beneath pc label.number)) (in_order b (under pc (label.number ∷ [])) _ (beneath pc label.number));
    }
    layer (s.Fail at) = record { by = λ pc. nothing }

    layered : (x : Statement) → Layered (hidden_in sees classes locals x) (sited classes locals x) → OfStatement x
    layered x h = record { by = h.by }

    statements : (x : Statement) → OfStatement x
    statements = ind-Statement OfStatement (λ x y is. subst (λ z. OfStatement (roll-Statement z)) is
        (layered (roll-Statement (pieces y))
        (rw (fold-roll-Statement (Bool → List ℕ) (hidden_step sees classes locals) (pieces y), fold-roll-Statement (List ℕ → Sited) (statement_sites classes locals) (pieces y)) (layer y))))

    blocks : (xs : List Statement) (pc : List ℕ) (b : Bool) → list_all sees pc ≡ b → Tells (hidden_block sees classes locals xs b) (block_sites classes locals xs pc)
    blocks [] pc b e = nothing
    blocks (x ∷ xs) pc b e = joined _ _ _ _ (subst (λ c. Tells (hidden_in sees classes locals x c) (sited classes locals x pc)) e ((statements x).by pc)) (blocks xs pc b e)

  a_method : (classes : List Class) (m : Method) → Tells (hidden_method sees classes m) (method_sites classes m)
  a_method classes m =
      let pc = m.begin.number ∷ [] in
      joined _ _ _ _ (blocks classes m.locals m.body pc (sees m.begin.number) (begins (sees m.begin.number))) (under_one pc (sees m.begin.number) (begins (sees m.begin.number))
      (return_sites m.result))
    where
      begins : (b : Bool) → (b && true) ≡ b
      begins true = refl
      begins false = refl

  methods : (classes : List Class) (ms : List Method) → Tells (flat_map (hidden_method sees classes) ms) (flat_map (method_sites classes) ms)
  methods classes [] = nothing
  methods classes (m ∷ ms) = joined _ _ _ _ (a_method classes m) (methods classes ms)

  pub hidden_are : (r : Resolved) → Tells (hidden_sites sees r) (sites_of r)
  hidden_are r = methods r.classes r.methods

  -- ---- downgrades

  pub crossing_are : (ds : List Downgrading) (n : ℕ) → is_listed n (crossing_sites sees ds) ≡ list_any (λ d. (d.0 == n) && (not (sees d.1.0) && sees d.1.1)) ds
  crossing_are [] n = refl
  crossing_are (d ∷ ds) n = list_any-append (λ m. m == n) (if crosses sees d then d.0 ∷ [] else []) (crossing_sites sees ds) ∙ by (crosses sees d) (crossing_are ds n)
    where
      or_false : (c : Bool) → (c || false) ≡ (c && true)
      or_false true = refl
      or_false false = refl

      and_false : (c : Bool) → false ≡ (c && false)
      and_false true = refl
      and_false false = refl

      by : (b : Bool) → is_listed n (crossing_sites sees ds) ≡ list_any (λ (x : Downgrading). (x.0 == n) && (not (sees x.1.0) && sees x.1.1)) ds
          → (is_listed n (if b then d.0 ∷ [] else []) || is_listed n (crossing_sites sees ds))
          ≡ (((d.0 == n) && b) || list_any (λ (x : Downgrading). (x.0 == n) && (not (sees x.1.0) && sees x.1.1)) ds)
      by true h = ap (λ c. c || is_listed n (crossing_sites sees ds)) (or_false (d.0 == n)) ∙ ap (λ c. ((d.0 == n) && true) || c) h
      by false h = ap (λ c. c || is_listed n (crossing_sites sees ds)) (and_false (d.0 == n)) ∙ ap (λ c. ((d.0 == n) && false) || c) h
