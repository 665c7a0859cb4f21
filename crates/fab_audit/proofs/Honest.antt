-- The nodes that aren't hostile, as a core numbers them and as they are taken out of all.
use Rattle.std.specs.Prelude.{◌≡◌, ℕ, zero, suc, ◌+◌, ◌==◌, Bool, true, false, not, ◌&&◌, ◌||◌, cond, IsTrue, List, [], ◌∷◌, ◌++◌}
use Rattle.std.specs.List.{AllByRecursion, filter, list_any, range_with_len}
use Rattle.std.proofs.Common.{refl, sym, ap, ◌∙◌, subst, arith}
use Rattle.std.proofs.lemmas.Bool.{and_from, eqb-true}
use Rattle.std.proofs.lemmas.List.Elements.{filter-append}
use Rattle.fab_tree.specs.declared.resolved.Resolved.{Resolved}
use Rattle.fab_rights.specs.declared.rights.Rights.{Rights}
use Rattle.fab_rights.specs.Computed.{is_node}
use Rattle.fab_settings.specs.Settings.{is_hostile_node}
use Rattle.fab_node.specs.Standing.{GivenModel}
use Rattle.fab_core.specs.Cores.{is_honest}
use Rattle.fab_core.specs.Honest.{honest_in, honest_up}
use Rattle.fab_evidence.specs.declared.shown.ShownJournal.{ShownJournal}
use Rattle.fab_evidence.specs.Texts.{AreOf, behind}
use Rattle.fab_audit.specs.Keeping.{IsShownOf}
use Rattle.fab_audit.specs.Runs.{honest_nodes}

range_behind : (a n : ℕ) → range_with_len a (suc n) ≡ range_with_len a n ++ (a + n) ∷ []
range_behind a zero = ap (λ k. k ∷ []) (let e : a ≡ a + 0 = omega arith in e)
range_behind a (suc n) =
    ap (λ xs. a ∷ xs) (range_behind (a + 1) n) ∙ ap (λ k. a ∷ (range_with_len (a + 1) n ++ k ∷ [])) (let e : a + 1 + n ≡ a + suc n = omega arith in e)

range_to : (n : ℕ) → range_with_len 0 (suc n) ≡ range_with_len 0 n ++ n ∷ []
range_to n = range_behind 0 n ∙ ap (λ k. range_with_len 0 n ++ k ∷ []) (let e : 0 + n ≡ n = omega arith in e)

module _ (g : GivenModel) where
  abbrev is_one : ℕ → Bool
  is_one n = not (is_hostile_node g.program n)

  one_by : (node good : Bool) (n : ℕ) → is_one n ≡ good → cond (node && good) (n ∷ []) [] ≡ filter is_one (cond node (n ∷ []) [])
  one_by true true n e = ap (λ b. cond b (n ∷ []) []) (sym e)
  one_by true false n e = ap (λ b. cond b (n ∷ []) []) (sym e)
  one_by false good n e = refl

  honest_alike : (n : ℕ) → honest_up g n ≡ filter is_one (filter (is_node g.rights) (range_with_len 0 n))
  unfolding honest_up
  honest_alike zero = refl
  honest_alike (suc n) =
      let p = is_node g.rights in
      ap (λ xs. xs ++ cond (is_honest g n) (n ∷ []) []) (honest_alike n)
      ∙ ap (λ ys. filter is_one (filter p (range_with_len 0 n)) ++ ys) (one_by (p n) (is_one n) n refl)
      ∙ sym (filter-append is_one (filter p (range_with_len 0 n)) (filter p (n ∷ [])))
      ∙ ap (filter is_one) (sym (filter-append p (range_with_len 0 n) (n ∷ [])))
      ∙ ap (λ xs. filter is_one (filter p xs)) (sym (range_to n))

  pub same_nodes : honest_in g ≡ honest_nodes g.program g.rights
  same_nodes = honest_alike 64

-- ---- journals that are shown are of these nodes

module _ (r : Resolved) (rights : Rights) (g : GivenModel) (program : r ≡ g.program) (same : rights ≡ g.rights) where
  -- who is among them isn't hostile
  among_is : (p q : ℕ → Bool) (ns : List ℕ) (m : ℕ) → list_any (λ n. n == m) (filter q (filter p ns)) ≡ true → (p m && q m) ≡ true
  among_is p q [] m h = absurd (cc)
  among_is p q (n ∷ ns) m h = by (among_is p q ns m) (p n) (q n) refl refl h
    where
      first : (p n ≡ true) → (q n ≡ true) → (list_any (λ n. n == m) (filter q (filter p ns)) ≡ true → (p m && q m) ≡ true) → (b : Bool) → (n == m) ≡ b
          → (b || list_any (λ n. n == m) (filter q (filter p ns))) ≡ true → (p m && q m) ≡ true
      first s t later true e h = let here : n ≡ m = eqb-true n m e in subst (λ k. (p k && q k) ≡ true) here (and_from (p n) (q n) s t)
      first s t later false e h = later h

      by : (list_any (λ n. n == m) (filter q (filter p ns)) ≡ true → (p m && q m) ≡ true) → (a b : Bool) → p n ≡ a → q n ≡ b
          → list_any (λ n. n == m) (filter q (cond a (n ∷ filter p ns) (filter p ns))) ≡ true → (p m && q m) ≡ true
      by later false b s t h = later h
      by later true true s t h =
          first s t later (n == m) refl (subst (λ c. list_any (λ n. n == m) (cond c (n ∷ filter q (filter p ns)) (filter q (filter p ns))) ≡ true) t h)
      by later true false s t h = later (subst (λ c. list_any (λ n. n == m) (cond c (n ∷ filter q (filter p ns)) (filter q (filter p ns))) ≡ true) t h)

  -- those behind are among them, too
  among_behind : (k : ℕ) (ns : List ℕ) (m : ℕ) → list_any (λ n. n == m) (behind k ns) ≡ true → list_any (λ n. n == m) ns ≡ true
  among_behind k [] m h = absurd (cc)
  among_behind k (n ∷ ns) m h = by (n == k) h (among_behind k ns m)
    where
      or_true : (b : Bool) → b || true ≡ true
      or_true true = refl
      or_true false = refl

      by : (b : Bool) → list_any (λ n. n == m) (cond b ns (behind k ns)) ≡ true → (list_any (λ n. n == m) (behind k ns) ≡ true → list_any (λ n. n == m) ns ≡ true)
          → ((n == m) || list_any (λ n. n == m) ns) ≡ true
      by true h later = ap (λ c. (n == m) || c) h ∙ or_true (n == m)
      by false h later = ap (λ c. (n == m) || c) (later h) ∙ or_true (n == m)

  are_shown : (ns : List ℕ) (journals : List ShownJournal) → ((m : ℕ) → list_any (λ n. n == m) ns ≡ true → IsTrue (is_honest g m)) → AreOf ns journals
      → AllByRecursion (IsShownOf g) journals
  are_shown ns [] honest of = tt
  are_shown ns (journal ∷ more) honest of =
      (honest journal.node of.0, are_shown (behind journal.node ns) more (λ m h. honest m (among_behind journal.node ns m h)) of.2)

  honest_among : (m : ℕ) → list_any (λ n. n == m) (honest_nodes r rights) ≡ true → IsTrue (is_honest g m)
  honest_among m h =
      among_is (is_node g.rights) (λ n. not (is_hostile_node g.program n)) (range_with_len 0 64) m
      (subst (λ (x : Rights). list_any (λ n. n == m) (honest_nodes g.program x) ≡ true) same (subst (λ (x : Resolved). list_any (λ n. n == m) (honest_nodes x rights) ≡ true) program h))

  pub all_shown : (journals : List ShownJournal) → AreOf (honest_nodes r rights) journals → AllByRecursion (IsShownOf g) journals
  all_shown journals of = are_shown (honest_nodes r rights) journals honest_among of
