-- Journals by the numbers of their nodes, and the list of those that there are.
use Rattle.std.specs.Prelude.{◌≡◌, ℕ, zero, suc, ◌+◌, ◌<◌, Bool, cond, IsTrue, IsFalse, List, [], ◌∷◌, Option, Some, None}
use Rattle.std.specs.List.{filter, range_with_len}
use Rattle.std.proofs.Common.{sym, subst, arith}
use Rattle.fab_tree.specs.declared.resolved.Resolved.{Resolved}
use Rattle.fab_device.specs.Kept.{Entry}
use Rattle.fab_node.specs.Standing.{JournalModel}
use Rattle.fab_core.specs.Cores.{slot}
use Rattle.fab_core.specs.Telling.{those_in}
use Rattle.fab_core.specs.Honest.{AreFor}
use Rattle.fab_replay.specs.Running.{entries_of, entry_of}

-- where there is a journal exactly at nodes of this kind
abbrev pub StandsAt : (ℕ → Bool) → (ℕ → JournalModel → Type 0) → ℕ → Option JournalModel → Type 0
StandsAt h Q n None = IsFalse (h n)
StandsAt h Q n (Some journal) = IsTrue (h n) × Q n journal

-- from a number on
abbrev StandFrom : (ℕ → Bool) → (ℕ → JournalModel → Type 0) → ℕ → List (Option JournalModel) → Type 0
StandFrom h Q k js = (n i : ℕ) → n ≡ k + i → StandsAt h Q n (slot js i)

later : (h : ℕ → Bool) (Q : ℕ → JournalModel → Type 0) (k : ℕ) (x : Option JournalModel) (js : List (Option JournalModel)) → StandFrom h Q k (x ∷ js) → StandFrom h Q (k + 1) js
later h Q k x js s n i e = s n (suc i) (omega (arith, e))

module _ (h : ℕ → Bool) (Q : ℕ → JournalModel → Type 0) where
  here : (k : ℕ) (x : Option JournalModel) (js : List (Option JournalModel)) → StandFrom h Q k (x ∷ js) → StandsAt h Q k x
  here k x js s = s k 0 (omega arith)

  -- a number more: a node of the kind stands for itself, and another for nothing
  with_here : (k : ℕ) (x : Option JournalModel) (ns : List ℕ) (xs : List (Option JournalModel)) → StandsAt h Q k x → AreFor Q ns (those_in xs)
      → AreFor Q (cond (h k) (k ∷ ns) ns) (those_in (x ∷ xs))
  with_here k None ns xs s e = subst (λ b. AreFor Q (cond b (k ∷ ns) ns) (those_in xs)) (sym s) e
  with_here k (Some j) ns xs s e = subst (λ b. AreFor Q (cond b (k ∷ ns) ns) (j ∷ those_in xs)) (sym s.0) (s.1, e)

  without : (k : ℕ) (ns : List ℕ) (xs : List JournalModel) → IsFalse (h k) → AreFor Q ns xs → AreFor Q (cond (h k) (k ∷ ns) ns) xs
  without k ns xs s e = subst (λ b. AreFor Q (cond b (k ∷ ns) ns) xs) (sym s) e

  pub aligned : (k m : ℕ) (js : List (Option JournalModel)) → StandFrom h Q k js → ((n : ℕ) → IsTrue (h n) → n < k + m) → AreFor Q (filter h (range_with_len k m)) (those_in js)
  aligned k zero [] s few = tt
  aligned k zero (x ∷ js) s few = skip x (here k x js s) (aligned (k + 1) zero js (later h Q k x js s) (λ n p. omega (arith, few n p)))
    where
      skip : (x : Option JournalModel) → StandsAt h Q k x → AreFor Q [] (those_in js) → AreFor Q [] (those_in (x ∷ js))
      skip None at e = e
      skip (Some j) at e = absurd (omega (arith, few k at.0))
  aligned k (suc m) [] s few =
      without k (filter h (range_with_len (k + 1) m)) [] (s k 0 (omega arith))
      (aligned (k + 1) m [] (λ n i e. s n (suc i) (omega (arith, e))) (λ n p. omega (arith, few n p)))
  aligned k (suc m) (x ∷ js) s few =
      with_here k x (filter h (range_with_len (k + 1) m)) js (here k x js s) (aligned (k + 1) m js (later h Q k x js s) (λ n p. omega (arith, few n p)))

-- and back: what is known of the list is known at each place
module _ (h : ℕ → Bool) (Q R : ℕ → JournalModel → Type 0) where
  not_here : (k : ℕ) (ns : List ℕ) (xs : List JournalModel) → IsFalse (h k) → AreFor R (cond (h k) (k ∷ ns) ns) xs → AreFor R ns xs
  not_here k ns xs s e = subst (λ b. AreFor R (cond b (k ∷ ns) ns) xs) s e

  one_here : (k : ℕ) (j : JournalModel) (ns : List ℕ) (xs : List JournalModel) → IsTrue (h k) → AreFor R (cond (h k) (k ∷ ns) ns) (j ∷ xs) → R k j × AreFor R ns xs
  one_here k j ns xs s e = subst (λ b. AreFor R (cond b (k ∷ ns) ns) (j ∷ xs)) s e

  pub placed : (k m : ℕ) (js : List (Option JournalModel)) → StandFrom h Q k js → ((n : ℕ) → IsTrue (h n) → n < k + m) → AreFor R (filter h (range_with_len k m)) (those_in js)
      → (i : ℕ) (j : JournalModel) → slot js i ≡ Some j → R (k + i) j
  placed k m [] s few e i j is = absurd (cc)
  placed k zero (None ∷ js) s few e zero j is = absurd (cc)
  placed k zero (None ∷ js) s few e (suc i) j is =
      let r = placed (k + 1) zero js (later h Q k None js s) (λ n p. omega (arith, few n p)) e i j is in
      subst (λ n. R n j) (omega arith) r
  placed k zero (Some x ∷ js) s few e i j is = absurd e
  placed k (suc m) (None ∷ js) s few e zero j is = absurd (cc)
  placed k (suc m) (None ∷ js) s few e (suc i) j is =
      let r = placed (k + 1) m js (later h Q k None js s) (λ n p. omega (arith, few n p))
      (not_here k (filter h (range_with_len (k + 1) m)) (those_in js) (s k 0 (omega arith)) e) i j is in
      subst (λ n. R n j) (omega arith) r
  placed k (suc m) (Some x ∷ js) s few e zero j is =
      let p = one_here k x (filter h (range_with_len (k + 1) m)) (those_in js) (s k 0 (omega arith)).0 e in
      let same : x ≡ j = cc in
      subst (λ n. R n j) (omega arith) (subst (R k) same p.0)
  placed k (suc m) (Some x ∷ js) s few e (suc i) j is =
      let p = one_here k x (filter h (range_with_len (k + 1) m)) (those_in js) (s k 0 (omega arith)).0 e in
      let r = placed (k + 1) m js (later h Q k (Some x) js s) (λ n q. omega (arith, few n q)) p.1 i j is in
      subst (λ n. R n j) (omega arith) r

-- the entries of journals are for their nodes
pub entries_for : (r : Resolved) (Q : ℕ → JournalModel → Type 0) (P : ℕ → Entry → Type 0) → ((n : ℕ) (j : JournalModel) → Q n j → P n (entry_of r n j))
    → (ns : List ℕ) (js : List JournalModel) → AreFor Q ns js → AreFor P ns (entries_of r ns js)
entries_for r Q P f [] [] h = tt
entries_for r Q P f (n ∷ ns) (j ∷ js) h = (f n j h.0, entries_for r Q P f ns js h.1)
entries_for r Q P f [] (j ∷ js) h = absurd h
entries_for r Q P f (n ∷ ns) [] h = absurd h
