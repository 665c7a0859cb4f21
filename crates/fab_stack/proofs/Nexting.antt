-- A statement that is the first of a block, and the end of a call, as they stand in the code.
use Rattle.std.proofs.Common.{◌≡◌, ℕ, List, [], ◌∷◌, ◌++◌, length, sym, subst, arith}
use Rattle.fab_base.specs.declared.object.Oid.{Oid}
use Rattle.fab_base.specs.declared.object.Tid.{Tid}
use Rattle.fab_base.specs.declared.object.Stop.{Stop}
use Rattle.fab_base.specs.FlatMap.{FlatMap}
use Rattle.fab_tree.specs.declared.resolved.Statement.{Statement}
use Rattle.fab_language.specs.Meaning.{State, M, ends, failed, stopped, missing}
use Rattle.fab_left.specs.Deeds.{Deed}
use Rattle.fab_left.specs.Left as left
use Rattle.fab_left.specs.Left.{Place, Means, rest, AllStem}
use Rattle.fab_left.specs.Steps.{EndsSo, IsSplit}
use Rattle.fab_stack.specs.Stepping.{GoesOn, FailsSo, LacksSo}
use Rattle.fab_stack.proofs.Stacks.{block_passes, act_fails, act_stops, act_misses}

module _ (m : Means) (tid : Tid) (does : Place → Statement → M Deed) (split : IsSplit m tid does) (first : Place) (known : FlatMap) (ks new : List left.Entry) where
  module _ (p : Place) (t u : State) (is : new ≡ ks) where
    pub empty : (ss : List Statement) → length ss ≡ 0 → AllStem tid known (ks ++ rest p ss ∷ []) t → u ≡ t → GoesOn m first tid known (ks ++ rest p ss ∷ []) t new u
    empty [] e st same = rw (is, same) (block_passes m tid does split first known ks p t st)
    empty (s ∷ ss) e st same = absurd (omega (arith, e))

    pub fails_at : (s : Statement) (ss all : List Statement) → all ≡ s ∷ ss → does p s t ≡ ends failed u → AllStem tid known (ks ++ rest p all ∷ []) t → FailsSo m first tid known (ks ++ rest p all ∷ []) t new u
    fails_at s ss all e a st =
        subst (λ (l : List Statement). AllStem tid known (ks ++ rest p l ∷ []) t → FailsSo m first tid known (ks ++ rest p l ∷ []) t new u) (sym e)
        (λ h. rw is (act_fails m tid does split first known ks p s ss t u a h)) st

    pub stops_at : (s : Statement) (ss all : List Statement) (stop : Stop) → all ≡ s ∷ ss → does p s t ≡ ends (stopped stop) u → AllStem tid known (ks ++ rest p all ∷ []) t → EndsSo m first tid known new (stopped stop) u (ks ++ rest p all ∷ []) t
    stops_at s ss all stop e a st =
        subst (λ (l : List Statement). AllStem tid known (ks ++ rest p l ∷ []) t → EndsSo m first tid known new (stopped stop) u (ks ++ rest p l ∷ []) t) (sym e)
        (λ h. rw is (act_stops m tid does split first known ks p s ss t u stop a h)) st

  pub misses_at : (p : Place) (t u : State) (s : Statement) (ss all : List Statement) (site : ℕ) (o : Oid) → new ≡ ks ++ rest p all ∷ [] → all ≡ s ∷ ss → does p s t ≡ ends (missing site o) u → LacksSo m first site o (ks ++ rest p all ∷ []) t new u
  misses_at p t u s ss all site o is e a =
      subst (λ (l : List Statement). new ≡ ks ++ rest p l ∷ [] → LacksSo m first site o (ks ++ rest p l ∷ []) t new u) (sym e)
      (λ h. act_misses m tid does split first known ks p s ss t u site o new a h) is
