-- The rest of a block goes behind others only where something is left of it.
use Rattle.std.proofs.Common.{◌≡◌, ◌==◌, false, List, [], ◌∷◌, ◌++◌, length, map, refl, sym, ap, ◌∙◌, subst, append_assoc}
use Rattle.std.proofs.lemmas.Bool.{true≢false}
use Rattle.std.proofs.lemmas.List.{map-append}
use Rattle.std.specs.List.{AllByRecursion}
use Rattle.fab_base.specs.declared.object.Tid.{Tid}
use Rattle.fab_base.specs.FlatMap.{FlatMap}
use Rattle.fab_tree.specs.declared.resolved.Statement.{Statement}
use Rattle.fab_language.specs.Heaps.{Heap}
use Rattle.fab_language.specs.Meaning.{State, M, Run, goes, ends}
use Rattle.fab_left.specs.Deeds.{Deed, into, again, trying}
use Rattle.fab_left.specs.Left as left
use Rattle.fab_left.specs.Left.{Place, Means, left, rest, tried, resume, finish, whole, wider, wider_entry, StemsIn, AllStem}
use Rattle.fab_left.specs.Steps.{IsSplit}
use Rattle.fab_left.proofs.Stacks.{finish_more}
use Rattle.fab_stack.specs.declared.stack.Entry.{Entry}
use Rattle.fab_stack.specs.Stacks.{behind, entries_of, trials}
use Rattle.fab_stack.specs.Stepping.{GoesOn}
use Rattle.fab_stack.proofs.Stacks.{leads_here, put_one}

module _ (m : Means) (first : Place) where
  over : (p : Place) (r : Run (Unit {0})) → resume m (rest p []) r ≡ r
  over p (goes a t) = refl
  over p (ends e t) = refl

  -- the same is left with a block of which nothing is left, and without
  pub without : (ks zs : List left.Entry) (p : Place) (t : State) (more : FlatMap) → left m first (ks ++ rest p [] ∷ zs) t more ≡ left m first (ks ++ zs) t more
  without ks zs p t more =
      let run = goes tt (wider more t) in
      let front = map (wider_entry more) ks in
      let back = map (wider_entry more) zs in
      ap (λ l. whole m first (finish m l run)) (map-append (wider_entry more) ks (rest p [] ∷ zs))
      ∙ ap (whole m first) (finish_more m front (rest p [] ∷ back) run ∙ ap (finish m front) (over p (finish m back run)) ∙ sym (finish_more m front back run))
      ∙ ap (λ l. whole m first (finish m l run)) (sym (map-append (wider_entry more) ks zs))

  -- so it is with what is left behind others
  pub left_behind : (ks : List left.Entry) (p : Place) (ss : List Statement) (t : State) (more : FlatMap) → left m first (ks ++ rest p ss ∷ []) t more ≡ left m first (behind ks p ss) t more
  left_behind ks p [] t more = without ks [] p t more ∙ ap (λ l. left m first l t more) (nothing ks)
    where
      nothing : (l : List left.Entry) → l ++ [] ≡ l
      nothing [] = refl
      nothing (k ∷ l) = ap (λ j. k ∷ j) (nothing l)
  left_behind ks p (s ∷ ss) t more = refl

  module _ (tid : Tid) (known : FlatMap) (js : List left.Entry) (s : State) (ks zs : List left.Entry) (p : Place) (t : State) where
    kept : (ls : List left.Entry) → AllByRecursion (StemsIn tid known) (ls ++ rest p [] ∷ zs) → AllByRecursion (StemsIn tid known) (ls ++ zs)
    kept [] h = h.1
    kept (k ∷ ls) h = (h.0, kept ls h.1)

    pub behind_on : (ss : List Statement) → GoesOn m first tid known js s (ks ++ rest p ss ∷ zs) t → GoesOn m first tid known js s (behind ks p ss ++ zs) t
    behind_on [] g = record { same = λ more fresh. g.same more fresh ∙ without ks zs p t more; stem = record { state = g.stem.state; entries = kept ks g.stem.entries } }
    behind_on (r ∷ ss) g = subst (λ (l : List left.Entry). GoesOn m first tid known js s l t) (sym (append_assoc ks (rest p (r ∷ ss) ∷ []) zs)) g

pub stems_behind : (tid : Tid) (known : FlatMap) (ks : List left.Entry) (p : Place) (ss : List Statement) (t : State) → AllStem tid known (ks ++ rest p ss ∷ []) t → AllStem tid known (behind ks p ss) t
stems_behind tid known ks p [] t h = record { state = h.state; entries = front ks h.entries }
  where
    front : (ls : List left.Entry) → AllByRecursion (StemsIn tid known) (ls ++ rest p [] ∷ []) → AllByRecursion (StemsIn tid known) ls
    front [] g = tt
    front (k ∷ ls) g = (g.0, front ls g.1)
stems_behind tid known ks p (s ∷ ss) t h = h

-- ---- where a statement leads, with what comes next in hand

module _ (m : Means) (tid : Tid) (does : Place → Statement → M Deed) (split : IsSplit m tid does) (first : Place) (known : FlatMap) (ks : List left.Entry) (p : Place) (s : Statement) (ss : List Statement) (t u : State)
    (st : AllStem tid known (ks ++ rest p (s ∷ ss) ∷ []) t) where
  pub leads_into : (a : List Statement) (new : List left.Entry) → does p s t ≡ goes (into a) u → new ≡ behind ks p ss → GoesOn m first tid known (ks ++ rest p (s ∷ ss) ∷ []) t (new ++ rest p a ∷ []) u
  leads_into a new e is = rw is (behind_on m first tid known (ks ++ rest p (s ∷ ss) ∷ []) t ks (rest p a ∷ []) p u ss (leads_here m tid does split first known ks p s ss t u (into a) _ tt e st refl))

  pub leads_again : (a all : List Statement) (new : List left.Entry) → all ≡ s ∷ ss → does p s t ≡ goes (again a) u → new ≡ behind ks p all → GoesOn m first tid known (ks ++ rest p (s ∷ ss) ∷ []) t (new ++ rest p a ∷ []) u
  leads_again a all new f e is =
      rw (is, f) (behind_on m first tid known (ks ++ rest p (s ∷ ss) ∷ []) t ks (rest p a ∷ []) p u (s ∷ ss) (leads_here m tid does split first known ks p s ss t u (again a) _ tt e st refl))

  pub leads_try : (a b : List Statement) (mid new : List left.Entry) → does p s t ≡ goes (trying a b) u → mid ≡ behind ks p ss → new ≡ mid ++ tried p u.locals u.heap b ∷ []
      → GoesOn m first tid known (ks ++ rest p (s ∷ ss) ∷ []) t (new ++ rest p a ∷ []) u
  leads_try a b mid new e f is =
      rw (is, f) (subst (λ (l : List left.Entry). GoesOn m first tid known (ks ++ rest p (s ∷ ss) ∷ []) t l u) (sym (append_assoc (behind ks p ss) (tried p u.locals u.heap b ∷ []) (rest p a ∷ [])))
      (behind_on m first tid known (ks ++ rest p (s ∷ ss) ∷ []) t ks (tried p u.locals u.heap b ∷ rest p a ∷ []) p u ss (leads_here m tid does split first known ks p s ss t u (trying a b) _ tt e st refl)))

-- ---- as it is put there

pub put_behind : (old new : List Entry) (k : Entry) (p : Place) (ss : List Statement) (heaps : List Heap) → (length ss == 0) ≡ false → new ≡ old ++ k ∷ [] → trials (k ∷ []) ≡ 0 → entries_of (k ∷ []) heaps ≡ rest p ss ∷ []
    → entries_of new heaps ≡ behind (entries_of old heaps) p ss
put_behind old new k p [] heaps some e z is = absurd (true≢false some)
put_behind old new k p (s ∷ ss) heaps some e z is = put_one old new k heaps e z ∙ ap (λ l. entries_of old heaps ++ l) is

-- the block that is first in hand isn't empty
pub put_first : (ks new : List left.Entry) (p : Place) (s : Statement) (ss all : List Statement) → all ≡ s ∷ ss → new ≡ behind ks p all → new ≡ ks ++ rest p all ∷ []
put_first ks new p s ss all e is = is ∙ subst (λ (l : List Statement). behind ks p l ≡ ks ++ rest p l ∷ []) (sym e) refl
