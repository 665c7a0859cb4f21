-- Steps one after another, and the ends of a run.
use Rattle.std.proofs.Common.{◌≡◌, ℕ, suc, List, [], ◌∷◌, ◌++◌, length, take, Option, Ok, Err, refl, sym, ap, ◌∙◌, subst, arith}
use Rattle.fab_base.specs.declared.object.Oid.{Oid}
use Rattle.fab_base.specs.declared.object.Tid.{Tid}
use Rattle.fab_base.specs.declared.object.Value.{Value}
use Rattle.fab_base.specs.declared.object.Stop.{Stop}
use Rattle.fab_base.specs.FlatMap.{FlatMap}
use Rattle.fab_tree.specs.declared.resolved.Statement.{Statement}
use Rattle.fab_language.specs.Heaps.{Heap, touched}
use Rattle.fab_language.specs.Meaning.{State, ends, failed, stopped, missing, M, back_with}
use Rattle.fab_left.specs.Deeds.{Deed}
use Rattle.fab_left.specs.Left as left
use Rattle.fab_left.specs.Left.{Place, Means, left, rest, tried, returning, AllStem, DiffersLittle, before}
use Rattle.fab_left.specs.Steps.{EndsSo, IsSplit, ended}
use Rattle.fab_left.proofs.Stepping.{all_ended, block_failed, call_failed, trial_failed}
use Rattle.fab_left.proofs.Stemming.{caught_stems, popped_stems}
use Rattle.fab_left.proofs.Lacking.{put_back}
use Rattle.fab_stack.specs.declared.stack.Entry.{Entry}
use Rattle.fab_stack.specs.declared.stepping.Fall.{Fall}
use Rattle.fab_stack.specs.declared.stepping.Fall.TheVariants as falls
use Rattle.fab_stack.specs.declared.stepping.Way.{Way}
use Rattle.fab_stack.specs.declared.stepping.Way.TheVariants.{Over, Lacks}
use Rattle.fab_stack.specs.declared.halt.End.TheVariants.{Failed, Stopped, Missing}
use Rattle.fab_stack.specs.Points.{top_of, under}
use Rattle.fab_stack.specs.Stacks.{behind, entries_of, trials, heap_at}
use Rattle.fab_stack.specs.Stepping.{GoesOn, FailsSo, Falls, LacksSo, Runs}
use Rattle.fab_stack.proofs.Stacks.{put_one, put_try, trials_more}
use Rattle.fab_stack.proofs.Behind.{left_behind, stems_behind}

-- ---- a failure goes on

module _ (m : Means) (first : Place) where
  pub unwinds_block : (old new : List Entry) (k : Entry) (p : Place) (ss : List Statement) (heaps : List Heap) (t : State) (more : FlatMap) → old ≡ new ++ k ∷ [] → trials (k ∷ []) ≡ 0 → entries_of (k ∷ []) heaps ≡ rest p ss ∷ []
      → ended m first (entries_of old heaps) failed t more ≡ ended m first (entries_of new heaps) failed t more
  unwinds_block old new k p ss heaps t more e z is =
      ap (λ l. ended m first l failed t more) (put_one new old k heaps e z ∙ ap (λ l. entries_of new heaps ++ l) is) ∙ block_failed m first (entries_of new heaps) p ss t more

  pub unwinds_call : (old new : List Entry) (k : Entry) (callee caller : Place) (locals : List Value) (target : Option ℕ) (heaps : List Heap) (t : State) (more : FlatMap) → old ≡ new ++ k ∷ [] → trials (k ∷ []) ≡ 0
      → entries_of (k ∷ []) heaps ≡ returning callee caller locals target ∷ [] → ended m first (entries_of old heaps) failed t more ≡ ended m first (entries_of new heaps) failed (record t { locals = locals }) more
  unwinds_call old new k callee caller locals target heaps t more e z is =
      ap (λ l. ended m first l failed t more) (put_one new old k heaps e z ∙ ap (λ l. entries_of new heaps ++ l) is) ∙ call_failed m first (entries_of new heaps) callee caller locals target t more

  -- at the last block that is tried
  pub caught : (old mid new : List Entry) (k : Entry) (p : Place) (locals : List Value) (ss : List Statement) (heaps : List Heap) (t : State) (more : FlatMap) → old ≡ mid ++ k ∷ [] → trials (k ∷ []) ≡ 1 → trials old ≡ length heaps
      → entries_of (k ∷ []) heaps ≡ tried p locals (heap_at 0 heaps) ss ∷ [] → entries_of new (under heaps) ≡ behind (entries_of mid (under heaps)) p ss
      → ended m first (entries_of old heaps) failed t more ≡ left m first (entries_of new (under heaps)) (record t { locals = locals; heap = top_of heaps t.heap }) more
  caught old mid new k p locals ss [] t more e one count is f = absurd (none (sym (trials_more mid k one) ∙ ap trials (sym e) ∙ count))
    where
      none : suc (trials mid) ≡ 0 → ⊥
      none g = omega (arith, g)
  caught old mid new k p locals ss (h ∷ heaps) t more e one count is f =
      ap (λ l. ended m first l failed t more) (put_try mid old k h heaps e one ∙ ap (λ l. entries_of mid heaps ++ l) is)
      ∙ trial_failed m first (entries_of mid heaps) p locals h ss t more
      ∙ left_behind m first (entries_of mid heaps) p ss (record t { locals = locals; heap = h }) more
      ∙ ap (λ l. left m first l (record t { locals = locals; heap = h }) more) (sym f)

module _ (tid : Tid) (known : FlatMap) where
  pub unwound_stems : (old new : List Entry) (k : Entry) (e : left.Entry) (heaps : List Heap) (t : State) (locals : List Value) → old ≡ new ++ k ∷ [] → trials (k ∷ []) ≡ 0 → entries_of (k ∷ []) heaps ≡ e ∷ []
      → AllStem tid known (entries_of old heaps) t → AllStem tid known (entries_of new heaps) (record t { locals = locals })
  unwound_stems old new k e heaps t locals f z is st =
      popped_stems tid known (entries_of new heaps) e t locals (subst (λ (l : List left.Entry). AllStem tid known l t) (put_one new old k heaps f z ∙ ap (λ l. entries_of new heaps ++ l) is) st)

  pub caught_stem : (old mid new : List Entry) (k : Entry) (p : Place) (locals : List Value) (ss : List Statement) (heaps : List Heap) (t : State) → old ≡ mid ++ k ∷ [] → trials (k ∷ []) ≡ 1 → trials old ≡ length heaps
      → entries_of (k ∷ []) heaps ≡ tried p locals (heap_at 0 heaps) ss ∷ [] → entries_of new (under heaps) ≡ behind (entries_of mid (under heaps)) p ss
      → AllStem tid known (entries_of old heaps) t → AllStem tid known (entries_of new (under heaps)) (record t { locals = locals; heap = top_of heaps t.heap })
  caught_stem old mid new k p locals ss [] t e one count is f st = absurd (none (sym (trials_more mid k one) ∙ ap trials (sym e) ∙ count))
    where
      none : suc (trials mid) ≡ 0 → ⊥
      none g = omega (arith, g)
  caught_stem old mid new k p locals ss (h ∷ heaps) t e one count is f st =
      subst (λ (l : List left.Entry). AllStem tid known l (record t { locals = locals; heap = h })) (sym f)
      (stems_behind tid known (entries_of mid heaps) p ss (record t { locals = locals; heap = h })
      (caught_stems tid known (entries_of mid heaps) p locals h ss t (subst (λ (l : List left.Entry). AllStem tid known l t) (put_try mid old k h heaps e one ∙ ap (λ l. entries_of mid heaps ++ l) is) st)))

-- ---- steps one after another

module _ (means : Tid → Means) (first : Place) (known : FlatMap) (a b : Tid) (js is ks : List left.Entry) (r s t : State) where
  pub run_on : b ≡ a → GoesOn (means a) first a known js r is s → (AllStem b known is s → GoesOn (means b) first b known is s ks t) → GoesOn (means a) first a known js r ks t
  run_on e g f =
      let h = subst (λ (x : Tid). AllStem x known is s → GoesOn (means x) first x known is s ks t) e f g.stem in
      record { same = λ more fresh. g.same more fresh ∙ h.same more fresh; stem = h.stem }

  ends_at : (way : Way) → GoesOn (means a) first a known js r is s → Runs (means a) first a known way is s ks t → Runs (means a) first a known way js r ks t
  ends_at (Over (Ok v)) g h = g.same [] tt ∙ h
  ends_at (Over (Err Failed)) g h = g.same [] tt ∙ h
  ends_at (Over (Err (Stopped stop))) g h = g.same [] tt ∙ h
  ends_at (Over (Err (Missing site o))) g h = h
  ends_at (Lacks site o fuel pairs objects) g h = (g.same [] tt ∙ h.0, record { same = λ more fresh. g.same more fresh ∙ h.1.same more fresh; stem = h.1.stem }, h.2)

  pub run_ends : (way : Way) → b ≡ a → GoesOn (means a) first a known js r is s → (AllStem b known is s → Runs (means b) first b known way is s ks t) → Runs (means a) first a known way js r ks t
  run_ends way e g f = ends_at way g (subst (λ (x : Tid). AllStem x known is s → Runs (means x) first x known way is s ks t) e f g.stem)

  falls_at : (fall : Fall) → GoesOn (means a) first a known js r is s → Falls (means a) first a known fall is s ks t → Falls (means a) first a known fall js r ks t
  falls_at falls.Memory g h = tt
  falls_at falls.Failed g h = record { same = λ more fresh. g.same more fresh ∙ h.same more fresh; stem = h.stem }
  falls_at (falls.Ended way) g h = ends_at way g h

  pub run_falls : (fall : Fall) → b ≡ a → GoesOn (means a) first a known js r is s → (AllStem b known is s → Falls (means b) first b known fall is s ks t) → Falls (means a) first a known fall js r ks t
  run_falls fall e g f = falls_at fall g (subst (λ (x : Tid). AllStem x known is s → Falls (means x) first x known fall is s ks t) e f g.stem)

-- ---- one step

module _ (m : Means) (first : Place) (tid : Tid) (known : FlatMap) (js ks : List left.Entry) (s t : State) where
  pub fails_on : (is : List left.Entry) (u : State) → FailsSo m first tid known js s is u → ((more : FlatMap) → ended m first is failed u more ≡ left m first ks t more) × AllStem tid known ks t → GoesOn m first tid known js s ks t
  fails_on is u f g = record { same = λ more fresh. f.same more fresh ∙ g.0 more; stem = g.1 }

  pub fails_all : (is : List left.Entry) (u : State) → FailsSo m first tid known js s is u → ((more : FlatMap) → ended m first is failed u more ≡ ended m first [] failed t more) → left m first js s [] ≡ ends failed (record t { locals = [] })
  fails_all is u f g = f.same [] tt ∙ g []

  pub stops_all : (stop : Stop) → EndsSo m first tid known ks (stopped stop) t js s → left m first js s [] ≡ ends (stopped stop) (record t { locals = [] })
  stops_all stop e = e [] tt ∙ all_ended m first ks (stopped stop) no t []
    where
      no : stopped stop ≡ failed → ⊥
      no f = cc

  pub lacks_all : (site : ℕ) (o : Oid) (fuel pairs objects : ℕ) → fuel ≡ s.fuel → pairs ≡ length s.touches → objects ≡ length (touched s.touches) → AllStem tid known js s → LacksSo m first site o js s ks t
      → (left m first js s [] ≡ ends (missing site o) (record t { locals = [] })) × GoesOn m first tid known js s ks (before fuel pairs t) × (objects ≡ length (touched (take pairs t.touches)))
  lacks_all site o fuel pairs objects f c n st l = (
    l.lacks,
    subst (λ (x : List left.Entry × State). GoesOn m first tid known js s x.0 x.1) together (record { same = λ more fresh. refl; stem = st }),
    n ∙ ap (λ (x : State). length (touched x.touches)) back,
  )
    where
      back : s ≡ before fuel pairs t
      back = sym (ap (λ k. before k pairs t) f ∙ ap (λ k. before s.fuel k t) c ∙ put_back s t l.waits)

      together : ◌≡◌ {A = List left.Entry × State} (js, s) (ks, before fuel pairs t)
      together = λ k. (sym l.same k, back k)

-- what the method that was asked for returns lacks an object
pub lacks_last : (m : Means) (tid : Tid) (does : Place → Statement → M Deed) → IsSplit m tid does → (first : Place) (known : FlatMap) (s t : State) (site : ℕ) (o : Oid) (fuel pairs objects : ℕ) → fuel ≡ s.fuel → pairs ≡ length s.touches → objects ≡ length (touched s.touches) → AllStem tid known [] s → m.result first s ≡ ends (missing site o) t
    → (left m first [] s [] ≡ ends (missing site o) (record t { locals = [] })) × GoesOn m first tid known [] s [] (before fuel pairs t) × (objects ≡ length (touched (take pairs t.touches)))
lacks_last m tid does split first known s t site o fuel pairs objects f c n st e =
    lacks_all m first tid known [] [] s t site o fuel pairs objects f c n st (record {
      lacks = ap (back_with []) e;
      same = refl;
      waits = (split.results first).misses s site o t e;
    })

pub nothing : (items : List Entry) → length items ≡ 0 → items ≡ []
nothing [] e = refl
nothing (k ∷ ks) e = absurd (omega (arith, e))
