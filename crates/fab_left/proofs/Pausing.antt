-- Where a request lacks an object, it goes on from there with the answer; and how it ends.
use Rattle.std.proofs.Common.{◌≡◌, List, [], ◌∷◌, ◌++◌, length, map, ℕ, Option, sym, ◌∙◌, subst}
use Rattle.fab_base.specs.declared.object.Oid.{Oid}
use Rattle.fab_base.specs.declared.object.Object.{Object}
use Rattle.fab_base.specs.declared.object.Tid.{Tid}
use Rattle.fab_base.specs.declared.object.Value.{Value}
use Rattle.fab_base.specs.FlatMap.{FlatMap, put}
use Rattle.fab_tree.specs.declared.resolved.Statement.{Statement}
use Rattle.fab_language.specs.Meaning.{State, End, failed, missing, Run, ends, M, back_with}
use Rattle.fab_left.specs.Left.{Place, Means, Entry, rest, returning, wider, wider_entry, IsNew, IsBegun, DiffersLittle, before}
use Rattle.fab_left.specs.Deeds.{Deed}
use Rattle.fab_left.specs.Steps.{IsSplit, EndsSo}
use Rattle.fab_left.proofs.Lacking.{put_back}
use Rattle.fab_left.proofs.Stacks.{answer_begun}
use Rattle.fab_left.proofs.Stepping.{act_lacks, result_lacks, all_ended}

module _ (m : Means) (asked : Place) (tid : Tid) (does : FlatMap → Run (Option Value)) (known : FlatMap) where
  abbrev Begun : List Entry → State → Type 0
  Begun = IsBegun m asked tid does known

  -- from the state before what lacked an object, with the answer
  answered : (js : List Entry) (t u : State) (o : Oid) (x : Object) → IsNew tid known o → DiffersLittle t u → Begun js t
      → IsBegun m asked tid does (put o x known) (map (wider_entry ((o, x) ∷ [])) js) (wider ((o, x) ∷ []) (before t.fuel (length t.touches) u))
  answered js t u o x new w h =
      subst (λ z. IsBegun m asked tid does (put o x known) (map (wider_entry ((o, x) ∷ [])) js) (wider ((o, x) ∷ []) z)) (sym (put_back t u w))
      (answer_begun o x tid known new m asked does js t h)

  pub result_missing : (t u : State) (site : ℕ) (o : Oid) (ks : List Entry) (callee caller : Place) (locals : List Value) (target : Option ℕ)
      → m.result callee t ≡ ends (missing site o) u → Begun (ks ++ returning callee caller locals target ∷ []) t
      → does known ≡ ends (missing site o) (record u { locals = [] })
  result_missing t u site o ks callee caller locals target e h = h [] tt ∙ result_lacks m asked ks callee caller locals target t site o u e

  module _ (acts : Place → Statement → M Deed) (split : IsSplit m tid acts) (t u : State) (site : ℕ) (o : Oid) where
    module _ (ks : List Entry) (p : Place) (s : Statement) (ss : List Statement) (e : acts p s t
        ≡ ends (missing site o) u) (h : Begun (ks ++ rest p (s ∷ ss) ∷ []) t) where
      pub act_missing : does known ≡ ends (missing site o) (record u { locals = [] })
      act_missing = h [] tt ∙ act_lacks m asked tid acts split known ks p s ss t site o u e

      pub act_answered : (x : Object) → IsNew tid known o
          → IsBegun m asked tid does (put o x known) (map (wider_entry ((o, x) ∷ [])) (ks ++ rest p (s ∷ ss) ∷ []))
          (wider ((o, x) ∷ []) (before t.fuel (length t.touches) u))
      act_answered x new = answered (ks ++ rest p (s ∷ ss) ∷ []) t u o x new ((split.acts p s).misses t site o u e) h

    module _ (ks : List Entry) (callee caller : Place) (locals : List Value) (target : Option ℕ) (e : m.result callee t ≡ ends (missing site o) u)
        (h : Begun (ks ++ returning callee caller locals target ∷ []) t) where
      pub result_answered : (x : Object) → IsNew tid known o
          → IsBegun m asked tid does (put o x known) (map (wider_entry ((o, x) ∷ [])) (ks ++ returning callee caller locals target ∷ []))
          (wider ((o, x) ∷ []) (before t.fuel (length t.touches) u))
      result_answered x new = answered (ks ++ returning callee caller locals target ∷ []) t u o x new ((split.results callee).misses t site o u e) h

    module _ (e : m.result asked t ≡ ends (missing site o) u) (h : Begun [] t) where
      pub last_answered : (x : Object) → IsNew tid known o → IsBegun m asked tid does (put o x known) [] (wider ((o, x) ∷ []) (before t.fuel (length t.touches) u))
      last_answered x new = answered [] t u o x new ((split.results asked).misses t site o u e) h

  -- ---- ends

  pub last_gives : (t : State) → Begun [] t → does known ≡ back_with [] (m.result asked t)
  last_gives t h = h [] tt

  pub ends_so : (js ks : List Entry) (s t : State) (e : End) → (e ≡ failed → ⊥) → Begun js s → EndsSo m asked tid known ks e t js s
      → does known ≡ ends e (record t { locals = [] })
  ends_so js ks s t e n h k = h [] tt ∙ k [] tt ∙ all_ended m asked ks e n t []

  pub fails_so : (js : List Entry) (s t : State) → Begun js s → EndsSo m asked tid known [] failed t js s → does known ≡ ends failed (record t { locals = [] })
  fails_so js s t h k = h [] tt ∙ k [] tt
