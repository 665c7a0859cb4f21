-- Arguments, one more at a time.
use Rattle.std.proofs.Common.{◌≡◌, List, [], ◌∷◌, ◌++◌, refl, sym, ap, ◌∙◌, append-nil, append_assoc}
use Rattle.fab_base.specs.declared.object.Value.{Value}
use Rattle.fab_tree.specs.declared.resolved.Expression.{Expression}
use Rattle.fab_tree.specs.declared.resolved.Method.{Method}
use Rattle.fab_language.specs.Meaning.{State, Run, goes, ends, M, gives, and_then, ◌>>=◌}
use Rattle.fab_meaning.specs.declared.setting.Setting.{Setting}
use Rattle.fab_meaning.specs.Settings.{value, values}

together : (vs : List Value) (v : Value) (r : Run (List Value)) → and_then r (λ ws. gives ((vs ++ v ∷ []) ++ ws)) ≡ and_then (and_then r (λ ws. gives (v ∷ ws))) (λ ws. gives (vs ++ ws))
together vs v (goes ws t) = ap (λ l. goes l t) (append_assoc vs (v ∷ []) ws)
together vs v (ends e t) = refl

alone : (r : Run (List Value)) → and_then r (λ ws. gives ([] ++ ws)) ≡ r
alone (goes ws t) = refl
alone (ends e t) = refl

module _ (c : Setting) (m : Method) where
  -- the values of arguments behind those of others
  abbrev pub values_behind : List Value → List Expression → M (List Value)
  values_behind vs [] = gives vs
  values_behind vs (e ∷ es) = value c m e >>= λ v. values_behind (vs ++ v ∷ []) es

  all_behind : (vs : List Value) (es : List Expression) (s : State) → values_behind vs es s ≡ and_then (values c m es s) (λ ws. gives (vs ++ ws))
  all_behind vs [] s = ap (λ l. goes l s) (sym (append-nil vs))
  all_behind vs (e ∷ es) s =
      step (value c m e s) (λ v t. all_behind (vs ++ v ∷ []) es t ∙ together vs v (values c m es t))
    where
      step : (r : Run Value) → ((v : Value) (t : State) → values_behind (vs ++ v ∷ []) es t ≡ and_then (and_then (values c m es t) (λ ws. gives (v ∷ ws))) (λ ws. gives (vs ++ ws)))
          → and_then r (λ v. values_behind (vs ++ v ∷ []) es) ≡ and_then (and_then r (λ v t. and_then (values c m es t) (λ ws. gives (v ∷ ws)))) (λ ws. gives (vs ++ ws))
      step (goes v t) h = h v t
      step (ends end t) h = refl

  -- behind none they are all
  pub from_none : (es : List Expression) (s : State) → values_behind [] es s ≡ values c m es s
  from_none es s = all_behind [] es s ∙ alone (values c m es s)
