-- Arguments that aren't seen.
use Rattle.std.proofs.Common.{◌≡◌, ℕ, suc, List, [], ◌∷◌, ◌++◌, Option, Some, None, Bool, true, false, map, drop, length, refl, sym, ap, ◌∙◌, true≢false}
use Rattle.std.specs.Prelude.{slice_get, IsTrue}
use Rattle.fab_base.specs.declared.object.Tid.{Tid}
use Rattle.fab_base.specs.declared.object.Value.{Value}
use Rattle.fab_tree.specs.declared.resolved.Class.{Class}
use Rattle.fab_tree.specs.declared.resolved.Local.{Local}
use Rattle.fab_tree.specs.declared.resolved.Method.{Method}
use Rattle.fab_language.specs.Meaning.{State, M, back_with, default, meant_by, state_at_start}
use Rattle.fab_erasure.specs.Erased as erase
use Rattle.fab_erasure.specs.Erased.{shown_if}
use Rattle.fab_fewer.specs.Blanks.{locals_of, AreAlike, BlanksChangeNothing, BlankedIsAlike}

shown_alike : (b : Bool) (v w : Value) → (IsTrue b → v ≡ w) → shown_if b v ≡ shown_if b w
shown_alike true v w f = f refl
shown_alike false v w f = refl

shown_itself : (b : Bool) (v : Value) → IsTrue b → v ≡ shown_if b v
shown_itself true v e = refl
shown_itself false v e = absurd (true≢false (sym e))

module _ (sees shows : ℕ → Bool) where
  alike_shown : (xs : List Local) (vs ws : List Value) → AreAlike sees shows xs vs ws → erase.args_shown sees shows xs vs ≡ erase.args_shown sees shows xs ws
  alike_shown [] vs ws h = h
  alike_shown (x ∷ xs) [] [] h = refl
  alike_shown (x ∷ xs) [] (w ∷ ws) h = absurd h
  alike_shown (x ∷ xs) (v ∷ vs) [] h = absurd h
  alike_shown (x ∷ xs) (v ∷ vs) (w ∷ ws) h =
      ap (λ u. u ∷ erase.args_shown sees shows xs vs) (shown_alike (sees x.label.number) v w h.0)
      ∙ ap (λ us. shown_if (sees x.label.number) w ∷ us) (alike_shown xs vs ws h.1)

  alike_length : (xs : List Local) (vs ws : List Value) → AreAlike sees shows xs vs ws → length vs ≡ length ws
  alike_length [] vs ws h = ap length h
  alike_length (x ∷ xs) [] [] h = refl
  alike_length (x ∷ xs) [] (w ∷ ws) h = absurd h
  alike_length (x ∷ xs) (v ∷ vs) [] h = absurd h
  alike_length (x ∷ xs) (v ∷ vs) (w ∷ ws) h = ap suc (alike_length xs vs ws h.1)

  shown_args : (xs : List Local) (vs : List Value) → AreAlike sees shows xs vs (erase.args_shown sees shows xs vs)
  shown_args [] vs = refl
  shown_args (x ∷ xs) [] = tt
  shown_args (x ∷ xs) (v ∷ vs) = ((λ e. shown_itself (sees x.label.number) v e), shown_args xs vs)

  same_start : (m : Method) (vs ws : List Value) → AreAlike sees shows m.locals vs ws → erase.locals_at_start sees shows m vs ≡ erase.locals_at_start sees shows m ws
  same_start m vs ws h =
      ap (λ us. us ++ map (λ (x : Local). default x.sort) (drop (length vs) m.locals)) (alike_shown m.locals vs ws h)
      ∙ ap (λ n. erase.args_shown sees shows m.locals ws ++ map (λ (x : Local). default x.sort) (drop n m.locals)) (alike_length m.locals vs ws h)

  module _ (classes : List Class) (tid : Tid) (call : ℕ → List Value → M (Option Value)) (t : State) where
    enters : (m : Option Method) (vs ws : List Value) → AreAlike sees shows (locals_of m) vs ws
        → erase.unless_skipped sees shows m (erase.entered sees shows classes tid call m vs) t ≡ erase.unless_skipped sees shows m (erase.entered sees shows classes tid call m ws) t
    enters None vs ws h = refl
    enters (Some m) vs ws h =
        ap (λ us. erase.unless_skipped sees shows (Some m) (λ s. back_with s.locals (erase.body_of sees shows classes tid call m (record s { locals = us }))) t) (same_start m vs ws h)

pub blanks_change_nothing : BlanksChangeNothing
blanks_change_nothing sees shows r known request args tid fuel given h =
    ap meant_by (enters sees shows r.classes tid (erase.called sees shows r tid 63) (record (state_at_start known fuel) { given = given }) (slice_get r.methods request.method) request.args args h)

pub blanked_is_alike : BlankedIsAlike
blanked_is_alike sees shows r request = shown_args sees shows (locals_of (slice_get r.methods request.method)) request.args
