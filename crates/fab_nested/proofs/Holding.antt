-- Names that are held in a list or in a table, each once.
use Rattle.std.proofs.Common.{◌≡◌, ℕ, ◌+◌, ◌<◌, Bool, false, List, [], ◌∷◌, ◌++◌, length, get_or, take, Result, Ok, Err, OnOk, OnErr, if◌then◌else◌, sym, ap, subst, ◌∙◌}
use Rattle.std.specs.Cmp.{IsEquivalence}
use Rattle.std.specs.List.{list_any, IsDistinct}
use Rattle.std.proofs.lemmas.List.{take_more}
use Rattle.std.proofs.lemmas.Map.Keys.{IsDistinct-push}
use Rattle.indexmap.specs.IndexSet.{insert_key, insert_all}
use Rattle.indexmap.proofs.MapLemmas.{distinct-take}
use Rattle.indexmap.proofs.SetLemmas.{set_all_distinct, set_all_push}

pub distinct_none : {T : Type 0} (eq : T → T → Bool) (names : List T) → names ≡ [] → IsDistinct eq names
unfolding IsDistinct
distinct_none eq names e = subst (IsDistinct eq) (sym e) tt

module _ {T : Type 0} {eq : T → T → Bool} (laws : IsEquivalence eq) where
  pub distinct_front : (n : ℕ) (names new : List T) → IsDistinct eq names → new ≡ take n names → IsDistinct eq new
  distinct_front n names new apart e = subst (IsDistinct eq) (sym e) (distinct-take laws n names apart)

  -- one more, or want of memory
  pub distinct_after : {A E : Type 0} (r : Result A E) (names new : List T) (x : T) → IsDistinct eq names → list_any (eq x) names ≡ false → OnOk r (new ≡ names ++ x ∷ []) → OnErr r (new ≡ names) → IsDistinct eq new
  distinct_after (Ok a) names new x apart absent ok err = subst (IsDistinct eq) (sym ok) (IsDistinct-push laws names x apart absent)
  distinct_after (Err e) names new x apart absent ok err = subst (IsDistinct eq) (sym err) apart

  -- a table of the first of these names takes the next one
  pub next_taken : (names : List T) (i : ℕ) (x : T) (keys new : List T) → IsDistinct eq names → i < length names → x ≡ get_or names i x → keys ≡ take i names → new ≡ insert_key eq keys x → new ≡ take (i + 1) names
  next_taken names i x keys new apart lt read e put =
      put
      ∙ ap (λ l. insert_key eq l x) (e ∙ sym (set_all_distinct laws [] (take i names) (distinct-take laws i names apart)))
      ∙ sym (set_all_push eq [] (take i names) x)
      ∙ ap (insert_all eq []) (ap (λ y. take i names ++ y ∷ []) read ∙ sym (take_more names i x lt))
      ∙ set_all_distinct laws [] (take (i + 1) names) (distinct-take laws (i + 1) names apart)

-- a name that isn't in a table goes last
pub goes_last : {T : Type 0} (eq : T → T → Bool) (x : T) (names keys new : List T) → list_any (eq x) names ≡ false → keys ≡ names → new ≡ insert_key eq keys x → new ≡ names ++ x ∷ []
goes_last eq x names keys new absent e put =
    put
    ∙ ap (λ l. insert_key eq l x) e
    ∙ ap (λ b. if b then names else names ++ x ∷ []) absent
