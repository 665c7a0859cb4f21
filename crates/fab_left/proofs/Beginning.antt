-- A request is begun with the body of its method, if there is one and it is seen.
use Rattle.std.proofs.Common.{◌≡◌, ℕ, Option, None, false, List, [], ◌∷◌, Some, Bool, true, not, cond, ap, ◌∙◌}
use Rattle.std.specs.Prelude.{slice_get}
use Rattle.fab_base.specs.declared.object.Tid.{Tid}
use Rattle.fab_base.specs.declared.object.Value.{Value}
use Rattle.fab_base.specs.FlatMap.{FlatMap, put_all, ascends}
use Rattle.fab_tree.specs.declared.resolved.Method.{Method}
use Rattle.fab_tree.specs.declared.resolved.Resolved.{Resolved}
use Rattle.fab_tree.specs.declared.resolved.Request.{Request}
use Rattle.fab_language.specs.Meaning.{Run, goes, gives, entered, called, locals_at_start, state_at_start}
use Rattle.fab_erasure.specs.Erased as erase
use Rattle.fab_left.specs.Left.{rest, at_start, AllStem, IsBegun}
use Rattle.fab_left.specs.Acts as plain
use Rattle.fab_left.specs.ErasedActs as erased

module _ (program : Resolved) (tid : Tid) (request : Request) (fuel : ℕ) (known : FlatMap) (method : Method) (is : slice_get program.methods request.method
    ≡ Some method) where
  pub plain_begins : IsBegun (plain.meanings program tid) (at_start method) tid (plain.asked program tid request fuel) known
      (rest (at_start method) method.body ∷ []) (record (state_at_start known fuel) { locals = locals_at_start method request.args })
  plain_begins more fresh = ap (λ v. entered tid (called program tid 63) v request.args (state_at_start (put_all more known) fuel)) is

  module _ (sees shows : ℕ → Bool) (given : List Value) (seen : sees method.begin.number ≡ true) where
    pub erased_begins : IsBegun (erased.meanings sees shows program tid) (at_start method) tid (erased.asked sees shows program tid request fuel given) known
        (rest (at_start method) method.body ∷ []) (record (state_at_start known fuel) { locals = erase.locals_at_start sees shows method request.args; given = given })
    erased_begins more fresh =
        ap (λ v. erase.unless_skipped sees shows v (erase.entered sees shows program.classes tid (erase.called sees shows program tid 63) v request.args)
        (record (state_at_start (put_all more known) fuel) { given = given })) is
        ∙ ap (λ b. cond (not b) (gives (erase.blank_result sees shows (Some method)))
        (erase.entered sees shows program.classes tid (erase.called sees shows program tid 63) (Some method) request.args)
        (record (state_at_start (put_all more known) fuel) { given = given })) seen

pub all_known : (tid : Tid) (known : FlatMap) (method : Method) (fuel : ℕ) (locals given : List Value) → ascends known ≡ true
    → AllStem tid known (rest (at_start method) method.body ∷ []) (record (state_at_start known fuel) { locals = locals; given = given })
all_known tid known method fuel locals given up = record { state = record { ascending = up; none_new = λ o n. n.unknown }; entries = (tt, tt) }

module _ (program : Resolved) (tid : Tid) (request : Request) (fuel : ℕ) (known : FlatMap) where
  pub plain_none : slice_get program.methods request.method ≡ None → plain.asked program tid request fuel known ≡ goes None (state_at_start known fuel)
  plain_none e = ap (λ v. entered tid (called program tid 63) v request.args (state_at_start known fuel)) e

  module _ (sees shows : ℕ → Bool) (given : List Value) where
    abbrev begun : Option Method → Run (Option Value)
    begun v =
        erase.unless_skipped sees shows v (erase.entered sees shows program.classes tid (erase.called sees shows program tid 63) v request.args)
        (record (state_at_start known fuel) { given = given })

    pub erased_none : slice_get program.methods request.method ≡ None
        → erased.asked sees shows program tid request fuel given known ≡ goes None (record (state_at_start known fuel) { given = given })
    erased_none e = ap begun e

    pub erased_skipped : (method : Method) → slice_get program.methods request.method ≡ Some method → sees method.begin.number ≡ false
        → erased.asked sees shows program tid request fuel given known
        ≡ goes (erase.blank_result sees shows (Some method)) (record (state_at_start known fuel) { given = given })
    erased_skipped method e k =
        ap begun e
        ∙ ap (λ b. cond (not b) (gives (erase.blank_result sees shows (Some method)))
        (erase.entered sees shows program.classes tid (erase.called sees shows program tid 63) (Some method) request.args)
        (record (state_at_start known fuel) { given = given })) k
