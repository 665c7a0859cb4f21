-- The meaning and the erased one are split so.
use Rattle.std.proofs.Common.{◌≡◌, ℕ, zero, suc, List, Option, Some, None, Bool, true, false, not, cond, ap, ◌∙◌}
use Rattle.std.specs.Prelude.{slice_get}
use Rattle.fab_base.specs.declared.object.Tid.{Tid}
use Rattle.fab_base.specs.declared.object.Value.{Value}
use Rattle.fab_base.specs.declared.object.Stop.TheVariants.{Depth}
use Rattle.fab_tree.specs.declared.resolved.Method.{Method}
use Rattle.fab_tree.specs.declared.resolved.Statement.{Statement}
use Rattle.fab_tree.specs.declared.resolved.Resolved.{Resolved}
use Rattle.fab_language.specs.Meaning.{State, End, Run, goes, ends, stopped, missing, assign, gives, called, entered, locals_at_start}
use Rattle.fab_erasure.specs.Erased as erase
use Rattle.fab_left.specs.Left.{Place}
use Rattle.fab_left.specs.Deeds.{Enters}
use Rattle.fab_left.specs.Acts as plain
use Rattle.fab_left.specs.ErasedActs as erased
use Rattle.fab_left.specs.Steps.{Carries, IsSplit}
use Rattle.fab_left.proofs.Acting as acting
use Rattle.fab_left.proofs.ErasedActing as erased_acting
use Rattle.fab_left.proofs.Carried as carried
use Rattle.fab_left.proofs.ErasedCarried as erased_carried
use Rattle.fab_left.proofs.Lacking as lacking
use Rattle.fab_left.proofs.ErasedLacking as erased_lacking

went_on : {A : Type 0} (a : A) (t u : State) (e : End) → goes a t ≡ ends e u → ⊥
went_on a t u e h = cc

assigns_carry : (tid : Tid) (x : ℕ) (v : Value) → Carries tid (assign x v)
assigns_carry tid x v = record {
  over = λ known. (carried.assigns tid known x v).by;
  stems = λ known. (carried.assigns tid known x v).keeps;
  misses = λ t site o u e. absurd (went_on tt _ u (missing site o) e);
}

pub acts_carry : (tid : Tid) (s : Statement) → Carries tid (plain.act tid s)
acts_carry tid s = record {
  over = λ known. (carried.acts tid known s).by;
  stems = λ known. (carried.acts tid known s).keeps;
  misses = lacking.act_misses tid s;
}

pub plain_split : (program : Resolved) (tid : Tid) → IsSplit (plain.meanings program tid) tid (λ p. plain.act tid)
plain_split program tid = record {
  leads_on = acting.statement_is program tid;
  acts = λ p s. acts_carry tid s;
  results = λ p. record {
    over = λ known. (carried.returned_carries tid known p.method.result).by;
    stems = λ known. (carried.returned_carries tid known p.method.result).keeps;
    misses = lacking.returned_misses p.method.result;
  };
  takes = λ p x v. assigns_carry tid x v;
}

module _ (sees shows : ℕ → Bool) (program : Resolved) (tid : Tid) where
  pub erased_split : IsSplit (erased.meanings sees shows program tid) tid (λ p. erased.act sees shows program.classes p.method.locals tid)
  erased_split = record {
    leads_on = erased_acting.statement_is sees shows program tid;
    acts = λ p s. record {
      over = λ known. (erased_carried.acts tid known sees shows program.classes p.method.locals s).by;
      stems = λ known. (erased_carried.acts tid known sees shows program.classes p.method.locals s).keeps;
      misses = erased_lacking.act_misses sees shows program.classes p.method.locals tid s;
    };
    results = λ p. record {
      over = λ known. (erased_carried.returned_carries tid known sees shows program.classes p.method.locals p.method.returns p.method.result).by;
      stems = λ known. (erased_carried.returned_carries tid known sees shows program.classes p.method.locals p.method.returns p.method.result).keeps;
      misses = erased_lacking.returned_misses sees shows program.classes p.method.locals tid p.method.returns p.method.result;
    };
    takes = λ p x v. assigns_carry tid x _;
  }

-- ---- calls

module _ (program : Resolved) (tid : Tid) (caller method : Method) (depth number : ℕ) (args : List Value) where
  abbrev from : ℕ → Place
  from d = record { method = caller; depth = d }

  abbrev into : Place
  into = record { method = method; depth = depth }

  pub plain_enters : slice_get program.methods number ≡ Some method → (t : State)
      → Enters (plain.meanings program tid) (from (suc depth)) number args t into (locals_at_start method args)
  plain_enters e t = ap (λ v. entered tid (called program tid depth) v args t) e

  pub plain_none : slice_get program.methods number ≡ None → (t : State) → (plain.meanings program tid).call (from (suc depth)) number args t ≡ goes None t
  plain_none e t = ap (λ v. entered tid (called program tid depth) v args t) e

  module _ (sees shows : ℕ → Bool) where
    abbrev entering : Option Method → State → Run (Option Value)
    entering v = erase.unless_skipped sees shows v (erase.entered sees shows program.classes tid (erase.called sees shows program tid depth) v args)

    pub erased_enters : slice_get program.methods number ≡ Some method → sees method.begin.number ≡ true → (t : State)
        → Enters (erased.meanings sees shows program tid) (from (suc depth)) number args t into (erase.locals_at_start sees shows method args)
    erased_enters e k t =
        ap (λ v. entering v t) e
        ∙ ap (λ b. cond (not b) (gives (erase.blank_result sees shows (Some method)))
        (erase.entered sees shows program.classes tid (erase.called sees shows program tid depth) (Some method) args) t) k

    pub erased_none : slice_get program.methods number ≡ None → (t : State) → (erased.meanings sees shows program tid).call (from (suc depth)) number args t ≡ goes None t
    erased_none e t = ap (λ v. entering v t) e

    pub erased_skips : (d : ℕ) → slice_get program.methods number ≡ Some method → sees method.begin.number ≡ false → (t : State)
        → (erased.meanings sees shows program tid).call (from d) number args t ≡ goes (erase.blank_result sees shows (Some method)) t
    erased_skips zero e k t =
        ap (λ v. erase.unless_skipped sees shows v (ends (stopped Depth)) t) e
        ∙ ap (λ b. cond (not b) (gives (erase.blank_result sees shows (Some method))) (ends (stopped Depth)) t) k
    erased_skips (suc d) e k t =
        ap (λ v. erase.unless_skipped sees shows v (erase.entered sees shows program.classes tid (erase.called sees shows program tid d) v args) t) e
        ∙ ap (λ b. cond (not b) (gives (erase.blank_result sees shows (Some method)))
        (erase.entered sees shows program.classes tid (erase.called sees shows program tid d) (Some method) args) t) k

    pub erased_deep : slice_get program.methods number ≡ Some method → sees method.begin.number ≡ true → (t : State)
        → (erased.meanings sees shows program tid).call (from 0) number args t ≡ ends (stopped Depth) t
    erased_deep e k t =
        ap (λ v. erase.unless_skipped sees shows v (ends (stopped Depth)) t) e
        ∙ ap (λ b. cond (not b) (gives (erase.blank_result sees shows (Some method))) (ends (stopped Depth)) t) k

    pub erased_deep_none : slice_get program.methods number ≡ None → (t : State)
        → (erased.meanings sees shows program tid).call (from 0) number args t ≡ ends (stopped Depth) t
    erased_deep_none e t = ap (λ v. erase.unless_skipped sees shows v (ends (stopped Depth)) t) e
