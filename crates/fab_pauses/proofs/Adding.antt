-- Answers with one more, and jobs with them.
use Rattle.std.specs.Prelude.{◌≡◌, ℕ, Bool, true, false, [], ◌∷◌, ◌++◌, length}
use Rattle.std.specs.Bool.{MatchBool}
use Rattle.std.proofs.Common.{sym, ap, ◌∙◌, arith, length-append}
use Rattle.std.proofs.lemmas.List.{same_from_push}
use Rattle.fab_base.specs.declared.object.Object.{Object}
use Rattle.fab_base.specs.declared.object.Oid.{Oid}
use Rattle.fab_nested.specs.Nested.{Answers}
use Rattle.fab_eval.specs.declared.job.Job.{Job}
use Rattle.fab_pauses.specs.Jobs.{GoesOn, IsOneMore}

module _ (before : Answers) (o : Oid) (answers front : Answers) (last : Oid × ℕ × Object) (is : answers ≡ front ++ last ∷ []) where
  pub same_front : IsOneMore before o answers → front ≡ before
  same_front h = (same_from_push front before last (o, h.version, h.object) (sym is ∙ h.is)).0

  pub same_last : IsOneMore before o answers → last.0 ≡ o
  same_last h = ap (λ (a : Oid × ℕ × Object). a.0) (same_from_push front before last (o, h.version, h.object) (sym is ∙ h.is)).1

  pub one_more : last.0 ≡ o → front ≡ before → IsOneMore before o answers
  one_more l f = record {
    version = last.1;
    object = last.2;
    is = is ∙ ap (λ (xs : Answers). xs ++ last ∷ []) f ∙ ap (λ (p : Oid). before ++ (p, last.1, last.2) ∷ []) l;
  }

-- the last of answers, or there is none behind these
pub behind : (before answers front : Answers) (last : Oid × ℕ × Object) → answers ≡ front ++ last ∷ [] → front ≡ before → answers ≡ before ++ last ∷ []
behind before answers front last is f = is ∙ ap (λ (xs : Answers). xs ++ last ∷ []) f

pub not_behind : (before answers front : Answers) (last : Oid × ℕ × Object) → answers ≡ front ++ last ∷ [] → (front ≡ before → ⊥)
    → (a : Oid × ℕ × Object) → answers ≡ before ++ a ∷ [] → ⊥
not_behind before answers front last is other a h = other (same_from_push front before last a (sym is ∙ h)).0

pub none_behind : (before answers : Answers) → length answers ≡ 0 → (a : Oid × ℕ × Object) → answers ≡ before ++ a ∷ [] → ⊥
none_behind before answers none a h =
    let long : length answers ≡ length (before ++ a ∷ []) = ap length h in
    omega (arith, none, long, length-append before (a ∷ []))

module _ (before : Job) (o : Oid) (job : Job) where
  pub goes : job.request ≡ before.request → job.tid ≡ before.tid → IsOneMore before.answers o job.answers → GoesOn before o job
  goes r t h = record { version = h.version; object = h.object; same = record { request = r; tid = t; answers = h.is } }

  pub one_more_of : GoesOn before o job → IsOneMore before.answers o job.answers
  one_more_of h = record { version = h.version; object = h.object; is = h.same.answers }

-- what a test decides, decides what follows from it
pub decides : {P Q R S : Type 0} (b : Bool) → (P → R) → (Q → S) → MatchBool b P Q → MatchBool b R S
decides true f g h = f h
decides false f g h = g h
