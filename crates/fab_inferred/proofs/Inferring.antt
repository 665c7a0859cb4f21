-- What `infer` comes to is one thing.
use Rattle.std.proofs.Common.{◌≡◌, ℕ, List, [], map, refl, sym, ap, ◌∙◌, subst}
use Rattle.fab_tree.specs.declared.start.Start.{Start}
use Rattle.fab_tree.specs.Print.{canonical}
use Rattle.fab_language.specs.declared.rule.Fault.{Fault}
use Rattle.fab_language.specs.Faults.{faults, IsFirst}
use Rattle.fab_language.specs.Numbers.{resolved}
use Rattle.fab_labelling.specs.declared.rule.Refusal.{Refusal}
use Rattle.fab_holes.specs.Holes.{IsNamed, filled, holes}
use Rattle.fab_holes.specs.Least.{HasNoLeast, HasNoSolution, IsSolved}
use Rattle.fab_front.specs.declared.texts.Outcome.TheVariants.{Bundle}
use Rattle.fab_front.specs.declared.status.Status.{Status}
use Rattle.fab_front.specs.declared.status.Status.TheVariants.{Label as Labelled, Name, NoLeast, Ok}
use Rattle.fab_front.specs.Front.{Front, IsFront}
use Rattle.fab_front.specs.Lines.{label_line, name_line, no_least_line}
use Rattle.fab_front.proofs.Faults.{none_first, one_first}
use Rattle.fab_front.proofs.Outcomes.{same_bundle}
use Rattle.fab_inferred.specs.Infers.{Infers, IsInferred, first_filled, misnamed, no_least, no_solution, solved}

-- no bundle has two answers
pub record HasOneAnswer : Type 0 where
  pub choice : (start : Start) (choice other : List ℕ) → IsSolved start choice → IsSolved start other → choice ≡ other
  pub place : (start : Start) (at other : ℕ) → HasNoLeast start at → HasNoLeast start other → at ≡ other
  pub reason : (start : Start) (reason other : Refusal) → HasNoSolution start reason → HasNoSolution start other → reason ≡ other
  pub solved_or_least : (start : Start) (choice : List ℕ) (at : ℕ) → IsSolved start choice → ¬ HasNoLeast start at
  pub solved_or_refused : (start : Start) (choice : List ℕ) (reason : Refusal) → IsSolved start choice → ¬ HasNoSolution start reason
  pub least_or_refused : (start : Start) (at : ℕ) (reason : Refusal) → HasNoLeast start at → ¬ HasNoSolution start reason

module _ {text : List ℕ} {start : Start} (f : IsFront text (Bundle start)) where
  same : {b : Start} → Front text (Bundle b) → b ≡ start
  same {b} g = same_bundle (f.only (Bundle b) g)

  -- where the names are wrong
  pub misnamed_inferred : {x : Fault} → IsFirst (faults (first_filled start)) x → IsInferred text (Name x.rule x.at) (name_line x.rule x.at)
  misnamed_inferred {x} h = record { is = misnamed f.is h; only = λ s r. go s r }
    where
      faulty : {b : Start} {A : Type 0} → Front text (Bundle b) → IsNamed b → A
      faulty g right = none_first (ap (λ z. faults (first_filled z)) (sym (same g)) ∙ right) h

      go : (s : Status) (r : List ℕ) → Infers text s r → (s ≡ Name x.rule x.at) × (r ≡ name_line x.rule x.at)
      go s r (misnamed g k) =
          let e = one_first _ _ _ _ (ap (λ z. faults (first_filled z)) (same g)) k h in (ap (λ y. Name y.rule y.at) e, ap (λ y. name_line y.rule y.at) e)
      go s r (no_least g right k) = faulty g right
      go s r (no_solution g right k) = faulty g right
      go s r (solved g right l k) = faulty g right

  module _ (one : HasOneAnswer) (right : IsNamed start) where
    not_faulty : {b : Start} {x : Fault} {A : Type 0} → Front text (Bundle b) → IsFirst (faults (first_filled b)) x → A
    not_faulty g k = none_first (ap (λ z. faults (first_filled z)) (same g) ∙ right) k

    here_least : {b : Start} {at : ℕ} → Front text (Bundle b) → HasNoLeast b at → HasNoLeast start at
    here_least {at = at} g k = subst (λ z. HasNoLeast z at) (same g) k

    here_refused : {b : Start} {x : Refusal} → Front text (Bundle b) → HasNoSolution b x → HasNoSolution start x
    here_refused {x = x} g k = subst (λ z. HasNoSolution z x) (same g) k

    here_solved : {b : Start} {choice : List ℕ} → Front text (Bundle b) → IsSolved b choice → IsSolved start choice
    here_solved {choice = choice} g k = subst (λ z. IsSolved z choice) (same g) k

    -- where a hole has no least label
    pub least_inferred : {at : ℕ} → HasNoLeast start at → IsInferred text (NoLeast at) (no_least_line at)
    least_inferred {at} h = record { is = no_least f.is right h; only = λ s r. go s r }
      where
        go : (s : Status) (r : List ℕ) → Infers text s r → (s ≡ NoLeast at) × (r ≡ no_least_line at)
        go s r (misnamed g k) = not_faulty g k
        go s r (no_least {at = b} g n k) = let e = one.place start b at (here_least g k) h in (ap NoLeast e, ap no_least_line e)
        go s r (no_solution {x = y} g n k) = absurd (one.least_or_refused start at y h (here_refused g k))
        go s r (solved {choice = c} g n l k) = absurd (one.solved_or_least start c at (here_solved g k) h)

    -- where the least labels are refused
    pub refused_inferred : {x : Refusal} → HasNoSolution start x → IsInferred text (Labelled x.rule x.at x.source x.target) (label_line (resolved start) x)
    refused_inferred {x} h = record { is = no_solution f.is right h; only = λ s r. go s r }
      where
        go : (s : Status) (r : List ℕ) → Infers text s r → (s ≡ Labelled x.rule x.at x.source x.target) × (r ≡ label_line (resolved start) x)
        go s r (misnamed g k) = not_faulty g k
        go s r (no_least {at = b} g n k) = absurd (one.least_or_refused start b x (here_least g k) h)
        go s r (no_solution {x = y} g n k) =
            let e = one.reason start y x (here_refused g k) h in
            (ap (λ z. Labelled z.rule z.at z.source z.target) e, ap (λ z. label_line (resolved z) y) (same g) ∙ ap (label_line (resolved start)) e)
        go s r (solved {choice = c} g n l k) = absurd (one.solved_or_refused start c x (here_solved g k) h)

    -- where they solve
    pub solved_inferred : {choice : List ℕ} → faults (filled start choice) ≡ [] → IsSolved start choice → IsInferred text Ok (canonical (filled start choice))
    solved_inferred {choice} named h = record { is = solved f.is right named h; only = λ s r. go s r }
      where
        go : (s : Status) (r : List ℕ) → Infers text s r → (s ≡ Ok) × (r ≡ canonical (filled start choice))
        go s r (misnamed g k) = not_faulty g k
        go s r (no_least {at = b} g n k) = absurd (one.solved_or_least start choice b h (here_least g k))
        go s r (no_solution {x = y} g n k) = absurd (one.solved_or_refused start choice y h (here_refused g k))
        go s r (solved {choice = c} g n l k) =
            let e = one.choice start c choice (here_solved g k) h in (refl, ap (λ z. canonical (filled z c)) (same g) ∙ ap (λ d. canonical (filled start d)) e)
