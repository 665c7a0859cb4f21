-- What `infer` replies to a text that has a bundle.
use Rattle.std.specs.Prelude.{◌≡◌, ℕ, List, [], map}
use Rattle.fab_tree.specs.declared.start.Start.{Start}
use Rattle.fab_tree.specs.Print.{canonical}
use Rattle.fab_language.specs.declared.rule.Fault.{Fault}
use Rattle.fab_language.specs.Faults.{faults, IsFirst}
use Rattle.fab_language.specs.Numbers.{resolved}
use Rattle.fab_labelling.specs.declared.rule.Refusal.{Refusal}
use Rattle.fab_holes.specs.Holes.{IsNamed, filled, holes}
use Rattle.fab_holes.specs.Least.{HasNoLeast, HasNoSolution, IsSolved}
use Rattle.fab_front.specs.declared.texts.Outcome.TheVariants.{Bundle}
use Rattle.fab_front.specs.declared.status.Status.{Status}
use Rattle.fab_front.specs.declared.status.Status.TheVariants.{Label as Labelled, Name, NoLeast, Ok}
use Rattle.fab_front.specs.Front.{Front, IsFront}
use Rattle.fab_front.specs.Lines.{label_line, name_line, no_least_line}

-- the bundle with the first declared label for each hole; where none is declared a hole stays, and is an unknown name
abbrev pub first_filled : Start → Start
first_filled s = filled s (map (λ at. 0) (holes s))

-- Infers text status written: the first fault of names and types, with the first declared label for each hole; the first hole that has no least
-- label; where each has one, and the rules of labels refuse these, that refusal, and nothing is accepted then; else the canonical text of the bundle
-- with these labels, which are accepted, and each of which flows to what any other choice that is accepted has there.
pub data Infers (text : List ℕ) : Status → List ℕ → Type 0 where
  misnamed : {s : Start} {x : Fault} → Front text (Bundle s) → IsFirst (faults (first_filled s)) x → Infers text (Name x.rule x.at) (name_line x.rule x.at)
  no_least : {s : Start} {at : ℕ} → Front text (Bundle s) → IsNamed s → HasNoLeast s at → Infers text (NoLeast at) (no_least_line at)
  no_solution : {s : Start} {x : Refusal}
      → Front text (Bundle s) → IsNamed s → HasNoSolution s x → Infers text (Labelled x.rule x.at x.source x.target) (label_line (resolved s) x)
  solved : {s : Start} {choice : List ℕ}
      → Front text (Bundle s) → IsNamed s → faults (filled s choice) ≡ [] → IsSolved s choice → Infers text Ok (canonical (filled s choice))

-- this is the reply, and there is no other
pub record IsInferred (text : List ℕ) (status : Status) (reply : List ℕ) : Type 0 where
  pub is : Infers text status reply
  pub only : (s : Status) (r : List ℕ) → Infers text s r → (s ≡ status) × (r ≡ reply)
