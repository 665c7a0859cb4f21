-- What inference answers of a bundle whose numbers it is given.
use Rattle.std.proofs.Common.{◌≡◌, ◌↔◌, ℕ, zero, suc, ◌+◌, ◌<◌, List, [], ◌∷◌, length, get_or, All, Some, Result, Ok, Err, refl, sym, ap, ◌∙◌, subst, arith, IsBitSet}
use Rattle.std.specs.Prelude.{IfOk, slice_get}
use Rattle.std.specs.List.{flat_map}
use Rattle.std.proofs.lemmas.List.Elements.{All-nil, All-cons, All-head, All-tail}
use Rattle.fab_base.specs.Principals.{Leads}
use Rattle.fab_tree.specs.declared.start.Start.{Start}
use Rattle.fab_tree.specs.declared.resolved.Method.{Method}
use Rattle.fab_tree.specs.declared.resolved.Resolved.{Resolved}
use Rattle.fab_language.specs.Numbers.{resolved}
use Rattle.fab_labelling.specs.declared.rule.Refusal.{Refusal}
use Rattle.fab_labelling.specs.Claims.{IsWellLabelled}
use Rattle.fab_labelling.specs.Refusals.{IsFirstRefusal}
use Rattle.fab_authority.specs.Authority.{IsFew, HasFew}
use Rattle.fab_holes.specs.Chosen.{places_of, put_method, put_methods, with_chosen}
use Rattle.fab_holes.specs.Flowing.{all_flows, method_flows, only}
use Rattle.fab_holes.specs.Holes.{holes, filled, IsNamed}
use Rattle.fab_holes.specs.Least.{AreLeast, IsChoice, IsLeast, IsSolved, LiesBelow, HasNoLeast, HasNoSolution}
use Rattle.fab_holes.specs.Open.{opened}
use Rattle.fab_holes.specs.Passes.{mask_at, put_all, HasNoMore}
use Rattle.fab_holes.proofs.Conditions.{fine}
use Rattle.fab_holes.proofs.Lasting.{all_only, flows_are, lasting}
use Rattle.fab_holes.proofs.Puts.{chosen_is, places_are}
use Rattle.fab_holes.proofs.Solving.{is_a_choice, refused, solved}
use Rattle.fab_infer.specs.declared.error.InferError.{InferError}
use Rattle.fab_infer.specs.declared.error.InferError.TheVariants.{NoLeast}
use Rattle.fab_infer.specs.Masks.{AreBelow, IsWithout}
use Rattle.fab_infer.specs.Spreading.{AreClosed}
use Rattle.fab_infer.proofs.Holding.{are_below}

-- labels for holes leave the authority of methods
few_methods : (n : ℕ) (ms : List Method) (ls : List ℕ) → All IsFew ms → All IsFew (put_methods n ms ls).0
few_methods n [] ls all = All-nil IsFew
few_methods n (m ∷ ms) ls all = All-cons IsFew (put_method n m ls).0 (put_methods n ms (put_method n m ls).1).0 (All-head IsFew m ms all) (few_methods n ms (put_method n m ls).1 (All-tail IsFew m ms all))

pub few_stay : (r : Resolved) (ls : List ℕ) → HasFew r → HasFew (with_chosen r ls)
few_stay r ls few = record { principals = few.principals; authority = few_methods (length r.labels) r.methods ls few.authority }

module _ (s : Start) (named : IsNamed s) where
  abbrev r : Resolved
  r = resolved s

  abbrev methods : List Method
  methods = (opened r).methods

  places : places_of r ≡ holes s
  places = places_are s (fine s named)

  long : (masks : List ℕ) → length masks ≡ length (places_of r) → length masks ≡ length (holes s)
  long masks many = many ∙ ap (λ (l : List ℕ). length l) places

  is_choice : (choice : List ℕ) → length choice ≡ length (places_of r) → AreLeast r 0 choice → IsChoice s choice
  is_choice choice many least = is_a_choice s choice (long choice many) least

  all_below : (masks : List ℕ) → AreClosed (length r.labels) (length (places_of r)) (only (length r.labels) (all_flows (opened r))) masks → AreBelow r 0 masks
  all_below masks c =
      let leaves : put_all (length r.labels) masks (all_flows (opened r)) ≡ masks = sym (all_only (length r.labels) masks (all_flows (opened r))) ∙ c.closed in
      let sound : HasNoMore r masks = subst (λ (ps : List (ℕ × ℕ)). (h l : ℕ) → IsBitSet (mask_at masks h) l → (l < length r.labels) × ((way : List ℕ) × Leads ps l way (length r.labels + h))) (sym (flows_are s named)) c.led in
      are_below r 0 masks (λ i l. let e : i ≡ 0 + i = omega arith in subst (λ (z : ℕ). IsBitSet (mask_at masks i) l ↔ LiesBelow r l z) e (lasting s named masks (long masks c.many) sound leaves i l))

  solved_all : (choice : List ℕ) → length choice ≡ length (places_of r) → AreLeast r 0 choice → IsWellLabelled (with_chosen r choice) → IsSolved s choice
  solved_all choice many least right =
      let is = is_choice choice many least in
      solved s named choice is least (subst IsWellLabelled (chosen_is s named choice is) right)

  filled_all : (choice : List ℕ) → length choice ≡ length (places_of r) → AreLeast r 0 choice → with_chosen r choice ≡ resolved (filled s choice)
  filled_all choice many least = chosen_is s named choice (is_choice choice many least)

  refused_all : (choice : List ℕ) (x : Refusal) → length choice ≡ length (places_of r) → AreLeast r 0 choice → IsFirstRefusal (with_chosen r choice) x → HasNoSolution s x
  refused_all choice x many least first =
      let is = is_choice choice many least in
      refused s named choice is least x (subst (λ (z : Resolved). IsFirstRefusal z x) (chosen_is s named choice is) first)

  without_all : (hole at : ℕ) → IsWithout r hole → slice_get (places_of r) hole ≡ Some at → HasNoLeast s at
  without_all hole at w is = record {
    before = w.before;
    least = w.least;
    none = λ k h. w.none k (subst (λ (z : ℕ). IsLeast r z k) w.many h);
    place = ap (λ (z : ℕ). slice_get (holes s) z) w.many ∙ ap (λ (l : List ℕ). slice_get l hole) (sym places) ∙ is;
  }

-- ---- the same of a bundle that is the numbered one

module _ (s : Start) (given : Resolved) (named : IsNamed s) (is : given ≡ resolved s) where
  abbrev given_flows : List Method → List (ℕ × ℕ)
  given_flows ms = only (length given.labels) (flat_map (method_flows given.classes ms) ms)

  pub below_all : (masks : List ℕ) (ms : List Method) → ms ≡ (opened given).methods → AreClosed (length given.labels) (length (places_of given)) (given_flows ms) masks → AreBelow given 0 masks
  below_all masks ms e closed =
      subst (λ (g : Resolved). AreClosed (length g.labels) (length (places_of g)) (only (length g.labels) (flat_map (method_flows g.classes (opened g).methods) (opened g).methods)) masks → AreBelow g 0 masks) (sym is)
      (all_below s named masks) (subst (λ (z : List Method). AreClosed (length given.labels) (length (places_of given)) (given_flows z) masks) e closed)

  pub solved_is : (choice : List ℕ) → length choice ≡ length (places_of given) → AreLeast given 0 choice → IsWellLabelled (with_chosen given choice) → IsSolved s choice
  solved_is choice = subst (λ (g : Resolved). length choice ≡ length (places_of g) → AreLeast g 0 choice → IsWellLabelled (with_chosen g choice) → IsSolved s choice) (sym is) (solved_all s named choice)

  pub filled_is : (choice : List ℕ) → length choice ≡ length (places_of given) → AreLeast given 0 choice → with_chosen given choice ≡ resolved (filled s choice)
  filled_is choice = subst (λ (g : Resolved). length choice ≡ length (places_of g) → AreLeast g 0 choice → with_chosen g choice ≡ resolved (filled s choice)) (sym is) (filled_all s named choice)

  pub refused_is : (choice : List ℕ) (x : Refusal) → length choice ≡ length (places_of given) → AreLeast given 0 choice → IsFirstRefusal (with_chosen given choice) x → HasNoSolution s x
  refused_is choice x = subst (λ (g : Resolved). length choice ≡ length (places_of g) → AreLeast g 0 choice → IsFirstRefusal (with_chosen g choice) x → HasNoSolution s x) (sym is) (refused_all s named choice x)

  pub without_is : (hole at : ℕ) → IsWithout given hole → slice_get (places_of given) hole ≡ Some at → HasNoLeast s at
  without_is hole at = subst (λ (g : Resolved). IsWithout g hole → slice_get (places_of g) hole ≡ Some at → HasNoLeast s at) (sym is) (without_all s named hole at)

-- ---- what is answered

pub at_some : (xs : List ℕ) (i : ℕ) → i < length xs → slice_get xs i ≡ Some (get_or xs i 0)
at_some [] i within = absurd (omega (arith, within))
at_some (x ∷ xs) zero within = refl
at_some (x ∷ xs) (suc i) within = at_some xs i (omega (arith, within))

abbrev Answer : Type 0
Answer = Result (Resolved × List ℕ) InferError

abbrev no_least : ℕ → Answer
no_least at = Err (NoLeast at)

pub same_place : (x y : ℕ) → no_least x ≡ no_least y → x ≡ y
same_place x y e = cc

module _ (given : Resolved) (labels : List ℕ) (many : length labels ≡ length (places_of given)) (least : (s : Start) → IsNamed s → given ≡ resolved s → AreLeast given 0 labels) where
  pub solved_if : (r : Answer) → IfOk r (λ t. t.1 ≡ labels) → IfOk r (λ t. IsWellLabelled (with_chosen given labels)) → IfOk r (λ t. (s : Start) → IsNamed s → given ≡ resolved s → IsSolved s t.1)
  solved_if (Ok t) e right = λ s named is. subst (IsSolved s) (sym e) (solved_is s given named is labels many (least s named is) right)
  solved_if (Err x) e right = tt

  pub filled_if : (r : Answer) → IfOk r (λ t. t.1 ≡ labels) → IfOk r (λ t. t.0 ≡ with_chosen given labels) → IfOk r (λ t. (s : Start) → IsNamed s → given ≡ resolved s → t.0 ≡ resolved (filled s t.1))
  filled_if (Ok t) e f = λ s named is. f ∙ filled_is s given named is labels many (least s named is) ∙ ap (λ (l : List ℕ). resolved (filled s l)) (sym e)
  filled_if (Err x) e f = tt
