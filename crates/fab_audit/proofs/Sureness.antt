-- Journals that never fail.
use Rattle.std.specs.Prelude.{◌≡◌, ℕ, zero, suc, Bool, true, false, List, [], ◌∷◌, ◌++◌, map, Option, Some, None}
use Rattle.std.proofs.Common.{refl, sym, ap, ◌∙◌}
use Rattle.std.proofs.lemmas.Bool.{eq-eqb}
use Rattle.fab_net.specs.declared.event.Event.{Event}
use Rattle.fab_net.specs.Events.{node_at}
use Rattle.fab_node.specs.Standing.{JournalModel}
use Rattle.fab_core.specs.Starts.{journals_faults}
use Rattle.fab_core.specs.Telling.{those_in}
use Rattle.fab_replay.specs.Running.{AreBehind, fails_by}
use Rattle.fab_replay.specs.declared.running.Came.TheVariants as c
use Rattle.fab_audit.specs.Steps.{AreSure}

-- of each a count of no faults, and that it never fails
abbrev pub keys : {A : Type 0} → List A → List (ℕ × Bool)
keys xs = map (λ x. (0, true)) xs

abbrev key_of : JournalModel → ℕ × Bool
key_of j = (j.faults, j.sure)

first_key : (x y : ℕ × Bool) (xs ys : List (ℕ × Bool)) → x ∷ xs ≡ y ∷ ys → x ≡ y
first_key x y xs ys e = cc

more_keys : (x y : ℕ × Bool) (xs ys : List (ℕ × Bool)) → x ∷ xs ≡ y ∷ ys → xs ≡ ys
more_keys x y xs ys e = cc

-- a core of such journals has no others
pub sure_at_start : {A : Type 0} (journals : List (Option JournalModel)) (made : List A) → journals_faults journals ≡ keys made → AreSure journals
sure_at_start [] made e n = refl
sure_at_start (None ∷ journals) made e zero = refl
sure_at_start (None ∷ journals) made e (suc n) = sure_at_start journals made e n
sure_at_start (Some j ∷ journals) [] e n = absurd (cc)
sure_at_start (Some j ∷ journals) (x ∷ made) e zero =
    ap (λ (k : ℕ × Bool). k.1) (first_key (key_of j) (0, true) (map key_of (those_in journals)) (keys made) e)
sure_at_start (Some j ∷ journals) (x ∷ made) e (suc n) =
    sure_at_start journals made (more_keys (key_of j) (0, true) (map key_of (those_in journals)) (keys made) e) n

-- none of them may fail
pub none_may_fail : {A B : Type 0} (made : List A) (before behind : List (ℕ × Bool)) (was : ℕ) → keys made ≡ before ++ (was, false) ∷ behind → B
none_may_fail [] [] behind was e = absurd (cc)
none_may_fail [] (x ∷ before) behind was e = absurd (cc)
none_may_fail (x ∷ made) [] behind was e =
    let both : true ≡ false = ap (λ (k : ℕ × Bool). k.1) (first_key (0, true) (was, false) (keys made) behind e) in absurd (cc)
none_may_fail (x ∷ made) (y ∷ before) behind was e = none_may_fail made before behind was (more_keys (0, true) y (keys made) (before ++ (was, false) ∷ behind) e)

-- behind an event they are still such
pub still_sure : (failed : ℕ → Bool) (old new : List (Option JournalModel)) → AreBehind failed old new → AreSure old → AreSure new
still_sure failed old new h sure n = (h n).sure ∙ sure n

-- so none was cut for its journal
pub never_cut : {A : Type 0} (event : Event) (old new : List (Option JournalModel)) → AreBehind (fails_by event c.Cut) old new → AreSure old → A
never_cut event old new h sure =
    let n = node_at event in
    let both : true ≡ false = sym (sure n) ∙ (h n).never (eq-eqb n n refl) in
    absurd (cc)
