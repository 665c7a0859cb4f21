-- Events told so far, and whose posts are left.
use Rattle.std.proofs.Common.{◌≡◌, ◌<◌, ℕ, zero, suc, ◌+◌, Bool, true, false, cond, List, [], ◌∷◌, ◌++◌, codes}
use Rattle.std.proofs.Common.{length, take, drop, get_or, count_by, refl, sym, ap, ◌∙◌, append_assoc, arith}
use Rattle.std.proofs.lemmas.List.{drop_more, length-take-le}
use Rattle.std.proofs.lemmas.List.Sums.{count_by_more_yes, count_by_more_no}
use Rattle.std.proofs.lemmas.Grind.{take_at_read}
use Rattle.std.specs.Fmt.{decimal}
use Rattle.std.specs.BTreeMap.{BTreeMap}
use Rattle.fab_tree.specs.declared.resolved.Resolved.{Resolved}
use Rattle.fab_language.specs.Words.{line, spaced}
use Rattle.fab_net.specs.declared.event.Event.{Event}
use Rattle.fab_net.specs.declared.event.Event.TheVariants as e
use Rattle.fab_net.specs.declared.note.Logged.{Logged}
use Rattle.fab_trace.specs.Report.{event_words, events_text, is_post_of, target_behind, targets}
use Rattle.fab_trace.specs.Targets.{left_at, first_of, others_of, left_behind, target_left}

-- ---- lists of targets

others_behind : (n : ℕ) (xs : List ℕ) → others_of (drop n xs) ≡ drop (suc n) xs
others_behind zero [] = refl
others_behind zero (x ∷ xs) = refl
others_behind (suc n) [] = refl
others_behind (suc n) (x ∷ xs) = others_behind n xs

first_behind : (n : ℕ) (xs : List ℕ) → first_of (drop n xs) ≡ get_or xs n 0
first_behind zero [] = refl
first_behind zero (x ∷ xs) = refl
first_behind (suc n) [] = refl
first_behind (suc n) (x ∷ xs) = first_behind n xs

-- ---- events so far

abbrev posts_of : ℕ → List Logged → ℕ
posts_of h log = count_by (λ x. is_post_of h x.event) log

-- the first k events of a log are told: what is left of each sender's posts, and what is printed with what is to come
pub record AreTold (r : Resolved) (log : List Logged) (places : BTreeMap ℕ ℕ) (k : ℕ) (first out : List ℕ) : Type 0 where
  pub left : (h : ℕ) → left_at r.posts places h ≡ drop (posts_of h (take k log)) (targets r h)
  pub text : out ++ events_text r (take k log) (drop k log) ≡ first ++ events_text r [] log

-- the target is that of as many posts behind
target_told : (r : Resolved) (before : List Logged) (left : ℕ → List ℕ) (event : Event)
    → ((h : ℕ) → left h ≡ drop (posts_of h before) (targets r h)) → target_left left event ≡ target_behind r before event
target_told r before left (e.Post h) all = ap first_of (all h) ∙ first_behind (posts_of h before) (targets r h)
target_told r before left (e.Begin n) all = refl
target_told r before left (e.Resume n) all = refl
target_told r before left (e.Deliver a b) all = refl
target_told r before left (e.Idle n s) all = refl
target_told r before left (e.Crash n) all = refl
target_told r before left (e.CrashIn keep inner) all = refl
target_told r before left (e.Recover n) all = refl

abbrev event_line : Resolved → ℕ → ℕ → Logged → List ℕ
event_line r number target x = line (codes "event" ++ spaced (decimal number ∷ event_words r x.event target x.bytes))

line_on : (r : Resolved) (before rest : List Logged) (x : Logged) (number target : ℕ) (out more : List ℕ)
    → number ≡ suc (length before) → target ≡ target_behind r before x.event
    → more ≡ out ++ event_line r number target x → more ++ events_text r (before ++ x ∷ []) rest ≡ out ++ events_text r before (x ∷ rest)
line_on r before rest x number target out more counted aimed put =
    ap (λ l. l ++ events_text r (before ++ x ∷ []) rest)
    (put ∙ ap (λ n. out ++ event_line r n target x) counted ∙ ap (λ n. out ++ event_line r (suc (length before)) n x) aimed)
    ∙ append_assoc out (event_line r (suc (length before)) (target_behind r before x.event) x) (events_text r (before ++ x ∷ []) rest)

-- one event more
module _ (r : Resolved) (log : List Logged) (places after : BTreeMap ℕ ℕ) (k number target : ℕ) (x : Logged) (first out more : List ℕ)
    (within : k < length log) (is : x ≡ get_or log k x)
    (aimed : target ≡ target_left (left_at r.posts places) x.event) (moves : (h : ℕ) → left_at r.posts after h ≡ left_behind x.event (left_at r.posts places h) h)
    (counted : number ≡ k + 1) (put : more ≡ out ++ event_line r number target x) (told : AreTold r log places k first out) where
  left_if : (h : ℕ) (b : Bool) → is_post_of h x.event ≡ b
      → cond b (others_of (left_at r.posts places h)) (left_at r.posts places h) ≡ drop (posts_of h (take (k + 1) log)) (targets r h)
  left_if h true e =
      let count = count_by_more_yes (λ (y : Logged). is_post_of h y.event) log k x within (ap (λ (y : Logged). is_post_of h y.event) (sym is) ∙ e) in
      let next : suc (posts_of h (take k log)) ≡ posts_of h (take (k + 1) log) = omega (arith, count) in
      ap others_of (told.left h) ∙ others_behind (posts_of h (take k log)) (targets r h) ∙ ap (λ n. drop n (targets r h)) next
  left_if h false e =
      let count = count_by_more_no (λ (y : Logged). is_post_of h y.event) log k x within (ap (λ (y : Logged). is_post_of h y.event) (sym is) ∙ e) in
      told.left h ∙ ap (λ n. drop n (targets r h)) (sym count)

  parts : drop k log ≡ x ∷ drop (k + 1) log
  parts = drop_more log k x within ∙ ap (λ y. y ∷ drop (k + 1) log) (sym is)

  front : take (k + 1) log ≡ take k log ++ x ∷ []
  front = (take_at_read log k x within).1 ∙ ap (λ y. take k log ++ y ∷ []) (sym is)

  pub told_more : AreTold r log after (k + 1) first more
  told_more = record {
    left = λ h. moves h ∙ left_if h (is_post_of h x.event) refl;
    text =
        let long : length (take k log) ≡ k = length-take-le k log (omega (arith, within)) in
        let number_is : number ≡ suc (length (take k log)) = omega (arith, counted, long) in
        let target_is = aimed ∙ target_told r (take k log) (left_at r.posts places) x.event told.left in
        ap (λ xs. more ++ events_text r xs (drop (k + 1) log)) front
        ∙ line_on r (take k log) (drop (k + 1) log) x number target out more number_is target_is put
        ∙ ap (λ xs. out ++ events_text r (take k log) xs) (sym parts)
        ∙ told.text;
  }
