-- A run posts no more than its bundle has to post.
use Rattle.std.proofs.Common.{◌≡◌, ◌⊎◌, inl, inr, ℕ, zero, suc, ◌+◌, ◌≤◌, ◌<◌, ◌==◌, ◌&&◌, not, true, false, cond, IsTrue, List, [], ◌∷◌, fold, length, None, refl, ap, ◌∙◌, arith}
use Rattle.std.specs.List.{filter}
use Rattle.std.proofs.lemmas.Bool.{false≢true, and_parts, cases_eq, eq-eqb, ne_eqb}
use Rattle.std.proofs.lemmas.List.{length-map}
use Rattle.fab_tree.specs.declared.start.Start.{Start}
use Rattle.fab_tree.specs.declared.resolved.Resolved.{Resolved}
use Rattle.fab_tree.specs.declared.resolved.Post.{Post}
use Rattle.fab_tree.specs.Limits.{first_passed}
use Rattle.fab_tree.proofs.Within.{is_within}
use Rattle.fab_language.specs.Numbers.{resolved, post_of}
use Rattle.fab_rights.specs.Computed.{is_node}
use Rattle.fab_world.specs.Machine.{Setting, World, Move, Form, Does, Cuts, Fails, Posts, Crashes, Never, with_at, form_of, posted, steps, step, enabled, are_enabled, runs, at_start, is_empty}
use Rattle.fab_settings.specs.Settings.{posts_of, setting_of}
use Rattle.fab_integrity.proofs.Changes.{ready_posts}
use Rattle.fab_integrity.proofs.Roles.{node_below}
use Rattle.fab_release.specs.Isolation.{posts_at}
use Rattle.fab_isolation.specs.Law.{BundlesPostFew}

-- ---- what is left at the nodes below a number

abbrev left_below : {A : Type 0} → (ℕ → List A) → ℕ → ℕ
left_below f zero = 0
left_below f (suc n) = left_below f n + length (f n)

below_apart : (n h : ℕ) → n < h → (n == h) ≡ false
below_apart n h low = ne_eqb n h (λ e. omega (arith, low, e))

-- what is changed from the number on doesn't count
unchanged : {A : Type 0} (f : ℕ → List A) (h : ℕ) (more : List A) (n : ℕ) → n ≤ h → left_below (with_at f h more) n ≡ left_below f n
unchanged f h more zero low = refl
unchanged f h more (suc n) low =
    ap (λ k. k + length (with_at f h more n)) (unchanged f h more n (omega (arith, low)))
    ∙ ap (λ b. left_below f n + length (cond b more (f n))) (below_apart n h (omega (arith, low)))

-- one less is left where one goes
one_less : {A : Type 0} (f : ℕ → List A) (h : ℕ) (x : A) (more : List A) → f h ≡ x ∷ more → (n : ℕ) → h < n → suc (left_below (with_at f h more) n) ≡ left_below f n
one_less f h x more e zero low = absurd (omega (arith, low))
one_less f h x more e (suc n) low = by (cases_eq n h) (one_less f h x more e n)
  where
    by : (n ≡ h) ⊎ (n ≡ h → ⊥) → (h < n → suc (left_below (with_at f h more) n) ≡ left_below f n) → suc (left_below (with_at f h more) (suc n)) ≡ left_below f (suc n)
    by (inl same) later =
        let rest = unchanged f h more n (omega (arith, same)) in
        let here = ap (λ t. length (cond t more (f n))) (eq-eqb n h same) in
        let there = ap length (ap f same ∙ e) in
        omega (arith, rest, here, there)
    by (inr other) later =
        let rest = later (let apart = other in omega (arith, low, apart)) in
        let here = ap (λ t. length (cond t more (f n))) (ne_eqb n h other) in
        omega (arith, rest, here)

-- ---- steps and runs

module _ (S : Setting) (below : (n : ℕ) → is_node S.rights n ≡ true → n < 64) where
  abbrev left : World → ℕ
  left v = left_below v.posts 64

  posted_one : (v : World) (h : ℕ) → h < 64 → (posts : List (ℕ × List ℕ)) → v.posts h ≡ posts → not (is_empty posts) ≡ true → suc (left (posted S v h posts)) ≡ left v
  posted_one v h low [] e some = absurd (false≢true some)
  posted_one v h low (post ∷ more) e some = one_less v.posts h post more e 64 low

  step_left : (v : World) (form : Form) → IsTrue (enabled S v form) → left (steps S v form) + posts_at form ≡ left v
  step_left v (Does e) can = let h = ap (λ (f : ℕ → List (ℕ × List ℕ)). left_below f 64) (ready_posts S v e) in omega (arith, h)
  step_left v (Cuts keep e) can = let h = ap (λ (f : ℕ → List (ℕ × List ℕ)). left_below f 64) (ready_posts S v e) in omega (arith, h)
  step_left v (Fails keep e) can = omega arith
  step_left v (Posts h) can =
      let p = and_parts (is_node S.rights h && S.hostile h) (not (is_empty (v.posts h))) can in
      let one = posted_one v h (below h (and_parts (is_node S.rights h) (S.hostile h) p.0).0) (v.posts h) refl p.1 in
      omega (arith, one)
  step_left v (Crashes n) can = omega arith
  step_left v Never can = omega arith

  -- counted from some number on
  run_left : (v : World) (moves : List Move) (count : ℕ) → IsTrue (are_enabled S v moves)
      → left (runs S v moves) + fold (λ n move. n + posts_at (form_of move)) count moves ≡ count + left v
  run_left v [] count can = omega arith
  run_left v (move ∷ moves) count can =
      let p = and_parts (enabled S v (form_of move)) (are_enabled S (step S v move) moves) can in
      let one = step_left v (form_of move) p.0 in
      let rest = run_left (step S v move) moves (count + posts_at (form_of move)) p.1 in
      omega (arith, one, rest)

-- ---- posts of a bundle

abbrev with_one : {A : Type 0} (f : ℕ → List A) (c : ℕ) (x : A) → ℕ → List A
with_one f c x n = cond (c == n) (x ∷ f n) (f n)

abbrev sent_by : List Post → ℕ → List Post
sent_by posts n = filter (λ p. p.sender == n) posts

below_other : (c n : ℕ) → n < c → (c == n) ≡ false
below_other c n low = ne_eqb c n (λ e. omega (arith, low, e))

one_past : {A : Type 0} (f : ℕ → List A) (c : ℕ) (x : A) (n : ℕ) → n ≤ c → left_below (with_one f c x) n ≡ left_below f n
one_past f c x zero low = refl
one_past f c x (suc n) low =
    ap (λ k. k + length (with_one f c x n)) (one_past f c x n (omega (arith, low)))
    ∙ ap (λ b. left_below f n + length (cond b (x ∷ f n) (f n))) (below_other c n (omega (arith, low)))

one_more : {A : Type 0} (f : ℕ → List A) (c : ℕ) (x : A) (n : ℕ) → left_below (with_one f c x) n ≤ suc (left_below f n)
one_more f c x zero = omega arith
one_more f c x (suc n) = by (cases_eq c n) (one_more f c x n)
  where
    by : (c ≡ n) ⊎ (c ≡ n → ⊥) → left_below (with_one f c x) n ≤ suc (left_below f n) → left_below (with_one f c x) (suc n) ≤ suc (left_below f (suc n))
    by (inl same) later =
        let rest = one_past f c x n (omega (arith, same)) in
        let here = ap (λ t. length (cond t (x ∷ f n) (f n))) (eq-eqb c n same) in
        omega (arith, rest, here)
    by (inr other) later =
        let here = ap (λ t. length (cond t (x ∷ f n) (f n))) (ne_eqb c n other) in
        omega (arith, later, here)

none_left : (n : ℕ) → left_below (sent_by []) n ≡ 0
none_left zero = refl
none_left (suc n) = ap (λ k. k + 0) (none_left n)

all_sent : (posts : List Post) (n : ℕ) → left_below (sent_by posts) n ≤ length posts
all_sent [] n = let h = none_left n in omega (arith, h)
all_sent (p ∷ posts) n =
    let one = one_more (sent_by posts) p.sender p n in
    let rest = all_sent posts n in
    omega (arith, one, rest)

as_long : (r : Resolved) (n : ℕ) → left_below (posts_of r) n ≡ left_below (sent_by r.posts) n
as_long r zero = refl
as_long r (suc n) =
    let rest = as_long r n in
    let here : length (posts_of r n) ≡ length (sent_by r.posts n) = length-map (sent_by r.posts n) (λ (p : Post). (p.receiver, p.bytes)) in
    omega (arith, rest, here)

few_posts : (s : Start) → first_passed s ≡ None → length s.posts ≤ 10000
few_posts s limits = (is_within s limits).posts

pub post_few : BundlesPostFew
post_few s rights accepted moves run =
    let S = setting_of (resolved s) rights in
    let counted = run_left S (λ n h. node_below rights accepted.workers accepted.stores n h) (at_start S) moves 0 run.enabled in
    let long = as_long (resolved s) 64 in
    let sent = all_sent (resolved s).posts 64 in
    let mapped = length-map s.posts (post_of s) in
    let few = few_posts s accepted.within in
    omega (arith, counted, long, sent, mapped, few)
