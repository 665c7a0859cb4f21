use Rattle.std.proofs.Common.{rules, inl, inr, ◌≡◌, ◌+◌, ◌<◌, suc, [], ◌∷◌, ℕ, List, length, sym, subst, ap, ◌∙◌, arith, Contains, refl, ◌-◌}
use Rattle.std.proofs.lemmas.Bool.{cases_lt}
use Rattle.std.proofs.lemmas.List.{length-append, nil_from_length, with_items_is}
use Rattle.fab_holes.specs.Passes.{mask_at, put_all}
use Rattle.fab_infer.specs.Spreading.{AreClosed, list_at, spread}
use Rattle.fab_holes.proofs.Fixed.{IsSound, none_sound}
use Rattle.fab_infer.proofs.Holding.{long_zeros, no_mask}
use Rattle.fab_infer.proofs.Settling.{IsSettled, ended, first, first_sound, long_all, settles, spread_sound}
use Rattle.fab_infer.proofs.Targets.{in_targets, list_past, of_targets}
use Rattle.fab_infer.proofs.Totals.{left, left_smaller, spread_long}
use Rattle.fab_infer.proofs.closing.closed.Goals as goal

pub waiting-init : goal.waiting-init
waiting-init c =
    let n = c.args.count in
    let flows = c.args.flows.now in
    let v = c.in_ok-masks.masks in
    let new = c.put_all.new.masks in
    let zeros = c.in_ok-masks.ensures.items_if_clones_equal (λ y e. e) in
    let put_is = c.put_all.ensures ∙ ap (λ (ms : List ℕ). put_all n ms flows) c.deref_mut.ensures.value in
    let long : length new ≡ length v.items = ap (λ (l : List ℕ). length l) put_is ∙ long_all n v.items flows in
    let whole = v.ok in
    let is_new = with_items_is v new (omega (arith, long, whole)) in
    let many : length v.items ≡ c.args.holes = ap (λ (l : List ℕ). length l) zeros ∙ long_zeros c.args.holes in
    record {
      many = ap (λ (l : List ℕ). length l) is_new ∙ long ∙ many;
      settled = subst (λ (l : List ℕ). IsSettled n flows l c.in_ok-waiting.waiting.items) (sym (is_new ∙ put_is))
          (first n flows v.items c.in_ok-waiting.waiting.items (λ h within. c.in_ok-waiting.ensures h (omega (arith, many, within))));
      sound = subst (IsSound n flows) (sym (is_new ∙ put_is))
          (first_sound n flows v.items (none_sound n flows v.items (λ h. ap (λ (l : List ℕ). mask_at l h) zeros ∙ no_mask c.args.holes h)));
    }

pub waiting-smaller : goal.waiting-smaller
waiting-smaller c =
    let v = c.waiting.masks in
    let new = c.spread.new.masks in
    let rest = c.pop.new.self.items in
    let lent = c.deref_mut-in-Some.ensures.value in
    let spread_is = c.in_ok-spread.ensures.spread ∙ ap (λ (l : List ℕ). spread c.mask_at-more.result l rest c.targets_at.result.now) lent in
    let long : length new ≡ length v.items = ap (λ (t : List ℕ × List ℕ). length t.0) spread_is ∙ spread_long c.mask_at-more.result v.items rest c.targets_at.result.now in
    let whole = v.ok in
    let is_new = with_items_is v new (omega (arith, long, whole)) in
    let one = ap (λ (l : List ℕ). length l) c.in-Some.ensures.items ∙ length-append rest (c.in-Some.hole ∷ []) in
    let less = left_smaller c.mask_at-more.result v.items rest c.targets_at.result.now new c.spread.new.waiting.items spread_is (λ h within. c.in_ok-spread.ensures.bits h) in
    let last : suc (length rest) ≡ length c.waiting.waiting.items = omega (arith, one) in
    subst (λ (l : List ℕ). left l (length c.spread.new.waiting.items) < left v.items (length c.waiting.waiting.items)) (sym is_new)
    (subst (λ (k : ℕ). left new (length c.spread.new.waiting.items) < left v.items k) last less)

pub waiting-preserved : goal.waiting-preserved
waiting-preserved c =
    let n = c.args.count in
    let flows = c.args.flows.now in
    let v = c.waiting.masks in
    let new = c.spread.new.masks in
    let rest = c.pop.new.self.items in
    let h = c.in-Some.hole in
    let targets = c.targets_at.result.now in
    let lists = c.in_ok-targets.targets.items in
    let more = mask_at v.items h in
    let more_is : c.mask_at-more.result ≡ more = c.mask_at-more.ensures ∙ ap (λ (l : List ℕ). mask_at l h) c.deref.ensures.value in
    let targets_are : targets ≡ list_at lists h = c.targets_at.ensures ∙ ap (λ (l : List (List ℕ)). list_at l h) c.deref-in-Some.ensures.value in
    let spread_is : (new, c.spread.new.waiting.items) ≡ spread more v.items rest targets =
    c.in_ok-spread.ensures.spread ∙ (λ i. spread (more_is i) (c.deref_mut-in-Some.ensures.value i) rest targets) in
    let first_is : new ≡ (spread more v.items rest targets).0 = ap (λ (t : List ℕ × List ℕ). t.0) spread_is in
    let long : length new ≡ length v.items = ap (λ (l : List ℕ). length l) first_is ∙ spread_long more v.items rest targets in
    let whole = v.ok in
    let is_new = with_items_is v new (omega (arith, long, whole)) in
    let settled = subst (IsSettled n flows v.items) c.in-Some.ensures.items c.waiting.invariant.settled in
    let many = c.waiting.invariant.many in
    let complete : h < length v.items → (p : ℕ × ℕ) → Contains flows p → p.0 ≡ n + h → Contains targets (p.1 - n) = λ within p inside from.
    subst (λ (l : List ℕ). Contains l (p.1 - n)) (sym (targets_are ∙ c.in_ok-targets.ensures.lists h (omega (arith, within, many)))) (in_targets n h flows p inside from) in
    let exact : (t : ℕ) → Contains targets t → Contains flows (n + h, n + t) = λ t inside. elim (cases_lt h c.args.holes) [
      | inl here ↦ of_targets n h flows t c.requires.to_holes (subst (λ (l : List ℕ). Contains l t) (targets_are ∙ c.in_ok-targets.ensures.lists h here) inside)
      | inr past ↦
          let lists_many = c.in_ok-targets.ensures.many in
          let nowhere = subst (λ (l : List ℕ). Contains l t) (targets_are ∙ list_past lists h (omega (arith, past, lists_many))) inside in
          let none = nowhere.1 in
          absurd (omega (arith, none))
    ] in
    let settles_so = settles n flows v.items rest targets h complete settled in
    record {
      many = ap (λ (l : List ℕ). length l) is_new ∙ long ∙ many;
      settled = subst (λ (l : List ℕ). IsSettled n flows l c.spread.new.waiting.items) (sym is_new)
          (subst (λ (t : List ℕ × List ℕ). IsSettled n flows t.0 t.1) (sym spread_is) settles_so);
      sound = subst (IsSound n flows) (sym (is_new ∙ first_is)) (spread_sound n flows h more v.items rest targets refl exact c.waiting.invariant.sound);
    }

pub returns : goal.returns
returns c =
    let n = c.args.count in
    let flows = c.args.flows.now in
    let v = c.waiting.masks in
    let none = nil_from_length c.waiting.waiting.items (search (rules, c.in_default.ensures.cases)) in
    subst (AreClosed n c.args.holes flows) (sym c.from_vec.ensures) (record {
      many = c.waiting.invariant.many;
      closed = ended n flows v.items (subst (IsSettled n flows v.items) none c.waiting.invariant.settled);
      led = c.waiting.invariant.sound;
    })
