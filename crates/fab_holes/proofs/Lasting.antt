-- What flows to the holes of a bundle is what flows to the locals of its methods, as far as these are holes; so masks that a pass over this
-- leaves as they are have what lies below the holes.
use Rattle.std.proofs.Common.{◌≡◌, ◌↔◌, ℕ, suc, ◌+◌, ◌-◌, ◌<◌, ◌≤◌, nat_lt, not, Bool, true, false, cond, if◌then◌else◌, List, [], ◌∷◌, ◌++◌, map, filter, length, Some, None, refl, sym, ap, ◌∙◌, subst, arith, Contains, IsBitSet}
use Rattle.std.specs.List.{AllByRecursion, flat_map, range_with_len}
use Rattle.std.proofs.lemmas.List.{length-append, length-map}
use Rattle.fab_base.proofs.Lists.{all_along}
use Rattle.fab_tree.specs.declared.program.Parameter.{Parameter}
use Rattle.fab_tree.specs.declared.program.Method.{Method as Written}
use Rattle.fab_tree.specs.declared.resolved.Class.{Class}
use Rattle.fab_tree.specs.declared.resolved.Local.{Local}
use Rattle.fab_tree.specs.declared.resolved.Method.{Method}
use Rattle.fab_tree.specs.declared.resolved.Root.{Root}
use Rattle.fab_tree.specs.declared.resolved.Asked.{Asked}
use Rattle.fab_tree.specs.declared.resolved.Session.{Session}
use Rattle.fab_tree.specs.declared.resolved.Resolved.{Resolved}
use Rattle.fab_tree.specs.declared.start.Start.{Start}
use Rattle.fab_tree.specs.Limits.{locals_of}
use Rattle.fab_language.specs.Uses.{label_use}
use Rattle.fab_language.specs.MethodNumbers.{in_turn, numbered_local, method_of, methods_of}
use Rattle.fab_language.specs.Numbers.{resolved}
use Rattle.fab_labelling.specs.declared.rule.LabelRule.TheVariants.{Authority}
use Rattle.fab_labelling.specs.Obligations.{answers_for, Owed, owe, authority_of, failure_of, block_owes, return_owes, method_owes, root_owes, request_owes, session_owes, owed}
use Rattle.fab_holes.specs.Holes.{is_hole, holes_in, holes, IsNamed}
use Rattle.fab_holes.specs.Open.{with_label, opened_local, opened_method, opened}
use Rattle.fab_holes.specs.Least.{into_holes, LiesBelow}
use Rattle.fab_holes.specs.Flowing.{method_flows, all_flows, only}
use Rattle.fab_holes.specs.Passes.{mask_at, with_more, mask_of, put, put_all}
use Rattle.fab_holes.proofs.Choosing.{IsWithin, of_pair}
use Rattle.fab_holes.proofs.Conditions.{IsDeclared, fine, within, declared_methods, declared_classes}
use Rattle.fab_holes.proofs.Fixed.{IsSound, all_sound, complete}
use Rattle.fab_holes.proofs.Flows.{pairs, pairs_append, both_parts, both_quiet, HeadBelow, IsQuiet, block_pairs, quiet_return}
use Rattle.fab_holes.proofs.Numbering.{many, hole_or_not, IsFine, AreFine}
use Rattle.fab_holes.proofs.Renaming.{each_of}

nil_right : {A : Type 0} (xs : List A) → xs ++ [] ≡ xs
nil_right [] = refl
nil_right (x ∷ xs) = ap (λ l. x ∷ l) (nil_right xs)

module _ (n : ℕ) where
  quiet_roots : (xs : List Root) → pairs n (map root_owes xs) ≡ []
  quiet_roots [] = refl
  quiet_roots (x ∷ xs) = quiet_roots xs

  quiet_each : (x : Asked) (ps : List ℕ) → pairs n (map (λ p. owe Authority x.at (answers_for x.request.worker x.request.method p)) ps) ≡ []
  quiet_each x [] = refl
  quiet_each x (p ∷ ps) = quiet_each x ps

  quiet_requests : (count : ℕ) (xs : List Asked) → pairs n (flat_map (request_owes count) xs) ≡ []
  quiet_requests count [] = refl
  quiet_requests count (x ∷ xs) = both_quiet n (request_owes count x) (flat_map (request_owes count) xs) (quiet_each x (range_with_len 0 count)) (quiet_requests count xs)

  quiet_sessions : (count : ℕ) (xs : List Session) → pairs n (flat_map (session_owes count) xs) ≡ []
  quiet_sessions count [] = refl
  quiet_sessions count (x ∷ xs) = both_quiet n (session_owes count x) (flat_map (session_owes count) xs) (quiet_requests count x.requests) (quiet_sessions count xs)

  head_of : (m : Method) → IsDeclared n m → HeadBelow n m
  head_of m h = record { begin = h.begin; returns = h.returns }

  module _ (classes : List Class) (declared : AllByRecursion (λ (c : Class). c.label.number < n) classes) (methods : List Method) (heads : AllByRecursion (HeadBelow n) methods) where
    one_method : (m : Method) → IsDeclared n m → pairs n (method_owes classes methods m) ≡ only n (method_flows classes methods m)
    one_method m h =
        let pc = m.begin.number ∷ [] in
        let owes = block_owes classes methods m.locals (authority_of m) m.body pc (failure_of m) in
        let last = return_owes classes methods m.locals (authority_of m) m.returns m.result pc (failure_of m) in
        let q = quiet m.fails in
        pairs_append n owes last
        ∙ (λ i. block_pairs n classes declared m.locals methods (authority_of m) heads m.body h.body pc (failure_of m) q i ++ quiet_return n classes declared m.locals methods (authority_of m) heads m.returns m.result h.returns pc (failure_of m) q i)
        ∙ nil_right (only n (method_flows classes methods m))
      where
        quiet : (b : Bool) → IsQuiet n (if b then Some m.begin.number else None)
        quiet true = h.begin
        quiet false = tt

    each_method : (ms : List Method) → AllByRecursion (IsDeclared n) ms → pairs n (flat_map (method_owes classes methods) ms) ≡ only n (flat_map (method_flows classes methods) ms)
    each_method [] h = refl
    each_method (m ∷ ms) h = both_parts n (method_owes classes methods m) (flat_map (method_owes classes methods) ms) (method_flows classes methods m) (flat_map (method_flows classes methods) ms) (one_method m h.0) (each_method ms h.1)

  -- flows to declared labels change nothing
  pub all_only : (ms : List ℕ) (ps : List (ℕ × ℕ)) → put_all n ms (only n ps) ≡ put_all n ms ps
  all_only ms [] = refl
  all_only ms (p ∷ ps) = by (nat_lt p.1 n) refl (λ qs. all_only qs ps)
    where
      by : (b : Bool) → nat_lt p.1 n ≡ b → ((qs : List ℕ) → put_all n qs (only n ps) ≡ put_all n qs ps)
          → put_all n ms ((if b then [] else p ∷ []) ++ only n ps) ≡ put_all n (put n ms p) ps
      by true e rest = rest ms ∙ ap (λ qs. put_all n qs ps) (sym (ap (λ b. if b then ms else with_more ms (p.1 - n) (mask_of n ms p.0)) e))
      by false e rest = rest (put n ms p)

module _ (start : Start) (named : IsNamed start) where
  abbrev r : Resolved
  r = resolved start

  abbrev all : List (ℕ × ℕ)
  all = into_holes r

  pub flows_are : all ≡ only (many start) (all_flows (opened r))
  flows_are =
      let n = many start in
      let s = opened r in
      let heads = all_along (IsDeclared n) (HeadBelow n) (head_of n) s.methods (declared_methods start named) in
      let methods = flat_map (method_owes s.classes s.methods) s.methods in
      let roots = map root_owes s.roots in
      let sessions = flat_map (session_owes (length s.nodes)) s.sessions in
      pairs_append n (methods ++ roots) sessions
      ∙ (λ i. (pairs_append n methods roots ∙ (λ j. each_method n s.classes (declared_classes start named) s.methods heads s.methods (declared_methods start named) j ++ quiet_roots n s.roots j)
      ∙ nil_right (only n (all_flows s))) i ++ quiet_sessions n (length s.nodes) s.sessions i)
      ∙ nil_right (only n (all_flows s))

  -- a pass of masks that are sound gives such
  pub pass_sound : (ms : List ℕ) → IsSound (many start) all ms → IsSound (many start) all (put_all (many start) ms (all_flows (opened r)))
  pass_sound ms sound =
      subst (IsSound (many start) all) (ap (put_all (many start) ms) flows_are ∙ all_only (many start) ms (all_flows (opened r)))
      (all_sound (many start) all ms all sound (λ p inside. inside))

  -- ---- as many holes are numbered as there are

  count_local : (p : Parameter) (h : ℕ) → IsFine start p → (opened_local (many start) (numbered_local start p) h).1 ≡ (if is_hole start p.label then suc h else h)
  count_local p h each = by (nat_lt (label_use start p.label).number (many start)) (hole_or_not start p each)
    where
      by : (b : Bool) → not b ≡ is_hole start p.label → (if◌then◌else◌ {A = Local × ℕ} b (numbered_local start p, h) (with_label (length (resolved start).labels + h) (numbered_local start p), suc h)).1 ≡ (if is_hole start p.label then suc h else h)
      by true e = ap (λ b. if b then suc h else h) e
      by false e = ap (λ b. if b then suc h else h) e

  count_locals : (ps : List Parameter) (h : ℕ) → AllByRecursion (IsFine start) ps → (in_turn (map (opened_local (many start)) (map (numbered_local start) ps)) h).1 ≡ h + length (filter (λ (p : Parameter). is_hole start p.label) ps)
  count_locals [] h each = omega arith
  count_locals (p ∷ ps) h each =
      ap (λ k. (in_turn (map (opened_local (many start)) (map (numbered_local start) ps)) k).1) (count_local p h each.0)
      ∙ by (λ k. count_locals ps k each.1) (is_hole start p.label)
    where
      by : ((k : ℕ) → (in_turn (map (opened_local (length (resolved start).labels)) (map (numbered_local start) ps)) k).1 ≡ k + length (filter (λ (q : Parameter). is_hole start q.label) ps)) → (b : Bool)
          → (in_turn (map (opened_local (length (resolved start).labels)) (map (numbered_local start) ps)) (if b then suc h else h)).1 ≡ h + length (cond b (p ∷ filter (λ (q : Parameter). is_hole start q.label) ps) (filter (λ (q : Parameter). is_hole start q.label) ps))
      by rest true = let e = rest (suc h) in omega (arith, e)
      by rest false = rest h

  count_methods : (ms : List Written) (h k : ℕ) → AllByRecursion (AreFine start) ms → (in_turn (map (opened_method (many start)) (methods_of start ms k).0) h).1 ≡ h + length (flat_map (holes_in start) ms)
  count_methods [] h k each = omega arith
  count_methods (m ∷ ms) h k each =
      let o = opened_method (many start) (method_of start m k).0 h in
      let here = count_locals (locals_of m) h each.0 in
      let places = length-map (filter (λ (p : Parameter). is_hole start p.label) (locals_of m)) (λ (p : Parameter). p.label.at) in
      let both = length-append (holes_in start m) (flat_map (holes_in start) ms) in
      count_methods ms o.1 (method_of start m k).1 each.1
      ∙ sums o.1 (length (filter (λ (p : Parameter). is_hole start p.label) (locals_of m))) (length (holes_in start m)) (length (flat_map (holes_in start) ms)) (length (flat_map (holes_in start) (m ∷ ms))) here places both
    where
      sums : (next here places rest all : ℕ) → next ≡ h + here → places ≡ here → all ≡ places + rest → next + rest ≡ h + all
      sums next here places rest all e f g = omega (arith, e, f, g)

  -- what flows to a hole flows to one of these
  to_one : 0 < many start + length (holes start) → (p : ℕ × ℕ) → Contains all p → p.1 - many start < length (holes start)
  to_one some p inside =
      let x = of_pair r (owed (opened r)) p.0 p.1 inside in
      let bound = within start named (length (holes start)) (le (in_turn (map (opened_method (many start)) (resolved start).methods) 0).1 (length (holes start)) (count_methods start.program.methods 0 0 (fine start named))) in
      let flow = subst (IsWithin (many start + length (holes start))) x.2 (each_of (λ (y : Owed). IsWithin (many start + length (holes start)) y.claim) (owed (opened r)) x.0 bound x.1) in
      less p.1 (length (holes start)) x.3 (flow some).1
    where
      le : (a b : ℕ) → a ≡ 0 + b → a ≤ b
      le a b e = omega (arith, e)

      less : (b room : ℕ) → length (resolved start).labels ≤ b → b < length (resolved start).labels + room → b - length (resolved start).labels < room
      less b room above below = omega (arith, above, below)

  -- sound masks that a pass leaves as they are, one for each hole, have exactly what lies below
  pub lasting : (ms : List ℕ) → length ms ≡ length (holes start) → IsSound (many start) all ms → put_all (many start) ms (all_flows (opened r)) ≡ ms → (h l : ℕ) → IsBitSet (mask_at ms h) l ↔ LiesBelow r l h
  lasting ms long sound leaves h l =
      let same : put_all (many start) ms all ≡ ms = ap (put_all (many start) ms) flows_are ∙ all_only (many start) ms (all_flows (opened r)) ∙ leaves in (
        sound h l,
        λ lies.
            let some = any l (many start) (length (holes start)) lies.0 in
            complete (many start) all ms same (λ p inside above. subst (λ z. p.1 - many start < z) (sym long) (to_one some p inside)) (λ p inside. (of_pair r (owed (opened r)) p.0 p.1 inside).3) h l lies,
      )
    where
      any : (l n m : ℕ) → l < n → 0 < n + m
      any l n m h = omega (arith, h)
