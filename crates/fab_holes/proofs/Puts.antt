-- Labels that are put for holes in turn are those of the renamed bundle, and the places of holes are those of the text.
use Rattle.std.proofs.Common.{◌≡◌, ℕ, zero, suc, ◌+◌, ◌<◌, ◌≤◌, nat_lt, not, Bool, true, false, cond, if◌then◌else◌, List, [], ◌∷◌, ◌++◌, map, filter, length, Some, refl, sym, ap, ◌∙◌, arith, drop}
use Rattle.std.specs.Prelude.{slice_get}
use Rattle.std.specs.List.{AllByRecursion, flat_map}
use Rattle.fab_tree.specs.declared.program.Parameter.{Parameter}
use Rattle.fab_tree.specs.declared.program.Method.{Method as Written}
use Rattle.fab_tree.specs.declared.start.Start.{Start}
use Rattle.fab_tree.specs.declared.resolved.Local.{Local}
use Rattle.fab_tree.specs.declared.resolved.Method.{Method}
use Rattle.fab_tree.specs.Limits.{locals_of}
use Rattle.fab_language.specs.MethodNumbers.{in_turn, numbered_local, method_of, methods_of}
use Rattle.fab_language.specs.Numbers.{resolved}
use Rattle.fab_holes.specs.Holes.{is_hole, holes_in, holes, filled, IsNamed}
use Rattle.fab_holes.specs.Open.{with_label, opened_local, opened_method, renamed_method}
use Rattle.fab_holes.specs.Least.{chosen_label, IsChoice}
use Rattle.fab_holes.proofs.Choosing.{slice_some, stays_below, at_hole, lt_true}
use Rattle.fab_holes.proofs.Conditions.{fine, gives}
use Rattle.fab_holes.proofs.Numbering.{many, hole_or_not, IsFine, AreFine, all_opened}
use Rattle.fab_holes.proofs.Solving.{numbered}
use Rattle.fab_holes.specs.Chosen.{put_first, put_locals, put_method, put_methods, places_in, places_of, with_chosen}

drop_at : (xs : List ℕ) (h l : ℕ) → slice_get xs h ≡ Some l → drop h xs ≡ l ∷ drop (suc h) xs
drop_at [] h l e = absurd (cc)
drop_at (x ∷ xs) zero l e = let s : x ≡ l = cc in ap (λ z. z ∷ xs) s
drop_at (x ∷ xs) (suc h) l e = drop_at xs h l e

-- one more of a list
more_locals : (n : ℕ) (xs : List Local) (x : Local) (ls : List ℕ) → put_locals n (xs ++ x ∷ []) ls ≡ ((put_locals n xs ls).0 ++ (put_first n x (put_locals n xs ls).1).0 ∷ [], (put_first n x (put_locals n xs ls).1).1)
more_locals n [] x ls = refl
more_locals n (y ∷ ys) x ls = ap (λ (b : List Local × List ℕ). ((put_first n y ls).0 ∷ b.0, b.1)) (more_locals n ys x (put_first n y ls).1)

pub next_local : (n : ℕ) (xs : List Local) (x y : Local) (ls rest after : List ℕ) (out more : List Local) → put_locals n xs ls ≡ (out, rest) → (y, after) ≡ put_first n x rest → more ≡ out ++ y ∷ []
    → put_locals n (xs ++ x ∷ []) ls ≡ (more, after)
next_local n xs x y ls rest after out more so_far first pushed =
    more_locals n xs x ls
    ∙ ap (λ (a : List Local × List ℕ). (a.0 ++ (put_first n x a.1).0 ∷ [], (put_first n x a.1).1)) so_far
    ∙ ap (λ (b : Local × List ℕ). (out ++ b.0 ∷ [], b.1)) (sym first)
    ∙ ap (λ (o : List Local). (o, after)) (sym pushed)

more_methods : (n : ℕ) (xs : List Method) (x : Method) (ls : List ℕ) → put_methods n (xs ++ x ∷ []) ls ≡ ((put_methods n xs ls).0 ++ (put_method n x (put_methods n xs ls).1).0 ∷ [], (put_method n x (put_methods n xs ls).1).1)
more_methods n [] x ls = refl
more_methods n (y ∷ ys) x ls = ap (λ (b : List Method × List ℕ). ((put_method n y ls).0 ∷ b.0, b.1)) (more_methods n ys x (put_method n y ls).1)

pub next_method : (n : ℕ) (xs : List Method) (x y : Method) (ls rest after : List ℕ) (out more : List Method) → put_methods n xs ls ≡ (out, rest) → (y, after) ≡ put_method n x rest → more ≡ out ++ y ∷ []
    → put_methods n (xs ++ x ∷ []) ls ≡ (more, after)
next_method n xs x y ls rest after out more so_far first pushed =
    more_methods n xs x ls
    ∙ ap (λ (a : List Method × List ℕ). (a.0 ++ (put_method n x a.1).0 ∷ [], (put_method n x a.1).1)) so_far
    ∙ ap (λ (b : Method × List ℕ). (out ++ b.0 ∷ [], b.1)) (sym first)
    ∙ ap (λ (o : List Method). (o, after)) (sym pushed)

-- a local that is no hole stays
pub kept_first : (n : ℕ) (x : Local) (ls : List ℕ) → x.label.number < n → put_first n x ls ≡ (x, ls)
kept_first n x [] h = refl
kept_first n x (l ∷ ls) h = ap (λ b. if◌then◌else◌ {A = Local × List ℕ} b (x, l ∷ ls) (with_label l x, ls)) (lt_true x.label.number n h)

module _ (n : ℕ) (choice : List ℕ) where
  abbrev f : ℕ → ℕ
  f = chosen_label n choice

  abbrev other : Local → Local
  other x = with_label (f x.label.number) x

  abbrev opened_if : Bool → Local → ℕ → Local × ℕ
  opened_if b x h = if b then (x, h) else (with_label (n + h) x, suc h)

  kept_true : (x : Local) (ls : List ℕ) → nat_lt x.label.number n ≡ true → put_first n x ls ≡ (x, ls)
  kept_true x [] e = refl
  kept_true x (l ∷ ls) e = ap (λ b. if◌then◌else◌ {A = Local × List ℕ} b (x, l ∷ ls) (with_label l x, ls)) e

  puts_first : (x : Local) (h : ℕ) → (opened_local n x h).1 ≤ length choice → put_first n x (drop h choice) ≡ (other (opened_local n x h).0, drop (opened_local n x h).1 choice)
  puts_first x h bound = by (nat_lt x.label.number n) refl bound
    where
      below : nat_lt x.label.number n ≡ true → x.label.number < n
      below e = grind arith

      by : (b : Bool) → nat_lt x.label.number n ≡ b → (opened_if b x h).1 ≤ length choice → put_first n x (drop h choice) ≡ (with_label (chosen_label n choice (opened_if b x h).0.label.number) (opened_if b x h).0, drop (opened_if b x h).1 choice)
      by true e l = kept_true x (drop h choice) e ∙ ap (λ k. (with_label k x, drop h choice)) (sym (stays_below n choice x.label.number (below e)))
      by false e l =
          let s = slice_some choice h (inside l) in
          ap (put_first n x) (drop_at choice h s.0 s.1)
          ∙ ap (λ b. if◌then◌else◌ {A = Local × List ℕ} b (x, s.0 ∷ drop (suc h) choice) (with_label s.0 x, drop (suc h) choice)) e
          ∙ ap (λ k. (with_label k x, drop (suc h) choice)) (sym (at_hole n choice h s.0 s.1))
        where
          inside : suc h ≤ length choice → h < length choice
          inside l = omega (arith, l)

  grows_one : (x : Local) (h : ℕ) → h ≤ (opened_local n x h).1
  grows_one x h = elim (nat_lt x.label.number n) as (λ b. h ≤ (opened_if b x h).1) [ true ↦ omega arith | false ↦ omega arith ]

  grows : (xs : List Local) (h : ℕ) → h ≤ (in_turn (map (opened_local n) xs) h).1
  grows [] h = omega arith
  grows (x ∷ xs) h = let a = grows_one x h in let b = grows xs (opened_local n x h).1 in le h (opened_local n x h).1 (in_turn (map (opened_local n) xs) (opened_local n x h).1).1 a b
    where
      le : (a b c : ℕ) → a ≤ b → b ≤ c → a ≤ c
      le a b c e f = omega (arith, e, f)

  grows_all : (ms : List Method) (h : ℕ) → h ≤ (in_turn (map (opened_method n) ms) h).1
  grows_all [] h = omega arith
  grows_all (m ∷ ms) h = let a = grows m.locals h in let b = grows_all ms (opened_method n m h).1 in le h (opened_method n m h).1 (in_turn (map (opened_method n) ms) (opened_method n m h).1).1 a b
    where
      le : (a b c : ℕ) → a ≤ b → b ≤ c → a ≤ c
      le a b c e f = omega (arith, e, f)

  puts_locals : (xs : List Local) (h : ℕ) → (in_turn (map (opened_local n) xs) h).1 ≤ length choice
      → put_locals n xs (drop h choice) ≡ (map other (in_turn (map (opened_local n) xs) h).0, drop (in_turn (map (opened_local n) xs) h).1 choice)
  puts_locals [] h bound = refl
  puts_locals (x ∷ xs) h bound =
      let o = opened_local n x h in
      let more = grows xs o.1 in
      let first = puts_first x h (le o.1 (in_turn (map (opened_local n) xs) o.1).1 (length choice) more bound) in
      ap (λ (a : Local × List ℕ). let b = put_locals n xs a.1 in (a.0 ∷ b.0, b.1)) first
      ∙ ap (λ (b : List Local × List ℕ). (other o.0 ∷ b.0, b.1)) (puts_locals xs o.1 bound)
    where
      le : (a b c : ℕ) → a ≤ b → b ≤ c → a ≤ c
      le a b c e f = omega (arith, e, f)

  pub puts_methods : (ms : List Method) (h : ℕ) → (in_turn (map (opened_method n) ms) h).1 ≤ length choice
      → put_methods n ms (drop h choice) ≡ (map (renamed_method f) (in_turn (map (opened_method n) ms) h).0, drop (in_turn (map (opened_method n) ms) h).1 choice)
  puts_methods [] h bound = refl
  puts_methods (m ∷ ms) h bound =
      let o = opened_method n m h in
      let more = grows_all ms o.1 in
      let first = puts_locals m.locals h (le o.1 (in_turn (map (opened_method n) ms) o.1).1 (length choice) more bound) in
      ap (λ (a : List Local × List ℕ). let b = put_methods n ms a.1 in (record m { locals = a.0 } ∷ b.0, b.1)) first
      ∙ ap (λ (b : List Method × List ℕ). (renamed_method f o.0 ∷ b.0, b.1)) (puts_methods ms o.1 bound)
    where
      le : (a b c : ℕ) → a ≤ b → b ≤ c → a ≤ c
      le a b c e f = omega (arith, e, f)

-- ---- places

module _ (start : Start) where
  places_same : (ps : List Parameter) → AllByRecursion (IsFine start) ps → places_in (many start) (map (numbered_local start) ps) ≡ map (λ (p : Parameter). p.label.at) (filter (λ (p : Parameter). is_hole start p.label) ps)
  places_same [] each = refl
  places_same (p ∷ ps) each =
      ap (λ b. map (λ (x : Local). x.label.at) (cond b (numbered_local start p ∷ filter (λ (x : Local). not (nat_lt x.label.number (many start))) (map (numbered_local start) ps)) (filter (λ (x : Local). not (nat_lt x.label.number (many start))) (map (numbered_local start) ps)))) (hole_or_not start p each.0)
      ∙ by (is_hole start p.label) (places_same ps each.1)
    where
      by : (b : Bool) → places_in (many start) (map (numbered_local start) ps) ≡ map (λ (q : Parameter). q.label.at) (filter (λ (q : Parameter). is_hole start q.label) ps)
          → map (λ (x : Local). x.label.at) (cond b (numbered_local start p ∷ filter (λ (x : Local). not (nat_lt x.label.number (many start))) (map (numbered_local start) ps)) (filter (λ (x : Local). not (nat_lt x.label.number (many start))) (map (numbered_local start) ps)))
          ≡ map (λ (q : Parameter). q.label.at) (cond b (p ∷ filter (λ (q : Parameter). is_hole start q.label) ps) (filter (λ (q : Parameter). is_hole start q.label) ps))
      by true e = ap (λ l. p.label.at ∷ l) e
      by false e = e

  all_places : (ms : List Written) (k : ℕ) → AllByRecursion (AreFine start) ms → flat_map (λ (m : Method). places_in (many start) m.locals) (methods_of start ms k).0 ≡ flat_map (holes_in start) ms
  all_places [] k each = refl
  all_places (m ∷ ms) k each = λ i. places_same (locals_of m) each.0 i ++ all_places ms (method_of start m k).1 each.1 i

  pub places_are : AllByRecursion (AreFine start) start.program.methods → places_of (resolved start) ≡ holes start
  places_are each = all_places start.program.methods 0 each

-- ---- the whole

module _ (start : Start) (named : IsNamed start) (choice : List ℕ) (is : IsChoice start choice) where
  pub chosen_is : with_chosen (resolved start) choice ≡ resolved (filled start choice)
  chosen_is =
      let all = all_opened start choice (gives start named choice is) (fine start named) (bound is.many) in
      ap (λ (a : List Method × List ℕ). record (resolved start) { methods = a.0 }) (puts_methods (many start) choice (resolved start).methods 0 (fits all is.many))
      ∙ sym (numbered start named choice is)
    where
      bound : length choice ≡ length (holes start) → length (holes start) ≤ length choice
      bound e = omega (arith, e)

      fits : (in_turn (map (opened_method (many start)) (resolved start).methods) 0).1 ≡ length (holes start) → length choice ≡ length (holes start)
          → (in_turn (map (opened_method (many start)) (resolved start).methods) 0).1 ≤ length choice
      fits e f = omega (arith, e, f)
