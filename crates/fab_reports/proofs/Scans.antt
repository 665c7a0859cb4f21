-- Words that are read byte by byte keep to what readers keep to.
use Rattle.std.proofs.Common.{◌≡◌, ℕ, suc, ◌<◌, Bool, true, false, cond, Option, Some, None, List, [], ◌∷◌, ◌++◌, length, Ok, Err, refl, sym, ap, subst, ◌∙◌, append_assoc, inl, inr, ◌⊎◌}
use Rattle.std.specs.Option.{option_map_or}
use Rattle.std.specs.List.{AllByRecursion}
use Rattle.fab_wire.proofs.ReaderLaws.{IsBytes, IsBytes-nil, IsBytes-cons, IsBytes-append, Reads}
use Rattle.fab_reports.specs.Reading.{scan, is_end}
use Rattle.fab_reports.proofs.Given.{answer, answers_are, opposite}

-- from one state to another by these bytes
abbrev pub Reaches : {S : Type 0} → (S → ℕ → Option S) → S → List ℕ → S → Type 0
Reaches step s [] t = s ≡ t
Reaches {S = S} step s (b ∷ bs) t = (u : S) × (step s b ≡ Some u) × Reaches step u bs t

abbrev pub Inside : List ℕ → List ℕ → Type 0
Inside ends bytes = AllByRecursion (λ b. is_end ends b ≡ false) bytes

-- What a kind of words keeps to: each has a run of states, what ends in a state that stands for something is that word, and
-- each state that is reached is on the way to one. No word has an end inside.
pub record Scans {S A : Type 0} (step : S → ℕ → Option S) (done : S → Option A) (ends : List ℕ) (start : S) (text : A → List ℕ) (fits : A → Type 0) : Type 0 where
  pub again : (x : A) → fits x → (t : S) × Reaches step start (text x) t × (done t ≡ Some x)
  pub found : (w : List ℕ) (t : S) (x : A) → IsBytes w → Reaches step start w t → done t ≡ Some x → (w ≡ text x) × fits x
  pub on : (w : List ℕ) (t : S) → IsBytes w → Reaches step start w t → (x : A) × fits x × (more : List ℕ) × (text x ≡ w ++ more)
  pub inside : (x : A) → fits x → Inside ends (text x)
  pub bytes : (x : A) → fits x → IsBytes (text x)

-- ---- runs of states

one_next : {S : Type 0} (o : Option S) (u v : S) → o ≡ Some u → o ≡ Some v → u ≡ v
one_next o u v h k = cc

pub reaches_one : {S : Type 0} (step : S → ℕ → Option S) (s : S) (w : List ℕ) (t u : S) → Reaches step s w t → Reaches step s w u → t ≡ u
reaches_one step s [] t u h k = sym h ∙ k
reaches_one step s (b ∷ w) t u h k =
    let e = one_next (step s b) k.0 h.0 k.1 h.1 in
    reaches_one step h.0 w t u h.2 (subst (λ x. Reaches step x w u) e k.2)

pub reaches_on : {S : Type 0} (step : S → ℕ → Option S) (s : S) (w v : List ℕ) (t u : S) → Reaches step s w t → Reaches step s (w ++ v) u → Reaches step t v u
reaches_on step s [] v t u h k = subst (λ x. Reaches step x v u) h k
reaches_on step s (b ∷ w) v t u h k =
    let e = one_next (step s b) k.0 h.0 k.1 h.1 in
    reaches_on step h.0 w v t u h.2 (subst (λ x. Reaches step x (w ++ v) u) e k.2)

pub reaches_more : {S : Type 0} (step : S → ℕ → Option S) (s : S) (w v : List ℕ) (t u : S) → Reaches step s w t → Reaches step t v u → Reaches step s (w ++ v) u
reaches_more step s [] v t u h k = subst (λ x. Reaches step x v u) (sym h) k
reaches_more step s (b ∷ w) v t u h k = (h.0, h.1, reaches_more step h.0 w v t u h.2 k)

-- ---- ends

-- two words without ends inside that stand at one place, each before an end, are one
same_word : (ends u w : List ℕ) (e b : ℕ) (x y : List ℕ) → Inside ends u → Inside ends w → is_end ends e ≡ true → is_end ends b ≡ true
    → u ++ (e ∷ x) ≡ w ++ (b ∷ y) → u ≡ w
same_word ends [] [] e b x y hu hw he hb q = refl
same_word ends [] (c ∷ w) e b x y hu hw he hb q = let one : e ≡ c = cc in absurd (opposite (is_end ends c) (ap (is_end ends) (sym one) ∙ he) hw.0)
same_word ends (c ∷ u) [] e b x y hu hw he hb q = let one : c ≡ b = cc in absurd (opposite (is_end ends c) (ap (is_end ends) one ∙ hb) hu.0)
same_word ends (c ∷ u) (d ∷ w) e b x y hu hw he hb q =
    let one : c ≡ d = cc in
    let two : u ++ (e ∷ x) ≡ w ++ (b ∷ y) = cc in
    ap (λ (n : ℕ). n ∷ u) one ∙ ap (λ (z : List ℕ). d ∷ z) (same_word ends u w e b x y hu.1 hw.1 he hb two)

-- a word before an end has all that stands before one
longer_word : (ends u w : List ℕ) (e b : ℕ) (x y : List ℕ) → Inside ends w → is_end ends e ≡ true → is_end ends b ≡ false
    → u ++ (e ∷ x) ≡ w ++ (b ∷ y) → (more : List ℕ) × (u ≡ w ++ (b ∷ more))
longer_word ends [] [] e b x y hw he hb q = let one : e ≡ b = cc in absurd (opposite (is_end ends b) (ap (is_end ends) (sym one) ∙ he) hb)
longer_word ends [] (c ∷ w) e b x y hw he hb q = let one : e ≡ c = cc in absurd (opposite (is_end ends c) (ap (is_end ends) (sym one) ∙ he) hw.0)
longer_word ends (c ∷ u) [] e b x y hw he hb q = let one : c ≡ b = cc in (u, ap (λ (n : ℕ). n ∷ u) one)
longer_word ends (c ∷ u) (d ∷ w) e b x y hw he hb q =
    let one : c ≡ d = cc in
    let two : u ++ (e ∷ x) ≡ w ++ (b ∷ y) = cc in
    let g = longer_word ends u w e b x y hw.1 he hb two in
    (g.0, ap (λ (n : ℕ). n ∷ u) one ∙ ap (λ (z : List ℕ). d ∷ z) g.1)

-- ---- what a scan answers

scan_again : {S A : Type 0} (step : S → ℕ → Option S) (done : S → Option A) (ends : List ℕ) (w : List ℕ) (s t : S) (x : A) (e : ℕ) (rest : List ℕ)
    → Reaches step s w t → Inside ends w → done t ≡ Some x → is_end ends e ≡ true → scan step done ends s (w ++ (e ∷ rest)) ≡ Ok ((x, e), rest)
scan_again step done ends [] s t x e rest h i d he =
    let at : done s ≡ Some x = ap done h ∙ d in
    rw (he, at) refl
scan_again step done ends (b ∷ w) s t x e rest h i d he =
    let goes : step s b ≡ Some h.0 = h.1 in
    let inner : is_end ends b ≡ false = i.0 in
    rw (inner, goes) (scan_again step done ends w h.0 t x e rest h.2 i.1 d he)

pub record Found {S A : Type 0} (step : S → ℕ → Option S) (done : S → Option A) (ends : List ℕ) (s : S) (bytes : List ℕ) (x : A) (e : ℕ) (rest : List ℕ) : Type 0 where
  pub word : List ℕ
  pub last : S
  pub cut : bytes ≡ word ++ (e ∷ rest)
  pub run : Reaches step s word last
  pub is_done : done last ≡ Some x
  pub ended : is_end ends e ≡ true

pub scan_found : {S A : Type 0} (step : S → ℕ → Option S) (done : S → Option A) (ends : List ℕ) (bytes : List ℕ) (s : S) (x : A) (e : ℕ) (rest : List ℕ)
    → scan step done ends s bytes ≡ Ok ((x, e), rest) → Found step done ends s bytes x e rest
scan_found step done ends [] s x e rest h = absurd cc
scan_found {S = S} {A = A} step done ends (b ∷ bytes) s x e rest h = by_end (λ t. scan_found step done ends bytes t x e rest) (is_end ends b) refl h where
  last_byte : (o : Option A) → done s ≡ o → is_end ends b ≡ true → option_map_or (λ (a : A). answer {A = A × ℕ} (a, b) bytes) o (Err (length (b ∷ bytes))) ≡ Ok ((x, e), rest) → Found step done ends s (b ∷ bytes) x e rest
  last_byte None d i h = absurd cc
  last_byte (Some a) d i h =
      let q = answers_are (a, b) (x, e) bytes rest h in
      let one : a ≡ x = ap (λ (y : A × ℕ). y.0) q.0 in
      let two : b ≡ e = ap (λ (y : A × ℕ). y.1) q.0 in
      let three = q.1 in
      record {
        word = [];
        last = s;
        cut = ap (λ (n : ℕ). n ∷ bytes) two ∙ ap (λ (y : List ℕ). e ∷ y) three;
        run = refl;
        is_done = d ∙ ap (λ (y : A). Some y) one;
        ended = ap (is_end ends) (sym two) ∙ i;
      }

  next_byte : ((t : S) → scan step done ends t bytes ≡ Ok ((x, e), rest) → Found step done ends t bytes x e rest) → (o : Option S) → step s b ≡ o → option_map_or (λ t. scan step done ends t bytes) o (Err (length (b ∷ bytes))) ≡ Ok ((x, e), rest) → Found step done ends s (b ∷ bytes) x e rest
  next_byte ih None d h = absurd cc
  next_byte ih (Some t) d h =
      let g = ih t h in
      record {
        word = b ∷ g.word;
        last = g.last;
        cut = ap (λ (y : List ℕ). b ∷ y) g.cut;
        run = (t, d, g.run);
        is_done = g.is_done;
        ended = g.ended;
      }

  by_end : ((t : S) → scan step done ends t bytes ≡ Ok ((x, e), rest) → Found step done ends t bytes x e rest) → (t : Bool) → is_end ends b ≡ t
      → cond t (option_map_or (λ (a : A). answer {A = A × ℕ} (a, b) bytes) (done s) (Err (length (b ∷ bytes)))) (option_map_or (λ t. scan step done ends t bytes) (step s b) (Err (length (b ∷ bytes)))) ≡ Ok ((x, e), rest)
      → Found step done ends s (b ∷ bytes) x e rest
  by_end ih true i h = last_byte (done s) refl i h
  by_end ih false i h = next_byte ih (step s b) refl h

record Halts {S A : Type 0} (step : S → ℕ → Option S) (done : S → Option A) (ends : List ℕ) (s : S) (bytes : List ℕ) (left : ℕ) : Type 0 where
  word : List ℕ
  back : List ℕ
  last : S
  cut : bytes ≡ word ++ back
  run : Reaches step s word last
  inside : Inside ends word
  left_is : length back ≡ left
  why : (b : ℕ) (rest : List ℕ) → back ≡ b ∷ rest → ((is_end ends b ≡ true) × (done last ≡ None)) ⊎ ((is_end ends b ≡ false) × (step last b ≡ None))

scan_halts : {S A : Type 0} (step : S → ℕ → Option S) (done : S → Option A) (ends : List ℕ) (bytes : List ℕ) (s : S) (left : ℕ)
    → scan step done ends s bytes ≡ Err left → Halts step done ends s bytes left
scan_halts step done ends [] s left h = record {
  word = [];
  back = [];
  last = s;
  cut = refl;
  run = refl;
  inside = tt;
  left_is = cc;
  why = λ b rest e. absurd cc;
}
scan_halts {S = S} {A = A} step done ends (b ∷ bytes) s left h = by_end (λ t. scan_halts step done ends bytes t left) (is_end ends b) refl h where
  here : ((c : ℕ) (rest : List ℕ) → b ∷ bytes ≡ c ∷ rest → ((is_end ends c ≡ true) × (done s ≡ None)) ⊎ ((is_end ends c ≡ false) × (step s c ≡ None)))
      → length (b ∷ bytes) ≡ left → Halts step done ends s (b ∷ bytes) left
  here why l = record { word = []; back = b ∷ bytes; last = s; cut = refl; run = refl; inside = tt; left_is = l; why = why }

  last_byte : (o : Option A) → done s ≡ o → is_end ends b ≡ true → option_map_or (λ (a : A). answer {A = A × ℕ} (a, b) bytes) o (Err (length (b ∷ bytes))) ≡ Err left → Halts step done ends s (b ∷ bytes) left
  last_byte (Some a) d i h = absurd cc
  last_byte None d i h =
      here (λ c rest e. let one : b ≡ c = cc in inl (ap (is_end ends) (sym one) ∙ i, d)) cc

  next_byte : ((t : S) → scan step done ends t bytes ≡ Err left → Halts step done ends t bytes left) → (o : Option S) → step s b ≡ o → is_end ends b ≡ false → option_map_or (λ t. scan step done ends t bytes) o (Err (length (b ∷ bytes))) ≡ Err left → Halts step done ends s (b ∷ bytes) left
  next_byte ih None d i h =
      here (λ c rest e. let one : b ≡ c = cc in inr (ap (is_end ends) (sym one) ∙ i, ap (step s) (sym one) ∙ d)) cc
  next_byte ih (Some t) d i h =
      let g = ih t h in
      record {
        word = b ∷ g.word;
        back = g.back;
        last = g.last;
        cut = ap (λ (y : List ℕ). b ∷ y) g.cut;
        run = (t, d, g.run);
        inside = (i, g.inside);
        left_is = g.left_is;
        why = g.why;
      }

  by_end : ((t : S) → scan step done ends t bytes ≡ Err left → Halts step done ends t bytes left) → (t : Bool) → is_end ends b ≡ t
      → cond t (option_map_or (λ (a : A). answer {A = A × ℕ} (a, b) bytes) (done s) (Err (length (b ∷ bytes)))) (option_map_or (λ t. scan step done ends t bytes) (step s b) (Err (length (b ∷ bytes)))) ≡ Err left
      → Halts step done ends s (b ∷ bytes) left
  by_end ih true i h = last_byte (done s) refl i h
  by_end ih false i h = next_byte ih (step s b) refl i h

-- ---- the law

front_bytes : (front back : List ℕ) → IsBytes (front ++ back) → IsBytes front
front_bytes [] back h = IsBytes-nil
front_bytes (b ∷ front) back h = IsBytes-cons b front (h 0) (front_bytes front back (λ i. h (suc i)))

contrary : {S A : Type 0} {step : S → ℕ → Option S} {done : S → Option A} {ends : List ℕ} {start : S} {text : A → List ℕ} {fits : A → Type 0}
    → Scans step done ends start text fits → (w : List ℕ) (last : S) → Reaches step start w last → Inside ends w → (b : ℕ) (tail : List ℕ)
    → ((is_end ends b ≡ true) × (done last ≡ None)) ⊎ ((is_end ends b ≡ false) × (step last b ≡ None))
    → (x : A) (e : ℕ) (after : List ℕ) → fits x → is_end ends e ≡ true → text x ++ (e ∷ after) ≡ w ++ (b ∷ tail) → ⊥
contrary {step = step} {done = done} {ends = ends} {start = start} {text = text} r w last run inside b tail (inl h) x e after fx he q =
    let g = r.again x fx in
    let same : text x ≡ w = same_word ends (text x) w e b after tail (r.inside x fx) inside he h.0 q in
    let at : g.0 ≡ last = reaches_one step start w g.0 last (subst (λ (y : List ℕ). Reaches step start y g.0) same g.1) run in
    let some : done last ≡ Some x = ap done (sym at) ∙ g.2 in
    cc
contrary {step = step} {done = done} {ends = ends} {start = start} {text = text} r w last run inside b tail (inr h) x e after fx he q =
    let g = r.again x fx in
    let more = longer_word ends (text x) w e b after tail inside he h.0 q in
    let on = reaches_on step start w (b ∷ more.0) last g.0 run (subst (λ (y : List ℕ). Reaches step start y g.0) more.1 g.1) in
    let some : step last b ≡ Some on.0 = on.1 in
    cc

pub scan_reads : {S A : Type 0} {step : S → ℕ → Option S} {done : S → Option A} {ends : List ℕ} {start : S} {text : A → List ℕ} {fits : A → Type 0}
    → Scans step done ends start text fits → (e : ℕ) → is_end ends e ≡ true → ((b : ℕ) → is_end ends b ≡ true → b < 256)
    → Reads (scan step done ends start) (λ p. text p.0 ++ p.1 ∷ []) (λ p. fits p.0 × (is_end ends p.1 ≡ true))
scan_reads {S = S} {A = A} {step = step} {done = done} {ends = ends} {start = start} {text = text} {fits = fits} r some is_some small = record {
  some = let g = r.on [] start IsBytes-nil refl in ((g.0, some), (g.1, is_some));
  bytes = λ p fp. IsBytes-append (text p.0) (p.1 ∷ []) (r.bytes p.0 fp.0) (IsBytes-cons p.1 [] (small p.1 fp.1) IsBytes-nil);
  again = λ p rest fp.
      let g = r.again p.0 fp.0 in
      ap (scan step done ends start) (append_assoc (text p.0) (p.1 ∷ []) rest) ∙ scan_again step done ends (text p.0) start g.0 p.0 p.1 rest g.1 (r.inside p.0 fp.0) g.2 fp.1;
  found = λ bytes p rest isb e.
      let g = scan_found step done ends bytes start p.0 p.1 rest e in
      let isw : IsBytes g.word = front_bytes g.word (p.1 ∷ rest) (subst IsBytes g.cut isb) in
      let f = r.found g.word g.last p.0 isw g.run g.is_done in
      (g.cut ∙ ap (λ (y : List ℕ). y ++ (p.1 ∷ rest)) f.0 ∙ sym (append_assoc (text p.0) (p.1 ∷ []) rest), (f.1, g.ended));
  stops = λ bytes left isb e.
      let h = scan_halts step done ends bytes start left e in
      let isw : IsBytes h.word = front_bytes h.word h.back (subst IsBytes h.cut isb) in
      let g = r.on h.word h.last isw h.run in
      record {
        front = h.word;
        back = h.back;
        cut = h.cut;
        left_is = h.left_is;
        next = (g.0, some);
        next_fits = (g.1, is_some);
        more = g.2 ++ some ∷ [];
        begins = ap (λ (y : List ℕ). y ++ some ∷ []) g.3 ∙ append_assoc h.word g.2 (some ∷ []);
        bad = λ b rest tail eb p after fp q.
            contrary r h.word h.last h.run h.inside b tail (h.why b rest eb) p.0 p.1 after fp.0 fp.1
            (sym (append_assoc (text p.0) (p.1 ∷ []) after) ∙ q);
      };
}
