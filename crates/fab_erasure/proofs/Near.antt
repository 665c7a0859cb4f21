-- A full run beside an erased one: what their states have in common, what a hidden run leaves, and how runs follow each other.
use Rattle.std.proofs.Common.{◌≡◌, ℕ, zero, suc, ◌≤◌, List, [], ◌∷◌, ◌++◌, Bool, true, false, not, ◌&&◌, ◌||◌, map, length, refl, sym, ap, ◌∙◌, subst, true≢false, append_assoc, append-nil, arith}
use Rattle.std.specs.Prelude.{slice_get, slice_set, unwrap_or}
use Rattle.std.specs.List.{list_all, filter}
use Rattle.std.proofs.lemmas.Bool.{and_parts, and_from}
use Rattle.std.proofs.lemmas.List.{map-append}
use Rattle.std.proofs.lemmas.List.Elements.{filter-append}
use Rattle.fab_base.specs.declared.object.Oid.{Oid}
use Rattle.fab_base.specs.declared.object.Stop.{Stop}
use Rattle.fab_base.specs.declared.object.Tid.{Tid}
use Rattle.fab_base.specs.declared.object.Value.{Value}
use Rattle.fab_base.specs.declared.object.Value.TheVariants.{Null}
use Rattle.fab_base.specs.FlatMap.{get, ascends}
use Rattle.fab_tree.specs.declared.resolved.Local.{Local}
use Rattle.fab_tree.specs.declared.resolved.Resolved.{Resolved}
use Rattle.fab_labelling.specs.Obligations.{label_of_local}
use Rattle.fab_language.specs.Heaps.{Heap, touched}
use Rattle.fab_language.specs.Meaning.{State, failed, stopped, missing, Run, goes, ends, M, and_then, or_else, back_with}
use Rattle.fab_laws.specs.Runs.{state_behind}
use Rattle.fab_laws.specs.Kinds.{Kind, kind_of_sort}
use Rattle.fab_laws.specs.Shapes.{AllSuit}
use Rattle.fab_laws.proofs.Shapes.{Shaped}
use Rattle.fab_laws.proofs.Grows.{Longer, Grows, grows_past, after_longer}
use Rattle.fab_erasure.specs.Agreement.{IsFront}
use Rattle.fab_erasure.proofs.Views.{filter_twice, filter_within}

-- what is seen, the values that are given, and the attempt of a program
pub record Sight : Type 0 where
  pub sees : ℕ → Bool
  pub shows : ℕ → Bool
  pub site_seen : ℕ → Bool
  pub down_seen : ℕ → Bool
  pub down_kept : ℕ → Bool
  pub within : (site : ℕ) → down_seen site ≡ true → down_kept site ≡ true
  pub whole : List Value
  pub program : Resolved
  pub tid : Tid

abbrev pub Any : {A B : Type 0} → A → B → Type 0
Any a b = Unit {0}

abbrev pub Whatever : {A : Type 0} → A → Type 0
Whatever a = Unit {0}

abbrev pub Alike : {A : Type 0} → A → A → Type 0
Alike a b = a ≡ b

abbrev pub kinds_of : List Local → List Kind
kinds_of ls = map (λ (x : Local). kind_of_sort x.sort) ls

module _ (sight : Sight) where
  abbrev pub touch_seen : ℕ × Oid → Bool
  touch_seen t = sight.site_seen t.0 && sight.shows t.1.class

  abbrev pub down_in : ℕ × Value → Bool
  down_in d = sight.down_seen d.0

  -- the same values are downgraded there
  abbrev pub kept_in : ℕ × Value → Bool
  kept_in d = sight.down_kept d.0

  pub given_among : (ds : List (ℕ × Value)) → filter down_in (filter kept_in ds) ≡ filter down_in ds
  given_among ds = filter_within kept_in down_in (λ d e. sight.within d.0 e) ds

  pub given_same : (ds es : List (ℕ × Value)) → filter kept_in ds ≡ filter kept_in es → filter down_in ds ≡ filter down_in es
  given_same ds es e = sym (given_among ds) ∙ ap (filter down_in) e ∙ given_among es

  abbrev pub is_shown : Oid → Bool
  is_shown o = sight.shows o.class

  abbrev pub made_seen : Oid → Bool
  made_seen o = sight.site_seen o.site

  -- of a downgrade: whether it takes a given value, and whether it downgrades the same value
  abbrev pub Turns : ℕ × (ℕ × ℕ) → Type 0
  Turns d = (sight.down_seen d.0 ≡ (sight.site_seen d.0 && (not (sight.sees d.1.0) && sight.sees d.1.1)))
      × (sight.down_kept d.0 ≡ (sight.site_seen d.0 && (sight.sees d.1.0 || sight.sees d.1.1)))

  -- ---- locals: those that are seen are the same

  abbrev pub SeenSame : List Local → List Value → List Value → Type 0
  SeenSame [] [] [] = Unit {0}
  SeenSame [] [] (u ∷ us) = ⊥
  SeenSame [] (v ∷ vs) us = ⊥
  SeenSame (x ∷ xs) [] us = ⊥
  SeenSame (x ∷ xs) (v ∷ vs) [] = ⊥
  SeenSame (x ∷ xs) (v ∷ vs) (u ∷ us) = (sight.sees x.label.number ≡ true → v ≡ u) × SeenSame xs vs us

  pub same_at : (ls : List Local) (vs us : List Value) (i : ℕ) → SeenSame ls vs us → list_all sight.sees (label_of_local (slice_get ls i)) ≡ true → unwrap_or
      (slice_get vs i) Null ≡ unwrap_or (slice_get us i) Null
  same_at [] [] [] i h e = refl
  same_at [] [] (u ∷ us) i h e = absurd h
  same_at [] (v ∷ vs) us i h e = absurd h
  same_at (x ∷ xs) [] us i h e = absurd h
  same_at (x ∷ xs) (v ∷ vs) [] i h e = absurd h
  same_at (x ∷ xs) (v ∷ vs) (u ∷ us) zero h e = h.0 (and_parts (sight.sees x.label.number) true e).0
  same_at (x ∷ xs) (v ∷ vs) (u ∷ us) (suc i) h e = same_at xs vs us i h.1 e

  pub same_set : (ls : List Local) (vs us : List Value) (i : ℕ) (v u : Value) → (list_all sight.sees (label_of_local (slice_get ls i)) ≡ true → v ≡ u) → SeenSame ls vs
      us → SeenSame ls (slice_set vs i v) (slice_set us i u)
  same_set [] [] [] i v u f h = h
  same_set [] [] (z ∷ us) i v u f h = absurd h
  same_set [] (y ∷ vs) us i v u f h = absurd h
  same_set (x ∷ xs) [] us i v u f h = absurd h
  same_set (x ∷ xs) (y ∷ vs) [] i v u f h = absurd h
  same_set (x ∷ xs) (y ∷ vs) (z ∷ us) zero v u f h = ((λ e. f (and_from (sight.sees x.label.number) true e refl)), h.1)
  same_set (x ∷ xs) (y ∷ vs) (z ∷ us) (suc i) v u f h = (h.0, same_set xs vs us i v u f h.1)

  -- one that isn't seen may be set on one side
  pub hidden_set : (ls : List Local) (vs us : List Value) (i : ℕ) (v : Value) → list_all sight.sees (label_of_local (slice_get ls i)) ≡ false → SeenSame ls vs us
      → SeenSame ls (slice_set vs i v) us
  hidden_set [] vs us i v f h = absurd (true≢false f)
  hidden_set (x ∷ xs) [] us i v f h = absurd h
  hidden_set (x ∷ xs) (y ∷ vs) [] i v f h = absurd h
  hidden_set (x ∷ xs) (y ∷ vs) (z ∷ us) zero v f h = ((λ e. absurd (true≢false (sym (and_from (sight.sees x.label.number) true e refl) ∙ f))), h.1)
  hidden_set (x ∷ xs) (y ∷ vs) (z ∷ us) (suc i) v f h = (h.0, hidden_set xs vs us i v f h.1)

  pub same_through : (ls : List Local) (ws vs us : List Value) → SeenSame ls ws vs → SeenSame ls vs us → SeenSame ls ws us
  same_through [] [] [] [] h k = tt
  same_through [] [] [] (u ∷ us) h k = absurd k
  same_through [] [] (v ∷ vs) us h k = absurd h
  same_through [] (a ∷ ws) vs us h k = absurd h
  same_through (x ∷ xs) [] vs us h k = absurd h
  same_through (x ∷ xs) (a ∷ ws) [] us h k = absurd h
  same_through (x ∷ xs) (a ∷ ws) (v ∷ vs) [] h k = absurd k
  same_through (x ∷ xs) (a ∷ ws) (v ∷ vs) (u ∷ us) h k = ((λ e. h.0 e ∙ k.0 e), same_through xs ws vs us h.1 k.1)

  pub same_here : (ls : List Local) (vs us : List Value) → SeenSame ls vs us → SeenSame ls vs vs
  same_here [] [] us h = tt
  same_here [] (v ∷ vs) us h = absurd h
  same_here (x ∷ xs) [] us h = absurd h
  same_here (x ∷ xs) (v ∷ vs) [] h = absurd h
  same_here (x ∷ xs) (v ∷ vs) (u ∷ us) h = ((λ e. refl), same_here xs vs us h.1)

  pub same_suit : (ls : List Local) (vs : List Value) → AllSuit (kinds_of ls) vs → SeenSame ls vs vs
  same_suit [] [] h = tt
  same_suit [] (v ∷ vs) h = absurd h
  same_suit (x ∷ xs) [] h = absurd h
  same_suit (x ∷ xs) (v ∷ vs) h = ((λ e. refl), same_suit xs vs h.1)

  -- ---- states

  pub record HeapNear (h k : Heap) : Type 0 where
    pub rows : (o : Oid) → sight.shows o.class ≡ true → get h.rows o ≡ get k.rows o
    pub made : k.made ≡ filter made_seen h.made
    pub shown : filter is_shown h.made ≡ filter is_shown k.made
    pub written : k.written ≡ filter is_shown h.written
    pub up : ascends h.rows ≡ true
    pub up_too : ascends k.rows ≡ true

  pub record TraceNear (s t : State) : Type 0 where
    pub touches : t.touches ≡ filter touch_seen s.touches
    pub downs : filter kept_in s.downs ≡ filter kept_in t.downs
    pub given : map (λ (d : ℕ × Value). d.1) (filter down_in s.downs) ++ t.given ≡ sight.whole
    pub fuel : s.fuel ≤ t.fuel
    pub few : length (touched s.touches) ≤ 1024

  pub record Near (ls : List Local) (s t : State) : Type 0 where
    pub heap : HeapNear s.heap t.heap
    pub trace : TraceNear s t
    pub locals : SeenSame ls s.locals t.locals
    pub shaped : Shaped sight.program sight.tid (kinds_of ls) s

  -- what a hidden run leaves
  pub record HeapQuiet (h g : Heap) : Type 0 where
    pub rows : (o : Oid) → sight.shows o.class ≡ true → get g.rows o ≡ get h.rows o
    pub made : filter made_seen g.made ≡ filter made_seen h.made
    pub shown : filter is_shown g.made ≡ filter is_shown h.made
    pub written : filter is_shown g.written ≡ filter is_shown h.written
    pub up : ascends h.rows ≡ true → ascends g.rows ≡ true

  pub record TraceQuiet (s u : State) : Type 0 where
    pub touches : filter touch_seen u.touches ≡ filter touch_seen s.touches
    pub downs : filter kept_in u.downs ≡ filter kept_in s.downs
    pub fuel : u.fuel ≤ s.fuel
    pub few : length (touched s.touches) ≤ 1024 → length (touched u.touches) ≤ 1024

  pub record Quiet (ls : List Local) (s u : State) : Type 0 where
    pub heap : HeapQuiet s.heap u.heap
    pub trace : TraceQuiet s u
    pub locals : SeenSame ls u.locals s.locals
    pub shaped : Shaped sight.program sight.tid (kinds_of ls) u

  pub heap_kept : (h : Heap) → HeapQuiet h h
  heap_kept h = record { rows = λ o e. refl; made = refl; shown = refl; written = refl; up = λ e. e }

  pub heap_on : (h g k : Heap) → HeapQuiet h g → HeapQuiet g k → HeapQuiet h k
  heap_on h g k a b = record {
    rows = λ o e. b.rows o e ∙ a.rows o e;
    made = b.made ∙ a.made;
    shown = b.shown ∙ a.shown;
    written = b.written ∙ a.written;
    up = λ e. b.up
        (a.up e);
  }

  pub trace_kept : (s : State) → TraceQuiet s s
  trace_kept s = record { touches = refl; downs = refl; fuel = omega arith; few = λ e. e }

  pub trace_on : (s u w : State) → TraceQuiet s u → TraceQuiet u w → TraceQuiet s w
  trace_on s u w a b = record {
    touches = b.touches ∙ a.touches;
    downs = b.downs ∙ a.downs;
    fuel = let x = a.fuel in let y = b.fuel in omega arith;
    few = λ e. b.few
        (a.few e);
  }

  pub quiet_here : (ls : List Local) (s : State) → Shaped sight.program sight.tid (kinds_of ls) s → Quiet ls s s
  quiet_here ls s h = record { heap = heap_kept s.heap; trace = trace_kept s; locals = same_suit ls s.locals h.locals; shaped = h }

  pub quiet_on : (ls : List Local) (s u w : State) → Quiet ls s u → Quiet ls u w → Quiet ls s w
  quiet_on ls s u w a b = record {
    heap = heap_on s.heap u.heap w.heap a.heap b.heap;
    trace = trace_on s u w a.trace b.trace;
    locals = same_through ls w.locals u.locals
        s.locals b.locals a.locals;
    shaped = b.shaped;
  }

  pub near_heap : (h g k : Heap) → HeapNear h k → HeapQuiet h g → HeapNear g k
  near_heap h g k n q = record {
    rows = λ o e. q.rows o e ∙ n.rows o e;
    made = n.made ∙ sym q.made;
    shown = q.shown ∙ n.shown;
    written = n.written ∙ sym q.written;
    up =
        q.up n.up;
    up_too = n.up_too;
  }

  pub near_trace : (s u t : State) → TraceNear s t → TraceQuiet s u → TraceNear u t
  near_trace s u t n q = record {
    touches = n.touches ∙ sym q.touches;
    downs = q.downs ∙ n.downs;
    given = ap (λ l. map (λ (d : ℕ × Value). d.1) l ++ t.given) (given_same u.downs s.downs q.downs) ∙ n.given;
    fuel = let x = n.fuel in let y = q.fuel in omega arith;
    few = q.few n.few;
  }

  pub near_quiet : (ls : List Local) (s u t : State) → Near ls s t → Quiet ls s u → Near ls u t
  near_quiet ls s u t n q = record {
    heap = near_heap s.heap u.heap t.heap n.heap q.heap;
    trace = near_trace s u t n.trace q.trace;
    locals = same_through ls u.locals
        s.locals t.locals q.locals n.locals;
    shaped = q.shaped;
  }

  -- ---- as far as a run came

  pub record Fronts (u v : State) : Type 0 where
    pub touches : IsFront (filter touch_seen u.touches) (filter touch_seen v.touches)
    pub downs : IsFront (filter kept_in u.downs) (filter kept_in v.downs)

  pub fronts_at : (s t : State) → TraceNear s t → Fronts s t
  fronts_at s t n = record {
    touches = record { rest = []; is = append-nil (filter touch_seen s.touches) ∙ sym (ap (filter touch_seen) n.touches ∙ filter_twice touch_seen s.touches) };
    downs = record { rest = []; is = append-nil (filter kept_in s.downs) ∙ n.downs };
  }

  front_on : {A : Type 0} (p : A → Bool) (xs ys zs : List A) → IsFront (filter p xs) (filter p ys) → (more : List A) × (zs ≡ ys ++ more) → IsFront (filter p xs)
      (filter p zs)
  front_on p xs ys zs f m = record {
    rest = f.rest ++ filter p m.0;
    is = sym (append_assoc (filter p xs) f.rest (filter p m.0)) ∙ ap (λ l. l ++ filter p m.0) f.is ∙ sym (filter-append p ys m.0) ∙ ap (filter p) (sym m.1);
  }

  pub fronts_on : (u v w : State) → Fronts u v → Longer v w → Fronts u w
  fronts_on u v w f l = record {
    touches = front_on touch_seen u.touches v.touches w.touches f.touches l.touches;
    downs = front_on kept_in u.downs v.downs w.downs
        f.downs l.downs;
  }

  pub front_within : (xs ys : List (ℕ × Value)) → IsFront (filter kept_in xs) (filter kept_in ys) → IsFront (filter down_in xs) (filter down_in ys)
  front_within xs ys f = record {
    rest = filter down_in f.rest;
    is = ap (λ l. l ++ filter down_in f.rest) (sym (given_among xs)) ∙ sym (filter-append down_in (filter kept_in xs) f.rest) ∙ ap (filter down_in) f.is ∙ given_among ys;
  }

  -- what was downgraded into view so far was given
  abbrev pub values_down : State → List Value
  values_down u = map (λ (d : ℕ × Value). d.1) (filter down_in u.downs)

  abbrev pub Good : State → Type 0
  Good u = IsFront (values_down u) sight.whole

  pub good_before : (s u : State) → Longer s u → Good u → Good s
  good_before s u l g =
      let more = map (λ (d : ℕ × Value). d.1) (filter down_in l.downs.0) in
      record {
        rest = more ++ g.rest;
        is = sym (append_assoc (values_down s) more g.rest)
            ∙ ap (λ xs. xs ++ g.rest) (sym (map-append (λ (d : ℕ × Value). d.1) (filter down_in s.downs) (filter down_in l.downs.0)) ∙ ap (map (λ (d : ℕ × Value). d.1))
            (sym (filter-append down_in s.downs l.downs.0) ∙ ap (filter down_in) (sym l.downs.1)))
            ∙ g.is;
      }

  pub good_near : (s t : State) → TraceNear s t → Good s
  good_near s t n = record { rest = t.given; is = n.given }

  -- ---- runs beside each other

  pub data Match {A B : Type 0} (ls : List Local) (R : A → B → Type 0) : Run A → Run B → Type 0 where
    both_go : (a : A) (b : B) (u v : State) → Near ls u v → R a b → Match ls R (goes a u) (goes b v)
    both_fail : (u v : State) → HeapNear u.heap v.heap → TraceNear u v → Match ls R (ends failed u) (ends failed v)
    both_miss : (site : ℕ) (o : Oid) (u v : State) → HeapNear u.heap v.heap → TraceNear u v → Match ls R (ends (missing site o) u) (ends (missing site o) v)
    miss : (site : ℕ) (o : Oid) (u : State) (q : Run B) → touch_seen (site, o) ≡ false → Fronts u (state_behind q) → Match ls R (ends (missing site o) u) q
    cut : (stop : Stop) (u : State) (q : Run B) → Fronts u (state_behind q) → Match ls R (ends (stopped stop) u) q

  -- a run at a hidden place
  pub data Hidden {A : Type 0} (ls : List Local) (P : A → Type 0) (may : Type 0) (s : State) : Run A → Type 0 where
    went : (a : A) (u : State) → Quiet ls s u → P a → Hidden ls P may s (goes a u)
    fell : (u : State) → HeapQuiet s.heap u.heap → TraceQuiet s u → may → Hidden ls P may s (ends failed u)
    lost : (site : ℕ) (o : Oid) (u : State) → touch_seen (site, o) ≡ false → TraceQuiet s u → Hidden ls P may s (ends (missing site o) u)
    halted : (stop : Stop) (u : State) → TraceQuiet s u → Hidden ls P may s (ends (stopped stop) u)

  -- what is known of a value that comes out
  abbrev pub Out : {A : Type 0} → (A → Type 0) → Run A → Type 0
  Out P (goes a u) = P a
  Out P (ends e u) = Unit {0}

  pub out_any : {A : Type 0} (r : Run A) → Out Whatever r
  out_any (goes a u) = tt
  out_any (ends e u) = tt

  join : {A B C D : Type 0} (ls : List Local) (R : A → B → Type 0) (P : A → Type 0) (Q : C → D → Type 0) (r : Run A) (q : Run B) (g : A → M C) (h : B → M D) → Match ls
      R r q → Good (state_behind (and_then r g)) → Out P r → ((b : B) → Grows (h b))
      → ((a : A) (b : B) (u v : State) → q ≡ goes b v → Near ls u v → R a b → P a → Good (state_behind (g a u)) → Match ls Q (g a u) (h b v)) → Match ls Q
      (and_then r g) (and_then q h)
  join ls R P Q _ _ g h (both_go a b u v n p) good out grow k = k a b u v refl n p out good
  join ls R P Q _ _ g h (both_fail u v n m) good out grow k = both_fail u v n m
  join ls R P Q _ _ g h (both_miss site o u v n m) good out grow k = both_miss site o u v n m
  join ls R P Q _ q g h (miss site o u p e f) good out grow k = miss site o u (and_then p h) e
      (fronts_on u (state_behind p) (state_behind (and_then p h)) f (grows_past p h grow))
  join ls R P Q _ q g h (cut stop u p f) good out grow k = cut stop u (and_then p h) (fronts_on u (state_behind p) (state_behind (and_then p h)) f (grows_past p h grow))

  -- one run after the other, on both sides
  pub follow : {A B C D : Type 0} (ls : List Local) (R : A → B → Type 0) (P : A → Type 0) (Q : C → D → Type 0) (r : Run A) (q : Run B) (g : A → M C) (h : B → M D)
      → (Good (state_behind r) → Match ls R r q) → Good (state_behind (and_then r g)) → Out P r
      → ((a : A) → Grows (g a)) → ((b : B) → Grows (h b))
      → ((a : A) (b : B) (u v : State) → q ≡ goes b v → Near ls u v → R a b → P a → Good (state_behind (g a u)) → Match ls Q (g a u) (h b v)) → Match ls Q
      (and_then r g) (and_then q h)
  follow ls R P Q r q g h m good out whole_grows grow k = join ls R P Q r q g h
      (m (good_before (state_behind r) (state_behind (and_then r g)) (grows_past r g whole_grows) good)) good out grow k

  -- a hidden run goes on from a state behind
  pub hidden_on : {A : Type 0} (ls : List Local) (P : A → Type 0) (may : Type 0) (s u : State) (r : Run A) → Quiet ls s u → Hidden ls P may u r → Hidden ls P may s r
  hidden_on ls P may s u _ q (went a w n p) = went a w (quiet_on ls s u w q n) p
  hidden_on ls P may s u _ q (fell w h n m) = fell w (heap_on s.heap u.heap w.heap q.heap h) (trace_on s u w q.trace n) m
  hidden_on ls P may s u _ q (lost site o w e n) = lost site o w e (trace_on s u w q.trace n)
  hidden_on ls P may s u _ q (halted stop w n) = halted stop w (trace_on s u w q.trace n)

  pub hidden_then : {A B : Type 0} (ls : List Local) (P : A → Type 0) (T : A → Type 0) (Q : B → Type 0) (may : Type 0) (s : State) (r : Run A) (g : A → M B) → Hidden ls
      P may s r → Out T r
      → ((a : A) (u : State) → Quiet ls s u → P a → T a → Hidden ls Q may u (g a u)) → Hidden ls Q may s (and_then r g)
  hidden_then ls P T Q may s _ g (went a u n p) out k = hidden_on ls Q may s u (g a u) n (k a u n p out)
  hidden_then ls P T Q may s _ g (fell u h n m) out k = fell u h n m
  hidden_then ls P T Q may s _ g (lost site o u e n) out k = lost site o u e n
  hidden_then ls P T Q may s _ g (halted stop u n) out k = halted stop u n

  -- a hidden run stands beside nothing, if it can't fail
  pub hidden_beside : {A B : Type 0} (ls : List Local) (P : A → Type 0) (R : A → B → Type 0) (may : Type 0) (s t : State) (r : Run A) (b : B) → (may → ⊥) → Near ls s t
      → ((a : A) → P a → R a b) → Hidden ls P may s r → Match ls R r (goes b t)
  hidden_beside ls P R may s t _ b never n f (went a u q p) = both_go a b u t (near_quiet ls s u t n q) (f a p)
  hidden_beside ls P R may s t _ b never n f (fell u h q m) = absurd (never m)
  hidden_beside ls P R may s t _ b never n f (lost site o u e q) = miss site o u (goes b t) e (fronts_at u t (near_trace s u t n.trace q))
  hidden_beside ls P R may s t _ b never n f (halted stop u q) = cut stop u (goes b t) (fronts_at u t (near_trace s u t n.trace q))

  pub match_more : {A B : Type 0} (ls : List Local) (R Q : A → B → Type 0) (r : Run A) (q : Run B) → ((a : A) (b : B) → R a b → Q a b) → Match ls R r q → Match ls Q r q
  match_more ls R Q _ _ f (both_go a b u v n p) = both_go a b u v n (f a b p)
  match_more ls R Q _ _ f (both_fail u v n m) = both_fail u v n m
  match_more ls R Q _ _ f (both_miss site o u v n m) = both_miss site o u v n m
  match_more ls R Q _ q f (miss site o u p e g) = miss site o u p e g
  match_more ls R Q _ q f (cut stop u p g) = cut stop u p g

  pub hidden_more : {A : Type 0} (ls : List Local) (P Q : A → Type 0) (may mays : Type 0) (s : State) (r : Run A) → ((a : A) → P a → Q a) → (may → mays) → Hidden ls P
      may s r → Hidden ls Q mays s r
  hidden_more ls P Q may mays s _ f g (went a u q p) = went a u q (f a p)
  hidden_more ls P Q may mays s _ f g (fell u h q m) = fell u h q (g m)
  hidden_more ls P Q may mays s _ f g (lost site o u e q) = lost site o u e q
  hidden_more ls P Q may mays s _ f g (halted stop u q) = halted stop u q

  -- ---- atomic blocks and calls put back

  put_back : (ls : List Local) (s t u v : State) → Near ls s t → TraceNear u v → Near ls (record u { locals = s.locals; heap = s.heap })
      (record v { locals = t.locals; heap = t.heap })
  put_back ls s t u v n m = record {
    heap = n.heap;
    trace = record { touches = m.touches; downs = m.downs; given = m.given; fuel = m.fuel; few = m.few };
    locals = n.locals;
    shaped = record { locals = n.shaped.locals; rows = n.shaped.rows };
  }

  else_by : (ls : List Local) (s t : State) (r q : Run (Unit {0})) (other blank : M (Unit {0})) → Near ls s t → Match ls Any r q → Good
      (state_behind (or_else s r other)) → Grows blank
      → ((u v : State) → Near ls u v → Good (state_behind (other u)) → Match ls Any (other u) (blank v)) → Match ls Any (or_else s r other) (or_else t q blank)
  else_by ls s t _ _ other blank n (both_go a b u v m p) good grow k = both_go a b u v m p
  else_by ls s t _ _ other blank n (both_fail u v h m) good grow k = k (record u { locals = s.locals; heap = s.heap }) (record v { locals = t.locals; heap = t.heap })
      (put_back ls s t u v n m) good
  else_by ls s t _ _ other blank n (both_miss site o u v h m) good grow k = both_miss site o u v h m
  else_by ls s t _ q other blank n (miss site o u p e f) good grow k = miss site o u (or_else t p blank) e
      (fronts_on u (state_behind p) (state_behind (or_else t p blank)) f (after_longer t p blank grow))
  else_by ls s t _ q other blank n (cut stop u p f) good grow k = cut stop u (or_else t p blank)
      (fronts_on u (state_behind p) (state_behind (or_else t p blank)) f (after_longer t p blank grow))

  pub follow_else : (ls : List Local) (s t : State) (r q : Run (Unit {0})) (other blank : M (Unit {0})) → Near ls s t → (Good (state_behind r) → Match ls Any r q)
      → Good (state_behind (or_else s r other)) → Grows other → Grows blank
      → ((u v : State) → Near ls u v → Good (state_behind (other u)) → Match ls Any (other u) (blank v)) → Match ls Any (or_else s r other) (or_else t q blank)
  follow_else ls s t r q other blank n m good whole_grows grow k = else_by ls s t r q other blank n
      (m (good_before (state_behind r) (state_behind (or_else s r other)) (after_longer s r other whole_grows) good)) good grow k

  pub hidden_else : (ls : List Local) (inner may : Type 0) (s : State) (r : Run (Unit {0})) (other : M (Unit {0})) → Shaped sight.program sight.tid (kinds_of ls) s
      → Hidden ls Whatever inner s r → ((u : State) → Quiet ls s u → Hidden ls Whatever may u (other u)) → Hidden ls Whatever may s (or_else s r other)
  hidden_else ls inner may s _ other h (went a u q p) k = went a u q p
  hidden_else ls inner may s _ other h (fell u g q m) k =
      let w = record u { locals = s.locals; heap = s.heap } in
      let n : Quiet ls s w = record {
        heap = heap_kept s.heap;
        trace = record { touches = q.touches; downs = q.downs; fuel = q.fuel; few = q.few };
        locals = same_suit ls s.locals h.locals;
        shaped = record { locals = h.locals; rows = h.rows };
      } in
      hidden_on ls Whatever may s w (other w) n (k w n)
  hidden_else ls inner may s _ other h (lost site o u e q) k = lost site o u e q
  hidden_else ls inner may s _ other h (halted stop u q) k = halted stop u q

  back_fronts : {B : Type 0} (u : State) (vs : List Value) (locals : List Value) (q : Run B) → Fronts u (state_behind q) → Fronts (record u { locals = locals })
      (state_behind (back_with vs q))
  back_fronts u vs locals (goes b v) f = record { touches = f.touches; downs = f.downs }
  back_fronts u vs locals (ends e v) f = record { touches = f.touches; downs = f.downs }

  pub follow_back : {A B : Type 0} (ls ms : List Local) (R : A → B → Type 0) (s t : State) (r : Run A) (q : Run B) → Near ls s t → Match ms R r q → Match ls R
      (back_with s.locals r) (back_with t.locals q)
  follow_back ls ms R s t _ _ n (both_go a b u v m p) = both_go a b (record u { locals = s.locals }) (record v { locals = t.locals }) (record {
    heap = m.heap;
    trace = record { touches = m.trace.touches; downs = m.trace.downs; given = m.trace.given; fuel = m.trace.fuel; few = m.trace.few };
    locals = n.locals;
    shaped = record { locals = n.shaped.locals; rows = m.shaped.rows };
  }) p
  follow_back ls ms R s t _ _ n (both_fail u v h m) = both_fail (record u { locals = s.locals }) (record v { locals = t.locals }) h
      (record { touches = m.touches; downs = m.downs; given = m.given; fuel = m.fuel; few = m.few })
  follow_back ls ms R s t _ _ n (both_miss site o u v h m) = both_miss site o (record u { locals = s.locals }) (record v { locals = t.locals }) h
      (record { touches = m.touches; downs = m.downs; given = m.given; fuel = m.fuel; few = m.few })
  follow_back ls ms R s t _ q n (miss site o u p e f) = miss site o (record u { locals = s.locals }) (back_with t.locals p) e (back_fronts u t.locals s.locals p f)
  follow_back ls ms R s t _ q n (cut stop u p f) = cut stop (record u { locals = s.locals }) (back_with t.locals p) (back_fronts u t.locals s.locals p f)

  pub hidden_back : {A : Type 0} (ls ms : List Local) (P : A → Type 0) (may : Type 0) (s w : State) (r : Run A) → Shaped sight.program sight.tid (kinds_of ls) s
      → w.heap ≡ s.heap → TraceQuiet s w → Hidden ms P may w r → Hidden ls P may s (back_with s.locals r)
  hidden_back ls ms P may s w _ h e t (went a u q p) =
      let x = trace_on s w u t q.trace in
      went a (record u { locals = s.locals }) (record {
        heap = subst (λ g. HeapQuiet g u.heap) e q.heap;
        trace = record { touches = x.touches; downs = x.downs; fuel = x.fuel; few = x.few };
        locals = same_suit ls s.locals h.locals;
        shaped = record { locals = h.locals; rows = q.shaped.rows };
      }) p
  hidden_back ls ms P may s w _ h e t (fell u g q m) = let x = trace_on s w u t q in fell (record u { locals = s.locals }) (subst (λ k. HeapQuiet k u.heap) e g)
      (record { touches = x.touches; downs = x.downs; fuel = x.fuel; few = x.few }) m
  hidden_back ls ms P may s w _ h e t (lost site o u f q) = let x = trace_on s w u t q in lost site o (record u { locals = s.locals }) f
      (record { touches = x.touches; downs = x.downs; fuel = x.fuel; few = x.few })
  hidden_back ls ms P may s w _ h e t (halted stop u q) = let x = trace_on s w u t q in halted stop (record u { locals = s.locals })
      (record { touches = x.touches; downs = x.downs; fuel = x.fuel; few = x.few })
