-- Values that are given in turn, and the kinds of values.
use Rattle.std.proofs.Common.{◌≡◌, ℕ, zero, suc, List, [], ◌∷◌, ◌++◌, Option, Bool, true, false, map, take, drop, length, refl, sym, ap, ◌∙◌, true≢false, arith}
use Rattle.std.specs.List.{list_all, flat_map, AllByRecursion}
use Rattle.fab_base.specs.declared.object.Tid.{Tid}
use Rattle.fab_base.specs.declared.object.Value.{Value}
use Rattle.fab_tree.specs.declared.resolved.Local.{Local}
use Rattle.fab_tree.specs.declared.resolved.Expression.{Expression}
use Rattle.fab_tree.specs.declared.resolved.Right.{Right}
use Rattle.fab_tree.specs.declared.resolved.Resolved.{Resolved}
use Rattle.fab_labelling.specs.Obligations as ob
use Rattle.fab_labelling.specs.Obligations.{all_flow}
use Rattle.fab_labelling.specs.declared.rule.LabelRule.TheVariants.{Write}
use Rattle.fab_labelling.specs.Sites.{sites_in}
use Rattle.fab_language.specs.Meaning.{State, Run, goes, ends, M, gives, ◌>>=◌, value, values, default, right}
use Rattle.fab_laws.specs.Runs.{state_behind}
use Rattle.fab_laws.specs.Kinds.{Kind, kind_of_sort, kind_of, all_given, right_kind, right_claims}
use Rattle.fab_laws.specs.Shapes.{suits, AllSuit}
use Rattle.fab_laws.proofs.Walk as w
use Rattle.fab_laws.proofs.Walk.{on, off}
use Rattle.fab_laws.proofs.Shapes.{Shaped, Has, Then, Lacks, Meets, kept, given_suit}
use Rattle.fab_laws.proofs.Grows.{grows_gives, grows_bind, values_grow}
use Rattle.fab_erasure.specs.Erased as erase
use Rattle.fab_erasure.specs.Erased.{shown_if}
use Rattle.fab_erasure.proofs.Views.{split_left, split_right, both_seen}
use Rattle.fab_erasure.proofs.Grows as grow
use Rattle.fab_erasure.proofs.Near as n
use Rattle.fab_erasure.proofs.Near.{Sight, Whatever, kinds_of, Match, both_go, Hidden, went}
use Rattle.fab_erasure.proofs.Expressions as x
use Rattle.fab_erasure.proofs.Expressions.{IsSeenFailure, MayFail, IsLabelled, Kept, flow_seen}

module _ (program : Resolved) (tid : Tid) (ls : List Local) where
  abbrev ks : List Kind
  ks = kinds_of ls

  abbrev pub kind : Expression → Kind
  kind = kind_of program.classes program.methods ks

  abbrev Result : {A : Type 0} → State → (State → A → Type 0) → Run A → Type 0
  Result {A} = w.Result program tid (Shaped program tid) (Has program tid) (Then program tid) (Lacks program tid) (Meets program tid) {A = A} ks

  abbrev Out : {A : Type 0} → (A → Type 0) → Run A → Type 0
  Out P (goes a u) = P a
  Out P (ends e u) = Unit {0}

  out_kind : (k : Kind) (s : State) (r : Run Value) → Result s (λ u. Has program tid u k) r → Out (λ v. suits k v ≡ true) r
  out_kind k s _ (on a u l p) = p
  out_kind k s _ (off e u l p) = tt

  pub out_value : (e : Expression) (s : State) → Shaped program tid ks s → Out (λ v. suits (kind e) v ≡ true) (value e s)
  out_value e s h = out_kind (kind e) s (value e s) ((w.expressions program tid (Shaped program tid) (Has program tid) (Then program tid) (Lacks program tid)
      (Meets program tid) (kept program tid) ks e).by s h)

  -- values that came out in turn, which fit where they are given
  pub record Given (es : List Expression) (vs : List Value) : Type 0 where
    pub count : length vs ≡ length (map kind es)
    pub fit : (takers : List Kind) → AllByRecursion (Meets program tid) (all_given takers (map kind es)) → AllSuit takers vs

  out_given : (es : List Expression) (s : State) (r : Run (List Value)) → Result s
      (λ u. w.Valued program tid (Shaped program tid) (Has program tid) (Then program tid) (Lacks program tid) (Meets program tid) (kept program tid) ks u
      (map kind es)) r → Out (Given es) r
  out_given es s _ (on vs u l p) = record {
    count = p.count;
    fit = λ takers m. given_suit program tid u takers vs
        (w.given_to program tid (Shaped program tid) (Has program tid) (Then program tid) (Lacks program tid) (Meets program tid) (kept program tid) ks u takers
        (map kind es) vs m p);
  }
  out_given es s _ (off e u l p) = tt

  pub out_values : (es : List Expression) (s : State) → Shaped program tid ks s → Out (Given es) (values es s)
  out_values es s h = out_given es s (values es s) (w.all_values program tid (Shaped program tid) (Has program tid) (Then program tid) (Lacks program tid)
      (Meets program tid) (kept program tid) ks es s h)

  pub out_right : (call : ℕ → List Value → M (Option Value)) → w.Calls program tid (Shaped program tid) (Has program tid) (Then program tid) (Lacks program tid)
      (Meets program tid) (kept program tid) call → (r : Right) (s : State)
      → AllByRecursion (Meets program tid) (right_claims program.classes program.methods ks r) → Shaped program tid ks s → Out
      (λ v. suits (right_kind program.classes program.methods ks r) v ≡ true) (right tid call r s)
  out_right call calls r s c h = out_kind (right_kind program.classes program.methods ks r) s (right tid call r s)
      (w.all_rights program tid (Shaped program tid) (Has program tid) (Then program tid) (Lacks program tid) (Meets program tid) (kept program tid) ks call calls r s c
      h)

module _ (sees : ℕ → Bool) where
  -- those that are given to what is seen are the same
  abbrev pub ArgsSame : List ℕ → List Value → List Value → Type 0
  ArgsSame to [] [] = Unit {0}
  ArgsSame to [] (u ∷ us) = ⊥
  ArgsSame to (v ∷ vs) [] = ⊥
  ArgsSame [] (v ∷ vs) (u ∷ us) = ArgsSame [] vs us
  ArgsSame (l ∷ to) (v ∷ vs) (u ∷ us) = (sees l ≡ true → v ≡ u) × ArgsSame to vs us

  pub none_same : (vs us : List Value) → ArgsSame [] vs us → length vs ≡ length us
  none_same [] [] h = refl
  none_same [] (u ∷ us) h = absurd h
  none_same (v ∷ vs) [] h = absurd h
  none_same (v ∷ vs) (u ∷ us) h = ap suc (none_same vs us h)

  pub all_same : (l : ℕ) (k : Expression → Kind) (es : List Expression) (vs us : List Value) → length vs ≡ length (map k es) → ArgsSame (map (λ (e : Expression). l) es)
      vs us → sees l ≡ true → vs ≡ us
  all_same l k es [] [] c h e = refl
  all_same l k es [] (u ∷ us) c h e = absurd h
  all_same l k es (v ∷ vs) [] c h e = absurd h
  all_same l k [] (v ∷ vs) (u ∷ us) c h e = absurd (omega arith)
  all_same l k (x ∷ es) (v ∷ vs) (u ∷ us) c h e =
      let rest = all_same l k es vs us (omega arith) h.1 e in
      ap (λ z. z ∷ vs) (h.0 e) ∙ ap (λ zs. u ∷ zs) rest

module _ (sight : Sight) (view : IsLabelled sight.sees sight.shows sight.program) (ls : List Local) where
  abbrev Near : State → State → Type 0
  Near = n.Near sight ls

  abbrev Beside : {A B : Type 0} → (A → B → Type 0) → Run A → Run B → Type 0
  Beside {A} {B} = Match sight {A = A} {B = B} ls

  abbrev Hides : {A : Type 0} → (A → Type 0) → Type 0 → State → Run A → Type 0
  Hides {A} = Hidden sight {A = A} ls

  abbrev Good : State → Type 0
  Good = n.Good sight

  abbrev part : Expression → erase.Part
  part = erase.part sight.sees sight.shows sight.program.classes ls

  abbrev owed_by : Expression → ob.Part
  owed_by = ob.part sight.program.classes ls

  known : (e : Expression) → x.Follows sight view ls (value e) (part e) (owed_by e) (sites_in e)
  known = x.expressions sight view ls

  abbrev blanks : List Expression → M (List Value)
  blanks = erase.values sight.sees sight.shows sight.program.classes ls

  module _ (pc : List ℕ) (F : Option ℕ) where
    abbrev giving : List Expression → List ℕ → List ob.Owed
    giving = ob.all_given sight.program.classes ls pc F

    one_seen : (e : Expression) (es : List Expression) (s t : State) (R : Value → Value → Type 0) (Q : List Value → List Value → Type 0)
        (S : List Value → List Value → Type 0) → Good (state_behind ((value e >>= λ v. values es >>= λ vs. gives (v ∷ vs)) s)) → Near s t
        → (Good (state_behind (value e s)) → Beside R (value e s) ((part e).run t))
        → ((u v : State) → Near u v → Good (state_behind (values es u)) → Beside Q (values es u) (blanks es v))
        → ((a b : Value) (vs us : List Value) → R a b → Q vs us → S (a ∷ vs) (b ∷ us))
        → Beside S ((value e >>= λ v. values es >>= λ vs. gives (v ∷ vs)) s) (((part e).run >>= λ v. blanks es >>= λ vs. gives (v ∷ vs)) t)
    one_seen e es s t R Q S good m first rest put =
        n.follow sight ls R Whatever S (value e s) ((part e).run t) (λ v. values es >>= λ vs. gives (v ∷ vs)) (λ v. blanks es >>= λ vs. gives (v ∷ vs)) first good
        (n.out_any sight (value e s))
        (λ v. grows_bind (values es) (λ vs. gives (v ∷ vs)) (values_grow es) (λ vs. grows_gives {A = List Value} (v ∷ vs)))
        (λ v. grows_bind (blanks es) (λ vs. gives (v ∷ vs)) (grow.values_grow sight.sees sight.shows sight.program.classes ls es) (λ vs. grows_gives {A = List Value} (v ∷ vs)))
        (λ a b u v q m2 r z gd.
        n.follow sight ls Q Whatever S (values es u) (blanks es v) (λ vs. gives (a ∷ vs)) (λ vs. gives (b ∷ vs)) (rest u v m2) gd (n.out_any sight (values es u))
        (λ vs. grows_gives {A = List Value} (a ∷ vs)) (λ vs. grows_gives {A = List Value} (b ∷ vs))
        (λ vs us u2 v2 q2 m3 r2 z2 gd2. both_go (a ∷ vs) (b ∷ us) u2 v2 m3 (put a b vs us r r2)))

    pub values_seen : (es : List Expression) (to : List ℕ) → Kept sight.sees sight.shows sight.program (giving es to) → IsSeenFailure sight.sees F → AllByRecursion
        (λ k. sight.site_seen k ≡ true) (flat_map sites_in es) → (s t : State) → Near s t → Good (state_behind (values es s)) → Beside (ArgsSame sight.sees to)
        (values es s) (blanks es t)
    values_seen [] to c g at s t m good = both_go [] [] s t m tt
    values_seen (e ∷ es) [] c g at s t m good =
        one_seen e es s t (λ a b. (part e).seen ≡ true → a ≡ b) (ArgsSame sight.sees []) (ArgsSame sight.sees []) good m
        ((known e).seen pc F (split_left _ ((owed_by e).owes pc F) (giving es []) c) g (split_left _ (sites_in e) (flat_map sites_in es) at) s t m)
        (values_seen es [] (split_right _ ((owed_by e).owes pc F) (giving es []) c) g (split_right _ (sites_in e) (flat_map sites_in es) at)) (λ a b vs us r q. q)
    values_seen (e ∷ es) (l ∷ to) c g at s t m good =
        let first = split_left _ (ob.given sight.program.classes ls pc F e l) (giving es to) c in
        let flow = split_right _ ((owed_by e).owes pc F) (all_flow Write e.at (pc ++ (owed_by e).labels) l) first in
        one_seen e es s t (λ a b. (part e).seen ≡ true → a ≡ b) (ArgsSame sight.sees to) (ArgsSame sight.sees (l ∷ to)) good m
        ((known e).seen pc F (split_left _ ((owed_by e).owes pc F) (all_flow Write e.at (pc ++ (owed_by e).labels) l) first) g
        (split_left _ (sites_in e) (flat_map sites_in es) at) s t m)
        (values_seen es to (split_right _ (ob.given sight.program.classes ls pc F e l) (giving es to) c) g (split_right _ (sites_in e) (flat_map sites_in es) at))
        (λ a b vs us r q. (
          (λ i. r ((known e).seen_is ∙ (both_seen sight.sees pc (owed_by e).labels
              (flow_seen sight.sees sight.shows sight.program Write e.at (pc ++ (owed_by e).labels) l flow i)).1)),
          q,
        ))

    each_owed : (es : List Expression) (to : List ℕ) → Kept sight.sees sight.shows sight.program (giving es to) → Kept sight.sees sight.shows sight.program
        (flat_map (λ (e : Expression). (owed_by e).owes pc F) es)
    each_owed [] to c = tt
    each_owed (e ∷ es) [] c = joined ((owed_by e).owes pc F) (flat_map (λ (z : Expression). (owed_by z).owes pc F) es)
        (split_left _ ((owed_by e).owes pc F) (giving es []) c) (each_owed es [] (split_right _ ((owed_by e).owes pc F) (giving es []) c))
      where
        joined : (a b : List ob.Owed) → Kept sight.sees sight.shows sight.program a → Kept sight.sees sight.shows sight.program b → Kept sight.sees sight.shows
            sight.program (a ++ b)
        joined [] b h k = k
        joined (o ∷ a) b h k = (h.0, joined a b h.1 k)
    each_owed (e ∷ es) (l ∷ to) c =
        joined ((owed_by e).owes pc F) (flat_map (λ (z : Expression). (owed_by z).owes pc F) es)
        (split_left _ ((owed_by e).owes pc F) (all_flow Write e.at (pc ++ (owed_by e).labels) l)
        (split_left _ (ob.given sight.program.classes ls pc F e l) (giving es to) c))
        (each_owed es to (split_right _ (ob.given sight.program.classes ls pc F e l) (giving es to) c))
      where
        joined : (a b : List ob.Owed) → Kept sight.sees sight.shows sight.program a → Kept sight.sees sight.shows sight.program b → Kept sight.sees sight.shows
            sight.program (a ++ b)
        joined [] b h k = k
        joined (o ∷ a) b h k = (h.0, joined a b h.1 k)

    hidden_values : (es : List Expression) → Kept sight.sees sight.shows sight.program (flat_map (λ (e : Expression). (owed_by e).owes pc F) es) → list_all sight.sees
        pc ≡ false → AllByRecursion (λ k. sight.site_seen k ≡ false) (flat_map sites_in es) → (s : State) → Shaped sight.program sight.tid (kinds_of ls) s → Hides
        Whatever (MayFail sight.sees F) s (values es s)
    hidden_values [] c e at s h = went [] s (n.quiet_here sight ls s h) tt
    hidden_values (e ∷ es) c i at s h =
        n.hidden_then sight ls Whatever Whatever Whatever (MayFail sight.sees F) s (value e s) (λ v. values es >>= λ vs. gives (v ∷ vs))
        ((known e).hidden pc F (split_left _ ((owed_by e).owes pc F) (flat_map (λ (z : Expression). (owed_by z).owes pc F) es) c) i
        (split_left _ (sites_in e) (flat_map sites_in es) at) s h) (n.out_any sight (value e s)) (λ a u q z y.
        n.hidden_then sight ls Whatever Whatever Whatever (MayFail sight.sees F) u (values es u) (λ vs. gives (a ∷ vs))
        (hidden_values es (split_right _ ((owed_by e).owes pc F) (flat_map (λ (z : Expression). (owed_by z).owes pc F) es) c) i
        (split_right _ (sites_in e) (flat_map sites_in es) at) u q.shaped) (n.out_any sight (values es u))
        (λ vs u2 q2 z2 y2. went (a ∷ vs) u2 (n.quiet_here sight ls u2 q2.shaped) tt))

    pub values_hidden : (es : List Expression) (to : List ℕ) → Kept sight.sees sight.shows sight.program (giving es to) → list_all sight.sees pc ≡ false
        → AllByRecursion (λ k. sight.site_seen k ≡ false) (flat_map sites_in es) → (s : State) → Shaped sight.program sight.tid (kinds_of ls) s → Hides Whatever
        (MayFail sight.sees F) s (values es s)
    values_hidden es to c e at s h = hidden_values es (each_owed es to c) e at s h

  -- ---- what a method has at its start

  defaults : (xs : List Local) → n.SeenSame sight xs (map (λ (y : Local). default y.sort) xs) (map (λ (y : Local). default y.sort) xs)
  defaults [] = tt
  defaults (y ∷ ys) = ((λ e. refl), defaults ys)

  seen_arg : (b : Bool) (v u : Value) → (b ≡ true → v ≡ u) → b ≡ true → v ≡ shown_if b u
  seen_arg true v u h e = h e
  seen_arg false v u h e = absurd (true≢false (sym e))

  pub start_same : (xs : List Local) (k : ℕ) (vs us : List Value) → AllSuit (take k (map (λ (y : Local). kind_of_sort y.sort) xs)) vs → ArgsSame sight.sees
      (map (λ (y : Local). y.label.number) (take k xs)) vs us
      → n.SeenSame sight xs (vs ++ map (λ (y : Local). default y.sort) (drop (length vs) xs))
      (erase.args_shown sight.sees sight.shows xs us ++ map (λ (y : Local). default y.sort) (drop (length us) xs))
  start_same [] k [] [] h i = tt
  start_same (y ∷ ys) k [] [] h i = defaults (y ∷ ys)
  start_same xs k [] (u ∷ us) h i = absurd i
  start_same xs k (v ∷ vs) [] h i = absurd i
  start_same xs zero (v ∷ vs) (u ∷ us) h i = absurd h
  start_same [] (suc k) (v ∷ vs) (u ∷ us) h i = absurd h
  start_same (y ∷ ys) (suc k) (v ∷ vs) (u ∷ us) h i = (seen_arg (sight.sees y.label.number) v u i.0, start_same ys k vs us h.1 i.1)
