-- Statements: at a place that is seen the erased one follows the full one; at a hidden place nothing that is in view changes.
use Rattle.std.proofs.Common.{◌≡◌, ℕ, zero, suc, ◌≤◌, List, [], ◌∷◌, ◌++◌, Option, Some, None, Bool, true, false, ◌&&◌, if◌then◌else◌, map, refl, sym, ap, ◌∙◌, subst, true≢false, arith}
use Rattle.std.specs.Prelude.{slice_get, unwrap_or}
use Rattle.std.specs.List.{list_all, flat_map, AllByRecursion}
use Rattle.std.proofs.lemmas.Bool.{and_parts, and_from}
use Rattle.fab_base.specs.declared.object.Oid.{Oid}
use Rattle.fab_base.specs.declared.object.Object.{Object}
use Rattle.fab_base.specs.declared.object.Stop.TheVariants.{Fuel}
use Rattle.fab_base.specs.declared.object.Value.{Value}
use Rattle.fab_base.specs.declared.object.Value.TheVariants.{Int, Null, Ref}
use Rattle.fab_tree.specs.declared.resolved.Use.{Use}
use Rattle.fab_tree.specs.declared.resolved.Class.{Class}
use Rattle.fab_tree.specs.declared.resolved.Local.{Local}
use Rattle.fab_tree.specs.declared.resolved.Expression.{Expression}
use Rattle.fab_tree.specs.declared.resolved.Right.{Right}
use Rattle.fab_tree.specs.declared.resolved.Statement.{Statement, ind-Statement, roll-Statement, fold-roll-Statement, map-Statement}
use Rattle.fab_tree.specs.declared.resolved.Statement.TheOpen as s
use Rattle.fab_labelling.specs.Obligations as ob
use Rattle.fab_labelling.specs.Obligations.{Owed, all_flow, all_fail, under, label_of_local, class_of_local}
use Rattle.fab_labelling.specs.declared.rule.LabelRule.TheVariants.{Write, Atomic}
use Rattle.fab_labelling.specs.Sites as sites
use Rattle.fab_labelling.specs.Sites.{Sited, all_under, right_sites, sites_in, statement_sites, sited}
use Rattle.fab_language.specs.Meaning.{State, failed, stopped, Run, goes, ends, M, gives, ◌>>=◌, ◌>>◌, charge, local, assign, access, with_field, write, replace, holds, value, values, in_order, turns, loop, atomically, right, statement_step, statement}
use Rattle.fab_laws.specs.Runs.{state_behind}
use Rattle.fab_laws.specs.Kinds as kinds
use Rattle.fab_laws.specs.Kinds.{Kind, Claim, takes, kind_at, field_kind, right_kind, statement_claims, statement_claims_step}
use Rattle.fab_laws.specs.Shapes.{suits, IsShaped}
use Rattle.fab_laws.proofs.Walk as w
use Rattle.fab_laws.proofs.Shapes.{Shaped, Has, Then, Lacks, Meets, kept, taken, suit_at, with_suits}
use Rattle.fab_laws.proofs.Grows.{as_long, Grows, grows_bind, grows_seq, grows_cond, grows_paid, grows_local, grows_assign, grows_write, grows_turns, grows_loop, grows_atomic, grows_settled, value_grows, values_grow, right_grows}
use Rattle.fab_erasure.specs.Erased as erase
use Rattle.fab_erasure.specs.Erased.{shown_if}
use Rattle.fab_erasure.specs.Agreement.{Downgrading, downgrades_in, downgrade_step, downgrades_in_right}
use Rattle.fab_erasure.specs.Agreement as agreement
use Rattle.fab_erasure.proofs.Views.{split_left, split_right, both_seen, none_seen, under_seen, under_hidden, under_unseen}
use Rattle.fab_erasure.proofs.Grows as grow
use Rattle.fab_erasure.proofs.Settles.{after_here, settles_value}
use Rattle.fab_erasure.proofs.Near as n
use Rattle.fab_erasure.proofs.Near.{Sight, Any, Whatever, kinds_of, Match, both_go, both_fail, cut, Hidden, went, fell, halted}
use Rattle.fab_erasure.proofs.Steps as steps
use Rattle.fab_erasure.proofs.Expressions as x
use Rattle.fab_erasure.proofs.Expressions.{IsSeenFailure, MayFail, IsLabelled, Kept, flow_seen, flow_hidden, fail_seen, fail_hidden, never_fails, class_by}
use Rattle.fab_erasure.proofs.Arguments as args
use Rattle.fab_erasure.proofs.Rights as called

module _ (sight : Sight) (view : IsLabelled sight.sees sight.shows sight.program) (ls : List Local) (authority : List ℕ) (call blank : ℕ → List Value → M (Option Value))
    (calls : called.Calls sight view call blank) (typed : w.Calls sight.program sight.tid (Shaped sight.program sight.tid) (Has sight.program sight.tid)
    (Then sight.program sight.tid) (Lacks sight.program sight.tid) (Meets sight.program sight.tid) (kept sight.program sight.tid) call) where
  abbrev Near : State → State → Type 0
  Near = n.Near sight ls

  abbrev Beside : {A B : Type 0} → (A → B → Type 0) → Run A → Run B → Type 0
  Beside {A} {B} = Match sight {A = A} {B = B} ls

  abbrev Hides : {A : Type 0} → (A → Type 0) → Type 0 → State → Run A → Type 0
  Hides {A} = Hidden sight {A = A} ls

  abbrev Good : State → Type 0
  Good = n.Good sight

  abbrev IsShapedState : State → Type 0
  IsShapedState = Shaped sight.program sight.tid (kinds_of ls)

  abbrev Owes : List Owed → Type 0
  Owes = Kept sight.sees sight.shows sight.program

  abbrev At : Bool → List ℕ → Type 0
  At b sites = AllByRecursion (λ n. sight.site_seen n ≡ b) sites

  abbrev Placed : Sited → Type 0
  Placed sites = AllByRecursion (λ (y : ℕ × List ℕ). sight.site_seen y.0 ≡ list_all sight.sees y.1) sites

  abbrev Turned : List Downgrading → Type 0
  Turned ds = AllByRecursion (n.Turns sight) ds

  abbrev AllMet : List Claim → Type 0
  AllMet cs = AllByRecursion (Meets sight.program sight.tid) cs

  placed_at : (b : Bool) (pc sites : List ℕ) → list_all sight.sees pc ≡ b → Placed (all_under pc sites) → At b sites
  placed_at b pc [] e h = tt
  placed_at b pc (k ∷ ks) e h = (h.0 ∙ e, placed_at b pc ks e h.1)

  abbrev done : Unit {0}
  done = tt

  abbrev nothing : M (Unit {0})
  nothing = gives tt

  grows_nothing : Grows nothing
  grows_nothing t = as_long t t refl refl

  -- ---- what a statement owes, at a place

  pub record Owing (pc : List ℕ) (F : Option ℕ) (owes : List ℕ → Option ℕ → List Owed) (sites : List ℕ → Sited) (downs : List Downgrading) (claims : List Claim) : Type
      0 where
    pub kept : Owes (owes pc F)
    pub placed : Placed (sites pc)
    pub turned : Turned downs
    pub met : AllMet claims

  abbrev SeenAt : List ℕ → Option ℕ → M (Unit {0}) → M (Unit {0}) → Type 0
  SeenAt pc F m k = IsSeenFailure sight.sees F → list_all sight.sees pc ≡ true → (s t : State) → Near s t → Good (state_behind (m s)) → Beside Any (m s) (k t)

  abbrev HiddenAt : List ℕ → Option ℕ → M (Unit {0}) → Type 0
  HiddenAt pc F m = list_all sight.sees pc ≡ false → (s : State) → IsShapedState s → Hides Whatever (MayFail sight.sees F) s (m s)

  pub record Stands (m k : M (Unit {0})) (owes : List ℕ → Option ℕ → List Owed) (sites : List ℕ → Sited) (downs : List Downgrading) (claims : List Claim) : Type 0 where
    pub grows : Grows m
    pub grows_too : Grows k
    pub seen : (pc : List ℕ) (F : Option ℕ) → Owing pc F owes sites downs claims → SeenAt pc F m k
    pub hidden : (pc : List ℕ) (F : Option ℕ) → Owing pc F owes sites downs claims → HiddenAt pc F m

  abbrev part : Expression → erase.Part
  part = erase.part sight.sees sight.shows sight.program.classes ls

  abbrev owed_by : Expression → ob.Part
  owed_by = ob.part sight.program.classes ls

  abbrev kind : Expression → Kind
  kind = args.kind sight.program sight.tid ls

  known : (e : Expression) → x.Follows sight view ls (value e) (part e) (owed_by e) (sites_in e)
  known = x.expressions sight view ls

  blank_grows : (e : Expression) → Grows (part e).run
  blank_grows = grow.value_grows sight.sees sight.shows sight.program.classes ls

  here : (s : State) → IsShapedState s → n.Quiet sight ls s s
  here = n.quiet_here sight ls

  paid_seen : (m k : M (Unit {0})) → Grows m → Grows k → ((s t : State) → Near s t → Good (state_behind (m s)) → Beside Any (m s) (k t)) → (s t : State) → Near s t
      → Good (state_behind ((charge >> m) s)) → Beside Any ((charge >> m) s) ((charge >> k) t)
  paid_seen m k g h f s t near good =
      n.follow sight ls Any Whatever Any (charge s) (charge t) (λ _. m) (λ _. k) (λ _. steps.charge_seen sight ls s t near) good (n.out_any sight (charge s)) (λ _. g)
      (λ _. h)
      (λ a b u v q m2 r z gd. f u v m2 gd)

  paid_hidden : (may : Type 0) (m : M (Unit {0})) → ((s : State) → IsShapedState s → Hides Whatever may s (m s)) → (s : State) → IsShapedState s → Hides Whatever may s
      ((charge >> m) s)
  paid_hidden may m f s h =
      n.hidden_then sight ls Whatever Whatever Whatever may s (charge s) (λ _. m) (steps.charge_hidden sight ls may s h) (n.out_any sight (charge s))
      (λ a u q z y. f u q.shaped)

  seq_seen : (m k g h : M (Unit {0})) → Grows g → Grows h → (s t : State) → Near s t → Good (state_behind ((m >> g) s))
      → (Good (state_behind (m s)) → Beside Any (m s) (k t)) → ((u v : State) → Near u v → Good (state_behind (g u)) → Beside Any (g u) (h v)) → Beside Any ((m >> g) s)
      ((k >> h) t)
  seq_seen m k g h grow grow_too s t near good first rest =
      n.follow sight ls Any Whatever Any (m s) (k t) (λ _. g) (λ _. h) first good (n.out_any sight (m s)) (λ _. grow) (λ _. grow_too)
      (λ a b u v q m2 r z gd. rest u v m2 gd)

  seq_hidden : (may : Type 0) (m g : M (Unit {0})) (s : State) → Hides Whatever may s (m s) → ((u : State) → IsShapedState u → Hides Whatever may u (g u)) → Hides
      Whatever may s ((m >> g) s)
  seq_hidden may m g s first rest = n.hidden_then sight ls Whatever Whatever Whatever may s (m s) (λ _. g) first (n.out_any sight (m s)) (λ a u q z y. rest u q.shaped)

  -- ---- assignments

  local_there : (xs : List Local) (i : ℕ) (k : Kind) → takes (kind_at (kinds_of xs) i) k ≡ true → (l : Local) × (slice_get xs i ≡ Some l)
  local_there [] i k h = absurd (true≢false (sym h))
  local_there (y ∷ ys) zero k h = (y, refl)
  local_there (y ∷ ys) (suc i) k h = local_there ys i k h

  seen_value : (b : Bool) (v u : Value) → b ≡ true → (b ≡ true → v ≡ u) → v ≡ shown_if b u
  seen_value true v u e f = f e
  seen_value false v u e f = absurd (true≢false (sym e))

  abbrev right_labels : Right → List ℕ
  right_labels = ob.right_labels sight.program.classes sight.program.methods ls authority

  abbrev right_owes : List ℕ → Option ℕ → Right → List Owed
  right_owes = ob.right_owes sight.program.classes sight.program.methods ls authority

  module _ (i : ℕ) (r : Right) (at : ℕ) where
    abbrev label : List ℕ
    label = label_of_local (slice_get ls i)

    abbrev assign_owes : List ℕ → Option ℕ → List Owed
    assign_owes pc F = right_owes pc F r ++ ob.to_each (all_flow Write at (pc ++ right_labels r)) label

    abbrev blank_right : M Value
    blank_right = erase.right sight.sees sight.shows sight.program.classes ls sight.tid blank
        (erase.blank_of sight.sees sight.shows sight.program.classes ls (slice_get ls i)) r

    abbrev assign_claims : List Claim
    assign_claims = kinds.given (kind_at (kinds_of ls) i) (right_kind sight.program.classes sight.program.methods (kinds_of ls) r) ∷ kinds.right_claims
        sight.program.classes sight.program.methods (kinds_of ls) r

    abbrev AssignOwing : List ℕ → Option ℕ → Type 0
    AssignOwing pc F = Owing pc F assign_owes (λ p. all_under p (right_sites r)) (downgrades_in_right r) assign_claims

    flow_of : (pc : List ℕ) (F : Option ℕ) → AssignOwing pc F → (l : Local) → slice_get ls i ≡ Some l → Owes (all_flow Write at (pc ++ right_labels r) l.label.number)
    flow_of pc F o l e = split_left _ (all_flow Write at (pc ++ right_labels r) l.label.number) []
        (subst (λ z. Owes (ob.to_each (all_flow Write at (pc ++ right_labels r)) (label_of_local z))) e (split_right _ (right_owes pc F r) _ o.kept))

    label_is : (b : Bool) (l : Local) → slice_get ls i ≡ Some l → sight.sees l.label.number ≡ b → list_all sight.sees label ≡ b
    label_is b l e h = ap (λ z. list_all sight.sees (label_of_local z)) e ∙ ap (λ c. c && true) h ∙ last b
      where
        last : (c : Bool) → (c && true) ≡ c
        last true = refl
        last false = refl

    fitting : (pc : List ℕ) (F : Option ℕ) → AssignOwing pc F → (v : Value) → suits (right_kind sight.program.classes sight.program.methods (kinds_of ls) r) v ≡ true
        → suits (kind_at (kinds_of ls) i) v ≡ true
    fitting pc F o v h = taken (kind_at (kinds_of ls) i) (right_kind sight.program.classes sight.program.methods (kinds_of ls) r) v o.met.0 h

    abbrev full_assign : M (Unit {0})
    full_assign = right sight.tid call r >>= assign i

    abbrev blank_assign : M (Unit {0})
    blank_assign = blank_right >>= λ v. assign i (shown_if (list_all sight.sees label) v)

    assign_seen : (pc : List ℕ) (F : Option ℕ) → AssignOwing pc F → IsSeenFailure sight.sees F → list_all sight.sees pc ≡ true → (s t : State) → Near s t → Good
        (state_behind (full_assign s)) → Beside Any (full_assign s) (blank_assign t)
    assign_seen pc F o f e s t m good =
        let there = local_there ls i (right_kind sight.program.classes sight.program.methods (kinds_of ls) r) o.met.0 in
        n.follow sight ls (λ v z. list_all sight.sees (right_labels r) ≡ true → v ≡ z)
        (λ v. suits (right_kind sight.program.classes sight.program.methods (kinds_of ls) r) v ≡ true) Any (right sight.tid call r s) (blank_right t) (assign i)
        (λ v. assign i (shown_if (list_all sight.sees label) v))
        (called.right_seen sight view ls authority call blank calls r (erase.blank_of sight.sees sight.shows sight.program.classes ls (slice_get ls i)) pc F
        (split_left _ (right_owes pc F r) _ o.kept) f (placed_at true pc (right_sites r) e o.placed) o.turned o.met.1 s t m)
        good (args.out_right sight.program sight.tid ls call typed r s o.met.1 m.shaped) (λ v. grows_assign i v)
        (λ v. grows_assign i (shown_if (list_all sight.sees label) v))
        (λ v z u u2 q m2 same fit gd. steps.assign_seen sight ls i v (shown_if (list_all sight.sees label) z) u u2 m2
        (λ k. seen_value (list_all sight.sees label) v z k (λ k2. same
        (both_seen sight.sees pc (right_labels r) (flow_seen sight.sees sight.shows sight.program Write at (pc ++ right_labels r) there.0.label.number
        (flow_of pc F o there.0 there.1) (and_parts (sight.sees there.0.label.number) true
        (sym (ap (λ z2. list_all sight.sees (label_of_local z2)) there.1) ∙ k)).0)).1))
        (fitting pc F o v fit))

    assign_hidden : (pc : List ℕ) (F : Option ℕ) → AssignOwing pc F → list_all sight.sees pc ≡ false → (s : State) → IsShapedState s → Hides Whatever
        (MayFail sight.sees F) s (full_assign s)
    assign_hidden pc F o e s h =
        let there = local_there ls i (right_kind sight.program.classes sight.program.methods (kinds_of ls) r) o.met.0 in
        n.hidden_then sight ls Whatever (λ v. suits (right_kind sight.program.classes sight.program.methods (kinds_of ls) r) v ≡ true) Whatever (MayFail sight.sees F) s
        (right sight.tid call r s) (assign i)
        (called.right_hidden sight view ls authority call blank calls r pc F (split_left _ (right_owes pc F r) _ o.kept) e
        (placed_at false pc (right_sites r) e o.placed) o.turned o.met.1 s h)
        (args.out_right sight.program sight.tid ls call typed r s o.met.1 h)
        (λ v u q z fit. steps.assign_hidden sight ls (MayFail sight.sees F) i v u q.shaped
        (label_is false there.0 there.1 (flow_hidden sight.sees sight.shows sight.program Write at (pc ++ right_labels r) there.0.label.number
        (flow_of pc F o there.0 there.1) (none_seen sight.sees pc (right_labels r) e)))
        (fitting pc F o v fit))

    assigns : Stands (charge >> full_assign) (charge >> blank_assign) assign_owes (λ p. all_under p (right_sites r)) (downgrades_in_right r) assign_claims
    assigns =
        let g = grows_bind (right sight.tid call r) (assign i) (right_grows sight.tid call calls.grows r) (λ v. grows_assign i v) in
        let h = grows_bind blank_right (λ v. assign i (shown_if (list_all sight.sees label) v))
        (grow.right_grows sight.sees sight.shows sight.program.classes ls sight.tid blank calls.grows_too (erase.blank_of sight.sees sight.shows sight.program.classes ls (slice_get ls i)) r)
        (λ v. grows_assign i (shown_if (list_all sight.sees label) v)) in
        record {
          grows = grows_paid full_assign g;
          grows_too = grows_paid blank_assign h;
          seen = λ pc F o f e. paid_seen full_assign blank_assign g h (assign_seen pc F o f e);
          hidden = λ pc F o e. paid_hidden (MayFail sight.sees F) full_assign (assign_hidden pc F o e);
        }

  -- ---- writes

  module _ (i : Use) (field : ℕ) (e : Expression) (site : ℕ) where
    abbrev class_behind : Option Class
    class_behind = class_of_local sight.program.classes (slice_get ls i.number)

    abbrev local_label : List ℕ
    local_label = label_of_local (slice_get ls i.number)

    abbrev writing : List ℕ → Option Class → List Owed
    writing pc c = ob.writing sight.program.classes sight.program.methods ls authority pc i e c

    abbrev write_owes : List ℕ → Option ℕ → List Owed
    write_owes pc F = (owed_by e).owes pc F ++ ob.reaching sight.program.classes ls i pc F ++ writing pc class_behind

    abbrev local_kind : Kind
    local_kind = kind_at (kinds_of ls) i.number

    abbrev write_claims : List Claim
    write_claims = kinds.given (field_kind sight.program.classes local_kind field) (kind e) ∷ []

    abbrev WriteOwing : List ℕ → Option ℕ → Type 0
    WriteOwing pc F = Owing pc F write_owes (λ p. all_under p (site ∷ sites_in e)) [] write_claims

    reach_kept : (pc : List ℕ) (F : Option ℕ) → WriteOwing pc F → Owes ((owed_by e).owes pc F ++ ob.reaching sight.program.classes ls i pc F)
    reach_kept pc F o = split_left _ ((owed_by e).owes pc F ++ ob.reaching sight.program.classes ls i pc F) (writing pc class_behind) o.kept

    value_kept : (pc : List ℕ) (F : Option ℕ) → WriteOwing pc F → Owes ((owed_by e).owes pc F)
    value_kept pc F o = split_left _ ((owed_by e).owes pc F) (ob.reaching sight.program.classes ls i pc F) (reach_kept pc F o)

    fails_kept : (pc : List ℕ) (F : Option ℕ) → WriteOwing pc F → Owes (all_fail i.at (pc ++ local_label) F)
    fails_kept pc F o = split_right _ (ob.asking sight.program.classes ls i.at (pc ++ local_label) class_behind) (all_fail i.at (pc ++ local_label) F)
        (split_right _ ((owed_by e).owes pc F) (ob.reaching sight.program.classes ls i pc F) (reach_kept pc F o))

    writing_kept : (pc : List ℕ) (F : Option ℕ) → WriteOwing pc F → Owes (writing pc class_behind)
    writing_kept pc F o = split_right _ ((owed_by e).owes pc F ++ ob.reaching sight.program.classes ls i pc F) (writing pc class_behind) o.kept

    abbrev value_in : State → Value
    value_in s = unwrap_or (slice_get s.locals i.number) Null

    suits_local : (s : State) → IsShapedState s → suits local_kind (value_in s) ≡ true
    suits_local s h = suit_at (kinds_of ls) s.locals i.number h.locals

    shape : (pc : List ℕ) (F : Option ℕ) → WriteOwing pc F → (s : State) → IsShapedState s → (o : Oid) (v : Value) (y : Object) → value_in s ≡ Ref o → suits (kind e) v
        ≡ true → IsShaped sight.program.classes o y → IsShaped sight.program.classes o (with_field field v y)
    shape pc F w2 s h o v y q k p = with_suits sight.program.classes local_kind (kind e) field o v y (subst (λ z. suits local_kind z ≡ true) q (suits_local s h))
        w2.met.0 k p

    -- the value flows to the label of the class
    value_seen : (pc : List ℕ) (c : Option Class) (o : Oid) → Owes (writing pc c) → slice_get sight.program.classes o.class ≡ c → sight.shows o.class ≡ true → list_all
        sight.sees (owed_by e).labels ≡ true
    value_seen pc None o k q h = absurd (true≢false (sym h ∙ view.absent o.class q))
    value_seen pc (Some c) o k q h =
        (both_seen sight.sees (pc ++ local_label) (owed_by e).labels
        (flow_seen sight.sees sight.shows sight.program Write i.at (pc ++ local_label ++ (owed_by e).labels) c.label.number k (sym (view.shown o.class c q) ∙ h))).1

    class_hidden : (pc : List ℕ) (c : Option Class) (o : Oid) → Owes (writing pc c) → slice_get sight.program.classes o.class ≡ c → list_all sight.sees pc ≡ false
        → sight.shows o.class ≡ false
    class_hidden pc None o k q h = view.absent o.class q
    class_hidden pc (Some c) o k q h = view.shown o.class c q ∙ flow_hidden sight.sees sight.shows sight.program Write i.at (pc ++ local_label ++ (owed_by e).labels)
        c.label.number k (none_seen sight.sees (pc ++ local_label) (owed_by e).labels (none_seen sight.sees pc local_label h))

    behind_is : (s : State) → IsShapedState s → (o : Oid) → value_in s ≡ Ref o → class_behind ≡ slice_get sight.program.classes o.class
    behind_is s h o q = class_by sight.sees sight.shows sight.program ls s.locals i.number o h.locals q

    not_in_view : (o : Oid) → sight.shows o.class ≡ false → (sight.site_seen site && sight.shows o.class) ≡ false
    not_in_view o h = rw h (none (sight.site_seen site))
      where
        none : (b : Bool) → (b && false) ≡ false
        none true = refl
        none false = refl

    write_out : (may : Type 0) (pc : List ℕ) (F : Option ℕ) → WriteOwing pc F → (o : Oid) (v : Value) (s : State) → IsShapedState s → value_in s ≡ Ref o → suits
        (kind e) v ≡ true → sight.shows o.class ≡ false → Hides Whatever may s (write site field v (Ref o) s)
    write_out may pc F w2 o v s h q k hide =
        n.hidden_then sight ls (IsShaped sight.program.classes o) Whatever Whatever may s (access site o s) (λ y. replace o (with_field field v y))
        (steps.access_hidden sight ls may site o s h (not_in_view o hide)) (n.out_any sight (access site o s))
        (λ y u d p z. steps.replace_hidden sight ls may o (with_field field v y) u d.shaped hide (shape pc F w2 s h o v y q k p))

    write_in : (pc : List ℕ) (F : Option ℕ) → WriteOwing pc F → list_all sight.sees pc ≡ true → (o : Oid) (v z : Value) (s t : State) → Near s t → value_in s ≡ Ref o
        → suits (kind e) v ≡ true → (list_all sight.sees (owed_by e).labels ≡ true → v ≡ z) → Good (state_behind (write site field v (Ref o) s)) → (b : Bool)
        → sight.shows o.class ≡ b
        → Beside Any (write site field v (Ref o) s) ((if b then write site field z (Ref o) else gives tt) t)
    write_in pc F w2 pcs o v z s t m q k same good true show =
        let e2 = same (value_seen pc (slice_get sight.program.classes o.class) o (subst (λ c. Owes (writing pc c)) (behind_is s m.shaped o q) (writing_kept pc F w2))
        refl show) in
        let at = (placed_at true pc (site ∷ sites_in e) pcs w2.placed).0 in
        n.follow sight ls (steps.Found sight o) Whatever Any (access site o s) (access site o t) (λ y. replace o (with_field field v y))
        (λ y. replace o (with_field field z y))
        (λ g. steps.access_seen sight ls site o s t m at show) good (n.out_any sight (access site o s)) (λ y u. grows_settled _ u)
        (λ y u. grows_settled _ u)
        (λ y y2 u u2 d m2 r x2 g. subst (λ y3. Beside Any (replace o (with_field field v y) u) (replace o y3 u2))
        (ap (λ v2. with_field field v2 y) e2 ∙ ap (with_field field z) r.0)
        (steps.replace_seen sight ls o (with_field field v y) u u2 m2 show (shape pc F w2 s m.shaped o v y q k r.1)))
    write_in pc F w2 pcs o v z s t m q k same good false hide =
        n.hidden_beside sight ls Whatever Any ⊥ s t (write site field v (Ref o) s) tt (λ never. never) m (λ a p. tt) (write_out ⊥ pc F w2 o v s m.shaped q k hide)

    write_value : (pc : List ℕ) (F : Option ℕ) → WriteOwing pc F → list_all sight.sees pc ≡ true → (o v z : Value) (s t : State) → Near s t → value_in s ≡ o → suits
        (kind e) v ≡ true → (list_all sight.sees (owed_by e).labels ≡ true → v ≡ z) → Good (state_behind (write site field v o s)) → Beside Any (write site field v o s)
        (erase.write_shown sight.sees sight.shows site field z o t)
    write_value pc F w2 pcs (Int c) v z s t m q k same good = both_fail s t m.heap m.trace
    write_value pc F w2 pcs Null v z s t m q k same good = both_fail s t m.heap m.trace
    write_value pc F w2 pcs (Ref o) v z s t m q k same good = write_in pc F w2 pcs o v z s t m q k same good (sight.shows o.class) refl

    write_hidden : (pc : List ℕ) (F : Option ℕ) → WriteOwing pc F → list_all sight.sees pc ≡ false → (o v : Value) (s : State) → IsShapedState s → value_in s ≡ o
        → suits (kind e) v ≡ true → Hides Whatever (MayFail sight.sees F) s (write site field v o s)
    write_hidden pc F w2 pcs (Int c) v s h q k = let y = here s h in fell s y.heap y.trace
        (fail_hidden sight.sees sight.shows sight.program i.at (pc ++ local_label) F (fails_kept pc F w2) (none_seen sight.sees pc local_label pcs))
    write_hidden pc F w2 pcs Null v s h q k = let y = here s h in fell s y.heap y.trace
        (fail_hidden sight.sees sight.shows sight.program i.at (pc ++ local_label) F (fails_kept pc F w2) (none_seen sight.sees pc local_label pcs))
    write_hidden pc F w2 pcs (Ref o) v s h q k = write_out (MayFail sight.sees F) pc F w2 o v s h q k
        (class_hidden pc (slice_get sight.program.classes o.class) o (subst (λ c. Owes (writing pc c)) (behind_is s h o q) (writing_kept pc F w2)) refl pcs)

    abbrev full_write : M (Unit {0})
    full_write = value e >>= λ v. local i.number >>= λ o. write site field v o

    abbrev blank_write : M (Unit {0})
    blank_write = (part e).run >>= λ v. local i.number >>= erase.write_shown sight.sees sight.shows site field v

    grow_full : Grows full_write
    grow_full = grows_bind (value e) (λ v. local i.number >>= λ o. write site field v o) (value_grows e)
        (λ v. grows_bind (local i.number) (λ o. write site field v o) (grows_local i.number) (λ o. grows_write site field v o))

    grow_blank : Grows blank_write
    grow_blank = grows_bind (part e).run (λ v. local i.number >>= erase.write_shown sight.sees sight.shows site field v) (blank_grows e)
        (λ v. grows_bind (local i.number) (erase.write_shown sight.sees sight.shows site field v) (grows_local i.number) (λ o. grow.grows_write_shown sight.sees sight.shows site field v o))

    writes_seen : (pc : List ℕ) (F : Option ℕ) → WriteOwing pc F → IsSeenFailure sight.sees F → list_all sight.sees pc ≡ true → (s t : State) → Near s t → Good
        (state_behind (full_write s)) → Beside Any (full_write s) (blank_write t)
    writes_seen pc F w2 f pcs s t m good =
        n.follow sight ls (λ v z. (part e).seen ≡ true → v ≡ z) (λ v. suits (kind e) v ≡ true) Any (value e s) ((part e).run t)
        (λ v. local i.number >>= λ o. write site field v o) (λ v. local i.number >>= erase.write_shown sight.sees sight.shows site field v)
        ((known e).seen pc F (value_kept pc F w2) f (placed_at true pc (site ∷ sites_in e) pcs w2.placed).1 s t m) good
        (args.out_value sight.program sight.tid ls e s m.shaped)
        (λ v. grows_bind (local i.number) (λ o. write site field v o) (grows_local i.number) (λ o. grows_write site field v o))
        (λ v. grows_bind (local i.number) (erase.write_shown sight.sees sight.shows site field v) (grows_local i.number) (λ o. grow.grows_write_shown sight.sees sight.shows site field v o))
        (λ v z u u2 q m2 same fit gd.
        let l = (both_seen sight.sees pc local_label (fail_seen sight.sees sight.shows sight.program i.at (pc ++ local_label) F (fails_kept pc F w2) f)).1 in
        subst (λ o. Beside Any (write site field v (value_in u) u) (erase.write_shown sight.sees sight.shows site field z o u2))
        (n.same_at sight ls u.locals u2.locals i.number m2.locals l)
        (write_value pc F w2 pcs (value_in u) v z u u2 m2 refl fit (λ k. same ((known e).seen_is ∙ k)) gd))

    writes_hidden : (pc : List ℕ) (F : Option ℕ) → WriteOwing pc F → list_all sight.sees pc ≡ false → (s : State) → IsShapedState s → Hides Whatever
        (MayFail sight.sees F) s (full_write s)
    writes_hidden pc F w2 pcs s h =
        n.hidden_then sight ls Whatever (λ v. suits (kind e) v ≡ true) Whatever (MayFail sight.sees F) s (value e s) (λ v. local i.number >>= λ o. write site field v o)
        ((known e).hidden pc F (value_kept pc F w2) pcs (placed_at false pc (site ∷ sites_in e) pcs w2.placed).1 s h) (args.out_value sight.program sight.tid ls e s h)
        (λ v u q z fit. write_hidden pc F w2 pcs (value_in u) v u q.shaped refl fit)

    writes : Stands (charge >> full_write) (charge >> blank_write) write_owes (λ p. all_under p (site ∷ sites_in e)) [] write_claims
    writes = record {
      grows = grows_paid full_write grow_full;
      grows_too = grows_paid blank_write grow_blank;
      seen = λ pc F o f pcs. paid_seen full_write blank_write grow_full grow_blank (writes_seen pc F o f pcs);
      hidden = λ pc F o pcs. paid_hidden (MayFail sight.sees F) full_write (writes_hidden pc F o pcs);
    }

  -- ---- calls and failures

  call_stands : (i : Use) (es : List Expression) → Stands (charge >> (values es >>= λ vs. call i.number vs >> gives tt))
      (charge >> (erase.values sight.sees sight.shows sight.program.classes ls es >>= λ vs. blank i.number vs >> gives tt))
      (λ pc F. ob.call_owes sight.program.classes sight.program.methods ls authority pc F i es) (λ p. all_under p (flat_map sites_in es)) []
      (kinds.call_claims sight.program.classes sight.program.methods (kinds_of ls) i.number es)
  call_stands i es =
      let m : M (Unit {0}) = values es >>= λ vs. call i.number vs >> gives tt in
      let k : M (Unit {0}) = erase.values sight.sees sight.shows sight.program.classes ls es >>= λ vs. blank i.number vs >> gives tt in
      let g : Grows m = grows_bind (values es) (λ vs. call i.number vs >> gives tt) (values_grow es)
      (λ vs. grows_seq (call i.number vs) nothing (calls.grows i.number vs) grows_nothing) in
      let h : Grows k = grows_bind (erase.values sight.sees sight.shows sight.program.classes ls es) (λ vs. blank i.number vs >> gives tt)
      (grow.values_grow sight.sees sight.shows sight.program.classes ls es) (λ vs. grows_seq (blank i.number vs) nothing (calls.grows_too i.number vs) grows_nothing) in
      record {
        grows = grows_paid m g;
        grows_too = grows_paid k h;
        seen = λ pc F o f pcs. paid_seen m k g h (λ s t near good.
            called.call_seen sight view ls authority call blank calls pc F i es Any (λ _. gives tt) (λ _. gives tt) o.kept f
            (placed_at true pc (flat_map sites_in es) pcs o.placed) o.met (λ _. grows_nothing) (λ _. grows_nothing) s t near good
            (λ a b u v m2 r gd. both_go tt tt u v m2 tt));
        hidden = λ pc F o pcs. paid_hidden (MayFail sight.sees F) m (λ s shaped.
            called.call_hidden sight view ls authority call blank calls pc F i es (λ _. gives tt) o.kept pcs (placed_at false pc (flat_map sites_in es) pcs o.placed)
            o.met s shaped (λ a u q. went tt u (here u q) tt));
      }

  fail_stands : (at : ℕ) → Stands (charge >> ends failed) (charge >> ends failed) (λ pc F. all_fail at pc F) (λ p. []) [] []
  fail_stands at =
      let g : Grows {A = Unit {0}} (ends failed) = λ t. as_long t t refl refl in
      record {
        grows = grows_paid (ends failed) g;
        grows_too = grows_paid (ends failed) g;
        seen = λ pc F o f pcs. paid_seen (ends failed) (ends failed) g g (λ s t m good. both_fail s t m.heap m.trace);
        hidden = λ pc F o pcs. paid_hidden (MayFail sight.sees F) (ends failed)
            (λ s h. let q = here s h in fell s q.heap q.trace (fail_hidden sight.sees sight.shows sight.program at pc F o.kept pcs));
      }

  -- ---- choices

  choice_seen : (b : Bool) (ma mb ka kb : M (Unit {0})) (s t : State) → Good (state_behind ((if b then ma else mb) s))
      → (Good (state_behind (ma s)) → Beside Any (ma s) (ka t)) → (Good (state_behind (mb s)) → Beside Any (mb s) (kb t)) → Beside Any ((if b then ma else mb) s)
      ((if b then ka else kb) t)
  choice_seen true ma mb ka kb s t good f g = f good
  choice_seen false ma mb ka kb s t good f g = g good

  choice_hidden : (b : Bool) (may : Type 0) (ma mb : M (Unit {0})) (s : State) → Hides Whatever may s (ma s) → Hides Whatever may s (mb s) → Hides Whatever may s
      ((if b then ma else mb) s)
  choice_hidden true may ma mb s f g = f
  choice_hidden false may ma mb s f g = g

  alone : (F : Option ℕ) (s t : State) (r : Run (Unit {0})) → IsSeenFailure sight.sees F → Near s t → Hides Whatever (MayFail sight.sees F) s r → Beside Any r
      (goes done t)
  alone F s t r f m h = n.hidden_beside sight ls Whatever Any (MayFail sight.sees F) s t r tt (never_fails sight.sees F f) m (λ a p. tt) h

  module _ (ma ka mb kb : M (Unit {0})) (oa ob2 : List ℕ → Option ℕ → List Owed) (sa sb : List ℕ → Sited) (da db : List Downgrading) (ca cb : List Claim)
      (a : Stands ma ka oa sa da ca) (b : Stands mb kb ob2 sb db cb) where
    module _ (e : Expression) where
      abbrev inside : List ℕ → List ℕ
      inside pc = under pc (owed_by e).labels

      abbrev if_owes : List ℕ → Option ℕ → List Owed
      if_owes pc F = (owed_by e).owes pc F ++ oa (inside pc) F ++ ob2 (inside pc) F

      abbrev if_sites : List ℕ → Sited
      if_sites pc = all_under pc (sites_in e) ++ sa (inside pc) ++ sb (inside pc)

      abbrev IfOwing : List ℕ → Option ℕ → Type 0
      IfOwing pc F = Owing pc F if_owes if_sites (da ++ db) (ca ++ cb)

      front_kept : (pc : List ℕ) (F : Option ℕ) → IfOwing pc F → Owes ((owed_by e).owes pc F ++ oa (inside pc) F)
      front_kept pc F o = split_left _ ((owed_by e).owes pc F ++ oa (inside pc) F) (ob2 (inside pc) F) o.kept

      front_placed : (pc : List ℕ) (F : Option ℕ) → IfOwing pc F → Placed (all_under pc (sites_in e) ++ sa (inside pc))
      front_placed pc F o = split_left _ (all_under pc (sites_in e) ++ sa (inside pc)) (sb (inside pc)) o.placed

      first : (pc : List ℕ) (F : Option ℕ) → IfOwing pc F → Owing (inside pc) F oa sa da ca
      first pc F o = record {
        kept = split_right _ ((owed_by e).owes pc F) (oa (inside pc) F) (front_kept pc F o);
        placed = split_right _ (all_under pc (sites_in e)) (sa (inside pc)) (front_placed pc F o);
        turned = split_left _ da db o.turned;
        met = split_left _ ca cb o.met;
      }

      second : (pc : List ℕ) (F : Option ℕ) → IfOwing pc F → Owing (inside pc) F ob2 sb db cb
      second pc F o = record {
        kept = split_right _ ((owed_by e).owes pc F ++ oa (inside pc) F) (ob2 (inside pc) F) o.kept;
        placed = split_right _ (all_under pc (sites_in e) ++ sa (inside pc)) (sb (inside pc)) o.placed;
        turned = split_right _ da db o.turned;
        met = split_right _ ca cb o.met;
      }

      abbrev full_if : M (Unit {0})
      full_if = value e >>= λ v. if holds v then ma else mb

      abbrev blank_if : M (Unit {0})
      blank_if = (part e).run >>= λ v. if (part e).seen then (if holds v then ka else kb) else gives tt

      grow_if : Grows full_if
      grow_if = grows_bind (value e) (λ v. if holds v then ma else mb) (value_grows e) (λ v. grows_cond (holds v) ma mb a.grows b.grows)

      grow_blank_if : Grows blank_if
      grow_blank_if = grows_bind (part e).run (λ v. if (part e).seen then (if holds v then ka else kb) else gives tt) (blank_grows e)
          (λ v. grows_cond (part e).seen (if holds v then ka else kb) nothing (grows_cond (holds v) ka kb a.grows_too b.grows_too) grows_nothing)

      if_by : (pc : List ℕ) (F : Option ℕ) → IfOwing pc F → IsSeenFailure sight.sees F → list_all sight.sees pc ≡ true → (v z : Value) (u u2 : State) → Near u u2 → Good
          (state_behind ((if holds v then ma else mb) u)) → (c : Bool) → (part e).seen ≡ c → (c ≡ true → v ≡ z)
          → Beside Any ((if holds v then ma else mb) u) ((if c then (if holds z then ka else kb) else gives tt) u2)
      if_by pc F o f pcs v z u u2 m good true k same =
          let inner = under_seen sight.sees pc (owed_by e).labels pcs (sym (known e).seen_is ∙ k) in
          subst (λ z2. Beside Any ((if holds v then ma else mb) u) ((if holds z2 then ka else kb) u2)) (same refl)
          (choice_seen (holds v) ma mb ka kb u u2 good (a.seen (inside pc) F (first pc F o) f inner u u2 m) (b.seen (inside pc) F (second pc F o) f inner u u2 m))
      if_by pc F o f pcs v z u u2 m good false k same =
          let inner = under_unseen sight.sees pc (owed_by e).labels (sym (known e).seen_is ∙ k) in
          alone F u u2 ((if holds v then ma else mb) u) f m (choice_hidden (holds v) (MayFail sight.sees F) ma mb u
          (a.hidden (inside pc) F (first pc F o) inner u m.shaped) (b.hidden (inside pc) F (second pc F o) inner u m.shaped))

      if_seen : (pc : List ℕ) (F : Option ℕ) → IfOwing pc F → IsSeenFailure sight.sees F → list_all sight.sees pc ≡ true → (s t : State) → Near s t → Good
          (state_behind (full_if s)) → Beside Any (full_if s) (blank_if t)
      if_seen pc F o f pcs s t m good =
          n.follow sight ls (λ v z. (part e).seen ≡ true → v ≡ z) Whatever Any (value e s) ((part e).run t) (λ v. if holds v then ma else mb)
          (λ v. if (part e).seen then (if holds v then ka else kb) else gives tt)
          ((known e).seen pc F (split_left _ ((owed_by e).owes pc F) (oa (inside pc) F) (front_kept pc F o)) f
          (placed_at true pc (sites_in e) pcs (split_left _ (all_under pc (sites_in e)) (sa (inside pc)) (front_placed pc F o))) s t m) good
          (n.out_any sight (value e s))
          (λ v. grows_cond (holds v) ma mb a.grows b.grows) (λ v. grows_cond (part e).seen (if holds v then ka else kb) nothing
          (grows_cond (holds v) ka kb a.grows_too b.grows_too) grows_nothing)
          (λ v z u u2 q m2 same y gd. if_by pc F o f pcs v z u u2 m2 gd (part e).seen refl same)

      if_hidden : (pc : List ℕ) (F : Option ℕ) → IfOwing pc F → list_all sight.sees pc ≡ false → (s : State) → IsShapedState s → Hides Whatever (MayFail sight.sees F) s
          (full_if s)
      if_hidden pc F o pcs s h =
          let inner = under_hidden sight.sees pc (owed_by e).labels pcs in
          n.hidden_then sight ls Whatever Whatever Whatever (MayFail sight.sees F) s (value e s) (λ v. if holds v then ma else mb)
          ((known e).hidden pc F (split_left _ ((owed_by e).owes pc F) (oa (inside pc) F) (front_kept pc F o)) pcs
          (placed_at false pc (sites_in e) pcs (split_left _ (all_under pc (sites_in e)) (sa (inside pc)) (front_placed pc F o))) s h) (n.out_any sight (value e s))
          (λ v u q z y. choice_hidden (holds v) (MayFail sight.sees F) ma mb u (a.hidden (inside pc) F (first pc F o) inner u q.shaped)
          (b.hidden (inside pc) F (second pc F o) inner u q.shaped))

      if_stands : Stands (charge >> full_if) (charge >> blank_if) if_owes if_sites (da ++ db) (ca ++ cb)
      if_stands = record {
        grows = grows_paid full_if grow_if;
        grows_too = grows_paid blank_if grow_blank_if;
        seen = λ pc F o f pcs. paid_seen full_if blank_if grow_if grow_blank_if (if_seen pc F o f pcs);
        hidden = λ pc F o pcs. paid_hidden (MayFail sight.sees F) full_if (if_hidden pc F o pcs);
      }

    -- ---- atomic blocks

    module _ (label at : ℕ) where
      abbrev within : List ℕ → List ℕ
      within pc = under pc (label ∷ [])

      abbrev atomic_owes : List ℕ → Option ℕ → List Owed
      atomic_owes pc F = all_flow Atomic at pc label ++ oa (within pc) (Some label) ++ ob2 (within pc) F

      abbrev atomic_sites : List ℕ → Sited
      atomic_sites pc = sa (within pc) ++ sb (within pc)

      abbrev AtomicOwing : List ℕ → Option ℕ → Type 0
      AtomicOwing pc F = Owing pc F atomic_owes atomic_sites (da ++ db) (ca ++ cb)

      tried : (pc : List ℕ) (F : Option ℕ) → AtomicOwing pc F → Owing (within pc) (Some label) oa sa da ca
      tried pc F o = record {
        kept = split_right _ (all_flow Atomic at pc label) (oa (within pc) (Some label))
            (split_left _ (all_flow Atomic at pc label ++ oa (within pc) (Some label)) (ob2 (within pc) F) o.kept);
        placed = split_left _ (sa (within pc)) (sb (within pc)) o.placed;
        turned = split_left _ da db o.turned;
        met = split_left _ ca cb o.met;
      }

      other : (pc : List ℕ) (F : Option ℕ) → AtomicOwing pc F → Owing (within pc) F ob2 sb db cb
      other pc F o = record {
        kept = split_right _ (all_flow Atomic at pc label ++ oa (within pc) (Some label)) (ob2 (within pc) F) o.kept;
        placed = split_right _ (sa (within pc)) (sb (within pc)) o.placed;
        turned = split_right _ da db o.turned;
        met = split_right _ ca cb o.met;
      }

      abbrev full_atomic : M (Unit {0})
      full_atomic = atomically ma mb

      abbrev blank_atomic : M (Unit {0})
      blank_atomic = if sight.sees label then atomically ka kb else gives tt

      atomic_out : (pc : List ℕ) (F : Option ℕ) → AtomicOwing pc F → list_all sight.sees (within pc) ≡ false → (s : State) → IsShapedState s → Hides Whatever
          (MayFail sight.sees F) s (full_atomic s)
      atomic_out pc F o pcs s h =
          n.hidden_else sight ls (MayFail sight.sees (Some label)) (MayFail sight.sees F) s (ma s) mb h (a.hidden (within pc) (Some label) (tried pc F o) pcs s h)
          (λ u q. b.hidden (within pc) F (other pc F o) pcs u q.shaped)

      atomic_by : (pc : List ℕ) (F : Option ℕ) → AtomicOwing pc F → IsSeenFailure sight.sees F → list_all sight.sees pc ≡ true → (s t : State) → Near s t → Good
          (state_behind (full_atomic s)) → (c : Bool) → sight.sees label ≡ c → Beside Any (full_atomic s) ((if c then atomically ka kb else gives tt) t)
      atomic_by pc F o f pcs s t m good true k =
          let inner = under_seen sight.sees pc (label ∷ []) pcs (and_from (sight.sees label) true k refl) in
          n.follow_else sight ls s t (ma s) (ka t) mb kb m (a.seen (within pc) (Some label) (tried pc F o) k inner s t m) good b.grows b.grows_too
          (λ u v m2 gd. b.seen (within pc) F (other pc F o) f inner u v m2 gd)
      atomic_by pc F o f pcs s t m good false k = alone F s t (full_atomic s) f m
          (atomic_out pc F o (under_unseen sight.sees pc (label ∷ []) (ap (λ c. c && true) k)) s m.shaped)

      atomic_stands : Stands (charge >> full_atomic) (charge >> blank_atomic) atomic_owes atomic_sites (da ++ db) (ca ++ cb)
      atomic_stands =
          let g = grows_atomic ma mb a.grows b.grows in
          let h = grows_cond (sight.sees label) (atomically ka kb) nothing (grows_atomic ka kb a.grows_too b.grows_too) grows_nothing in
          record {
            grows = grows_paid full_atomic g;
            grows_too = grows_paid blank_atomic h;
            seen = λ pc F o f pcs. paid_seen full_atomic blank_atomic g h (λ s t m good. atomic_by pc F o f pcs s t m good (sight.sees label) refl);
            hidden = λ pc F o pcs. paid_hidden (MayFail sight.sees F) full_atomic (λ s shaped. atomic_out pc F o (under_hidden sight.sees pc (label ∷ []) pcs) s shaped);
          }

  -- ---- loops

  module _ (e : Expression) (ma ka : M (Unit {0})) (oa : List ℕ → Option ℕ → List Owed) (sa : List ℕ → Sited) (da : List Downgrading) (ca : List Claim)
      (a : Stands ma ka oa sa da ca) where
    abbrev behind : List ℕ → List ℕ
    behind pc = under pc (owed_by e).labels

    abbrev while_owes : List ℕ → Option ℕ → List Owed
    while_owes pc F = (owed_by e).owes pc F ++ oa (behind pc) F

    abbrev while_sites : List ℕ → Sited
    while_sites pc = all_under pc (sites_in e) ++ sa (behind pc)

    abbrev WhileOwing : List ℕ → Option ℕ → Type 0
    WhileOwing pc F = Owing pc F while_owes while_sites da ca

    turn : (pc : List ℕ) (F : Option ℕ) → WhileOwing pc F → Owing (behind pc) F oa sa da ca
    turn pc F o = record {
      kept = split_right _ ((owed_by e).owes pc F) _ o.kept;
      placed = split_right _ (all_under pc (sites_in e)) _ o.placed;
      turned = o.turned;
      met = o.met;
    }

    abbrev run : M Value
    run = (part e).run

    abbrev next : ℕ → Value → M (Unit {0})
    next k v = if holds v then ma >> turns k (value e) ma else gives tt

    abbrev blank_next : ℕ → Value → M (Unit {0})
    blank_next k v = if holds v then ka >> turns k run ka else gives tt

    grow_turns : (k : ℕ) → Grows (turns k (value e) ma)
    grow_turns k = grows_turns k (value e) ma (value_grows e) a.grows

    grow_blanks : (k : ℕ) → Grows (turns k run ka)
    grow_blanks k = grows_turns k run ka (blank_grows e) a.grows_too

    grow_next : (k : ℕ) (v : Value) → Grows (next k v)
    grow_next k v = grows_cond (holds v) (ma >> turns k (value e) ma) nothing (grows_seq ma (turns k (value e) ma) a.grows (grow_turns k)) grows_nothing

    grow_blank_next : (k : ℕ) (v : Value) → Grows (blank_next k v)
    grow_blank_next k v = grows_cond (holds v) (ka >> turns k run ka) nothing (grows_seq ka (turns k run ka) a.grows_too (grow_blanks k)) grows_nothing

    test_seen : (pc : List ℕ) (F : Option ℕ) → WhileOwing pc F → IsSeenFailure sight.sees F → list_all sight.sees pc ≡ true → (s t : State) → Near s t → Good
        (state_behind (value e s)) → Beside (λ v z. (part e).seen ≡ true → v ≡ z) (value e s) (run t)
    test_seen pc F o f pcs s t m good = (known e).seen pc F (split_left _ ((owed_by e).owes pc F) _ o.kept) f
        (placed_at true pc (sites_in e) pcs (split_left _ (all_under pc (sites_in e)) _ o.placed)) s t m good

    out_of_fuel : (s t : State) (k : M (Unit {0})) → Grows k → Near s t → Beside {A = Unit {0}} Any (ends (stopped Fuel) s) (k t)
    out_of_fuel s t k g m = cut Fuel s (k t) (n.fronts_on sight s t (state_behind (k t)) (n.fronts_at sight s t m.trace) (g t))

    -- with a test that is seen
    turns_seen : (pc : List ℕ) (F : Option ℕ) → WhileOwing pc F → IsSeenFailure sight.sees F → list_all sight.sees pc ≡ true → (part e).seen ≡ true → (k j : ℕ) → k ≤ j
        → (s t : State) → Near s t → Good (state_behind (turns k (value e) ma s)) → Beside Any (turns k (value e) ma s) (turns j run ka t)
    turns_seen pc F o f pcs c zero j le s t m good = out_of_fuel s t (turns j run ka) (grow_blanks j) m
    turns_seen pc F o f pcs c (suc k) zero le s t m good = absurd (omega arith)
    turns_seen pc F o f pcs c (suc k) (suc j) le s t m good =
        paid_seen (value e >>= next k) (run >>= blank_next j) (grows_bind (value e) (next k) (value_grows e) (grow_next k))
        (grows_bind run (blank_next j) (blank_grows e) (grow_blank_next j)) (λ s1 t1 m1 good1.
        n.follow sight ls (λ v z. (part e).seen ≡ true → v ≡ z) Whatever Any (value e s1) (run t1) (next k) (blank_next j) (test_seen pc F o f pcs s1 t1 m1) good1
        (n.out_any sight (value e s1)) (grow_next k) (grow_blank_next j)
        (λ v z u u2 q m2 same y gd.
        subst (λ z2. Beside Any (next k v u) (blank_next j z2 u2)) (same c)
        (choice_seen (holds v) (ma >> turns k (value e) ma) nothing (ka >> turns j run ka) nothing u u2 gd
        (λ gd2. seq_seen ma ka (turns k (value e) ma) (turns j run ka) (grow_turns k) (grow_blanks j) u u2 m2 gd2
        (a.seen (behind pc) F (turn pc F o) f (under_seen sight.sees pc (owed_by e).labels pcs (sym (known e).seen_is ∙ c)) u u2 m2)
        (λ u3 u4 m3 gd3. turns_seen pc F o f pcs c k j (omega arith) u3 u4 m3 gd3))
        (λ gd2. both_go tt tt u u2 m2 tt)))) s t m good

    gone_to : {A : Type 0} (y z : A) (p r : State) → goes y p ≡ goes z r → p ≡ r
    gone_to y z p r h = cc

    -- a hidden body, and then what comes
    onward : (pc : List ℕ) (F : Option ℕ) → WhileOwing pc F → IsSeenFailure sight.sees F → list_all sight.sees pc ≡ true → (part e).seen ≡ false → (b : Bool)
        (g : M (Unit {0})) → Grows g → (u v : State) → Near u v → Good (state_behind ((if b then ma >> g else nothing) u))
        → ((u2 : State) → Near u2 v → Good (state_behind (g u2)) → Beside Any (g u2) (goes done v)) → Beside Any ((if b then ma >> g else nothing) u) (goes done v)
    onward pc F o f pcs c false g grow u v m good rest = both_go tt tt u v m tt
    onward pc F o f pcs c true g grow u v m good rest =
        n.follow sight ls Any Whatever Any (ma u) (goes done v) (λ _. g) (λ _. nothing)
        (λ gd. alone F u v (ma u) f m (a.hidden (behind pc) F (turn pc F o) (under_unseen sight.sees pc (owed_by e).labels (sym (known e).seen_is ∙ c)) u m.shaped))
        good (n.out_any sight (ma u)) (λ _. grow) (λ _. grows_nothing)
        (λ y y2 u2 v2 q m2 r p gd. subst (λ w2. Beside Any (g u2) (goes done w2)) (gone_to done y2 v v2 q)
        (rest u2 (subst (λ w2. Near u2 w2) (sym (gone_to done y2 v v2 q)) m2) gd))

    -- a test once more
    tested : (pc : List ℕ) (F : Option ℕ) → WhileOwing pc F → IsSeenFailure sight.sees F → list_all sight.sees pc ≡ true → (z : Value) (v u : State) → run v ≡ goes z v
        → Near u v → (g : Value → M (Unit {0})) → Good (state_behind ((value e >>= g) u)) → ((y : Value) → Grows (g y))
        → ((y : Value) (u2 : State) → Near u2 v → Good (state_behind (g y u2)) → Beside Any (g y u2) (goes done v)) → Beside Any ((value e >>= g) u) (goes done v)
    tested pc F o f pcs z v u again m g good grow rest =
        n.follow sight ls (λ x2 z2. (part e).seen ≡ true → x2 ≡ z2) Whatever Any (value e u) (goes z v) g (λ _. nothing)
        (λ gd. subst (λ q2. Beside (λ x2 z2. (part e).seen ≡ true → x2 ≡ z2) (value e u) q2) again (test_seen pc F o f pcs u v m gd))
        good (n.out_any sight (value e u)) grow (λ _. grows_nothing)
        (λ y z2 u2 v2 q m2 r p gd. subst (λ w2. Beside Any (g y u2) (goes done w2)) (gone_to z z2 v v2 q)
        (rest y u2 (subst (λ w2. Near u2 w2) (sym (gone_to z z2 v v2 q)) m2) gd))

    -- with a test that isn't: the body is hidden, and the test comes out as it did
    turns_rest : (pc : List ℕ) (F : Option ℕ) → WhileOwing pc F → IsSeenFailure sight.sees F → list_all sight.sees pc ≡ true → (part e).seen ≡ false → (k : ℕ)
        (z : Value) (v : State) → run v ≡ goes z v → (s : State) → Near s v → Good (state_behind (turns k (value e) ma s)) → Beside Any (turns k (value e) ma s)
        (goes done v)
    turns_rest pc F o f pcs c zero z v again s m good = out_of_fuel s v nothing grows_nothing m
    turns_rest pc F o f pcs c (suc k) z v again s m good =
        n.follow sight ls Any Whatever Any (charge s) (goes done v) (λ _. value e >>= next k) (λ _. nothing)
        (λ g. n.hidden_beside sight ls Whatever Any ⊥ s v (charge s) tt (λ never. never) m (λ y p. tt) (steps.charge_hidden sight ls ⊥ s m.shaped))
        good (n.out_any sight (charge s)) (λ _. grows_bind (value e) (next k) (value_grows e) (grow_next k)) (λ _. grows_nothing) (λ y y2 u u2 q m2 r p gd.
        subst (λ w2. Beside Any ((value e >>= next k) u) (goes done w2)) (gone_to done y2 v u2 q)
        (tested pc F o f pcs z v u again (subst (λ w2. Near u w2) (sym (gone_to done y2 v u2 q)) m2) (next k) gd (grow_next k)
        (λ x2 u3 m3 gd3. onward pc F o f pcs c (holds x2) (turns k (value e) ma) (grow_turns k) u3 v m3 gd3
        (λ u4 m4 gd4. turns_rest pc F o f pcs c k z v again u4 m4 gd4))))

    turns_first : (pc : List ℕ) (F : Option ℕ) → WhileOwing pc F → IsSeenFailure sight.sees F → list_all sight.sees pc ≡ true → (part e).seen ≡ false → (k : ℕ)
        (s t : State) → Near s t → Good (state_behind (turns k (value e) ma s)) → Beside Any (turns k (value e) ma s) ((charge >> (run >> nothing)) t)
    turns_first pc F o f pcs c zero s t m good = out_of_fuel s t (charge >> (run >> nothing))
        (grows_paid (run >> nothing) (grows_seq run nothing (blank_grows e) grows_nothing)) m
    turns_first pc F o f pcs c (suc k) s t m good =
        paid_seen (value e >>= next k) (run >> nothing) (grows_bind (value e) (next k) (value_grows e) (grow_next k))
        (grows_seq run nothing (blank_grows e) grows_nothing) (λ s1 t1 m1 good1.
        n.follow sight ls (λ v z. (part e).seen ≡ true → v ≡ z) Whatever Any (value e s1) (run t1) (next k) (λ _. nothing) (test_seen pc F o f pcs s1 t1 m1) good1
        (n.out_any sight (value e s1)) (grow_next k) (λ _. grows_nothing)
        (λ x2 z u v q m2 same y gd.
        onward pc F o f pcs c (holds x2) (turns k (value e) ma) (grow_turns k) u v m2 gd
        (λ u4 m4 gd4. turns_rest pc F o f pcs c k z v (((settles_value sight.sees sight.shows sight.program.classes ls e).by t1 z v q).1 v (after_here v)) u4 m4 gd4))) s t m good

    abbrev full_while : M (Unit {0})
    full_while = loop (value e) ma

    abbrev blank_while : M (Unit {0})
    blank_while = if (part e).seen then loop run ka else (charge >> (run >> nothing))

    while_by : (pc : List ℕ) (F : Option ℕ) → WhileOwing pc F → IsSeenFailure sight.sees F → list_all sight.sees pc ≡ true → (s t : State) → Near s t → Good
        (state_behind (full_while s)) → (c : Bool) → (part e).seen ≡ c → Beside Any (full_while s) ((if c then loop run ka else (charge >> (run >> nothing))) t)
    while_by pc F o f pcs s t m good true k = turns_seen pc F o f pcs k s.fuel t.fuel m.trace.fuel s t m good
    while_by pc F o f pcs s t m good false k = turns_first pc F o f pcs k s.fuel s t m good

    turns_hidden : (pc : List ℕ) (F : Option ℕ) → WhileOwing pc F → list_all sight.sees pc ≡ false → (k : ℕ) (s : State) → IsShapedState s → Hides Whatever
        (MayFail sight.sees F) s (turns k (value e) ma s)
    turns_hidden pc F o pcs zero s h = let q = here s h in halted Fuel s q.trace
    turns_hidden pc F o pcs (suc k) s h =
        paid_hidden (MayFail sight.sees F) (value e >>= next k) (λ s1 h1.
        n.hidden_then sight ls Whatever Whatever Whatever (MayFail sight.sees F) s1 (value e s1) (next k)
        ((known e).hidden pc F (split_left _ ((owed_by e).owes pc F) _ o.kept) pcs
        (placed_at false pc (sites_in e) pcs (split_left _ (all_under pc (sites_in e)) _ o.placed)) s1 h1) (n.out_any sight (value e s1))
        (λ v u q z y. choice_hidden (holds v) (MayFail sight.sees F) (ma >> turns k (value e) ma) nothing u
        (seq_hidden (MayFail sight.sees F) ma (turns k (value e) ma) u
        (a.hidden (behind pc) F (turn pc F o) (under_hidden sight.sees pc (owed_by e).labels pcs) u q.shaped) (λ u2 h2. turns_hidden pc F o pcs k u2 h2))
        (went tt u (here u q.shaped) tt))) s h

    while_stands : Stands full_while blank_while while_owes while_sites da ca
    while_stands = record {
      grows = grows_loop (value e) ma (value_grows e) a.grows;
      grows_too = grows_cond (part e).seen (loop run ka) (charge >> (run >> nothing)) (grows_loop run ka (blank_grows e) a.grows_too)
          (grows_paid (run >> nothing) (grows_seq run nothing (blank_grows e) grows_nothing));
      seen = λ pc F o f pcs s t m good. while_by pc F o f pcs s t m good (part e).seen refl;
      hidden = λ pc F o pcs s h. turns_hidden pc F o pcs s.fuel s h;
    }

  -- ---- one after the other

  none_stand : Stands nothing nothing (λ pc F. []) (λ pc. []) [] []
  none_stand = record {
    grows = grows_nothing;
    grows_too = grows_nothing;
    seen = λ pc F o f pcs s t m good. both_go tt tt s t m tt;
    hidden = λ pc F o pcs s h. went tt s (here s h) tt;
  }

  both_stand : (ma ka mb kb : M (Unit {0})) (oa ob2 : List ℕ → Option ℕ → List Owed) (sa sb : List ℕ → Sited) (da db : List Downgrading) (ca cb : List Claim) → Stands
      ma ka oa sa da ca → Stands mb kb ob2 sb db cb
      → Stands (ma >> mb) (ka >> kb) (λ pc F. oa pc F ++ ob2 pc F) (λ pc. sa pc ++ sb pc) (da ++ db) (ca ++ cb)
  both_stand ma ka mb kb oa ob2 sa sb da db ca cb a b = record {
    grows = grows_seq ma mb a.grows b.grows;
    grows_too = grows_seq ka kb a.grows_too b.grows_too;
    seen = λ pc F o f pcs s t m good.
        seq_seen ma ka mb kb b.grows b.grows_too s t m good
        (a.seen pc F (record {
          kept = split_left _ (oa pc F) (ob2 pc F) o.kept;
          placed = split_left _ (sa pc) (sb pc) o.placed;
          turned = split_left _ da db o.turned;
          met = split_left _ ca cb o.met;
        }) f pcs s t m)
        (b.seen pc F (record {
          kept = split_right _ (oa pc F) (ob2 pc F) o.kept;
          placed = split_right _ (sa pc) (sb pc) o.placed;
          turned = split_right _ da db o.turned;
          met = split_right _ ca cb o.met;
        }) f pcs);
    hidden = λ pc F o pcs s h.
        seq_hidden (MayFail sight.sees F) ma mb s
        (a.hidden pc F (record {
          kept = split_left _ (oa pc F) (ob2 pc F) o.kept;
          placed = split_left _ (sa pc) (sb pc) o.placed;
          turned = split_left _ da db o.turned;
          met = split_left _ ca cb o.met;
        }) pcs s h)
        (b.hidden pc F (record {
          kept = split_right _ (oa pc F) (ob2 pc F) o.kept;
          placed = split_right _ (sa pc) (sb pc) o.placed;
          turned = split_right _ da db
              o.turned;
          met = split_right _ ca cb o.met;
        }) pcs);
  }

  -- ---- trees

  abbrev pub full : Statement → M (Unit {0})
  full = statement sight.tid call

  abbrev one : Statement → M (Unit {0})
  one = erase.statement sight.sees sight.shows sight.program.classes ls sight.tid blank

  abbrev owes_of : Statement → List ℕ → Option ℕ → List Owed
  owes_of = ob.statement_owes sight.program.classes sight.program.methods ls authority

  abbrev sites_at : Statement → List ℕ → Sited
  sites_at = sited sight.program.classes ls

  abbrev claims_in : Statement → List Claim
  claims_in = statement_claims sight.program.classes sight.program.methods (kinds_of ls)

  abbrev StandsWhole : Statement → Type 0
  StandsWhole y = Stands (full y) (one y) (owes_of y) (sites_at y) (downgrades_in y) (claims_in y)

  abbrev Known : Type 0
  Known = (y : Statement) × StandsWhole y

  abbrev bare : List Known → List Statement
  bare ks = map (λ (k : Known). k.0) ks

  orders : (ks : List Known) → Stands (in_order (map full (bare ks))) (in_order (map one (bare ks)))
      (ob.in_order sight.program.classes sight.program.methods ls authority (map owes_of (bare ks))) (sites.in_order sight.program.classes ls (map sites_at (bare ks)))
      (agreement.all_of (map downgrades_in (bare ks))) (kinds.all_of sight.program.classes sight.program.methods (kinds_of ls) (map claims_in (bare ks)))
  orders [] = none_stand
  orders (k ∷ ks) = both_stand (full k.0) (one k.0) _ _ (owes_of k.0) _ (sites_at k.0) _ (downgrades_in k.0) _ (claims_in k.0) _ k.1 (orders ks)

  abbrev pieces : s.Statement-F Known → s.Statement-F Statement
  pieces y = map-Statement Known Statement (λ k. k.0) y

  layer : (y : s.Statement-F Known) → Stands (statement_step sight.tid call (map-Statement Statement (M (Unit {0})) full (pieces y)))
      (erase.statement_step sight.sees sight.shows sight.program.classes ls sight.tid blank (map-Statement Statement (M (Unit {0})) one (pieces y)))
      (ob.statement_step sight.program.classes sight.program.methods ls authority
      (map-Statement Statement (ob.Owes sight.program.classes sight.program.methods ls authority) owes_of (pieces y)))
      (statement_sites sight.program.classes ls (map-Statement Statement (List ℕ → Sited) sites_at (pieces y)))
      (downgrade_step (map-Statement Statement (List Downgrading) downgrades_in (pieces y)))
      (statement_claims_step sight.program.classes sight.program.methods (kinds_of ls) (map-Statement Statement (List Claim) claims_in (pieces y)))
  layer (s.Assign i r at) = assigns i r at
  layer (s.Write i field e site) = writes i field e site
  layer (s.Call i es) = call_stands i es
  layer (s.If e a b) = if_stands _ _ _ _ _ _ _ _ _ _ _ _ (orders a) (orders b) e
  layer (s.While e a) = while_stands e _ _ _ _ _ _ (orders a)
  layer (s.Atomic label a b at) = atomic_stands _ _ _ _ _ _ _ _ _ _ _ _ (orders a) (orders b) label.number at
  layer (s.Fail at) = fail_stands at

  pub statements : (y : Statement) → StandsWhole y
  statements = ind-Statement StandsWhole (λ y z is.
      subst (λ p. StandsWhole (roll-Statement p)) is
      (rw (
        fold-roll-Statement (M (Unit {0})) (statement_step sight.tid call) (pieces z),
        fold-roll-Statement (M (Unit {0}))
            (erase.statement_step sight.sees sight.shows sight.program.classes ls sight.tid blank) (pieces z),
        fold-roll-Statement
            (ob.Owes sight.program.classes sight.program.methods ls authority) (ob.statement_step sight.program.classes sight.program.methods ls authority) (pieces z),
        fold-roll-Statement (List ℕ → Sited) (statement_sites sight.program.classes ls) (pieces z),
        fold-roll-Statement (List Downgrading) downgrade_step (pieces z),
        fold-roll-Statement (List Claim) (statement_claims_step sight.program.classes sight.program.methods (kinds_of ls)) (pieces z),
      )
      (layer z)))

  pub blocks : (ys : List Statement) → Stands (in_order (map full ys)) (in_order (map one ys))
      (ob.in_order sight.program.classes sight.program.methods ls authority (map owes_of ys)) (sites.in_order sight.program.classes ls (map sites_at ys))
      (flat_map downgrades_in ys) (kinds.all_of sight.program.classes sight.program.methods (kinds_of ls) (map claims_in ys))
  blocks [] = none_stand
  blocks (y ∷ ys) = both_stand (full y) (one y) _ _ (owes_of y) _ (sites_at y) _ (downgrades_in y) _ (claims_in y) _ (statements y) (blocks ys)
