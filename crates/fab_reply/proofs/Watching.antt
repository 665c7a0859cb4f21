-- The nodes that a command names, with the hostile ones.
use Rattle.std.proofs.Common.{◌≡◌, ℕ, zero, suc, ◌<◌, ◌≤◌, ◌||◌, Bool, true, false, cond, max, bit_or, IsTrue, List, [], length, Option, Some, None, IsSomeAnd, refl, sym, ap, ◌∙◌, subst, arith, true≢false}
use Rattle.std.specs.Int.{bit_at}
use Rattle.std.specs.Prelude.{option_map, unwrap_or}
use Rattle.std.proofs.lemmas.Nat.Bits.{bit_at-lt, bit_at_or}
use Rattle.fab_authority.proofs.Deciding.{bit_is_set, set_is_bit}
use Rattle.fab_tree.specs.declared.start.Start.{Start}
use Rattle.fab_tree.specs.declared.declaration.Role.{Role}
use Rattle.fab_tree.specs.declared.declaration.Role.TheVariants as roles
use Rattle.fab_language.specs.Names.{is_hostile, is_store, is_worker}
use Rattle.fab_language.specs.Numbers.{resolved}
use Rattle.fab_labelling.specs.Placement.{role_of}
use Rattle.fab_rights.specs.declared.rights.Rights.{Rights}
use Rattle.fab_rights.specs.Computed.{has_bit}
use Rattle.fab_rights.proofs.Bits.{bit_below, has_bit_exact}
use Rattle.fab_settings.specs.Settings.{IsAcceptedWith, is_hostile_node}
use Rattle.std.proofs.lemmas.List.{length-map}
use Rattle.fab_command.specs.declared.command.Command.{Command}
use Rattle.fab_command.specs.declared.command.Command.TheVariants.{Run, Trust, View}
use Rattle.fab_command.specs.declared.command.Telling.{Telling}
use Rattle.fab_command.specs.declared.command.Telling.TheVariants as telling
use Rattle.fab_base.specs.declared.object.Oid.{Oid}
use Rattle.fab_tree.specs.declared.resolved.Resolved.{Resolved}
use Rattle.fab_tree.specs.Limits.{first_passed}
use Rattle.fab_language.specs.Faults.{faults}
use Rattle.fab_flows.proofs.Declared.{has_principals}
use Rattle.fab_front.specs.Named.{are_node_names, is_named}
use Rattle.fab_front.specs.Readable.{IsReadable}
use Rattle.fab_front.specs.Refused.{AsksLabels, HasReadable, LacksName}
use Rattle.fab_reads.specs.declared.reading.Reading.{Reading}
use Rattle.fab_replay.specs.Reading.{IsReadingOf}
use Rattle.fab_replay.specs.declared.replayed.Told.TheVariants as told
use Rattle.fab_release.specs.Bundles.{public_part}
use Rattle.fab_tree.proofs.Within.{is_within}
use Rattle.fab_views.specs.Views.{IsSeenBy}
use Rattle.fab_views.proofs.Declared.{class_label_declared}
use Rattle.fab_replay.specs.declared.replayed.Wanted.{Wanted}
use Rattle.fab_replay.specs.declared.replayed.Wanted.TheVariants.{Report, Run as ByNodes, Trust as Trusted, View as Viewed}
use Rattle.fab_replay.specs.Replays.{IsReady}
use Rattle.fab_replay.specs.View.{CanBeSeen, IsViewInto}
use Rattle.fab_trusted.specs.Robust.{IsRobust}
use Rattle.fab_trusted.specs.Trusts.{IsTrustedBy}
use Rattle.fab_replay.specs.Trusted.{IsTrustIn}
use Rattle.fab_reply.specs.Replays.{AreNamed, IsSetOf, Wants, given_of}

-- hostile nodes are workers and stores, so their numbers are below 64
pub hostile_below : (s : Start) (rights : Rights) → IsAcceptedWith s rights → (n : ℕ) → is_hostile_node (resolved s) n ≡ true → n < 64
hostile_below s rights accepted n h = by (role_of (resolved s) n) refl
  where
    by : (o : Option Role) → role_of (resolved s) n ≡ o → n < 64
    by None e = absurd (let f : false ≡ true = ap (λ x. unwrap_or (option_map is_hostile x) false) (sym e) ∙ h in cc)
    by (Some roles.Principal) e = absurd (let f : false ≡ true = ap (λ x. unwrap_or (option_map is_hostile x) false) (sym e) ∙ h in cc)
    by (Some (roles.Worker b)) e =
        bit_below rights.workers n accepted.workers
        ((accepted.rights_are.workers n).1 (subst (λ x. IsSomeAnd x (λ y. IsTrue (is_worker y))) (sym e) refl))
    by (Some (roles.Store b)) e =
        bit_below rights.stores n accepted.stores
        ((accepted.rights_are.stores n).1 (subst (λ x. IsSomeAnd x (λ y. IsTrue (is_store y))) (sym e) refl))

-- ---- two masks together

has_one : (m n : ℕ) (b : Bool) → has_bit m n ≡ b → bit_at m n ≡ cond b 1 0
has_one m n true e = set_is_bit m n ((has_bit_exact m n).0 e)
has_one m n false e = none (bit_at m n) refl (bit_at-lt m n)
  where
    none : (k : ℕ) → bit_at m n ≡ k → k < 2 → bit_at m n ≡ 0
    none zero is low = is
    none (suc zero) is low = absurd (true≢false (sym ((has_bit_exact m n).1 (bit_is_set m n is)) ∙ e))
    none (suc (suc k)) is low = absurd (omega (arith, low))

is_one : (m n : ℕ) (b : Bool) → bit_at m n ≡ cond b 1 0 → has_bit m n ≡ b
is_one m n true e = (has_bit_exact m n).1 (bit_is_set m n e)
is_one m n false e = by (has_bit m n) refl
  where
    by : (b : Bool) → has_bit m n ≡ b → has_bit m n ≡ false
    by false p = p
    by true p = let one = has_one m n true p in absurd (omega (arith, one, e))

pub has_or : (a b n : ℕ) → has_bit (bit_or a b) n ≡ (has_bit a n || has_bit b n)
has_or a b n = by (has_bit a n) (has_bit b n) refl refl
  where
    both : (x y : Bool) → max (cond x 1 0) (cond y 1 0) ≡ cond (x || y) 1 0
    both true true = omega arith
    both true false = omega arith
    both false true = omega arith
    both false false = omega arith

    by : (x y : Bool) → has_bit a n ≡ x → has_bit b n ≡ y → has_bit (bit_or a b) n ≡ (has_bit a n || has_bit b n)
    by x y e f =
        is_one (bit_or a b) n (x || y) (bit_at_or a b n ∙ ap (λ i. max i (bit_at b n)) (has_one a n x e) ∙ ap (max (cond x 1 0)) (has_one b n y f) ∙ both x y)
        ∙ sym (ap (λ z. z || has_bit b n) e ∙ ap (λ z. x || z) f)

-- ---- the set of a command

pub named_set : (s : Start) (program : Resolved) (names found : List (List ℕ)) (named hostile : ℕ) → program ≡ resolved s → found ≡ names → are_node_names program found ≡ true
    → ((n : ℕ) → n < 64 → has_bit named n ≡ is_named program found n) → ((n : ℕ) → n < 64 → has_bit hostile n ≡ is_hostile_node program n)
    → AreNamed s names (bit_or named hostile)
named_set s program names found named hostile is same all those others = record {
  names_are = ap (λ ns. are_node_names (resolved s) ns) (sym same) ∙ ap (λ (p : Resolved). are_node_names p found) (sym is) ∙ all;
  nodes_are = λ n l.
      has_or named hostile n
      ∙ ap (λ b. b || has_bit hostile n) (those n l ∙ ap (λ (p : Resolved). is_named p found n) is ∙ ap (λ ns. is_named (resolved s) ns n) same)
      ∙ ap (λ b. is_named (resolved s) names n || b) (others n l ∙ ap (λ (p : Resolved). is_hostile_node p n) is);
}

-- a bundle within the limits whose names are right can be seen
pub can_be_seen : (s : Start) (r : Resolved) → first_passed s ≡ None → faults s ≡ [] → r ≡ resolved s → CanBeSeen r
can_be_seen s r within right is =
    let limits = is_within s within in
    let labels : length (resolved s).labels ≡ length s.program.labels = length-map s.program.labels _ in
    let classes : length (resolved s).classes ≡ length s.program.classes = length-map s.program.classes _ in
    let few_labels : length s.program.labels ≤ 64 = limits.labels in
    let few_classes : length s.program.classes ≤ 64 = limits.classes in
    subst CanBeSeen (sym is)
    (record {
      principals = has_principals s within right;
      labels = omega (arith, labels, few_labels);
      classes = omega (arith, classes, few_classes);
      declared = class_label_declared s right;
    })

either_true : (b : Bool) → (b || true) ≡ true
either_true true = refl
either_true false = refl

-- the hostile nodes are in the set of a command
pub hostile_in : (s : Start) (rights : Rights) (names : List (List ℕ)) (nodes : ℕ) → IsAcceptedWith s rights → AreNamed s names nodes → (n : ℕ) → is_hostile_node (resolved s) n ≡ true → has_bit nodes n ≡ true
hostile_in s rights names nodes accepted named n hostile =
    named.nodes_are n (hostile_below s rights accepted n hostile) ∙ ap (λ b. is_named (resolved s) names n || b) hostile ∙ either_true (is_named (resolved s) names n)

-- what is wanted of its runs is ready
pub ready_view : (s : Start) (command : Command) (names : List (List ℕ)) (set : ℕ) (program : Resolved) (w : Wanted) → program ≡ resolved s → command ≡ View names → IsSetOf s command set
    → IsViewInto program set w → Wants s command w × ((rights : Rights) → IsAcceptedWith s rights → IsReady (given_of s rights) w)
ready_view s command names set program Report is of h v = absurd v
ready_view s command names set program (ByNodes x) is of h v = absurd v
ready_view s command names set program (Viewed nodes seen part) is of h v =
    let named : AreNamed s names nodes = subst (AreNamed s names) (sym v.nodes_are) (let k = subst (λ c. IsSetOf s c set) of h in k) in (
      subst (λ c. Wants s c (Viewed nodes seen part)) (sym of) named,
      λ rights accepted. record {
        sees = record {
          hostile = hostile_in s rights names nodes accepted named;
          seen = subst (λ (p : Resolved). IsSeenBy p nodes (has_bit seen.labels) (has_bit seen.classes)) is
              (subst (λ m. IsSeenBy program m (has_bit seen.labels) (has_bit seen.classes)) (sym v.nodes_are) v.sees);
        };
        part_is = v.part_is ∙ ap (public_part (has_bit seen.labels) (has_bit seen.classes)) is;
      },
    )
ready_view s command names set program (Trusted nodes part) is of h v = absurd v

pub ready_trust : (s : Start) (command : Command) (names : List (List ℕ)) (set : ℕ) (program : Resolved) (w : Wanted) → program ≡ resolved s → command ≡ Trust names → IsSetOf s command set
    → IsRobust (resolved s) → IsTrustIn program set w → Wants s command w × ((rights : Rights) → IsAcceptedWith s rights → IsReady (given_of s rights) w)
ready_trust s command names set program Report is of h robust v = absurd v
ready_trust s command names set program (ByNodes x) is of h robust v = absurd v
ready_trust s command names set program (Viewed nodes seen part) is of h robust v = absurd v
ready_trust s command names set program (Trusted nodes part) is of h robust v =
    let named : AreNamed s names nodes = subst (AreNamed s names) (sym v.nodes_are) (let k = subst (λ c. IsSetOf s c set) of h in k) in
    let trusts : IsTrustedBy (resolved s) nodes (has_bit part.labels) (has_bit part.classes) =
    subst (λ (p : Resolved). IsTrustedBy p nodes (has_bit part.labels) (has_bit part.classes)) is
    (subst (λ m. IsTrustedBy program m (has_bit part.labels) (has_bit part.classes)) (sym v.nodes_are) v.trusts) in (
      subst (λ c. Wants s c (Trusted nodes part)) (sym of) (record { named = named; robust = robust; trusts = trusts }),
      λ rights accepted. record { hostile = hostile_in s rights names nodes accepted named; trusted = trusts },
    )

-- ---- what is read beside a run

module _ (s : Start) (program : Resolved) (is : program ≡ resolved s) (root : List ℕ) (times : ℕ) where
  pub set_unread : (x : Telling) → x ≡ telling.Reads root times → ((oid : Oid) → IsReadable program root oid → ⊥) → LacksName (Run x) s
  set_unread x of none = subst (λ y. LacksName (Run y) s) (sym of) (λ k. none k.0 (subst (λ (r : Resolved). IsReadable r root k.0) (sym is) k.1))

  -- what is wanted of its runs is ready
  pub ready_read : (x : Telling) (reading : Reading) (counts : List ℕ) → x ≡ telling.Reads root times → IsReadingOf program root times reading
      → Wants s (Run x) (ByNodes (told.Reads reading counts)) × ((rights : Rights) → IsAcceptedWith s rights → IsReady (given_of s rights) (ByNodes (told.Reads reading counts)))
  ready_read x reading counts of h =
      (subst (λ y. Wants s (Run y) (ByNodes (told.Reads reading counts))) (sym of) (subst (λ (r : Resolved). IsReadingOf r root times reading) is h), λ rights accepted. tt)

  pub not_unread : {A : Type 0} (x : Telling) → x ≡ telling.Reads root times → AsksLabels (Run x) s → ((oid : Oid) → IsReadable program root oid → ⊥) → A
  not_unread x of asks none =
      let k : HasReadable s root = subst (λ y. AsksLabels (Run y) s) of asks in
      absurd (none k.0 (subst (λ (r : Resolved). IsReadable r root k.0) (sym is) k.1))
