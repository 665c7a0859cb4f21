-- Worked examples of what is in view of a run, and of sites at which objects are asked for.
use Rattle.std.proofs.Common.{◌≡◌, ℕ, List, [], ◌∷◌, Option, Some, None, Bool, true, false, ◌==◌, codes, refl, sym, ap, ◌∙◌, subst, true≢false}
use Rattle.std.specs.List.{AllByRecursion}
use Rattle.fab_base.specs.declared.object.Oid.{Oid}
use Rattle.fab_base.specs.declared.object.Object.{Object}
use Rattle.fab_base.specs.declared.object.Value.{Value}
use Rattle.fab_base.specs.FlatMap.{FlatMap}
use Rattle.fab_tree.specs.declared.name.Name.{Name}
use Rattle.fab_tree.specs.declared.resolved.Use.{Use}
use Rattle.fab_tree.specs.declared.resolved.Sort.TheVariants as sorts
use Rattle.fab_tree.specs.declared.resolved.Local.{Local}
use Rattle.fab_tree.specs.declared.resolved.Class.{Class}
use Rattle.fab_tree.specs.declared.resolved.Expression.{Expression, fold-roll-Expression}
use Rattle.fab_tree.specs.declared.resolved.Form.{roll-Form, fold-roll-Form}
use Rattle.fab_tree.specs.declared.resolved.Form.TheOpen as f
use Rattle.fab_tree.specs.declared.resolved.Method.{Method}
use Rattle.fab_tree.specs.declared.resolved.Request.{Request}
use Rattle.fab_tree.specs.declared.resolved.Resolved.{Resolved}
use Rattle.fab_labelling.specs.Obligations as ob
use Rattle.fab_labelling.specs.Obligations.{Owed, Tail, conf, owe, owed}
use Rattle.fab_labelling.specs.declared.rule.LabelRule.TheVariants.{Access}
use Rattle.fab_labelling.specs.Sites.{sites_in, form_sites, sites_of}
use Rattle.fab_language.specs.declared.ending.Ending.TheVariants.{Ended, Failed, Missing}
use Rattle.fab_language.specs.Meaning.{Meant}
use Rattle.fab_language.proofs.Forms.{expression_at}
use Rattle.fab_erasure.specs.Agreement.{in_view, touches_in_view}
use Rattle.fab_fewer.specs.Asking.{IsKeptByAccess, LearnsAsking, AsksInView}
use Rattle.fab_fewer.specs.Fewer.{AreKnown}
use Rattle.fab_fewer.specs.InPart.{IsSameInView, AgreesInPart, GrowsInView}
use Rattle.fab_laws.proofs.Touches.{none_one, known_one}

-- label 0 is seen, and so is class 0
abbrev sees : ℕ → Bool
sees n = n == 0

abbrev name : Name
name = record { text = codes "x"; at = 0 }

abbrev used : ℕ → Use
used n = record { number = n; at = 0 }

abbrev program : List Class → List Method → Resolved
program classes methods = record {
  nodes = [];
  pairs = [];
  labels = [];
  classes = classes;
  methods = methods;
  roots = [];
  sessions = [];
  posts = [];
  crashes = [];
  cache = 0;
  schedule = [];
}

abbrev empty : Resolved
empty = program [] []

abbrev request : Request
request = record { worker = 3; number = 7; method = 0; args = [] }

abbrev oid : ℕ → ℕ → Oid
oid class number = record { store = 0; class = class; worker = 0; boot = 0; number = number; site = 0; index = 0 }

-- ---- an object of class 0 was touched, one of class 1, which was written, and another of class 0

abbrev an_object : Object
an_object = record { class = 0; fields = [] }

abbrev full : Meant
full = record {
  ending = Ended None;
  map = [];
  written = oid 1 2 ∷ [];
  made = [];
  touches = (3, oid 0 1) ∷ (4, oid 1 2) ∷ (5, oid 0 3) ∷ [];
  downs = [];
}

two_touches : touches_in_view sees sees empty full ≡ (3, oid 0 1) ∷ (5, oid 0 3) ∷ []
two_touches = refl

abbrev both_known : FlatMap
both_known = (oid 0 1, an_object) ∷ (oid 0 3, an_object) ∷ []

abbrev one_known : FlatMap
one_known = (oid 0 1, an_object) ∷ []

abbrev whole : Meant
whole = record { ending = Ended None; map = []; written = []; made = []; touches = (3, oid 0 1) ∷ (5, oid 0 3) ∷ []; downs = [] }

-- what isn't shown is neither touched nor written
same_in_view : IsSameInView sees sees empty full whole
same_in_view = record { touches = refl; downs = refl; written = refl; made = refl; names = refl; objects = λ o s i. refl }

ended_one : (v w : Option Value) → Ended v ≡ Ended w → v ≡ w
ended_one v w e = cc

ended_missing : (v : Option Value) (site : ℕ) (o : Oid) → Ended v ≡ Missing site o → ⊥
ended_missing v site o e = cc

ended_failed : (v : Option Value) → Ended v ≡ Failed → ⊥
ended_failed v e = cc

agrees : AgreesInPart sees sees empty request full both_known whole
agrees = record {
  goes = λ before site o after e w z.
      absurd (none_one both_known o z (known_one both_known (touches_in_view sees sees empty full) before (site, o) after e ((an_object, refl), ((an_object, refl), tt))));
  misses = λ w site o e. absurd (ended_missing None site o e);
  ends = λ w b v e. ap Ended (ap (λ x. blanked x) (ended_one None v e));
  fails = λ w b e. absurd (ended_failed None e);
  same = λ w s. same_in_view;
  ascending = λ w s up. refl;
  skips = λ b. absurd (true≢false b);
}
  where
    blanked : Option Value → Option Value
    blanked None = None
    blanked (Some v) = Some v

-- over the first alone it must lack the second
missing_site : (site other : ℕ) (o p : Oid) → Missing site o ≡ Missing other p → site ≡ other
missing_site site other o p e = cc

one_is_known : AreKnown one_known ((3, oid 0 1) ∷ [])
one_is_known = ((an_object, refl), tt)

not_the_whole : AgreesInPart sees sees empty request full one_known whole → ⊥
not_the_whole h = ended_missing None 5 (oid 0 3) (h.goes ((3, oid 0 1) ∷ []) 5 (oid 0 3) [] refl one_is_known refl).0

not_the_hidden_one : AgreesInPart sees sees empty request full one_known (record whole { ending = Missing 4 (oid 1 2); touches = (3, oid 0 1) ∷ [] }) → ⊥
not_the_hidden_one h = apart (missing_site 4 5 (oid 1 2) (oid 0 3) (h.goes ((3, oid 0 1) ∷ []) 5 (oid 0 3) [] refl one_is_known refl).0)
  where
    apart : ◌≡◌ {A = ℕ} 4 5 → ⊥
    apart e = cc

-- ---- what grows

abbrev touching : List (ℕ × Oid) → Meant
touching touches = record whole { touches = touches }

-- what isn't shown may come out otherwise
grows : GrowsInView sees sees empty (touching ((3, oid 0 1) ∷ (4, oid 1 2) ∷ [])) (touching ((3, oid 0 1) ∷ (5, oid 0 3) ∷ []))
grows = record { touches = record { rest = (5, oid 0 3) ∷ []; is = refl }; downs = record { rest = []; is = refl } }

starts_elsewhere : GrowsInView sees sees empty (touching ((3, oid 0 1) ∷ [])) (touching ((5, oid 0 3) ∷ [])) → ⊥
starts_elsewhere h = apart h.touches.rest h.touches.is
  where
    apart : (rest : List (ℕ × Oid)) → (3, oid 0 1) ∷ rest ≡ (5, oid 0 3) ∷ [] → ⊥
    apart rest e = unlike (ap (λ ts. first_site ts) e)
      where
        first_site : List (ℕ × Oid) → ℕ
        first_site [] = 0
        first_site (t ∷ ts) = t.0

        unlike : ◌≡◌ {A = ℕ} 3 5 → ⊥
        unlike e = cc

-- ---- `return x.n;` in a method that begins under a label, at site 7; the class has the access label 0

abbrev a_class : Class
a_class = record { name = name; label = used 0; access = used 0; fields = [] }

abbrev a_local : Local
a_local = record { sort = sorts.Class (used 0); name = name; label = used 0 }

abbrev read : Expression
read = expression_at 0 (f.Read (used 0) 0 7)

abbrev begun : ℕ → Method
begun label = record {
  name = name;
  parameters = 1;
  locals = a_local ∷ [];
  returns = None;
  begin = used label;
  fails = false;
  authority = [];
  body = [];
  result = Some (record { value = read; at = 0 });
}

abbrev beginning : ℕ → Resolved
beginning label = program (a_class ∷ []) (begun label ∷ [])

read_sites : sites_in read ≡ 7 ∷ []
read_sites =
    fold-roll-Expression (List ℕ) (List ℕ) (List ℕ) form_sites (λ e. e.form) (λ u. u.operand) (record { form = roll-Form (f.Read (used 0) 0 7); at = 0 })
    ∙ fold-roll-Form (List ℕ) (List ℕ) (List ℕ) form_sites (λ e. e.form) (λ u. u.operand) (f.Read (used 0) 0 7)

all_sites : (label : ℕ) → sites_of (beginning label) ≡ (7, label ∷ []) ∷ []
all_sites label = rw read_sites refl

seen_site : in_view sees sees (beginning 0) 7 ≡ true
seen_site = rw read_sites refl

unseen_site : in_view sees sees (beginning 1) 7 ≡ false
unseen_site = rw read_sites refl

-- an object of that class may be touched at a site in view, and not at another
abbrev at_site : Meant
at_site = touching ((7, oid 0 1) ∷ [])

not_out_of_view : AsksInView sees sees (beginning 1) at_site → ⊥
not_out_of_view h = true≢false (sym (h.touches.0 refl) ∙ unseen_site)

-- so such a program isn't one that keeps what it owes
read_owes : ob.part (a_class ∷ []) (a_local ∷ []) read ≡ ob.form_step (a_class ∷ []) (a_local ∷ []) (f.Read (used 0) 0 7)
read_owes =
    fold-roll-Expression ob.Part ob.Part Tail (ob.form_step (a_class ∷ []) (a_local ∷ [])) (λ e. e.form)
    (λ u. record { operator = u.operator; at = u.at; part = u.operand }) (record { form = roll-Form (f.Read (used 0) 0 7); at = 0 })
    ∙ fold-roll-Form ob.Part ob.Part Tail (ob.form_step (a_class ∷ []) (a_local ∷ [])) (λ e. e.form)
    (λ u. record { operator = u.operator; at = u.at; part = u.operand }) (f.Read (used 0) 0 7)

abbrev Kept : ℕ → Owed → Type 0
Kept label x = IsKeptByAccess sees sees (beginning label) x.claim

first_kept : (label : ℕ) → AllByRecursion (Kept label) (owed (beginning label)) → Kept label (owe Access 0 (conf label 0))
first_kept label h = (subst (AllByRecursion (Kept label)) is h).0
  where
    is : owed (beginning label) ≡ (ob.form_step (a_class ∷ []) (a_local ∷ []) (f.Read (used 0) 0 7)).owes (label ∷ []) None
    is = rw read_owes refl

not_learned : LearnsAsking sees sees (beginning 1) → ⊥
not_learned h = true≢false (sym (first_kept 1 h.kept refl))
