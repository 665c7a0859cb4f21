-- What it says of each part that a bundle breaks no rule of names and types.
use Rattle.std.proofs.Common.{◌≡◌, true, [], ◌++◌}
use Rattle.std.specs.List.{AllByRecursion, flat_map}
use Rattle.fab_base.proofs.Lists.{left_nil, right_nil, each_nil, all_along, all_two}
use Rattle.fab_tree.specs.declared.declaration.Class.{Class}
use Rattle.fab_tree.specs.declared.declaration.Field.{Field}
use Rattle.fab_tree.specs.declared.program.Parameter.{Parameter}
use Rattle.fab_tree.specs.declared.program.Method.{Method}
use Rattle.fab_tree.specs.declared.start.Root.{Root}
use Rattle.fab_tree.specs.declared.start.RequestText.{RequestText}
use Rattle.fab_tree.specs.declared.start.Session.{Session}
use Rattle.fab_tree.specs.declared.start.Start.{Start}
use Rattle.fab_tree.specs.Limits.{locals_of}
use Rattle.fab_language.specs.Arity as a
use Rattle.fab_language.specs.Arity.{miscounted}
use Rattle.fab_language.specs.Doubled as d
use Rattle.fab_language.specs.Doubled.{repeats, doubled}
use Rattle.fab_language.specs.Faults.{faults}
use Rattle.fab_language.specs.Heads.{Locals, Head, heads_of}
use Rattle.fab_language.specs.Names.{node_name, label_name, class_name, method_name, local_name, root_name}
use Rattle.fab_language.specs.Roles.{misplaced}
use Rattle.fab_language.specs.Types as t
use Rattle.fab_language.specs.Types.{if_so, says_so, mistyped}
use Rattle.fab_language.specs.Unknown as u
use Rattle.fab_language.specs.Unknown.{in_sort, in_label, in_parameter, in_returns, in_principal, in_heading, unknown}
use Rattle.fab_shapes.proofs.Lists.{from_three}
use Rattle.fab_shapes.proofs.Locals.{allowed, IsDeclared}
use Rattle.fab_shapes.proofs.Methods.{HasHeading}
use Rattle.fab_shapes.proofs.Named.{stands_for_itself}
use Rattle.fab_shapes.proofs.Statements.{IsRight, IsFirst}

pub record IsRightMethod (s : Start) (m : Method) : Type 0 where
  pub heading : HasHeading s m
  pub once : AllByRecursion (IsFirst (locals_of m)) (locals_of m)
  pub says : says_so s m.returns m.result ≡ true
  pub heads : AllByRecursion (IsRight s m.returns) (heads_of m)

pub record IsRightRoot (s : Start) (x : Root) : Type 0 where
  pub declared : u.in_root s x ≡ []
  pub counted : a.in_root s x ≡ []
  pub typed : t.in_root s x ≡ []

pub record IsRightRequest (s : Start) (x : RequestText) : Type 0 where
  pub declared : u.in_request s x ≡ []
  pub counted : a.in_request s x ≡ []
  pub typed : t.in_request s x ≡ []

pub record IsFaultless (s : Start) : Type 0 where
  pub classes : AllByRecursion (IsDeclared s) s.program.classes
  pub methods : AllByRecursion (IsRightMethod s) s.program.methods
  pub roots : AllByRecursion (IsRightRoot s) s.roots
  pub sessions : AllByRecursion (λ (x : Session). AllByRecursion (IsRightRequest s) x.requests) s.sessions

module _ (s : Start) where
  class_declared : (c : Class) → u.in_class s c ≡ [] → IsDeclared s c
  class_declared c e = each_nil (λ (f : Field). in_sort s f.sort) c.fields (right_nil (in_label s c.label ++ in_label s c.access) (flat_map (λ (f : Field). in_sort s f.sort) c.fields) e)

  -- ---- methods

  -- what the first two rules say of a method
  record IsNamed (m : Method) : Type 0 where
    names : u.in_method s m ≡ []
    apart : d.in_method m ≡ []

  method_heading : (m : Method) → in_heading s m ≡ [] → HasHeading s m
  method_heading m e =
      let ps = flat_map (in_parameter s) m.parameters in
      let rs = in_returns s m.returns in
      let front = left_nil (ps ++ rs) (in_label s m.begin) (left_nil (ps ++ rs ++ in_label s m.begin) (flat_map (in_principal s) m.authority) e) in
      record {
        parameters = all_along (λ (p : Parameter). in_parameter s p ≡ []) (λ (p : Parameter). in_sort s p.sort ≡ []) (λ p h. left_nil (in_sort s p.sort) (in_label s p.label) h)
            m.parameters (each_nil (in_parameter s) m.parameters (left_nil ps rs front));
        returns = right_nil ps rs front;
      }

  method_right : (m : Method) → IsNamed m → a.in_method s m ≡ [] → t.in_method s m ≡ [] → IsRightMethod s m
  method_right m n c g =
      let unknown_heads = flat_map (λ (h : Locals × Head). u.in_head s h.0 h.1) (heads_of m) in
      let typed_heads = flat_map (λ (h : Locals × Head). t.in_head s h.0 m.returns h.1) (heads_of m) in
      let says = if_so (says_so s m.returns m.result) m.name.at in
      record {
        heading = method_heading m (left_nil (in_heading s m) unknown_heads n.names);
        once = stands_for_itself local_name (locals_of m) n.apart;
        says = allowed (says_so s m.returns m.result) m.name.at (left_nil says typed_heads g);
        heads = from_three (λ (h : Locals × Head). u.in_head s h.0 h.1 ≡ []) (λ (h : Locals × Head). a.in_head s h.1 ≡ []) (λ (h : Locals × Head). t.in_head s h.0 m.returns h.1 ≡ []) (IsRight s m.returns) (heads_of m)
            (λ h p q r. record { declared = p; counted = q; typed = r })
            (each_nil (λ (h : Locals × Head). u.in_head s h.0 h.1) (heads_of m) (right_nil (in_heading s m) unknown_heads n.names))
            (each_nil (λ (h : Locals × Head). a.in_head s h.1) (heads_of m) c)
            (each_nil (λ (h : Locals × Head). t.in_head s h.0 m.returns h.1) (heads_of m) (right_nil says typed_heads g));
      }

  session_right : (x : Session) → u.in_session s x ≡ [] → a.in_session s x ≡ [] → t.in_session s x ≡ [] → AllByRecursion (IsRightRequest s) x.requests
  session_right x e c g =
      from_three (λ (y : RequestText). u.in_request s y ≡ []) (λ (y : RequestText). a.in_request s y ≡ []) (λ (y : RequestText). t.in_request s y ≡ []) (IsRightRequest s) x.requests
      (λ y p q r. record { declared = p; counted = q; typed = r })
      (each_nil (u.in_request s) x.requests (right_nil (in_principal s x.worker) (flat_map (u.in_request s) x.requests) e))
      (each_nil (a.in_request s) x.requests c)
      (each_nil (t.in_request s) x.requests g)

  -- ---- the whole, from what each rule says of each part

  record Unknowns : Type 0 where
    classes : flat_map (u.in_class s) s.program.classes ≡ []
    methods : flat_map (u.in_method s) s.program.methods ≡ []
    roots : flat_map (u.in_root s) s.roots ≡ []
    sessions : flat_map (u.in_session s) s.sessions ≡ []

  unknowns : unknown s ≡ [] → Unknowns
  unknowns e =
      let a = flat_map (u.in_delegation s) s.program.delegations in
      let b = flat_map (u.in_label_text s) s.program.labels in
      let c = flat_map (u.in_class s) s.program.classes in
      let d = flat_map (u.in_method s) s.program.methods in
      let r = flat_map (u.in_root s) s.roots in
      let f = flat_map (u.in_session s) s.sessions in
      let g = flat_map (u.in_post s) s.posts in
      let h = flat_map (u.in_crash s) s.crashes in
      let i = flat_map (u.in_event s) s.schedule in
      let six = left_nil (a ++ b ++ c ++ d ++ r ++ f) g (left_nil (a ++ b ++ c ++ d ++ r ++ f ++ g) h (left_nil (a ++ b ++ c ++ d ++ r ++ f ++ g ++ h) i e)) in
      let five = left_nil (a ++ b ++ c ++ d ++ r) f six in
      let four = left_nil (a ++ b ++ c ++ d) r five in
      record {
        classes = right_nil (a ++ b) c (left_nil (a ++ b ++ c) d four);
        methods = right_nil (a ++ b ++ c) d four;
        roots = right_nil (a ++ b ++ c ++ d) r five;
        sessions = right_nil (a ++ b ++ c ++ d ++ r) f six;
      }

  apart : doubled s ≡ [] → flat_map d.in_method s.program.methods ≡ []
  apart e =
      let front = repeats node_name s.program.nodes ++ repeats label_name s.program.labels ++ repeats class_name s.program.classes ++ flat_map d.in_class s.program.classes ++ repeats method_name s.program.methods in
      let m = flat_map d.in_method s.program.methods in
      let r = repeats root_name s.roots in
      right_nil front m (left_nil (front ++ m) r (left_nil (front ++ m ++ r) _ e))

  pub faultless : faults s ≡ [] → IsFaultless s
  faultless e =
      let four = left_nil (unknown s ++ doubled s ++ misplaced s ++ miscounted s) (mistyped s) e in
      let typed : mistyped s ≡ [] = right_nil (unknown s ++ doubled s ++ misplaced s ++ miscounted s) (mistyped s) e in
      let counted : miscounted s ≡ [] = right_nil (unknown s ++ doubled s ++ misplaced s) (miscounted s) four in
      let two = left_nil (unknown s ++ doubled s) (misplaced s) (left_nil (unknown s ++ doubled s ++ misplaced s) (miscounted s) four) in
      let names = unknowns (left_nil (unknown s) (doubled s) two) in
      let once = apart (right_nil (unknown s) (doubled s) two) in
      let counted_methods = flat_map (a.in_method s) s.program.methods in
      let counted_roots = flat_map (a.in_root s) s.roots in
      let counted_sessions = flat_map (a.in_session s) s.sessions in
      let counted_front = left_nil (counted_methods ++ counted_roots) counted_sessions counted in
      let typed_methods = flat_map (t.in_method s) s.program.methods in
      let typed_roots = flat_map (t.in_root s) s.roots in
      let typed_sessions = flat_map (t.in_session s) s.sessions in
      let typed_front = left_nil (typed_methods ++ typed_roots) typed_sessions typed in
      let named = all_two (λ m. u.in_method s m ≡ []) (λ m. d.in_method m ≡ []) IsNamed (λ m p q. record { names = p; apart = q }) s.program.methods (each_nil (u.in_method s) s.program.methods names.methods) (each_nil d.in_method s.program.methods once) in
      record {
        classes = all_along (λ c. u.in_class s c ≡ []) (IsDeclared s) class_declared s.program.classes (each_nil (u.in_class s) s.program.classes names.classes);
        methods = from_three IsNamed (λ m. a.in_method s m ≡ []) (λ m. t.in_method s m ≡ []) (IsRightMethod s) s.program.methods method_right named
            (each_nil (a.in_method s) s.program.methods (left_nil counted_methods counted_roots counted_front))
            (each_nil (t.in_method s) s.program.methods (left_nil typed_methods typed_roots typed_front));
        roots = from_three (λ x. u.in_root s x ≡ []) (λ x. a.in_root s x ≡ []) (λ x. t.in_root s x ≡ []) (IsRightRoot s) s.roots (λ x p q r. record { declared = p; counted = q; typed = r })
            (each_nil (u.in_root s) s.roots names.roots)
            (each_nil (a.in_root s) s.roots (right_nil counted_methods counted_roots counted_front))
            (each_nil (t.in_root s) s.roots (right_nil typed_methods typed_roots typed_front));
        sessions = from_three (λ x. u.in_session s x ≡ []) (λ x. a.in_session s x ≡ []) (λ x. t.in_session s x ≡ []) (λ (x : Session). AllByRecursion (IsRightRequest s) x.requests) s.sessions session_right
            (each_nil (u.in_session s) s.sessions names.sessions)
            (each_nil (a.in_session s) s.sessions (right_nil (counted_methods ++ counted_roots) counted_sessions counted))
            (each_nil (t.in_session s) s.sessions (right_nil (typed_methods ++ typed_roots) typed_sessions typed));
      }
