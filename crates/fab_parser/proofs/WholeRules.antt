-- Where a list of declarations is refused, what stands before is no whole program.
use Rattle.std.proofs.Common.{◌≡◌, ◌-◌, ℕ, Bool, true, false, not, ◌&&◌, IsTrue, List, [], ◌∷◌, ◌++◌, length, take, refl, sym, ap, ◌∙◌, subst, append_assoc, append-nil, length-append, arith}
use Rattle.std.proofs.Math.Seq.{take-append_seam}
use Rattle.fab_base.specs.declared.token.Mark.TheVariants as m
use Rattle.fab_base.specs.declared.token.Kind.{Kind}
use Rattle.fab_base.specs.declared.token.Kind.TheVariants as k
use Rattle.fab_base.specs.declared.token.Token.{Token}
use Rattle.fab_tree.specs.declared.name.Name.{Name}
use Rattle.fab_tree.specs.declared.declaration.Role.TheVariants as r
use Rattle.fab_tree.specs.declared.declaration.Node.{Node}
use Rattle.fab_tree.specs.declared.declaration.Delegation.{Delegation}
use Rattle.fab_tree.specs.declared.declaration.LabelText.{LabelText}
use Rattle.fab_tree.specs.declared.declaration.Class.{Class}
use Rattle.fab_tree.specs.declared.program.Method.{Method}
use Rattle.fab_tree.specs.declared.program.Program.{Program}
use Rattle.fab_tree.specs.Lists.{is, name, Repeated, no_more, one_more, without, none}
use Rattle.fab_tree.specs.Declarations.{worker, store, principal, honest, hostile, IsNode, node, IsDelegation, delegation, IsLabel, label, IsClass, class}
use Rattle.fab_tree.specs.Programs.{safe, nobody, no_result, IsMethod, method, IsProgram}
use Rattle.fab_reading.specs.declared.refusal.Refusal.{Refusal}
use Rattle.fab_reading.specs.declared.refusal.Refusal.TheVariants as refusal
use Rattle.fab_reading.specs.Reading.{SameHead, Follows, Stops, any, begins_node, begins_name, begins_label, begins_class, begins_method, behind_list}
use Rattle.fab_reading.proofs.Rules.{Then, Going, token_of, never}
use Rattle.fab_parser.specs.Pieces.{after_program}
use Rattle.fab_parser.specs.Texts.{NoneYet}
use Rattle.fab_parser.proofs.LongerTexts.{longer_repeated, longer_node, longer_delegation, longer_label, longer_class, longer_method}

-- ---- a text that begins with a token

abbrev a_name : Token
a_name = record { kind = k.Name []; at = 0; end = 0 }

abbrev no_letters : Name
no_letters = record { text = []; at = 0 }

node_from : (t : Token) (x : Kind) → t.kind ≡ x → IsTrue (begins_node x) → (more : List Token) × (v : Node) × IsNode (t ∷ more) v []
node_from t (k.Fixed m.Principal) e h = (a_name ∷ token_of m.Semicolon ∷ [], record { role = r.Principal; name = no_letters }, node (principal (is e)) (name refl) (is refl))
node_from t (k.Fixed m.Worker) e h = (a_name ∷ token_of m.Semicolon ∷ [], record { role = r.Worker false; name = no_letters }, node (honest (worker (is e))) (name refl) (is refl))
node_from t (k.Fixed m.Store) e h = (a_name ∷ token_of m.Semicolon ∷ [], record { role = r.Store false; name = no_letters }, node (honest (store (is e))) (name refl) (is refl))
node_from t (k.Fixed m.Hostile) e h = (token_of m.Worker ∷ a_name ∷ token_of m.Semicolon ∷ [], record { role = r.Worker true; name = no_letters }, node (hostile (is e) (worker (is refl))) (name refl) (is refl))
node_from t _ e h = absurd (never h)

delegation_from : (t : Token) (x : Kind) → t.kind ≡ x → IsTrue (begins_name x) → (more : List Token) × (v : Delegation) × IsDelegation (t ∷ more) v []
delegation_from t (k.Name y) e h = (token_of m.ActsFor ∷ a_name ∷ token_of m.Semicolon ∷ [], record { actor = record { text = y; at = t.at }; principal = no_letters }, delegation (name e) (is refl) (name refl) (is refl))
delegation_from t _ e h = absurd (never h)

label_from : (t : Token) (x : Kind) → t.kind ≡ x → IsTrue (begins_label x) → (more : List Token) × (v : LabelText) × IsLabel (t ∷ more) v []
label_from t (k.Fixed m.Label) e h = (a_name ∷ token_of m.Equal ∷ token_of m.LeftBrace ∷ token_of m.RightBrace ∷ token_of m.Semicolon ∷ [], record { name = no_letters; policies = [] }, label (is e) (name refl) (is refl) (is refl) none (is refl) (is refl))
label_from t _ e h = absurd (never h)

class_from : (t : Token) (x : Kind) → t.kind ≡ x → IsTrue (begins_class x) → (more : List Token) × (v : Class) × IsClass (t ∷ more) v []
class_from t (k.Fixed m.Class) e h = (a_name ∷ token_of m.Label ∷ a_name ∷ token_of m.Access ∷ a_name ∷ token_of m.LeftBrace ∷ token_of m.RightBrace ∷ [], record { name = no_letters; label = no_letters; access = no_letters; fields = [] }, class (is e) (name refl) (is refl) (name refl) (is refl) (name refl) (is refl) no_more (is refl))
class_from t _ e h = absurd (never h)

method_from : (t : Token) (x : Kind) → t.kind ≡ x → IsTrue (begins_method x) → (more : List Token) × (v : Method) × IsMethod (t ∷ more) v []
method_from t (k.Fixed m.Method) e h = (a_name ∷ token_of m.LeftParen ∷ token_of m.RightParen ∷ token_of m.Begin ∷ a_name ∷ token_of m.LeftBrace ∷ token_of m.RightBrace ∷ [], _, method (is e) (name refl) (is refl) none (is refl) without (is refl) (name refl) safe nobody (is refl) no_more no_result (is refl))
method_from t _ e h = absurd (never h)

-- ---- behind a whole program no list is refused

pub taken : (a front back : List Token) (n : ℕ) → a ≡ front ++ back → length back ≡ n → take (length a - n) a ≡ front
taken a front back n cut e =
    let l : length a ≡ length (front ++ back) = ap length cut in
    let j : length a - n ≡ length front = omega (arith, l, length-append front back, e) in
    ap (λ x. take x a) j ∙ ap (take (length front)) cut ∙ take-append_seam front back

module _ {A : Type 0} (P : List Token → A → List Token → Type 0) (first : Kind → Bool) (longer : (c a : List Token) (t : A) (b : List Token) → P a t b → P (a ++ c) t (b ++ c)) (from : (t : Token) → IsTrue (first t.kind) → (more : List Token) × (v : A) × P (t ∷ more) v []) where
  in_a_row : (c d : List Token) (w : List A) {a : List Token} {v : List A} {b : List Token} → Repeated P a v b → Repeated P (b ++ c) w d → Repeated P (a ++ c) (v ++ w) d
  in_a_row c d w no_more s = s
  in_a_row c d w (one_more p q) s = one_more (longer c _ _ _ p) (in_a_row c d w q s)

  unfinished : (q back : List Token) → ((more : List Token) → SameHead back more → (v : List A) (after : List Token) → Repeated P (q ++ more) v after → Follows (behind_list first any) after → ⊥) → (v : List A) (mid : List Token) → Repeated P q v mid → Follows (behind_list first any) mid → ⊥
  unfinished q [] bad v mid d h = bad [] tt v mid (subst (λ x. Repeated P x v mid) (sym (append-nil q)) d) h
  unfinished q (u ∷ us) bad v (t ∷ mid) d h = bad (u ∷ us) refl v (t ∷ (mid ++ (u ∷ us))) (longer_repeated (u ∷ us) (longer (u ∷ us)) d) h
  unfinished q (u ∷ us) bad v [] d h = at_end (first u.kind) refl
    where
      at_end : (y : Bool) → first u.kind ≡ y → ⊥
      at_end true e = let x = from u e in bad (u ∷ x.0) refl (v ++ (x.1 ∷ [])) [] (in_a_row (u ∷ x.0) [] (x.1 ∷ []) d (one_more x.2 no_more)) tt
      at_end false e = bad (u ∷ us) refl v (u ∷ us) (longer_repeated (u ∷ us) (longer (u ∷ us)) d) (subst (λ z. IsTrue (not z && true)) (sym e) refl)

  module _ {C : Type 0} {Q : List Token → C → List Token → Type 0} {room left : ℕ} {a b : List Token} {f : List A × C → Program} (g : Going IsProgram after_program room a (Then (Repeated P) Q) f left b) (meets : (more : List Token) (v : C) (after : List Token) → Q more v after → Follows after_program after → Follows (behind_list first any) more) where
    no_whole : (q back : List Token) → b ≡ q ++ back → ((more : List Token) → SameHead back more → (v : List A) (after : List Token) → Repeated P (q ++ more) v after → Follows (behind_list first any) after → ⊥) → (p : Program) → IsProgram (g.front ++ q) p [] → ⊥
    no_whole [] back cut bad p d = unfinished [] back bad [] [] no_more tt
    no_whole (t ∷ q) back cut bad p d =
        let y = g.only (t ∷ q) (subst (λ z. SameHead z (t ∷ q)) (sym cut) refl) p [] d tt in
        unfinished (t ∷ q) back bad y.0.0 y.2.mid y.2.first (meets y.2.mid y.0.1 [] y.2.second tt)

    none_yet : (e : Refusal) → Stops (Repeated P) (behind_list first any) left b e → NoneYet a e
    none_yet refusal.Memory x = tt
    none_yet (refusal.Deep n) x = tt
    none_yet (refusal.Syntax n) x = λ p d. no_whole x.front x.back x.cut x.bad p (subst (λ y. IsProgram y p []) (taken a (g.front ++ x.front) x.back n (g.cut ∙ ap (λ y. g.front ++ y) x.cut ∙ sym (append_assoc g.front x.front x.back)) x.left_is) d)

module _ {C : Type 0} {Q : List Token → C → List Token → Type 0} {room left : ℕ} {a b : List Token} where
  pub no_whole_nodes : {f : List Node × C → Program} → (e : Refusal) → Going IsProgram after_program room a (Then (Repeated IsNode) Q) f left b → Stops (Repeated IsNode) (behind_list begins_node any) left b e → ((more : List Token) (v : C) (after : List Token) → Q more v after → Follows after_program after → Follows (behind_list begins_node any) more) → NoneYet a e
  no_whole_nodes e g x meets = none_yet IsNode begins_node (λ c x t y. longer_node c) (λ t. node_from t t.kind refl) g meets e x

  pub no_whole_delegations : {f : List Delegation × C → Program} → (e : Refusal)
      → Going IsProgram after_program room a (Then (Repeated IsDelegation) Q) f left b
      → Stops (Repeated IsDelegation) (behind_list begins_name any) left b e
      → ((more : List Token) (v : C) (after : List Token) → Q more v after → Follows after_program after → Follows (behind_list begins_name any) more)
      → NoneYet a e
  no_whole_delegations e g x meets = none_yet IsDelegation begins_name (λ c x t y. longer_delegation c) (λ t. delegation_from t t.kind refl) g meets e x

  pub no_whole_labels : {f : List LabelText × C → Program} → (e : Refusal) → Going IsProgram after_program room a (Then (Repeated IsLabel) Q) f left b → Stops (Repeated IsLabel) (behind_list begins_label any) left b e → ((more : List Token) (v : C) (after : List Token) → Q more v after → Follows after_program after → Follows (behind_list begins_label any) more) → NoneYet a e
  no_whole_labels e g x meets = none_yet IsLabel begins_label (λ c x t y. longer_label c) (λ t. label_from t t.kind refl) g meets e x

  pub no_whole_classes : {f : List Class × C → Program} → (e : Refusal) → Going IsProgram after_program room a (Then (Repeated IsClass) Q) f left b → Stops (Repeated IsClass) (behind_list begins_class any) left b e → ((more : List Token) (v : C) (after : List Token) → Q more v after → Follows after_program after → Follows (behind_list begins_class any) more) → NoneYet a e
  no_whole_classes e g x meets = none_yet IsClass begins_class (λ c x t y. longer_class c) (λ t. class_from t t.kind refl) g meets e x

  pub no_whole_methods : {f : List Method × C → Program} → (e : Refusal) → Going IsProgram after_program room a (Then (Repeated IsMethod) Q) f left b → Stops (Repeated IsMethod) (behind_list begins_method any) left b e → ((more : List Token) (v : C) (after : List Token) → Q more v after → Follows after_program after → Follows (behind_list begins_method any) more) → NoneYet a e
  no_whole_methods e g x meets = none_yet IsMethod begins_method (λ c x t y. longer_method c) (λ t. method_from t t.kind refl) g meets e x
