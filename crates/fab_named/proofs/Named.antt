-- What the grammar says of the declared names and of the posts, over tokens that are well formed.
use Rattle.std.proofs.Common.{◌≡◌, ◌≢◌, ℕ, suc, List, [], ◌∷◌, map, None, codes, cond, subst}
use Rattle.std.specs.List.{AllByRecursion}
use Rattle.fab_base.specs.declared.token.Token.{Token}
use Rattle.fab_base.specs.Tokens.{keyword_of, Lexes}
use Rattle.fab_base.proofs.Lists.{all_map}
use Rattle.fab_tree.specs.declared.name.Name.{Name}
use Rattle.fab_tree.specs.declared.declaration.Node.{Node}
use Rattle.fab_tree.specs.declared.declaration.Class.{Class}
use Rattle.fab_tree.specs.declared.program.Program.{Program}
use Rattle.fab_tree.specs.declared.event.PostLine.{PostLine}
use Rattle.fab_tree.specs.declared.start.Root.{Root}
use Rattle.fab_tree.specs.declared.start.Start.{Start}
use Rattle.fab_tree.specs.declared.resolved.Post.{Post}
use Rattle.fab_tree.specs.Limits.{is_node}
use Rattle.fab_tree.specs.Lists.{IsName, name, IsBytes, bytes, Repeated, no_more, one_more}
use Rattle.fab_tree.specs.Declarations.{IsNode, IsClass}
use Rattle.fab_tree.specs.Declarations as declared
use Rattle.fab_tree.specs.Programs.{IsProgram, program}
use Rattle.fab_tree.specs.Runs.{IsRoot, IsPost}
use Rattle.fab_tree.specs.Runs as runs
use Rattle.fab_tree.specs.Syntax.{IsStart, start, IsText}
use Rattle.fab_language.specs.Numbers.{principals_from, class_of, roots_from, post_of, resolved}
use Rattle.fab_reports.specs.Lines.{IsWord, AreBytes}
use Rattle.fab_reports.specs.Showable.{HasWords}
use Rattle.fab_named.proofs.Words.{IsWell, IsWellToken, not_null, all_well}
use Rattle.fab_named.proofs.Kept.{Leaves, kept_is, kept_name, kept_repeated, kept_role, kept_node, kept_delegation, kept_label, kept_class, kept_method, kept_root, kept_session, kept_post}

abbrev AreWell : List Token → Type 0
AreWell ts = AllByRecursion IsWellToken ts

-- a word that is no keyword
abbrev IsProperName : Name → Type 0
IsProperName x = IsWord x.text × (keyword_of x.text ≡ None)

-- ---- what stands in front

name_is_word : {a : List Token} {x : Name} {b : List Token} → IsName a x b → AreWell a → IsProperName x
name_is_word (name e) w = subst IsWell e w.0

are_bytes : {a : List Token} {x : List ℕ} {b : List Token} → IsBytes a x b → AreWell a → AreBytes x
are_bytes (bytes e) w = subst IsWell e w.0

-- what each item says that stands in front, each one in a row says
each_says : {A : Type 0} {P : List Token → A → List Token → Type 0} (R : A → Type 0) → Leaves IsWellToken P → ((a : List Token) (x : A) (b : List Token) → P a x b → AreWell a → R x)
    → {a : List Token} {xs : List A} {b : List Token} → Repeated P a xs b → AreWell a → AllByRecursion R xs
each_says R rest says no_more w = tt
each_says R rest says (one_more p q) w = (says _ _ _ p w, each_says R rest says q (rest _ _ _ p w))

node_says : {a : List Token} {x : Node} {b : List Token} → IsNode a x b → AreWell a → IsProperName x.name
node_says (declared.node p q r) w = name_is_word q (kept_role IsWellToken p w)

class_says : {a : List Token} {x : Class} {b : List Token} → IsClass a x b → AreWell a → IsProperName x.name
class_says (declared.class p q p2 p3 p4 p5 p6 p7 p8) w = name_is_word q (kept_is IsWellToken p w)

root_says : {a : List Token} {x : Root} {b : List Token} → IsRoot a x b → AreWell a → IsProperName x.name
root_says (runs.root p q p2 p3 p4 p5 p6 p7 p8 p9) w = name_is_word q (kept_is IsWellToken p w)

post_says : {a : List Token} {x : PostLine} {b : List Token} → IsPost a x b → AreWell a → AreBytes x.bytes
post_says (runs.post p q r t u v) w =
    are_bytes u (kept_name IsWellToken t (kept_is IsWellToken r (kept_name IsWellToken q (kept_is IsWellToken p w))))

-- ---- a whole text

-- what a text says of its names and posts
pub record Says (s : Start) : Type 0 where
  pub nodes : AllByRecursion (λ x. IsProperName x.name) s.program.nodes
  pub classes : AllByRecursion (λ x. IsProperName x.name) s.program.classes
  pub roots : AllByRecursion (λ x. IsProperName x.name) s.roots
  pub posts : AllByRecursion (λ x. AreBytes x.bytes) s.posts

record ProgramSays (p : Program) (behind : List Token) : Type 0 where
  nodes : AllByRecursion (λ x. IsProperName x.name) p.nodes
  classes : AllByRecursion (λ x. IsProperName x.name) p.classes
  rest : AreWell behind

program_says : {a : List Token} {p : Program} {b : List Token} → IsProgram a p b → AreWell a → ProgramSays p b
program_says (program nodes delegations labels classes methods) w =
    let w1 = kept_repeated IsWellToken (λ a x b. kept_node IsWellToken) nodes w in
    let w2 = kept_repeated IsWellToken (λ a x b. kept_delegation IsWellToken) delegations w1 in
    let w3 = kept_repeated IsWellToken (λ a x b. kept_label IsWellToken) labels w2 in
    let w4 = kept_repeated IsWellToken (λ a x b. kept_class IsWellToken) classes w3 in
    record {
      nodes = each_says (λ x. IsProperName x.name) (λ a x b. kept_node IsWellToken) (λ a x b. node_says) nodes w;
      classes = each_says (λ x. IsProperName x.name) (λ a x b. kept_class IsWellToken) (λ a x b. class_says) classes w3;
      rest = kept_repeated IsWellToken (λ a x b. kept_method IsWellToken) methods w4;
    }

pub text_says : {a : List Token} {s : Start} {b : List Token} → IsStart a s b → AreWell a → Says s
text_says (start p run left roots sessions posts crashes size events right) w =
    let front = program_says p w in
    let w1 = kept_is IsWellToken left (kept_is IsWellToken run front.rest) in
    let w2 = kept_repeated IsWellToken (λ a x b. kept_root IsWellToken) roots w1 in
    let w3 = kept_repeated IsWellToken (λ a x b. kept_session IsWellToken) sessions w2 in
    record {
      nodes = front.nodes;
      classes = front.classes;
      roots = each_says (λ x. IsProperName x.name) (λ a x b. kept_root IsWellToken) (λ a x b. root_says) roots w1;
      posts = each_says (λ x. AreBytes x.bytes) (λ a x b. kept_post IsWellToken) (λ a x b. post_says) posts w3;
    }

-- ---- the same with numbers for names

principals_are_words : (n : ℕ) (xs : List Node) → AllByRecursion (λ x. IsProperName x.name) xs → AllByRecursion (λ x. IsWord x.name.text) (principals_from n xs)
principals_are_words n [] h = tt
principals_are_words n (x ∷ xs) h = (h.0.0, principals_are_words (cond (is_node x.role) (suc n) n) xs h.1)

classes_are_words : (s : Start) (xs : List Class) → AllByRecursion (λ x. IsProperName x.name) xs → AllByRecursion (λ x. IsWord x.name.text) (map (class_of s) xs)
classes_are_words s [] h = tt
classes_are_words s (x ∷ xs) h = (h.0.0, classes_are_words s xs h.1)

roots_are_words : (s : Start) (n : ℕ) (xs : List Root) → AllByRecursion (λ x. IsProperName x.name) xs
    → AllByRecursion (λ x. IsWord x.name.text × (x.name.text ≢ codes "null")) (roots_from s n xs)
roots_are_words s n [] h = tt
roots_are_words s n (x ∷ xs) h = ((h.0.0, not_null x.name.text h.0.1), roots_are_words s (suc n) xs h.1)

-- names are words
pub have_words : {text : List ℕ} {ts : List Token} {s : Start} → Lexes 0 text ts → IsText ts s → HasWords (resolved s)
have_words {s = s} cut is =
    let says = text_says is (all_well cut) in
    record {
      nodes = principals_are_words 0 s.program.nodes says.nodes;
      classes = classes_are_words s s.program.classes says.classes;
      roots = roots_are_words s 0 s.roots says.roots;
    }

-- posts are bytes
pub have_bytes : {text : List ℕ} {ts : List Token} {s : Start} → Lexes 0 text ts → IsText ts s → AllByRecursion (λ p. AreBytes p.bytes) (resolved s).posts
have_bytes {s = s} cut is = all_map (λ (p : Post). AreBytes p.bytes) (post_of s) s.posts (text_says is (all_well cut)).posts
