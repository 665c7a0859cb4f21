-- Where a program stands among tokens, and where they are refused.
use Rattle.std.proofs.Common.{◌≡◌, ◌+◌, ◌-◌, ◌≤◌, ℕ, None, option_and_then, IsSome, List, [], ◌∷◌, ◌++◌, length, take, drop, refl, sym, ap, ◌∙◌, subst, append_assoc, length-append, length-drop, arith}
use Rattle.std.proofs.Math.Seq.{drop-append_seam, take-append_seam}
use Rattle.std.proofs.lemmas.List.{take-append-drop}
use Rattle.fab_base.specs.declared.token.Token.{Token}
use Rattle.fab_tree.specs.declared.program.Program.{Program}
use Rattle.fab_tree.specs.Depth.{room_after, KeepsDepth}
use Rattle.fab_tree.specs.Programs.{IsProgram}
use Rattle.fab_reading.specs.Reading.{SameHead, Follows, Read, Refused, Deep}
use Rattle.fab_reading.proofs.Rules.{same_refl, room_append}
use Rattle.fab_parser.specs.Pieces.{after_program}
use Rattle.fab_parser.specs.Texts.{IsPart, Ends, between, GoesNoFurther, BadToken, BadBracket}
use Rattle.fab_parser.proofs.PartRules.{read_here}
use Rattle.fab_parser.proofs.WholeRules.{taken}

module _ (ts front rest : List Token) (from : ℕ) where
  whole_cut : drop from ts ≡ front ++ rest → ts ≡ (take from ts ++ front) ++ rest
  whole_cut cut = sym (take-append-drop from ts) ∙ ap (λ x. take from ts ++ x) cut ∙ sym (append_assoc (take from ts) front rest)

  -- what is left stands behind the tokens before it
  rest_is : (next : ℕ) → drop from ts ≡ front ++ rest → next ≡ length ts - length rest → drop next ts ≡ rest
  rest_is next cut e =
      let w = whole_cut cut in
      let l : length ts ≡ length ((take from ts ++ front) ++ rest) = ap length w in
      let n : next ≡ length (take from ts ++ front) = omega (arith, l, length-append (take from ts ++ front) rest, e) in
      ap (λ x. drop x ts) n ∙ ap (drop (length (take from ts ++ front))) w ∙ drop-append_seam (take from ts ++ front) rest

  before : (left token : ℕ) → from ≤ length ts → drop from ts ≡ front ++ rest → length rest ≡ left → token ≡ length ts - left → from + length front ≡ token
  before left token within cut e t =
      let l : length (drop from ts) ≡ length (front ++ rest) = ap length cut in
      omega (arith, l, length-append front rest, length-drop from ts, e, t, within)

  -- the tokens before it
  between_is : (next : ℕ) → drop from ts ≡ front ++ rest → from + length front ≡ next → between ts from next ≡ front
  between_is next cut e =
      let n : next - from ≡ length front = omega (arith, e) in
      ap (λ x. take x (drop from ts)) n ∙ ap (take (length front)) cut ∙ take-append_seam front rest

pub part_found : {ts : List Token} {from next : ℕ} {p : Program} {rest : List Token} → Read IsProgram after_program 64 (drop from ts) p rest → next ≡ length ts - length rest → IsPart ts from p next
part_found {ts = ts} {from = from} {next = next} {p = p} {rest = rest} r e = record {
  reads = subst (λ x. IsProgram (drop from ts) p x) (sym (rest_is ts r.front rest from next r.cut e)) (read_here r);
  within = omega (arith, e);
}

read_before : (ts : List Token) (from : ℕ) {next : ℕ} {p : Program} {rest : List Token} → from ≤ length ts → (r : Read IsProgram after_program 64 (drop from ts) p rest) → next ≡ length ts - length rest → between ts from next ≡ r.front
read_before ts from {next = next} {rest = rest} within r e = between_is ts r.front rest from next r.cut (before ts r.front rest from (length rest) next within r.cut refl e)

pub part_depth : (ts : List Token) (from : ℕ) {next : ℕ} {p : Program} {rest : List Token} → from ≤ length ts → Read IsProgram after_program 64 (drop from ts) p rest → next ≡ length ts - length rest → KeepsDepth (between ts from next)
part_depth ts from within r e = subst (λ x. IsSome (room_after x 64)) (sym (read_before ts from within r e)) (subst IsSome (sym r.level) refl)

no_further : (front rest : List Token) {p : Program} → ((more : List Token) → SameHead rest more → (q : Program) (after : List Token) → IsProgram (front ++ more) q after → Follows after_program after → (q ≡ p) × (after ≡ more)) → GoesNoFurther front rest
no_further front [] only = tt
no_further front (t ∷ rest) only = λ b.
    let x = only (t ∷ b.0) refl b.1 [] (subst (λ y. IsProgram y b.1 []) (append_assoc front (t ∷ []) b.0) b.2) tt in
    let e : [] ≡ t ∷ b.0 = x.1 in
    cc

pub part_farthest : (ts : List Token) (from : ℕ) {next : ℕ} {p : Program} {rest : List Token} → from ≤ length ts → Read IsProgram after_program 64 (drop from ts) p rest → next ≡ length ts - length rest → GoesNoFurther (between ts from next) (drop next ts)
part_farthest ts from {next = next} {rest = rest} within r e =
    subst (λ x. GoesNoFurther x (drop next ts)) (sym (read_before ts from within r e)) (subst (GoesNoFurther r.front) (sym (rest_is ts r.front rest from next r.cut e)) (no_further r.front rest r.only))

pub part_only : {ts : List Token} {from next : ℕ} {p : Program} {rest : List Token} → Read IsProgram after_program 64 (drop from ts) p rest → next ≡ length ts - length rest → (q : Program) (n : ℕ) → IsPart ts from q n → Ends ts n → (p ≡ q) × (next ≡ n)
part_only {ts = ts} {rest = rest} r e q n part ends =
    let x = r.only rest (same_refl rest) q (drop n ts) (subst (λ y. IsProgram y q (drop n ts)) r.cut part.reads) ends in
    let l : length (drop n ts) ≡ length rest = ap length x.1 in
    (sym x.0, omega (arith, e, l, length-drop n ts, part.within))

pub no_part : {ts : List Token} {from left : ℕ} → Refused IsProgram after_program 64 (drop from ts) left → (q : Program) (n : ℕ) → IsPart ts from q n → Ends ts n → ⊥
no_part {ts = ts} r q n part ends = r.bad r.back (same_refl r.back) q (drop n ts) (subst (λ y. IsProgram y q (drop n ts)) r.cut part.reads) ends

bad_next : (front back : List Token) → ((more : List Token) → SameHead back more → (t : Program) (after : List Token) → IsProgram (front ++ more) t after → Follows after_program after → ⊥) → GoesNoFurther front back
bad_next front [] bad = tt
bad_next front (t ∷ back) bad = λ b. bad (t ∷ b.0) refl b.1 [] (subst (λ x. IsProgram x b.1 []) (append_assoc front (t ∷ []) b.0) b.2) tt

pub bad_token : {ts : List Token} {from left token : ℕ} → from ≤ length ts → Refused IsProgram after_program 64 (drop from ts) left → ((p : Program) → IsProgram (take (length (drop from ts) - left) (drop from ts)) p [] → ⊥) → token ≡ length ts - left → BadToken ts from token
bad_token {ts = ts} {from = from} {left = left} {token = token} within r none e = record {
  front = r.front;
  back = r.back;
  cut = r.cut;
  token_is = before ts r.front r.back from left token within r.cut r.left_is e;
  before = (r.begins.0 ++ [], r.begins.1, r.begins.2 []);
  no_program = λ p d. none p (subst (λ x. IsProgram x p []) (sym (taken (drop from ts) r.front r.back left r.cut r.left_is)) d);
  with_it = bad_next r.front r.back r.bad;
  level = r.level;
}

pub bad_bracket : {ts : List Token} {from left token : ℕ} → from ≤ length ts → Deep IsProgram 64 (drop from ts) left → token ≡ length ts - left → BadBracket ts from token
bad_bracket {ts = ts} {from = from} {left = left} {token = token} within r e = record {
  front = r.front;
  next = r.next;
  back = r.back;
  cut = r.cut;
  token_is = before ts r.front (r.next ∷ r.back) from left token within r.cut r.left_is e;
  before = (r.begins.0 ++ [], r.begins.1, subst (λ x. IsProgram x r.begins.1 []) (sym (append_assoc r.front (r.next ∷ []) (r.begins.0 ++ []))) (r.begins.2 []));
  level = r.level;
  opens = r.opens;
}

-- what a bracket too many is among opens too many
pub too_deep : {ts : List Token} {from token : ℕ} → BadBracket ts from token → KeepsDepth (between ts from (token + 1)) → ⊥
too_deep {ts = ts} {from = from} {token = token} r h = none none_after h
  where
    until : between ts from (token + 1) ≡ r.front ++ (r.next ∷ [])
    until = between_is ts (r.front ++ (r.next ∷ [])) r.back from (token + 1) (r.cut ∙ sym (append_assoc r.front (r.next ∷ []) r.back)) (omega (arith, length-append r.front (r.next ∷ []), r.token_is))

    none_after : room_after (between ts from (token + 1)) 64 ≡ None
    none_after = ap (λ x. room_after x 64) until ∙ room_append r.front (r.next ∷ []) 64 0 r.level ∙ ap (option_and_then (room_after [])) r.opens

    none : room_after (between ts from (token + 1)) 64 ≡ None → IsSome (room_after (between ts from (token + 1)) 64) → ⊥
    none e s = let x = subst IsSome e s in cc
