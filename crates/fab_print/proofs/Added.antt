-- What is added one behind the other.
use Rattle.std.proofs.Common.{◌≡◌, ℕ, ◌+◌, ◌/◌, ◌%◌, ◌^◌, ◌<◌, ◌≤◌, ℤ, pos, negsuc, Bool, true, false, List, [], ◌∷◌, ◌++◌, map, eqb-true, add-one, refl, sym, ap, ◌∙◌, append_assoc, subst, arith}
use Rattle.std.specs.Prelude.{if◌then◌else◌, ◌==◌, codes}
use Rattle.std.specs.Fmt.{decimal, signed_decimal}
use Rattle.std.proofs.lemmas.Fmt.{decimal_digit, decimal_step}
use Rattle.fab_base.specs.declared.token.Mark.TheVariants as m
use Rattle.fab_base.specs.declared.token.Kind.TheVariants as k
use Rattle.fab_tree.specs.declared.name.Name.{Name}
use Rattle.fab_tree.specs.declared.expression.Number.TheVariants as numbers
use Rattle.fab_tree.specs.declared.event.Event.{Event}
use Rattle.fab_tree.specs.declared.statement.Statement.{Statement}
use Rattle.fab_tree.specs.Print.{Ink, Inks, ◌>>◌, text_of, kind_text, indent, number, integer, statement, spaced_names, authority, schedule, space, mark, name, line_end, separated, all, line, cache, nothing}
use Rattle.fab_print.specs.Adding.{Adds, IsSpelled, event_line}

-- one and then the other
pub both : {x y : Inks} {a b c : List ℕ} → Adds x a b → Adds y b c → Adds (λ more. x (y more)) a c
both {y = y} h k = record { grows = λ more. k.grows more ∙ h.grows (y more) }

-- bytes at the end, as which these inks are spelled
pub said : {a b bytes : List ℕ} {x : Inks} (cs : List ℕ) → IsSpelled x bytes → cs ≡ bytes → b ≡ a ++ cs → Adds x a b
said {a = a} {bytes = bytes} cs h same e = record { grows = λ more. ap (λ z. z ++ text_of more) (e ∙ ap (λ z. a ++ z) same) ∙ append_assoc a bytes (text_of more) ∙ ap (λ z. a ++ z) (sym (h.is more)) }

-- so where that is seen by computing
pub word : {a b : List ℕ} (bytes : List ℕ) (x : Inks) → b ≡ a ++ bytes → ((more : List Ink) → text_of (x more) ≡ bytes ++ text_of more) → Adds x a b
word {a = a} bytes x e h = record { grows = λ more. ap (λ z. z ++ text_of more) e ∙ append_assoc a bytes (text_of more) ∙ ap (λ z. a ++ z) (sym (h more)) }

-- a line of the outermost level begins with no blanks
pub margin : {x : Inks} {a b : List ℕ} → Adds x a b → Adds (λ more. indent 0 (x more)) a b
margin h = record { grows = h.grows }

-- the same inks by another name
pub known : {x y : Inks} {a b : List ℕ} → y ≡ x → Adds x a b → Adds y a b
known {a = a} {b = b} e h = subst (λ z. Adds z a b) (sym e) h

-- ---- numbers

one_more : (n : ℕ) (ds : List ℕ) → 10 ≤ n → n < 2 ^ 64 → decimal (n / 10) ≡ ds → decimal n ≡ ds ++ (48 + n % 10) ∷ []
one_more n ds h g e = decimal_step n h g ∙ ap (λ z. z ++ (48 + n % 10) ∷ []) e

least : decimal 2147483648 ≡ codes "2147483648"
least =
    let a : decimal 21 ≡ codes "21" = one_more 21 (codes "2") (omega arith) (omega arith) (decimal_digit 2 (omega arith)) in
    let b : decimal 214 ≡ codes "214" = one_more 214 (codes "21") (omega arith) (omega arith) a in
    let c : decimal 2147 ≡ codes "2147" = one_more 2147 (codes "214") (omega arith) (omega arith) b in
    let d : decimal 21474 ≡ codes "21474" = one_more 21474 (codes "2147") (omega arith) (omega arith) c in
    let e : decimal 214748 ≡ codes "214748" = one_more 214748 (codes "21474") (omega arith) (omega arith) d in
    let f : decimal 2147483 ≡ codes "2147483" = one_more 2147483 (codes "214748") (omega arith) (omega arith) e in
    let g : decimal 21474836 ≡ codes "21474836" = one_more 21474836 (codes "2147483") (omega arith) (omega arith) f in
    let h : decimal 214748364 ≡ codes "214748364" = one_more 214748364 (codes "21474836") (omega arith) (omega arith) g in
    one_more 2147483648 (codes "214748364") (omega arith) (omega arith) h

least_spelled : (n : ℕ) (b : Bool) → (b ≡ true → n ≡ 2147483648) → kind_text (if b then k.Least else k.Number n) ≡ decimal n
least_spelled n true h = sym (ap decimal (h refl) ∙ least)
least_spelled n false h = refl

pub number_spelled : (n : ℕ) → IsSpelled (number n) (decimal n)
number_spelled n = record { is = λ more. ap (λ z. z ++ text_of more) (least_spelled n (n == 2147483648) (eqb-true n 2147483648)) }

pub integer_spelled : (z : ℤ) → IsSpelled (integer (numbers.Int z)) (signed_decimal z)
integer_spelled (pos n) = number_spelled n
integer_spelled (negsuc n) = record { is = λ more. ap (λ z. 45 ∷ z) ((number_spelled (n + 1)).is more ∙ ap (λ i. decimal i ++ text_of more) (add-one n)) }

-- ---- lists

pub names_behind : (x : Name) (xs names : List Name) → names ≡ x ∷ xs → {a b : List ℕ} → Adds (λ more. space (separated m.Comma (map name names) more)) a b → Adds (spaced_names names) a b
names_behind x xs names e {a = a} {b = b} h = subst (λ l. Adds (spaced_names l) a b) (sym e) (subst (λ l. Adds (λ more. space (separated m.Comma (map name l) more)) a b) e h)

pub power_behind : (x : Name) (xs names : List Name) → names ≡ x ∷ xs → {a b : List ℕ} → Adds (λ more. space (mark m.Authority (spaced_names names more))) a b → Adds (authority names) a b
power_behind x xs names e {a = a} {b = b} h = subst (λ l. Adds (authority l) a b) (sym e) (subst (λ l. Adds (λ more. space (mark m.Authority (spaced_names l more))) a b) e h)

-- what stands round the events of a schedule
abbrev pub opened : Inks
opened = indent 1 >> mark m.Schedule >> space >> mark m.LeftBrace >> line_end

abbrev pub closed : Inks
closed = indent 1 >> mark m.RightBrace >> line_end

pub events_within : (x : Event) (xs events : List Event) → events ≡ x ∷ xs → {a b : List ℕ} → Adds (opened >> all (map event_line events) >> closed) a b → Adds (schedule events) a b
events_within x xs events e {a = a} {b = b} h = subst (λ l. Adds (schedule l) a b) (sym e) (subst (λ l. Adds (opened >> all (map event_line l) >> closed) a b) e h)

-- ---- statements

-- statements at a level
pub at_level_all : (n : ℕ) (xs : List Statement) → map (λ x. x n) (map statement xs) ≡ map (λ x. statement x n) xs
at_level_all n [] = refl
at_level_all n (x ∷ xs) = ap (λ l. statement x n ∷ l) (at_level_all n xs)

-- ---- the cache

pub cached : (n : ℕ) → (n ≡ 0 → ⊥) → {a b : List ℕ} → Adds (line 1 (mark m.Cache >> space >> number n >> mark m.Semicolon)) a b → Adds (cache n) a b
cached n h {a = a} {b = b} g = by (n == 0) (eqb-true n 0)
  where
    by : (t : Bool) → (t ≡ true → n ≡ 0) → Adds (if t then nothing else line 1 (mark m.Cache >> space >> number n >> mark m.Semicolon)) a b
    by true k = absurd (h (k refl))
    by false k = g
