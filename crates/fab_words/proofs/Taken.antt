-- Which words `clap` takes for a command and its operands, and what it finds.
use Rattle.std.proofs.Common.{◌≡◌, ◌∙◌, ◌&&◌, ◌||◌, Bool, true, false, refl, sym, ap, ap₂, codes, List, [], ◌∷◌, ◌++◌, fold, Some, None, append-nil, append_assoc}
use Rattle.std.specs.List.{list_any, list_all}
use Rattle.std.specs.Str.{bytes_eq}
use Rattle.clap.specs.Words.{Row, Text, is_simple, matches_of, takes, built}
use Rattle.clap.specs.Simple.{Shape}
use Rattle.clap.specs.Values.{reading_of}
use Rattle.clap.specs.Lexer.{long_of, short_of}
use Rattle.clap.specs.Walk.{Walk, positional, idle, walk, walk_from, walked, nothing_held, settled, finished, with_values, with_default}
use Rattle.clap.specs.Takes.{default_passes, is_valid, level_passes, settle_passes, turn_passes, walk_passes}
use Rattle.clap.specs.declared.builder.value_parser.ValueParser.TheVariants as parser
use Rattle.clap.specs.declared.parser.matches.ValueSource.TheVariants.{CommandLine}
use Rattle.clap.proofs.OnLiterals.{clap_on_literals}
use Rattle.clap.proofs.TakesLemmas.{leaf_takes}
use Rattle.fab_words.specs.Line.{command_line}
use Rattle.fab_asked.specs.Words.{begins_with_dash}

abbrev top : Shape
top = (built command_line).top

pub is_simple_line : is_simple command_line ≡ true
unfolding clap_on_literals
is_simple_line = refl

-- ---- the rows

abbrev command_row : Text → Row
command_row w = record { id = codes "command"; values = w ∷ []; count = None; source = Some CommandLine; reading = reading_of parser.String }

abbrev operands_row : List Text → Row
operands_row ws = record { id = codes "operands"; values = ws; count = None; source = Some CommandLine; reading = reading_of parser.String }

abbrev pub rows_for : List Text → List Row
rows_for [] = []
rows_for (w ∷ []) = command_row w ∷ []
rows_for (w ∷ v ∷ vs) = command_row w ∷ operands_row (v ∷ vs) ∷ []

abbrev with_operand : List Row → Text → List Row
with_operand rows v = with_values (codes "operands") (reading_of parser.String) CommandLine (v ∷ []) rows

more_operands : (w : Text) (before ws : List Text) → fold with_operand (command_row w ∷ operands_row before ∷ []) ws ≡ command_row w ∷ operands_row (before ++ ws) ∷ []
more_operands w before [] = ap (λ vs. command_row w ∷ operands_row vs ∷ []) (sym (append-nil before))
more_operands w before (x ∷ xs) = more_operands w (before ++ x ∷ []) xs ∙ ap (λ vs. command_row w ∷ operands_row vs ∷ []) (append_assoc before (x ∷ []) xs)

-- ---- one word that doesn't begin with `-`

abbrev IsPlainWord : Text → Type 0
IsPlainWord word = (bytes_eq word (45 ∷ 45 ∷ []) ≡ false) × (long_of word ≡ None) × (short_of word ≡ None)

plain_word : (word : Text) → begins_with_dash word ≡ false → IsPlainWord word
plain_word [] e = (refl, refl, refl)
plain_word (b ∷ bs) e = (rw e refl, rw e refl, rw e refl)

-- ---- the walk

-- behind the first word
abbrev behind_command : Text → Walk
behind_command w = record {
  held = record { rows = []; pending = Some (codes "command", w ∷ []); skip = 0 };
  waiting = idle;
  position = 2;
  is_trailing = false;
  stopped = None;
}

-- behind an operand
abbrev behind_operand : List Row → Text → Walk
behind_operand rows v = record {
  held = record { rows = rows; pending = Some (codes "operands", v ∷ []); skip = 0 };
  waiting = positional;
  position = 2;
  is_trailing = false;
  stopped = None;
}

first_walked : (w : Text) → begins_with_dash w ≡ false → walked top.rules [] (walk_from nothing_held) w ≡ behind_command w
unfolding clap_on_literals
first_walked w e =
    let p = plain_word w e in
    rw (p.0, p.1, p.2) refl

second_walked : (w v : Text) → begins_with_dash v ≡ false → walked top.rules [] (behind_command w) v ≡ behind_operand (command_row w ∷ []) v
unfolding clap_on_literals
second_walked w v e =
    let p = plain_word v e in
    rw (p.0, p.1, p.2) refl

operand_walked : (rows : List Row) (v x : Text) → begins_with_dash x ≡ false → walked top.rules [] (behind_operand rows v) x ≡ behind_operand (with_operand rows v) x
unfolding clap_on_literals
operand_walked rows v x e =
    let p = plain_word x e in
    rw (p.0, p.1, p.2) refl

first_passes : (w : Text) → begins_with_dash w ≡ false → turn_passes top [] (walk_from nothing_held) w ≡ true
unfolding clap_on_literals
first_passes w e =
    let p = plain_word w e in
    rw (p.0, p.1, p.2) refl

second_passes : (w v : Text) → begins_with_dash v ≡ false → turn_passes top [] (behind_command w) v ≡ true
unfolding clap_on_literals
second_passes w v e =
    let p = plain_word v e in
    rw (p.0, p.1, p.2) refl

operand_passes : (rows : List Row) (v x : Text) → begins_with_dash x ≡ false → turn_passes top [] (behind_operand rows v) x ≡ true
unfolding clap_on_literals
operand_passes rows v x e =
    let p = plain_word x e in
    rw (p.0, p.1, p.2) refl

-- behind all operands
abbrev ending : List Row → Text → List Text → Walk
ending rows v [] = behind_operand rows v
ending rows v (x ∷ xs) = ending (with_operand rows v) x xs

first_of_any : (p : Text → Bool) (x : Text) (xs : List Text) → list_any p (x ∷ xs) ≡ false → (p x ≡ false) × (list_any p xs ≡ false)
first_of_any p x xs e = neither (p x) (list_any p xs) e
  where
    neither : (a b : Bool) → (a || b) ≡ false → (a ≡ false) × (b ≡ false)
    neither true b h = cc
    neither false b h = (refl, h)

operands_walked : (rows : List Row) (v : Text) (xs : List Text) → list_any begins_with_dash xs ≡ false
    → fold (walked top.rules []) (behind_operand rows v) xs ≡ ending rows v xs
operands_walked rows v [] e = refl
operands_walked rows v (x ∷ xs) e =
    let h = first_of_any begins_with_dash x xs e in
    ap (λ (w : Walk). fold (walked top.rules []) w xs) (operand_walked rows v x h.0) ∙ operands_walked (with_operand rows v) x xs h.1

operands_pass : (rows : List Row) (v : Text) (xs : List Text) → list_any begins_with_dash xs ≡ false
    → walk_passes top [] (behind_operand rows v) xs ≡ true
unfolding walk_passes
operands_pass rows v [] e = refl
operands_pass rows v (x ∷ xs) e =
    let h = first_of_any begins_with_dash x xs e in
    ap₂ (λ b (w : Walk). b && walk_passes top [] w xs) (operand_passes rows v x h.0) (operand_walked rows v x h.0) ∙ operands_pass (with_operand rows v) x xs h.1

-- the rows when the last operand is settled
ending_settled : (rows : List Row) (v : Text) (xs : List Text) → (settled top.rules (ending rows v xs).held).rows ≡ fold with_operand rows (v ∷ xs)
unfolding clap_on_literals
ending_settled rows v [] = refl
ending_settled rows v (x ∷ xs) = ending_settled (with_operand rows v) x xs

ending_passes : (rows : List Row) (v : Text) (xs : List Text) → settle_passes top.rules false (ending rows v xs).held ≡ true
unfolding clap_on_literals
ending_passes rows v [] = refl
ending_passes rows v (x ∷ xs) = ending_passes (with_operand rows v) x xs

-- ---- all words

abbrev end_of : List Text → Walk
end_of words = walk top.rules [] nothing_held words

end_of_two : (w v : Text) (vs : List Text) → list_any begins_with_dash (w ∷ v ∷ vs) ≡ false → end_of (w ∷ v ∷ vs) ≡ ending (command_row w ∷ []) v vs
end_of_two w v vs e =
    let h = first_of_any begins_with_dash w (v ∷ vs) e in
    let k = first_of_any begins_with_dash v vs h.1 in
    ap (λ (s : Walk). fold (walked top.rules []) (walked top.rules [] s v) vs) (first_walked w h.0)
    ∙ ap (λ (s : Walk). fold (walked top.rules []) s vs) (second_walked w v k.0) ∙ operands_walked (command_row w ∷ []) v vs k.1

end_of_one : (w : Text) → list_any begins_with_dash (w ∷ []) ≡ false → end_of (w ∷ []) ≡ behind_command w
end_of_one w e = first_walked w (first_of_any begins_with_dash w [] e).0

rows_settled : (words : List Text) → list_any begins_with_dash words ≡ false → (settled top.rules (end_of words).held).rows ≡ rows_for words
unfolding clap_on_literals
rows_settled [] e = refl
rows_settled (w ∷ []) e = ap (λ (s : Walk). (settled top.rules s.held).rows) (end_of_one w e)
rows_settled (w ∷ v ∷ vs) e = ap (λ (s : Walk). (settled top.rules s.held).rows) (end_of_two w v vs e)
    ∙ ending_settled (command_row w ∷ []) v vs ∙ more_operands w (v ∷ []) vs

-- no argument has a default
no_defaults : (words : List Text) → fold with_default (rows_for words) top.rules ≡ rows_for words
unfolding clap_on_literals
no_defaults [] = refl
no_defaults (w ∷ []) = refl
no_defaults (w ∷ v ∷ vs) = refl

rows_finished : (words : List Text) → list_any begins_with_dash words ≡ false → finished top.rules (end_of words).held ≡ rows_for words
rows_finished words e = ap (λ rows. fold with_default rows top.rules) (rows_settled words e) ∙ no_defaults words

-- what is found in words that don't begin with `-`
pub found_rows : (words : List Text) → list_any begins_with_dash words ≡ false → matches_of command_line words ≡ rows_for words
found_rows words e = rows_finished words e

others_pass : (w : Text) (vs : List Text) → list_any begins_with_dash vs ≡ false → walk_passes top [] (behind_command w) vs ≡ true
unfolding walk_passes
others_pass w [] e = refl
others_pass w (v ∷ vs) e =
    let h = first_of_any begins_with_dash v vs e in
    ap₂ (λ b (s : Walk). b && walk_passes top [] s vs) (second_passes w v h.0) (second_walked w v h.0) ∙ operands_pass (command_row w ∷ []) v vs h.1

walk_is_passed : (w : Text) (ws : List Text) → list_any begins_with_dash (w ∷ ws) ≡ false → walk_passes top [] (walk_from nothing_held) (w ∷ ws) ≡ true
unfolding walk_passes
walk_is_passed w ws e =
    let h = first_of_any begins_with_dash w ws e in
    ap₂ (λ b (s : Walk). b && walk_passes top [] s ws) (first_passes w h.0) (first_walked w h.0) ∙ others_pass w ws h.1

last_passes : (w : Text) (ws : List Text) → list_any begins_with_dash (w ∷ ws) ≡ false → settle_passes top.rules false (end_of (w ∷ ws)).held ≡ true
unfolding clap_on_literals
last_passes w [] e = ap (λ (s : Walk). settle_passes top.rules false s.held) (end_of_one w e)
last_passes w (v ∷ vs) e = ap (λ (s : Walk). settle_passes top.rules false s.held) (end_of_two w v vs e) ∙ ending_passes (command_row w ∷ []) v vs

-- the command is there
rows_valid : (w : Text) (ws : List Text) → is_valid top (rows_for (w ∷ ws)) false ≡ true
unfolding clap_on_literals
rows_valid w [] = refl
rows_valid w (v ∷ vs) = refl

level_taken : (w : Text) (ws : List Text) → list_any begins_with_dash (w ∷ ws) ≡ false → level_passes top [] nothing_held (w ∷ ws) false ≡ true
level_taken w ws e =
    ap₂ (λ a b. a && (b && (list_all default_passes top.rules && is_valid top (finished top.rules (end_of (w ∷ ws)).held) false))) (walk_is_passed w ws e) (last_passes w ws e)
    ∙ ap (λ rows. is_valid top rows false) (rows_finished (w ∷ ws) e) ∙ rows_valid w ws

-- one word or more, none of which begins with `-`, are taken
pub words_taken : (w : Text) (ws : List Text) → list_any begins_with_dash (w ∷ ws) ≡ false → takes command_line (w ∷ ws) ≡ true
words_taken w ws e = ap₂ (λ a b. a && b) is_simple_line (leaf_takes (built command_line) nothing_held (w ∷ ws) refl (level_taken w ws e))
