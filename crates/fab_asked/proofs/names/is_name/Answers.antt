use Rattle.std.proofs.Common.{sym, ap, ◌∙◌, ◌<◌, ◌≡◌, length, true, false}
use Rattle.std.specs.List.{list_all}
use Rattle.fab_base.specs.Tokens.{is_word_byte}
use Rattle.fab_asked.specs.Names.{is_name_word, is_one_name}
use Rattle.fab_asked.proofs.NameLemmas.{tokens_say, no_tokens_say, too_long, other_bytes}
use Rattle.fab_asked.proofs.names.is_name.Goals.{then-bytes-gt-LONGEST-via-then-bytes-gt-LONGEST, then-bytes-gt-LONGEST-via-else-bytes-gt-LONGEST+then-not-are_of_words}
use Rattle.fab_asked.proofs.names.is_name.Goals as goal

pub returns-then-bytes-gt-LONGEST : goal.returns-then-bytes-gt-LONGEST
returns-then-bytes-gt-LONGEST c =
    let e = c.as_bytes-bytes.ensures.value in
    elim c.then-bytes-gt-LONGEST.branch [
      | then-bytes-gt-LONGEST-via-then-bytes-gt-LONGEST w ↦ too_long c.args.word.now (rw e at w.if-bytes-gt-LONGEST.true)
      | then-bytes-gt-LONGEST-via-else-bytes-gt-LONGEST+then-not-are_of_words w ↦ other_bytes c.args.word.now (rw e at (sym w.are_of_words.ensures ∙ w.if-not-are_of_words.true))
    ]

pub returns-in-Ok : goal.returns-in-Ok
returns-in-Ok c =
    let all : list_all is_word_byte c.as_bytes-bytes.result.now ≡ true = sym c.are_of_words.ensures ∙ c.if-not-are_of_words.false in
    c.are_one_name.ensures ∙ ap is_one_name c.as_slice.ensures ∙ tokens_say c.as_bytes-bytes.result.now c.in-Ok.tokens all c.in-Ok.ensures.found c.in-Ok.ensures.only ∙ ap is_name_word c.as_bytes-bytes.ensures.value

pub returns-in-Err-Bad : goal.returns-in-Err-Bad
returns-in-Err-Bad c =
    let all : list_all is_word_byte c.as_bytes-bytes.result.now ≡ true = sym c.are_of_words.ensures ∙ c.if-not-are_of_words.false in
    let refused = rw c.in-Err-Bad.field-0-is at c.in-Err-Bad.ensures.refused in
    no_tokens_say c.as_bytes-bytes.result.now all refused.no_tokens ∙ ap is_name_word c.as_bytes-bytes.ensures.value
