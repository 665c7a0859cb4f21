use Rattle.std.proofs.Common.{◌≡◌, ◌++◌, drop, map}
use Rattle.std.specs.List.{list_all}
use Rattle.fab_asked.specs.Names.{is_name_word}
use Rattle.fab_asked.proofs.asked.names_in.Given as goal

abbrev pub invariant-loop-word : goal.invariant-loop-word
invariant-loop-word l = record {
  all : list_all is_name_word (map (λ v. v.now) (drop l.word-index l.words)) ≡ list_all is_name_word (map (λ v. v.now) l.words);
  names : l.names ++ map (λ v. v.now) (drop l.word-index l.words) ≡ map (λ v. v.now) l.words;
}
