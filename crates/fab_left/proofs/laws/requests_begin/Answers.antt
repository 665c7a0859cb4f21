use Rattle.fab_left.proofs.Beginning.{plain_begins, erased_begins, plain_none, erased_none, erased_skipped, all_known}
use Rattle.fab_left.proofs.laws.requests_begin.Goals as goal

pub returns : goal.returns
returns c = record {
  plain = plain_begins;
  erased = λ sees shows program tid request fuel given known method is seen. erased_begins program tid request fuel known method is sees shows given seen;
  none = plain_none;
  none_erased = λ sees shows program tid request fuel given known e. erased_none program tid request fuel known sees shows given e;
  skipped = λ sees shows program tid request fuel given known method e k. erased_skipped program tid request fuel known sees shows given method e k;
  stem = all_known;
}
