use Rattle.cbc_mode.proofs.Parts.{none_of_none, whole_of_parts, whole_at_end, length-waiting}
use Rattle.cbc_mode.proofs.laws.parts_make_the_whole.Goals as goal

pub returns : goal.returns
returns c = record {
  none = none_of_none;
  more = λ state key iv plain part chains. whole_of_parts state key iv plain chains part;
  end = λ state key iv plain chains. whole_at_end state key iv plain chains;
  waiting = λ state key iv plain chains. length-waiting state key iv plain chains;
}
