use Rattle.std.proofs.Common.{map}
use Rattle.std.specs.String.{string_bytes}
use Rattle.munge_tools.specs.Telling.{told}
use Rattle.munge_tools.proofs.beginning.begin.Goals as goal

pub returns-in-Some-clause-ended : goal.returns-in-Some-clause-ended
returns-in-Some-clause-ended g c =
    let it = c.in-Some.ensures.told in
    record {
      how = it.ended.how;
      came_to = told (map string_bytes c.as_slice.result.now) it.text it.is_asked it.ended.came_to;
      number_is = it.ended.number_is;
      said = it.ended.said;
    }
