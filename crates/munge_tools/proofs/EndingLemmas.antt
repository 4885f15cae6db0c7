-- Which endings have which status.
use Rattle.std.proofs.Common.{◌≡◌, refl, arith}
use Rattle.munge_tools.specs.Ending.{IsOfReply, status_of}
use Rattle.munge_tools.specs.declared.ending.Ending.{Ending}
use Rattle.munge_tools.specs.declared.ending.Ending.TheVariants.{Done, Refused, TooLong, BadWords, Unreached, BadReply, InputFailed, OutputFailed, NoMemory}

pub only_unreached : (how : Ending) → IsOfReply how → status_of how ≡ 101 → how ≡ Unreached
only_unreached (Done status) small is = absurd (omega (arith, small, is))
only_unreached (Refused status) small is = absurd (omega (arith, small, is))
only_unreached TooLong small is = absurd (omega (arith, is))
only_unreached BadWords small is = absurd (omega (arith, is))
only_unreached Unreached small is = refl
only_unreached BadReply small is = absurd (omega (arith, is))
only_unreached InputFailed small is = absurd (omega (arith, is))
only_unreached OutputFailed small is = absurd (omega (arith, is))
only_unreached NoMemory small is = absurd (omega (arith, is))

pub only_input_failed : (how : Ending) → IsOfReply how → status_of how ≡ 103 → how ≡ InputFailed
only_input_failed (Done status) small is = absurd (omega (arith, small, is))
only_input_failed (Refused status) small is = absurd (omega (arith, small, is))
only_input_failed TooLong small is = absurd (omega (arith, is))
only_input_failed BadWords small is = absurd (omega (arith, is))
only_input_failed Unreached small is = absurd (omega (arith, is))
only_input_failed BadReply small is = absurd (omega (arith, is))
only_input_failed InputFailed small is = refl
only_input_failed OutputFailed small is = absurd (omega (arith, is))
only_input_failed NoMemory small is = absurd (omega (arith, is))

pub only_output_failed : (how : Ending) → IsOfReply how → status_of how ≡ 104 → how ≡ OutputFailed
only_output_failed (Done status) small is = absurd (omega (arith, small, is))
only_output_failed (Refused status) small is = absurd (omega (arith, small, is))
only_output_failed TooLong small is = absurd (omega (arith, is))
only_output_failed BadWords small is = absurd (omega (arith, is))
only_output_failed Unreached small is = absurd (omega (arith, is))
only_output_failed BadReply small is = absurd (omega (arith, is))
only_output_failed InputFailed small is = absurd (omega (arith, is))
only_output_failed OutputFailed small is = refl
only_output_failed NoMemory small is = absurd (omega (arith, is))
