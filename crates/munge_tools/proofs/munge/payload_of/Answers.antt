use Rattle.std.proofs.Common.{◌≡◌, ℕ, List, refl, ap}
use Rattle.std.proofs.lemmas.Result.{IfErr-weaker}
use Rattle.munge_tools.specs.Munge.{NoPayload, TextRefused, long_text, no_input, uncopied}
use Rattle.munge_tools.specs.MungeAskedTold.{payload_told}
use Rattle.munge_tools.specs.MungeWords.{Payload}
use Rattle.munge_tools.specs.MungeWords as payload
use Rattle.munge_tools.specs.ReplyRead.{Input}
use Rattle.munge_tools.specs.declared.ending.Ending.{Ending}
use Rattle.munge_tools.specs.declared.ending.Ending.TheVariants.{Done, Refused, TooLong, BadWords, Unreached, BadReply, InputFailed, OutputFailed, NoMemory}
use Rattle.munge_tools.proofs.munge.payload_of.Goals as goal

text_refused : (given : List ℕ) (asked : Payload) (same : Type 0) (before after : Input) (how : Ending) → asked ≡ payload.text given → same
    → TextRefused given how → NoPayload asked same before after how
text_refused given asked same before after TooLong is stays refused = long_text given is refused stays refl
text_refused given asked same before after NoMemory is stays refused = uncopied stays refl
text_refused given asked same before after (Done status) is stays refused = absurd refused
text_refused given asked same before after (Refused status) is stays refused = absurd refused
text_refused given asked same before after BadWords is stays refused = absurd refused
text_refused given asked same before after Unreached is stays refused = absurd refused
text_refused given asked same before after BadReply is stays refused = absurd refused
text_refused given asked same before after InputFailed is stays refused = absurd refused
text_refused given asked same before after OutputFailed is stays refused = absurd refused

pub returns-in-Text-clause-none : goal.returns-in-Text-clause-none
returns-in-Text-clause-none g c =
    IfErr-weaker c.payload_of_text.result _ _
    (λ how refused. text_refused c.in-Text.text.now (payload_told c.args.asked) _ _ _ how (ap payload_told c.in-Text.is) refl refused)
    c.payload_of_text.ensures.refused

pub returns-in-Err-clause-none : goal.returns-in-Err-clause-none
returns-in-Err-clause-none g c = no_input (ap payload_told c.in-Input.is) c.in-Err.ensures.none
