-- The decode rules 13 and 14, which look at the history: its verdict on the pair stands for them.
use Rattle.std.specs.Prelude.{ℕ}
use Rattle.munge_types.specs.declared.history.Verdict.{Verdict}
use Rattle.munge_types.specs.declared.history.Verdict.TheVariants.{Accepted, Expired, Replayed}
use Rattle.munge_types.specs.declared.status.Status.{Status}
use Rattle.munge_types.specs.declared.status.Status.TheVariants as status

-- 13 is broken where the pair expired, 14 where it was accepted before, and none else
abbrev pub verdict_rule : Verdict → ℕ
verdict_rule Accepted = 0
verdict_rule Expired = 13
verdict_rule Replayed = 14

-- the status of a verdict
abbrev pub verdict_status : Verdict → Status
verdict_status Accepted = status.Success
verdict_status Expired = status.Expired
verdict_status Replayed = status.Replayed
