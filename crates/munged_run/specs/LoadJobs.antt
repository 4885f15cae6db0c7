-- The jobs of a load.
use Rattle.std.specs.Prelude.{◌≡◌, ℕ, ◌*◌, ◌/◌, List, length, slice_get}
use Rattle.std.specs.declared.option.Option.{Option}
use Rattle.std.specs.declared.option.Option.TheVariants.{None, Some}
use Rattle.munge_types.specs.declared.identity.Identity.{Identity}
use Rattle.load_maker.specs.Credentials.{moment}
use Rattle.load_maker.specs.declared.making.Load.{Load}
use Rattle.wire_msg.specs.Spelling.{frame_of}
use Rattle.wire_msg.specs.declared.message.Message.TheVariants.{DecodeRequest}
use Rattle.session_core.specs.Requests.{IsRequest}
use Rattle.worker_pool.specs.Work.{Sight, sight_of}
use Rattle.worker_pool.specs.declared.job.Job.{Job}
use Rattle.munged_run.specs.LoadLink.{LinkState}
use Rattle.munged_run.specs.declared.load.clock.LoadClock.{LoadClock}

-- the bytes are the frame of a decode request with this text
pub record IsRequestOf (text bytes : List ℕ) : Type 0 where
  pub fits : IsRequest (DecodeRequest text)
  pub bytes_are : bytes ≡ frame_of (DecodeRequest text)

-- the job presents this text once, and nothing else
pub record IsJobOf (who : Identity) (text : List ℕ) (job : Job LinkState LoadClock) : Type 0 where
  pub who_is : job.who ≡ who
  pub brings : IsRequestOf text job.conn.left

-- the job that presents a text of a load
pub record PresentsText (load : Load) (text : Option (List ℕ)) (job : Job LinkState LoadClock)
    : Type 0 where
  pub bytes : List ℕ
  pub text_is : text ≡ Some bytes
  pub is_job : IsJobOf load.who bytes job

-- There are two jobs for each credential of a load, and job j presents credential j / 2.
pub record AreJobsOf (load : Load) (jobs : List (Job LinkState LoadClock)) : Type 0 where
  pub count : length jobs ≡ 2 * length load.texts.items
  pub each : (j : ℕ) (job : Job LinkState LoadClock) → slice_get jobs j ≡ Some job
      → PresentsText load (slice_get load.texts.items (j / 2)) job

-- How contracts see these jobs: a connection tells what is left of it and not what it took, a clock
-- has no list of readings and stands at the moment, and neither counts a fault.
abbrev pub load_sight : Sight LinkState LoadClock
load_sight =
    sight_of (λ link. Some link.left) (λ link. link.ends) (λ link. None) (λ link. link.rings)
    (λ link. 0) (λ link. 0) (λ clock. None) (λ clock. moment) (λ clock. clock.given)
    (λ clock. 0)
