-- The limits of an option file.
use Rattle.std.specs.Prelude.{ℕ, ◌≤◌, List, length, IsUtf8}

-- the most bytes of an option file
abbrev pub file_limit : ℕ
file_limit = 65536

-- the file is short enough and it is UTF-8, so that memory is needed to tell more of it
abbrev pub IsText : List ℕ → Type 0
IsText bytes = (length bytes ≤ file_limit) × IsUtf8 bytes

-- the seconds between purges, the workers, the connections that may wait and the sockets are as
-- many as may be
pub record IsWithinLimits (interval workers queue sockets : ℕ) : Type 0 where
  pub some_interval : 1 ≤ interval
  pub interval_within : interval ≤ 60
  pub some_workers : 1 ≤ workers
  pub workers_within : workers ≤ 64
  pub some_queue : 1 ≤ queue
  pub queue_within : queue ≤ 1024
  pub some_sockets : 1 ≤ sockets
  pub sockets_within : sockets ≤ 64
