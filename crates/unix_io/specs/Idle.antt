-- What an object of a hall has last seen of the stop flag and of the open doors.
use Rattle.std.specs.Prelude.{◌≡◌, true, ◌⊎◌}
use Rattle.unix_io.specs.declared.state.Seen.{Seen}

-- the stop flag was up
abbrev pub Stopped : Seen → Type 0
Stopped seen = seen.stopped ≡ true

-- the stop flag was up, or no door was open
abbrev pub Idle : Seen → Type 0
Idle seen = (seen.stopped ≡ true) ⊎ (seen.open_doors ≡ 0)
