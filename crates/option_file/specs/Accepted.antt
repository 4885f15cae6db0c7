-- What holds of every option file that is accepted.
use Rattle.std.specs.Prelude.{◌≢◌, ◌≤◌, length}
use Rattle.std.specs.List.{All, AllPairs}
use Rattle.option_file.specs.Configuration.{Configuration}
use Rattle.option_file.specs.Limits.{IsWithinLimits}
use Rattle.option_file.specs.declared.sockets.SocketLine.{SocketLine}

-- the callers on the socket have a UID and a GID that a caller may have
abbrev pub HasCallers : SocketLine → Type 0
HasCallers line = (line.who.uid ≤ 4294967294) × (line.who.gid ≤ 4294967294)

-- the two sockets have two paths
abbrev pub AreApart : SocketLine → SocketLine → Type 0
AreApart line other = line.path ≢ other.path

-- times, numbers and sockets are as the daemon may have them
pub record IsSound (said : Configuration) : Type 0 where
  pub some_default : 1 ≤ said.default_ttl
  pub default_within : said.default_ttl ≤ said.max_ttl
  pub max_within : said.max_ttl ≤ 3600
  pub skew_within : said.skew ≤ 300
  pub limits : IsWithinLimits said.interval said.workers said.queue (length said.sockets)
  pub callers : All HasCallers said.sockets
  pub apart : AllPairs AreApart said.sockets
