-- How the keys of an option file are written.
use Rattle.std.specs.Prelude.{ℕ, List, ◌++◌, codes}
use Rattle.option_file.specs.declared.key.Key.{Key}
use Rattle.option_file.specs.declared.key.Key.TheVariants as key

-- a key as it stands in its table
abbrev pub spelling_of : Key → List ℕ
spelling_of key.KeyFile = codes "key"
spelling_of key.Seed = codes "seed"
spelling_of key.Passwd = codes "passwd"
spelling_of key.Group = codes "group"
spelling_of key.MaxTtl = codes "max_ttl"
spelling_of key.DefaultTtl = codes "default_ttl"
spelling_of key.Skew = codes "skew"
spelling_of key.PurgeInterval = codes "purge_interval"
spelling_of key.Address = codes "address"
spelling_of key.Workers = codes "workers"
spelling_of key.Queue = codes "queue"
spelling_of key.Socket = codes "socket"
spelling_of key.SocketPath = codes "path"
spelling_of key.SocketUid = codes "uid"
spelling_of key.SocketGid = codes "gid"
spelling_of key.SocketControl = codes "control"

-- a key as it is told to a reader: a socket's key stands behind the name of its table
abbrev pub name_of : Key → List ℕ
name_of key.SocketPath = codes "socket." ++ spelling_of key.SocketPath
name_of key.SocketUid = codes "socket." ++ spelling_of key.SocketUid
name_of key.SocketGid = codes "socket." ++ spelling_of key.SocketGid
name_of key.SocketControl = codes "socket." ++ spelling_of key.SocketControl
name_of other = spelling_of other
