-- The numbers of statuses.
use Rattle.std.specs.Prelude.{ℕ}
use Rattle.munge_types.specs.declared.status.Status.{Status}
use Rattle.munge_types.specs.declared.status.Status.TheVariants as status

-- the number of a status in a reply, which is MUNGE's
abbrev pub status_number : Status → ℕ
status_number status.Success = 0
status_number status.Internal = 1
status_number status.BadArgument = 2
status_number status.BadLength = 3
status_number status.Overflow = 4
status_number status.Memory = 5
status_number status.Socket = 6
status_number status.Timeout = 7
status_number status.BadCredential = 8
status_number status.BadVersion = 9
status_number status.BadCipher = 10
status_number status.BadMac = 11
status_number status.BadCompression = 12
status_number status.BadRealm = 13
status_number status.Invalid = 14
status_number status.Expired = 15
status_number status.Rewound = 16
status_number status.Replayed = 17
status_number status.Unauthorized = 18
