-- The statuses of the process.
use Rattle.std.specs.Prelude.{ℕ}

-- the command was done
abbrev pub success : ℕ
success = 0

-- the words are no command
abbrev pub bad_words : ℕ
bad_words = 1

-- a file could not be read
abbrev pub unread_file : ℕ
unread_file = 2

-- the key file or the seed file has a wrong size
abbrev pub bad_size : ℕ
bad_size = 3

-- the option file or a map is refused
abbrev pub bad_options : ℕ
bad_options = 4

-- a read of the input failed
abbrev pub failed_input : ℕ
failed_input = 5

-- a write to the output failed
abbrev pub failed_output : ℕ
failed_output = 6

-- the clock gave no reading
abbrev pub failed_clock : ℕ
failed_clock = 7

-- what came is no request, or not the answer that the daemon stops
abbrev pub bad_message : ℕ
bad_message = 9

-- no memory was left
abbrev pub want_of_memory : ℕ
want_of_memory = 10

-- all requests were answered that one session may answer, and more came
abbrev pub too_many_requests : ℕ
too_many_requests = 11

-- a dial, a read or a write of a socket failed, or a socket could not be opened, or accepts no more
abbrev pub failed_socket : ℕ
failed_socket = 12

-- the ticker that tells when to purge failed
abbrev pub failed_ticker : ℕ
failed_ticker = 13

-- so many look-ups were drawn that the gate takes no more
abbrev pub worn_gate : ℕ
worn_gate = 14
