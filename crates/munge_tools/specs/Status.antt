-- The statuses of the process that a tool finds itself. The others are those of replies.
use Rattle.std.specs.Prelude.{ℕ}

-- what was to be sent is too long
abbrev pub too_long : ℕ
too_long = 3

-- the words are refused
abbrev pub bad_words : ℕ
bad_words = 100

-- a dial, a read or a write of the connection failed
abbrev pub unreached : ℕ
unreached = 101

-- what came is no reply that fits
abbrev pub bad_reply : ℕ
bad_reply = 102

-- a read of the input failed
abbrev pub failed_input : ℕ
failed_input = 103

-- a write to the output failed
abbrev pub failed_output : ℕ
failed_output = 104

-- no memory was left
abbrev pub want_of_memory : ℕ
want_of_memory = 105
