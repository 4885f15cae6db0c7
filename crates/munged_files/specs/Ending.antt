-- How a run of the program ends: the status of the process, and the line on standard error.
use Rattle.std.specs.Prelude.{◌≡◌, ℕ, codes, List, [], ◌++◌, Option}
use Rattle.std.specs.Fmt.{decimal}
use Rattle.std.specs.Io.KnownBytes.{Appends}
use Rattle.byte_io.specs.Counts.{Rose}
use Rattle.option_file.specs.RefusedText.{refused_text}
use Rattle.option_file.specs.declared.refused.OptionRefused.{OptionRefused}
use Rattle.option_file.specs.declared.refused.OptionRefused.TheVariants as refused
use Rattle.munged_files.specs.Status.{success, bad_words, unread_file, bad_size, bad_options, failed_input, failed_output, failed_clock, bad_message, want_of_memory, too_many_requests, failed_socket, failed_ticker, worn_gate}

pub data Ending : Type 0 where
  -- the command was done
  done : Ending
  -- the words are no command
  no_command : Ending
  -- the file of this name could not be read
  unread : (name : List ℕ) → Ending
  -- so many bytes were read of the key file or the seed file of this name, which are too few or too
  -- many
  wrong_size : (name : List ℕ) (size : ℕ) → Ending
  -- the option file is refused
  options : OptionRefused → Ending
  -- this line of the passwd or group file of this name may not stand there
  bad_line : (name : List ℕ) (line : ℕ) → Ending
  -- so many bytes were read of the passwd or group file of this name, which are too many
  too_long : (name : List ℕ) (size : ℕ) → Ending
  -- the input, the output or the clock failed
  input_failed : Ending
  output_failed : Ending
  clock_failed : Ending
  -- at this byte of the input begins what is no request
  malformed : (place : ℕ) → Ending
  -- no memory was left
  no_memory : Ending
  -- all requests were answered that one session may answer, and more came
  budget : Ending
  -- no socket of the option file has control
  no_control : Ending
  -- a dial, a read or a write of a socket failed, or a socket could not be opened, or accepts no
  -- more
  socket_failed : Ending
  -- the answer to a request to stop is another than that the daemon stops
  unanswered : Ending
  -- the ticker that tells when to purge failed
  ticker_failed : Ending
  -- a call read this ticket word, and found the gate worn
  worn : (ticket : ℕ) → Ending

-- the status of the process
abbrev pub status_of : Ending → ℕ
status_of done = success
status_of no_command = bad_words
status_of (unread name) = unread_file
status_of (wrong_size name size) = bad_size
status_of (options why) = bad_options
status_of (bad_line name line) = bad_options
status_of (too_long name size) = bad_options
status_of input_failed = failed_input
status_of output_failed = failed_output
status_of clock_failed = failed_clock
status_of (malformed place) = bad_message
status_of no_memory = want_of_memory
status_of budget = too_many_requests
status_of no_control = bad_options
status_of socket_failed = failed_socket
status_of unanswered = bad_message
status_of ticker_failed = failed_ticker
status_of (worn ticket) = worn_gate

-- the line on standard error, with its end; none where the command was done
abbrev pub line_of : Ending → List ℕ
line_of done = []
line_of no_command = codes "munged: bad words\n"
line_of (unread name) = codes "munged: cannot read " ++ (name ++ codes "\n")
line_of (wrong_size name size) =
    codes "munged: " ++ (name ++ (codes " has " ++ (decimal size ++ codes " bytes\n")))
line_of (options why) = codes "munged: options: " ++ (refused_text why ++ codes "\n")
line_of (bad_line name line) =
    codes "munged: " ++ (name ++ (codes ": bad line " ++ (decimal line ++ codes "\n")))
line_of (too_long name size) =
    codes "munged: " ++ (name ++ (codes ": too long " ++ (decimal size ++ codes "\n")))
line_of input_failed = codes "munged: input failed\n"
line_of output_failed = codes "munged: output failed\n"
line_of clock_failed = codes "munged: clock failed\n"
line_of (malformed place) =
    codes "munged: malformed frame at " ++ (decimal place ++ codes "\n")
line_of no_memory = codes "munged: no memory\n"
line_of budget = codes "munged: 1048576 requests answered\n"
line_of no_control = codes "munged: no control socket\n"
line_of socket_failed = codes "munged: socket failed\n"
line_of unanswered = codes "munged: no answer to stop\n"
line_of ticker_failed = codes "munged: ticker failed\n"
line_of (worn ticket) = codes "munged: gate worn at " ++ (decimal ticket ++ codes "\n")

-- how the program ends where an option file is refused
abbrev pub ending_by : OptionRefused → Ending
ending_by refused.NoMemory = no_memory
ending_by (refused.TooLong size) = options (refused.TooLong size)
ending_by refused.NotToml = options refused.NotToml
ending_by (refused.Unknown name) = options (refused.Unknown name)
ending_by (refused.Missing key) = options (refused.Missing key)
ending_by (refused.Wrong key) = options (refused.Wrong key)
ending_by (refused.Range key number) = options (refused.Range key number)
ending_by (refused.Twice at) = options (refused.Twice at)

-- what contracts see of the error stream: the bytes that it took, where it tells them, and how many
-- writes failed
pub record Errors : Type 0 where
  pub taken : Option (List ℕ)
  pub faults : ℕ

abbrev pub errors_of : (taken : Option (List ℕ)) → (faults : ℕ) → Errors
errors_of taken faults = record { taken = taken; faults = faults }

-- the stream took this and nothing else, unless a write to it failed
abbrev pub Says : (before after : Errors) → (line : List ℕ) → Type 0
Says before after line = ¬ Rose before.faults after.faults → Appends before.taken after.taken line

-- The program came to this, ended with this number as its status, and said so.
pub record Ended (CameTo : Ending → Type 0) (Said : (line : List ℕ) → Type 0) (number : ℕ)
    : Type 0 where
  pub how : Ending
  pub came_to : CameTo how
  pub number_is : number ≡ status_of how
  pub said : Said (line_of how)
