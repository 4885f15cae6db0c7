-- What a `Command` and a `SessionCommand` stand for.
use Rattle.std.specs.Prelude.{option_map}
use Rattle.munged_run.specs.CommandLine.{AskedSession, Command}
use Rattle.munged_run.specs.CommandLine as told
use Rattle.munged_run.specs.declared.command.Command.{Command as CommandHeld}
use Rattle.munged_run.specs.declared.command.Command.TheVariants.{Session, Check}
use Rattle.munged_run.specs.declared.command.SessionCommand.{SessionCommand}

abbrev pub asked_told : SessionCommand → AskedSession
asked_told command =
    record {
      key_file = command.key_file.now;
      uid = command.uid;
      gid = command.gid;
      seed_file = option_map (λ name. name.now) command.seed_file;
    }

abbrev pub command_told : CommandHeld → Command
command_told (Session asked) = told.session (asked_told asked)
command_told (Check config) = told.check config.now
