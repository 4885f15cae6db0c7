-- What a table says at the keys that go together. Private to this crate.
use Rattle.std.specs.Prelude.{[], codes, min}
use Rattle.toml.specs.Data.{Members}
use Rattle.option_file.specs.Rules.{max_ttl_of}
use Rattle.option_file.specs.Values.{at_key, text_if, text_or, whole_or}
use Rattle.option_file.specs.declared.key.Key.TheVariants as key
use Rattle.option_file.specs.declared.parts.FileNames.{FileNames}
use Rattle.option_file.specs.declared.parts.Times.{Times}
use Rattle.option_file.specs.declared.parts.Crew.{Crew}

abbrev pub names_in : Members → FileNames
names_in members = record {
  key = text_or [] (at_key key.KeyFile members);
  seed = text_or (codes "/dev/urandom") (at_key key.Seed members);
  passwd = text_if (at_key key.Passwd members);
  group = text_if (at_key key.Group members);
}

abbrev pub times_in : Members → Times
times_in members = record {
  max_ttl = max_ttl_of members;
  default_ttl = whole_or (min 300 (max_ttl_of members)) (at_key key.DefaultTtl members);
  skew = whole_or 300 (at_key key.Skew members);
  interval = whole_or 60 (at_key key.PurgeInterval members);
}

abbrev pub crew_in : Members → Crew
crew_in members = record {
  workers = whole_or 4 (at_key key.Workers members);
  queue = whole_or 64 (at_key key.Queue members);
}
