-- What a file says that is not refused.
use Rattle.std.proofs.Common.{◌≡◌, ℕ, ◌≤◌, min, List, [], ◌∷◌, map, None, arith}
use Rattle.std.proofs.lemmas.List.{length-map}
use Rattle.toml.specs.Data.{Members}
use Rattle.option_file.specs.Accepted.{IsSound}
use Rattle.option_file.specs.Configuration.{configuration_in, configuration_of}
use Rattle.option_file.specs.Refusals.{document_refusal, first_refusal, table_in, table_refusal, table_rules}
use Rattle.option_file.specs.Rules.{first_of, max_ttl_of, time_rules, crew_rules}
use Rattle.option_file.specs.Sockets.{line_of, sockets_rules}
use Rattle.option_file.specs.Values.{at_key, list_or_none}
use Rattle.option_file.specs.declared.key.Key.TheVariants as key
use Rattle.option_file.proofs.RuleLemmas.{all-none, whole-within}
use Rattle.option_file.proofs.SocketLemmas.{apart-all, callers-all, list-within}

-- the times of a table of which no time is refused
record Times (members : Members) : Type 0 where
  max_ttl : (1 ≤ max_ttl_of members) × (max_ttl_of members ≤ 3600)
  default_ttl : (1 ≤ (configuration_in members).default_ttl) × ((configuration_in members).default_ttl ≤ max_ttl_of members)
  skew : (configuration_in members).skew ≤ 300
  interval : (1 ≤ (configuration_in members).interval) × ((configuration_in members).interval ≤ 60)

times-none : (members : Members) → first_of (time_rules members) ≡ None → Times members
times-none members none =
    let rules = all-none (time_rules members) none in
    let max_ttl = whole-within 1 3600 3600 key.MaxTtl (at_key key.MaxTtl members) (omega arith) (omega arith) rules.0 in
    record {
      max_ttl = max_ttl;
      default_ttl = whole-within 1 (max_ttl_of members) (min 300 (max_ttl_of members)) key.DefaultTtl (at_key key.DefaultTtl members) (omega (arith, max_ttl.0)) (omega arith) rules.1.0;
      skew = (whole-within 0 300 300 key.Skew (at_key key.Skew members) (omega arith) (omega arith) rules.1.1.0).1;
      interval = whole-within 1 60 60 key.PurgeInterval (at_key key.PurgeInterval members) (omega arith) (omega arith) rules.1.1.1.0;
    }

table-sound : (members : Members) → table_refusal members ≡ None → IsSound (configuration_in members)
table-sound members none =
    let rules = all-none (table_rules members) none in
    let crew_kept = all-none (crew_rules members) rules.1.1.1.1.0 in
    let sockets_kept = all-none (sockets_rules (at_key key.Socket members)) rules.1.1.1.1.1.0 in
    let times = times-none members rules.1.1.0 in
    let workers = whole-within 1 64 4 key.Workers (at_key key.Workers members) (omega arith) (omega arith) crew_kept.0 in
    let queue = whole-within 1 1024 64 key.Queue (at_key key.Queue members) (omega arith) (omega arith) crew_kept.1.0 in
    let sockets = list-within (at_key key.Socket members) sockets_kept.0 in
    let many = length-map (list_or_none (at_key key.Socket members)) line_of in
    record {
      some_default = times.default_ttl.0;
      default_within = times.default_ttl.1;
      max_within = times.max_ttl.1;
      skew_within = times.skew;
      limits = record {
        some_interval = times.interval.0;
        interval_within = times.interval.1;
        some_workers = workers.0;
        workers_within = workers.1;
        some_queue = queue.0;
        queue_within = queue.1;
        some_sockets = omega (arith, many, sockets.0);
        sockets_within = omega (arith, many, sockets.1);
      };
      callers = callers-all (list_or_none (at_key key.Socket members)) sockets_kept.1.0;
      apart = apart-all (map line_of (list_or_none (at_key key.Socket members))) sockets_kept.1.1.0;
    }

pub file-sound : (bytes : List ℕ) → first_refusal bytes ≡ None → IsSound (configuration_of bytes)
file-sound bytes none =
    let rules = all-none (document_refusal bytes ∷ table_refusal (table_in bytes) ∷ []) none in
    table-sound (table_in bytes) rules.1.0
