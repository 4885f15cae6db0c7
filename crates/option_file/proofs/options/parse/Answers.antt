use Rattle.std.proofs.Common.{◌≡◌, Some, arith}
use Rattle.toml.specs.Parse.{parse_document}
use Rattle.toml.specs.View.{table_view}
use Rattle.option_file.proofs.Tables.{document-read, document-no_text}
use Rattle.option_file.proofs.options.parse.Goals as goal

pub returns-in-Err-clause-exact : goal.returns-in-Err-clause-exact
returns-in-Err-clause-exact c =
    λ _. document-no_text c.args.bytes.now (omega arith) c.in-Err.ensures.cases.0

pub returns-in-Ok-table_from_str-clause-exact : goal.returns-in-Ok-table_from_str-clause-exact
returns-in-Ok-table_from_str-clause-exact c =
    let read : parse_document c.args.bytes.now ≡ Some (table_view c.in-Ok-table_from_str.table) =
    rw (← c.in-Ok.ensures.cases.0) c.in-Ok-table_from_str.ensures.ok in
    document-read c.args.bytes.now _ (omega arith) c.in-Ok.ensures.cases.1 read
