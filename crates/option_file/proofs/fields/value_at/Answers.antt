use Rattle.toml.proofs.Views.{table_get}
use Rattle.option_file.proofs.fields.value_at.Goals as goal

pub returns : goal.returns
returns c =
    rw c.spelling.ensures at (table_get c.get.result c.spelling.result.now c.args.table.now.entries c.get.ensures.value)
