use Rattle.std.proofs.Common.{◌∙◌}
use Rattle.rasta_params.specs.Stored.{texts_of}
use Rattle.rasta_params.proofs.Documents.{are_among-members_view}
use Rattle.rasta_params.proofs.key_values.has_keys_among.Goals as goal

pub returns : goal.returns
returns c = c.are_all_among.ensures ∙ are_among-members_view (texts_of c.args.names.now) c.args.table.now.entries
