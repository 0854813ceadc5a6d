use Rattle.std.proofs.Common.{◌∙◌, ap, sym, option_copied}
use Rattle.desk_tables.proofs.KeptForms.{kept_content}
use Rattle.desk_tables.proofs.tables.Tables.share.Goals as goal

pub share_in-requires : goal.share_in-requires
share_in-requires c = kept_content c.args.self.now.lists c.requires c.args.material.now c.in-Some.row.now (sym c.material.ensures ∙ ap option_copied c.in-Some.is)
