-- What was read is a declaration in form.
use Rattle.desk_fields.specs.Declaring.{declared_by}
use Rattle.desk_fields.proofs.Declared.{declared_codec}
use Rattle.desk_fields.proofs.declaration.read_declaration.Goals as goal

pub declaration_of-requires : goal.declaration_of-requires
declaration_of-requires c = (declared_codec.exact c.args.fields.now c.read_listed.new.fields (declared_by c.in_ok-listed.listed) c.in_ok-listed.ensures.ok).0
