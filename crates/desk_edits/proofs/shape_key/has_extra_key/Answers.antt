-- The members of an object are those of its map.
use Rattle.std.proofs.Common.{◌∙◌, ap, false, option_map}
use Rattle.std.specs.Prelude.{unwrap_or}
use Rattle.desk_edits.specs.Shape.{has_extra_key, has_unknown}
use Rattle.desk_edits.proofs.Members.{has_unknown_entries}
use Rattle.desk_edits.proofs.shape_key.has_extra_key.Goals as goal

pub returns-in-Some : goal.returns-in-Some
unfolding has_extra_key
returns-in-Some c =
    c.has_unknown.ensures
    ∙ has_unknown_entries c.args.keys.now c.in-Some.members.now.entries
    ∙ ap (λ o. unwrap_or (option_map (has_unknown c.args.keys.now) o) false) c.in-Some.ensures
