-- Which of the sums over whole tables an edit can raise, by its sort.
use Rattle.std.specs.Prelude.{Bool, true, false}
use Rattle.desk_model.specs.declared.edit.Edit.{Edit}
use Rattle.desk_model.specs.declared.edit.Edit.TheVariants.{Member, Declare, Line, Unline, Candidate, Ship, Unship}

-- a line and a declaration can make a part heavier, and no other edit can
abbrev pub may_raise_masses : Edit → Bool
may_raise_masses (Declare declaration) = true
may_raise_masses (Line ticket parent child count) = true
may_raise_masses _ = false

-- findings come with members, declarations, lines and candidates; also where a line is taken out, since an article that loses a heavy
-- material has a greater share of what is left
abbrev pub may_add_findings : Edit → Bool
may_add_findings (Member ticket substance rule factor) = true
may_add_findings (Declare declaration) = true
may_add_findings (Line ticket parent child count) = true
may_add_findings (Unline ticket parent child) = true
may_add_findings (Candidate ticket substance day) = true
may_add_findings _ = false

-- a year's mass rises with what is shipped, and with what a product weighs
abbrev pub may_raise_years : Edit → Bool
may_raise_years (Declare declaration) = true
may_raise_years (Line ticket parent child count) = true
may_raise_years (Ship ticket product year units) = true
may_raise_years _ = false

-- the edit changes what was shipped
abbrev pub changes_shipments : Edit → Bool
changes_shipments (Ship ticket product year units) = true
changes_shipments (Unship ticket product year units) = true
changes_shipments _ = false
