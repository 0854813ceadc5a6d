use Rattle.std.proofs.Common.{◌≡◌, drop, true}
use Rattle.std.specs.List.{list_all}
use Rattle.desk_model.specs.Values.{is_code, is_exemption_number}
use Rattle.desk_tables.proofs.content.is_content_in_form.Given as goal

abbrev pub invariant-loop-held : goal.invariant-loop-held
invariant-loop-held l = list_all (λ one. is_code one.substance) l.row.substances ≡ list_all (λ one. is_code one.substance) (drop l.held-index l.row.substances)

abbrev pub invariant-loop-claim : goal.invariant-loop-claim
invariant-loop-claim l = (list_all (λ one. is_code one.substance) l.row.substances ≡ true) × (list_all (λ claim. is_exemption_number claim.number) l.row.claims ≡ list_all (λ claim. is_exemption_number claim.number) (drop l.claim-index l.row.claims))
