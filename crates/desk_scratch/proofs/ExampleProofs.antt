-- The examples hold by computation.
use Rattle.std.proofs.Common.{refl, Bool, true}
use Rattle.std.specs.Fmt.{digits}
use Rattle.desk_text.specs.Cas.{cas_of}
use Rattle.desk_text.specs.Code.{code_of, exemption_number_of}
use Rattle.desk_text.specs.Day.{date_text, six_months_after}
use Rattle.desk_law.specs.Annex.{annex_kinds, annex_number}
use Rattle.desk_law.specs.Exemption.{covers, is_valid_on}
use Rattle.desk_law.specs.InForce.{first_day}
use Rattle.desk_law.specs.Kind.{kind_code, kind_place}
use Rattle.desk_law.specs.KindSet.{has_kind, kinds_text}
use Rattle.desk_law.specs.Limit.{is_over, limit_of}
use Rattle.desk_law.specs.Rule.{rule_code, rule_number}
use Rattle.desk_law.specs.Restriction.{restriction_of}
use Rattle.desk_law.specs.Verdict.{verdict, verdict_by}
use Rattle.desk_model.specs.EditText.{edit_text, ticket_code}
use Rattle.desk_model.specs.Effect.{with_edit_entered, with_edit_made}
use Rattle.desk_model.specs.Start.{start}
use Rattle.desk_findings.specs.Above.{content, is_above}
use Rattle.desk_findings.specs.Chain.{chain_within}
use Rattle.desk_findings.specs.Duties.{duties}
use Rattle.desk_findings.specs.Reaches.{reaches_within}
use Rattle.desk_findings.specs.Rolled.{rolled_within}
use Rattle.desk_findings.specs.Share.{share}
use Rattle.desk_findings.specs.Tonnage.{due_day, notices, tonnage}
use Rattle.desk_findings.specs.Verdicts.{verdict_on}
use Rattle.desk_scratch.specs.Eval.{eval}
use Rattle.desk_scratch.specs.Material.{material_text}
use Rattle.desk_scratch.specs.MaterialBlock.{material_block, material_line_with, rule_line, verdict_words}
use Rattle.desk_scratch.specs.Part.{carried_line, child_line, kind_line, part_line, part_text}
use Rattle.desk_scratch.specs.Reach33.{asked_part_line, duty_count_line, duty_line, duty_lines, reach33_text}
use Rattle.desk_scratch.specs.Reach7.{asked_year_line, notice_count_line, notice_line, reach7_text}
use Rattle.desk_scratch.specs.Rohs.{asked_product_line, over_line, over_lines, rohs_text}
use Rattle.desk_scratch.specs.SharedLines.{chain_line, name_line, version_line}
use Rattle.desk_scratch.specs.Summary.{asked_day_line, count_line, count_lines, standing_line, summary_text}
use Rattle.desk_scratch.specs.Uses.{asked_code_line, product_line, user_line, uses_text}
use Rattle.desk_scratch.specs.Examples.Chains.{ChainAnswers}
use Rattle.desk_scratch.specs.Examples.Duties.{DutyAnswers}
use Rattle.desk_scratch.specs.Examples.Gateway.{GatewayAnswers}
use Rattle.desk_scratch.specs.Examples.Notices.{NoticeAnswers}
use Rattle.desk_scratch.specs.Examples.Sums.{SumAnswers}

-- what the examples compute with
unfoldable pub examples : Bool
unfolding annex_kinds annex_number asked_code_line asked_day_line asked_part_line asked_product_line asked_year_line carried_line cas_of chain_line chain_within child_line code_of content count_line count_lines covers date_text digits due_day duties duty_count_line duty_line duty_lines edit_text with_edit_entered eval exemption_number_of first_day has_kind is_above is_over is_valid_on kind_code kind_line kind_place kinds_text limit_of with_edit_made material_block material_line_with material_text name_line notice_count_line notice_line notices over_line over_lines part_line part_text product_line reach33_text reach7_text reaches_within restriction_of rohs_text rolled_within rule_code rule_line rule_number share six_months_after standing_line start summary_text ticket_code tonnage user_line uses_text verdict verdict_by verdict_on verdict_words version_line
examples = true

pub chain_answers : ChainAnswers
unfolding examples
chain_answers = record { both_ways = refl; one_way = refl; users = refl }

pub duty_answers : DutyAnswers
unfolding examples
duty_answers = record { no_duty = refl; a_duty = refl; day_before = refl; own_duty = refl }

pub notice_answers : NoticeAnswers
unfolding examples
notice_answers = record { one_tonne = refl; one_more = refl; never_due = refl; article = refl }

pub gateway_answers : GatewayAnswers
unfolding examples
gateway_answers = record {
  rohs = refl;
  rohs_before = refl;
  reach33 = refl;
  reach7 = refl;
  cable = refl;
  product = refl;
  uses = refl;
  own_use = refl;
  summary = refl;
  version = refl;
  brass = refl;
  brass_later = refl;
  no_material = refl;
  no_part = refl;
  no_duties = refl;
  no_uses = refl;
  no_code = refl;
  no_product = refl;
}

pub sum_answers : SumAnswers
unfolding examples
sum_answers = record { summary = refl; heaviest = refl }
