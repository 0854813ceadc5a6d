-- The examples hold by computation.
use Rattle.std.proofs.Common.{refl, Bool, true}
use Rattle.std.specs.Fmt.{digits}
use Rattle.desk_text.specs.Cas.{cas_of}
use Rattle.desk_text.specs.Code.{code_of, exemption_number_of}
use Rattle.desk_text.specs.Day.{date_text, six_months_after}
use Rattle.desk_law.specs.Annex.{annex_kinds, annex_number}
use Rattle.desk_law.specs.Exemption.{covers, is_valid_on}
use Rattle.desk_law.specs.InForce.{first_day}
use Rattle.desk_law.specs.Kind.{kind_code, kind_place}
use Rattle.desk_law.specs.KindSet.{has_kind, kinds_text}
use Rattle.desk_law.specs.Limit.{is_over, limit_of}
use Rattle.desk_law.specs.Rule.{rule_code, rule_number}
use Rattle.desk_law.specs.Restriction.{restriction_of}
use Rattle.desk_law.specs.Verdict.{verdict, verdict_by}
use Rattle.desk_model.specs.EditText.{edit_text, ticket_code}
use Rattle.desk_model.specs.Effect.{with_edit_entered, with_edit_made}
use Rattle.desk_model.specs.Forms.{is_declaration_in_form, is_edit_in_form, is_exemption_row, is_material_row}
use Rattle.desk_model.specs.Start.{start}
use Rattle.desk_findings.specs.Above.{content, is_above}
use Rattle.desk_findings.specs.Chain.{chain_within}
use Rattle.desk_findings.specs.Duties.{duties}
use Rattle.desk_findings.specs.Findings.{finding_count, findings}
use Rattle.desk_findings.specs.Reaches.{reaches_within}
use Rattle.desk_findings.specs.Rolled.{rolled_within}
use Rattle.desk_findings.specs.Share.{share}
use Rattle.desk_findings.specs.Tonnage.{due_day, notices, tonnage}
use Rattle.desk_findings.specs.Totals.{has_too_many_findings, too_heavy_part, too_heavy_year}
use Rattle.desk_findings.specs.Verdicts.{verdict_on}
use Rattle.desk_findings.specs.Examples.Articles.{CandidateExamples, DutyExamples, NoticeExamples}
use Rattle.desk_findings.specs.Examples.Chains.{ChainExamples}
use Rattle.desk_findings.specs.Examples.Gateway.{GatewayExamples}
use Rattle.desk_findings.specs.Examples.Shares.{ShareExamples}

-- what the examples compute with
unfoldable pub examples : Bool
unfolding annex_kinds annex_number cas_of chain_within code_of content covers date_text digits due_day duties edit_text with_edit_entered exemption_number_of finding_count findings first_day has_kind has_too_many_findings is_above is_declaration_in_form is_edit_in_form is_exemption_row is_material_row is_over is_valid_on kind_code kind_place kinds_text limit_of with_edit_made notices reaches_within restriction_of rolled_within rule_code rule_number share six_months_after start ticket_code tonnage too_heavy_part too_heavy_year verdict verdict_by verdict_on
examples = true

pub duty_examples : DutyExamples
unfolding examples
duty_examples = record {
  content_of_article = refl;
  article_mass = refl;
  not_above = refl;
  no_duty = refl;
  lighter_article = refl;
  a_duty = refl;
  duty_chain = refl;
  day_before = refl;
  day_of_inclusion = refl;
  own_duty = refl;
  nothing_carried = refl;
  one_carried = refl;
}

pub notice_examples : NoticeExamples
unfolding examples
notice_examples = record {
  one_tonne = refl;
  no_notice = refl;
  over_one_tonne = refl;
  a_notice = refl;
  day_before = refl;
  day_of_inclusion = refl;
  other_year = refl;
  units_add_up = refl;
  all_taken_off = refl;
  first_due_day = refl;
  last_first_due_day = refl;
  next_due_day = refl;
  later_due_day = refl;
  end_of_february = refl;
  past_last_day = refl;
}

pub candidate_examples : CandidateExamples
unfolding examples
candidate_examples = record {
  content_of_two = refl;
  no_content = refl;
  no_candidate = refl;
  none_carried = refl;
  candidate = refl;
  assembly_not_above = refl;
  thousandth = refl;
  three_cables = refl;
  article_findings = refl;
  articles = refl;
  own_article = refl;
  crossed_duties = refl;
  crossed_findings = refl;
  crossed_notices = refl;
}

pub chain_examples : ChainExamples
unfolding examples
chain_examples = record {
  both_ways_count = refl;
  article_mass = refl;
  material_mass = refl;
  reaches_down = refl;
  reaches_not_up = refl;
  reaches_not_itself = refl;
  least_child = refl;
  chain_to_itself = refl;
  one_finding = refl;
  four_findings = refl;
  other_way = refl;
  less_mass = refl;
}

pub gateway_examples : GatewayExamples
unfolding examples
gateway_examples = record {
  whole_mass = refl;
  cable_mass = refl;
  four_findings = refl;
  brass_exempt = refl;
  last_day = refl;
  day_after = refl;
  pvc_breach = refl;
  pvc_before = refl;
  brass_within = refl;
  breach_chain = refl;
  two_duties = refl;
  cable_content = refl;
  pin_chain = refl;
  carried_lead = refl;
  carried_dehp = refl;
  lead_tonnage = refl;
  one_notice = refl;
}

pub share_examples : ShareExamples
unfolding examples
share_examples = record {
  oxide_over = refl;
  oxide_over_limit = refl;
  oxide_within = refl;
  oxide_within_limit = refl;
  no_member_no_share = refl;
  at_limit = refl;
  over_limit = refl;
  cadmium_at_limit = refl;
  cadmium_over_limit = refl;
  cleared = refl;
  cleared_share = refl;
}
