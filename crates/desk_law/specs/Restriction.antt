-- What the law asks of equipment of a kind by a rule: Article 4 of Directive 2011/65/EU with its Annex II.
use Rattle.desk_law.specs.declared.kind.Kind.{Kind}
use Rattle.desk_law.specs.declared.restriction.Restriction.{Restriction}
use Rattle.desk_law.specs.declared.rule.Rule.{Rule}
use Rattle.desk_law.specs.InForce.{first_day}
use Rattle.desk_law.specs.Limit.{limit_of}

-- the restriction that the law has for a rule and a kind: the rule's limit, and the rule's first day for the kind
unfoldable pub restriction_of : Rule → Kind → Restriction
restriction_of rule kind = record { rule = rule; kind = kind; ppm = limit_of rule; first = first_day rule kind }
