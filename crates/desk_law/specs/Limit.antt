-- Maximum concentrations by weight in a homogeneous material: Article 4(1) of Directive 2011/65/EU with its Annex II.
use Rattle.std.specs.Prelude.{ℕ, ◌*◌, Bool, nat_lt}
use Rattle.desk_law.specs.declared.rule.Rule.{Rule}
use Rattle.desk_law.specs.declared.rule.Rule.TheVariants.{Lead, Mercury, Cadmium, ChromiumVi, Pbb, Pbde, Dehp, Bbp, Dbp, Dibp}

-- the limit of a rule, in parts per million
unfoldable pub limit_of : Rule → ℕ
limit_of Lead = 1000  -- 0.1 %
limit_of Mercury = 1000  -- 0.1 %
limit_of Cadmium = 100  -- 0.01 %
limit_of ChromiumVi = 1000  -- 0.1 %
limit_of Pbb = 1000  -- 0.1 %
limit_of Pbde = 1000  -- 0.1 %
limit_of Dehp = 1000  -- 0.1 %, as the next three by Delegated Directive (EU) 2015/863
limit_of Bbp = 1000  -- 0.1 %
limit_of Dbp = 1000  -- 0.1 %
limit_of Dibp = 1000  -- 0.1 %

-- whether a share of a mass is over a limit in ppm. The share is in millionths of the unit of the mass, so the
-- concentration share / mass is compared with the limit as it stands, and nothing is rounded
unfoldable pub is_over : ℕ → ℕ → ℕ → Bool
is_over share mass ppm = nat_lt (ppm * mass) share
