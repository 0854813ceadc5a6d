-- The lists that are published, whomever to.
use Rattle.desk_publish.specs.Lists.{PressLists}
use Rattle.desk_publish.specs.declared.audience.Audience.{Audience}
use Rattle.desk_publish.specs.declared.audience.Audience.TheVariants.{Seats, Nobody}

-- the lists of a press, or those that nobody reads
abbrev pub lists_at : {E : Type 0} → Audience (PressLists E) (PressLists E) → PressLists E
lists_at (Seats lists) = lists
lists_at (Nobody lists) = lists
